-- What each variant of an item stands for.
use Rattle.std.proofs.Common.{◌≡◌, ℕ, rules, Vec, Global}
use Rattle.std.specs.Borrow.{Bor}
use Rattle.flat_code.specs.declared.code.FlatStep.{FlatStep}
use Rattle.flat_code.specs.declared.recognize.FlatSequence.{FlatSequence}
use Rattle.flat_code.specs.CodeViews.{step_of}
use Rattle.flat_code.specs.SequenceViews.{sequence_of}
use Rattle.flat_discipline.specs.Items.{Item}
use Rattle.flat_verify.specs.declared.items.FlatItem.{FlatItem, the_lemmas}
use Rattle.flat_verify.specs.declared.items.FlatItem.TheVariants as v
use Rattle.flat_verify.specs.ItemViews.{as_item, as_items}

pub view-Plain : (step : Bor FlatStep) → as_item (v.Plain step) ≡ Item.Plain (step_of step.now)
view-Plain step = search (rules, the_lemmas)

pub view-Checks : (sequence : FlatSequence) → as_item (v.Checks sequence) ≡ Item.Checks (sequence_of sequence)
view-Checks sequence = search (rules, the_lemmas)

pub view-If : (cond : ℕ) (a b : Vec FlatItem Global) → as_item (v.If cond a b) ≡ Item.If cond (as_items a.items) (as_items b.items)
view-If cond a b = search (rules, the_lemmas)

pub view-Block : (body : Vec FlatItem Global) → as_item (v.Block body) ≡ Item.Block (as_items body.items)
view-Block body = search (rules, the_lemmas)

pub view-Loop : (body : Vec FlatItem Global) → as_item (v.Loop body) ≡ Item.Loop (as_items body.items)
view-Loop body = search (rules, the_lemmas)

pub view-Inner : (body : Vec FlatItem Global) → as_item (v.Inner body) ≡ Item.Inner (as_items body.items)
view-Inner body = search (rules, the_lemmas)

pub ruleset item_views = (view-Plain, view-Checks, view-If, view-Block, view-Loop, view-Inner)
