-- What each variant of a step stands for.
use Rattle.std.proofs.Common.{◌≡◌, ℕ, rules, Vec, Global}
use Rattle.bb_words.specs.declared.kinds.ReportKind.{ReportKind}
use Rattle.bb_words.specs.declared.steps.ArithOp.{ArithOp}
use Rattle.bb_words.specs.declared.steps.Width.{Width}
use Rattle.bb_words.specs.declared.word.Word.{Word}
use Rattle.flat_code.specs.declared.code.FlatStep.{FlatStep, the_lemmas}
use Rattle.flat_code.specs.declared.code.FlatStep.TheVariants as v
use Rattle.flat_code.specs.Code.{FStep}
use Rattle.flat_code.specs.CodeViews.{step_of, steps_of}

pub view-Number : (to : ℕ) (value : Word) → step_of (v.Number to value) ≡ FStep.Number to value.0
view-Number to value = search (rules, the_lemmas)

pub view-Same : (to from : ℕ) → step_of (v.Same to from) ≡ FStep.Same to from
view-Same to from = search (rules, the_lemmas)

pub view-Arith : (to : ℕ) (op : ArithOp) (left right : ℕ) → step_of (v.Arith to op left right) ≡ FStep.Arith to op left right
view-Arith to op left right = search (rules, the_lemmas)

pub view-If : (cond : ℕ) (a b : Vec FlatStep Global) → step_of (v.If cond a b) ≡ FStep.If cond (steps_of a.items) (steps_of b.items)
view-If cond a b = search (rules, the_lemmas)

pub view-Block : (body : Vec FlatStep Global) → step_of (v.Block body) ≡ FStep.Block (steps_of body.items)
view-Block body = search (rules, the_lemmas)

pub view-Loop : (body : Vec FlatStep Global) → step_of (v.Loop body) ≡ FStep.Loop (steps_of body.items)
view-Loop body = search (rules, the_lemmas)

pub view-Inner : (body : Vec FlatStep Global) → step_of (v.Inner body) ≡ FStep.Inner (steps_of body.items)
view-Inner body = search (rules, the_lemmas)

pub view-Exit : (levels : ℕ) → step_of (v.Exit levels) ≡ FStep.Exit levels
view-Exit levels = search (rules, the_lemmas)

pub view-Call : (to function : ℕ) (args : Vec ℕ Global) → step_of (v.Call to function args) ≡ FStep.Call to function args.items
view-Call to function args = search (rules, the_lemmas)

pub view-Return : (from : ℕ) → step_of (v.Return from) ≡ FStep.Return from
view-Return from = search (rules, the_lemmas)

pub view-Slot : (to from : ℕ) → step_of (v.Slot to from) ≡ FStep.Slot to from
view-Slot to from = search (rules, the_lemmas)

pub view-Look : (to slot : ℕ) → step_of (v.Look to slot) ≡ FStep.Look to slot
view-Look to slot = search (rules, the_lemmas)

pub view-FrameAt : (to offset : ℕ) → step_of (v.FrameAt to offset) ≡ FStep.FrameAt to offset
view-FrameAt to offset = search (rules, the_lemmas)

pub view-Load : (to at : ℕ) (width : Width) → step_of (v.Load to at width) ≡ FStep.Load to at width
view-Load to at width = search (rules, the_lemmas)

pub view-Store : (at from : ℕ) (width : Width) → step_of (v.Store at from width) ≡ FStep.Store at from width
view-Store at from width = search (rules, the_lemmas)

pub view-Checked : (from to : ℕ) → step_of (v.Checked from to) ≡ FStep.Checked from to
view-Checked from to = search (rules, the_lemmas)

pub view-LineMark : (line : ℕ) → step_of (v.LineMark line) ≡ FStep.LineMark line
view-LineMark line = search (rules, the_lemmas)

pub view-Report : (kind : ReportKind) (line : ℕ) → step_of (v.Report kind line) ≡ FStep.Report kind line
view-Report kind line = search (rules, the_lemmas)

pub view-Env : (to call a b : ℕ) → step_of (v.Env to call a b) ≡ FStep.Env to call a b
view-Env to call a b = search (rules, the_lemmas)

pub ruleset flat_views = (view-Number, view-Same, view-Arith, view-If, view-Block, view-Loop, view-Inner, view-Exit, view-Call, view-Return, view-Slot, view-Look, view-FrameAt, view-Load, view-Store, view-Checked, view-LineMark, view-Report, view-Env)
