-- What each variant of a step stands for.
use Rattle.std.proofs.Common.{◌≡◌, ℕ, rules, Vec, Global}
use Rattle.std.specs.Prelude.{Option, ℤ, Bool}
use Rattle.bb_words.specs.declared.word.Word.{Word}
use Rattle.bb_words.specs.declared.steps.Width.{Width}
use Rattle.bb_words.specs.declared.steps.ArithOp.{ArithOp}
use Rattle.bb_words.specs.declared.steps.DivideOp.{DivideOp}
use Rattle.bb_words.specs.declared.steps.OrderOp.{OrderOp}
use Rattle.typed_tree.specs.declared.typed_expr.LibCall.{LibCall}
use Rattle.mid_code.specs.declared.code.MidObject.{MidObject}
use Rattle.mid_code.specs.declared.code.MidStep.{MidStep, the_lemmas}
use Rattle.mid_code.specs.declared.code.MidStep.TheVariants as code
use Rattle.mid_code.specs.Code.{Step}
use Rattle.mid_code.specs.Views.{step_of, steps_of}

pub view-Number : (to : ℕ) (value : Word) → step_of (code.Number to value) ≡ Step.Number to value.0
view-Number to value = search (rules, the_lemmas)

pub view-NullPtr : (to : ℕ) → step_of (code.NullPtr to) ≡ Step.NullPtr to
view-NullPtr to = search (rules, the_lemmas)

pub view-Same : (to from : ℕ) → step_of (code.Same to from) ≡ Step.Same to from
view-Same to from = search (rules, the_lemmas)

pub view-Arith : (to : ℕ) (o : ArithOp) (a b : ℕ) → step_of (code.Arith to o a b) ≡ Step.Arith to o a b
view-Arith to o a b = search (rules, the_lemmas)

pub view-Divide : (to : ℕ) (o : DivideOp) (a b line : ℕ) → step_of (code.Divide to o a b line) ≡ Step.Divide to o a b line
view-Divide to o a b line = search (rules, the_lemmas)

pub view-Named : (to : ℕ) (o : MidObject) → step_of (code.Named to o) ≡ Step.Named to o
view-Named to o = search (rules, the_lemmas)

pub view-Move : (site to from by scale : ℕ) (down : Bool) (line : ℕ) → step_of (code.Move site to from by scale down line) ≡ Step.Move site to from by scale down line
view-Move site to from by scale down line = search (rules, the_lemmas)

pub view-MoveBy : (site to from : ℕ) (d : ℤ) (line : ℕ) → step_of (code.MoveBy site to from d line) ≡ Step.MoveBy site to from d line
view-MoveBy site to from d line = search (rules, the_lemmas)

pub view-Load : (to at : ℕ) (w : Width) (line : ℕ) → step_of (code.Load to at w line) ≡ Step.Load to at w line
view-Load to at w line = search (rules, the_lemmas)

pub view-Store : (at from : ℕ) (w : Width) → step_of (code.Store at from w) ≡ Step.Store at from w
view-Store at from w = search (rules, the_lemmas)

pub view-Clear : (o : MidObject) → step_of (code.Clear o) ≡ Step.Clear o
view-Clear o = search (rules, the_lemmas)

pub view-Init : (o : MidObject) (offset from : ℕ) (w : Width) → step_of (code.Init o offset from w) ≡ Step.Init o offset from w
view-Init o offset from w = search (rules, the_lemmas)

pub view-CopyBytes : (a b from to n line : ℕ) → step_of (code.CopyBytes a b from to n line) ≡ Step.CopyBytes a b from to n line
view-CopyBytes a b from to n line = search (rules, the_lemmas)

pub view-PtrSame : (to a b : ℕ) → step_of (code.PtrSame to a b) ≡ Step.PtrSame to a b
view-PtrSame to a b = search (rules, the_lemmas)

pub view-PtrOrder : (to : ℕ) (o : OrderOp) (a b : ℕ) → step_of (code.PtrOrder to o a b) ≡ Step.PtrOrder to o a b
view-PtrOrder to o a b = search (rules, the_lemmas)

pub view-PtrDiff : (to a b size : ℕ) → step_of (code.PtrDiff to a b size) ≡ Step.PtrDiff to a b size
view-PtrDiff to a b size = search (rules, the_lemmas)

pub view-Call : (to f : ℕ) (args : Vec ℕ Global) → step_of (code.Call to f args) ≡ Step.Call to f args.items
view-Call to f args = search (rules, the_lemmas)

pub view-Library : (to : ℕ) (which : LibCall) (args : Vec ℕ Global) (line : ℕ) (a b : Option ℕ) → step_of (code.Library to which args line a b) ≡ Step.Library to which args.items line a b
view-Library to which args line a b = search (rules, the_lemmas)

pub view-If : (cond : ℕ) (xs ys : Vec MidStep Global) → step_of (code.If cond xs ys) ≡ Step.If cond (steps_of xs.items) (steps_of ys.items)
view-If cond xs ys = search (rules, the_lemmas)

pub view-Block : (body : Vec MidStep Global) → step_of (code.Block body) ≡ Step.Block (steps_of body.items)
view-Block body = search (rules, the_lemmas)

pub view-Loop : (body : Vec MidStep Global) → step_of (code.Loop body) ≡ Step.Loop (steps_of body.items)
view-Loop body = search (rules, the_lemmas)

pub view-Exit : (n : ℕ) → step_of (code.Exit n) ≡ Step.Exit n
view-Exit n = search (rules, the_lemmas)

pub view-Return : (from : ℕ) → step_of (code.Return from) ≡ Step.Return from
view-Return from = search (rules, the_lemmas)

pub view-LineMark : (line : ℕ) → step_of (code.LineMark line) ≡ Step.LineMark line
view-LineMark line = search (rules, the_lemmas)

-- the views of all variants, for the crates above
pub ruleset step_views = (view-Number, view-NullPtr, view-Same, view-Arith, view-Divide, view-Named, view-Move, view-MoveBy, view-Load, view-Store, view-Clear, view-Init, view-CopyBytes, view-PtrSame, view-PtrOrder, view-PtrDiff, view-Call, view-Library, view-If, view-Block, view-Loop, view-Exit, view-Return, view-LineMark)
