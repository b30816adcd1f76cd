use Rattle.std.proofs.Common.{sym, ◌∙◌, ap, drop, false}
use Rattle.std.specs.Prelude.{map}
use Rattle.typing_expressions.specs.Scene.{declared_of}
use Rattle.typing_unit_keeps.specs.Units.{undefined}
use Rattle.typing_unit.proofs.Wholes.{none_called, no_more, next_missing}
use Rattle.typing_unit.proofs.unit.undefined.Goals as goal

pub returns-then-i-called : goal.returns-then-i-called
returns-then-i-called c =
    none_called (map declared_of (drop c.loop-i.i c.args.functions.now))
    ∙ ap (undefined (map declared_of (drop c.loop-i.i c.args.functions.now))) (sym (no_more c.args.called.now c.loop-i.i c.if-i-called.true)) ∙ c.loop-i.invariant

pub loop-i-preserved : goal.loop-i-preserved
loop-i-preserved c =
    sym (next_missing c.args.functions.now c.args.called.now c.loop-i.i c.index-functions-i.result false c.loop-i-test.true c.if-i-called.false c.index-functions-i.is
    (sym c.is_missing.ensures ∙ c.if-is_missing.false)) ∙ c.loop-i.invariant
