use Rattle.typing_unit.proofs.Wholes.{other_count}
use Rattle.typing_unit.proofs.functions.same_types.Goals as goal

pub returns-then-not-count-params : goal.returns-then-not-count-params
returns-then-not-count-params c =
    other_count c.args.types.now c.args.params.now c.if-not-count-params.true
