use Rattle.std.proofs.Common.{arith}
use Rattle.typing_unit.proofs.Wholes.{defined_now}
use Rattle.typing_unit.proofs.functions.define_again.Goals as goal

pub returns-then-place-len : goal.returns-then-place-len
returns-then-place-len c =
    let s = c.args.functions.now in
    defined_now s.items c.args.place c.index_mut.result.now c.define.new.function c.args.defines (let n = c.len.ensures in omega (arith, n, s.ok.0, c.if-place-len.true)) c.index_mut.ensures.value c.define.ensures
