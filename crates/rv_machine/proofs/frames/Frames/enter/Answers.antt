use Rattle.std.proofs.Common.{refl, arith}
use Rattle.std.proofs.lemmas.List.Elements.{recursion_from_All}
use Rattle.rv_machine.specs.declared.frames.Entered.{Entered}
use Rattle.size_table.specs.Made.{blocks_from}
use Rattle.rv_machine.proofs.CallChain.{placed, calls_stacked, call_entered}
use Rattle.rv_machine.proofs.frames.Frames.enter.Goals as goal
use Rattle.size_table.specs.Blocks.{IsBlock}

pub make_all-requires : goal.make_all-requires
make_all-requires c =
    let top = c.self.inside.stack in
    let base = c.stack_under-stack.result in
    let es = c.layout-exponents.result.now in
    let small = (calls_stacked c.self.inside.layouts c.self.invariant.0 c.self.inside.entered.items 16777216 top (omega arith) c.self.invariant.2).ordered in
    let place = placed top base es c.layout-exponents.ensures.declines small c.stack_under-stack.ensures.value (omega (arith, c.if-stack-lt-STACK_START.false)) in
    recursion_from_All (IsBlock 4) (blocks_from base es) place.blocks

pub invariant_of-self : goal.invariant_of-self
invariant_of-self c =
    let top = c.self.inside.stack in
    let base = c.stack_under-stack.result in
    let call : Entered = record { frame = c.args.k; back = top } in
    let entered = call_entered c.self.inside.layouts c.self.inside.entered.items 16777216 top base call c.self.invariant.2 (record {
      exponents = c.layout-exponents.result.now;
      layout = c.layout-exponents.ensures.value;
      back = refl;
      under = c.stack_under-stack.ensures.value;
      room = omega (arith, c.if-stack-lt-STACK_START.false);
    }) in
    (c.self.invariant.0, c.push.ensures.capacity, rw c.push.ensures.items entered)
