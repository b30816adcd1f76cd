use Rattle.std.proofs.Common.{◌<◌, ◌≤◌, refl, subst}
use Rattle.rv_machine.specs.Decoded.{IsDecoded}
use Rattle.rv_machine.specs.Runs.{running}
use Rattle.rv_machine.specs.State.{Core}
use Rattle.rv_machine.proofs.Calls.{step_goes}
use Rattle.rv_machine.proofs.Decoding.{decoded_step}
use Rattle.rv_machine.proofs.Runs.{ran_none, ran_more}
use Rattle.size_table.specs.Memory.{word_at}
use Rattle.rv_machine.proofs.core_step.Core.go_decoded.Goals as goal

pub loop-went-init : goal.loop-went-init
loop-went-init c = λ frames heap o. ran_none _ _

pub loop-went-preserved : goal.loop-went-preserved
loop-went-preserved c = λ frames heap o.
    let is = c.self.view_is in
    let low = subst (λ (x : Core). 4096 ≤ x.pc) is c.in-Some.ensures.in_text.0 in
    let high = subst (λ (x : Core). x.pc < 2097152) is c.in-Some.ensures.in_text.1 in
    let decoded = subst (λ (x : Core). IsDecoded (word_at x.memory x.pc) c.in-Some.instr) is c.in-Some.ensures.value in
    let goes = decoded_step c.loop-went.self c.execute.new.self c.in-Some.instr low high decoded c.in-Went.ensures in
    ran_more c.loop-went.went _ _ _ _ _ _ (c.loop-went.invariant frames heap o) (step_goes (running c.loop-went.self frames heap) c.execute.new.self o refl goes)
