use Rattle.std.proofs.Common.{ℕ, ap, ◌∙◌}
use Rattle.bb_words.specs.Numbers.{sum}
use Rattle.rv_machine.proofs.JumpsTold.{jal_told, jalr_told}
use Rattle.rv_machine.proofs.core_step.Core.told_at.Goals as goal

pub returns-in-Jal : goal.returns-in-Jal
returns-in-Jal c =
    jal_told _ c.args.instr c.in-Jal.rd c.in-Jal.imm c.add.result.0 c.args.self.now c.in-Jal.is
    (c.add.ensures ∙ ap (λ (pc : ℕ). sum pc c.in-Jal.imm) c.pc.ensures) c.told_call.ensures

pub returns-else-rd-eq0 : goal.returns-else-rd-eq0
returns-else-rd-eq0 c =
    jalr_told _ c.args.instr c.in-Jalr.rd c.in-Jalr.rs1 c.in-Jalr.imm c.address.result c.args.self.now c.in-Jalr.is c.address.ensures c.else-rd-eq0.either c.told_call-else-rd-eq0.ensures
