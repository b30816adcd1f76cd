use Rattle.std.proofs.Common.{subst, Option}
use Rattle.std.specs.Prelude.{IfSome}
use Rattle.rv_code.specs.declared.instr.Instr.{Instr}
use Rattle.rv_code.specs.Code.{Encodes}
use Rattle.rv_code.proofs.Rows.{read_encodes}
use Rattle.rv_code.proofs.laws.reads_only.Goals as goal

pub returns : goal.returns
returns c = λ word instr small e. let P : Option Instr → Type 0 = λ o. IfSome o (Encodes word) in subst P e (read_encodes word small)
