use Rattle.lowering_code.specs.Lower.{lowered}
use Rattle.number_code.proofs.OfNumbers.{has_no_objects}
use Rattle.number_code.proofs.CodeNumbers.{code_numbers}
use Rattle.number_code.proofs.laws.no_frames.Goals as goal

pub returns : goal.returns
returns c = λ g p built. has_no_objects g (lowered p) (code_numbers p built)
