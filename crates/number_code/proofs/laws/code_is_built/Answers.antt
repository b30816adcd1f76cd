use Rattle.lowering_code.specs.Lower.{lowered}
use Rattle.number_code.proofs.OfNumbers.{program_is_built}
use Rattle.number_code.proofs.CodeNumbers.{code_numbers}
use Rattle.number_code.proofs.laws.code_is_built.Goals as goal

pub returns : goal.returns
returns c = λ p built. program_is_built (lowered p) (code_numbers p built)
