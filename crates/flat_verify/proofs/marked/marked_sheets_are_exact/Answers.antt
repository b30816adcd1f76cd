use Rattle.flat_verify.proofs.Exact.{exact}
use Rattle.flat_verify.proofs.marked.marked_sheets_are_exact.Goals as goal

pub returns : goal.returns
returns c = λ g globals functions sheets total marks are stands reached marked. exact g globals functions sheets total are stands marks reached marked
