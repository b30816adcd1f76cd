use Rattle.flat_code_laws.proofs.Span as span
use Rattle.flat_code_laws.proofs.laws.span_sequence_spans.Goals as goal

pub returns : goal.returns
returns c = λ g low high call m frame p n q line d s e apart u. span.spans g call m frame p n q line d s e apart u c.moves_by_tests.ensures low high
