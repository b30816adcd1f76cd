use Rattle.flat_code_laws.proofs.Move as move
use Rattle.flat_code_laws.proofs.laws.move_sequence_moves.Goals as goal

pub returns : goal.returns
returns c = λ g low high call m frame p d q line s e apart u slot owner lt small.
    move.move_does g call m frame p d q line s e apart u c.moves_by_tests.ensures slot low high owner lt small
