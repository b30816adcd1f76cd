use Rattle.bb_watch.proofs.Appends.{each_append}
use Rattle.bb_watch.specs.Safety.{IsMoveSafe, IsAccessSafe, IsControlSafe}
use Rattle.bb_watch.proofs.laws.each_appends.Goals as goal

pub returns-clause-moves : goal.returns-clause-moves
returns-clause-moves c = λ g. each_append (IsMoveSafe g)

pub returns-clause-accesses : goal.returns-clause-accesses
returns-clause-accesses c = λ g. each_append (IsAccessSafe g)

pub returns-clause-control : goal.returns-clause-control
returns-clause-control c = each_append IsControlSafe
