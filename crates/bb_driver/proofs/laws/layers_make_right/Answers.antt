use Rattle.bb_driver.proofs.Composed.{FrontLaws}
use Rattle.bb_driver.proofs.Layered as layered
use Rattle.bb_driver.proofs.Layered.{Laws}
use Rattle.bb_driver.proofs.laws.layers_make_right.Goals as goal

pub returns : goal.returns
returns c =
    let fronts : FrontLaws = record { output_begins = c.output_begins.ensures; trail_begins = c.trail_begins.ensures; tells_begin = c.tells_begin.ensures; later = c.all_by_later.ensures } in
    let laws : Laws = record { fronts = fronts; safe_appends = c.safe_appends.ensures; traps = c.traps_are_of_accesses.ensures; disciplined = c.disciplined_is_safe.ensures; table = c.table_is_kept.ensures } in
    layered.layers_make_right laws
