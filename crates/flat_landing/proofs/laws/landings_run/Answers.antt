use Rattle.flat_landing.proofs.Landed as landed
use Rattle.flat_landing.proofs.Landed.{Laws, ControlLaws}
use Rattle.flat_landing.proofs.laws.landings_run.Goals as goal

pub returns : goal.returns
returns c =
    let laws : Laws = record { stays = c.ending_stays.ensures; grows = c.told_grows.ensures } in
    let control : ControlLaws = record { events_append = c.events_append.ensures; each_appends = c.each_appends.ensures.control; open_appends = c.open_appends.ensures } in
    landed.landings_run laws control
