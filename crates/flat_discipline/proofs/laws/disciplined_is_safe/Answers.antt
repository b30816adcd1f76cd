use Rattle.flat_discipline.proofs.Worlds.{Laws}
use Rattle.flat_discipline.proofs.Safe as safe
use Rattle.flat_discipline.proofs.laws.disciplined_is_safe.Goals as goal

pub returns : goal.returns
returns c =
    let laws : Laws = record {
      tells_append = c.tells_append.ensures;
      live_appends = c.live_appends.ensures;
      ever_appends = c.ever_appends.ensures;
      safe_appends = c.safe_appends.ensures;
      moves = c.move_sequence_moves.ensures;
      loads = c.load_sequence_loads.ensures;
      stops = c.load_sequence_stops.ensures;
      offsets = c.moves_are_offsets.ensures;
      reach = c.moves_stay_in_reach.ensures;
      owners = c.owner_is_block.ensures;
      exponents = c.exponent_is_least.ensures;
      places = c.place_is_least.ensures;
    } in
    safe.disciplined_is_safe laws
