use Rattle.std.specs.Prelude.{false}
use Rattle.std.proofs.Common.{refl}
use Rattle.bounds_instr_code.proofs.Fits.{functions_fit}
use Rattle.bounds_instr_keeps.proofs.Calls.{keeps}
use Rattle.bounds_instr_keeps.proofs.laws.instrumented_keeps.Goals as goal

pub returns : goal.returns
returns c = λ g p big small formed built.
    keeps
    (record {
      truths = c.truth_is_of_words.ensures;
      says = c.says_keep.ensures;
      trails = c.trails_append.ensures;
      compares = c.comparisons_are_of_words.ensures;
      stores = c.stores_are_writes.ensures;
      loads = c.loads_are_reads.ensures;
      passes = c.load_sequence_loads.ensures;
      stops = c.load_sequence_stops.ensures;
      moving = record {
        says = c.says_keep.ensures;
        trails = c.trails_append.ensures;
        owned = c.pointers_are_owned.ensures;
        moves = c.moves_are_moved.ensures;
        sequence = c.move_sequence_moves.ensures;
      };
      heap = record {
        compose = c.accounts_compose.ensures;
        keep = c.accounts_keep.ensures;
        grow = c.accounts_grow.ensures;
        says = c.says_keep.ensures;
        ends = c.ended_keeps.ensures;
        places = c.places_keep.ensures;
        allocates = c.allocations_are_of_blocks.ensures;
        frees = c.frees_are_of_blocks.ensures;
      };
    })
    (record {
      compose = c.accounts_compose.ensures;
      keep = c.accounts_keep.ensures;
      grow = c.accounts_grow.ensures;
      says = c.says_keep.ensures;
      entries = c.entries_keep.ensures;
      exits = c.exits_keep.ensures;
      frames = c.frames_are_alike.ensures;
      places = c.places_keep.ensures;
    })
    c.steps_advance.ensures c.programs_advance.ensures g big small (λ site. false) (λ site. refl) p built.globals (functions_fit p formed built)
