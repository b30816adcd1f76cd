use Rattle.rv_machine_laws.proofs.TableLaws.{steps_table}
use Rattle.rv_machine_laws.proofs.Starts.{start_formed, start_has_table}
use Rattle.rv_machine_laws.proofs.TableMemory.{LawsBelow}
use Rattle.rv_machine_laws.proofs.laws.runs_have_table.Goals as goal

pub returns : goal.returns
returns c = λ image input n h initial bytes off.
    let below : LawsBelow = record {
      reads = c.reads_only.ensures;
      marked = c.block_is_marked.ensures;
      adds = c.marking_adds.ensures;
      removes = c.marking_removes.ensures;
      heap = record { place = c.place_is_least.ensures; exponent = c.exponent_is_least.ensures };
    } in
    steps_table n below image _ h (start_formed image input h initial bytes) (start_has_table below image input h initial) off
