use Rattle.select_scope.proofs.Images.{selection_runs}
use Rattle.select_runs.proofs.laws.selection_runs.Goals as goal

pub returns : goal.returns
returns c = selection_runs (record {
  formed = c.runs_are_formed.ensures;
  stands = c.text_stands.ensures;
  aligned = c.pc_is_aligned.ensures;
  tables = c.runs_have_table.ensures;
  memory = c.memory_starts.ensures;
  once = c.labels_stand_once.ensures;
  lands = c.programs_land.ensures;
  runs = c.landings_run.ensures;
})
