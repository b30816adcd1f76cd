-- The promise of a run, from what the call says and what an image of the text is.
use Rattle.std.specs.Prelude.{IsSome}
use Rattle.std.proofs.Common.{◌≡◌, ℕ, List, [], ◌++◌, Option, Some, None, refl, sym, ap, ◌∙◌, subst}
use Rattle.bb_outside.specs.Causes.{Rose}
use Rattle.bb_watch.specs.Told.{output_of}
use Rattle.size_table.specs.declared.memory_map.TheConstants.{SLOT_EXPONENT}
use Rattle.typed_tree.specs.TypedTree.{CProgram}
use Rattle.lowering_counts.specs.Built.{IsBuilt}
use Rattle.rv_image.specs.declared.image.Image.{Image}
use Rattle.rv_machine.specs.declared.stop.Halt.{Halt}
use Rattle.rv_machine.specs.declared.stop.Stop.{Stop}
use Rattle.rv_machine.specs.declared.stop.Stop.TheVariants as stop
use Rattle.rv_machine.specs.Environment.{World}
use Rattle.rv_machine.specs.Machine.{steps, machine_after}
use Rattle.rv_machine.specs.Runs.{Ran, Stops, FaultCause, fault_of, stop_of}
use Rattle.rv_machine.specs.Start.{start}
use Rattle.rv_machine.specs.State.{State}
use Rattle.bb_driver.specs.Compiles.{IsImageOf, no_sites}
use Rattle.bb_driver.specs.OneAnswer.{HasOneAnswer}
use Rattle.bb_driver.specs.Right.{Right}
use Rattle.bb_driver.specs.Same.{Same, output}
use Rattle.bb_driver.specs.Sources.{Accepts}
use Rattle.source_meaning.specs.Runs.{outcome}
use Rattle.baggy_tool.specs.declared.ending.Ending.{Ending}
use Rattle.baggy_tool.specs.declared.ending.Ending.TheVariants as ending
use Rattle.baggy_tool.specs.Calls.{Noting, Notes, RunsTo}
use Rattle.baggy_tool.specs.Endings.{ending_of, line_of}
use Rattle.baggy_tool.specs.Laws.{IsRun, AcceptedIsRun}
use Rattle.baggy_tool.specs.Notes.{IsAppended}
use Rattle.headline.specs.Headline.{RunOf, HasWritten, IsPromised, Headline}

-- the line of the ending was noted, where the notes did not fail
appended : (e f : Ending) (before after : Noting) → (Rose before.faults after.faults → ⊥) → Notes e before after f → IsAppended (line_of f) before.written after.written
appended e ending.NoteFault before after none h = absurd (none h.0)
appended e f before after none h = subst (λ z. IsAppended (line_of z) before.written after.written) (sym h.0) h.1

-- a call that is not out of steps has a machine that has ended
has_ended : (e : Ending) (o : Option Halt) → e ≡ ending_of (stop_of o) → (e ≡ ending.OutOfSteps → ⊥) → IsSome o
has_ended e None is more = absurd (more is)
has_ended e (Some halt) is more = refl

module _ (one : HasOneAnswer) (answered : AcceptedIsRun) (text : List ℕ) (p : CProgram) (input : List ℕ) (n : ℕ) (accepts : Accepts text p) (built : IsBuilt p) (r : RunOf text input n) where
  -- the ending is that of the machine after n instructions, and so is what was written
  record Went (image : Image) : Type 0 where
    pub ending : r.call.ended.ending ≡ ending_of (stop_of (machine_after image input n).machine.ending)
    pub written : HasWritten r (output (machine_after image input n))

  of_stop : (image : Image) (s : Stop) (state : State) → Stops s n (start image) r.call.old.shown state r.call.new.shown →
      FaultCause (fault_of s) r.call.old.input_faults r.call.new.input_faults r.call.old.output_faults r.call.new.output_faults →
      Ran (steps n) (start image) r.call.old.shown state r.call.new.shown × (s ≡ stop_of state.ending)
  of_stop image (stop.Exited status) state h cause = (h.0, ap stop_of (sym h.1))
  of_stop image (stop.Reported kind line) state h cause = (h.0, ap stop_of (sym h.1))
  of_stop image (stop.Trapped kind) state h cause = (h.0, ap stop_of (sym h.1))
  of_stop image stop.OutOfSteps state h cause = (h.0, ap stop_of (sym h.1))
  of_stop image stop.ReadFault state h cause = absurd (r.taken cause.0)
  of_stop image stop.WriteFault state h cause = absurd (r.put cause.1)

  went : (image : Image) → RunsTo r.call.ended.ending n image r.call.old r.call.new → Went image
  went image runs =
      let came = of_stop image runs.stop runs.state runs.stops runs.cause in
      let ran = came.0 in
      let left = ran.input input r.takes in
      let after : machine_after image input n ≡ record { machine = runs.state; left = left.0; told = ran.tells } =
      ap (λ (z : List ℕ). steps n (record { machine = start image; left = z; told = [] })) left.1 ∙ ran.does left.0 [] (λ over. r.over over left.0 left.2) in
      record {
        ending = runs.is ∙ ap ending_of (came.1 ∙ ap (λ (w : World). stop_of w.machine.ending) (sym after));
        written = ran.output r.before r.writes ∙ ap (λ (w : World). Some (r.before ++ output w)) (sym after);
      }

  promised : (image : Option Image) → IsRun text n r.call.old r.call.new image r.call.ended.ending → IsPromised p r
  promised None h = absurd (r.memory h.0)
  promised (Some image) h =
      let of = h.0 in
      let right : Right SLOT_EXPONENT p no_sites image = subst (λ (q : CProgram). Right SLOT_EXPONENT q no_sites image) (one.program text of.program p of.accepted.0 accepts.0) of.right in
      let same : Same (outcome SLOT_EXPONENT p input) no_sites (machine_after image input) = right.same input r.bytes in
      let gone = went image h.1 in
      let w = machine_after image input n in
      record {
        image = image;
        safely = right.safely input n r.bytes;
        ends = λ m end paid. let x = same.ends m n end paid in (gone.ending ∙ ap (λ (o : Option Halt). ending_of (stop_of o)) x.0, gone.written ∙ ap (λ (z : List ℕ). Some (r.before ++ z)) x.1.output);
        goes_on = λ m on paid. let x = same.goes_on m n on paid in (output w, gone.written, x.output);
        no_more = λ inside. let x = same.no_more n inside in (output w, gone.written, x.output);
        ends_only = λ inside end. let x = same.halts_only n inside (has_ended r.call.ended.ending w.machine.ending gone.ending end) in (gone.ending ∙ ap (λ (o : Option Halt). ending_of (stop_of o)) x.0, gone.written ∙ ap (λ (z : List ℕ). Some (r.before ++ z)) x.1);
        status = r.call.meets.status;
        noted = appended r.call.meets.ending r.call.ended.ending r.call.notes r.call.notes' r.call.noted r.call.meets.noted;
      }

  pub kept : IsPromised p r
  kept = promised r.call.ended.image (answered.run r.file n text (p, accepts) built r.call)

pub headline : HasOneAnswer → AcceptedIsRun → Headline
headline one answered text p input n accepts built r = kept one answered text p input n accepts built r
