-- The layers make an image right.
use Rattle.std.proofs.Common.{◌≡◌, ℕ, ◌≤◌, List, refl, sym, subst, arith}
use Rattle.std.specs.Prelude.{All}
use Rattle.bb_words.specs.Answers.{Answer}
use Rattle.typed_tree.specs.TypedTree.{CProgram}
use Rattle.size_table.specs.Blocks.{Block}
use Rattle.source_meaning.specs.declared.values.Ending.{Ending}
use Rattle.source_meaning.specs.declared.values.Ending.TheVariants as ending
use Rattle.source_meaning.specs.Worlds as source
use Rattle.source_meaning.specs.Runs as meaning
use Rattle.injection.specs.Trail.{SafeSites, Says}
use Rattle.mid_code.specs.Code.{Program}
use Rattle.mid_code.specs.Meaning.{Came, Point}
use Rattle.mid_code.specs.Runs as mid
use Rattle.lowering_keeps.specs.Keeps.{Agrees}
use Rattle.bounds_instr_code.specs.Code.{global_blocks, frames_of}
use Rattle.bounds_instr_keeps.specs.Keeps.{EndsAlike, OutcomeAlike}
use Rattle.flat_code.specs.Code.{FCode}
use Rattle.flat_code.specs.Told as Told
use Rattle.flat_code.specs.Told.{tells, AllBy}
use Rattle.flat_code.specs.World as flat
use Rattle.flat_code.specs.Safety.{AllSafe}
use Rattle.flat_code_laws.specs.Laws.{SafeAppends, TrapsAreOfAccesses, AllByLater, point_of}
use Rattle.flat_code.specs.Run.{flat_run}
use Rattle.flat_discipline.specs.Safe.{DisciplinedIsSafe}
use Rattle.flat_landing.specs.Lands.{outcome_of}
use Rattle.rv_image.specs.declared.image.Image.{Image}
use Rattle.rv_image.specs.Rules.{slot_of}
use Rattle.rv_machine.specs.Formed.{IsByte}
use Rattle.rv_machine.specs.Live as machine
use Rattle.rv_machine_laws.specs.Laws.{TableIsKept}
use Rattle.rv_machine.specs.Machine.{machine_after}
use Rattle.rv_machine_laws.specs.Safety.{SafeRun}
use Rattle.bb_driver.specs.Same.{SafeSitesHold, Same}
use Rattle.bb_driver.specs.Right.{Right}
use Rattle.bb_driver.specs.Laws.{Layers}
use Rattle.bb_driver.proofs.Composed.{FrontLaws, Beside, same_of}
use Rattle.bb_driver.proofs.Safe.{ends_safely, is_safe}

pub record Laws : Type 0 where
  pub fronts : FrontLaws
  pub safe_appends : SafeAppends
  pub traps : TrapsAreOfAccesses
  pub disciplined : DisciplinedIsSafe
  pub table : TableIsKept

-- flat code that does what mid code does is beside the source that mid code agrees with
alike_beside : AllByLater → (safe : SafeSites) (e : Ending) (v : Point) (q : flat.Run (Unit {0})) (s : source.World) (time : ℕ)
    → EndsAlike safe (Came e) v q → v.world ≡ s → v.time ≤ time → Beside safe e s time (outcome_of q)
alike_beside later safe (ending.Exited n) v q s time h world le =
    subst (λ r. Beside safe (ending.Exited n) s time (outcome_of r)) (sym h.is) (refl, subst (λ w. Says safe w h.point.world.told) world h.says, omega (arith, h.time, le))
alike_beside later safe (ending.Reported kind line) v q s time h world le =
    subst (λ r. Beside safe (ending.Reported kind line) s time (outcome_of r)) (sym h.is) (refl, subst (λ w. Says safe w h.point.world.told) world h.says, omega (arith, h.time, le))
alike_beside later safe (ending.Trapped kind) v q s time h world le =
    subst (λ r. Beside safe (ending.Trapped kind) s time (outcome_of r)) (sym h.is) (refl, subst (λ w. Says safe w h.point.world.told) world h.says, omega (arith, h.time, le))
alike_beside later safe ending.Cut v q s time h world le =
    subst (λ r. Beside safe ending.Cut s time (outcome_of r)) (sym h.is) (refl, subst (λ w. Says safe w h.point.world.told) world h.says, later v.time time h.point.world.told le h.by)
alike_beside later safe (ending.Outside cause) v q s time h world le =
    (h.front, subst (λ o. Told.Came o.world.told time h.front) (point_is q) (record { rest = h.came.rest; is = h.came.is; by = later v.time time h.front le h.came.by }), subst (λ w. Says safe w h.front) world h.says)
  where
    point_is : (r : flat.Run (Unit {0})) → point_of r ≡ (outcome_of r).point
    point_is (Answer.Goes a u) = refl
    point_is (Answer.Ends e u) = refl

agrees_beside : AllByLater → (safe : SafeSites) (o : meaning.Outcome) (code : mid.Outcome) (q : flat.Run (Unit {0}))
    → Agrees o code → OutcomeAlike safe code q → Beside safe o.ending o.state.world (meaning.cost o.state) (outcome_of q)
agrees_beside later safe o code q a h = alike_beside later safe o.ending code.point q o.state.world (meaning.cost o.state) (subst (λ e. EndsAlike safe e code.point q) a.ending h) a.world a.time

module _ (laws : Laws) (p : CProgram) (code : Program) (safe : SafeSites) (fcode : FCode) (image : Image) (layers : Layers (slot_of image) p code safe fcode image) where
  abbrev run : (input : List ℕ) (m : ℕ) → flat.Run (Unit {0})
  run input m = flat_run (slot_of image) fcode (global_blocks (slot_of image) code) (frames_of (slot_of image) code) input m

  same : (input : List ℕ) → All IsByte input → Same (meaning.outcome (slot_of image) p input) safe (machine_after image input)
  same input fine =
      same_of laws.fronts safe (machine.global_blocks image) (meaning.outcome (slot_of image) p input) (λ m. outcome_of (run input m)) (machine_after image input)
      (λ m. agrees_beside laws.fronts.later safe (meaning.outcome (slot_of image) p input m) (mid.outcome (slot_of image) code input m) (run input m) (layers.lowered.runs (slot_of image) input m) (layers.kept input m fine))
      (layers.runs input fine)
      (λ m. subst (λ w. SafeSitesHold safe w.objects w.trail) (layers.lowered.runs (slot_of image) input m).world (layers.sites input m fine))

  safely : (input : List ℕ) (n : ℕ) → All IsByte input → SafeRun (slot_of image) image input n
  safely input n fine k le =
      is_safe laws.table laws.safe_appends image layers.rules layers.bytes (λ m. outcome_of (run input m))
      (λ m. ends_safely (run input m) (laws.traps (slot_of image) fcode (global_blocks (slot_of image) code) (frames_of (slot_of image) code) input m))
      (λ m. subst (λ bs. AllSafe (slot_of image) bs bs (tells (outcome_of (run input m)).point.world.told)) (sym layers.globals) (verified m))
      input fine (layers.runs input fine) k
    where
      of_point : (r : flat.Run (Unit {0})) (bs : List Block) → AllSafe (slot_of image) bs bs (tells (point_of r).world.told) → AllSafe (slot_of image) bs bs (tells (outcome_of r).point.world.told)
      of_point (Answer.Goes a u) bs h = h
      of_point (Answer.Ends e u) bs h = h

      verified : (m : ℕ) → AllSafe (slot_of image) (global_blocks (slot_of image) code) (global_blocks (slot_of image) code) (tells (outcome_of (run input m)).point.world.told)
      verified m =
          of_point (run input m) (global_blocks (slot_of image) code)
          (laws.disciplined (slot_of image) fcode (global_blocks (slot_of image) code) (frames_of (slot_of image) code) input m (omega arith) (omega arith) layers.layout layers.frames layers.disciplined).safe

  right : Right (slot_of image) p safe image
  right = record { rules = layers.rules; bytes = layers.bytes; words = layers.words; safely = safely; same = same }

pub layers_make_right : Laws → (g : ℕ) (p : CProgram) (code : Program) (safe : SafeSites) (flat : FCode) (image : Image) → Layers g p code safe flat image → Right g p safe image
layers_make_right laws g p code safe flat image layers =
    subst (λ h. Right h p safe image) (sym layers.slot) (right laws p code safe flat image (subst (λ h. Layers h p code safe flat image) layers.slot layers))
