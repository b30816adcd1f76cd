-- An image of selected code gives a scene, and its machine starts as flat code does.
use Rattle.std.proofs.Common.{◌≡◌, ℕ, ◌+◌, ◌-◌, ◌*◌, ◌<◌, ◌≤◌, ◌⊎◌, inl, inr, List, [], length, refl, sym, ap, ◌∙◌, arith}
use Rattle.std.specs.Prelude.{nat_lt, slice_index, if◌then◌else◌, All}
use Rattle.std.proofs.lemmas.Bool.{lt-ltb, le-ltb, cases_lt}
use Rattle.std.proofs.Math.ListN.{get_or-eq_default}
use Rattle.size_table.specs.declared.memory_map.TheConstants.{GLOBALS_START, MEMORY_END}
use Rattle.flat_code.specs.Code.{FCode}
use Rattle.flat_code.specs.Run as flat
use Rattle.flat_code.specs.Run.{flat_run}
use Rattle.rv_image.specs.declared.image.Image.{Image}
use Rattle.rv_machine.specs.Environment.{World}
use Rattle.rv_machine.specs.Formed.{IsByte}
use Rattle.rv_machine_laws.specs.Laws.{RunsAreFormed, TextStands, PcIsAligned, RunsHaveTable, MemoryStarts}
use Rattle.rv_machine.specs.Live.{global_blocks}
use Rattle.rv_machine.specs.Machine.{steps, machine_after}
use Rattle.rv_machine.specs.Start.{start, start_memory}
use Rattle.rv_selected.specs.Laws.{LabelsStandOnce, among}
use Rattle.rv_selected.specs.Selection.{functions_labels, selected}
use Rattle.flat_landing.specs.Lands.{outcome_of, RunsAs}
use Rattle.flat_landing.specs.Laws.{LandingsRun}
use Rattle.select_scope.specs.ImageOf.{IsImageOf}
use Rattle.select_scope.specs.InReach.{RunsInReach}
use Rattle.select_scope.specs.Laws.{IsProgramIn, ProgramsLand, SelectionRuns}
use Rattle.select_scope.specs.Loaded.{Loaded, IsLoaded, StartsAs}

-- the laws of an image's runs, of labels and of landings
pub record ImageLaws : Type 0 where
  pub formed : RunsAreFormed
  pub stands : TextStands
  pub aligned : PcIsAligned
  pub tables : RunsHaveTable
  pub memory : MemoryStarts
  pub once : LabelsStandOnce
  pub lands : ProgramsLand
  pub runs : LandingsRun

-- ---- The first memory

-- bytes from a place on that begin with these, and are zero behind them
same_bytes : (memory initial : List ℕ) (from at : ℕ) → from ≤ at → ((i : ℕ) → i < length initial → slice_index memory (from + i) ≡ slice_index initial i)
    → (from + length initial ≤ at → slice_index memory at ≡ 0) → slice_index memory at ≡ (if nat_lt at from then 0 else slice_index initial (at - from))
same_bytes memory initial from at low bytes zero = by_cases (cases_lt (at - from) (length initial)) ∙ ap (λ t. if t then 0 else slice_index initial (at - from)) (sym (le-ltb at from low))
  where
    by_cases : (at - from < length initial) ⊎ (length initial ≤ at - from) → slice_index memory at ≡ slice_index initial (at - from)
    by_cases (inl lt) = let e : at ≡ from + (at - from) = omega (arith, low) in ap (slice_index memory) e ∙ bytes (at - from) lt
    by_cases (inr le) = zero (omega (arith, low, le)) ∙ sym (get_or-eq_default initial 0 le)

-- ---- Labels

among_first : (count l : ℕ) → l < count → among 0 count l ≡ 1
among_first count l lt = ap (λ t. if nat_lt l 0 then 0 else if t then 1 else 0) (let e : l < 0 + count = omega (arith, lt) in lt-ltb l (0 + count) e) ∙ ap (λ t. if t then 0 else 1) (le-ltb l 0 (omega arith))

module _ (laws : ImageLaws) (code : FCode) (image : Image) (of : IsImageOf code image) (input : List ℕ) (bytes : All IsByte input)
    (reach : (m : ℕ) → RunsInReach code (global_blocks image) image.frames input m) where
  -- the machine before its first instruction
  abbrev first : World
  first = record { machine = start image; left = input; told = [] }

  abbrev scene : Loaded
  scene = record { text = image.text; all = selected 4 code; labels = of.resolved.labels; start = first; globals = global_blocks image; frames = image.frames }

  is_scene : IsLoaded scene
  is_scene = record {
    form = λ n. (laws.formed image input n of.rules of.bytes bytes).core;
    stands = λ n. laws.stands image input n of.rules of.bytes bytes of.resolved.each;
    room = of.rules.text_fits;
    count = length code.functions + functions_labels 4 code.functions;
    once = λ l lt. laws.once 4 code l ∙ among_first (length code.functions + functions_labels 4 code.functions) l lt;
    aligned = λ n. laws.aligned image input n of.rules;
    tables = λ n off. laws.tables image input n of.rules of.bytes bytes off;
  }

  starts_so : (at : ℕ) → GLOBALS_START ≤ at → at < MEMORY_END → slice_index (start_memory image) at ≡ flat.start_memory code.initial at
  starts_so at low high =
      let begin = laws.memory image of.rules of.bytes of.resolved.each in
      let room = of.rules.text_fits in
      same_bytes (start_memory image) image.initial GLOBALS_START at low begin.initial (λ behind. begin.zero at (inr (omega (arith, low, room))) (inr (omega (arith, low))) (inr behind))
      ∙ ap (λ n. if nat_lt at GLOBALS_START then 0 else n) (of.initial (at - GLOBALS_START))

  starts : StartsAs scene (flat.start code.initial (global_blocks image) input).world
  unfolding steps start
  starts = record {
    pc = of.entry;
    running = refl;
    base = refl;
    memory = starts_so;
    stack = refl;
    layouts = refl;
    entered = refl;
    left = refl;
    live = refl;
    told = refl;
  }

  program : IsProgramIn scene code
  unfolding is_scene
  program = record {
    scene = is_scene;
    end = 4096 + 4 * length image.text;
    parts = of.resolved.runs;
    labels = omega arith;
    frames = of.frames;
    fits = of.fits;
  }

  runs : RunsAs (global_blocks image) (λ m. outcome_of (flat_run 4 code (global_blocks image) image.frames input m)) (machine_after image input)
  runs =
      laws.runs (global_blocks image) (λ m. outcome_of (flat_run 4 code (global_blocks image) image.frames input m)) first
      (λ m. laws.lands scene code program (global_blocks image) input starts m (reach m))

pub selection_runs : ImageLaws → SelectionRuns
selection_runs laws code image of input bytes reach = runs laws code image of input bytes reach
