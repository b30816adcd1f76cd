-- An image that is made of the code of a program is right for it.
use Rattle.std.proofs.Common.{◌≡◌, ℕ, zero, suc, ◌<◌, ◌+◌, List, [], ◌∷◌, ◌++◌, length, Option, Some, None, refl, sym, ap, ◌∙◌, subst, arith}
use Rattle.std.specs.Prelude.{All, map, replicate, slice_get, slice_index}
use Rattle.std.proofs.lemmas.Bool.{true≢false}
use Rattle.std.proofs.lemmas.List.{length-map, replicate_more}
use Rattle.std.proofs.lemmas.List.Elements.{All-from_get_or, All-nil}
use Rattle.typed_tree.specs.TypedTree.{CProgram}
use Rattle.typed_tree.specs.Typed.{Typed}
use Rattle.size_table.specs.Made.{blocks_from}
use Rattle.size_table.specs.declared.memory_map.TheConstants.{GLOBALS_START}
use Rattle.source_meaning.specs.Objects.{Object}
use Rattle.source_meaning.specs.Runs.{outcome}
use Rattle.source_meaning.specs.Worlds as source
use Rattle.source_meaning.specs.Worlds.{Line, Moved}
use Rattle.mid_code.specs.Code.{Function, Program}
use Rattle.mid_code.specs.Meaning.{Came, Strayed}
use Rattle.mid_code.specs.Safe.{Safe, IsSiteOf}
use Rattle.mid_code.specs.Formed.{Formed}
use Rattle.mid_code.specs.Runs as mid
use Rattle.lowering_counts.specs.Built.{IsBuilt}
use Rattle.lowering_keeps.specs.Keeps.{Keeps}
use Rattle.lowering_code.specs.Lower.{lowered}
use Rattle.bounds_instr_code.specs.Code.{frame_of, function_code, frames_of, global_blocks, instrumented}
use Rattle.flat_code.specs.Accounts.{frame_size}
use Rattle.flat_code.specs.Code.{FFunction, FCode}
use Rattle.flat_code.specs.Run.{flat_run}
use Rattle.flat_discipline.specs.Safe.{AreGlobals, IsFrame}
use Rattle.flat_landing.specs.Lands.{outcome_of, RunsAs}
use Rattle.rv_image.specs.declared.image.Image.{Image}
use Rattle.rv_machine.specs.Formed.{IsByte}
use Rattle.rv_machine.specs.Live as machine
use Rattle.rv_machine.specs.Machine.{machine_after}
use Rattle.select_scope.specs.ImageOf as selection
use Rattle.select_scope.specs.Laws.{SelectionRuns}
use Rattle.select_scope.specs.InReach.{CalmIsInReach}
use Rattle.number_code.specs.Laws.{CodeFits, CodeIsCalm, MainFits, NoFrames, IsFrameless}
use Rattle.bb_driver.specs.Same.{SafeSitesHold}
use Rattle.bb_driver.specs.Right.{Right}
use Rattle.bb_driver.specs.Laws.{Layers, LayersMakeRight}
use Rattle.bb_driver.specs.Compiles.{no_sites, IsMade}

pub record MadeLaws : Type 0 where
  pub right : LayersMakeRight
  pub runs : SelectionRuns
  pub fits : CodeFits
  pub calm : CodeIsCalm
  pub in_reach : CalmIsInReach
  pub main : MainFits
  pub frameless : NoFrames

no_bytes : All IsByte []
no_bytes = All-from_get_or IsByte [] 0 (λ i low. absurd (omega (arith, low)))

-- no site is left unchecked
all_checked : (os : List Object) (marks : List source.Mark) → SafeSitesHold no_sites os marks
all_checked os [] = tt
all_checked os (Line line ∷ marks) = all_checked os marks
all_checked os (Moved site from to ∷ marks) = (λ e. absurd (true≢false (sym e)), all_checked os marks)

-- and so no move strays from its site's object
pub none_safe : (p : CProgram) (code : Program) → Keeps p code → Safe code []
none_safe p code keeps = record {
  rising = tt;
  moves = All-nil (IsSiteOf code);
  never = λ g slot input m fine strayed. absurd (let q : Came (outcome g p input m).ending ≡ Strayed = sym (keeps.runs g input m).ending ∙ strayed in cc);
}

no_globals : (g : ℕ) → AreGlobals g []
no_globals g = record { exponents = []; are = refl; decline = tt; fit = omega arith }

first_is : {A : Type 0} (x y : A) (xs ys : List A) → (x ∷ xs) ≡ (y ∷ ys) → x ≡ y
first_is x y xs ys e = ap (head_or x) e
  where
    head_or : {A : Type 0} → A → List A → A
    head_or z [] = z
    head_or z (w ∷ ws) = w

rest_is : {A : Type 0} (x y : A) (xs ys : List A) → (x ∷ xs) ≡ (y ∷ ys) → xs ≡ ys
rest_is x y xs ys e = ap tail_of e
  where
    tail_of : {A : Type 0} → List A → List A
    tail_of [] = []
    tail_of (w ∷ ws) = ws

some_is : {A : Type 0} (x y : A) → Some x ≡ Some y → x ≡ y
some_is x y e = ap (or_first x) e
  where
    or_first : {A : Type 0} → A → Option A → A
    or_first z None = z
    or_first z (Some w) = w

none_is : {A : Type 0} {B : Type 0} (x : A) → None ≡ Some x → B
none_is x e = cc

-- the frames of functions without objects are those that flat code says
frames_fit : (g : ℕ) (fs : List Function) → map (frame_of g) fs ≡ replicate (length fs) [] → (k : ℕ) (f : FFunction) → slice_get (map (function_code g) fs) k ≡ Some f
    → IsFrame g f (slice_get (map (frame_of g) fs) k)
frames_fit g [] h k f e = none_is f e
frames_fit g (x ∷ xs) h zero f e =
    let none : frame_of g x ≡ [] = first_is (frame_of g x) [] (map (frame_of g) xs) (replicate (length xs) []) h in
    subst (λ c. IsFrame g c (Some (frame_of g x))) (some_is (function_code g x) f e)
    (record { exponents = []; is = ap Some none; decline = tt; total = sym (ap frame_size none) })
frames_fit g (x ∷ xs) h (suc k) f e = frames_fit g xs (rest_is (frame_of g x) [] (map (frame_of g) xs) (replicate (length xs) []) h) k f e

-- one frame without objects more
pub one_more : (n : ℕ) → let none : List ℕ = [] in replicate n none ++ none ∷ [] ≡ replicate (n + 1) none
one_more n = replicate_more n []

replicated : {A : Type 0} (x : A) (n i : ℕ) → i < n → slice_get (replicate n x) i ≡ Some x
replicated x zero i h = absurd (omega (arith, h))
replicated x (suc n) zero h = refl
replicated x (suc n) (suc i) h = replicated x n i (omega (arith, h))

module _ (laws : MadeLaws) (p : CProgram) (image : Image) (typed : Typed p) (built : IsBuilt p) (formed : Formed (lowered p)) (made : IsMade (lowered p) image) where
  abbrev code : FCode
  code = instrumented 4 (lowered p)

  frameless : IsFrameless 4 (lowered p)
  frameless = laws.frameless 4 p built

  no_blocks : machine.global_blocks image ≡ global_blocks 4 (lowered p)
  no_blocks = ap (blocks_from GLOBALS_START) made.globals ∙ sym frameless.globals

  frames_are : image.frames ≡ frames_of 4 (lowered p)
  frames_are = made.frames ∙ sym frameless.frames

  of_code : selection.IsImageOf code image
  of_code = record {
    rules = made.rules;
    bytes = subst (All IsByte) (sym made.initial) no_bytes;
    resolved = made.resolved;
    entry = made.entry;
    initial = λ i. ap (λ bytes. slice_index bytes i) made.initial;
    frames = λ i less.
        ap (λ frames. slice_get frames i) made.frames
        ∙ replicated [] (length (lowered p).functions) i (let n = length-map (lowered p).functions (function_code 4) in omega (arith, less, n));
    fits = record { functions = laws.fits p typed built formed; first = laws.main 4 p typed };
  }

  runs : (input : List ℕ) → All IsByte input →
      RunsAs (machine.global_blocks image) (λ m. outcome_of (flat_run 4 code (global_blocks 4 (lowered p)) (frames_of 4 (lowered p)) input m)) (machine_after image input)
  runs input fine =
      subst (λ frames. RunsAs (machine.global_blocks image) (λ m. outcome_of (flat_run 4 code (global_blocks 4 (lowered p)) frames input m)) (machine_after image input)) frames_are
      (subst (λ blocks. RunsAs (machine.global_blocks image) (λ m. outcome_of (flat_run 4 code blocks image.frames input m)) (machine_after image input)) no_blocks
      (laws.runs code image of_code input fine (λ m. laws.in_reach code (laws.calm 4 p built) (machine.global_blocks image) image.frames input m)))

  layers : Keeps p (lowered p) → Layers 4 p (lowered p) no_sites code image
  layers keeps = record {
    slot = refl;
    lowered = keeps;
    sites = λ input m fine. let w = (mid.outcome 4 (lowered p) input m).point.world in all_checked w.objects w.trail;
    kept = made.kept;
    layout = subst (AreGlobals 4) (sym frameless.globals) (no_globals 4);
    frames = λ k f found line. frames_fit 4 (lowered p).functions frameless.frames k f found;
    disciplined = made.disciplined;
    rules = made.rules;
    bytes = subst (All IsByte) (sym made.initial) no_bytes;
    words = made.resolved.each;
    globals = no_blocks;
    runs = runs;
  }

  pub right : Keeps p (lowered p) → Right 4 p no_sites image
  right keeps = laws.right 4 p (lowered p) no_sites code image (layers keeps)
