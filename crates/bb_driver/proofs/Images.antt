-- The image of resolved parts keeps the rules of images, and is made of the code.
use Rattle.flat_verify.specs.declared.error.VerifyError.TheVariants.{Unchecked}
use Rattle.flat_verify.specs.declared.error.VerifyError.{VerifyError}
use Rattle.flat_verify.specs.Answer.{IsNoRefusal}
use Rattle.std.proofs.Common.{◌≡◌, ℕ, zero, suc, ◌≤◌, ◌+◌, ◌*◌, List, [], length, refl, sym, ap, ◌∙◌, subst, arith, lit≤}
use Rattle.std.specs.Prelude.{replicate, Result, Err}
use Rattle.std.proofs.lemmas.List.{length-replicate}
use Rattle.size_table.specs.declared.memory_map.TheConstants.{TEXT_START}
use Rattle.mid_code.specs.Code.{Program}
use Rattle.bounds_instr_code.specs.Code.{global_blocks}
use Rattle.bounds_instr.specs.Instruments.{Instruments}
use Rattle.bounds_instr_keeps.specs.Keeps.{Keeps}
use Rattle.flat_code.specs.Code.{FCode}
use Rattle.flat_discipline.specs.Discipline.{IsDisciplined}
use Rattle.rv_image.specs.declared.image.Image.{Image}
use Rattle.rv_image.specs.Rules.{IsImage, AreFrames, count_of}
use Rattle.rv_asm.specs.declared.parts.Part.{Part}
use Rattle.rv_asm.specs.Parts.{AreParts}
use Rattle.rv_asm.specs.Runs.{IsResolved}
use Rattle.rv_asm.specs.Text.{text_of}
use Rattle.rv_selected.specs.Selection.{selected}
use Rattle.rv_selected.specs.Shape.{HasShape}
use Rattle.bb_driver.specs.Compiles.{no_sites, IsMade}

-- frames without objects keep the rules
frames_fit : (n : ℕ) → AreFrames (replicate n [])
frames_fit zero = tt
frames_fit (suc n) = (tt, lit≤ tt, frames_fit n)

no_blocks : (n : ℕ) → count_of (replicate n []) ≡ 0
no_blocks zero = refl
no_blocks (suc n) = ap (λ k. length {A = ℕ} [] + k) (no_blocks n)

-- the start code has words
some_words : (code : FCode) (text : List ℕ) (labels : ℕ → ℕ) → text ≡ text_of labels 4096 (selected 4 code) → 1 ≤ length text
some_words code text labels e = let n = ap length e in omega (arith, n)

-- what is not refused is not unchecked
pub refused : (e : VerifyError) (f p : ℕ) → e ≡ Unchecked f p → (let r : Result (Unit {0}) VerifyError = Err e in IsNoRefusal r) → ⊥
refused e f p is h = subst (λ x. let r : Result (Unit {0}) VerifyError = Err x in IsNoRefusal r) is h

-- what an image is, field by field
pub record IsPlain (image : Image) (functions : ℕ) : Type 0 where
  pub version : image.version ≡ 1
  pub entry : image.entry ≡ TEXT_START
  pub globals : image.globals ≡ []
  pub frames : image.frames ≡ replicate functions []
  pub initial : image.initial ≡ []

module _ (p : Program) (code : FCode) (parts : List Part) (image : Image) (plain : IsPlain image (length p.functions)) (few : length p.functions ≤ 1000)
    (instruments : Instruments 4 p code) (are : AreParts parts) (same : parts ≡ selected 4 code) (resolved : IsResolved parts image.text) (shape : HasShape image.text) where
  some : 1 ≤ length image.text
  some = some_words code image.text resolved.labels (resolved.words ∙ ap (text_of resolved.labels 4096) same)

  fits : 4 * length image.text ≤ 2093056
  fits = let a = resolved.size in let b = are.size in omega (arith, a, b)

  rules : IsImage image
  rules =
      let entry = plain.entry in
      let count : length image.frames ≡ length p.functions = ap length plain.frames ∙ length-replicate (length p.functions) [] in
      record {
        version = plain.version;
        entry_aligned = rw entry refl;
        entry_low = omega (arith, entry);
        entry_high = omega (arith, entry);
        globals_few = rw plain.globals (lit≤ tt);
        globals_decline = rw plain.globals tt;
        globals_fit = rw plain.globals (lit≤ tt);
        frames_few = omega (arith, count, few);
        blocks_few = let none = ap count_of plain.frames ∙ no_blocks (length p.functions) in omega (arith, none);
        frames_fit = subst AreFrames (sym plain.frames) (frames_fit (length p.functions));
        initial_fits = rw (plain.initial, plain.globals) (lit≤ tt);
        initial_ends = rw plain.initial tt;
        text_some = some;
        text_fits = fits;
        entry_within = omega (arith, entry, some);
      }

  pub made : IsMade p image
  made = record {
    kept = subst (Keeps 4 no_sites p) instruments.is instruments.keeps;
    disciplined = subst (IsDisciplined 4 (global_blocks 4 p)) instruments.is instruments.disciplined;
    rules = rules;
    resolved = subst (λ q. IsResolved q image.text) (same ∙ ap (selected 4) instruments.is) resolved;
    shape = shape;
    entry = plain.entry;
    globals = plain.globals;
    frames = plain.frames;
    initial = plain.initial;
  }
