-- A source that is accepted is run, compiled and checked, unless the outside fails or memory is wanting.
use Rattle.std.proofs.Common.{◌≡◌, ℕ, ◌+◌, ◌≤◌, List, length, take, Option, Some, None, inl, inr, ◌⊎◌, refl, sym, subst, ◌∙◌, arith}
use Rattle.std.specs.Prelude.{true, Result, Ok, Err}
use Rattle.std.proofs.lemmas.Bool.{true≢false}
use Rattle.std.proofs.lemmas.Grind.{common_steps}
use Rattle.bb_outside.specs.Causes.{Rose}
use Rattle.bb_outside.specs.Files.{Told, Holds, Stays}
use Rattle.c_lexer.specs.Text.{Lexeme, Lexes, too_long, whole, faulty}
use Rattle.c_lexer.specs.declared.fault.LexError.{LexError}
use Rattle.lowering_counts.specs.Built.{is_built, IsBuilt}
use Rattle.rv_image.specs.declared.image.Image.{Image}
use Rattle.bb_driver.specs.OneAnswer.{HasOneAnswer}
use Rattle.bb_driver.specs.Sources.{IsAccepted}
use Rattle.baggy_tool.specs.declared.ending.Ending.{Ending}
use Rattle.baggy_tool.specs.declared.ending.Ending.TheVariants as ending
use Rattle.baggy_tool.specs.declared.ending.Refusal.{Refusal}
use Rattle.baggy_tool.specs.declared.ending.Refusal.TheVariants as refusal
use Rattle.baggy_tool.specs.Refusals.{Refuses}
use Rattle.baggy_tool.specs.Calls.{Streams, Files, Noting, AnswersRun, AnswersCompile, AnswersCheck, AnswersFile, Answers, AnswersWords, IsKept, Notes}
use Rattle.baggy_tool.specs.Files.{most_source, IsFile, IsAbsent}
use Rattle.baggy_tool.specs.Laws.{Call, IsRun, IsWritten, AcceptedIsRun}
use Rattle.baggy_tool.specs.Words.{Request, Run, Compile, Check}

-- ---- The whole file was read

abbrev IsShort : List ℕ → Result (List Lexeme) LexError → Type 0
IsShort text (Ok tokens) = length text ≤ most_source
IsShort text (Err error) = Unit {0}

is_short : (text : List ℕ) (r : Result (List Lexeme) LexError) → Lexes text r → IsShort text r
is_short text r (too_long t long) = tt
is_short text r (whole t pieces short cut) = short
is_short text r (faulty t front rest pieces fault short at cut bad) = tt

whole_read : (most : ℕ) (text bytes : List ℕ) → length bytes ≤ most → text ≡ take (most + 1) bytes → text ≡ bytes
whole_read most text bytes short h = grind (arith, common_steps)

-- the words and the notes
ending_is : (e f : Ending) (before after : Noting) → (Rose before.faults after.faults → ⊥) → Notes e before after f → e ≡ f
ending_is e ending.NoteFault before after none h = absurd (none h.0)
ending_is e f before after none h = sym h.0

module _ (one : HasOneAnswer) (text : List ℕ) (accepted : IsAccepted text) where
  of_text : (told : Told) (P : List ℕ → Type 0) → told ≡ Holds text → AnswersFile most_source told P → P text
  of_text told P is h =
      let read = subst (λ (t : Told). IsFile most_source t h.text) is h.read in
      subst P (whole_read most_source h.text text (is_short text (Ok accepted.1.0.1.0) accepted.1.0.1.1) read) h.answers

  not_absent : (told : Told) → told ≡ Holds text → IsAbsent told → ⊥
  not_absent told is h = subst IsAbsent is h

  not_refused : IsBuilt accepted.0 → (e : Refusal) → Refuses text e → ⊥
  not_refused built (refusal.Source e) h = one.answer text accepted.0 e accepted.1 h
  not_refused built (refusal.Image e) h = h
  not_refused built refusal.NotBuilt h = true≢false (sym (subst (λ q. is_built q ≡ true) (one.program text accepted.0 h.0 accepted.1.0 h.1.0) built) ∙ h.2)

  text_runs : (n : ℕ) (old new : Streams) (image : Option Image) (e : Ending) → IsBuilt accepted.0 → AnswersRun text n old new image e → IsRun text n old new image e
  text_runs n old new (Some image) e built h = h
  text_runs n old new None (ending.Refused e) built h = absurd (not_refused built e h.0)
  text_runs n old new None ending.NoMemory built h = (refl, h)
  text_runs n old new None e built h = absurd h

  file_runs : (file : List ℕ) (n : ℕ) (before after : Files) (old new : Streams) (image : Option Image) (e : Ending) → IsBuilt accepted.0 → before.file file ≡ Holds text → (Rose before.faults after.faults → ⊥) →
      Answers (Run file n) before after old new image e → IsRun text n old new image e
  file_runs file n before after old new None ending.NoFile built told read h = absurd (not_absent (before.file file) told h.0)
  file_runs file n before after old new None ending.FileFault built told read h = absurd (read h.0)
  file_runs file n before after old new None ending.NoMemory built told read h = (refl, h)
  file_runs file n before after old new image e built told read h = text_runs n old new image e built (of_text (before.file file) (λ t. AnswersRun t n old new image e) told h)

  text_compiles : (old new : Told) (a b : ℕ) (image : Option Image) (e : Ending) → IsBuilt accepted.0 → (Rose a b → ⊥) → (image ≡ None → Stays old new) → AnswersCompile text old new a b image e → IsWritten text old new image e
  text_compiles old new a b (Some image) ending.Wrote built read stays h = h
  text_compiles old new a b (Some image) ending.FileFault built read stays h = absurd (read h.1)
  text_compiles old new a b (Some image) ending.NoMemory built read stays h = h.1
  text_compiles old new a b (Some image) e built read stays h = absurd h.1
  text_compiles old new a b None (ending.Refused e) built read stays h = absurd (not_refused built e h)
  text_compiles old new a b None ending.NoMemory built read stays h = stays refl
  text_compiles old new a b None e built read stays h = absurd h

  file_compiles : (file path : List ℕ) (before after : Files) (old new : Streams) (image : Option Image) (e : Ending) → IsBuilt accepted.0 → before.file file ≡ Holds text → (Rose before.faults after.faults → ⊥) →
      (image ≡ None → Stays (before.file path) (after.file path)) → Answers (Compile file path) before after old new image e → IsWritten text (before.file path) (after.file path) image e
  file_compiles file path before after old new None ending.NoFile built told read stays h = absurd (not_absent (before.file file) told h.0)
  file_compiles file path before after old new None ending.FileFault built told read stays h = absurd (read h.0)
  file_compiles file path before after old new None ending.NoMemory built told read stays h = stays refl
  file_compiles file path before after old new image e built told read stays h =
      text_compiles (before.file path) (after.file path) before.faults after.faults image e built read stays
      (of_text (before.file file) (λ t. AnswersCompile t (before.file path) (after.file path) before.faults after.faults image e × (new ≡ old)) told h).0

  text_checks : (image : Option Image) (e : Ending) → AnswersCheck text image e → (e ≡ ending.Checked) ⊎ (e ≡ ending.NoMemory)
  text_checks None ending.Checked h = inl refl
  text_checks None (ending.Refused (refusal.Source e)) h = absurd (one.answer text accepted.0 e accepted.1 h)
  text_checks None ending.NoMemory h = inr refl
  text_checks image e h = absurd h

  file_checks : (file : List ℕ) (before after : Files) (old new : Streams) (image : Option Image) (e : Ending) → before.file file ≡ Holds text → (Rose before.faults after.faults → ⊥) →
      Answers (Check file) before after old new image e → (e ≡ ending.Checked) ⊎ (e ≡ ending.NoMemory)
  file_checks file before after old new None ending.NoFile told read h = absurd (not_absent (before.file file) told h.0)
  file_checks file before after old new None ending.FileFault told read h = absurd (read h.0)
  file_checks file before after old new None ending.NoMemory told read h = inr refl
  file_checks file before after old new image e told read h = text_checks image e (of_text (before.file file) (λ t. AnswersCheck t image e × (new ≡ old)) told h).0

-- what was asked for is answered, with the ending that the call has
answers_of : (r : Request) (text : List ℕ) (c : Call r text) → Answers r c.before c.after c.old c.new c.ended.image c.ended.ending
answers_of r text c =
    let asked = subst (λ (q : Option Request). AnswersWords q c.before c.after c.old c.new c.ended.image c.meets.ending) c.asks c.meets.answers in
    subst (λ (e : Ending). Answers r c.before c.after c.old c.new c.ended.image e) (ending_is c.meets.ending c.ended.ending c.notes c.notes' c.noted c.meets.noted) asked

-- where no image came to its file, the file stays
path_stays : (file path text : List ℕ) (c : Call (Compile file path) text) → c.ended.image ≡ None → Stays (c.before.file path) (c.after.file path)
path_stays file path text c none = c.meets.files path (subst (λ (q : Option Request). IsKept q c.ended.image path) (sym c.asks) (subst (λ (i : Option Image). IsKept (Some (Compile file path)) i path) (sym none) tt))

pub accepted_is_run : HasOneAnswer → AcceptedIsRun
accepted_is_run one = record {
  run = λ file n text accepted built c. file_runs one text accepted file n c.before c.after c.old c.new c.ended.image c.ended.ending built c.told c.read (answers_of (Run file n) text c);
  compile = λ file path text accepted built c. file_compiles one text accepted file path c.before c.after c.old c.new c.ended.image c.ended.ending built c.told c.read (path_stays file path text c) (answers_of (Compile file path) text c);
  check = λ file text accepted c. file_checks one text accepted file c.before c.after c.old c.new c.ended.image c.ended.ending c.told c.read (answers_of (Check file) text c);
}
