-- From the answer of the compiler, or the run of an image, to the answer of a text, and from a text to its file.
use Rattle.std.proofs.Common.{◌≡◌, ◌≢◌, ℕ, ◌≤◌, List, Option, Some, None, refl, sym, subst, arith}
use Rattle.std.specs.Prelude.{Err}
use Rattle.rv_image.specs.Spelling.{spelling}
use Rattle.rv_image.specs.declared.image.Image.{Image}
use Rattle.rv_machine.specs.declared.stop.Stop.{Stop}
use Rattle.rv_machine.specs.declared.stop.Stop.TheVariants as stop
use Rattle.rv_machine.specs.State.{State}
use Rattle.rv_machine.specs.Start.{start}
use Rattle.rv_machine.specs.Runs.{Stops, FaultCause, fault_of}
use Rattle.bb_outside.specs.Causes.{Rose}
use Rattle.bb_outside.specs.Files.{Told, Untold, Missing, Holds, Made, Stays}
use Rattle.lowering_counts.specs.declared.error.LowerError.TheVariants as lower
use Rattle.bb_driver.specs.declared.error.CompileError.{CompileError}
use Rattle.bb_driver.specs.declared.error.CompileError.TheVariants as compile
use Rattle.bb_driver.specs.Sources.{Checks}
use Rattle.bb_driver.specs.Compiles.{IsImageOf, Compiles}
use Rattle.baggy_tool.specs.declared.ending.Ending.{Ending}
use Rattle.baggy_tool.specs.declared.ending.Ending.TheVariants as ending
use Rattle.baggy_tool.specs.Building.{refused, RunsImage, WritesImage}
use Rattle.baggy_tool.specs.Calls.{Streams, Files, Noting, RunsTo, AnswersRun, IsSpelled, AnswersExec, WritesTo, AnswersCompile, AnswersCheck, Answers, AnswersWords, IsKept, Notes}
use Rattle.baggy_tool.specs.Endings.{ending_of, line_of}
use Rattle.baggy_tool.specs.Files.{most_source, most_image, IsFile}
use Rattle.baggy_tool.specs.Notes.{IsAppended}
use Rattle.baggy_tool.specs.Words.{Request, Run, Exec, Compile, Check}

-- ---- A source that has no image

-- what the compiler refuses, or is not built, is refused
pub refused_runs : (text : List ℕ) (n : ℕ) (now : Streams) (error : CompileError) → Compiles text (Err error) → AnswersRun text n now now None (refused error)
refused_runs text n now (compile.Lex error) h = (h, refl)
refused_runs text n now (compile.Parse error) h = (h, refl)
refused_runs text n now (compile.Typing error) h = (h, refl)
refused_runs text n now (compile.Layout error) h = (h, refl)
refused_runs text n now (compile.Lower (lower.TooManyNodes count)) h = (h, refl)
refused_runs text n now (compile.Lower (lower.TooManyValues name count)) h = (h, refl)
refused_runs text n now (compile.Lower lower.NotBuilt) h = (h, refl)
refused_runs text n now (compile.Lower lower.Memory) h = (h, refl)
refused_runs text n now compile.Memory h = refl

pub refused_compiles : (text : List ℕ) (old new : Told) (faults faults' : ℕ) (error : CompileError) → Compiles text (Err error) → AnswersCompile text old new faults faults' None (refused error)
refused_compiles text old new faults faults' (compile.Lex error) h = h
refused_compiles text old new faults faults' (compile.Parse error) h = h
refused_compiles text old new faults faults' (compile.Typing error) h = h
refused_compiles text old new faults faults' (compile.Layout error) h = h
refused_compiles text old new faults faults' (compile.Lower (lower.TooManyNodes count)) h = h
refused_compiles text old new faults faults' (compile.Lower (lower.TooManyValues name count)) h = h
refused_compiles text old new faults faults' (compile.Lower lower.NotBuilt) h = h
refused_compiles text old new faults faults' (compile.Lower lower.Memory) h = h
refused_compiles text old new faults faults' compile.Memory h = tt

pub refused_checks : (text : List ℕ) (error : CompileError) → Checks text (Err error) → AnswersCheck text None (refused error)
refused_checks text (compile.Lex error) h = h
refused_checks text (compile.Parse error) h = h
refused_checks text (compile.Typing error) h = h
refused_checks text (compile.Layout error) h = h
refused_checks text (compile.Lower (lower.TooManyNodes count)) h = h
refused_checks text (compile.Lower (lower.TooManyValues name count)) h = h
refused_checks text (compile.Lower lower.NotBuilt) h = absurd h.3
refused_checks text (compile.Lower lower.Memory) h = h
refused_checks text compile.Memory h = tt

-- ---- A run

pub stop_runs : (stop : Stop) (n : ℕ) (image : Image) (before after : Streams) (s : State) → Stops stop n (start image) before.shown s after.shown → FaultCause (fault_of stop) before.input_faults after.input_faults before.output_faults after.output_faults → RunsTo (ending_of stop) n image before after
stop_runs stop n image before after s p f = record { stop = stop; is = refl; state = s; stops = p; cause = f }

no_note_fault : (n : ℕ) (image : Image) (before after : Streams) → RunsTo ending.NoteFault n image before after → ⊥
no_note_fault n image before after h = by h.stop h.is
  where
    by : (stop : Stop) → ending.NoteFault ≡ ending_of stop → ⊥
    by (stop.Exited status) e = absurd (cc)
    by (stop.Reported kind line) e = absurd (cc)
    by (stop.Trapped kind) e = absurd (cc)
    by stop.OutOfSteps e = absurd (cc)
    by stop.ReadFault e = absurd (cc)
    by stop.WriteFault e = absurd (cc)

-- the answer of a text whose image was run, or lacked memory for that
pub text_runs : (text : List ℕ) (n : ℕ) (image : Image) (before after : Streams) (same : Option Image) (e : Ending) → IsImageOf text image → RunsImage image n before after same e → AnswersRun text n before after same e
text_runs text n image before after None e of p = subst (λ (x : Ending). AnswersRun text n before after None x) (sym p.0) p.1
text_runs text n image before after (Some same) e of p = (subst (IsImageOf text) (sym p.0) of, subst (λ (x : Image). RunsTo e n x before after) (sym p.0) p.1)

pub bytes_run : (bytes : List ℕ) (n : ℕ) (image : Image) (before after : Streams) (same : Option Image) (e : Ending) → IsSpelled bytes image → RunsImage image n before after same e → AnswersExec bytes n before after same e
bytes_run bytes n image before after None e of p = subst (λ (x : Ending). AnswersExec bytes n before after None x) (sym p.0) p.1
bytes_run bytes n image before after (Some same) e of p = (subst (IsSpelled bytes) (sym p.0) of, subst (λ (x : Image). RunsTo e n x before after) (sym p.0) p.1)

pub text_is_written : (text : List ℕ) (old new : Told) (faults faults' : ℕ) (image : Image) (same : Option Image) (e : Ending) → IsImageOf text image → WritesImage image old new faults faults' same e → AnswersCompile text old new faults faults' same e
text_is_written text old new faults faults' image None e of p = subst (λ (x : Ending). AnswersCompile text old new faults faults' None x) (sym p) tt
text_is_written text old new faults faults' image (Some same) e of p = (subst (IsImageOf text) (sym p.0) of, subst (λ (x : Image). WritesTo old new faults faults' x e) (sym p.0) p.1)

-- ---- The file

-- the answer of a text is that of its file
pub file_runs : (file : List ℕ) (n : ℕ) (before after : Files) (old new : Streams) (text : List ℕ) (image : Option Image) (e : Ending) → IsFile most_source (before.file file) text → AnswersRun text n old new image e → Answers (Run file n) before after old new image e
file_runs file n before after old new text (Some image) e f h = record { text = text; read = f; answers = h }
file_runs file n before after old new text None ending.NoFile f h = absurd h
file_runs file n before after old new text None ending.FileFault f h = absurd h
file_runs file n before after old new text None ending.NoMemory f h = h
file_runs file n before after old new text None e f h = record { text = text; read = f; answers = h }

pub file_execs : (file : List ℕ) (n : ℕ) (before after : Files) (old new : Streams) (bytes : List ℕ) (image : Option Image) (e : Ending) → IsFile most_image (before.file file) bytes → AnswersExec bytes n old new image e → Answers (Exec file n) before after old new image e
file_execs file n before after old new bytes (Some image) e f h = record { text = bytes; read = f; answers = h }
file_execs file n before after old new bytes None ending.NoFile f h = absurd h
file_execs file n before after old new bytes None ending.FileFault f h = absurd h
file_execs file n before after old new bytes None ending.NoMemory f h = h
file_execs file n before after old new bytes None e f h = record { text = bytes; read = f; answers = h }

-- the shelf between the read and the write tells what it told before
made_from : (told mid new : Told) (bytes : List ℕ) → Stays told mid → Made mid new bytes → Made told new bytes
made_from Untold Untold new bytes s m = m
made_from Untold Missing new bytes s m = subst (λ (t : Told). Made Untold t bytes) (sym m) refl
made_from Untold (Holds now) new bytes s m = subst (λ (t : Told). Made Untold t bytes) (sym m) refl
made_from Missing mid new bytes s m = subst (λ (t : Told). Made t new bytes) s m
made_from (Holds now) mid new bytes s m = subst (λ (t : Told). Made t new bytes) s m

pub stays_on : (told mid new : Told) → Stays told mid → Stays mid new → Stays told new
stays_on Untold mid new s t = tt
stays_on Missing mid new s t = subst (λ (x : Told). Stays x new) s t
stays_on (Holds now) mid new s t = subst (λ (x : Told). Stays x new) s t

rose_from : (a b c : ℕ) → a ≤ b → Rose b c → Rose a c
rose_from a b c le r = grind arith

writes_from : (told mid new : Told) (a b c : ℕ) (image : Image) (e : Ending) → Stays told mid → a ≤ b → WritesTo mid new b c image e → WritesTo told new a c image e
writes_from told mid new a b c image ending.Wrote s le w = made_from told mid new (spelling image) s w
writes_from told mid new a b c image ending.FileFault s le w = rose_from a b c le w
writes_from told mid new a b c image ending.NoMemory s le w = stays_on told mid new s w
writes_from told mid new a b c image e s le w = absurd w

compiles_from : (text : List ℕ) (told mid new : Told) (a b c : ℕ) (image : Option Image) (e : Ending) → Stays told mid → a ≤ b → AnswersCompile text mid new b c image e → AnswersCompile text told new a c image e
compiles_from text told mid new a b c (Some image) e s le w = (w.0, writes_from told mid new a b c image e s le w.1)
compiles_from text told mid new a b c None e s le w = w

pub file_compiles : (file path : List ℕ) (before after : Files) (mid : Told) (b : ℕ) (old : Streams) (text : List ℕ) (image : Option Image) (e : Ending) → IsFile most_source (before.file file) text → Stays (before.file path) mid → before.faults ≤ b → AnswersCompile text mid (after.file path) b after.faults image e → Answers (Compile file path) before after old old image e
file_compiles file path before after mid b old text image e f s le h = by image e (compiles_from text (before.file path) mid (after.file path) before.faults b after.faults image e s le h)
  where
    by : (image : Option Image) (e : Ending) → AnswersCompile text (before.file path) (after.file path) before.faults after.faults image e → Answers (Compile file path) before after old old image e
    by (Some image) e h = record { text = text; read = f; answers = (h, refl) }
    by None ending.NoFile h = absurd h
    by None ending.FileFault h = absurd h
    by None ending.NoMemory h = refl
    by None e h = record { text = text; read = f; answers = (h, refl) }

pub file_checks : (file : List ℕ) (before after : Files) (old : Streams) (text : List ℕ) (e : Ending) → IsFile most_source (before.file file) text → AnswersCheck text None e → Answers (Check file) before after old old None e
file_checks file before after old text ending.NoFile f h = absurd h
file_checks file before after old text ending.FileFault f h = absurd h
file_checks file before after old text ending.NoMemory f h = refl
file_checks file before after old text e f h = record { text = text; read = f; answers = (h, refl) }

-- ---- The words and the notes

pub words_want : (r : Option Request) (before : Files) (old : Streams) (image : Option Image) (e : Ending) → image ≡ None → e ≡ ending.NoMemory → AnswersWords r before before old old image e
words_want r before old image e i is = subst (λ (x : Option Image). AnswersWords r before before old old x e) (sym i) (subst (λ (x : Ending). AnswersWords r before before old old None x) (sym is) (by r))
  where
    by : (r : Option Request) → AnswersWords r before before old old None ending.NoMemory
    by None = refl
    by (Some q) = refl

pub words_none : (r : Option Request) (before : Files) (old : Streams) (image : Option Image) (e : Ending) → None ≡ r → image ≡ None → e ≡ ending.Usage → AnswersWords r before before old old image e
words_none r before old image e n i is =
    subst (λ (x : Option Request). AnswersWords x before before old old image e) n
    (subst (λ (x : Option Image). AnswersWords None before before old old x e) (sym i) (subst (λ (x : Ending). AnswersWords None before before old old None x) (sym is) refl))

pub words_ask : (r : Option Request) (q : Request) (before after : Files) (old new : Streams) (image : Option Image) (e : Ending) → Some q ≡ r → Answers q before after old new image e → AnswersWords r before after old new image e
words_ask r q before after old new image e is h = subst (λ (x : Option Request). AnswersWords x before after old new image e) is h

pub kept_ask : (r : Option Request) (q : Request) (image : Option Image) (name : List ℕ) → Some q ≡ r → IsKept r image name → IsKept (Some q) image name
kept_ask r q image name is h = subst (λ (x : Option Request). IsKept x image name) (sym is) h

pub kept_same : (r : Option Request) (image image' : Option Image) (name : List ℕ) → image' ≡ image → IsKept r image' name → IsKept r image name
kept_same r image image' name is h = subst (λ (x : Option Image). IsKept r x name) is h

no_fault_before : (r : Option Request) (before after : Files) (old new : Streams) (image : Option Image) → AnswersWords r before after old new image ending.NoteFault → ⊥
no_fault_before None before after old new None h = h
no_fault_before None before after old new (Some image) h = h
no_fault_before (Some (Run file n)) before after old new None h = h.answers
no_fault_before (Some (Run file n)) before after old new (Some image) h = no_note_fault n image old new h.answers.1
no_fault_before (Some (Exec file n)) before after old new None h = h.answers
no_fault_before (Some (Exec file n)) before after old new (Some image) h = no_note_fault n image old new h.answers.1
no_fault_before (Some (Compile file path)) before after old new None h = h.answers.0
no_fault_before (Some (Compile file path)) before after old new (Some image) h = h.answers.0.1
no_fault_before (Some (Check file)) before after old new None h = h.answers.0
no_fault_before (Some (Check file)) before after old new (Some image) h = h.answers.0

-- no call ends by a fault of the notes before it notes anything
pub not_noted_yet : (r : Option Request) (before after : Files) (old new : Streams) (e : Ending) (image : Option Image) → AnswersWords r before after old new image e → e ≢ ending.NoteFault
not_noted_yet r before after old new e image h = λ is. no_fault_before r before after old new image (subst (λ (x : Ending). AnswersWords r before after old new image x) is h)

pub noted_whole : (e : Ending) (before after : Noting) → e ≢ ending.NoteFault → IsAppended (line_of e) before.written after.written → Notes e before after e
noted_whole ending.NoteFault before after n h = absurd (n refl)
noted_whole e before after n h = (refl, h)
