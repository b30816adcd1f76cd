-- A text has one program at most, and one that is accepted is not refused.
use Rattle.std.proofs.Common.{◌≡◌, ℕ, ◌≤◌, List, sym, ap, ◌∙◌, subst, arith}
use Rattle.std.specs.Prelude.{All, Bool, true, false, Some, Result, Ok, Err, slice_get}
use Rattle.std.proofs.lemmas.Bool.{true≢false}
use Rattle.std.proofs.lemmas.Option.{get_or_from_slice_get, slice_get_within}
use Rattle.c_lexer.specs.Text.{Lexeme, Lexes, HasOneReading, placed}
use Rattle.c_lexer.specs.declared.fault.LexError.{LexError}
use Rattle.c_lexer.specs.declared.fault.LexError.TheVariants as lex
use Rattle.typing_operators.specs.declared.error.TypeError.{TypeError}
use Rattle.typing_operators.specs.declared.error.TypeError.TheVariants as typing
use Rattle.syntax_tree.specs.Syntax.{UnitTree}
use Rattle.syntax_tree.specs.Grammar.{Derives}
use Rattle.syntax_tree.specs.GrammarLimits.{within_limits}
use Rattle.syntax_tree.specs.GrammarRefusals.{Refusal, IsNotRefused}
use Rattle.c_parser_rules.specs.Laws.{HasOneUnit}
use Rattle.c_parser.specs.declared.parser.ParseError.TheVariants as parse
use Rattle.typed_tree.specs.TypedTree.{CProgram, CFunction}
use Rattle.typed_tree.specs.Counts.{values_of}
use Rattle.typing_unit_keeps.specs.Units.{typed_unit}
use Rattle.typing_accepted.specs.AcceptanceLaws.{AcceptedIsTyped, FilesFailAtFirst}
use Rattle.block_layout.specs.Answers.{ObjectsFit, DoNotFit, frame_bytes, most_frame_bytes}
use Rattle.block_layout.specs.declared.error.LayoutError.{LayoutError}
use Rattle.block_layout.specs.declared.error.LayoutError.TheVariants as layout
use Rattle.lowering_counts.specs.Limits.{PassesLimit}
use Rattle.lowering_counts.specs.declared.error.LowerError.{LowerError}
use Rattle.lowering_counts.specs.declared.error.LowerError.TheVariants as lower
use Rattle.lowering_counts.specs.Built.{is_built, IsBuilt}
use Rattle.bb_driver.specs.declared.compile.Compiled.{Compiled}
use Rattle.bb_driver.specs.declared.error.CompileError.{CompileError}
use Rattle.bb_driver.specs.declared.error.CompileError.TheVariants as compile
use Rattle.bb_driver.specs.Sources.{Reads, Means, Accepts, FailsAt, FailsToType, Refuses}
use Rattle.bb_driver.specs.Compiles.{Compiles, IsAnswered}
use Rattle.bb_driver.specs.OneAnswer.{HasOneAnswer}

ok_is : {A E : Type 0} (x y : A) → (let r : Result A E = Ok x in r ≡ Ok y) → x ≡ y
ok_is {A} {E} x y e = ap or_first e
  where
    or_first : Result A E → A
    or_first (Ok z) = z
    or_first (Err f) = x

pub no_error : {A E : Type 0} (x : A) (f : E) → (let r : Result A E = Ok x in r ≡ Err f) → ⊥
no_error {A} {E} x f e = true≢false (ap is_value e)
  where
    is_value : Result A E → Bool
    is_value (Ok z) = true
    is_value (Err g) = false

-- what holds of each element holds of the one that is found
of_found : {A : Type 0} (P : A → Type 0) (xs : List A) (k : ℕ) (x : A) → All P xs → slice_get xs k ≡ Some x → P x
of_found P xs k x all e = subst P (get_or_from_slice_get xs k x x e) (all k x (slice_get_within xs k x e))

-- objects that have room are not refused
pub no_room : (p : CProgram) (e : LayoutError) → ObjectsFit p → DoNotFit p e → ⊥
no_room p (layout.GlobalsFull total) fit h = let few = fit.globals in let many = h.0 in absurd (omega (arith, few, many))
no_room p (layout.FrameFull name total) fit h =
    let most = of_found (λ (f : CFunction). frame_bytes f ≤ most_frame_bytes) p.functions h.1.number h.1.function fit.frames h.1.found in
    let more = h.1.full in
    absurd (omega (arith, most, more))
no_room p layout.Memory fit h = h

module _ (reading : HasOneReading) (unit : HasOneUnit) (fine : IsNotRefused) (typed : AcceptedIsTyped) (failing : FilesFailAtFirst) where
  pub tokens_are : (text : List ℕ) (a b : List Lexeme) → Lexes text (Ok a) → Lexes text (Ok b) → a ≡ b
  tokens_are text a b x y = ok_is a b ((reading text).2 (Ok a) x ∙ sym ((reading text).2 (Ok b) y))

  pub not_lexed : (text : List ℕ) (a : List Lexeme) (f : LexError) → Lexes text (Ok a) → Lexes text (Err f) → ⊥
  not_lexed text a f x y = no_error a f ((reading text).2 (Ok a) x ∙ sym ((reading text).2 (Err f) y))

  pub trees_are : (text : List ℕ) (s t : UnitTree) → Reads text s → Reads text t → s ≡ t
  trees_are text s t x y = unit within_limits (placed y.0) s t (subst (λ ts. Derives within_limits (placed ts) s) (tokens_are text x.0 y.0 x.1 y.1) x.2) y.2

  pub one_program : (text : List ℕ) (p q : CProgram) → Means text p → Means text q → p ≡ q
  one_program text p q x y = ok_is p q (sym ((typed x.0 p).forward x.2) ∙ ap typed_unit (trees_are text x.0 y.0 x.1 y.1) ∙ (typed y.0 q).forward y.2)

  pub not_failed : (text : List ℕ) (t : UnitTree) (why : Refusal) (token line : ℕ) → Reads text t → FailsAt text why token line → ⊥
  not_failed text t why token line x y = fine (placed y.0) t why token (subst (λ ts. Derives within_limits (placed ts) t) (tokens_are text x.0 y.0 x.1 y.1) x.2) y.2

  within : (p : CProgram) (e : LowerError) → (text : List ℕ) → Accepts text p → PassesLimit p e → ⊥
  within p (lower.TooManyNodes count) text a h = let few = a.1.nodes in let many = h.0 in absurd (omega (arith, few, many))
  within p (lower.TooManyValues name count) text a h =
      let most = of_found (λ (f : CFunction). values_of f ≤ 250) p.functions h.1.number h.1.function a.1.values h.1.found in
      let more = h.1.full in
      absurd (omega (arith, most, more))
  within p lower.NotBuilt text a h = h
  within p lower.Memory text a h = h

  pub not_typed : (text : List ℕ) (p : CProgram) (f : TypeError) → Means text p → FailsToType text f → ⊥
  not_typed text p f m h = no_error p f (sym ((typed m.0 p).forward m.2) ∙ ap typed_unit (trees_are text m.0 h.0 m.1 h.1) ∙ (failing h.0 f).backward h.2)

  not_refused : (text : List ℕ) (p : CProgram) (e : CompileError) → Accepts text p → Refuses text e → ⊥
  not_refused text p (compile.Lex lex.Memory) a h = h
  not_refused text p (compile.Lex (lex.TooLong n)) a h = not_lexed text a.0.1.0 (lex.TooLong n) a.0.1.1 h
  not_refused text p (compile.Lex (lex.BadByte n)) a h = not_lexed text a.0.1.0 (lex.BadByte n) a.0.1.1 h
  not_refused text p (compile.Lex (lex.BadNumber n)) a h = not_lexed text a.0.1.0 (lex.BadNumber n) a.0.1.1 h
  not_refused text p (compile.Lex (lex.BadEscape n)) a h = not_lexed text a.0.1.0 (lex.BadEscape n) a.0.1.1 h
  not_refused text p (compile.Lex (lex.Unclosed n)) a h = not_lexed text a.0.1.0 (lex.Unclosed n) a.0.1.1 h
  not_refused text p (compile.Lex (lex.BadDirective n)) a h = not_lexed text a.0.1.0 (lex.BadDirective n) a.0.1.1 h
  not_refused text p (compile.Parse (parse.Syntax token line)) a h = not_failed text a.0.0 Refusal.Syntax token line a.0.1 h
  not_refused text p (compile.Parse (parse.TooDeep token line)) a h = not_failed text a.0.0 Refusal.TooDeep token line a.0.1 h
  not_refused text p (compile.Parse parse.Memory) a h = h
  not_refused text p (compile.Typing typing.Memory) a h = h
  not_refused text p (compile.Typing (typing.Unknown l x)) a h = not_typed text p (typing.Unknown l x) a.0 h
  not_refused text p (compile.Typing (typing.Twice l x)) a h = not_typed text p (typing.Twice l x) a.0 h
  not_refused text p (compile.Typing (typing.BadType l n)) a h = not_typed text p (typing.BadType l n) a.0 h
  not_refused text p (compile.Typing typing.NoMain) a h = not_typed text p typing.NoMain a.0 h
  not_refused text p (compile.Typing (typing.TooLarge l n)) a h = not_typed text p (typing.TooLarge l n) a.0 h
  not_refused text p (compile.Typing (typing.TooManyParams l)) a h = not_typed text p (typing.TooManyParams l) a.0 h
  not_refused text p (compile.Typing (typing.TooManyFunctions l)) a h = not_typed text p (typing.TooManyFunctions l) a.0 h
  not_refused text p (compile.Layout f) a h = no_room p f a.1.objects (subst (λ q. DoNotFit q f) (one_program text h.0 p h.1 a.0) h.2)
  not_refused text p (compile.Lower f) a h = within p f text a (subst (λ q. PassesLimit q f) (one_program text h.0 p h.1 a.0) h.3)
  not_refused text p compile.Memory a h = h

  pub one_answer : ((text : List ℕ) (e f : CompileError) → Refuses text e → Refuses text f → e ≡ f) → HasOneAnswer
  one_answer refusal = record { program = one_program; answer = not_refused; refusal = refusal }

-- a text whose program is built is not refused
module _ (one : HasOneAnswer) (text : List ℕ) (p : CProgram) (accepted : Accepts text p) (built : IsBuilt p) where
  pub is_answered : (r : Result Compiled CompileError) → Compiles text r → IsAnswered r
  is_answered (Ok compiled) h = tt
  is_answered (Err compile.Memory) h = tt
  is_answered (Err (compile.Lex f)) h = absurd (one.answer text p (compile.Lex f) accepted h)
  is_answered (Err (compile.Parse f)) h = absurd (one.answer text p (compile.Parse f) accepted h)
  is_answered (Err (compile.Typing f)) h = absurd (one.answer text p (compile.Typing f) accepted h)
  is_answered (Err (compile.Layout f)) h = absurd (one.answer text p (compile.Layout f) accepted h)
  is_answered (Err (compile.Lower (lower.TooManyNodes n))) h = absurd (one.answer text p (compile.Lower (lower.TooManyNodes n)) accepted h)
  is_answered (Err (compile.Lower (lower.TooManyValues x n))) h = absurd (one.answer text p (compile.Lower (lower.TooManyValues x n)) accepted h)
  is_answered (Err (compile.Lower lower.Memory)) h = absurd (one.answer text p (compile.Lower lower.Memory) accepted h)
  is_answered (Err (compile.Lower lower.NotBuilt)) h =
      absurd (true≢false (sym (subst (λ q. is_built q ≡ true) (one.program text p h.0 accepted.0 h.1.0) built) ∙ h.2))
