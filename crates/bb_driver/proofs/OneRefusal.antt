-- A text is refused in one way.
use Rattle.std.proofs.Common.{◌≡◌, ℕ, zero, suc, ◌≤◌, ◌<◌, List, [], ◌∷◌, refl, sym, ap, ◌∙◌, subst, arith}
use Rattle.std.specs.Prelude.{All, Some, take, slice_get, Result, Ok, Err}
use Rattle.std.proofs.lemmas.List.Elements.{All-head, All-tail}
use Rattle.std.proofs.lemmas.Option.{none-some, same_Some}
use Rattle.c_lexer.specs.Text.{Lexeme, Lexes, HasOneReading, placed}
use Rattle.c_lexer.specs.declared.fault.LexError.{LexError}
use Rattle.c_lexer.specs.declared.fault.LexError.TheVariants as lex
use Rattle.syntax_tree.specs.Syntax.{UnitTree}
use Rattle.syntax_tree.specs.GrammarRefusals.{Refusal, IsRefused, HasOneRefusal, IsNotRefused, line_of}
use Rattle.c_parser_rules.specs.Laws.{HasOneUnit}
use Rattle.c_parser.specs.declared.parser.ParseError.{ParseError}
use Rattle.c_parser.specs.declared.parser.ParseError.TheVariants as parse
use Rattle.typing_operators.specs.declared.error.TypeError.{TypeError}
use Rattle.typing_operators.specs.declared.error.TypeError.TheVariants as typing
use Rattle.typed_tree.specs.TypedTree.{CProgram, CFunction}
use Rattle.typed_tree.specs.Counts.{values_of}
use Rattle.typing_unit_keeps.specs.Units.{typed_unit}
use Rattle.typing_accepted.specs.AcceptanceLaws.{AcceptedIsTyped, FilesFailAtFirst}
use Rattle.block_layout.specs.Answers as room
use Rattle.block_layout.specs.Answers.{ObjectsFit, DoNotFit}
use Rattle.block_layout.specs.declared.error.LayoutError.{LayoutError}
use Rattle.block_layout.specs.declared.error.LayoutError.TheVariants as layout
use Rattle.lowering_counts.specs.declared.error.LowerError.{LowerError}
use Rattle.lowering_counts.specs.declared.error.LowerError.TheVariants as lower
use Rattle.lowering_counts.specs.Limits.{counted, IsFirstFull, PassesLimit}
use Rattle.bb_driver.specs.declared.error.CompileError.{CompileError}
use Rattle.bb_driver.specs.declared.error.CompileError.TheVariants as compile
use Rattle.bb_driver.specs.Sources.{Reads, Means, FailsAt, FailsToType, Refuses}
use Rattle.bb_driver.proofs.Unique as unique

error_is : {A E : Type 0} (x y : E) → (let r : Result A E = Err x in r ≡ Err y) → x ≡ y
error_is {A} {E} x y e = ap or_first e
  where
    or_first : Result A E → E
    or_first (Ok z) = x
    or_first (Err f) = f

-- ---- The limits

module _ {A : Type 0} (P : A → Type 0) where
  -- the first element that P does not hold of is at one place
  one_first : (xs : List A) (n m : ℕ) (x y : A) → slice_get xs n ≡ Some x → slice_get xs m ≡ Some y → All P (take n xs) → All P (take m xs) → (P x → ⊥) → (P y → ⊥) → n ≡ m
  one_first [] n m x y f g before before' not not' = absurd (none-some x f)
  one_first (z ∷ zs) zero zero x y f g before before' not not' = refl
  one_first (z ∷ zs) zero (suc m) x y f g before before' not not' = absurd (not (subst P (same_Some z x f) (All-head P z (take m zs) before')))
  one_first (z ∷ zs) (suc n) zero x y f g before before' not not' = absurd (not' (subst P (same_Some z y g) (All-head P z (take n zs) before)))
  one_first (z ∷ zs) (suc n) (suc m) x y f g before before' not not' = ap suc (one_first zs n m x y f g (All-tail P z (take n zs) before) (All-tail P z (take m zs) before') not not')

not_both : (a b : ℕ) → a ≤ b → b < a → ⊥
not_both a b few many = absurd (omega (arith, few, many))

one_first_full : (fs : List CFunction) (a b : List ℕ) (n m : ℕ) → IsFirstFull fs a n → IsFirstFull fs b m → (a ≡ b) × (n ≡ m)
one_first_full fs a b n m x y =
    let place = one_first (λ (f : CFunction). values_of f ≤ 250) fs x.number y.number x.function y.function x.found y.found x.before y.before (λ few. not_both _ _ few x.full) (λ few. not_both _ _ few y.full) in
    let same : x.function ≡ y.function = same_Some x.function y.function (sym x.found ∙ ap (slice_get fs) place ∙ y.found) in
    (x.named ∙ ap (λ (f : CFunction). f.name) same ∙ sym y.named, x.counts ∙ ap (λ (f : CFunction). counted (values_of f)) same ∙ sym y.counts)

one_limit : (p : CProgram) (e f : LowerError) → PassesLimit p e → PassesLimit p f → e ≡ f
one_limit p (lower.TooManyNodes n) (lower.TooManyNodes m) x y = ap (λ k. lower.TooManyNodes k) (x.1 ∙ sym y.1)
one_limit p (lower.TooManyNodes n) (lower.TooManyValues b m) x y = absurd (not_both _ _ y.0 x.0)
one_limit p (lower.TooManyValues a n) (lower.TooManyNodes m) x y = absurd (not_both _ _ x.0 y.0)
one_limit p (lower.TooManyValues a n) (lower.TooManyValues b m) x y =
    let same = one_first_full p.functions a b n m x.1 y.1 in
    ap (λ name. lower.TooManyValues name n) same.0 ∙ ap (λ k. lower.TooManyValues b k) same.1
one_limit p lower.NotBuilt f x y = absurd x
one_limit p lower.Memory f x y = absurd x
one_limit p e lower.NotBuilt x y = absurd y
one_limit p e lower.Memory x y = absurd y

one_full_frame : (fs : List CFunction) (a b : List ℕ) (n m : ℕ) → room.IsFirstFull fs a n → room.IsFirstFull fs b m → (a ≡ b) × (n ≡ m)
one_full_frame fs a b n m x y =
    let place = one_first (λ (f : CFunction). room.frame_bytes f ≤ room.most_frame_bytes) fs x.number y.number x.function y.function x.found y.found x.before y.before (λ few. not_both _ _ few x.full) (λ few. not_both _ _ few y.full) in
    let same : x.function ≡ y.function = same_Some x.function y.function (sym x.found ∙ ap (slice_get fs) place ∙ y.found) in
    (x.named ∙ ap (λ (f : CFunction). f.name) same ∙ sym y.named, x.counts ∙ ap (λ (f : CFunction). room.counted (room.frame_bytes f)) same ∙ sym y.counts)

one_room : (p : CProgram) (e f : LayoutError) → DoNotFit p e → DoNotFit p f → e ≡ f
one_room p (layout.GlobalsFull n) (layout.GlobalsFull m) x y = ap (λ k. layout.GlobalsFull k) (x.1 ∙ sym y.1)
one_room p (layout.GlobalsFull n) (layout.FrameFull b m) x y = absurd (not_both _ _ y.0 x.0)
one_room p (layout.FrameFull a n) (layout.GlobalsFull m) x y = absurd (not_both _ _ x.0 y.0)
one_room p (layout.FrameFull a n) (layout.FrameFull b m) x y =
    let same = one_full_frame p.functions a b n m x.1 y.1 in
    ap (λ name. layout.FrameFull name n) same.0 ∙ ap (λ k. layout.FrameFull b k) same.1
one_room p layout.Memory f x y = absurd x
one_room p e layout.Memory x y = absurd y

-- ---- The layers

abbrev parse_error : Refusal → (token line : ℕ) → ParseError
parse_error Refusal.Syntax token line = parse.Syntax token line
parse_error Refusal.TooDeep token line = parse.TooDeep token line

-- the layer that refuses the text, and how
data Layer (text : List ℕ) (e : CompileError) : Type 0 where
  tokens : (f : LexError) → e ≡ compile.Lex f → Lexes text (Err f) → Layer text e
  grammar : (why : Refusal) (token line : ℕ) → e ≡ compile.Parse (parse_error why token line) → FailsAt text why token line → Layer text e
  types : (f : TypeError) → e ≡ compile.Typing f → FailsToType text f → Layer text e
  objects : (p : CProgram) (f : LayoutError) → e ≡ compile.Layout f → Means text p → DoNotFit p f → Layer text e
  limits : (p : CProgram) (f : LowerError) → e ≡ compile.Lower f → Means text p → ObjectsFit p → PassesLimit p f → Layer text e

fails_to_lex : (text : List ℕ) (e : LexError) → Refuses text (compile.Lex e) → Lexes text (Err e)
fails_to_lex text lex.Memory h = absurd h
fails_to_lex text e h = h

fails_to_type : (text : List ℕ) (e : TypeError) → Refuses text (compile.Typing e) → FailsToType text e
fails_to_type text typing.Memory h = absurd h
fails_to_type text e h = h

layer_of : (text : List ℕ) (e : CompileError) → Refuses text e → Layer text e
layer_of text (compile.Lex f) h = tokens f refl (fails_to_lex text f h)
layer_of text (compile.Parse (parse.Syntax token line)) h = grammar Refusal.Syntax token line refl h
layer_of text (compile.Parse (parse.TooDeep token line)) h = grammar Refusal.TooDeep token line refl h
layer_of text (compile.Parse parse.Memory) h = absurd h
layer_of text (compile.Typing f) h = types f refl (fails_to_type text f h)
layer_of text (compile.Layout f) h = objects h.0 f refl h.1 h.2
layer_of text (compile.Lower f) h = limits h.0 f refl h.1 h.2 h.3
layer_of text compile.Memory h = absurd h

module _ (reading : HasOneReading) (unit : HasOneUnit) (fine : IsNotRefused) (one : HasOneRefusal) (typed : AcceptedIsTyped) (failing : FilesFailAtFirst) where
  not_lexed : (text : List ℕ) (tokens : List Lexeme) (f : LexError) → Lexes text (Ok tokens) → Lexes text (Err f) → ⊥
  not_lexed = unique.not_lexed reading unit fine typed failing

  not_failed : (text : List ℕ) (tree : UnitTree) (why : Refusal) (token line : ℕ) → Reads text tree → FailsAt text why token line → ⊥
  not_failed = unique.not_failed reading unit fine typed failing

  not_typed : (text : List ℕ) (p : CProgram) (f : TypeError) → Means text p → FailsToType text f → ⊥
  not_typed = unique.not_typed reading unit fine typed failing

  one_lex_error : (text : List ℕ) (e f : LexError) → Lexes text (Err e) → Lexes text (Err f) → e ≡ f
  one_lex_error text e f x y = error_is e f ((reading text).2 (Err e) x ∙ sym ((reading text).2 (Err f) y))

  one_failure : (text : List ℕ) (r s : Refusal) (n m j k : ℕ) → FailsAt text r n j → FailsAt text s m k → parse_error r n j ≡ parse_error s m k
  one_failure text r s n m j k x y =
      let same = unique.tokens_are reading unit fine typed failing text x.0 y.0 x.1 y.1 in
      let at = one (placed y.0) r s n m (subst (λ (ts : List Lexeme). IsRefused (placed ts) r n) same x.2) y.2 in
      let line = x.3 ∙ ap (λ (ts : List Lexeme). line_of (placed ts) n) same ∙ ap (line_of (placed y.0)) at.1 ∙ sym y.3 in
      ap (λ (t : Refusal). parse_error t n j) at.0 ∙ ap (λ i. parse_error s i j) at.1 ∙ ap (parse_error s m) line

  one_type_error : (text : List ℕ) (e f : TypeError) → FailsToType text e → FailsToType text f → e ≡ f
  one_type_error text e f x y =
      error_is e f (sym ((failing x.0 e).backward x.2) ∙ ap typed_unit (unique.trees_are reading unit fine typed failing text x.0 y.0 x.1 y.1) ∙ (failing y.0 f).backward y.2)

  one_passed : (text : List ℕ) (p q : CProgram) (e f : LowerError) → Means text p → PassesLimit p e → Means text q → PassesLimit q f → e ≡ f
  one_passed text p q e f x past y past' = one_limit q e f (subst (λ (r : CProgram). PassesLimit r e) (unique.one_program reading unit fine typed failing text p q x y) past) past'

  one_not_fitting : (text : List ℕ) (p q : CProgram) (e f : LayoutError) → Means text p → DoNotFit p e → Means text q → DoNotFit q f → e ≡ f
  one_not_fitting text p q e f x past y past' = one_room q e f (subst (λ (r : CProgram). DoNotFit r e) (unique.one_program reading unit fine typed failing text p q x y) past) past'

  not_both_fit : (text : List ℕ) (p q : CProgram) (e : LayoutError) → Means text p → DoNotFit p e → Means text q → ObjectsFit q → ⊥
  not_both_fit text p q e x past y fit = unique.no_room q e fit (subst (λ (r : CProgram). DoNotFit r e) (unique.one_program reading unit fine typed failing text p q x y) past)

  one_layer : (text : List ℕ) (e f : CompileError) → Layer text e → Layer text f → e ≡ f
  one_layer text e f (tokens a is x) (tokens b is' y) = is ∙ ap (λ (z : LexError). compile.Lex z) (one_lex_error text a b x y) ∙ sym is'
  one_layer text e f (tokens a is x) (grammar why n line is' y) = absurd (not_lexed text y.0 a y.1 x)
  one_layer text e f (tokens a is x) (types b is' y) = absurd (not_lexed text y.1.0 a y.1.1 x)
  one_layer text e f (tokens a is x) (objects p b is' y past) = absurd (not_lexed text y.1.0 a y.1.1 x)
  one_layer text e f (tokens a is x) (limits p b is' y fit past) = absurd (not_lexed text y.1.0 a y.1.1 x)
  one_layer text e f (grammar why n line is x) (tokens b is' y) = absurd (not_lexed text x.0 b x.1 y)
  one_layer text e f (grammar r n j is x) (grammar s m k is' y) = is ∙ ap (λ (z : ParseError). compile.Parse z) (one_failure text r s n m j k x y) ∙ sym is'
  one_layer text e f (grammar why n line is x) (types b is' y) = absurd (not_failed text y.0 why n line y.1 x)
  one_layer text e f (grammar why n line is x) (objects p b is' y past) = absurd (not_failed text y.0 why n line y.1 x)
  one_layer text e f (grammar why n line is x) (limits p b is' y fit past) = absurd (not_failed text y.0 why n line y.1 x)
  one_layer text e f (types a is x) (tokens b is' y) = absurd (not_lexed text x.1.0 b x.1.1 y)
  one_layer text e f (types a is x) (grammar why n line is' y) = absurd (not_failed text x.0 why n line x.1 y)
  one_layer text e f (types a is x) (types b is' y) = is ∙ ap (λ (z : TypeError). compile.Typing z) (one_type_error text a b x y) ∙ sym is'
  one_layer text e f (types a is x) (objects p b is' y past) = absurd (not_typed text p a y x)
  one_layer text e f (types a is x) (limits p b is' y fit past) = absurd (not_typed text p a y x)
  one_layer text e f (objects p a is x past) (tokens b is' y) = absurd (not_lexed text x.1.0 b x.1.1 y)
  one_layer text e f (objects p a is x past) (grammar why n line is' y) = absurd (not_failed text x.0 why n line x.1 y)
  one_layer text e f (objects p a is x past) (types b is' y) = absurd (not_typed text p b x y)
  one_layer text e f (objects p a is x past) (objects q b is' y past') = is ∙ ap (λ (z : LayoutError). compile.Layout z) (one_not_fitting text p q a b x past y past') ∙ sym is'
  one_layer text e f (objects p a is x past) (limits q b is' y fit past') = absurd (not_both_fit text p q a x past y fit)
  one_layer text e f (limits p a is x fit past) (tokens b is' y) = absurd (not_lexed text x.1.0 b x.1.1 y)
  one_layer text e f (limits p a is x fit past) (grammar why n line is' y) = absurd (not_failed text x.0 why n line x.1 y)
  one_layer text e f (limits p a is x fit past) (types b is' y) = absurd (not_typed text p b x y)
  one_layer text e f (limits p a is x fit past) (objects q b is' y past') = absurd (not_both_fit text q p b y past' x fit)
  one_layer text e f (limits p a is x fit past) (limits q b is' y fit' past') = is ∙ ap (λ (z : LowerError). compile.Lower z) (one_passed text p q a b x past y past') ∙ sym is'

  pub one_refusal : (text : List ℕ) (e f : CompileError) → Refuses text e → Refuses text f → e ≡ f
  one_refusal text e f x y = one_layer text e f (layer_of text e x) (layer_of text f y)
