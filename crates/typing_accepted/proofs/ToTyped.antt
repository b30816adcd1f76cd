-- What is accepted is what typing gives.
use Rattle.std.proofs.Common.{◌≡◌, ℕ, ◌+◌, Bool, true, false, List, [], ◌∷◌, ◌++◌, length, refl, sym, ap, ◌∙◌}
use Rattle.std.specs.Prelude.{Ok, replicate, nat_lt, if◌then◌else◌}
use Rattle.std.proofs.lemmas.List.{append_assoc, append-nil}
use Rattle.c_words.specs.declared.place.At.{At}
use Rattle.syntax_tree.specs.Syntax.{ExpressionTree, ExpressionTrees, TypeNameTree, TypeDeclaratorTree}
use Rattle.typed_tree.specs.Types.{CType, is_array}
use Rattle.typed_tree.specs.TypedTree.{CExpr, CForm}
use Rattle.typed_tree.specs.Sizes.{largest}
use Rattle.typed_tree.specs.TypedOperands.{is_null, is_converted}
use Rattle.typing_operators.specs.Rule.{Rule}
use Rattle.typing_expressions.specs.Scene.{CScene}
use Rattle.typing_expressions.specs.Parts.{CPart}
use Rattle.typing_expressions.specs.Expressions.{text, pointed, typed, typed_all, type_named, steps_of, sized}
use Rattle.typing_accepted.specs.AcceptanceExpressions.{Accepts, AcceptsAll, NamesType, HasSteps, HasSizes}
use Rattle.typing_accepted.proofs.Steps.{onward, passed, no_less}
use Rattle.typing_accepted.proofs.Operands.{IsRead}
use Rattle.typing_accepted.proofs.ToBinary.{binary_to}
use Rattle.typing_accepted.proofs.ToUnary.{unary_to, step_before_to, step_after_to, measured_to, measured_type_to, index_to, member_to, arrow_to_it}
use Rattle.typing_accepted.proofs.ToRest.{cast_to, conditional_to, comma_to, assign_to, AreRead}
use Rattle.typing_accepted.proofs.MadeTypes.{formed_to}
use Rattle.typing_accepted.proofs.Calls.{object_local, object_global, callee_function, callee_library, function_to, library_to}

-- what is accepted has no conversion, and as a null constant it is no array

made : (at : At) (t : CType) (form : CForm) → is_converted (CExpr.expr at t form) ≡ false → is_null (CExpr.expr at t form) ≡ false → IsRead (CExpr.expr at t form)
made at t form written not_null = record { written = written; flat = λ h. let no : is_null (CExpr.expr at t form) ≡ false = not_null in absurd cc }

pub reads : (s : CScene) (e : ExpressionTree) (v : CExpr) (u : CScene) → Accepts s e v u → IsRead v
reads s e v u (Accepts.local is) = made _ _ _ refl refl
reads s e v u (Accepts.global none is) = made _ _ _ refl refl
reads s e v u Accepts.number = record { written = refl; flat = λ h. by _ }
  where
    by : (is_unsigned : Bool) → is_array (if is_unsigned then CType.Unsigned else CType.Int) ≡ false
    by true = refl
    by false = refl
reads s e v u Accepts.character = made _ _ _ refl refl
reads s e v u (Accepts.text small) = made _ _ _ refl refl
reads s e v u Accepts.null = record { written = refl; flat = λ h. refl }
reads s e v u Accepts.eof = made _ _ _ refl refl
reads s e v u (Accepts.parenthesized a) = reads _ _ _ _ a
reads s e v u (Accepts.index a b l r is) = made _ _ _ refl refl
reads s e v u (Accepts.call none is all found become given) = made _ _ _ refl refl
reads s e v u (Accepts.library_call none no_name is all become given) = made _ _ _ refl refl
reads s e v u (Accepts.member a is named) = made _ _ _ refl refl
reads s e v u (Accepts.arrow a b is named) = made _ _ _ refl refl
reads s e v u (Accepts.step_after a is) = made _ _ _ refl refl
reads s e v u (Accepts.step_before a is) = made _ _ _ refl refl
reads s e v u (Accepts.unary a b is) = made _ _ _ refl refl
reads s e v u (Accepts.sizeof_type t is) = made _ _ _ refl refl
reads s e v u (Accepts.sizeof_expression a is) = made _ _ _ refl refl
reads s e v u (Accepts.cast t a b is) = made _ _ _ refl refl
reads s e v u (Accepts.binary a b l r is) = made _ _ _ refl refl
reads s e v u (Accepts.conditional c a b k l r d is) = made _ _ _ refl refl
reads s e v u (Accepts.assign a b r is) = made _ _ _ refl refl
reads s e v u (Accepts.comma a b l r is) = made _ _ _ refl refl

pub reads_all : (s : CScene) (es : ExpressionTrees) (vs : List CExpr) (u : CScene) → AcceptsAll s es vs u → AreRead vs
reads_all s es vs u AcceptsAll.nothing = tt
reads_all s es vs u (AcceptsAll.next a more) = (reads _ _ _ _ a, reads_all _ _ _ _ more)

text_to : (s : CScene) (at : At) (bytes : List ℕ) → nat_lt largest (length bytes + 1) ≡ false
    → text s at bytes ≡ Ok (CExpr.expr at (CType.Array CType.Char (length bytes + 1)) (CForm.Text (length s.texts)), record s { texts = s.texts ++ bytes ∷ [] })
unfolding text
text_to s at bytes small = passed _ _ _ _ small refl

-- lists that grow at their ends

pub past_one : {A : Type 0} (vs : List A) (x : A) (xs : List A) → (vs ++ x ∷ []) ++ xs ≡ vs ++ x ∷ xs
past_one vs x xs = append_assoc vs (x ∷ []) xs

pub past_pointers : (ps qs : List CPart) (n : ℕ) → pointed (ps ++ qs) n ≡ ps ++ pointed qs n
past_pointers ps qs n = append_assoc ps qs (replicate n CPart.Pointer)

pub past_both : (ps qs rs : List CPart) (n : ℕ) → pointed ((ps ++ qs) ++ rs) n ≡ ps ++ pointed (qs ++ rs) n
past_both ps qs rs n = ap (λ l. pointed l n) (append_assoc ps qs rs) ∙ past_pointers ps (qs ++ rs) n

pub pair_is : {A : Type 0} (x y : A) (u : CScene) → x ≡ y → (let r : Rule (A × CScene) = Ok (x, u) in r) ≡ Ok (y, u)
pair_is x y u is = rw is refl

mutual
  pub to_typed : (s : CScene) (e : ExpressionTree) (v : CExpr) (u : CScene) → Accepts s e v u → typed s e ≡ Ok (v, u)
  to_typed s e v u (Accepts.local is) = onward _ _ _ _ (object_local s _ _ _ is) refl
  to_typed s e v u (Accepts.global none is) = onward _ _ _ _ (object_global s _ _ _ _ none is) refl
  to_typed s e v u Accepts.number = refl
  to_typed s e v u Accepts.character = refl
  to_typed s e v u (Accepts.text small) = text_to s _ _ (no_less _ _ small)
  to_typed s e v u Accepts.null = refl
  to_typed s e v u Accepts.eof = refl
  to_typed s e v u (Accepts.parenthesized a) = to_typed _ _ _ _ a
  to_typed s e v u (Accepts.index a b l r is) =
      onward _ _ _ _ (to_typed _ _ _ _ a) (onward _ _ _ _ (to_typed _ _ _ _ b)
      (onward _ _ _ _ (index_to u.structs _ _ (reads _ _ _ _ a) _ _ _ _ (reads _ _ _ _ b) l r is) refl))
  to_typed s e v u (Accepts.call none is all found become given) =
      onward _ _ _ _ (callee_function s _ _ _ none is) (onward _ _ _ _ (to_typed_all _ _ _ _ [] all) (function_to _ _ _ _ _ _ found (reads_all _ _ _ _ all) become given))
  to_typed s e v u (Accepts.library_call none no_name is all become given) =
      onward _ _ _ _ (callee_library s _ _ _ none no_name is) (onward _ _ _ _ (to_typed_all _ _ _ _ [] all) (library_to _ _ _ _ _ (reads_all _ _ _ _ all) become given))
  to_typed s e v u (Accepts.member a is named) =
      onward _ _ _ _ (to_typed _ _ _ _ a) (onward _ _ _ _ (member_to u.structs _ _ (reads _ _ _ _ a) _ _ _ is named) refl)
  to_typed s e v u (Accepts.arrow a b is named) =
      onward _ _ _ _ (to_typed _ _ _ _ a) (onward _ _ _ _ (arrow_to_it u.structs _ _ (reads _ _ _ _ a) _ _ _ _ b is named) refl)
  to_typed s e v u (Accepts.step_after a is) =
      onward _ _ _ _ (to_typed _ _ _ _ a) (onward _ _ _ _ (step_after_to u.structs _ _ (reads _ _ _ _ a) _ _ is) refl)
  to_typed s e v u (Accepts.step_before a is) =
      onward _ _ _ _ (to_typed _ _ _ _ a) (onward _ _ _ _ (step_before_to u.structs _ _ (reads _ _ _ _ a) _ _ is) refl)
  to_typed s e v u (Accepts.unary a b is) =
      onward _ _ _ _ (to_typed _ _ _ _ a) (onward _ _ _ _ (unary_to u.structs _ _ (reads _ _ _ _ a) _ _ _ b is) refl)
  to_typed s e v u (Accepts.sizeof_type t is) =
      onward _ _ _ _ (to_type_named _ _ _ _ t) (onward _ _ _ _ (measured_type_to u.structs _ _ is) refl)
  to_typed s e v u (Accepts.sizeof_expression a is) =
      onward _ _ _ _ (to_typed _ _ _ _ a) (onward _ _ _ _ (measured_to u.structs _ _ (reads _ _ _ _ a) _ is) refl)
  to_typed s e v u (Accepts.cast t a b is) =
      onward _ _ _ _ (to_type_named _ _ _ _ t) (onward _ _ _ _ (to_typed _ _ _ _ a) (onward _ _ _ _ (cast_to _ _ _ _ (reads _ _ _ _ a) b is) refl))
  to_typed s e v u (Accepts.binary a b l r is) =
      onward _ _ _ _ (to_typed _ _ _ _ a) (onward _ _ _ _ (to_typed _ _ _ _ b)
      (onward _ _ _ _ (binary_to u.structs _ _ _ _ _ _ (reads _ _ _ _ a) (reads _ _ _ _ b) l r _ is) refl))
  to_typed s e v u (Accepts.conditional c a b k l r d is) =
      onward _ _ _ _ (to_typed _ _ _ _ c) (onward _ _ _ _ (to_typed _ _ _ _ a) (onward _ _ _ _ (to_typed _ _ _ _ b)
      (onward _ _ _ _ (conditional_to _ _ _ _ _ _ _ (reads _ _ _ _ a) (reads _ _ _ _ b) l r _ (reads _ _ _ _ c) k d is) refl)))
  to_typed s e v u (Accepts.assign a b r is) =
      onward _ _ _ _ (to_typed _ _ _ _ a) (onward _ _ _ _ (to_typed _ _ _ _ b)
      (onward _ _ _ _ (assign_to u.structs _ _ _ _ _ (reads _ _ _ _ a) (reads _ _ _ _ b) r _ is) refl))
  to_typed s e v u (Accepts.comma a b l r is) =
      onward _ _ _ _ (to_typed _ _ _ _ a) (onward _ _ _ _ (to_typed _ _ _ _ b)
      (pair_is _ _ u (comma_to _ _ _ _ _ _ (reads _ _ _ _ a) (reads _ _ _ _ b) l r is)))

  pub to_typed_all : (s : CScene) (es : ExpressionTrees) (xs : List CExpr) (u : CScene) → (vs : List CExpr) → AcceptsAll s es xs u → typed_all vs s es ≡ Ok (vs ++ xs, u)
  to_typed_all s es xs u vs AcceptsAll.nothing = pair_is vs (vs ++ []) s (sym (append-nil vs))
  to_typed_all s es xs u vs (AcceptsAll.next a more) =
      onward _ _ _ _ (to_typed _ _ _ _ a) (to_typed_all _ _ _ _ (vs ++ _ ∷ []) more ∙ pair_is _ _ u (past_one vs _ _))

  pub to_type_named : (s : CScene) (n : TypeNameTree) (t : CType) (u : CScene) → NamesType s n t u → type_named s n ≡ Ok (t, u)
  to_type_named s n t u (NamesType.type_name steps makes) =
      onward _ _ _ _ (to_steps _ _ _ _ [] steps) (onward _ _ _ _ (formed_to u.structs _ false _ t _ (record { made = makes; complete = λ h. absurd cc })) refl)

  to_steps : (s : CScene) (d : TypeDeclaratorTree) (qs : List CPart) (u : CScene) → (ps : List CPart) → HasSteps s d qs u → steps_of ps s d ≡ Ok (ps ++ qs, u)
  to_steps s d qs u ps (HasSteps.direct sizes) =
      onward _ _ _ _ (to_sized _ _ _ _ ps sizes) (pair_is _ _ u (past_pointers ps _ _))
  to_steps s d qs u ps (HasSteps.nested inner sizes) =
      onward _ _ _ _ (to_steps _ _ _ _ ps inner) (onward _ _ _ _ (to_sized _ _ _ _ (ps ++ _) sizes) (pair_is _ _ u (past_both ps _ _ _)))

  to_sized : (s : CScene) (es : ExpressionTrees) (qs : List CPart) (u : CScene) → (ps : List CPart) → HasSizes s es qs u → sized ps s es ≡ Ok (ps ++ qs, u)
  to_sized s es qs u ps HasSizes.no_size = pair_is ps (ps ++ []) s (sym (append-nil ps))
  to_sized s es qs u ps (HasSizes.size a more) =
      onward _ _ _ _ (onward _ _ _ _ (to_typed _ _ _ _ a) refl) (to_sized _ _ _ _ (ps ++ _ ∷ []) more ∙ pair_is _ _ u (past_one ps _ _))
