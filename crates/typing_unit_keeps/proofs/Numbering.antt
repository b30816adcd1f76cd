-- The numbers of the functions that a file defines.
use Rattle.std.proofs.Common.{◌≡◌, ℕ, suc, ◌+◌, Bool, true, false, cond, nat_eq, List, [], ◌∷◌, ◌++◌, length, refl, sym, ◌∙◌, ap, arith}
use Rattle.std.specs.Prelude.{Option, Some, None, slice_get, is_some, if◌then◌else◌}
use Rattle.std.specs.Cmp.Lexicographic.{pointwise}
use Rattle.c_words.specs.declared.place.At.{At}
use Rattle.syntax_tree.specs.Syntax.{DeclaratorTree, BlockTree, HeadTree, ExternalTree}
use Rattle.typed_tree.specs.TypedTree.{CFunction}
use Rattle.typing_expressions.specs.Names.{found}
use Rattle.typing_declarations.specs.Declarators.{declared_name}
use Rattle.typing_unit_keeps.specs.Units.{CDefinitions, with_definition, definitions}
use Rattle.typing_unit_keeps.proofs.FoundNames.{same_name, found_front, found_last}
use Rattle.typing_unit_keeps.proofs.Files.{function_names}

abbrev numbered_from : ℕ → List (List ℕ) → CDefinitions
numbered_from k [] = []
numbered_from k (x ∷ xs) = (x, k) ∷ numbered_from (suc k) xs

-- the functions that are defined so far, with their numbers
abbrev pub numbered : List CFunction → CDefinitions
numbered functions = numbered_from 0 (function_names functions)

numbered_push : (k : ℕ) (xs : List (List ℕ)) (x : List ℕ) → numbered_from k (xs ++ x ∷ []) ≡ numbered_from k xs ++ (x, length (numbered_from k xs) + k) ∷ []
numbered_push k [] x = ap (λ n. (x, n) ∷ []) (none k)
  where
    none : (k : ℕ) → k ≡ 0 + k
    none k = omega arith
numbered_push k (y ∷ xs) x =
    ap (λ ys. (y, k) ∷ ys) (numbered_push (suc k) xs x)
    ∙ ap (λ n. (y, k) ∷ (numbered_from (suc k) xs ++ (x, n) ∷ [])) (one_more (length (numbered_from (suc k) xs)) k)
  where
    one_more : (n k : ℕ) → n + suc k ≡ suc n + k
    one_more n k = omega arith

numbered_length : (k : ℕ) (functions : List CFunction) → length (numbered_from k (function_names functions)) ≡ length functions
numbered_length k [] = refl
numbered_length k (f ∷ fs) = ap suc (numbered_length (suc k) fs)

-- one more function
numbered_new : (functions : List CFunction) (x : List ℕ) → numbered_from 0 (function_names functions ++ x ∷ []) ≡ numbered functions ++ (x, length (numbered functions)) ∷ []
numbered_new functions x = numbered_push 0 (function_names functions) x ∙ ap (λ n. numbered functions ++ (x, n) ∷ []) (none (length (numbered functions)))
  where
    none : (n : ℕ) → n + 0 ≡ n
    none n = omega arith

-- the function of a number
pub record IsFunctionAt (functions : List CFunction) (from k : ℕ) (x : List ℕ) : Type 0 where
  pub place : ℕ
  pub number : k ≡ place + from
  pub function : CFunction
  pub there : slice_get functions place ≡ Some function
  pub name : function.name ≡ x

function_at : (functions : List CFunction) (from k : ℕ) (x : List ℕ) → found x (numbered_from from (function_names functions)) ≡ Some k → IsFunctionAt functions from k x
function_at [] from k x h = absurd cc
function_at (f ∷ fs) from k x h = by (pointwise nat_eq x f.name) refl (found x (numbered_from (suc from) (function_names fs))) h (function_at fs (suc from) k x)
  where
    same : (m n : ℕ) → Some m ≡ Some n → m ≡ n
    same m n h = cc

    from_zero : (n : ℕ) → n ≡ 0 + n
    from_zero n = omega arith

    by : (b : Bool) → pointwise nat_eq x f.name ≡ b → (o : Option ℕ) → cond b (Some from) o ≡ Some k → (o ≡ Some k → IsFunctionAt fs (suc from) k x) → IsFunctionAt (f ∷ fs) from k x
    by true test o h rest = record { place = 0; number = sym (same from k h) ∙ from_zero from; function = f; there = refl; name = sym (same_name x f.name test) }
    by false test o h rest =
        let there = rest h in
        let number = there.number in
        record { place = suc there.place; number = omega arith; function = there.function; there = there.there; name = there.name }

pub function_numbered : (functions : List CFunction) (k : ℕ) (x : List ℕ) → found x (numbered functions) ≡ Some k → (f : CFunction) × (slice_get functions k ≡ Some f) × (f.name ≡ x)
function_numbered functions k x h =
    let at = function_at functions 0 k x h in
    (at.function, ap (slice_get functions) (at.number ∙ none at.place) ∙ at.there, at.name)
  where
    none : (n : ℕ) → n + 0 ≡ n
    none n = omega arith

-- what is found stays so
found_defined : (names : CDefinitions) (es : List ExternalTree) (x : List ℕ) (k : ℕ) → found x names ≡ Some k → found x (definitions names es) ≡ Some k
found_defined names [] x k h = h
found_defined names (ExternalTree.Declaration at head ds ∷ es) x k h = found_defined names es x k h
found_defined names (ExternalTree.Function at head d body ∷ es) x k h =
    found_defined (with_definition names (declared_name d)) es x k (with_more (found (declared_name d) names))
  where
    with_more : (o : Option ℕ) → found x (if is_some o then names else names ++ (declared_name d, length names) ∷ []) ≡ Some k
    with_more (Some n) = h
    with_more None = found_front x names ((declared_name d, length names) ∷ []) k h

new_definition : (names : CDefinitions) (x : List ℕ) → found x names ≡ None → with_definition names x ≡ names ++ (x, length names) ∷ []
new_definition names x h = ap (λ o. if is_some o then names else names ++ (x, length names) ∷ []) h

-- a function whose name is new has the next number
pub next_number : (numbers : CDefinitions) (functions : List CFunction) (at : At) (head : HeadTree) (d : DeclaratorTree) (body : BlockTree) (es : List ExternalTree) → numbers ≡ definitions (numbered functions) (ExternalTree.Function at head d body ∷ es)
    → found (declared_name d) (numbered functions) ≡ None → found (declared_name d) numbers ≡ Some (length functions)
next_number numbers functions at head d body es is new =
    let x = declared_name d in
    ap (found x) is
    ∙ found_defined (with_definition (numbered functions) x) es x (length functions)
    (ap (found x) (new_definition (numbered functions) x new) ∙ found_last x (numbered functions) (length (numbered functions)) new ∙ ap Some (numbered_length 0 functions))

-- and is then among those that are defined
pub more_definitions : (functions : List CFunction) (x : List ℕ) (names : List (List ℕ)) → names ≡ function_names functions ++ x ∷ [] → found x (numbered functions) ≡ None → with_definition (numbered functions) x ≡ numbered_from 0 names
more_definitions functions x names is new = new_definition (numbered functions) x new ∙ sym (numbered_new functions x) ∙ ap (numbered_from 0) (sym is)
