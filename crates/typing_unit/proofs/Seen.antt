-- What is found among the names of a file, seen as contracts see it.
use Rattle.std.proofs.Common.{◌≡◌, ℕ, List, [], ◌∷◌, refl, ap, Bool, true, false, cond, nat_eq}
use Rattle.std.specs.Prelude.{Option, Some, None, Ok, Err, map, option_map, is_some}
use Rattle.std.specs.Cmp.Lexicographic.{pointwise}
use Rattle.typing_operators.specs.Rule.{Rule}
use Rattle.typing_expressions.specs.Names.{found}
use Rattle.typing_expressions.specs.Scene.{named_by}

-- what a name stands for, each seen by g
pub found_seen : {V A : Type 0} (g : V → A) (x : List ℕ) (es : List (List ℕ × V)) → found x (map (named_by g) es) ≡ option_map g (found x es)
found_seen g x [] = refl
found_seen {V} {A} g x (e ∷ es) = by (pointwise nat_eq x e.0) _ _ (found_seen g x es)
  where
    by : (b : Bool) (r : Option A) (s : Option V) → r ≡ option_map g s → cond b (Some (g e.1)) r ≡ option_map g (cond b (Some e.1) s)
    by true r s h = refl
    by false r s h = h

pub is_some_map : {A B : Type 0} (f : A → B) (o : Option A) → is_some (option_map f o) ≡ is_some o
is_some_map f None = refl
is_some_map f (Some x) = refl

pub none_if : {A : Type 0} (o : Option A) → is_some o ≡ false → o ≡ None
none_if None h = refl
none_if (Some x) h = cc

-- rules that accept give the same only for the same
abbrev value_or : {A : Type 0} → A → Rule A → A
value_or x (Ok y) = y
value_or x (Err e) = x

abbrev pub IsValue : {A : Type 0} → A → A → Type 0
IsValue {A} x y = let r : Rule A = Ok x in r ≡ Ok y

pub same_value : {A : Type 0} (x y : A) → IsValue x y → x ≡ y
same_value x y h = ap (value_or x) h
