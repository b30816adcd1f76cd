-- What names stand for in tables that grow at their end.
use Rattle.std.proofs.Common.{◌≡◌, ℕ, suc, Bool, true, false, cond, nat_eq, List, [], ◌∷◌, ◌++◌, refl, sym, ◌∙◌, ap}
use Rattle.std.specs.Prelude.{Option, Some, None, slice_get}
use Rattle.std.specs.Cmp.Lexicographic.{pointwise, bytes_decides}
use Rattle.typing_expressions.specs.Names.{found}

pub same_name : (x y : List ℕ) → pointwise nat_eq x y ≡ true → x ≡ y
same_name x y h = (bytes_decides x y).0 h

pub name_itself : (x : List ℕ) → pointwise nat_eq x x ≡ true
name_itself x = (bytes_decides x x).1 refl

module _ {A : Type 0} where
  pub found_front : (x : List ℕ) (es more : List (List ℕ × A)) (a : A) → found x es ≡ Some a → found x (es ++ more) ≡ Some a
  found_front x [] more a h = absurd cc
  found_front x (e ∷ es) more a h = by (pointwise nat_eq x e.0) (found x es) (found x (es ++ more)) h (found_front x es more a)
    where
      by : (b : Bool) (o r : Option A) → cond b (Some e.1) o ≡ Some a → (o ≡ Some a → r ≡ Some a) → cond b (Some e.1) r ≡ Some a
      by true o r h rest = h
      by false o r h rest = rest h

  pub found_behind : (x : List ℕ) (es more : List (List ℕ × A)) → found x es ≡ None → found x (es ++ more) ≡ found x more
  found_behind x [] more h = refl
  found_behind x (e ∷ es) more h = by (pointwise nat_eq x e.0) (found x es) (found x (es ++ more)) h (found_behind x es more)
    where
      by : (b : Bool) (o r : Option A) → cond b (Some e.1) o ≡ None → (o ≡ None → r ≡ found x more) → cond b (Some e.1) r ≡ found x more
      by true o r h rest = absurd cc
      by false o r h rest = rest h

  pub found_last : (x : List ℕ) (es : List (List ℕ × A)) (a : A) → found x es ≡ None → found x (es ++ (x, a) ∷ []) ≡ Some a
  found_last x es a h = found_behind x es ((x, a) ∷ []) h ∙ ap (λ b. cond b (Some a) None) (name_itself x)

  -- the entry that is found
  pub found_place : (x : List ℕ) (es : List (List ℕ × A)) (a : A) → found x es ≡ Some a → (i : ℕ) × (slice_get es i ≡ Some (x, a))
  found_place x [] a h = absurd cc
  found_place x (e ∷ es) a h = by (pointwise nat_eq x e.0) refl (found x es) h (found_place x es a)
    where
      by : (b : Bool) → pointwise nat_eq x e.0 ≡ b → (o : Option A) → cond b (Some e.1) o ≡ Some a → (o ≡ Some a → (i : ℕ) × (slice_get es i ≡ Some (x, a))) → (i : ℕ) × (slice_get (e ∷ es) i ≡ Some (x, a))
      by true test o h rest = (0, ap (λ y. Some (y, e.1)) (sym (same_name x e.0 test)) ∙ ap (λ o. key o) h)
        where
          key : Option A → Option (List ℕ × A)
          key None = None
          key (Some b) = Some (x, b)
      by false test o h rest = let there = rest h in (suc there.0, there.1)
