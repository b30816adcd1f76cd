-- A file is refused at one token.
use Rattle.std.proofs.Common.{◌≡◌, ℕ, zero, suc, ◌≤◌, ◌<◌, List, [], ◌∷◌, ◌++◌, refl, sym, ap, ◌∙◌, subst, arith, ◌⊎◌, inl, inr}
use Rattle.std.proofs.lemmas.Bool.{cases_order}
use Rattle.std.specs.Prelude.{length, take}
use Rattle.std.proofs.lemmas.List.{append_assoc, append-nil}
use Rattle.c_words.specs.Tokens.{Placed}
use Rattle.syntax_tree.specs.Syntax.{UnitTree}
use Rattle.syntax_tree.specs.GrammarLimits.{Limits, within_limits, without_limits, limits_before}
use Rattle.syntax_tree.specs.Grammar.{Derives}
use Rattle.syntax_tree.specs.GrammarRefusals.{Begin, Refusal, IsRefused, HasOneRefusal, IsNotRefused}
use Rattle.syntax_tree.proofs.GrammarWeaker.{before_is_before, before_is_without, within_is_before, within_is_without}

-- fewer tokens begin a file too
module _ (limits : Limits) where
  shorter : (n m : ℕ) (ts : List Placed) → n ≤ m → (more : List Placed) × (take m ts ≡ take n ts ++ more)
  shorter zero m ts h = (take m ts, refl)
  shorter (suc n) zero ts h = absurd (omega arith)
  shorter (suc n) (suc m) [] h = ([], refl)
  shorter (suc n) (suc m) (t ∷ ts) h = let (more, is) = shorter n m ts (omega arith) in (more, cc)

  all_of : (m : ℕ) (ts : List Placed) → (more : List Placed) × (ts ≡ take m ts ++ more)
  all_of zero ts = (ts, refl)
  all_of (suc m) [] = ([], refl)
  all_of (suc m) (t ∷ ts) = let (more, is) = all_of m ts in (more, cc)

  joined : (us vs more rest : List Placed) → us ≡ vs ++ more → us ++ rest ≡ vs ++ (more ++ rest)
  joined us vs more rest is = ap (λ xs. xs ++ rest) is ∙ append_assoc vs more rest

  cut : (us more vs : List Placed) → us ≡ vs ++ more → Begin limits us → Begin limits vs
  cut us more vs is b = record { rest = more ++ b.rest; unit = b.unit; derives = subst (λ xs. Derives limits xs b.unit) (joined us vs more b.rest is) b.derives }

  begin_shorter : (n m : ℕ) (ts : List Placed) → n ≤ m → Begin limits (take m ts) → Begin limits (take n ts)
  begin_shorter n m ts h b = let (more, is) = shorter n m ts h in cut (take m ts) more (take n ts) is b

  begin_of_all : (n : ℕ) (ts : List Placed) → Begin limits ts → Begin limits (take n ts)
  begin_of_all n ts b = let (more, is) = all_of n ts in cut ts more (take n ts) is b

before_before : (i n : ℕ) → i ≤ n → (ts : List Placed) → Begin (limits_before n) ts → Begin (limits_before i) ts
before_before i n h ts b = record { rest = b.rest; unit = b.unit; derives = before_is_before i n h (ts ++ b.rest) b.unit b.derives }

before_without : (n : ℕ) (ts : List Placed) → Begin (limits_before n) ts → Begin without_limits ts
before_without n ts b = record { rest = b.rest; unit = b.unit; derives = before_is_without n (ts ++ b.rest) b.unit b.derives }

-- What a refusal says of the tokens before it, and of those up to and with it.
record Says (ts : List Placed) (n : ℕ) : Type 0 where
  front : Begin (limits_before n) (take n ts)
  none : Begin (limits_before (suc n)) (take (suc n) ts) → ⊥
  within : n < length ts

-- A refusal is that of a token, or that of the end.
record Ended (ts : List Placed) (r : Refusal) (n : ℕ) : Type 0 where
  at_end : n ≡ length ts
  all : Begin (limits_before (length ts)) ts
  none : (unit : UnitTree) → Derives without_limits ts unit → ⊥
  why : r ≡ Refusal.Syntax

said : (ts : List Placed) (r : Refusal) (n : ℕ) → IsRefused ts r n → (Says ts n) ⊎ (Ended ts r n)
said ts _ _ (IsRefused.syntax n h front none) = inl (record { front = front; none = λ b. none (before_without (suc n) (take (suc n) ts) b); within = h })
said ts _ _ (IsRefused.ended front none) = inr (record { at_end = refl; all = front; none = none; why = refl })
said ts _ _ (IsRefused.too_deep n h front none) = inl (record { front = begin_shorter (limits_before n) n (suc n) ts (omega arith) front; none = none; within = h })

below : (ts : List Placed) (n m : ℕ) → n < m → Says ts n → Begin (limits_before m) (take m ts) → ⊥
below ts n m h s b = s.none (before_before (suc n) m h (take (suc n) ts) (begin_shorter (limits_before m) (suc n) m ts h b))

below_end : (ts : List Placed) (n : ℕ) → Says ts n → Begin (limits_before (length ts)) ts → ⊥
below_end ts n s b = s.none (before_before (suc n) (length ts) s.within (take (suc n) ts) (begin_of_all (limits_before (length ts)) (suc n) ts b))

one_place : (ts : List Placed) (n m : ℕ) → (n ≡ m) ⊎ ((n < m) ⊎ (m < n)) → Says ts n → Says ts m → n ≡ m
one_place ts n m (inl is) s u = is
one_place ts n m (inr (inl h)) s u = absurd (below ts n m h s u.front)
one_place ts n m (inr (inr h)) s u = absurd (below ts m n h u s.front)

-- at one token a refusal is of one kind
one_kind : (ts : List Placed) (r s : Refusal) (n m : ℕ) → n ≡ m → n < length ts → IsRefused ts r n → IsRefused ts s m → r ≡ s
one_kind ts _ _ _ _ is h (IsRefused.syntax n _ _ _) (IsRefused.syntax m _ _ _) = refl
one_kind ts _ _ _ _ is h (IsRefused.too_deep n _ _ _) (IsRefused.too_deep m _ _ _) = refl
one_kind ts _ _ _ _ is h (IsRefused.syntax n _ front none) (IsRefused.too_deep m _ with_m _) =
    absurd (none (before_without m (take (suc n) ts) (subst (λ k. Begin (limits_before m) (take (suc k) ts)) (sym is) with_m)))
one_kind ts _ _ _ _ is h (IsRefused.too_deep n _ with_n _) (IsRefused.syntax m _ front none) =
    absurd (none (before_without n (take (suc m) ts) (subst (λ k. Begin (limits_before n) (take (suc k) ts)) is with_n)))
one_kind ts _ _ _ _ is h (IsRefused.ended _ _) _ = absurd (omega arith)
one_kind ts _ _ _ _ is h (IsRefused.syntax n _ _ _) (IsRefused.ended _ _) = absurd (omega arith)
one_kind ts _ _ _ _ is h (IsRefused.too_deep n _ _ _) (IsRefused.ended _ _) = absurd (omega arith)

pub one_refusal : HasOneRefusal
one_refusal ts r s n m a b = elim (said ts r n a) [
  | inl x ↦ elim (said ts s m b) [
    | inl y ↦ let is = one_place ts n m (cases_order n m) x y in (one_kind ts r s n m is x.within a b, is)
    | inr y ↦ absurd (below_end ts n x y.all)
  ]
  | inr x ↦ elim (said ts s m b) [
    | inl y ↦ absurd (below_end ts m y x.all)
    | inr y ↦ (x.why ∙ sym y.why, x.at_end ∙ sym y.at_end)
  ]
]

-- what all tokens derive within the limits
whole : (ts : List Placed) (unit : UnitTree) → Derives within_limits ts unit → Begin (limits_before (length ts)) ts
whole ts unit x = record { rest = []; unit = unit; derives = rw append-nil (within_is_before (length ts) ts unit x) }

pub not_refused : IsNotRefused
not_refused ts unit r n x a = elim (said ts r n a) [
  | inl s ↦ below_end ts n s (whole ts unit x)
  | inr s ↦ s.none unit (within_is_without ts unit x)
]
