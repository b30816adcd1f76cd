-- Lists that have the same blocks.
use Rattle.std.proofs.Common.{◌≡◌, ◌≢◌, ◌⊎◌, ℕ, ◌+◌, ◌≤◌, Bool, true, false, cond, eqb, ltb, ◌&&◌, Some, List, [], ◌∷◌, ◌++◌, refl, sym, ap, subst, ◌∙◌, inl, inr, arith}
use Rattle.std.specs.Prelude.{All}
use Rattle.std.proofs.lemmas.Bool.{eq-eqb, ne_eqb, eqb-true}
use Rattle.std.proofs.lemmas.List.Elements.{All-nil, All-cons, All-head, All-tail}
use Rattle.std.proofs.lemmas.Nat.{pow_pos}
use Rattle.std.proofs.lemmas.Option.{same_Some, none-some}
use Rattle.buddy_heap.specs.Places.{with_block, block_from}
use Rattle.size_table.specs.Blocks.{Block, block_at, MissEachOther, MissesAll, AreDisjoint, without, one_of, count_in, SameBlocks}

-- ---- One block

pub one_self : (b : Block) → one_of b b ≡ 1
one_self b = ap (λ (t : Bool). cond {A = ℕ} (t && eqb b.exponent b.exponent) 1 0) (eq-eqb b.base b.base refl) ∙ ap (λ (t : Bool). cond {A = ℕ} t 1 0) (eq-eqb b.exponent b.exponent refl)

pub one_most : (b c : Block) → one_of b c ≤ 1
one_most b c = by (eqb b.base c.base && eqb b.exponent c.exponent)
  where
    by : (t : Bool) → cond {A = ℕ} t 1 0 ≤ 1
    by true = omega arith
    by false = omega arith

pub same_or_none : (b c : Block) → (b ≡ c) ⊎ (one_of b c ≡ 0)
same_or_none b c = by (eqb b.base c.base) (eqb b.exponent c.exponent) refl refl
  where
    by : (s t : Bool) → eqb b.base c.base ≡ s → eqb b.exponent c.exponent ≡ t → (b ≡ c) ⊎ (cond {A = ℕ} (s && t) 1 0 ≡ 0)
    by true true e f = let base = eqb-true b.base c.base e in let exponent = eqb-true b.exponent c.exponent f in inl (ap (λ (n : ℕ). block_at n b.exponent) base ∙ ap (block_at c.base) exponent)
    by true false e f = inr refl
    by false t e f = inr refl

-- ---- Lists

pub count_append : (b : Block) (xs ys : List Block) → count_in b (xs ++ ys) ≡ count_in b xs + count_in b ys
count_append b [] ys = omega arith
count_append b (x ∷ xs) ys = let rest = count_append b xs ys in omega (arith, rest)

pub all_of : (P : Block → Type 0) (xs : List Block) → ((b : Block) → 1 ≤ count_in b xs → P b) → All P xs
all_of P [] h = All-nil P
all_of P (x ∷ xs) h = All-cons P x xs (h x (let s = one_self x in omega (arith, s))) (all_of P xs (λ b l. h b (omega (arith, l))))

pub each_of : (P : Block → Type 0) (xs : List Block) → All P xs → (b : Block) → 1 ≤ count_in b xs → P b
each_of P [] h b l = absurd (omega (arith, l))
each_of P (x ∷ xs) h b l = by (each_of P xs (All-tail P x xs h) b) (same_or_none b x)
  where
    by : (1 ≤ count_in b xs → P b) → (b ≡ x) ⊎ (one_of b x ≡ 0) → P b
    by rest (inl e) = subst P (sym e) (All-head P x xs h)
    by rest (inr e) = rest (omega (arith, l, e))

pub same_all : (P : Block → Type 0) (xs ys : List Block) → SameBlocks xs ys → All P ys → All P xs
same_all P xs ys s h = all_of P xs (λ b l. each_of P ys h b (let e = s b in omega (arith, e, l)))

-- ---- Blocks that do not meet

other_way : (b c : Block) → MissEachOther b c → MissEachOther c b
other_way b c (inl m) = inr m
other_way b c (inr m) = inl m

not_itself : (b : Block) → MissEachOther b b → ⊥
not_itself b (inl m) = let n = pow_pos b.exponent in omega (arith, m, n)
not_itself b (inr m) = let n = pow_pos b.exponent in omega (arith, m, n)

pub miss_of : (b : Block) (xs : List Block) → MissesAll b xs → (c : Block) → 1 ≤ count_in c xs → MissEachOther b c
miss_of b [] m c l = absurd (omega (arith, l))
miss_of b (x ∷ xs) m c l = by (miss_of b xs m.1 c) (same_or_none c x)
  where
    by : (1 ≤ count_in c xs → MissEachOther b c) → (c ≡ x) ⊎ (one_of c x ≡ 0) → MissEachOther b c
    by rest (inl e) = subst (MissEachOther b) (sym e) m.0
    by rest (inr e) = rest (omega (arith, l, e))

pub misses_of : (b : Block) (xs : List Block) → ((c : Block) → 1 ≤ count_in c xs → MissEachOther b c) → MissesAll b xs
misses_of b [] h = tt
misses_of b (x ∷ xs) h = (h x (let s = one_self x in omega (arith, s)), misses_of b xs (λ c l. h c (omega (arith, l))))

-- a block that misses all stands not among them
pub not_among : (b : Block) (xs : List Block) → MissesAll b xs → count_in b xs ≡ 0
not_among b [] m = refl
not_among b (x ∷ xs) m = by (not_among b xs m.1) (same_or_none b x)
  where
    by : count_in b xs ≡ 0 → (b ≡ x) ⊎ (one_of b x ≡ 0) → one_of b x + count_in b xs ≡ 0
    by rest (inl e) = absurd (not_itself b (subst (MissEachOther b) (sym e) m.0))
    by rest (inr e) = omega (arith, rest, e)

pub disjoint_most : (xs : List Block) → AreDisjoint xs → (b : Block) → count_in b xs ≤ 1
disjoint_most [] d b = omega arith
disjoint_most (x ∷ xs) d b = by (disjoint_most xs d.1 b) (same_or_none b x)
  where
    by : count_in b xs ≤ 1 → (b ≡ x) ⊎ (one_of b x ≡ 0) → one_of b x + count_in b xs ≤ 1
    by rest (inl e) = let most = one_most b x in let none = not_among b xs (subst (λ (c : Block). MissesAll c xs) (sym e) d.0) in omega (arith, most, none)
    by rest (inr e) = omega (arith, rest, e)

-- two that differ, or one that stands there twice, do not meet
pub two_of : (xs : List Block) → AreDisjoint xs → (b c : Block) → 1 ≤ count_in b xs → 1 ≤ count_in c xs → (b ≡ c) ⊎ MissEachOther b c
two_of [] d b c l m = absurd (omega (arith, l))
two_of (x ∷ xs) d b c l m = by (two_of xs d.1 b c) (same_or_none b x) (same_or_none c x)
  where
    by : (1 ≤ count_in b xs → 1 ≤ count_in c xs → (b ≡ c) ⊎ MissEachOther b c) → (b ≡ x) ⊎ (one_of b x ≡ 0) → (c ≡ x) ⊎ (one_of c x ≡ 0) → (b ≡ c) ⊎ MissEachOther b c
    by rest (inl e) (inl f) = inl (e ∙ sym f)
    by rest (inl e) (inr f) = inr (subst (λ (y : Block). MissEachOther y c) (sym e) (miss_of x xs d.0 c (omega (arith, m, f))))
    by rest (inr e) (inl f) = inr (subst (MissEachOther b) (sym f) (other_way x b (miss_of x xs d.0 b (omega (arith, l, e)))))
    by rest (inr e) (inr f) = rest (omega (arith, l, e)) (omega (arith, m, f))

pub disjoint_of : (xs : List Block) → ((b : Block) → count_in b xs ≤ 1) → ((b c : Block) → 1 ≤ count_in b xs → 1 ≤ count_in c xs → (b ≡ c) ⊎ MissEachOther b c) → AreDisjoint xs
disjoint_of [] most two = tt
disjoint_of (x ∷ xs) most two = (
  misses_of x xs (λ c l. by c l (two x c (let s = one_self x in omega (arith, s)) (omega (arith, l)))),
  disjoint_of xs (λ b. let m = most b in omega (arith, m)) (λ b c l m. two b c (omega (arith, l)) (omega (arith, m))),
)
  where
    by : (c : Block) → 1 ≤ count_in c xs → (x ≡ c) ⊎ MissEachOther x c → MissEachOther x c
    by c l (inl e) = let s = one_self x in let m = most x in let again = ap (λ (y : Block). count_in y xs) e in absurd (omega (arith, s, m, l, again))
    by c l (inr m) = m

pub same_disjoint : (xs ys : List Block) → SameBlocks xs ys → AreDisjoint ys → AreDisjoint xs
same_disjoint xs ys s d = disjoint_of xs (λ b. let e = s b in let m = disjoint_most ys d b in omega (arith, e, m)) (λ b c l m. two_of ys d b c (let e = s b in omega (arith, e, l)) (let e = s c in omega (arith, e, m)))

-- ---- A block more, and a block less

pub count_with : (b c : Block) (xs : List Block) → count_in c (with_block b xs) ≡ count_in c xs + one_of c b
count_with b c [] = omega arith
count_with b c (x ∷ xs) = by (ltb b.base x.base) (count_with b c xs)
  where
    by : (t : Bool) → count_in c (with_block b xs) ≡ count_in c xs + one_of c b → count_in c (cond t (b ∷ x ∷ xs) (x ∷ with_block b xs)) ≡ one_of c x + count_in c xs + one_of c b
    by true rest = omega arith
    by false rest = omega (arith, rest)

-- what a block's removal from a list leaves
pub record IsRemoved (b : Block) (xs : List Block) : Type 0 where
  pub before : List Block
  pub after : List Block
  pub is : xs ≡ before ++ b ∷ after
  pub leaves : without b.base xs ≡ before ++ after

begin_apart : (b c : Block) → MissEachOther b c → b.base ≢ c.base
begin_apart b c (inl m) = let p = pow_pos b.exponent in omega (arith, m, p)
begin_apart b c (inr m) = let p = pow_pos c.exponent in omega (arith, m, p)

pub removed : (b : Block) (xs : List Block) → AreDisjoint xs → 1 ≤ count_in b xs → IsRemoved b xs
removed b [] d l = absurd (omega (arith, l))
removed b (x ∷ xs) d l = by (removed b xs d.1) (same_or_none b x)
  where
    by : (1 ≤ count_in b xs → IsRemoved b xs) → (b ≡ x) ⊎ (one_of b x ≡ 0) → IsRemoved b (x ∷ xs)
    by rest (inl e) = record {
      before = [];
      after = xs;
      is = ap (λ (y : Block). y ∷ xs) (sym e);
      leaves = ap (λ (t : Bool). cond t xs (x ∷ without b.base xs)) (eq-eqb x.base b.base (ap (λ (y : Block). y.base) (sym e)));
    }
    by rest (inr e) =
        let within : 1 ≤ count_in b xs = omega (arith, l, e) in
        let r = rest within in
        record {
          before = x ∷ r.before;
          after = r.after;
          is = ap (λ (ys : List Block). x ∷ ys) r.is;
          leaves =
              ap (λ (t : Bool). cond t xs (x ∷ without b.base xs)) (ne_eqb x.base b.base (begin_apart x b (miss_of x xs d.0 b within)))
              ∙ ap (λ (ys : List Block). x ∷ ys) r.leaves;
        }

pub count_without : (b : Block) (xs : List Block) → AreDisjoint xs → 1 ≤ count_in b xs → (c : Block) → count_in c (without b.base xs) + one_of c b ≡ count_in c xs
count_without b xs d l c =
    let r = removed b xs d l in
    let all = ap (count_in c) r.is ∙ count_append c r.before (b ∷ r.after) in
    let less = ap (count_in c) r.leaves ∙ count_append c r.before r.after in
    omega (arith, all, less)

-- removal of a block leaves blocks that do not meet
pub without_disjoint : (b : Block) (xs : List Block) → AreDisjoint xs → 1 ≤ count_in b xs → AreDisjoint (without b.base xs)
without_disjoint b xs d l =
    disjoint_of (without b.base xs) (λ c. let e = count_without b xs d l c in let m = disjoint_most xs d c in omega (arith, e, m))
    (λ c y p q. two_of xs d c y (let e = count_without b xs d l c in omega (arith, e, p)) (let e = count_without b xs d l y in omega (arith, e, q)))

-- a block that begins somewhere is one of the blocks
pub found_in : (at : ℕ) (xs : List Block) (b : Block) → block_from at xs ≡ Some b → (1 ≤ count_in b xs) × (b.base ≡ at)
found_in at [] b e = absurd (none-some _ e)
found_in at (x ∷ xs) b e = by (eqb x.base at) refl (found_in at xs b) e
  where
    by : (t : Bool) → eqb x.base at ≡ t → (block_from at xs ≡ Some b → (1 ≤ count_in b xs) × (b.base ≡ at)) → cond t (Some x) (block_from at xs) ≡ Some b → (1 ≤ one_of b x + count_in b xs) × (b.base ≡ at)
    by true t rest e =
        let same : x ≡ b = same_Some x b e in
        let one = ap (one_of b) same ∙ one_self b in
        (omega (arith, one), ap (λ (y : Block). y.base) (sym same) ∙ eqb-true x.base at t)
    by false t rest e = let r = rest e in (omega (arith, r.0), r.1)
