-- The locals of a program of numbers are all values, and it has no other objects.
use Rattle.std.specs.Prelude.{◌&&◌, not, slice_get, drop, if◌then◌else◌}
use Rattle.std.proofs.Common.{◌≡◌, ℕ, zero, suc, ◌+◌, ◌≤◌, Bool, true, false, List, [], ◌∷◌, length, Option, Some, None, refl, sym, ap, ◌∙◌, subst, arith}
use Rattle.std.proofs.lemmas.Bool.{true≢false, and_parts, not-true}
use Rattle.block_layout.specs.Objects.{block_items_from, globals_of}
use Rattle.typed_tree.specs.TypedTree.{CLocal, CProgram}
use Rattle.typed_tree.specs.Counts.{value_locals}
use Rattle.lowering_counts.specs.Built.{has_pointer, are_built_locals, is_empty}

abbrev pub AreKept : List CLocal → Type 0
AreKept ls = (j : ℕ) (l : CLocal) → slice_get ls j ≡ Some l → l.is_block ≡ false

kept_count : (ls : List CLocal) → AreKept ls → value_locals ls ≡ length ls
kept_count [] kept = refl
kept_count (l ∷ ls) kept = let rest = kept_count ls (λ j x e. kept (suc j) x e) in ap (λ b. (if b then 0 else 1) + value_locals ls) (kept 0 l refl) ∙ omega (arith, rest)

-- where all locals are values, the parameters and the others are all of them
pub kept_values : (n : ℕ) (ls : List CLocal) → AreKept ls → n ≤ length ls → n + value_locals (drop n ls) ≡ length ls
kept_values zero ls kept le = let all = kept_count ls kept in omega (arith, all)
kept_values (suc n) [] kept le = absurd (omega (arith, le))
kept_values (suc n) (l ∷ ls) kept le = let rest = kept_values n ls (λ j x e. kept (suc j) x e) (omega (arith, le)) in omega (arith, rest)

pub kept_blocks : (k : ℕ) (ls : List CLocal) → AreKept ls → block_items_from k ls ≡ []
kept_blocks k [] kept = refl
kept_blocks k (l ∷ ls) kept = ap (λ b. if b then record { number = k; length = l.size } ∷ block_items_from (suc k) ls else block_items_from (suc k) ls) (kept 0 l refl) ∙ kept_blocks (suc k) ls (λ j x e. kept (suc j) x e)

pub nothing_in : {X : Type 0} (xs : List X) (k : ℕ) (x : X) → xs ≡ [] → slice_get xs k ≡ Some x → ⊥
nothing_in xs k x e h = true≢false (ap test (sym (ap (λ z. slice_get z k) e) ∙ h))
  where
    test : {X : Type 0} → Option X → Bool
    test None = true
    test (Some x) = false

pub built_local : (ls : List CLocal) → are_built_locals ls ≡ true → (j : ℕ) (l : CLocal) → slice_get ls j ≡ Some l → (l.is_block ≡ false) × (not (has_pointer l.ty) ≡ true)
built_local [] h j l e = absurd (nothing_in [] j l refl e)
built_local (x ∷ xs) h zero l e =
    let parts = and_parts (not x.is_block && not (has_pointer x.ty)) (are_built_locals xs) h in
    let two = and_parts (not x.is_block) (not (has_pointer x.ty)) parts.0 in
    subst (λ z. (z.is_block ≡ false) × (not (has_pointer z.ty) ≡ true)) (same e) (not-true x.is_block two.0, two.1)
  where
    from_some : CLocal → Option CLocal → CLocal
    from_some d None = d
    from_some d (Some y) = y

    same : {y : CLocal} → Some x ≡ Some y → x ≡ y
    same e = ap (from_some x) e
built_local (x ∷ xs) h (suc j) l e = built_local xs (and_parts (not x.is_block && not (has_pointer x.ty)) (are_built_locals xs) h).1 j l e

pub empty_is : {X : Type 0} (xs : List X) → is_empty xs ≡ true → xs ≡ []
empty_is [] h = refl
empty_is (x ∷ xs) h = absurd (true≢false (sym h))

pub nothing_stored : (p : CProgram) → p.globals ≡ [] → p.texts ≡ [] → globals_of p ≡ []
nothing_stored p eg et = ap (λ gs. globals_of (record p { globals = gs })) eg ∙ ap (λ ts. globals_of (record p { globals = []; texts = ts })) et

-- The code of a typed program that is built and keeps its limits is well formed.
