-- The map of labels, and what the parts go to.
use Rattle.std.proofs.Common.{◌≡◌, ◌≢◌, ℕ, zero, suc, ◌+◌, ◌<◌, ◌≤◌, ◌⊎◌, Bool, true, false, eqb, eqb-true, List, [], ◌∷◌, ◌++◌, length, Option, Some, None, get_or, refl, sym, ap, subst, inl, inr, ◌∙◌, arith}
use Rattle.std.specs.Prelude.{IsSome, All}
use Rattle.std.proofs.lemmas.Bool.{cases_lt, false≢true}
use Rattle.std.proofs.lemmas.Bool.Decides.{nat_tests}
use Rattle.std.proofs.lemmas.List.Elements.{All-get_or}
use Rattle.std.proofs.lemmas.List.{length-append, get_or_append_left, get_or_push}
use Rattle.rv_code.specs.declared.instr.Instr.TheVariants.{Lui}
use Rattle.rv_asm.specs.declared.parts.Part.{Part}
use Rattle.rv_asm.specs.declared.parts.Part.TheVariants.{Plain, Label, Branch, Jump}
use Rattle.rv_asm.specs.Parts.{is_label, times_in, GoesOnce}
use Rattle.rv_asm.specs.Resolving.{index_of, target_in, part_at, number_in, target_by, with_part, Indexes, AreTargets}
use Rattle.rv_asm.proofs.Labelling.{label_is, first_step, index_once, index_within, target_within}

-- what a look-up has after a part
with_other : (k : ℕ) (part : Part) (look : ℕ → Option ℕ) (l : ℕ) → part ≢ Label l → with_part k part look l ≡ look l
with_other k (Plain i) look l ne = refl
with_other k (Label n) look l ne = by (eqb n l) refl
  where
    by : (b : Bool) → eqb n l ≡ b → with_part k (Label n) look l ≡ look l
    by true e = absurd (ne (ap Label (eqb-true n l e)))
    by false e = rw e refl
with_other k (Branch op rs1 rs2 to) look l ne = refl
with_other k (Jump rd to) look l ne = refl

with_same : (k : ℕ) (look : ℕ → Option ℕ) (l : ℕ) → with_part k (Label l) look l ≡ Some k
with_same k look l = let e : eqb l l ≡ true = grind (arith, nat_tests) in rw e refl

same_label : (n l : ℕ) → Label n ≡ Label l → eqb n l ≡ true
same_label n l same =
    let e : n ≡ l = cc in
    grind (arith, nat_tests)

is_or_not : (part : Part) (l : ℕ) → (part ≡ Label l) ⊎ (part ≢ Label l)
is_or_not (Plain i) l = inr (λ e. cc)
is_or_not (Label n) l = by (eqb n l) refl
  where
    by : (b : Bool) → eqb n l ≡ b → (Label n ≡ Label l) ⊎ (Label n ≢ Label l)
    by true e = inl (ap Label (eqb-true n l e))
    by false e = inr (λ same. absurd (false≢true (sym e ∙ same_label n l same)))
is_or_not (Branch op rs1 rs2 to) l = inr (λ e. cc)
is_or_not (Jump rd to) l = inr (λ e. cc)

-- one part more
pub indexes_more : (parts : List Part) (k : ℕ) (look look' : ℕ → Option ℕ) → Indexes parts k look → ((l : ℕ) → look' l ≡ with_part k (part_at parts k) look l) → Indexes parts (k + 1) look'
indexes_more parts k look look' i more = record { has = has; only = only }
  where
    has : (l j : ℕ) → j < k + 1 → part_at parts j ≡ Label l → IsSome (look' l)
    has l j low is = by (is_or_not (part_at parts k) l) (cases_lt j k)
      where
        by : (part_at parts k ≡ Label l) ⊎ (part_at parts k ≢ Label l) → (j < k) ⊎ (k ≤ j) → IsSome (look' l)
        by (inl e) c = subst (λ (o : Option ℕ). IsSome o) (sym (more l ∙ ap (λ (p : Part). with_part k p look l) e ∙ with_same k look l)) refl
        by (inr ne) (inl below) = subst (λ (o : Option ℕ). IsSome o) (sym (more l ∙ with_other k (part_at parts k) look l ne)) (i.has l j below is)
        by (inr ne) (inr above) = absurd (ne (ap (part_at parts) (omega (arith, above, low)) ∙ is))

    only : (l j : ℕ) → look' l ≡ Some j → (j < k + 1) × (part_at parts j ≡ Label l)
    only l j found = by (is_or_not (part_at parts k) l)
      where
        by : (part_at parts k ≡ Label l) ⊎ (part_at parts k ≢ Label l) → (j < k + 1) × (part_at parts j ≡ Label l)
        by (inl e) =
            let some : Some k ≡ Some j = sym (more l ∙ ap (λ (p : Part). with_part k p look l) e ∙ with_same k look l) ∙ found in
            let same : k ≡ j = cc in
            (omega (arith, same), ap (part_at parts) (sym same) ∙ e)
        by (inr ne) =
            let old = i.only l j (sym (more l ∙ with_other k (part_at parts k) look l ne) ∙ found) in
            (omega (arith, old.0), old.1)

label_only : (l : ℕ) (part : Part) (n : ℕ) → is_label l part ≡ suc n → part ≡ Label l
label_only l (Plain i) n e = absurd (omega (arith, e))
label_only l (Label m) n e = by (eqb m l) refl
  where
    by : (b : Bool) → eqb m l ≡ b → Label m ≡ Label l
    by true same = ap Label (eqb-true m l same)
    by false apart =
        let none : is_label l (Label m) ≡ 0 = rw apart refl in
        absurd (omega (arith, none, e))
label_only l (Branch op rs1 rs2 to) n e = absurd (omega (arith, e))
label_only l (Jump rd to) n e = absurd (omega (arith, e))

-- the part of a label's number is that label
index_is : (l : ℕ) (parts : List Part) → 1 ≤ times_in l parts → part_at parts (index_of l parts) ≡ Label l
index_is l [] some = absurd (omega (arith, some))
index_is l (part ∷ parts) some = by (is_label l part) refl (index_is l parts)
  where
    by : (n : ℕ) → is_label l part ≡ n → (1 ≤ times_in l parts → part_at parts (index_of l parts) ≡ Label l) → part_at (part ∷ parts) (index_of l (part ∷ parts)) ≡ Label l
    by zero e later = ap (part_at (part ∷ parts)) (first_step l part parts 0 e) ∙ later (omega (arith, some, e))
    by (suc n) e later =
        let same = label_only l part n e in
        ap (part_at (part ∷ parts)) (first_step l part parts 1 (ap (is_label l) same ∙ label_is l)) ∙ same

-- where a whole look-up sends a label that stands once
looked_up : (parts : List Part) (look : ℕ → Option ℕ) (l : ℕ) → Indexes parts (length parts) look → times_in l parts ≡ 1 → (o : Option ℕ) → look l ≡ o → number_in (look l) ≡ index_of l parts
looked_up parts look l i once None e =
    let some = i.has l (index_of l parts) (index_within l parts (omega (arith, once))) (index_is l parts (omega (arith, once))) in
    absurd (false≢true (subst (λ (o : Option ℕ). IsSome o) e some))
looked_up parts look l i once (Some k) e =
    let is = i.only l k e in
    rw e (sym (index_once l parts k is.0 is.1 once))

pub target_found : (parts : List Part) (look : ℕ → Option ℕ) (part : Part) → Indexes parts (length parts) look → GoesOnce parts part → target_by look part ≡ target_in parts part
target_found parts look (Plain i) x once = refl
target_found parts look (Label l) x once = refl
target_found parts look (Branch op rs1 rs2 l) x once = looked_up parts look l x once (look l) refl
target_found parts look (Jump rd l) x once = looked_up parts look l x once (look l) refl

-- the targets, one by one
pub targets_more : (parts : List Part) (look : ℕ → Option ℕ) (k : ℕ) (old new : List ℕ) → Indexes parts (length parts) look → All (GoesOnce parts) parts → k < length parts → length old ≡ k → ((j : ℕ) → j < k → get_or old j 0 ≡ target_in parts (part_at parts j)) → new ≡ old ++ target_by look (part_at parts k) ∷ [] →
    (length new ≡ k + 1) × ((j : ℕ) → j < k + 1 → get_or new j 0 ≡ target_in parts (part_at parts j))
targets_more parts look k old new i once low long each is = (ap length is ∙ length-append old (target_by look (part_at parts k) ∷ []) ∙ omega (arith, long), λ j below. by j below (cases_lt j k))
  where
    by : (j : ℕ) → j < k + 1 → (j < k) ⊎ (k ≤ j) → get_or new j 0 ≡ target_in parts (part_at parts j)
    by j below (inl less) = ap (λ (xs : List ℕ). get_or xs j 0) is ∙ get_or_append_left old (target_by look (part_at parts k) ∷ []) 0 j (omega (arith, less, long)) ∙ each j less
    by j below (inr more) =
        let same : j ≡ k = omega (arith, below, more) in
        let end : j ≡ length old = omega (arith, same, long) in
        ap (λ (xs : List ℕ). get_or xs j 0) is
        ∙ get_or_push old (target_by look (part_at parts k)) 0 j (sym end)
        ∙ target_found parts look (part_at parts k) i (All-get_or (GoesOnce parts) parts k (Plain (Lui 0 0)) low once)
        ∙ ap (λ (n : ℕ). target_in parts (part_at parts n)) (sym same)

pub targets_are : (parts : List Part) (k : ℕ) (targets : List ℕ) → All (GoesOnce parts) parts → k ≡ length parts → (length targets ≡ k) × ((j : ℕ) → j < k → get_or targets j 0 ≡ target_in parts (part_at parts j)) → AreTargets parts targets
targets_are parts k targets once end is = record {
  count = is.0 ∙ end;
  each = λ j low. is.1 j (omega (arith, low, end));
  within = λ j low. omega (arith, is.1 j (omega (arith, low, end)), target_within parts (part_at parts j) (All-get_or (GoesOnce parts) parts j (Plain (Lui 0 0)) low once));
}
