-- Labels and the parts that they are.
use Rattle.std.proofs.Common.{◌≡◌, ℕ, zero, suc, ◌<◌, ◌≤◌, Bool, true, false, if◌then◌else◌, eqb, List, [], ◌∷◌, length, refl, ap, ◌∙◌, arith}
use Rattle.std.proofs.lemmas.Bool.Decides.{nat_tests}
use Rattle.rv_asm.specs.declared.parts.Part.{Part}
use Rattle.rv_asm.specs.declared.parts.Part.TheVariants.{Plain, Label, Branch, Jump}
use Rattle.rv_asm.specs.Parts.{is_label, times_in, GoesOnce}
use Rattle.rv_asm.specs.Resolving.{index_of, target_in, part_at}

pub label_is : (l : ℕ) → is_label l (Label l) ≡ 1
label_is l = let e : eqb l l ≡ true = grind (arith, nat_tests) in rw e refl

label_least : (l : ℕ) (part : Part) → is_label l part ≤ 1
label_least l (Plain i) = omega arith
label_least l (Label n) = by (eqb n l) refl
  where
    by : (b : Bool) → eqb n l ≡ b → is_label l (Label n) ≤ 1
    by true e = rw e (omega arith)
    by false e = rw e (omega arith)
label_least l (Branch op rs1 rs2 to) = omega arith
label_least l (Jump rd to) = omega arith

-- a label that stands at a place counts
counted_at : (l : ℕ) (parts : List Part) (k : ℕ) → k < length parts → part_at parts k ≡ Label l → 1 ≤ times_in l parts
counted_at l [] k low is = absurd (omega (arith, low))
counted_at l (part ∷ parts) zero low is = omega (arith, ap (is_label l) is, label_is l)
counted_at l (part ∷ parts) (suc k) low is = omega (arith, counted_at l parts k (omega (arith, low)) is)

pub first_step : (l : ℕ) (part : Part) (parts : List Part) (n : ℕ) → is_label l part ≡ n → index_of l (part ∷ parts) ≡ (if eqb n 1 then 0 else suc (index_of l parts))
first_step l part parts n e = rw e refl

-- a label that stands once has one place
pub index_once : (l : ℕ) (parts : List Part) (k : ℕ) → k < length parts → part_at parts k ≡ Label l → times_in l parts ≡ 1 → index_of l parts ≡ k
index_once l [] k low is once = absurd (omega (arith, low))
index_once l (part ∷ parts) zero low is once = first_step l part parts 1 (ap (is_label l) is ∙ label_is l)
index_once l (part ∷ parts) (suc k) low is once =
    let later = counted_at l parts k (omega (arith, low)) is in
    let none : is_label l part ≡ 0 = omega (arith, once, later) in
    first_step l part parts 0 none ∙ ap suc (index_once l parts k (omega (arith, low)) is (omega (arith, once, none)))

-- and stands among the parts
pub index_within : (l : ℕ) (parts : List Part) → 1 ≤ times_in l parts → index_of l parts < length parts
index_within l [] some = absurd (omega (arith, some))
index_within l (part ∷ parts) some = by (is_label l part) refl (label_least l part) (index_within l parts)
  where
    by : (n : ℕ) → is_label l part ≡ n → n ≤ 1 → (1 ≤ times_in l parts → index_of l parts < length parts) → index_of l (part ∷ parts) < suc (length parts)
    by zero e least later = omega (arith, first_step l part parts 0 e, later (omega (arith, some, e)))
    by (suc zero) e least later = omega (arith, first_step l part parts 1 e)
    by (suc (suc n)) e least later = absurd (omega (arith, least))

pub target_within : (parts : List Part) (part : Part) → GoesOnce parts part → target_in parts part ≤ length parts
target_within parts (Plain i) is = omega arith
target_within parts (Label l) is = omega arith
target_within parts (Branch op rs1 rs2 l) is = omega (arith, index_within l parts (omega (arith, is)))
target_within parts (Jump rd l) is = omega (arith, index_within l parts (omega (arith, is)))
