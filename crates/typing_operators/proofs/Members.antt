-- The search for a member, one after the other.
use Rattle.std.proofs.Common.{◌≡◌, ℕ, ◌+◌, ◌<◌, ◌≤◌, true, false, nat_eq, List, [], length, drop, get_or, refl, ◌∙◌, ap, arith, add-one, drop-cons}
use Rattle.std.specs.Prelude.{Option, Some, None, map, if◌then◌else◌}
use Rattle.std.specs.Cmp.Lexicographic.{pointwise}
use Rattle.std.proofs.lemmas.Grind.{common_steps}
use Rattle.typed_tree.specs.declared.types.Member.{Member}
use Rattle.typed_tree.specs.Types.{CType}
use Rattle.typed_tree.specs.TypedViews.{member_of}
use Rattle.typing_operators.specs.Operators.{member_named}

-- the members from place i on
abbrev pub from : List ℕ → List Member → ℕ → Option (ℕ × CType)
from name ms i = member_named name i (map member_of (drop i ms))

at_one : (name : List ℕ) (ms : List Member) (i : ℕ) (m : Member) → i < length ms → m ≡ get_or ms i m
    → from name ms i ≡ (if pointwise nat_eq m.name name then Some (i, (member_of m).ty) else from name ms (i + 1))
at_one name ms i m less is = rw (add-one, drop-cons ms i m less, ← is) refl

pub found_here : (name : List ℕ) (ms : List Member) (i : ℕ) (m : Member) → i < length ms → m ≡ get_or ms i m
    → pointwise nat_eq m.name name ≡ true → from name ms i ≡ Some (i, (member_of m).ty)
found_here name ms i m less is same = at_one name ms i m less is ∙ ap (λ b. if b then Some (i, (member_of m).ty) else from name ms (i + 1)) same

pub found_later : (name : List ℕ) (ms : List Member) (i : ℕ) (m : Member) → i < length ms → m ≡ get_or ms i m
    → pointwise nat_eq m.name name ≡ false → from name ms i ≡ from name ms (i + 1)
found_later name ms i m less is other = at_one name ms i m less is ∙ ap (λ b. if b then Some (i, (member_of m).ty) else from name ms (i + 1)) other

nothing_left : (ms : List Member) (i : ℕ) → length ms ≤ i → drop i ms ≡ []
nothing_left ms i past = grind (arith, common_steps)

pub found_nowhere : (name : List ℕ) (ms : List Member) (i : ℕ) → length ms ≤ i → from name ms i ≡ None
found_nowhere name ms i past = ap (λ (rest : List Member). member_named name i (map member_of rest)) (nothing_left ms i past)
