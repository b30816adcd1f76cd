-- How structs are laid out, member by member.
use Rattle.std.proofs.Common.{◌≡◌, ℕ, ◌+◌, ◌<◌, ◌≤◌, List, [], ◌∷◌, length, refl, sym, ◌∙◌, ap, Bool, true, false, arith}
use Rattle.std.specs.Prelude.{map, max, Ok, Err, nat_lt, slice_set}
use Rattle.typed_tree.specs.TypedTree.{CStruct, CMember}
use Rattle.typed_tree.specs.TypedViews.{struct_of}
use Rattle.typed_tree.specs.declared.types.StructType.{StructType}
use Rattle.typed_tree.specs.Sizes.{largest, size_of, align_of, rounded_up, end_of, greatest_align}
use Rattle.std.proofs.lemmas.List.{map-set, set_past, length-map}
use Rattle.std.proofs.lemmas.Bool.{lt-ltb, le-ltb}
use Rattle.typing_operators.specs.declared.error.TypeError.{TypeError}
use Rattle.typing_operators.specs.declared.error.TypeError.TheVariants.{TooLarge}
use Rattle.typing_operators.specs.Rule.{Rule, ◌>>=◌, refuse}
use Rattle.typing_expressions.specs.Scene.{CDraft}
use Rattle.typing_declarations.specs.Structs.{placed, laid_out}
use Rattle.typing_declarations.specs.StructSteps.{end_of_drafts, greatest_of_drafts, sized}

pub ends : (structs : List CStruct) (from : ℕ) (ms : List CDraft) → end_of structs from (placed structs from ms) ≡ end_of_drafts structs from ms
ends structs from [] = refl
ends structs from (m ∷ ms) = ends structs (rounded_up from (align_of structs m.ty) + size_of structs m.ty) ms

abbrev above : ℕ → ℕ → ℕ → ℕ
above a x g = max (max a x) g

max_of_three : (a x g : ℕ) → max (max a x) g ≡ max a (max x g)
max_of_three a x g = omega arith

greatest_from : (structs : List CStruct) (from a : ℕ) (ms : List CDraft) → 1 ≤ a → greatest_of_drafts structs a ms ≡ max a (greatest_align structs (placed structs from ms))
greatest_from structs from a [] h = omega (arith, h)
greatest_from structs from a (m ∷ ms) h =
    let x = align_of structs m.ty in
    let next = rounded_up from x + size_of structs m.ty in
    greatest_from structs next (max a x) ms (omega (arith, h)) ∙ max_of_three a x (greatest_align structs (placed structs next ms))

at_least_one : (structs : List CStruct) (from : ℕ) (ms : List CDraft) → 1 ≤ greatest_align structs (placed structs from ms)
at_least_one structs from [] = omega arith
at_least_one structs from (m ∷ ms) =
    let h = at_least_one structs (rounded_up from (align_of structs m.ty) + size_of structs m.ty) ms in
    omega (arith, h)

pub greatest : (structs : List CStruct) (ms : List CDraft) → greatest_align structs (placed structs 0 ms) ≡ greatest_of_drafts structs 1 ms
greatest structs ms = sym (greatest_from structs 0 1 ms (omega arith) ∙ (let h = at_least_one structs 0 ms in omega (arith, h)))

-- a refusal before a step is one of the whole
pub refused_first : {A B : Type 0} (b : Bool) (e : TypeError) (r : Rule A) (f : A → Rule B) → (refuse b e r >>= f) ≡ refuse b e (r >>= f)
refused_first true e r f = refl
refused_first false e r f = refl

-- a struct put in its place, or none where there is no such place
pub put_in : (ss : List StructType) (k : ℕ) (t : StructType) → map struct_of (slice_set ss k t) ≡ slice_set (map struct_of ss) k (struct_of t)
put_in ss k t = map-set struct_of ss k t

pub put_past : (ss : List StructType) (k : ℕ) (t : StructType) → length ss ≤ k → map struct_of ss ≡ slice_set (map struct_of ss) k (struct_of t)
put_past ss k t h = sym (set_past (map struct_of ss) k (struct_of t) (let n = length-map ss struct_of in omega (arith, h, n)))

abbrev value_or : {A : Type 0} → A → Rule A → A
value_or x (Ok y) = y
value_or x (Err e) = x

abbrev pub IsValue : {A : Type 0} → A → A → Type 0
IsValue {A} x y = let r : Rule A = Ok x in r ≡ Ok y

pub same_value : {A : Type 0} (x y : A) → IsValue x y → x ≡ y
same_value x y h = ap (value_or x) h

module _ (structs : List CStruct) (line : ℕ) (tag : List ℕ) (ms : List CDraft) (align end size : ℕ)
    (a : align ≡ greatest_of_drafts structs 1 ms) (e : end_of_drafts structs 0 ms ≡ end) (z : rounded_up end align ≡ size) where
  align_is : (laid_out structs tag ms).align ≡ align
  align_is = greatest structs ms ∙ sym a

  size_is : (laid_out structs tag ms).size ≡ size
  size_is =
      ap (λ n. rounded_up n (greatest_align structs (placed structs 0 ms))) (ends structs 0 ms ∙ e)
      ∙ ap (rounded_up end) align_is ∙ z

  pub too_large : largest < size → sized structs line tag ms ≡ Err (TooLarge line size)
  too_large h =
      ap (λ n. let r : Rule CStruct = refuse (nat_lt largest n) (TooLarge line n) (Ok (laid_out structs tag ms)) in r) size_is
      ∙ ap (λ b. let r : Rule CStruct = refuse b (TooLarge line size) (Ok (laid_out structs tag ms)) in r) (lt-ltb largest size h)

  pub fits : size ≤ largest → (members : List CMember) → placed structs 0 ms ≡ members → sized structs line tag ms ≡ Ok (record { tag = tag; members = members; size = size; align = align })
  fits h members p =
      ap (λ n. let r : Rule CStruct = refuse (nat_lt largest n) (TooLarge line n) (Ok (laid_out structs tag ms)) in r) size_is
      ∙ ap (λ b. let r : Rule CStruct = refuse b (TooLarge line size) (Ok (laid_out structs tag ms)) in r) (le-ltb largest size h)
      ∙ ap (λ n. let r : Rule CStruct = Ok (record { tag = tag; members = placed structs 0 ms; size = n; align = (laid_out structs tag ms).align }) in r) size_is
      ∙ ap (λ n. let r : Rule CStruct = Ok (record { tag = tag; members = placed structs 0 ms; size = size; align = n }) in r) align_is
      ∙ ap (λ m. let r : Rule CStruct = Ok (record { tag = tag; members = m; size = size; align = align }) in r) p
