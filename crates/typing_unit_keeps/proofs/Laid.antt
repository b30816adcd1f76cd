-- The structs once one more is defined: each has its layout, and each lies only in later ones.
use Rattle.std.proofs.Common.{◌≡◌, ℕ, zero, suc, ◌+◌, ◌<◌, ◌≤◌, Bool, true, false, ◌⊎◌, inl, inr, List, [], ◌∷◌, ◌++◌, length, refl, sym, ◌∙◌, ap, subst, arith, nat_eq}
use Rattle.std.specs.Prelude.{Option, Some, None, All, slice_get, slice_set}
use Rattle.std.proofs.lemmas.Bool.{eqb-true, eqb-false}
use Rattle.std.proofs.lemmas.List.Elements.{All-nil, All-cons, All-head, All-tail, All-weaker}
use Rattle.typed_tree.specs.Types.{CType}
use Rattle.typed_tree.specs.TypedTree.{CMember, CStruct}
use Rattle.typed_tree.specs.Sizes.{largest, size_of, align_of, has_members, IsComplete, IsType, rounded_up, AreInOrder}
use Rattle.typed_tree.specs.Typed.{IsStruct, IsIn, AreRanked}
use Rattle.typing_expressions.specs.Scene.{CDraft}
use Rattle.typing_declarations.specs.Structs.{placed, laid_out}
use Rattle.typing_unit_keeps.proofs.Steps.{All-slice_get}
use Rattle.typing_unit_keeps.proofs.Scenes.{AreStructs, IsTag, IsDraft, Extends, HasMoreTags}
use Rattle.typing_unit_keeps.proofs.LaterStructs.{is_struct_later}

-- lists of which one element is set

pub set_found : {A : Type 0} (xs : List A) (k : ℕ) (x : A) → k < length xs → slice_get (slice_set xs k x) k ≡ Some x
set_found [] k x h = absurd (omega arith)
set_found (y ∷ xs) zero x h = refl
set_found (y ∷ xs) (suc k) x h = set_found xs k x (omega arith)

pub set_other : {A : Type 0} (xs : List A) (j k : ℕ) (x : A) → (j ≡ k → ⊥) → slice_get (slice_set xs k x) j ≡ slice_get xs j
set_other [] j k x h = refl
set_other (y ∷ xs) zero zero x h = absurd (h refl)
set_other (y ∷ xs) zero (suc k) x h = refl
set_other (y ∷ xs) (suc j) zero x h = refl
set_other (y ∷ xs) (suc j) (suc k) x h = set_other xs j k x (λ e. h (ap suc e))

pub set_size : {A : Type 0} (xs : List A) (k : ℕ) (x : A) → length (slice_set xs k x) ≡ length xs
set_size [] k x = refl
set_size (y ∷ xs) zero x = refl
set_size (y ∷ xs) (suc k) x = ap suc (set_size xs k x)

pub All-slice_set : {A : Type 0} (P : A → Type 0) (xs : List A) (k : ℕ) (x : A) → All P xs → P x → All P (slice_set xs k x)
All-slice_set P [] k x all is = all
All-slice_set P (y ∷ xs) zero x all is = All-cons P x xs is (All-tail P y xs all)
All-slice_set P (y ∷ xs) (suc k) x all is = All-cons P y (slice_set xs k x) (All-head P y xs all) (All-slice_set P xs k x (All-tail P y xs all) is)

-- Ranks as in `AreRanked`; those of the structs that are defined are below a bound.
pub record AreOrdered (structs : List CStruct) : Type 0 where
  pub rank : ℕ → ℕ
  pub bound : ℕ
  pub rises : (k j : ℕ) (s : CStruct) (m : CMember) (i : ℕ) → slice_get structs j ≡ Some s → slice_get s.members i ≡ Some m → IsIn k m.ty → rank k < rank j
  pub below : (k : ℕ) → IsComplete structs (CType.Struct k) → rank k < bound

pub are_ranked : (structs : List CStruct) → AreOrdered structs → AreRanked structs
are_ranked structs ordered = record { rank = ordered.rank; rises = ordered.rises }

pub none_ordered : AreOrdered []
none_ordered = record { rank = λ k. 0; bound = 0; rises = λ k j s m i found is_member is_in. absurd cc; below = λ k complete. absurd cc }

-- what lies in a complete type is complete
in_complete : (structs : List CStruct) (k : ℕ) (t : CType) → IsIn k t → IsComplete structs t → IsComplete structs (CType.Struct k)
in_complete structs k t IsIn.itself h = h
in_complete structs k t (IsIn.element is_in) h = in_complete structs k _ is_in h

-- a struct among old ones and tags
in_front : (old tags : List CStruct) (j : ℕ) (s : CStruct) → All IsTag tags → slice_get (old ++ tags) j ≡ Some s → (slice_get old j ≡ Some s) ⊎ IsTag s
in_front [] tags j s all h = inr (All-slice_get IsTag tags j s all h)
in_front (x ∷ old) tags zero s all h = inl h
in_front (x ∷ old) tags (suc j) s all h = in_front old tags j s all h

no_member : (s : CStruct) (i : ℕ) (m : CMember) → IsTag s → slice_get s.members i ≡ Some m → ⊥
no_member s i m is h = none (ap (λ ms. slice_get ms i) (sym is.members) ∙ h)
  where
    none : (let ms : List CMember = [] in slice_get ms i) ≡ Some m → ⊥
    none h = cc

-- more tags keep the ranks
pub tags_ordered : (old new : List CStruct) → HasMoreTags old new → AreOrdered old → AreOrdered new
tags_ordered old new more ordered = record {
  rank = ordered.rank;
  bound = ordered.bound;
  rises = λ k j s m i found is_member is_in. by k j s m i (in_front old more.tags j s more.are_tags (ap (λ xs. slice_get xs j) (sym more.structs) ∙ found)) is_member is_in;
  below = λ k complete. ordered.below k (there k (slice_get new k) refl complete);
}
  where
    by : (k j : ℕ) (s : CStruct) (m : CMember) (i : ℕ) → ((slice_get old j ≡ Some s) ⊎ IsTag s) → slice_get s.members i ≡ Some m → IsIn k m.ty → ordered.rank k < ordered.rank j
    by k j s m i (inl found) is_member is_in = ordered.rises k j s m i found is_member is_in
    by k j s m i (inr is) is_member is_in = absurd (no_member s i m is is_member)

    there : (k : ℕ) (o : Option CStruct) → slice_get new k ≡ o → has_members o ≡ true → has_members (slice_get old k) ≡ true
    there k None found complete = absurd cc
    there k (Some s) found complete = in_old (in_front old more.tags k s more.are_tags (ap (λ xs. slice_get xs k) (sym more.structs) ∙ found))
      where
        in_old : ((slice_get old k ≡ Some s) ⊎ IsTag s) → has_members (slice_get old k) ≡ true
        in_old (inl is_old) = ap has_members is_old ∙ complete
        in_old (inr is) = absurd (none s.members is.members complete)
          where
            none : (ms : List CMember) → ms ≡ [] → has_members (Some (record s { members = ms })) ≡ true → ⊥
            none [] e h = cc
            none (m ∷ ms) e h = cc

-- a struct of these members, in a list in which it is not defined yet
module _ (structs : List CStruct) (k : ℕ) (t : CStruct) (within : k < length structs) (is_open : has_members (slice_get structs k) ≡ false) where
  abbrev defined : List CStruct
  defined = slice_set structs k t

  -- one that is defined is another
  other : (j : ℕ) (b : Bool) → nat_eq j k ≡ b → has_members (slice_get structs j) ≡ true → nat_eq j k ≡ false
  other j false test complete = test
  other j true test complete =
      let same : has_members (slice_get structs j) ≡ has_members (slice_get structs k) = ap (λ i. has_members (slice_get structs i)) (eqb-true j k test) in
      absurd (apart _ (sym same ∙ complete) is_open)
    where
      apart : (b : Bool) → b ≡ true → b ≡ false → ⊥
      apart b is isnt = cc

  pub defined_extends : Extends structs defined
  defined_extends = record {
    longer = let size = set_size structs k t in omega arith;
    kept = λ j s found complete. set_other structs j k t (eqb-false j k (other j (nat_eq j k) refl (ap has_members found ∙ complete))) ∙ found;
  }

  pub defined_structs : IsStruct structs t → AreStructs structs → AreStructs defined
  defined_structs is all =
      All-slice_set (IsStruct defined) structs k t (All-weaker (IsStruct structs) (IsStruct defined) (λ s h. is_struct_later structs defined defined_extends s h) structs all)
      (is_struct_later structs defined defined_extends t is)

  module _ (is : IsStruct structs t) (all : AreStructs structs) (ordered : AreOrdered structs) where
    abbrev rank_by : Bool → ℕ → ℕ
    rank_by true j = ordered.bound
    rank_by false j = ordered.rank j

    abbrev new_rank : ℕ → ℕ
    new_rank j = rank_by (nat_eq j k) j

    -- of a struct that was defined before it stays the same
    same_rank : (j : ℕ) → IsComplete structs (CType.Struct j) → new_rank j ≡ ordered.rank j
    same_rank j complete = ap (λ b. rank_by b j) (other j (nat_eq j k) refl complete)

    member_complete : (s : CStruct) (i : ℕ) (m : CMember) → IsStruct structs s → slice_get s.members i ≡ Some m → IsComplete structs m.ty
    member_complete s i m is_struct found = All-slice_get (λ m. IsComplete structs m.ty) s.members i m is_struct.complete found

    rises : (l j : ℕ) (s : CStruct) (m : CMember) (i : ℕ) (b : Bool) → nat_eq j k ≡ b → slice_get defined j ≡ Some s → slice_get s.members i ≡ Some m → IsIn l m.ty → new_rank l < rank_by b j
    rises l j s m i true test found is_member is_in =
        let here : slice_get defined j ≡ Some t = ap (slice_get defined) (eqb-true j k test) ∙ set_found structs k t within in
        let same : t ≡ s = same_some t s (sym here ∙ found) in
        let complete = in_complete structs l m.ty is_in (member_complete t i m is (subst (λ (x : CStruct). slice_get x.members i ≡ Some m) (sym same) is_member)) in
        subst (λ n. n < ordered.bound) (sym (same_rank l complete)) (ordered.below l complete)
      where
        same_some : (x y : CStruct) → Some x ≡ Some y → x ≡ y
        same_some x y h = cc
    rises l j s m i false test found is_member is_in =
        let here : slice_get structs j ≡ Some s = sym (set_other structs j k t (eqb-false j k test)) ∙ found in
        let complete = in_complete structs l m.ty is_in (member_complete s i m (All-slice_get (IsStruct structs) structs j s all here) is_member) in
        subst (λ n. n < ordered.rank j) (sym (same_rank l complete)) (ordered.rises l j s m i here is_member is_in)

    below : (j : ℕ) (b : Bool) → nat_eq j k ≡ b → IsComplete defined (CType.Struct j) → rank_by b j < suc ordered.bound
    below j true test complete = omega arith
    below j false test complete =
        let less = ordered.below j (ap has_members (sym (set_other structs j k t (eqb-false j k test))) ∙ complete) in omega arith

    pub defined_ordered : AreOrdered defined
    defined_ordered = record {
      rank = new_rank;
      bound = suc ordered.bound;
      rises = λ l j s m i found is_member is_in. rises l j s m i (nat_eq j k) refl found is_member is_in;
      below = λ j complete. below j (nat_eq j k) refl complete;
    }

-- the layout of these members is a struct

placed_types : (structs : List CStruct) (from : ℕ) (ms : List CDraft) → All (IsDraft structs) ms → All (λ m. IsType structs m.ty) (placed structs from ms)
placed_types structs from [] all = All-nil (λ m. IsType structs m.ty)
placed_types structs from (m ∷ ms) all =
    All-cons (λ m. IsType structs m.ty) _ _ (All-head (IsDraft structs) m ms all).type (placed_types structs (rounded_up from (align_of structs m.ty) + size_of structs m.ty) ms (All-tail (IsDraft structs) m ms all))

placed_complete : (structs : List CStruct) (from : ℕ) (ms : List CDraft) → All (IsDraft structs) ms → All (λ m. IsComplete structs m.ty) (placed structs from ms)
placed_complete structs from [] all = All-nil (λ m. IsComplete structs m.ty)
placed_complete structs from (m ∷ ms) all =
    All-cons (λ m. IsComplete structs m.ty) _ _ (All-head (IsDraft structs) m ms all).complete (placed_complete structs (rounded_up from (align_of structs m.ty) + size_of structs m.ty) ms (All-tail (IsDraft structs) m ms all))

placed_in_order : (structs : List CStruct) (from : ℕ) (ms : List CDraft) → AreInOrder structs from (placed structs from ms)
placed_in_order structs from [] = tt
placed_in_order structs from (m ∷ ms) = (refl, placed_in_order structs (rounded_up from (align_of structs m.ty) + size_of structs m.ty) ms)

pub laid_out_is_struct : (structs : List CStruct) (tag : List ℕ) (ms : List CDraft) → All (IsDraft structs) ms → (laid_out structs tag ms).size ≤ largest → IsStruct structs (laid_out structs tag ms)
laid_out_is_struct structs tag ms all fits = record {
  types = placed_types structs 0 ms all;
  complete = placed_complete structs 0 ms all;
  in_order = placed_in_order structs 0 ms;
  align = refl;
  size = refl;
  fits = fits;
}
