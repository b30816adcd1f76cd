-- Initializers of a typed function.
use Rattle.std.proofs.Common.{◌≡◌, ℕ, suc, ◌+◌, Bool, true, false, List, [], ◌∷◌, length, Some, refl, sym, ap, ◌∙◌, subst}
use Rattle.std.specs.Prelude.{◌||◌, IsTrue, slice_get}
use Rattle.std.proofs.lemmas.Bool.{true≢false}
use Rattle.bb_words.specs.declared.steps.Width.{Width}
use Rattle.bb_words.specs.declared.steps.Width.TheVariants as width
use Rattle.typed_tree.specs.Types.{CType, is_array, is_struct, IsScalar}
use Rattle.typed_tree.specs.TypedTree.{CInitial, CInitials, CLocal, CFunction, CProgram, type_of}
use Rattle.typed_tree.specs.TypedRules.{part_type}
use Rattle.typed_tree.specs.Walk.{over_initial, over_initials}
use Rattle.typed_tree.specs.TypedBody.{Environment, IsInitial, AreInitials, IsInitialized}
use Rattle.typed_tree.specs.TypedBody.IsInitialized.{parts as by_parts, copy as by_copy}
use Rattle.typed_tree.specs.Typed.{environment_of}
use Rattle.source_meaning.specs.declared.values.Value.{Value}
use Rattle.source_meaning.specs.declared.values.Value.TheVariants.{Num}
use Rattle.source_meaning.specs.declared.values.Slot.{Slot}
use Rattle.source_meaning.specs.declared.values.Slot.TheVariants.{Kept, Lies}
use Rattle.source_meaning.specs.declared.values.Place.{Place}
use Rattle.source_meaning.specs.declared.values.Place.TheVariants.{Variable, Memory}
use Rattle.source_meaning.specs.declared.values.Held.TheVariants.{At as InPlace}
use Rattle.source_meaning.specs.declared.values.Want.TheVariants.{ItsValue, ItsPlace}
use Rattle.source_meaning.specs.Sites.{sites_of_initial}
use Rattle.source_meaning.specs.States.{State, count, width_of, local_place}
use Rattle.source_meaning.specs.Meaning.{Calls, type_or_void, fill_text, fill_scalar, part_offset, fill_part, fill_parts, fill_object, start_scalar, initialized}
use Rattle.meaning_kinds.specs.Kinds.{refers, HasKind, SlotFits, Sound, PlaceFits, SignalFits, KeepsKinds, CallsKeepKinds, Never}
use Rattle.meaning_kinds.proofs.ValueKinds.{keeps_value, keeps_then, keeps_first, keeps_second, keeps_doing}
use Rattle.meaning_kinds.proofs.Acts.{IsOf, initialize_gives, clear_gives}
use Rattle.meaning_kinds.proofs.Places.{use_value, sound_set, local_fits}
use Rattle.meaning_kinds.proofs.Operators.{kind_by}
use Rattle.meaning_kinds.proofs.Finding.{left, right, place_has_object}
use Rattle.meaning_kinds.proofs.Settings.{Setting, no_array, no_struct}
use Rattle.meaning_kinds.proofs.Changes.{IsAddress, held_address, copy_kind, scalar_no_struct}
use Rattle.meaning_kinds.proofs.Expressions.{run_kind}

abbrev pub initial_mentions : CInitial → ℕ → Bool
initial_mentions x k = over_initial (refers k) x

abbrev pub initials_mention : CInitials → ℕ → Bool
initials_mention xs k = over_initials (refers k) xs

module _ (g : ℕ) (p : CProgram) (call : Calls) where
  filled : (ls : List CLocal) (r : CType) (width : Width) (k offset : ℕ) (v : Value) (c : State) → IsOf width v → Sound ls c → KeepsKinds ls (SignalFits r) (fill_scalar g p call (Some width) k offset v c)
  filled ls r width k offset v c is s = keeps_then (keeps_doing _ c s (λ w. initialize_gives k offset width v w is)) (λ done d h q. keeps_value _ _ tt q)

  pub fill_scalar_kind : (ls : List CLocal) (r t : CType) (k offset : ℕ) (v : Value) (c : State) → IsScalar t → HasKind t v → Sound ls c → KeepsKinds ls (SignalFits r) (fill_scalar g p call (width_of t) k offset v c)
  fill_scalar_kind ls r CType.Char k offset v c is h s = filled ls r width.Byte k offset v c (h.number refl) s
  fill_scalar_kind ls r CType.Int k offset v c is h s = filled ls r width.Word k offset v c (h.number refl) s
  fill_scalar_kind ls r CType.Unsigned k offset v c is h s = filled ls r width.Word k offset v c (h.number refl) s
  fill_scalar_kind ls r (CType.Pointer t) k offset v c is h s = filled ls r width.Pointer k offset v c (h.pointer refl) s
  fill_scalar_kind ls r CType.Void k offset v c is h s = absurd (true≢false (sym is))
  fill_scalar_kind ls r (CType.Struct j) k offset v c is h s = absurd (true≢false (sym is))
  fill_scalar_kind ls r (CType.Array t n) k offset v c is h s = absurd (true≢false (sym is))

  pub fill_text_kind : (ls : List CLocal) (r : CType) (bytes : List ℕ) (k offset : ℕ) (c : State) → Sound ls c → KeepsKinds ls (SignalFits r) (fill_text g p call bytes k offset c)
  fill_text_kind ls r [] k offset c s = keeps_value _ _ tt s
  fill_text_kind ls r (byte ∷ bytes) k offset c s =
      keeps_then (keeps_doing _ c s (λ w. initialize_gives k offset width.Byte (Num byte) w tt)) (λ done d h q. fill_text_kind ls r bytes k (offset + 1) d q)

  -- a local that gets a value
  start_scalar_kind : (ls : List CLocal) (r t : CType) (j : ℕ) (l : CLocal) (slot : Slot) (v : Value) (c : State) → slice_get ls j ≡ Some l → l.ty ≡ t → IsScalar t → SlotFits l slot → HasKind t v → Sound ls c → KeepsKinds ls (SignalFits r) (start_scalar g p call t j slot v c)
  start_scalar_kind ls r t j l (Kept old) v c found type is fits h s = keeps_value _ _ tt (sound_set ls j l v c found fits.0 (kind_by v type h) s)
  start_scalar_kind ls r t j l (Lies k) v c found type is fits h s = fill_scalar_kind ls r t k 0 v c is h s

place_address : (ls : List CLocal) (t : CType) (q : Place) → ((k : ℕ) (l : CLocal) → slice_get ls k ≡ Some l → l.is_block ≡ false → l.ty ≡ t → ⊥) → PlaceFits ls t q → IsAddress (InPlace q)
place_address ls t (Variable k) none h = none k h.0 h.1 h.2 h.3
place_address ls t (Memory q) none h = tt

module _ (g : ℕ) (p : CProgram) (f : CFunction) (given : Setting p f) (call : Calls) (all : CallsKeepKinds p call) (r : CType) where
  abbrev ls : List CLocal
  ls = f.locals

  abbrev names : Environment
  names = environment_of p f

  mutual
    pub fill_part_kind : (x : CInitial) (t : CType) → IsInitial names t x → Never ls (initial_mentions x) → (n k offset : ℕ) (c : State) → Sound ls c → KeepsKinds ls (SignalFits r) (fill_part g p call x n t k offset c)
    fill_part_kind (CInitial.Value e) t is never n k offset c s =
        keeps_then (run_kind g p f given call all e is.0 never n ItsValue tt c s) (λ x d h q. use_value ls e x _ d h (λ v hv.
        fill_scalar_kind g p call ls r t k offset v d is.1.1 (kind_by v (sym is.1.0) hv) q))
    fill_part_kind (CInitial.Text at bytes) t is never n k offset c s = fill_text_kind g p call ls r bytes k offset (count (1 + length bytes) c) (record { slots = s.slots })
    fill_part_kind (CInitial.Braces at parts) t is never n k offset c s = fill_parts_kind parts t 0 is.1 never n k offset c s

    fill_parts_kind : (xs : CInitials) (t : CType) (i : ℕ) → AreInitials names t i xs → Never ls (initials_mention xs) → (n k offset : ℕ) (c : State) → Sound ls c → KeepsKinds ls (SignalFits r) (fill_parts g p call xs n t i k offset c)
    fill_parts_kind CInitials.none t i is never n k offset c s = keeps_value _ _ tt s
    fill_parts_kind (CInitials.more x xs) t i is never n k offset c s =
        keeps_then (fill_part_kind x (type_or_void (part_type p.structs t i)) (subst (λ u. IsInitial names u x) (sym (ap type_or_void is.0.1)) is.0.2) (left (initial_mentions x) (initials_mention xs) never) n k (offset + part_offset g p call t i) c s) (λ y d h q.
        fill_parts_kind xs t (suc i) is.1 (right (initial_mentions x) (initials_mention xs) never) (n + sites_of_initial p.structs x) k offset d q)

  -- an array or a struct
  fill_object_kind : (x : CInitial) (t : CType) (j : ℕ) (l : CLocal) (slot : Slot) → slice_get ls j ≡ Some l → l.ty ≡ t → IsTrue (is_array t || is_struct t) → SlotFits l slot → IsInitial names t x → Never ls (initial_mentions x) → (n : ℕ) (c : State) → Sound ls c → KeepsKinds ls (SignalFits r) (fill_object g p call x n t slot c)
  fill_object_kind x t j l (Kept v) found type aggregate fits is never n c s = which (is_array t) (is_struct t) refl refl aggregate
    where
      which : {X : Type 0} (a b : Bool) → is_array t ≡ a → is_struct t ≡ b → a || b ≡ true → X
      which true b ea eb h = absurd (no_array p f given t ea j l found fits.0 type)
      which false true ea eb h = absurd (no_struct p f given t eb j l found fits.0 type)
      which false false ea eb h = absurd (true≢false (sym h))
  fill_object_kind x t j l (Lies k) found type aggregate fits is never n c s =
      keeps_then (keeps_doing _ c s (clear_gives k)) (λ done d h q. fill_part_kind x t is never n k 0 d q)

  pub initialized_kind : (x : CInitial) (line j : ℕ) (t : CType) (l : CLocal) → slice_get ls j ≡ Some l → l.ty ≡ t → IsInitialized names t x → Never ls (initial_mentions x) → (n : ℕ) (c : State) → Sound ls c → KeepsKinds ls (SignalFits r) (initialized g p call line j t x n c)
  initialized_kind (CInitial.Value e) line j t l found type (by_parts is) never n c s =
      keeps_second (is_struct (type_of e)) _ _ c (ap is_struct is.1.0 ∙ scalar_no_struct t is.1.1)
      (keeps_then (run_kind g p f given call all e is.0 never n ItsValue tt c s) (λ x d h q. use_value ls e x _ d h (λ v hv.
      start_scalar_kind g p call ls r (type_of e) j l (d.locals j) v d found (type ∙ sym is.1.0) (subst IsScalar (sym is.1.0) is.1.1) (q.slots j l found) hv q)))
  initialized_kind (CInitial.Value e) line j t l found type (by_copy ie is) never n c s =
      let struct : is_struct (type_of e) ≡ true = ap is_struct is.same_struct ∙ is.struct in
      keeps_first (is_struct (type_of e)) _ _ c struct
      (keeps_then (run_kind g p f given call all e ie never n ItsPlace (place_has_object e is.place) c s) (λ y d h q.
      keeps_then (copy_kind ls g _ line _ (InPlace (local_place j d)) y d
      (place_address ls l.ty (local_place j d) (no_struct p f given l.ty (ap is_struct type ∙ is.struct)) (local_fits ls j l d found q))
      (held_address ls e y (no_struct p f given (type_of e) struct) h) q) (λ done d1 h1 q1. keeps_value _ _ tt q1)))
  initialized_kind (CInitial.Text at bytes) line j t l found type (by_parts is) never n c s =
      fill_object_kind (CInitial.Text at bytes) t j l (c.locals j) found type (ap (λ b. b || is_struct t) (ap is_array is.1.array)) (s.slots j l found) is never n c s
  initialized_kind (CInitial.Braces at parts) line j t l found type (by_parts is) never n c s =
      fill_object_kind (CInitial.Braces at parts) t j l (c.locals j) found type is.0 (s.slots j l found) is never n c s
