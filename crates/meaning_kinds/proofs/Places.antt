-- Places that are read and written.
use Rattle.std.proofs.Common.{◌≡◌, ℕ, Bool, true, false, List, Option, Some, None, refl, sym, ap, ◌∙◌, subst, arith}
use Rattle.std.specs.Prelude.{◌==◌, slice_get, if◌then◌else◌}
use Rattle.std.proofs.lemmas.Bool.{true≢false}
use Rattle.bb_words.specs.declared.steps.Width.{Width}
use Rattle.bb_words.specs.declared.steps.Width.TheVariants as width
use Rattle.typed_tree.specs.Types.{CType, IsNumber, IsPointer, IsScalar}
use Rattle.typed_tree.specs.TypedTree.{CExpr, CLocal, type_of}
use Rattle.typed_tree.specs.TypedOperands.{is_place, has_object}
use Rattle.typed_tree.specs.Typed.{is_local}
use Rattle.source_meaning.specs.declared.values.Pointer.{Pointer}
use Rattle.source_meaning.specs.declared.values.Value.{Value}
use Rattle.source_meaning.specs.declared.values.Value.TheVariants.{Num, Ptr}
use Rattle.source_meaning.specs.declared.values.Slot.{Slot}
use Rattle.source_meaning.specs.declared.values.Slot.TheVariants.{Kept, Lies}
use Rattle.source_meaning.specs.declared.values.Place.{Place}
use Rattle.source_meaning.specs.declared.values.Place.TheVariants.{Variable, Memory}
use Rattle.source_meaning.specs.declared.values.Held.{Held}
use Rattle.source_meaning.specs.declared.values.Held.TheVariants.{Of, At}
use Rattle.source_meaning.specs.declared.values.Want.{Want}
use Rattle.source_meaning.specs.declared.values.Want.TheVariants.{ItsValue, ItsPlace}
use Rattle.source_meaning.specs.States.{State, Runs, width_of, with_slot, place_of_slot, local_place, read, read_memory, read_slot, write, written_memory, finish, using_value, using_number, using_pointer, using_place, using_address}
use Rattle.meaning_kinds.specs.Kinds.{HasKind, SlotFits, Sound, PlaceFits, IsNamed, HeldFits, MayWant, KeepsKinds}
use Rattle.meaning_kinds.proofs.ValueKinds.{as_number, as_pointer, as_other, gives_weaker, keeps_value, keeps_then, keeps_doing}
use Rattle.meaning_kinds.proofs.Acts.{IsOf, load_gives, store_gives}

pub same_thing : {A : Type 0} {a b : A} → Some a ≡ Some b → a ≡ b
same_thing {A = A} {a = a} e = ap (from a) e
  where
    from : A → Option A → A
    from d None = d
    from d (Some x) = x

pub either_way : {X : Type 0} (b : Bool) → b ≡ true → b ≡ false → X
either_way b t f = absurd (true≢false (sym t ∙ f))

-- ---- Operands

module _ {A : Type 0} (ls : List CLocal) (e : CExpr) {P : A → Type 0} where
  pub use_value : (x : Held) (f : Value → State → Runs A) (c : State) → HeldFits ls ItsValue e x → ((v : Value) → HasKind (type_of e) v → KeepsKinds ls P (f v c)) → KeepsKinds ls P (using_value x f c)
  use_value (Of v) f c h k = k v h.is
  use_value (At q) f c h k = absurd h.is

  pub use_number : (x : Held) (f : ℕ → State → Runs A) (c : State) → IsNumber (type_of e) → HeldFits ls ItsValue e x → ((n : ℕ) → KeepsKinds ls P (f n c)) → KeepsKinds ls P (using_number x f c)
  use_number (Of (Num n)) f c is h k = k n
  use_number (Of (Ptr q)) f c is h k = absurd (h.is.number is)
  use_number (At q) f c is h k = absurd h.is

  pub use_pointer : (x : Held) (f : Pointer → State → Runs A) (c : State) → IsPointer (type_of e) → HeldFits ls ItsValue e x → ((q : Pointer) → KeepsKinds ls P (f q c)) → KeepsKinds ls P (using_pointer x f c)
  use_pointer (Of (Num n)) f c is h k = absurd (h.is.pointer is)
  use_pointer (Of (Ptr q)) f c is h k = k q
  use_pointer (At q) f c is h k = absurd h.is

  pub use_place : (x : Held) (f : Place → State → Runs A) (c : State) → HeldFits ls ItsPlace e x → ((q : Place) → PlaceFits ls (type_of e) q → KeepsKinds ls P (f q c)) → KeepsKinds ls P (using_place x f c)
  use_place (Of v) f c h k = absurd h.is
  use_place (At q) f c h k = k q h.is.0

  -- where no kept local has the type, or is the expression
  pub use_address : (x : Held) (f : Pointer → State → Runs A) (c : State) → ((k : ℕ) (l : CLocal) → slice_get ls k ≡ Some l → l.is_block ≡ false → l.ty ≡ type_of e → (is_place e ≡ true → is_local k e ≡ true) → ⊥) → HeldFits ls ItsPlace e x → ((q : Pointer) → KeepsKinds ls P (f q c)) → KeepsKinds ls P (using_address x f c)
  use_address (Of v) f c none h k = absurd h.is
  use_address (At (Variable j)) f c none h k = absurd (none j h.is.0.0 h.is.0.1 h.is.0.2 h.is.0.3 h.is.1)
  use_address (At (Memory q)) f c none h k = k q

-- ---- Reading and writing

pub read_memory_kind : (ls : List CLocal) (t : CType) (q : Pointer) (c : State) → Sound ls c → KeepsKinds ls (HasKind t) (read_memory (width_of t) q c)
read_memory_kind ls CType.Char q c s = keeps_doing _ c s (λ w. gives_weaker (λ v h. as_number CType.Char v refl h) (load_gives width.Byte q w))
read_memory_kind ls CType.Int q c s = keeps_doing _ c s (λ w. gives_weaker (λ v h. as_number CType.Int v refl h) (load_gives width.Word q w))
read_memory_kind ls CType.Unsigned q c s = keeps_doing _ c s (λ w. gives_weaker (λ v h. as_number CType.Unsigned v refl h) (load_gives width.Word q w))
read_memory_kind ls (CType.Pointer t) q c s = keeps_doing _ c s (λ w. gives_weaker (λ v h. as_pointer (CType.Pointer t) v refl h) (load_gives width.Pointer q w))
read_memory_kind ls CType.Void q c s = keeps_value _ _ (as_other CType.Void _ refl refl) s
read_memory_kind ls (CType.Struct k) q c s = keeps_value _ _ (as_other (CType.Struct k) _ refl refl) s
read_memory_kind ls (CType.Array t n) q c s = keeps_value _ _ (as_other (CType.Array t n) _ refl refl) s

read_slot_kind : (ls : List CLocal) (l : CLocal) (t : CType) (slot : Slot) (c : State) → l.is_block ≡ false → l.ty ≡ t → SlotFits l slot → Sound ls c → KeepsKinds ls (HasKind t) (read_slot slot c)
read_slot_kind ls l t (Kept v) c b e h s = keeps_value _ _ (subst (λ u. HasKind u v) e h.1) s
read_slot_kind ls l t (Lies o) c b e h s = either_way l.is_block h b

pub read_kind : (ls : List CLocal) (t : CType) (q : Place) (c : State) → PlaceFits ls t q → Sound ls c → KeepsKinds ls (HasKind t) (read t q c)
read_kind ls t (Variable k) c h s = read_slot_kind ls h.0 t (c.locals k) c h.2 h.3 (s.slots k h.0 h.1) s
read_kind ls t (Memory q) c h s = read_memory_kind ls t q c s

written_memory_kind : (ls : List CLocal) (width : Width) (t : CType) (q : Pointer) (v : Value) (c : State) → IsOf width v → HasKind t v → Sound ls c → KeepsKinds ls (HasKind t) (written_memory (Some width) q v c)
written_memory_kind ls width t q v c is h s = keeps_then (keeps_doing _ c s (λ w. store_gives width q v w is)) (λ done d i r. keeps_value _ _ h r)

scalar_memory_kind : (ls : List CLocal) (t : CType) (q : Pointer) (v : Value) (c : State) → IsScalar t → HasKind t v → Sound ls c → KeepsKinds ls (HasKind t) (written_memory (width_of t) q v c)
scalar_memory_kind ls CType.Char q v c is h s = written_memory_kind ls width.Byte CType.Char q v c (h.number refl) h s
scalar_memory_kind ls CType.Int q v c is h s = written_memory_kind ls width.Word CType.Int q v c (h.number refl) h s
scalar_memory_kind ls CType.Unsigned q v c is h s = written_memory_kind ls width.Word CType.Unsigned q v c (h.number refl) h s
scalar_memory_kind ls (CType.Pointer t) q v c is h s = written_memory_kind ls width.Pointer (CType.Pointer t) q v c (h.pointer refl) h s
scalar_memory_kind ls CType.Void q v c is h s = absurd (true≢false (sym is))
scalar_memory_kind ls (CType.Struct k) q v c is h s = absurd (true≢false (sym is))
scalar_memory_kind ls (CType.Array t n) q v c is h s = absurd (true≢false (sym is))

-- a kept local gets a value of its kind
pub sound_set : (ls : List CLocal) (k : ℕ) (l : CLocal) (v : Value) (c : State) → slice_get ls k ≡ Some l → l.is_block ≡ false → HasKind l.ty v → Sound ls c → Sound ls (record c { locals = with_slot c.locals k (Kept v) })
sound_set ls k l v c found b h s = record { slots = λ j m at. of j m at (j == k) refl }
  where
    same_local : (j : ℕ) (m : CLocal) → slice_get ls j ≡ Some m → (j == k) ≡ true → l ≡ m
    same_local j m at e = same_thing (sym found ∙ ap (λ n. slice_get ls n) (grind arith) ∙ at)

    of : (j : ℕ) (m : CLocal) → slice_get ls j ≡ Some m → (x : Bool) → (j == k) ≡ x → SlotFits m (if x then Kept v else c.locals j)
    of j m at true e = let same = same_local j m at e in subst (λ z. (z.is_block ≡ false) × HasKind z.ty v) same (b, h)
    of j m at false e = s.slots j m at

pub write_kind : (ls : List CLocal) (t : CType) (q : Place) (v : Value) (c : State) → IsScalar t → PlaceFits ls t q → HasKind t v → Sound ls c → KeepsKinds ls (HasKind t) (write t q v c)
write_kind ls t (Variable k) v c is p h s = keeps_value _ _ h (sound_set ls k p.0 v c p.1 p.2 (subst (λ u. HasKind u v) (sym p.3) h) s)
write_kind ls t (Memory q) v c is p h s = scalar_memory_kind ls t q v c is h s

pub finish_kind : (ls : List CLocal) (e : CExpr) (want : Want) (q : Place) (c : State) → PlaceFits ls (type_of e) q → IsNamed e q → Sound ls c → KeepsKinds ls (HeldFits ls want e) (finish (type_of e) want q c)
finish_kind ls e ItsPlace q c p named s = keeps_value _ _ (record { is = (p, named) }) s
finish_kind ls e ItsValue q c p named s = keeps_then (read_kind ls (type_of e) q c p s) (λ v d h r. keeps_value _ _ (record { is = h }) r)

-- ---- Locals

pub slot_place : (ls : List CLocal) (k : ℕ) (l : CLocal) (slot : Slot) → slice_get ls k ≡ Some l → SlotFits l slot → PlaceFits ls l.ty (place_of_slot k slot)
slot_place ls k l (Kept v) found h = (l, found, h.0, refl)
slot_place ls k l (Lies o) found h = tt

pub slot_named : (k : ℕ) (l : CLocal) (slot : Slot) (e : CExpr) → is_local k e ≡ true → SlotFits l slot → IsNamed e (place_of_slot k slot)
slot_named k l (Kept v) e named h = λ place. named
slot_named k l (Lies o) e named h = tt

pub local_fits : (ls : List CLocal) (k : ℕ) (l : CLocal) (c : State) → slice_get ls k ≡ Some l → Sound ls c → PlaceFits ls l.ty (local_place k c)
local_fits ls k l c found s = slot_place ls k l (c.locals k) found (s.slots k l found)

-- an expression that gives a value alone
pub only_value : {ls : List CLocal} {e : CExpr} {r : Runs Held} (want : Want) → MayWant want e → has_object e ≡ false → KeepsKinds ls (HeldFits ls ItsValue e) r → KeepsKinds ls (HeldFits ls want e) r
only_value ItsValue may none h = h
only_value ItsPlace may none h = absurd (true≢false (sym may ∙ none))
