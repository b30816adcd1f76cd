-- What is read by a pointer is read by its word, and what is written likewise.
use Rattle.std.proofs.Common.{◌≡◌, ◌≢◌, ℕ, zero, suc, ◌+◌, ◌*◌, ◌-◌, ◌^◌, ◌<◌, ◌≤◌, Bool, true, false, not, ◌&&◌, ◌||◌, ◌==◌, cond, nat_lt, List, ◌∷◌, map, length, All, Option, Some, None, slice_get, ℤ, pos, negsuc, refl, sym, ap, ◌∙◌, subst, arith, ne_eqb}
use Rattle.std.proofs.lemmas.Option.{same_Some, none-some}
use Rattle.std.proofs.lemmas.Bool.Decides.{nat_tests}
use Rattle.std.proofs.lemmas.Nat.{pow_below, pow-add}
use Rattle.bb_words.specs.Answers.{Goes, Ends, and_then}
use Rattle.bb_words.specs.Steps.{size_of_width}
use Rattle.bb_words.specs.declared.steps.Width.{Width}
use Rattle.bb_words.specs.declared.steps.Width.TheVariants as width
use Rattle.marked_ptr.specs.Marked.{word_at, owner_slot}
use Rattle.marked_ptr.specs.Laws.{IsPlaced, IsInReach, OwnerIsBlock}
use Rattle.source_meaning.specs.declared.values.Pointer.{Pointer}
use Rattle.source_meaning.specs.declared.values.Pointer.TheVariants.{Null, To}
use Rattle.source_meaning.specs.declared.values.Value.{Value}
use Rattle.source_meaning.specs.declared.values.Value.TheVariants.{Num, Ptr}
use Rattle.source_meaning.specs.declared.values.Cell.{Cell}
use Rattle.source_meaning.specs.declared.values.Cell.TheVariants.{Byte, Part}
use Rattle.source_meaning.specs.declared.values.OutsideCause.TheVariants.{Forged}
use Rattle.source_meaning.specs.declared.values.Ending.TheVariants.{Exited, Reported, Trapped, Outside, Cut}
use Rattle.size_table.specs.Table as table
use Rattle.source_meaning.specs.Objects as objects
use Rattle.source_meaning.specs.Objects.{Object, Cells, cells_at, number_in, pointer_in, pointer_cells, with_low_byte, lives_in, with_cells, stored_cells}
use Rattle.source_meaning.specs.Worlds.{World, Does, outside, is_sound, live_blocks}
use Rattle.source_meaning.specs.Accesses.{access, number_read, pointer_read, read_as, loaded_from, load, written_at, store}
use Rattle.source_meaning.specs.Copies.{initialized_with, initialize}
use Rattle.flat_code.specs.World.{Memory, read, number_of, bytes_at, bytes_of, with_bytes}
use Rattle.flat_code.specs.Sequences.{is_held}
use Rattle.injection.specs.Words.{word_in, word_of, word_of_value, byte_of}
use Rattle.injection.specs.Memory.{IsLive, AreLaidOut, IsPointerIn, IsPointer, IsValue, IsCell, Injects}
use Rattle.injection.specs.Laws.{Found, AccessesAlike, MayBeLoaded, LoadsAlike, StoresAlike, InitializesAlike}
use Rattle.injection.proofs.Cells.{pointer_in_cells, pointer_number, number_value, number_bytes, number_length, number_formed, pointer_bytes, pointer_length, pointer_formed}
use Rattle.injection.proofs.Stores.{cells_read, cells_keep}
use Rattle.injection.proofs.Owners.{owned, object_byte}
use Rattle.injection.proofs.Access.{accesses_alike}

-- ---- Pointers that are sound

-- a sound pointer that is not null points into a live object
pub record IsInto (g : ℕ) (os : List Object) (k : ℕ) (z : ℤ) : Type 0 where
  pub object : Object
  pub live : IsLive os k object
  pub reach : IsInReach g object.exponent z

pub sound_into : (g : ℕ) (w : World) (k : ℕ) (z : ℤ) → IsPointer g w.objects (To k z) → is_sound w (To k z) ≡ true → IsInto g w.objects k z
sound_into g w k z f s = at (slice_get w.objects k) refl f s
  where
    at : (x : Option Object) → slice_get w.objects k ≡ x → IsPointerIn g x z → lives_in x ≡ true → IsInto g w.objects k z
    at None e f' s' = absurd f'
    at (Some o) e f' s' = record { object = o; live = record { there = e; live = s' }; reach = f' }

pub word_small : (g b e : ℕ) (z : ℤ) → IsPlaced g b e → IsInReach g e z → word_at b e z < 2 ^ 32
word_small g b e (pos n) p r =
    let below = pow_below (g - 1) g (let s = p.slot in omega arith) in
    let most = half (g - 1) e (let s = p.slot in let l = p.least in omega arith) in
    let high = p.high in
    bound (nat_lt n (2 ^ e)) (b + n) (omega (arith, most, r, high))
  where
    half : (i j : ℕ) → i < j → 2 ^ i < 2 ^ j
    half i j h = pow_below i j h

    bound : (t : Bool) (x : ℕ) → x < 2147483648 → cond t x (2147483648 + x) < 4294967296
    bound true x h = omega arith
    bound false x h = omega arith
word_small g b e (negsuc n) p r = let high = p.high in omega (arith, high)

pub pointer_small : (g : ℕ) (os : List Object) (q : Pointer) → AreLaidOut g os → IsPointer g os q → word_of os q < 2 ^ 32
pointer_small g os Null out f = omega arith
pointer_small g os (To k z) out f = at (slice_get os k) refl f
  where
    at : (x : Option Object) → slice_get os k ≡ x → IsPointerIn g x z → word_in x z < 2 ^ 32
    at None e f' = absurd f'
    at (Some o) e f' = word_small g o.base o.exponent z (out.accounts k o e).placed f'

-- ---- Numbers

cells_small : (g : ℕ) (os : List Object) (cs : Cells) (k i n x : ℕ) → ((j t : ℕ) → IsCell g os (cs j t)) → number_in (cells_at cs k i n) ≡ Some x → x < 256 ^ n
cells_small g os cs k i zero x f h = let e = same_Some 0 x h in omega (arith, e)
cells_small g os cs k i (suc n) x f h = at (cs k i) (f k i) (λ y q. cells_small g os cs k (i + 1) n y f q) h
  where
    more : 256 ^ suc n ≡ 256 * 256 ^ n
    more = ap (λ m. 256 ^ m) (let q : suc n ≡ 1 + n = omega arith in q) ∙ pow-add 256 1 n

    with_low : (b : ℕ) (r : Option ℕ) → b < 256 → ((y : ℕ) → r ≡ Some y → y < 256 ^ n) → with_low_byte b r ≡ Some x → x < 256 ^ suc n
    with_low b None lt ih e = absurd (none-some _ e)
    with_low b (Some y) lt ih e = let s = ih y refl in let q = same_Some _ _ e in let m = more in omega (arith, s, q, m, lt)

    at : (c : Cell) → IsCell g os c → ((y : ℕ) → number_in (cells_at cs k (i + 1) n) ≡ Some y → y < 256 ^ n) → number_in (c ∷ cells_at cs k (i + 1) n) ≡ Some x → x < 256 ^ suc n
    at (Byte b) lt ih e = with_low b (number_in (cells_at cs k (i + 1) n)) lt ih e
    at (Part m q) lt ih e = absurd (none-some _ e)

-- ---- Reads

module _ (owners : OwnerIsBlock) (g : ℕ) (memory : Memory) (w : World) (h : Injects g w.objects w.cells memory) where
  number_there : (k i n at x : ℕ) → Found w.objects n at k i → number_in (cells_at w.cells k i n) ≡ Some x → x ≡ number_of (bytes_at memory at n)
  number_there k i n at x f e =
      sym (ap (λ a. number_of (bytes_at memory a n)) f.is
      ∙ ap number_of (cells_read w.objects w.cells memory k f.object i n h.holds f.live f.within)
      ∙ number_value w.objects (cells_at w.cells k i n) x e)

  plain_alike : (wide : Width) (k i at : ℕ) → Found w.objects (size_of_width wide) at k i → 256 ^ size_of_width wide ≤ 4294967296 → read wide memory at ≡ number_of (bytes_at memory at (size_of_width wide)) → LoadsAlike g wide memory w at (number_read false (number_in (cells_at w.cells k i (size_of_width wide))) w)
  plain_alike wide k i at f most is = by (number_in (cells_at w.cells k i (size_of_width wide))) refl
    where
      by : (r : Option ℕ) → number_in (cells_at w.cells k i (size_of_width wide)) ≡ r → LoadsAlike g wide memory w at (number_read false r w)
      by None e = refl
      by (Some x) e =
          let s = cells_small g w.objects w.cells k i (size_of_width wide) x h.cells e in
          (refl, record { place = (k, i); found = f; formed = omega (arith, s, most); word = number_there k i (size_of_width wide) at x f e ∙ sym is; passes = tt })

  signed_alike : (k i at : ℕ) → Found w.objects 2 at k i → LoadsAlike g width.SignedHalf memory w at (number_read true (number_in (cells_at w.cells k i 2)) w)
  signed_alike k i at f = by (number_in (cells_at w.cells k i 2)) refl
    where
      bound : (x : ℕ) → x < 65536 → (t : Bool) → cond t x (x + 4294901760) < 4294967296
      bound x s true = omega arith
      bound x s false = omega arith

      by : (r : Option ℕ) → number_in (cells_at w.cells k i 2) ≡ r → LoadsAlike g width.SignedHalf memory w at (number_read true r w)
      by None e = refl
      by (Some x) e =
          let s = cells_small g w.objects w.cells k i 2 x h.cells e in
          (refl, record { place = (k, i); found = f; formed = bound x s (nat_lt x 32768); word = ap (λ y. cond (nat_lt y 32768) y (y + 4294901760)) (number_there k i 2 at x f e); passes = tt })

  -- a pointer in cells is one
  pointer_there : (k i : ℕ) (q : Pointer) → cells_at w.cells k i 4 ≡ pointer_cells q → IsPointer g w.objects q
  pointer_there k i Null e = tt
  pointer_there k i (To j z) e =
      let same : w.cells k i ≡ Part 0 (To j z) = cc in
      let c : IsCell g w.objects (Part 0 (To j z)) = subst (IsCell g w.objects) same (h.cells k i) in
      c.1

  object_passes : (k : ℕ) (z : ℤ) → IsInto g w.objects k z → MayBeLoaded g w.objects (Ptr (To k z))
  object_passes k z t =
      let o = t.object in
      let there : word_of w.objects (To k z) ≡ word_at o.base o.exponent z = ap (λ x. word_in x z) t.live.there in
      let f : IsPointer g w.objects (To k z) = subst (λ x. IsPointerIn g x z) (sym t.live.there) t.reach in
      let own = owned owners g w.objects (To k z) h.out f in
      let byte = object_byte owners g w.objects k o z own.slot h.out t.live t.reach (sym (ap (owner_slot g) there) ∙ own.is) in
      let p = (h.out.accounts k o t.live.there).placed in
      passes (word_of w.objects (To k z)) (owner_slot g (word_of w.objects (To k z))) own.slot own.is own.small (let a = p.slot in let b = p.least in omega (arith, byte, a, b))
    where
      below : (a b : ℕ) → a < b → nat_lt a b ≡ true
      below a b l = grind (arith, nat_tests)

      or_true : (a : Bool) → (a || true) ≡ true
      or_true true = refl
      or_true false = refl

      passes : (word : ℕ) (x : Option ℕ) (slot : ℕ) → x ≡ Some slot → slot < 2 ^ (25 - g) → table.byte_of g (live_blocks w.objects) slot ≢ 0 → ((word == 0) || is_held g (live_blocks w.objects) x) ≡ true
      passes word x slot e lt n =
          ap (λ y. (word == 0) || is_held g (live_blocks w.objects) y) e
          ∙ ap (λ t. (word == 0) || (t && not (table.byte_of g (live_blocks w.objects) slot == 0))) (below slot (2 ^ (25 - g)) lt)
          ∙ ap (λ t. (word == 0) || not t) (ne_eqb (table.byte_of g (live_blocks w.objects) slot) 0 n)
          ∙ or_true (word == 0)

  sound_passes : (q : Pointer) → IsPointer g w.objects q → is_sound w q ≡ true → MayBeLoaded g w.objects (Ptr q)
  sound_passes Null f s = refl
  sound_passes (To k z) f s = object_passes k z (sound_into g w k z f s)

  pointer_alike : (k i at : ℕ) → Found w.objects 4 at k i → LoadsAlike g width.Pointer memory w at (pointer_read (pointer_in (cells_at w.cells k i 4)) w)
  pointer_alike k i at f = by (pointer_in (cells_at w.cells k i 4)) refl
    where
      by : (r : Option Pointer) → pointer_in (cells_at w.cells k i 4) ≡ r → LoadsAlike g width.Pointer memory w at (pointer_read r w)
      by None e = refl
      by (Some q) e = by_sound (is_sound w q) refl
        where
          cells : cells_at w.cells k i 4 ≡ pointer_cells q
          cells = pointer_in_cells (cells_at w.cells k i 4) q e

          formed : IsPointer g w.objects q
          formed = pointer_there k i q cells

          number : number_of (bytes_at memory at 4) ≡ word_of w.objects q
          number =
              ap (λ a. number_of (bytes_at memory a 4)) f.is
              ∙ ap number_of (cells_read w.objects w.cells memory k f.object i 4 h.holds f.live f.within)
              ∙ ap (λ cs. number_of (map (byte_of w.objects) cs)) cells
              ∙ pointer_number w.objects q (pointer_small g w.objects q h.out formed)

          by_sound : (t : Bool) → is_sound w q ≡ t → LoadsAlike g width.Pointer memory w at (cond t (Goes (Ptr q) w) (outside Forged w))
          by_sound false s = refl
          by_sound true s = (refl, record { place = (k, i); found = f; formed = formed; word = sym number; passes = sound_passes q formed s })

  read_alike : (wide : Width) (k i at : ℕ) → Found w.objects (size_of_width wide) at k i → LoadsAlike g wide memory w at (read_as wide (cells_at w.cells k i (size_of_width wide)) w)
  read_alike width.Byte k i at f = plain_alike width.Byte k i at f (let q : 256 ≤ 4294967296 = omega arith in q) refl
  read_alike width.Half k i at f = plain_alike width.Half k i at f (let q : 65536 ≤ 4294967296 = omega arith in q) refl
  read_alike width.SignedHalf k i at f = signed_alike k i at f
  read_alike width.Word k i at f = plain_alike width.Word k i at f (let q : 4294967296 ≤ 4294967296 = omega arith in q) refl
  read_alike width.Pointer k i at f = pointer_alike k i at f

  from_access : (wide : Width) (q : Pointer) (at : ℕ) (r : Does (ℕ × ℕ)) → AccessesAlike w q (size_of_width wide) at r → LoadsAlike g wide memory w at (and_then r (loaded_from wide))
  unfolding and_then
  from_access wide q at (Goes place x) a = subst (λ y. LoadsAlike g wide memory w at (loaded_from wide place y)) (sym a.0) (read_alike wide place.0 place.1 at a.2)
  from_access wide q at (Ends (Trapped kind) x) a = a
  from_access wide q at (Ends (Outside cause) x) a = a
  from_access wide q at (Ends (Exited n) x) a = absurd a
  from_access wide q at (Ends (Reported kind line) x) a = absurd a
  from_access wide q at (Ends Cut x) a = absurd a

  pub loads_alike : (wide : Width) (q : Pointer) → 2 ≤ g → LoadsAlike g wide memory w (word_of w.objects q) (load wide q w)
  loads_alike wide q two = from_access wide q (word_of w.objects q) (access (size_of_width wide) q w) (accesses_alike g wide q w two h.out)

-- ---- Writes

-- the cells of a value that is stored
record AreCells (g : ℕ) (os : List Object) (n word : ℕ) (cs : List Cell) : Type 0 where
  count : length cs ≡ n
  formed : All (IsCell g os) cs
  bytes : map (byte_of os) cs ≡ bytes_of n word

abbrev CellsIfAny : (g : ℕ) → List Object → (n word : ℕ) → Option (List Cell) → Type 0
CellsIfAny g os n word None = Unit {0}
CellsIfAny g os n word (Some cs) = AreCells g os n word cs

number_cells : (g : ℕ) (os : List Object) (n word : ℕ) → AreCells g os n word (map Byte (objects.bytes_of n word))
number_cells g os n word = record { count = number_length n word; formed = number_formed g os n word; bytes = number_bytes os n word }

value_cells : (g : ℕ) (os : List Object) (wide : Width) (v : Value) → IsValue g os v → CellsIfAny g os (size_of_width wide) (word_of_value os v) (stored_cells wide v)
value_cells g os width.Byte (Num n) f = number_cells g os 1 n
value_cells g os width.Half (Num n) f = number_cells g os 2 n
value_cells g os width.SignedHalf (Num n) f = number_cells g os 2 n
value_cells g os width.Word (Num n) f = number_cells g os 4 n
value_cells g os width.Pointer (Num n) f = tt
value_cells g os width.Byte (Ptr q) f = tt
value_cells g os width.Half (Ptr q) f = tt
value_cells g os width.SignedHalf (Ptr q) f = tt
value_cells g os width.Word (Ptr q) f = tt
value_cells g os width.Pointer (Ptr q) f = record { count = pointer_length q; formed = pointer_formed g os q f; bytes = pointer_bytes os q }

module _ (g : ℕ) (memory : Memory) (w : World) (h : Injects g w.objects w.cells memory) (wide : Width) (word : ℕ) where
  cells_written : (k i : ℕ) (o : Object) (cs : List Cell) → IsLive w.objects k o → i + size_of_width wide ≤ o.length → AreCells g w.objects (size_of_width wide) word cs → Injects g w.objects (with_cells w.cells k i cs) (with_bytes memory (o.base + i) (bytes_of (size_of_width wide) word))
  cells_written k i o cs l within c =
      subst (λ bs. Injects g w.objects (with_cells w.cells k i cs) (with_bytes memory (o.base + i) bs)) c.bytes
      (cells_keep g w.objects w.cells memory k o i cs l (let e = c.count in omega (arith, e, within)) c.formed h)

  written_alike : (place : ℕ × ℕ) (at : ℕ) (r : Option (List Cell)) → Found w.objects (size_of_width wide) at place.0 place.1 → CellsIfAny g w.objects (size_of_width wide) word r → StoresAlike g wide memory w at word (written_at place r w)
  written_alike place at None f c = refl
  written_alike place at (Some cs) f c = record {
    place = place;
    found = f;
    world = refl;
    keeps = subst (λ a. Injects g w.objects (with_cells w.cells place.0 place.1 cs) (with_bytes memory a (bytes_of (size_of_width wide) word))) (sym f.is) (cells_written place.0 place.1 f.object cs f.live f.within c);
  }

  written_after : (q : Pointer) (v : Value) (at : ℕ) (r : Does (ℕ × ℕ)) → CellsIfAny g w.objects (size_of_width wide) word (stored_cells wide v) → AccessesAlike w q (size_of_width wide) at r → StoresAlike g wide memory w at word (and_then r (λ a. written_at a (stored_cells wide v)))
  unfolding and_then
  written_after q v at (Goes place x) c a = subst (λ y. StoresAlike g wide memory w at word (written_at place (stored_cells wide v) y)) (sym a.0) (written_alike place at (stored_cells wide v) a.2 c)
  written_after q v at (Ends (Trapped kind) x) c a = a
  written_after q v at (Ends (Outside cause) x) c a = a
  written_after q v at (Ends (Exited n) x) c a = absurd a
  written_after q v at (Ends (Reported kind line) x) c a = absurd a
  written_after q v at (Ends Cut x) c a = absurd a

  initialized_alike : (k i : ℕ) (o : Object) (r : Option (List Cell)) → IsLive w.objects k o → i + size_of_width wide ≤ o.length → CellsIfAny g w.objects (size_of_width wide) word r → InitializesAlike g wide memory w (o.base + i) word (initialized_with k i (size_of_width wide) r w)
  initialized_alike k i o None l within c = refl
  initialized_alike k i o (Some cs) l within c = (refl, cells_written k i o cs l within c)

pub stores_alike : (g : ℕ) (wide : Width) (q : Pointer) (v : Value) (memory : Memory) (w : World) → 2 ≤ g → Injects g w.objects w.cells memory → IsValue g w.objects v → StoresAlike g wide memory w (word_of w.objects q) (word_of_value w.objects v) (store wide q v w)
stores_alike g wide q v memory w two h f =
    written_after g memory w h wide (word_of_value w.objects v) q v (word_of w.objects q) (access (size_of_width wide) q w) (value_cells g w.objects wide v f) (accesses_alike g wide q w two h.out)

pub initializes_alike : (g k i : ℕ) (o : Object) (wide : Width) (v : Value) (memory : Memory) (w : World) → IsLive w.objects k o → i + size_of_width wide ≤ o.length → Injects g w.objects w.cells memory → IsValue g w.objects v → InitializesAlike g wide memory w (o.base + i) (word_of_value w.objects v) (initialize k i wide v w)
initializes_alike g k i o wide v memory w l within h f =
    initialized_alike g memory w h wide (word_of_value w.objects v) k i o (stored_cells wide v) l within (value_cells g w.objects wide v f)
