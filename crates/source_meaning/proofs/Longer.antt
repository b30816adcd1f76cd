-- Runs with more turns and deeper calls: how two runs of one part of a program go together.
use Rattle.std.proofs.Common.{◌≡◌, ℕ, Bool, true, false, Option, Some, None, refl, sym, ap, subst}
use Rattle.bb_words.specs.Answers.{Goes, Ends, and_then, either}
use Rattle.bb_words.specs.declared.steps.Width.{Width}
use Rattle.typed_tree.specs.Types.{CType}
use Rattle.source_meaning.specs.declared.values.Pointer.{Pointer}
use Rattle.source_meaning.specs.declared.values.Value.{Value}
use Rattle.source_meaning.specs.declared.values.Value.TheVariants.{Num, Ptr}
use Rattle.source_meaning.specs.declared.values.Slot.{Slot}
use Rattle.source_meaning.specs.declared.values.Slot.TheVariants.{Kept, Lies}
use Rattle.source_meaning.specs.declared.values.Place.{Place}
use Rattle.source_meaning.specs.declared.values.Place.TheVariants.{Variable, Memory}
use Rattle.source_meaning.specs.declared.values.Held.{Held}
use Rattle.source_meaning.specs.declared.values.Held.TheVariants.{Of, At}
use Rattle.source_meaning.specs.declared.values.Want.{Want}
use Rattle.source_meaning.specs.declared.values.Want.TheVariants.{ItsValue, ItsPlace}
use Rattle.source_meaning.specs.declared.values.Ending.{Ending}
use Rattle.source_meaning.specs.declared.values.Ending.TheVariants.{Exited, Reported, Trapped, Outside, Cut}
use Rattle.source_meaning.specs.Worlds.{World, Does}
use Rattle.source_meaning.specs.States.{State, Runs, done_in, doing, giving, using_value, using_number, using_pointer, using_place, using_address, width_of, read, read_memory, read_slot, write, written_memory, finish}
use Rattle.source_meaning.specs.Laws.{Follows, reached}
use Rattle.source_meaning.proofs.Later.{follows_same, follows_then, Leads}
use Rattle.source_meaning.proofs.Operations.{load_leads, store_leads}

-- A part of a run that ended otherwise than by being cut, or went on, is the same in the longer run; where it was cut, the
-- longer run goes on from there.
abbrev pub IsKeptEnd : {A : Type 0} → Ending → State → Runs A → Type 0
IsKeptEnd (Exited n) s q = q ≡ Ends (Exited n) s
IsKeptEnd (Reported kind line) s q = q ≡ Ends (Reported kind line) s
IsKeptEnd (Trapped kind) s q = q ≡ Ends (Trapped kind) s
IsKeptEnd (Outside cause) s q = q ≡ Ends (Outside cause) s
IsKeptEnd Cut s q = Follows s.world (reached q).world

abbrev pub IsKept : {A : Type 0} → Runs A → Runs A → Type 0
IsKept (Goes a s) q = q ≡ Goes a s
IsKept (Ends e s) q = IsKeptEnd e s q

-- the run r, and the longer run q, of a part of a program from c on
pub record Longer {A : Type 0} (c : State) (r q : Runs A) : Type 0 where
  pub kept : IsKept r q
  pub grows : Follows c.world (reached q).world

kept_end : (A : Type 0) (e : Ending) (s : State) → IsKeptEnd {A = A} e s (Ends e s)
kept_end A (Exited n) s = refl
kept_end A (Reported kind line) s = refl
kept_end A (Trapped kind) s = refl
kept_end A (Outside cause) s = refl
kept_end A Cut s = follows_same

pub kept_same : {A : Type 0} (r : Runs A) → IsKept r r
kept_same (Goes a s) = refl
kept_same {A = A} (Ends e s) = kept_end A e s

-- a part that makes no turn and no call
pub alike : {A : Type 0} {c : State} (r : Runs A) → Follows c.world (reached r).world → Longer c r r
alike r h = record { kept = kept_same r; grows = h }

pub goes_on : {A : Type 0} {c : State} (a : A) (d : State) → Follows c.world d.world → Longer c (Goes a d) (Goes a d)
goes_on a d h = alike (Goes a d) h

pub goes_same : {A : Type 0} {c : State} (a : A) → Longer c (Goes a c) (Goes a c)
goes_same a = goes_on a _ follows_same

pub ends_same : {A : Type 0} {c : State} (e : Ending) → Longer {A = A} c (Ends e c) (Ends e c)
ends_same e = alike (Ends e _) follows_same

pub cut_longer : {A : Type 0} {c : State} (q : Runs A) → Follows c.world (reached q).world → Longer c (Ends Cut c) q
cut_longer q h = record { kept = h; grows = h }

pub longer_from : {A : Type 0} {c d : State} {r q : Runs A} → Follows c.world d.world → Longer d r q → Longer c r q
longer_from h k = record { kept = k.kept; grows = follows_then h k.grows }

-- only the locals or the count of nodes differ
pub longer_at : {A : Type 0} {c d : State} {r q : Runs A} → c.world ≡ d.world → Longer d r q → Longer c r q
longer_at {r = r} {q = q} e k = record { kept = k.kept; grows = subst (λ w. Follows w (reached q).world) (sym e) k.grows }

pub longer_then : {A B : Type 0} {c : State} {r q : Runs A} {f h : A → State → Runs B} → Longer c r q → ((a : A) (s : State) → Longer s (f a s) (h a s)) → Longer c (and_then r f) (and_then q h)
unfolding and_then
longer_then {A = A} {B = B} {c = c} {r = r} {q = q} {f = f} {h = h} x k = record { kept = of r x.kept; grows = follows_then x.grows (on q) }
  where
    on : (q : Runs A) → Follows (reached q).world (reached (and_then q h)).world
    on (Goes a t) = (k a t).grows
    on (Ends e t) = follows_same

    ended : (e : Ending) (s : State) → IsKeptEnd e s q → IsKeptEnd e s (and_then q h)
    ended (Exited n) s e = ap (λ p. and_then p h) e
    ended (Reported kind line) s e = ap (λ p. and_then p h) e
    ended (Trapped kind) s e = ap (λ p. and_then p h) e
    ended (Outside cause) s e = ap (λ p. and_then p h) e
    ended Cut s e = follows_then e (on q)

    of : (r : Runs A) → IsKept r q → IsKept (and_then r f) (and_then q h)
    of (Goes a s) e = subst (λ p. IsKept (f a s) (and_then p h)) (sym e) (k a s).kept
    of (Ends o s) e = ended o s e

pub either_longer : {A : Type 0} {c : State} (b : Bool) (f1 f2 h1 h2 : State → Runs A) → Longer c (f1 c) (h1 c) → Longer c (f2 c) (h2 c) → Longer c (either b f1 f2 c) (either b h1 h2 c)
either_longer true f1 f2 h1 h2 x y = x
either_longer false f1 f2 h1 h2 x y = y

-- an operation on the world
pub doing_longer : {A : Type 0} (f : World → Does A) (c : State) → ((w : World) → Leads w (f w)) → Longer c (doing f c) (doing f c)
doing_longer {A = A} f c h = alike (doing f c) (of (f c.world) (h c.world).to)
  where
    of : (r : Does A) → Follows c.world (reached r) → Follows c.world (reached (done_in c r)).world
    of (Goes a w) h = h
    of (Ends e w) h = h

pub giving_longer : (f : World → Does Value) (c : State) → ((w : World) → Leads w (f w)) → Longer c (giving f c) (giving f c)
giving_longer f c h = longer_then (doing_longer f c h) (λ v s. goes_same _)

-- ---- Operands

pub value_longer : {A : Type 0} (x : Held) (f h : Value → State → Runs A) (c : State) → ((v : Value) → Longer c (f v c) (h v c)) → Longer c (using_value x f c) (using_value x h c)
value_longer (Of v) f h c k = k v
value_longer (At q) f h c k = ends_same _

pub number_longer : {A : Type 0} (x : Held) (f h : ℕ → State → Runs A) (c : State) → ((n : ℕ) → Longer c (f n c) (h n c)) → Longer c (using_number x f c) (using_number x h c)
number_longer (Of (Num n)) f h c k = k n
number_longer (Of (Ptr q)) f h c k = ends_same _
number_longer (At q) f h c k = ends_same _

pub pointer_longer : {A : Type 0} (x : Held) (f h : Pointer → State → Runs A) (c : State) → ((q : Pointer) → Longer c (f q c) (h q c)) → Longer c (using_pointer x f c) (using_pointer x h c)
pointer_longer (Of (Num n)) f h c k = ends_same _
pointer_longer (Of (Ptr q)) f h c k = k q
pointer_longer (At q) f h c k = ends_same _

pub place_longer : {A : Type 0} (x : Held) (f h : Place → State → Runs A) (c : State) → ((q : Place) → Longer c (f q c) (h q c)) → Longer c (using_place x f c) (using_place x h c)
place_longer (Of v) f h c k = ends_same _
place_longer (At q) f h c k = k q

pub address_longer : {A : Type 0} (x : Held) (f h : Pointer → State → Runs A) (c : State) → ((q : Pointer) → Longer c (f q c) (h q c)) → Longer c (using_address x f c) (using_address x h c)
address_longer (Of v) f h c k = ends_same _
address_longer (At (Variable j)) f h c k = ends_same _
address_longer (At (Memory q)) f h c k = k q

-- ---- Places

pub read_longer : (t : CType) (q : Place) (c : State) → Longer c (read t q c) (read t q c)
read_longer t (Variable k) c = slot (c.locals k)
  where
    slot : (s : Slot) → Longer c (read_slot s c) (read_slot s c)
    slot (Kept v) = goes_same _
    slot (Lies o) = ends_same _
read_longer t (Memory q) c = memory (width_of t)
  where
    memory : (x : Option Width) → Longer c (read_memory x q c) (read_memory x q c)
    memory None = goes_same _
    memory (Some width) = doing_longer _ c (load_leads width q)

pub write_longer : (t : CType) (q : Place) (v : Value) (c : State) → Longer c (write t q v c) (write t q v c)
write_longer t (Variable k) v c = goes_on _ _ follows_same
write_longer t (Memory q) v c = memory (width_of t)
  where
    memory : (x : Option Width) → Longer c (written_memory x q v c) (written_memory x q v c)
    memory None = ends_same _
    memory (Some width) = longer_then (doing_longer _ c (store_leads width q v)) (λ done s. goes_same _)

pub finish_longer : (t : CType) (want : Want) (q : Place) (c : State) → Longer c (finish t want q c) (finish t want q c)
finish_longer t ItsPlace q c = goes_same _
finish_longer t ItsValue q c = longer_then (read_longer t q c) (λ v s. goes_same _)
