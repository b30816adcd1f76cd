-- A run that is safe at its end is safe.
use Rattle.std.proofs.Common.{◌≡◌, ℕ, zero, suc, ◌+◌, ◌-◌, ◌*◌, ◌/◌, ◌^◌, ◌≤◌, ◌⊎◌, Bool, true, false, cond, eqb, leb, List, [], ◌∷◌, ◌++◌, Option, Some, None, refl, sym, ap, subst, ◌∙◌, inl, inr, arith, lit≤}
use Rattle.std.specs.Prelude.{◌&&◌, All, IsSome, map, slice_get}
use Rattle.std.proofs.lemmas.Bool.{cases_eq, cases_lt, leb-true}
use Rattle.bb_watch.specs.declared.event.Event.{Event}
use Rattle.bb_watch.specs.declared.event.Event.TheVariants.{Move, Access, Call, Return, Made, Ended, Line}
use Rattle.rv_code.specs.declared.instr.Instr.{Instr}
use Rattle.rv_code.specs.declared.instr.Instr.TheVariants.{Lui, Jal, Jalr, Lb, Lh, Lw, Lbu, Lhu, Sb, Sh, Sw, Add}
use Rattle.rv_image.specs.declared.image.Image.{Image}
use Rattle.rv_image.specs.Rules.{IsImage}
use Rattle.rv_machine.specs.declared.stop.Halt.{Halt}
use Rattle.size_table.specs.Made.{blocks_from}
use Rattle.rv_machine.specs.Changes.{IsOffTable, AreOffTable, IsDataHigh, AreDataHigh}
use Rattle.rv_machine.specs.Environment.{World, enter_events, leave_events, leaving, made_event, ended_event, new_in, blocks_if, malloc_events, free_events, freed_blocks, freeing}
use Rattle.bb_watch.specs.Told.{Tell, Happens, events_of}
use Rattle.rv_machine.specs.Formed.{IsByte, live_in}
use Rattle.rv_machine.specs.Frames.{Entering, stack_under}
use Rattle.rv_machine.specs.Instruction.{Act, Goes, Traps, Asks, core_step, core_events, event_of, event_if, instruction_at}
use Rattle.rv_machine.specs.Tells.{call_tells, act_tells, tells_of, tells_unless_ended}
use Rattle.bb_watch.specs.Live.{live_after, ever_after, holder}
use Rattle.rv_machine.specs.Live.{global_blocks}
use Rattle.bb_watch.specs.Safety.{Each, IsMoveSafe, IsAccessSafe, IsControlSafe, LieIn, WasFreed, open_after, return_place}
use Rattle.rv_machine.specs.Machine.{steps, machine_after}
use Rattle.rv_machine_laws.specs.Safety.{IsContained, IsSafe, IsSafeEnding, ContainedRun, SafeRun}
use Rattle.rv_machine.specs.Start.{start}
use Rattle.rv_machine.specs.State.{Core, State, register_of}
use Rattle.rv_machine_laws.proofs.Forms.{new_room}
use Rattle.rv_machine_laws.proofs.HeapLaws.{HeapLaws}
use Rattle.rv_machine_laws.proofs.Cases.{by_entering}
use Rattle.rv_machine_laws.proofs.LiveLists.{events_append, events_happen}
use Rattle.rv_machine_laws.proofs.TableLaws.{steps_table}
use Rattle.rv_machine_laws.proofs.Starts.{start_formed, start_has_table}
use Rattle.rv_machine.proofs.Steps.{steps_stay}
use Rattle.rv_machine_laws.proofs.TableMemory.{LawsBelow}
use Rattle.rv_machine_laws.proofs.Tells.{step_told, steps_told}
use Rattle.size_table.specs.Blocks.{Block, block_at, end_of, without}
use Rattle.size_table.specs.Table.{IsTableOf, table_in}

-- ---- The first events

each_first : (P : List Block → List Block → Event → Type 0) (live ever : List Block) (xs ys : List Event) → Each P live ever (xs ++ ys) → Each P live ever xs
each_first P live ever [] ys h = tt
each_first P live ever (x ∷ xs) ys h = (h.0, each_first P (live_after x live) (ever_after x ever) xs ys h.1)

if_some : (same : Bool) (whole first : Option (List ℕ)) → (IsSome whole → IsSome first) → IsSome (cond same whole None) → IsSome (cond same first None)
if_some true whole first f h = f h
if_some false whole first f h = h

open_first : (xs ys : List Event) (places : List ℕ) → IsSome (open_after places (xs ++ ys)) → IsSome (open_after places xs)
open_first [] ys places h = refl
open_first (Move pc from to ∷ xs) ys [] h = open_first xs ys [] h
open_first (Move pc from to ∷ xs) ys (place ∷ places) h = open_first xs ys (place ∷ places) h
open_first (Access pc at size write base ∷ xs) ys [] h = open_first xs ys [] h
open_first (Access pc at size write base ∷ xs) ys (place ∷ places) h = open_first xs ys (place ∷ places) h
open_first (Call pc target ∷ xs) ys places h = open_first xs ys (return_place pc ∷ places) h
open_first (Return pc target ∷ xs) ys [] h = h
open_first (Return pc target ∷ xs) ys (place ∷ places) h = if_some (eqb target place) (open_after places (xs ++ ys)) (open_after places xs) (open_first xs ys places) h
open_first (Made at exponent ∷ xs) ys [] h = open_first xs ys [] h
open_first (Made at exponent ∷ xs) ys (place ∷ places) h = open_first xs ys (place ∷ places) h
open_first (Ended at exponent ∷ xs) ys [] h = open_first xs ys [] h
open_first (Ended at exponent ∷ xs) ys (place ∷ places) h = open_first xs ys (place ∷ places) h
open_first (Line line ∷ xs) ys [] h = open_first xs ys [] h
open_first (Line line ∷ xs) ys (place ∷ places) h = open_first xs ys (place ∷ places) h

-- ---- Blocks that are made

-- the block lies among the globals or above
IsHigh : Block → Type 0
IsHigh b = 10485760 ≤ b.base

AreHigh : List Block → Type 0
AreHigh [] = Unit {0}
AreHigh (b ∷ bs) = IsHigh b × AreHigh bs

-- so do the blocks that the events tell to be made
MakesHigh : Event → Type 0
MakesHigh (Made at exponent) = 10485760 ≤ at
MakesHigh event = Unit {0}

MakeHigh : List Event → Type 0
MakeHigh [] = Unit {0}
MakeHigh (event ∷ events) = MakesHigh event × MakeHigh events

make_append : (xs ys : List Event) → MakeHigh xs → MakeHigh ys → MakeHigh (xs ++ ys)
unfolding MakeHigh
make_append [] ys p q = q
make_append (x ∷ xs) ys p q = (p.0, make_append xs ys p.1 q)

made_high : (es : List ℕ) (base : ℕ) → 10485760 ≤ base → MakeHigh (map made_event (blocks_from base es))
unfolding MakeHigh MakesHigh
made_high [] base h = tt
made_high (e ∷ es) base h = (h, made_high es (base + 2 ^ e) (omega (arith, h)))

ended_high : (bs : List Block) → MakeHigh (map ended_event bs)
unfolding MakeHigh MakesHigh
ended_high [] = tt
ended_high (b ∷ bs) = (tt, ended_high bs)

high_if : (b : Bool) (xs ys : List Event) → MakeHigh xs → MakeHigh ys → MakeHigh (cond b xs ys)
high_if true xs ys p q = p
high_if false xs ys p q = q

event_high : (i : Instr) (c : Core) → MakeHigh (event_of i c)
unfolding MakeHigh MakesHigh
event_high (Add rd rs1 rs2) c = high_if (eqb rd 0) _ _ (tt, tt) tt
event_high (Lui rd imm) c = high_if (eqb rd 0) _ _ (tt, tt) tt
event_high (Lb rd rs1 imm) c = (tt, tt)
event_high (Lh rd rs1 imm) c = (tt, tt)
event_high (Lw rd rs1 imm) c = (tt, tt)
event_high (Lbu rd rs1 imm) c = (tt, tt)
event_high (Lhu rd rs1 imm) c = (tt, tt)
event_high (Sb rs1 rs2 imm) c = (tt, tt)
event_high (Sh rs1 rs2 imm) c = (tt, tt)
event_high (Sw rs1 rs2 imm) c = (tt, tt)
event_high (Jal rd imm) c = high_if (eqb rd 1) _ _ (tt, tt) tt
event_high (Jalr rd rs1 imm) c = high_if (eqb rd 1) _ _ (tt, tt) (high_if (eqb rd 0) _ _ (high_if (eqb rs1 1) _ _ (tt, tt) tt) tt)
event_high i c = tt

fetched_high : (o : Option Instr) (c : Core) → MakeHigh (event_if o c)
unfolding MakeHigh
fetched_high None c = tt
fetched_high (Some i) c = event_high i c

core_high : (c : Core) → MakeHigh (core_events c)
unfolding core_events
core_high c = fetched_high (instruction_at c) c

enter_high : (s : State) → MakeHigh (enter_events s)
unfolding MakeHigh
enter_high s =
    let k = register_of s.core 10 in
    by_entering (λ (e : Entering). MakeHigh (map made_event e.blocks)) (slice_get s.frames.layouts k) k s.frames s.core.memory (record {
      no_frame = tt;
      too_deep = tt;
      no_room = tt;
      enters = λ es layout few room. made_high es (stack_under s.frames.stack es) (omega (arith, room));
    })

malloc_high : HeapLaws → (s : State) → MakeHigh (malloc_events s)
unfolding MakeHigh MakesHigh
malloc_high laws s = by (new_in s) refl
  where
    by : (o : Option Block) → new_in s ≡ o → MakeHigh (map made_event (blocks_if o))
    by None e = tt
    by (Some b) e = let r = new_room laws (register_of s.core 10) s.heap b e in let low = r.2.low in (omega (arith, low), tt)

tell_if : (b : Bool) (xs ys : List Tell) → MakeHigh (events_of xs) → MakeHigh (events_of ys) → MakeHigh (events_of (cond b xs ys))
tell_if true xs ys p q = p
tell_if false xs ys p q = q

happen_high : (events : List Event) → MakeHigh events → MakeHigh (events_of (map Happens events))
happen_high events h = subst MakeHigh (sym (events_happen events)) h

call_high : HeapLaws → (s : State) → MakeHigh (events_of (call_tells s))
unfolding MakeHigh
call_high laws s =
    let n = register_of s.core 17 in
    tell_if (eqb n 3) _ _ tt (tell_if (eqb n 4) _ _ (happen_high (malloc_events s) (malloc_high laws s)) (tell_if (eqb n 5) _ _ (happen_high (free_events s) (ended_high (freed_blocks (freeing s)))) (tell_if (eqb n 7) _ _ (happen_high (enter_events s) (enter_high s)) (tell_if (eqb n 8) _ _ (happen_high (leave_events s) (ended_high (leaving s).blocks)) tt))))

act_high : HeapLaws → (act : Act) (s : State) → MakeHigh (events_of (act_tells act s))
unfolding MakeHigh
act_high laws (Goes core) s = happen_high (core_events s.core) (core_high s.core)
act_high laws (Traps kind) s = tt
act_high laws Asks s = call_high laws s

unless_high : HeapLaws → (ending : Option Halt) (s : State) → MakeHigh (events_of (tells_unless_ended ending s))
unfolding MakeHigh
unless_high laws None s = act_high laws (core_step s.core) s
unless_high laws (Some halt) s = tt

steps_high : HeapLaws → (n : ℕ) (w : World) → MakeHigh (events_of w.told) → MakeHigh (events_of (steps n w).told)
unfolding steps
steps_high laws zero w h = h
steps_high laws (suc n) w h =
    let v = steps n w in
    subst MakeHigh (sym (ap events_of (step_told v) ∙ events_append v.told (tells_of v.machine)))
    (make_append (events_of v.told) (events_of (tells_of v.machine)) (steps_high laws n w h) (unless_high laws v.machine.ending v.machine))

-- ---- Blocks that live

high_append : (xs ys : List Block) → AreHigh xs → AreHigh ys → AreHigh (xs ++ ys)
unfolding AreHigh
high_append [] ys p q = q
high_append (x ∷ xs) ys p q = (p.0, high_append xs ys p.1 q)

high_from : (es : List ℕ) (base : ℕ) → 10485760 ≤ base → AreHigh (blocks_from base es)
unfolding AreHigh IsHigh
high_from [] base h = tt
high_from (e ∷ es) base h = (h, high_from es (base + 2 ^ e) (omega (arith, h)))

either_high : (b : Bool) (xs ys : List Block) → AreHigh xs → AreHigh ys → AreHigh (cond b xs ys)
either_high true xs ys p q = p
either_high false xs ys p q = q

high_without : (at : ℕ) (bs : List Block) → AreHigh bs → AreHigh (without at bs)
unfolding AreHigh
high_without at [] h = tt
high_without at (b ∷ bs) h = either_high (eqb b.base at) bs (b ∷ without at bs) h.1 (h.0, high_without at bs h.1)

live_high : (event : Event) (live : List Block) → MakesHigh event → AreHigh live → AreHigh (live_after event live)
unfolding MakesHigh AreHigh IsHigh
live_high (Made at exponent) live made h = high_append live (block_at at exponent ∷ []) h (made, tt)
live_high (Ended at exponent) live made h = high_without at live h
live_high event live made h = h

ever_high : (event : Event) (ever : List Block) → MakesHigh event → AreHigh ever → AreHigh (ever_after event ever)
unfolding MakesHigh AreHigh IsHigh
ever_high (Made at exponent) ever made h = high_append ever (block_at at exponent ∷ []) h (made, tt)
ever_high event ever made h = h

-- ---- Safe accesses are off the size table

lies_high : (bs : List Block) (at size : ℕ) → AreHigh bs → LieIn at size bs → 10485760 ≤ at
unfolding AreHigh IsHigh
lies_high [] at size high h = absurd h
lies_high (b ∷ bs) at size high (inl h) = omega (arith, high.0, h.0)
lies_high (b ∷ bs) at size high (inr h) = lies_high bs at size high.1 h

held_high : (bs : List Block) (slot : ℕ) → AreHigh bs → IsSome (holder 4 slot bs) → 10485760 ≤ 16 * slot
unfolding AreHigh IsHigh
held_high [] slot high h = cc
held_high (b ∷ bs) slot high h = by (leb b.base (16 * slot)) refl (held_high bs slot high.1) h
  where
    by : (low : Bool) → leb b.base (16 * slot) ≡ low → (IsSome (holder 4 slot bs) → 10485760 ≤ 16 * slot) → IsSome (cond (low && leb (16 * slot + 16) (end_of b)) (Some b) (holder 4 slot bs)) → 10485760 ≤ 16 * slot
    by true e rest s = let from = leb-true b.base (16 * slot) e in omega (arith, from, high.0)
    by false e rest s = rest s

reached_high : (live ever : List Block) (at size : ℕ) → AreHigh live → AreHigh ever → LieIn at size live ⊎ WasFreed 4 live ever (at / 2 ^ 4) → 10485760 ≤ at
reached_high live ever at size high highs (inl h) = lies_high live at size high h
reached_high live ever at size high highs (inr h) = let held = held_high ever (at / 16) highs h.1 in omega (arith, held)

event_off : (live ever : List Block) (event : Event) → AreHigh live → AreHigh ever → IsAccessSafe 4 live ever event → IsControlSafe live ever event → IsOffTable event
event_off live ever (Access pc at size true base) high highs access control = elim (cases_eq base 2) [
  | inl two ↦ inr (let stack = (control.0 two).0 in omega (arith, stack))
  | inr not_two ↦ elim (cases_eq base 31) [
    | inl table ↦ absurd (let reads = (control.1 table).0 in cc)
    | inr not_table ↦ inr (let reached = reached_high live ever at size high highs (access not_two not_table) in omega (arith, reached))
  ]
]
event_off live ever (Access pc at size false base) high highs access control = tt
event_off live ever (Move pc from to) high highs access control = tt
event_off live ever (Call pc target) high highs access control = tt
event_off live ever (Return pc target) high highs access control = tt
event_off live ever (Made at exponent) high highs access control = tt
event_off live ever (Ended at exponent) high highs access control = tt
event_off live ever (Line line) high highs access control = tt

events_off : (events : List Event) (live ever : List Block) → MakeHigh events → AreHigh live → AreHigh ever → Each (IsAccessSafe 4) live ever events → Each IsControlSafe live ever events → AreOffTable events
unfolding MakeHigh
events_off [] live ever made high highs access control = tt
events_off (event ∷ events) live ever made high highs access control = (
  event_off live ever event high highs access.0 control.0,
  events_off events (live_after event live) (ever_after event ever) made.1 (live_high event live made.0 high) (ever_high event ever made.0 highs) access.1 control.1,
)

data_high : (live ever : List Block) (event : Event) → AreHigh live → AreHigh ever → IsAccessSafe 4 live ever event → IsDataHigh event
data_high live ever (Access pc at size write base) high highs access = λ not_two not_table. reached_high live ever at size high highs (access not_two not_table)
data_high live ever (Move pc from to) high highs access = tt
data_high live ever (Call pc target) high highs access = tt
data_high live ever (Return pc target) high highs access = tt
data_high live ever (Made at exponent) high highs access = tt
data_high live ever (Ended at exponent) high highs access = tt
data_high live ever (Line line) high highs access = tt

each_data_high : (events : List Event) (live ever : List Block) → MakeHigh events → AreHigh live → AreHigh ever → Each (IsAccessSafe 4) live ever events → AreDataHigh events
unfolding MakeHigh
each_data_high [] live ever made high highs access = tt
each_data_high (event ∷ events) live ever made high highs access = (
  data_high live ever event high highs access.0,
  each_data_high events (live_after event live) (ever_after event ever) made.1 (live_high event live made.0 high) (ever_high event ever made.0 highs) access.1,
)

pub table_is_kept : LawsBelow → (image : Image) (input : List ℕ) (n : ℕ) → IsImage image → All IsByte image.initial → All IsByte input → Each (IsAccessSafe 4) (global_blocks image) (global_blocks image) (events_of (machine_after image input n).told) → Each IsControlSafe (global_blocks image) (global_blocks image) (events_of (machine_after image input n).told) → IsTableOf 4 (live_in image (machine_after image input n)) (table_in (machine_after image input n).machine.core.memory)
unfolding MakeHigh
table_is_kept below image input n h initial bytes access control =
    let w : World = record { machine = start image; left = input; told = [] } in
    let globals = global_blocks image in
    let high = high_from image.globals 10485760 (lit≤ tt) in
    let off = events_off (events_of (steps n w).told) globals globals (steps_high below.heap n w tt) high high access control in
    steps_table n below image w h (start_formed image input h initial bytes) (start_has_table below image input h initial) off

-- ---- Earlier in a run

-- a machine that has ended by then ends so
ending_before : (k n : ℕ) (w : World) → k ≤ n → IsSafeEnding (steps n w).machine.ending → IsSafeEnding (steps k w).machine.ending
ending_before k n w le safe = by (steps k w).machine.ending refl
  where
    by : (ending : Option Halt) → (steps k w).machine.ending ≡ ending → IsSafeEnding ending
    by None e = tt
    by (Some halt) e =
        let ended = subst (λ (o : Option Halt). IsSome o) (sym e) refl in
        subst IsSafeEnding (ap (λ (v : World). v.machine.ending) (steps_stay n k w ended le) ∙ e) safe

-- the events until then come first
events_before : (k n : ℕ) (w : World) → k ≤ n → (more : List Event) × (events_of (steps n w).told ≡ events_of (steps k w).told ++ more)
events_before k n w le =
    let whole : k + (n - k) ≡ n = omega arith in
    let told = steps_told (n - k) k w in
    (events_of told.0, subst (λ (m : ℕ). events_of (steps m w).told ≡ events_of (steps k w).told ++ events_of told.0) whole (ap events_of told.1 ∙ events_append (steps k w).told told.0))

pub accesses_are_high : HeapLaws → (image : Image) (input : List ℕ) (n : ℕ) → Each (IsAccessSafe 4) (global_blocks image) (global_blocks image) (events_of (machine_after image input n).told) → AreDataHigh (events_of (machine_after image input n).told)
unfolding MakeHigh
accesses_are_high laws image input n access =
    let w : World = record { machine = start image; left = input; told = [] } in
    let globals = global_blocks image in
    let high = high_from image.globals 10485760 (lit≤ tt) in
    each_data_high (events_of (steps n w).told) globals globals (steps_high laws n w tt) high high access

pub contained_at_end : LawsBelow → (image : Image) (input : List ℕ) (n : ℕ) → IsImage image → All IsByte image.initial → All IsByte input → IsContained 4 (global_blocks image) (machine_after image input n) → ContainedRun 4 image input n
contained_at_end below image input n h initial bytes safe k le =
    let w : World = record { machine = start image; left = input; told = [] } in
    let globals = global_blocks image in
    let before = events_before k n w le in
    let first = events_of (steps k w).told in
    let accesses_first = each_first (IsAccessSafe 4) globals globals first before.0 (subst (Each (IsAccessSafe 4) globals globals) before.1 safe.accesses) in
    let control_first = each_first IsControlSafe globals globals first before.0 (subst (Each IsControlSafe globals globals) before.1 safe.control) in record {
      moves = each_first (IsMoveSafe 4) globals globals first before.0 (subst (Each (IsMoveSafe 4) globals globals) before.1 safe.moves);
      accesses = accesses_first;
      control = control_first;
      table = table_is_kept below image input k h initial bytes accesses_first control_first;
      returns = open_first first before.0 [] (subst (λ (l : List Event). IsSome (open_after [] l)) before.1 safe.returns);
    }

pub safe_at_end : LawsBelow → (image : Image) (input : List ℕ) (n : ℕ) → IsImage image → All IsByte image.initial → All IsByte input → IsSafe 4 (global_blocks image) (machine_after image input n) → SafeRun 4 image input n
safe_at_end below image input n h initial bytes safe k le = record {
  contained = contained_at_end below image input n h initial bytes safe.contained k le;
  traps = ending_before k n (record { machine = start image; left = input; told = [] }) le safe.traps;
}

-- and where the machine has ended then, it stays safe
pub safe_ever_after : LawsBelow → (image : Image) (input : List ℕ) (n k : ℕ) → IsImage image → All IsByte image.initial → All IsByte input → IsSome (machine_after image input n).machine.ending → IsSafe 4 (global_blocks image) (machine_after image input n) → SafeRun 4 image input k
safe_ever_after below image input n k h initial bytes ended safe i le = elim (cases_lt i n) [
  | inl early ↦ safe_at_end below image input n h initial bytes safe i (omega (arith, early))
  | inr late ↦
      let stays = steps_stay i n (record { machine = start image; left = input; told = [] }) ended late in
      subst (IsSafe 4 (global_blocks image)) (sym stays) safe
]
