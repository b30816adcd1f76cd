-- The meaning of calls, and of a whole program: its outcome for an input, where each loop has at most m turns and at most m
-- calls of its functions are nested.
use Rattle.std.specs.Prelude.{ℕ, zero, suc, ◌+◌, ◌*◌, nat_le, if◌then◌else◌, List}
use Rattle.std.specs.Prelude.{[], ◌∷◌, length, Option, Some, None, slice_get, slice_index_or}
use Rattle.bb_words.specs.Answers.{Goes, Ends, and_then}
use Rattle.bb_words.specs.declared.kinds.ReportKind.TheVariants.{Depth}
use Rattle.size_table.specs.declared.memory_map.TheConstants.{MOST_CALLS}
use Rattle.block_layout.specs.Layout.{Placed, layout, position_of}
use Rattle.block_layout.specs.Objects.{globals_of, block_items}
use Rattle.typed_tree.specs.Types.{CType, is_pointer}
use Rattle.typed_tree.specs.TypedTree.{CLocal, CFunction, CProgram}
use Rattle.source_meaning.specs.declared.values.Pointer.TheVariants.{Null}
use Rattle.source_meaning.specs.declared.values.Value.{Value}
use Rattle.source_meaning.specs.declared.values.Value.TheVariants.{Num, Ptr}
use Rattle.source_meaning.specs.declared.values.Slot.{Slot}
use Rattle.source_meaning.specs.declared.values.Slot.TheVariants.{Kept, Lies}
use Rattle.source_meaning.specs.declared.values.Signal.{Signal}
use Rattle.source_meaning.specs.declared.values.Signal.TheVariants.{Falls, Broke, Continued, Gave}
use Rattle.source_meaning.specs.declared.values.Ending.{Ending}
use Rattle.source_meaning.specs.declared.values.Ending.TheVariants.{Exited, Reported, Cut}
use Rattle.source_meaning.specs.Worlds.{World, with_number}
use Rattle.source_meaning.specs.Accounts.{enter, leave}
use Rattle.source_meaning.specs.Start.{start_world}
use Rattle.source_meaning.specs.Sites.{first_site}
use Rattle.source_meaning.specs.States.{State, Runs, count, doing, local_place, write}
use Rattle.source_meaning.specs.Meaning.{Calls, execute}

-- ---- Calls

-- a value that was never set: null, or 0
abbrev pub zero_of : CType → Value
zero_of t = if is_pointer t then Ptr Null else Num 0

-- A local is at first zero or null, or the object in which it lies, where the call's objects are laid out so and the first
-- of them has this number.
abbrev pub slot_of : (plan : List Placed) → (first j : ℕ) → CLocal → Slot
slot_of plan first j l = if l.is_block then Lies (first + position_of j plan) else Kept (zero_of l.ty)

abbrev pub slots_from : (plan : List Placed) → (first j : ℕ) → List CLocal → List Slot
slots_from plan first j [] = []
slots_from plan first j (l ∷ ls) = slot_of plan first j l ∷ slots_from plan first (suc j) ls

abbrev pub first_locals : (plan : List Placed) → (first : ℕ) → List CLocal → ℕ → Slot
first_locals plan first ls j = slice_index_or (slots_from plan first 0 ls) j (Kept (Num 0))

-- 6.5.2.2 p4, p7: the parameters from number j on get the arguments, as if by assignment
abbrev pub pass : (j n : ℕ) → List CLocal → List Value → State → Runs Unit
pass j zero ls vs c = Goes tt c
pass j (suc n) [] vs c = Goes tt c
pass j (suc n) (l ∷ ls) [] c = Goes tt c
pass j (suc n) (l ∷ ls) (v ∷ vs) c = and_then (write l.ty (local_place j c) v c) (λ x. pass (suc j) n ls vs)

-- the value that a body leaves with: that of `return`, or zero or null
abbrev pub given : Value → Signal → Value
given none Falls = none
given none Broke = none
given none Continued = none
given none (Gave v) = v

-- back in the caller: its locals are there again, and the objects of the call have ended
abbrev pub return_to : (g : ℕ) → CFunction → (caller : State) → State → State
return_to g f caller c = record { world = leave (block_items f) caller.world c.world; locals = caller.locals; nodes = c.nodes }

-- the definition and its parameters count as nodes
abbrev pub count_call : CFunction → State → State
count_call f c = count (1 + f.params) c

abbrev pub with_locals : (g : ℕ) → CFunction → (caller : State) → State → State
with_locals g f caller c = record c { locals = first_locals (layout g (block_items f)) (length caller.world.objects) f.locals }

-- A function is called: its frame is entered, its parameters get the arguments, its body is executed, and the call returns.
abbrev pub call_function : (g : ℕ) → CFunction → (body : State → Runs Signal) → List Value → State → Runs Value
call_function g f body vs c =
    and_then (doing (enter g f.line (block_items f)) (count_call f c)) (λ entered c1.
    and_then (pass 0 f.params f.locals vs (with_locals g f c c1)) (λ passed c2.
    and_then (body c2) (λ s c3. Goes (given (zero_of f.result) s) (return_to g f c c3))))

abbrev pub call_if_any : (g : ℕ) → Option CFunction → (CFunction → State → Runs Signal) → List Value → State → Runs Value
call_if_any g None body vs c = Ends Cut c
call_if_any g (Some f) body vs c = call_function g f (body f) vs c

-- A call that is nested too deeply is cut, unless so many calls are live that it is reported however many may be nested.
abbrev pub call_past : Option CFunction → State → Runs Value
call_past None c = Ends Cut c
call_past (Some f) c = if nat_le MOST_CALLS c.world.depth then Ends (Reported Depth f.line) (count_call f c) else Ends Cut c

-- the calls of which at most n are nested
abbrev pub calls : (g : ℕ) → CProgram → (m n : ℕ) → Calls
calls g p m zero f vs c = call_past (slice_get p.functions f) c
calls g p m (suc n) f vs c =
    call_if_any g (slice_get p.functions f)
    (λ h. execute g p (calls g p m n) m h.locals h.body (first_site p.structs p.functions f)) vs c

-- ---- Whole programs

-- 5.1.2 p1: before the program starts its global objects get what they hold at first
abbrev pub first_world : (g : ℕ) → CProgram → (input : List ℕ) → World
first_world g p input = start_world g (length p.globals) (globals_of p) input

abbrev pub first_state : (g : ℕ) → CProgram → (input : List ℕ) → State
first_state g p input = record { world = first_world g p input; locals = λ j. Kept (Num 0); nodes = 0 }

-- 5.1.2.2.3: the value of `main` is the status, as if by `exit`
abbrev pub exit_with : Value → State → Runs Unit
exit_with v c = doing (with_number v (λ n. Ends (Exited n))) c

-- The run of a program on an input, cut at m turns of a loop and m nested calls.
abbrev pub source : (g : ℕ) → CProgram → (input : List ℕ) → (m : ℕ) → Runs Unit
source g p input m = and_then (calls g p m m p.main [] (first_state g p input)) exit_with

-- ---- What comes of it

-- Where a run ends, and the state in which it does. A program always ends, be it that it is cut.
pub record Outcome : Type 0 where
  pub ending : Ending
  pub state : State

abbrev pub outcome_of : {A : Type 0} → Runs A → Outcome
outcome_of (Goes a c) = record { ending = Cut; state = c }
outcome_of (Ends e c) = record { ending = e; state = c }

abbrev pub outcome : (g : ℕ) → CProgram → (input : List ℕ) → (m : ℕ) → Outcome
outcome g p input m = outcome_of (source g p input m)

-- How many instructions compiled code may take for what the run did: 1,024 for each node that was evaluated, and 64 for
-- each byte that was copied, set or cleared.
abbrev pub cost : State → ℕ
cost c = 1024 * c.nodes + 64 * c.world.bytes
