-- What flat code does. The meaning goes down the steps; a call's meaning is a parameter of it, and so are the exponent g
-- of a slot, how many turns a loop may have, and how many bytes the frame of the function has.
use Rattle.std.specs.Prelude.{◌==◌, ℕ, zero, suc, ◌+◌, ◌-◌, ◌%◌, ◌^◌, max, true, false, List, []}
use Rattle.std.specs.Prelude.{◌∷◌, map, Option, Some, None, nat_le, nat_lt, slice_get, slice_index, if◌then◌else◌}
use Rattle.bb_words.specs.Answers.{Answer, and_then}
use Rattle.bb_words.specs.Numbers.{all_ones}
use Rattle.bb_words.specs.Steps.{arith, size_of_width}
use Rattle.bb_words.specs.declared.kinds.ReportKind.TheVariants as report
use Rattle.bb_words.specs.declared.kinds.TrapKind.TheVariants as trap
use Rattle.bb_words.specs.declared.steps.Width.{Width}
use Rattle.marked_ptr.specs.Marked.{owner_slot}
use Rattle.size_table.specs.declared.memory_map.TheConstants.{TEXT_START, TABLE_START, GLOBALS_START, STACK_START, HEAP_START, MEMORY_END, MOST_CALLS}
use Rattle.size_table.specs.Blocks.{Block}
use Rattle.size_table.specs.Table.{byte_of}
use Rattle.flat_code.specs.Code.{FStep, FSteps, FFunction, FCode}
use Rattle.flat_code.specs.Told.{Tell}
use Rattle.flat_code.specs.World.{Memory, with_bytes, bytes_of, read, arguments, FPoint, point, put}
use Rattle.flat_code.specs.World.{spend, tell, choose, Ending, Run, Way, onward, out_of, again}
use Rattle.flat_code.specs.Accounts.{stack_under, enter, leave, malloc, free}
use Rattle.flat_code.specs.Time.{charge, turn_charge, call_charge, start_charge}

abbrev pub goes : FPoint → Run Way
goes u = Answer.Goes Way.On u

abbrev pub ends : {A : Type 0} → Ending → FPoint → Run A
ends ending u = Answer.Ends ending u

-- ---- Words of slots and the size table

abbrev pub slot_or_ones : Option ℕ → ℕ
slot_or_ones None = all_ones
slot_or_ones (Some slot) = slot

-- the slot that owns a word, as a word: -1 where it would lie before the first one
abbrev pub slot_word : (g word : ℕ) → ℕ
slot_word g word = slot_or_ones (owner_slot g word)

-- ---- Accesses

-- How an access ends the run, if it does: in the null page, by a marked word, past the memory's end, in the text, or at no
-- multiple of its size, in this order. Past the end and in the text it has no meaning.
abbrev pub refusal : (at size : ℕ) → Option Ending
refusal at size =
    if nat_lt at TEXT_START then Some (Ending.Trapped trap.Null)
    else if nat_le (2 ^ 31) at then Some (Ending.Trapped trap.Marked)
    else if nat_le MEMORY_END at then Some Ending.Cut
    else if nat_lt at TABLE_START then Some Ending.Cut
    else if at % size == 0 then None
    else Some (Ending.Trapped trap.Misaligned)

abbrev pub unless_refused : Option Ending → (FPoint → Run Way) → FPoint → Run Way
unless_refused None go u = go u
unless_refused (Some ending) go u = ends ending u

abbrev pub access : (at size : ℕ) → (FPoint → Run Way) → FPoint → Run Way
access at size go u = unless_refused (refusal at size) go u

-- a value becomes what stands at an address
abbrev pub loaded : (to address : ℕ) → Width → FPoint → FPoint
loaded to address width u = put to (read width u.world.memory address) (point u.words (tell (Tell.Access address (size_of_width width) false) u.world))

-- a word is written to an address, or as much of it as the width has
abbrev pub stored : (address word : ℕ) → Width → FPoint → FPoint
stored address word width u =
    let bytes = bytes_of (size_of_width width) word in
    point u.words (tell (Tell.Access address (size_of_width width) true) (record u.world { memory = with_bytes u.world.memory address bytes }))

-- ---- The environment

-- getchar: a value becomes the next byte of the input, or all ones at its end (C11 7.21.7.6)
abbrev pub get : (to : ℕ) → List ℕ → FPoint → FPoint
get to [] u = put to all_ones u
get to (byte ∷ bytes) u = put to byte (point u.words (record u.world { input = bytes }))

-- The calls 1 to 5 of the environment. A value becomes what register x10 holds after the call.
abbrev pub environment : (g to call a b : ℕ) → FPoint → Run Way
environment g to call a b =
    choose (call == 1) (ends (Ending.Exited a))
    (choose (call == 2) (λ u. goes (get to u.world.input u))
    (choose (call == 3) (λ u. goes (put to (a % 256) (point u.words (tell (Tell.Output (a % 256)) u.world))))
    (choose (call == 4) (λ u. goes (malloc g to a u))
    (choose (call == 5) (λ u. free a b (put to a u)) (ends Ending.Cut)))))

-- ---- Loops

-- at most n turns
abbrev pub turns : (n : ℕ) → (FPoint → Run Way) → FPoint → Run Way
turns zero body u = ends Ending.Cut u
turns (suc n) body u = and_then (body (point u.words (spend turn_charge u.world))) (λ way t. again way t (turns n body))

-- How many turns an Inner may have: enough for a copy of 16 MiB, and the test that ends it. So it is never cut inside
-- what is one step in code over objects.
unfoldable pub inner_turns : (m : ℕ) → ℕ
inner_turns m = max m 16777217

-- ---- Steps

-- what a function does with arguments: the word that it returns
abbrev pub Calls : Type 0
Calls = (function : ℕ) → (args : List ℕ) → FPoint → Run ℕ

module _ (g : ℕ) (call : Calls) (m frame : ℕ) where
  abbrev mutual
    -- what a step does, once its time was charged
    pub act : FStep → FPoint → Run Way
    act (FStep.Number to value) u = goes (put to value u)
    act (FStep.Same to from) u = goes (put to (u.words from) u)
    act (FStep.Arith to op left right) u = goes (put to (arith op (u.words left) (u.words right)) u)
    act (FStep.If cond first second) u = choose (u.words cond == 0) (act_all second) (act_all first) u
    act (FStep.Block body) u = and_then (act_all body u) (λ way t. Answer.Goes (out_of way) t)
    act (FStep.Loop body) u = turns m (act_all body) u
    act (FStep.Inner body) u = turns (inner_turns m) (act_all body) u
    act (FStep.Exit zero) u = ends Ending.Cut u
    act (FStep.Exit (suc further)) u = Answer.Goes (Way.Out further) u
    act (FStep.Call to function args) u = and_then (call function (map u.words args) u) (λ word t. goes (put to word t))
    act (FStep.Return from) u = Answer.Goes (Way.Back (u.words from)) u
    act (FStep.Slot to from) u = goes (put to (slot_word g (u.words from)) u)
    act (FStep.Look to slot) u =
        choose (nat_lt (u.words slot) (2 ^ (25 - g))) (λ t. goes (put to (byte_of g t.world.live (t.words slot)) t)) (ends Ending.Cut) u
    act (FStep.FrameAt to offset) u =
        choose (nat_lt offset frame) (λ t. goes (put to (t.world.stack + offset) t)) (ends Ending.Cut) u
    act (FStep.Load to at width) u = access (u.words at) (size_of_width width) (λ t. goes (loaded to (u.words at) width t)) u
    act (FStep.Store at from width) u = access (u.words at) (size_of_width width) (λ t. goes (stored (u.words at) (u.words from) width t)) u
    act (FStep.Checked from to) u = goes (point u.words (tell (Tell.Move (u.words from) (u.words to)) u.world))
    act (FStep.LineMark line) u = goes (point u.words (tell (Tell.Line line) u.world))
    act (FStep.Report kind line) u = ends (Ending.Reported kind (u.words line)) u
    act (FStep.Env to call a b) u = environment g to call (u.words a) (u.words b) u

    -- steps one after another, each of which is charged before it is done
    pub act_all : FSteps → FPoint → Run Way
    act_all FSteps.none u = goes u
    act_all (FSteps.more s rest) u =
        and_then (act s (point u.words (spend (charge s) u.world))) (λ way t. onward way t (act_all rest))

-- ---- Calls

-- the word of a call, by how its body was left; a body that comes to its end without a Return gives 0
abbrev pub returned : Way → FPoint → Run ℕ
returned Way.On u = Answer.Goes 0 u
returned (Way.Out n) u = ends Ending.Cut u
returned (Way.Back word) u = Answer.Goes word u

-- a body is done with arguments, and the caller's words come back
abbrev pub body_with : (body : FPoint → Run Way) → (args : List ℕ) → FPoint → Run ℕ
body_with body args u =
    and_then (and_then (body (point (arguments args) u.world)) returned) (λ word t. Answer.Goes word (point u.words t.world))

-- a call with its frame, where it fits on the data stack
abbrev pub framed : (g line : ℕ) → (body : FPoint → Run Way) → (args : List ℕ) → (frame : List ℕ) → FPoint → Run ℕ
framed g line body args es u =
    choose (nat_lt (stack_under g u.world.stack es) STACK_START) (ends (Ending.Reported report.Stack line))
    (λ t. and_then (body_with body args (point t.words (enter (stack_under g t.world.stack es) es t.world)))
    (λ word s. Answer.Goes word (point s.words (leave es t.world s.world)))) u

abbrev pub framed_if : (g line : ℕ) → (body : FPoint → Run Way) → (args : List ℕ) → (frame : Option (List ℕ)) → FPoint → Run ℕ
framed_if g line body args None u = ends Ending.Cut u
framed_if g line body args (Some es) u = framed g line body args es u

-- a call, unless too many are live
abbrev pub counted : (line : ℕ) → (FPoint → Run ℕ) → FPoint → Run ℕ
counted line go u = choose (nat_le MOST_CALLS u.world.depth) (ends (Ending.Reported report.Depth line)) go u

-- no function is called
abbrev pub no_calls : Calls
no_calls function args u = ends Ending.Cut u

module _ (g : ℕ) (frames : List (List ℕ)) (m : ℕ) where
  -- a body of the library has no frame, is not counted among the calls, and calls nothing
  abbrev pub library : FFunction → (args : List ℕ) → FPoint → Run ℕ
  library f args u = body_with (act_all g no_calls m 0 f.body) args (point u.words (spend (call_charge f) u.world))

  -- a function of the program; `deeper` is what the calls in it do
  abbrev pub defined : (deeper : Calls) → (number : ℕ) → FFunction → (args : List ℕ) → FPoint → Run ℕ
  defined deeper number f args u =
      framed_if g f.line (act_all g deeper m f.frame f.body) args (slice_get frames number) (point u.words (spend (call_charge f) u.world))

  module _ (functions : List FFunction) where
    -- a call of a function where no further calls may be nested, and where n may be
    abbrev pub call_none : Option FFunction → Calls
    call_none None number args u = ends Ending.Cut u
    call_none (Some f) number args u = choose (f.line == 0) (library f args) (counted f.line (ends Ending.Cut)) u

    abbrev pub call_one : (deeper : Calls) → Option FFunction → Calls
    call_one deeper None number args u = ends Ending.Cut u
    call_one deeper (Some f) number args u = choose (f.line == 0) (library f args) (counted f.line (defined deeper number f args)) u

    -- calls of which at most n are nested
    abbrev pub calls : (n : ℕ) → Calls
    calls zero number args u = call_none (slice_get functions number) number args u
    calls (suc n) number args u = call_one (calls n) (slice_get functions number) number args u

-- ---- Programs

-- the memory at the start: the code's bytes from the start of the globals on, and zero elsewhere
abbrev pub start_memory : List ℕ → Memory
start_memory initial at = if nat_lt at GLOBALS_START then 0 else slice_index initial (at - GLOBALS_START)

-- the world before the first step: the blocks of the global objects live, no call is entered, and the stack number is the
-- upper end of the data stack
abbrev pub start : (initial : List ℕ) → (globals : List Block) → (input : List ℕ) → FPoint
start initial globals input =
    point (arguments []) (record {
      memory = start_memory initial;
      live = globals;
      depth = 0;
      stack = HEAP_START;
      input = input;
      told = [];
      time =
          start_charge;
    })

abbrev pub exited : (word : ℕ) → FPoint → Run (Unit {0})
exited word u = ends (Ending.Exited word) u

-- The run of flat code, for slots of 2 ^ g bytes, with the blocks of its global objects and, for each function, the
-- exponents of its frame's blocks, on an input: each loop has at most m turns, and at most m calls are nested.
abbrev pub flat_run : (g : ℕ) → FCode → (globals : List Block) → (frames : List (List ℕ)) → (input : List ℕ) → (m : ℕ) → Run (Unit {0})
flat_run g code globals frames input m =
    and_then (calls g frames m code.functions m code.main [] (start code.initial globals input)) exited
