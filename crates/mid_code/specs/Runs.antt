-- The meaning of calls of mid code, and of a whole program.
use Rattle.std.specs.Prelude.{ℕ, zero, suc, nat_le, if◌then◌else◌, List, [], length, Option, Some, None, slice_get, slice_index_or}
use Rattle.bb_words.specs.Answers.{Goes, Ends, and_then}
use Rattle.bb_words.specs.declared.kinds.ReportKind.TheVariants.{Depth}
use Rattle.size_table.specs.declared.memory_map.TheConstants.{MOST_CALLS}
use Rattle.block_layout.specs.Layout.{layout}
use Rattle.block_layout.specs.Objects.{items_of}
use Rattle.source_meaning.specs.declared.values.Value.{Value}
use Rattle.source_meaning.specs.declared.values.Value.TheVariants.{Num}
use Rattle.source_meaning.specs.declared.values.Ending.TheVariants.{Exited, Reported, Cut}
use Rattle.source_meaning.specs.Worlds.{with_number}
use Rattle.source_meaning.specs.Accounts.{enter, leave}
use Rattle.source_meaning.specs.Start.{start_world}
use Rattle.mid_code.specs.Code.{Function, Program}
use Rattle.mid_code.specs.Times.{call_charge}
use Rattle.mid_code.specs.Meaning.{MidEnding, Came, Point, Goings, Way, On, Out, Back, spend, doing, Watch, unwatched, Names, Calls, acts}

-- The parameters of a new call hold the arguments, and every other value is the number 0: a call has as many arguments as
-- the function has parameters.
abbrev pub parameters : List Value → ℕ → Value
parameters vs i = slice_index_or vs i (Num 0)

-- the value that a body leaves with: that of its Return, or the number 0
abbrev pub handed : Way → Value
handed On = Num 0
handed (Out n) = Num 0
handed (Back x) = x

-- back in the caller
abbrev pub return_to : Function → (caller : Point) → Point → Point
return_to f caller v = record { world = leave f.blocks caller.world v.world; values = caller.values; time = v.time }

abbrev pub names_in : (g : ℕ) → Program → Function → (caller : Point) → Names
names_in g p f caller = record {
  globals = layout g (items_of p.globals);
  locals = layout g f.blocks;
  first = length caller.world.objects;
}

-- A function is called: its frame is entered, its body is done, and the call returns.
abbrev pub call_function : (g : ℕ) → Function → (body : Point → Goings Way) → List Value → Point → Goings Value
call_function g f body xs v =
    and_then (doing (enter g f.line f.blocks) (spend (call_charge f) v)) (λ entered u.
    and_then (body (record u { values = parameters xs })) (λ way t. Goes (handed way) (return_to f v t)))

abbrev pub call_if_any : (g : ℕ) → Option Function → (Function → Point → Point → Goings Way) → List Value → Point → Goings Value
call_if_any g None body xs v = Ends (Came Cut) v
call_if_any g (Some f) body xs v = call_function g f (body f v) xs v

-- a call that is nested too deeply is cut, unless so many calls are live that it is reported however many may be nested
abbrev pub call_past : Option Function → Point → Goings Value
call_past None v = Ends (Came Cut) v
call_past (Some f) v =
    if nat_le MOST_CALLS v.world.depth then Ends (Came (Reported Depth f.line)) (spend (call_charge f) v) else Ends (Came Cut) v

-- the calls of which at most n are nested, where each run of a Loop has at most m turns
abbrev pub calls : (g : ℕ) → Watch → Program → (m n : ℕ) → Calls
calls g watch p m zero f xs v = call_past (slice_get p.functions f) v
calls g watch p m (suc n) f xs v =
    call_if_any g (slice_get p.functions f) (λ h caller. acts g watch (calls g watch p m n) m (names_in g p h caller) h.body) xs v

abbrev pub first_point : (g : ℕ) → Program → (input : List ℕ) → Point
first_point g p input = record { world = start_world g p.named p.globals input; values = λ i. Num 0; time = 0 }

abbrev pub exit_with : Value → Point → Goings Unit
exit_with x v = doing (with_number x (λ n. Ends (Exited n))) v

-- the run of a program on an input, with what is watched, cut at m turns of a Loop and m nested calls
abbrev pub mid : (g : ℕ) → Watch → Program → (input : List ℕ) → (m : ℕ) → Goings Unit
mid g watch p input m = and_then (calls g watch p m m p.main [] (first_point g p input)) exit_with

-- ---- What comes of it

pub record Outcome : Type 0 where
  pub ending : MidEnding
  pub point : Point

abbrev pub outcome_of : {A : Type 0} → Goings A → Outcome
outcome_of (Goes a v) = record { ending = Came Cut; point = v }
outcome_of (Ends e v) = record { ending = e; point = v }

-- of a run in which nothing is watched
abbrev pub outcome : (g : ℕ) → Program → (input : List ℕ) → (m : ℕ) → Outcome
outcome g p input m = outcome_of (mid g unwatched p input m)
