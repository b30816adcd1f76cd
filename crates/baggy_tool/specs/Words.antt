-- What the words of the command line ask for.
use Rattle.std.specs.Prelude.{ℕ, ◌==◌, Bool, true, false, length, if◌then◌else◌, List, [], ◌∷◌, Option, Some, None, codes}
use Rattle.std.specs.List.{list_all}
use Rattle.std.specs.Char.{is_ascii_digit}
use Rattle.std.specs.Str.{bytes_eq}
use Rattle.std.specs.Borrow.{Bor}
use Rattle.std.specs.Option.{option_map}
use Rattle.clap.specs.Words.{App, Row, Rule, fault_of, first_of, matches_of, new_app, new_rule, with_rule}
use Rattle.clap.specs.declared.builder.action.ArgAction.TheVariants.{Set}
use Rattle.clap.specs.declared.error.kind.ErrorKind.{ErrorKind}
use Rattle.clap.specs.declared.error.kind.ErrorKind.TheVariants.{OutOfMemory}
use Rattle.baggy_tool.specs.declared.words.Command.{Command}
use Rattle.baggy_tool.specs.declared.words.Command.TheVariants as command
use Rattle.baggy_tool.specs.Decimal.{number_within}

-- what a call is asked for
pub data Request : Type 0 where
  -- a source is compiled and run, for so many instructions at most
  Run : (file : List ℕ) (steps : ℕ) → Request
  -- an image is run
  Exec : (file : List ℕ) (steps : ℕ) → Request
  -- a source is compiled, and its image is written to a file
  Compile : (file path : List ℕ) → Request
  -- a source is read, and refused as a run would refuse it
  Check : (file : List ℕ) → Request

-- how many instructions a run has where the words don't say; the number does not unfold by itself, since it is large
unfoldable pub default_steps : ℕ
default_steps = 200000000

-- the number of a word of one or more decimal digits, if it is at most 10^12
abbrev pub steps_of : List ℕ → Option ℕ
steps_of [] = None
steps_of (digit ∷ digits) = if list_all is_ascii_digit (digit ∷ digits) then number_within 1000000000000 (digit ∷ digits) else None

-- ---- The command, as `clap` reads it: two words and two options with a value each

abbrev pub positional : List ℕ → Rule
positional id = record (new_rule id) { required = true; action = Some Set }

abbrev pub option : List ℕ → Rule
option id = record (new_rule id) { long = Some id; action = Some Set }

-- the words are those after the program's name
abbrev pub no_name : App → App
no_name a = record a { top = record a.top { no_binary_name = true } }

abbrev pub baggy_command : App
baggy_command =
    with_rule (with_rule (with_rule (with_rule (no_name (new_app (codes "baggy")))
    (positional (codes "MODE"))) (positional (codes "FILE"))) (option (codes "steps"))) (option (codes "out"))

-- ---- What its words ask for

-- a run's number of instructions: none given, or one that is a number
abbrev pub steps_in : Option (List ℕ) → Option ℕ
steps_in None = Some default_steps
steps_in (Some word) = steps_of word

abbrev pub run_of : List ℕ → Option ℕ → Option Request
run_of file None = None
run_of file (Some steps) = Some (Run file steps)

abbrev pub exec_of : List ℕ → Option ℕ → Option Request
exec_of file None = None
exec_of file (Some steps) = Some (Exec file steps)

abbrev pub check_of : List ℕ → Option (List ℕ) → Option Request
check_of file None = Some (Check file)
check_of file (Some steps) = None

-- a mode with the options that it may have: --steps with run and exec, --out always with compile and never else
abbrev pub with_mode : (mode file : List ℕ) (steps out : Option (List ℕ)) → Option Request
with_mode mode file steps None =
    if bytes_eq mode (codes "run") then run_of file (steps_in steps)
    else if bytes_eq mode (codes "exec") then exec_of file (steps_in steps)
    else if bytes_eq mode (codes "check") then check_of file steps
    else None
with_mode mode file None (Some path) = if bytes_eq mode (codes "compile") then Some (Compile file path) else None
with_mode mode file (Some steps) (Some path) = None

abbrev pub with_words : (mode file steps out : Option (List ℕ)) → Option Request
with_words None file steps out = None
with_words (Some mode) None steps out = None
with_words (Some mode) (Some file) steps out = with_mode mode file steps out

abbrev pub asked_by : List Row → Option Request
asked_by rows = with_words (first_of (codes "MODE") rows) (first_of (codes "FILE") rows) (first_of (codes "steps") rows) (first_of (codes "out") rows)

-- whether an error of `clap` says that memory was wanting
abbrev pub is_out_of_memory : ErrorKind → Bool
is_out_of_memory OutOfMemory = true
is_out_of_memory kind = false

-- the text behind a reference, if there is one
abbrev pub text_in : Option (Bor (List ℕ)) → Option (List ℕ)
text_in = option_map (λ s. s.now)

-- What the words ask for: none where `clap` refuses them, a request for help among them, or where the mode does not
-- have these options.
unfoldable pub request_of : List (List ℕ) → Option Request
request_of words = if length (fault_of baggy_command words) == 0 then asked_by (matches_of baggy_command words) else None

abbrev pub request : Command → Request
request (command.Run file steps) = Run file.now steps
request (command.Exec file steps) = Exec file.now steps
request (command.Compile file path) = Compile file.now path.now
request (command.Check file) = Check file.now
