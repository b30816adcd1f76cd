-- What `parse` answers.
use Rattle.std.specs.Prelude.{◌≡◌, List, [], ◌∷◌, length, Result, Ok, Err}
use Rattle.c_words.specs.declared.place.At.{At}
use Rattle.c_words.specs.Tokens.{Placed}
use Rattle.syntax_tree.specs.declared.syntax.units.Unit.{Unit as Rattle_Unit}
use Rattle.syntax_tree.specs.Syntax.{UnitTree}
use Rattle.syntax_tree.specs.SyntaxViews.{unit_tree}
use Rattle.syntax_tree.specs.GrammarLimits.{within_limits}
use Rattle.syntax_tree.specs.Grammar.{Derives}
use Rattle.syntax_tree.specs.GrammarRefusals.{Refusal, IsRefused, line_of}
use Rattle.c_parser.specs.declared.parser.ParseError.{ParseError}
use Rattle.c_parser.specs.declared.parser.ParseError.TheVariants as errors

-- What is answered is what the grammar derives; a refusal is the grammar's, with its line. Memory may run out.
abbrev pub IsAnswer : List Placed → Result Rattle_Unit ParseError → Type 0
IsAnswer ts (Ok unit) = Derives within_limits ts (unit_tree unit)
IsAnswer ts (Err errors.Memory) = Unit {0}
IsAnswer ts (Err (errors.Syntax token line)) = IsRefused ts Refusal.Syntax token × (line ≡ line_of ts token)
IsAnswer ts (Err (errors.TooDeep token line)) = IsRefused ts Refusal.TooDeep token × (line ≡ line_of ts token)

-- the answer is this file, unless memory ran out
abbrev pub Accepts : UnitTree → Result Rattle_Unit ParseError → Type 0
Accepts tree (Ok unit) = unit_tree unit ≡ tree
Accepts tree (Err errors.Memory) = Unit {0}
Accepts tree (Err e) = ⊥

-- where reading stopped that has these tokens left: at the first of them, or at the end of the file
abbrev pub stop_place : List Placed → List Placed → At
stop_place ts [] = record { token = length ts; line = line_of ts (length ts) }
stop_place ts (u ∷ us) = u.at
