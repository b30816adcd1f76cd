-- Which texts are files of C that are accepted, with which program, and how others are refused.
use Rattle.std.specs.Prelude.{◌≡◌, ℕ, ◌≤◌, false, List, Result, Ok, Err}
use Rattle.c_lexer.specs.declared.fault.LexError.{LexError}
use Rattle.c_lexer.specs.declared.fault.LexError.TheVariants as lex
use Rattle.c_lexer.specs.Text.{Lexeme, Lexes, placed}
use Rattle.syntax_tree.specs.Syntax.{UnitTree}
use Rattle.syntax_tree.specs.Grammar.{Derives}
use Rattle.syntax_tree.specs.GrammarLimits.{within_limits}
use Rattle.syntax_tree.specs.GrammarRefusals.{Refusal, IsRefused, line_of}
use Rattle.c_parser.specs.declared.parser.ParseError.{ParseError}
use Rattle.c_parser.specs.declared.parser.ParseError.TheVariants as parse
use Rattle.typing_operators.specs.declared.error.TypeError.{TypeError}
use Rattle.typing_operators.specs.declared.error.TypeError.TheVariants as typing
use Rattle.typed_tree.specs.TypedTree.{CProgram}
use Rattle.typed_tree.specs.Typed.{Typed, HasLines}
use Rattle.typed_tree.specs.TypedViews.{program_of}
use Rattle.typed_tree.specs.declared.typed.Program.{Program as TypedProgram}
use Rattle.typing_accepted.specs.AcceptanceFiles.{AcceptsUnit}
use Rattle.typing_accepted.specs.AcceptanceLaws.{IsRefusedWith}
use Rattle.block_layout.specs.Answers.{ObjectsFit, DoNotFit, IsLayout}
use Rattle.block_layout.specs.declared.error.LayoutError.{LayoutError}
use Rattle.block_layout.specs.declared.error.LayoutError.TheVariants as layout
use Rattle.block_layout.specs.declared.globals.Layout.{Layout}
use Rattle.lowering_counts.specs.declared.error.LowerError.{LowerError}
use Rattle.lowering_counts.specs.declared.error.LowerError.TheVariants as lower
use Rattle.lowering_counts.specs.Limits.{most_nodes, HasRoom, PassesLimit}
use Rattle.lowering_counts.specs.Built.{is_built}
use Rattle.typed_tree.specs.Counts.{nodes_of_program}
use Rattle.bb_driver.specs.declared.error.CompileError.{CompileError}
use Rattle.bb_driver.specs.declared.error.CompileError.TheVariants as compile

-- ---- Accepted

-- the text reads as this file (C11 5.1.1.2, 6.4 and 6.9)
abbrev pub Reads : List ℕ → UnitTree → Type 0
Reads text tree = (tokens : List Lexeme) × Lexes text (Ok tokens) × Derives within_limits (placed tokens) tree

-- the text is a file that is accepted by the rules of typing, as this program (C11 6.5 to 6.9)
abbrev pub Means : List ℕ → CProgram → Type 0
Means text p = (tree : UnitTree) × Reads text tree × AcceptsUnit tree p

-- the program's objects have room, it has at most 4,096 nodes, and no function too many values
pub record IsWithinLimits (p : CProgram) : Type 0 where
  pub objects : ObjectsFit p
  pub nodes : nodes_of_program p ≤ most_nodes
  pub values : HasRoom p

-- the text is accepted with this program
abbrev pub Accepts : List ℕ → CProgram → Type 0
Accepts text p = Means text p × IsWithinLimits p

abbrev pub IsAccepted : List ℕ → Type 0
IsAccepted text = (p : CProgram) × Accepts text p

-- ---- Refused

-- the grammar refuses the text so, at this token, which is on this line
abbrev pub FailsAt : List ℕ → Refusal → (token line : ℕ) → Type 0
FailsAt text why token line = (tokens : List Lexeme) × Lexes text (Ok tokens) × IsRefused (placed tokens) why token
    × (line ≡ line_of (placed tokens) token)

-- typing refuses the file so, at the first of its parts that it does not accept
abbrev pub FailsToType : List ℕ → TypeError → Type 0
FailsToType text error = (tree : UnitTree) × Reads text tree × IsRefusedWith tree error

-- the text is refused so: by tokens, grammar, typing, room for objects and other limits, in this order
abbrev pub Refuses : List ℕ → CompileError → Type 0
Refuses text (compile.Lex lex.Memory) = ⊥
Refuses text (compile.Lex error) = Lexes text (Err error)
Refuses text (compile.Parse (parse.Syntax token line)) = FailsAt text Refusal.Syntax token line
Refuses text (compile.Parse (parse.TooDeep token line)) = FailsAt text Refusal.TooDeep token line
Refuses text (compile.Parse parse.Memory) = ⊥
Refuses text (compile.Typing typing.Memory) = ⊥
Refuses text (compile.Typing error) = FailsToType text error
Refuses text (compile.Layout error) = (p : CProgram) × Means text p × DoNotFit p error
Refuses text (compile.Lower error) = (p : CProgram) × Means text p × ObjectsFit p × PassesLimit p error
Refuses text compile.Memory = ⊥

-- the text is accepted, but its program has a form that is not built
abbrev pub IsNotBuilt : List ℕ → Type 0
IsNotBuilt text = (p : CProgram) × Accepts text p × (is_built p ≡ false)

-- ---- What the calls answer

-- want of memory is one error
abbrev pub of_lex : LexError → CompileError
of_lex lex.Memory = compile.Memory
of_lex error = compile.Lex error

abbrev pub of_parse : ParseError → CompileError
of_parse parse.Memory = compile.Memory
of_parse error = compile.Parse error

abbrev pub of_typing : TypeError → CompileError
of_typing typing.Memory = compile.Memory
of_typing error = compile.Typing error

abbrev pub of_layout : LayoutError → CompileError
of_layout layout.Memory = compile.Memory
of_layout error = compile.Layout error

abbrev pub of_lower : LowerError → CompileError
of_lower lower.Memory = compile.Memory
of_lower error = compile.Lower error

-- the typed program is that of the text, and keeps the rules of typing; or the refusal is that of the text, and no limit
abbrev pub ReadsProgram : List ℕ → Result TypedProgram CompileError → Type 0
ReadsProgram text (Ok program) = Means text (program_of program) × Typed (program_of program) × HasLines (program_of program)
ReadsProgram text (Err compile.Memory) = Unit {0}
ReadsProgram text (Err (compile.Layout error)) = ⊥
ReadsProgram text (Err (compile.Lower error)) = ⊥
ReadsProgram text (Err error) = Refuses text error

-- the layout of the program's global objects, where all its objects have room; or which have none
abbrev pub LaysOut : CProgram → Result Layout CompileError → Type 0
LaysOut p (Ok l) = ObjectsFit p × IsLayout p l
LaysOut p (Err compile.Memory) = Unit {0}
LaysOut p (Err (compile.Layout error)) = DoNotFit p error
LaysOut p (Err error) = ⊥

-- the text is accepted, or refused so
abbrev pub Checks : List ℕ → Result Unit CompileError → Type 0
Checks text (Ok done) = IsAccepted text
Checks text (Err compile.Memory) = Unit {0}
Checks text (Err error) = Refuses text error
