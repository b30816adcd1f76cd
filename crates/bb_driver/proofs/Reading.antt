-- What reading a text, and lowering its program, say of the text.
use Rattle.std.proofs.Common.{ℕ, List}
use Rattle.std.specs.Prelude.{Ok, Err}
use Rattle.c_lexer.specs.Text.{Lexeme, Lexes, placed}
use Rattle.c_lexer.specs.Views.{IsRefusal}
use Rattle.c_lexer.specs.declared.fault.LexError.{LexError}
use Rattle.c_lexer.specs.declared.fault.LexError.TheVariants as lex
use Rattle.syntax_tree.specs.Syntax.{UnitTree}
use Rattle.c_parser.specs.Parse.{IsAnswer}
use Rattle.c_parser.specs.declared.parser.ParseError.{ParseError}
use Rattle.c_parser.specs.declared.parser.ParseError.TheVariants as parse
use Rattle.typing_operators.specs.Rule.{Fails}
use Rattle.typing_operators.specs.declared.error.TypeError.{TypeError}
use Rattle.typing_operators.specs.declared.error.TypeError.TheVariants as typing
use Rattle.typed_tree.specs.TypedTree.{CProgram}
use Rattle.typing_unit_keeps.specs.Units.{typed_unit}
use Rattle.typing_accepted.specs.AcceptanceLaws.{FilesFailAtFirst}
use Rattle.block_layout.specs.Answers.{ObjectsFit}
use Rattle.mid_code.specs.declared.code.Mid.{Mid}
use Rattle.lowering_counts.specs.declared.error.LowerError.{LowerError}
use Rattle.lowering_counts.specs.declared.error.LowerError.TheVariants as lower
use Rattle.lowering_counts.specs.declared.counts.ProgramCounts.{ProgramCounts}
use Rattle.lowering_counts.specs.Limits.{IsWithin}
use Rattle.lowering.specs.Lowers.{IsLowered}
use Rattle.bb_driver.specs.declared.error.CompileError.{CompileError}
use Rattle.bb_driver.specs.declared.error.CompileError.TheVariants as compile
use Rattle.bb_driver.specs.Sources.{Means, Accepts, ReadsProgram, LaysOut, Checks, of_lower, Reads, of_lex, of_parse, of_typing}
use Rattle.bb_driver.specs.Compiles.{Compiles}

-- what the lexer refuses is refused, and so on
pub lex_refuses : (text : List ℕ) (e : LexError) → IsRefusal text e → ReadsProgram text (Err (of_lex e))
lex_refuses text lex.Memory h = tt
lex_refuses text (lex.TooLong n) h = h
lex_refuses text (lex.BadByte line) h = h
lex_refuses text (lex.BadNumber line) h = h
lex_refuses text (lex.BadEscape line) h = h
lex_refuses text (lex.Unclosed line) h = h
lex_refuses text (lex.BadDirective line) h = h

pub parse_refuses : (text : List ℕ) (tokens : List Lexeme) (e : ParseError) → Lexes text (Ok tokens) → IsAnswer (placed tokens) (Err e) → ReadsProgram text (Err (of_parse e))
parse_refuses text tokens parse.Memory l a = tt
parse_refuses text tokens (parse.Syntax token line) l a = (tokens, l, a.0, a.1)
parse_refuses text tokens (parse.TooDeep token line) l a = (tokens, l, a.0, a.1)

pub typing_refuses : FilesFailAtFirst → (text : List ℕ) (tree : UnitTree) (e : TypeError) → Reads text tree → Fails e (typed_unit tree) → ReadsProgram text (Err (of_typing e))
typing_refuses failing text tree typing.Memory r h = tt
typing_refuses failing text tree (typing.Unknown line x) r h = (tree, r, (failing tree (typing.Unknown line x)).forward h)
typing_refuses failing text tree (typing.Twice line x) r h = (tree, r, (failing tree (typing.Twice line x)).forward h)
typing_refuses failing text tree (typing.BadType line n) r h = (tree, r, (failing tree (typing.BadType line n)).forward h)
typing_refuses failing text tree typing.NoMain r h = (tree, r, (failing tree typing.NoMain).forward h)
typing_refuses failing text tree (typing.TooLarge line n) r h = (tree, r, (failing tree (typing.TooLarge line n)).forward h)
typing_refuses failing text tree (typing.TooManyParams line) r h = (tree, r, (failing tree (typing.TooManyParams line)).forward h)
typing_refuses failing text tree (typing.TooManyFunctions line) r h = (tree, r, (failing tree (typing.TooManyFunctions line)).forward h)

-- what has no room is refused
pub room_checks : (text : List ℕ) (p : CProgram) (e : CompileError) → Means text p → LaysOut p (Err e) → Checks text (Err e)
room_checks text p (compile.Layout e) means h = (p, means, h)
room_checks text p compile.Memory means h = tt
room_checks text p (compile.Lex e) means h = absurd h
room_checks text p (compile.Parse e) means h = absurd h
room_checks text p (compile.Typing e) means h = absurd h
room_checks text p (compile.Lower e) means h = absurd h

pub room_compiles : (text : List ℕ) (p : CProgram) (e : CompileError) → Means text p → LaysOut p (Err e) → Compiles text (Err e)
room_compiles text p (compile.Layout e) means h = (p, means, h)
room_compiles text p compile.Memory means h = tt
room_compiles text p (compile.Lex e) means h = absurd h
room_compiles text p (compile.Parse e) means h = absurd h
room_compiles text p (compile.Typing e) means h = absurd h
room_compiles text p (compile.Lower e) means h = absurd h

-- a program that has code is within the limits, and so is one that is not built
pub coded : (text : List ℕ) (p : CProgram) (mid : Mid) → Means text p → ObjectsFit p → IsLowered p (Ok mid) → Accepts text p
coded text p mid means fit h = (means, record { objects = fit; nodes = h.0; values = h.1 })

pub not_built : (text : List ℕ) (p : CProgram) → Means text p → ObjectsFit p → IsLowered p (Err lower.NotBuilt) → Accepts text p
not_built text p means fit h = (means, record { objects = fit; nodes = h.0; values = h.1 })

-- so is one that passes no limit, and one that passes a limit is refused
pub within : (text : List ℕ) (p : CProgram) → Means text p → ObjectsFit p → IsWithin {A = Unit {0}} p (Ok tt) → Accepts text p
within text p means fit h = (means, record { objects = fit; nodes = h.0; values = h.1 })

pub limit_checks : (text : List ℕ) (p : CProgram) (e : LowerError) → Means text p → ObjectsFit p → IsWithin {A = ProgramCounts} p (Err e) → Checks text (Err (of_lower e))
limit_checks text p (lower.TooManyNodes count) means fit h = (p, means, fit, h)
limit_checks text p (lower.TooManyValues name count) means fit h = (p, means, fit, h)
limit_checks text p lower.NotBuilt means fit h = absurd h
limit_checks text p lower.Memory means fit h = tt

-- what lowering refuses is refused
pub lower_compiles : (text : List ℕ) (p : CProgram) (e : LowerError) → Means text p → ObjectsFit p → IsLowered p (Err e) → Compiles text (Err (of_lower e))
lower_compiles text p (lower.TooManyNodes count) means fit h = (p, means, fit, h)
lower_compiles text p (lower.TooManyValues name count) means fit h = (p, means, fit, h)
lower_compiles text p lower.NotBuilt means fit h = (p, not_built text p means fit h, h.2)
lower_compiles text p lower.Memory means fit h = tt

-- and so is a text that has no program
pub unread_compiles : (text : List ℕ) (e : CompileError) → ReadsProgram text (Err e) → Compiles text (Err e)
unread_compiles text (compile.Lex error) h = h
unread_compiles text (compile.Parse error) h = h
unread_compiles text (compile.Typing error) h = h
unread_compiles text (compile.Layout error) h = absurd h
unread_compiles text (compile.Lower error) h = absurd h
unread_compiles text compile.Memory h = tt
