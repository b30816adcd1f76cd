-- The endings of a call, their statuses and their lines.
use Rattle.std.specs.Prelude.{ℕ, List, [], ◌++◌, codes, decimal}
use Rattle.bb_words.specs.declared.kinds.ReportKind.{ReportKind}
use Rattle.bb_words.specs.declared.kinds.ReportKind.TheVariants as report
use Rattle.bb_words.specs.declared.kinds.TrapKind.{TrapKind}
use Rattle.bb_words.specs.declared.kinds.TrapKind.TheVariants as trap
use Rattle.rv_image.specs.declared.error.ImageError.{ImageError}
use Rattle.rv_image.specs.declared.error.ImageError.TheVariants as image
use Rattle.rv_machine.specs.declared.stop.Stop.{Stop}
use Rattle.rv_machine.specs.declared.stop.Stop.TheVariants as stop
use Rattle.baggy_tool.specs.declared.ending.Ending.{Ending}
use Rattle.baggy_tool.specs.declared.ending.Ending.TheVariants.{Exited, Reported, Trapped, OutOfSteps, Wrote, Checked, Refused, Usage}
use Rattle.baggy_tool.specs.declared.ending.Ending.TheVariants.{NoFile, FileFault, ReadFault, WriteFault, NoteFault, NoMemory}
use Rattle.baggy_tool.specs.declared.ending.Refusal.{Refusal}
use Rattle.baggy_tool.specs.declared.ending.Refusal.TheVariants.{Source, Image, NotBuilt}
use Rattle.bb_driver.specs.declared.error.CompileError.{CompileError}
use Rattle.bb_driver.specs.declared.error.CompileError.TheVariants as compile
use Rattle.typing_operators.specs.declared.error.TypeError.{TypeError}
use Rattle.typing_operators.specs.declared.error.TypeError.TheVariants as typing
use Rattle.block_layout.specs.declared.error.LayoutError.{LayoutError}
use Rattle.block_layout.specs.declared.error.LayoutError.TheVariants as layout
use Rattle.lowering_counts.specs.declared.error.LowerError.{LowerError}
use Rattle.lowering_counts.specs.declared.error.LowerError.TheVariants as lower
use Rattle.c_lexer.specs.declared.fault.LexError.{LexError}
use Rattle.c_lexer.specs.declared.fault.LexError.TheVariants as lex
use Rattle.c_parser.specs.declared.parser.ParseError.{ParseError}
use Rattle.c_parser.specs.declared.parser.ParseError.TheVariants as parse

-- the status of the process
abbrev pub status_of : Ending → ℕ
status_of (Exited status) = status
status_of (Reported kind line) = 121
status_of (Trapped kind) = 122
status_of OutOfSteps = 123
status_of Wrote = 0
status_of Checked = 0
status_of (Refused error) = 124
status_of Usage = 125
status_of NoFile = 126
status_of FileFault = 126
status_of ReadFault = 126
status_of WriteFault = 126
status_of NoteFault = 126
status_of NoMemory = 127

-- how a call ends whose run came back so
abbrev pub ending_of : Stop → Ending
ending_of (stop.Exited status) = Exited status
ending_of (stop.Reported kind line) = Reported kind line
ending_of (stop.Trapped kind) = Trapped kind
ending_of stop.OutOfSteps = OutOfSteps
ending_of stop.ReadFault = ReadFault
ending_of stop.WriteFault = WriteFault

abbrev pub report_name : ReportKind → List ℕ
report_name report.Bounds = codes "Bounds"
report_name report.Pointer = codes "Pointer"
report_name report.DivZero = codes "DivZero"
report_name report.BadFree = codes "BadFree"
report_name report.Depth = codes "Depth"
report_name report.Stack = codes "Stack"

abbrev pub trap_name : TrapKind → List ℕ
trap_name trap.Null = codes "Null"
trap_name trap.Marked = codes "Marked"
trap_name trap.Unmapped = codes "Unmapped"
trap_name trap.Text = codes "Text"
trap_name trap.Misaligned = codes "Misaligned"
trap_name trap.Fetch = codes "Fetch"
trap_name trap.Illegal = codes "Illegal"
trap_name trap.Break = codes "Break"
trap_name trap.Call = codes "Call"

-- a text, a number and a line feed
abbrev pub numbered : List ℕ → ℕ → List ℕ
numbered text n = text ++ (decimal n ++ codes "\n")

abbrev pub lex_line : LexError → List ℕ
lex_line (lex.TooLong length) = numbered (codes "baggy: refused TooLong length ") length
lex_line (lex.BadByte line) = numbered (codes "baggy: refused BadByte at line ") line
lex_line (lex.BadNumber line) = numbered (codes "baggy: refused BadNumber at line ") line
lex_line (lex.BadEscape line) = numbered (codes "baggy: refused BadEscape at line ") line
lex_line (lex.Unclosed line) = numbered (codes "baggy: refused Unclosed at line ") line
lex_line (lex.BadDirective line) = numbered (codes "baggy: refused BadDirective at line ") line
lex_line lex.Memory = []

abbrev pub parse_line : ParseError → List ℕ
parse_line (parse.Syntax token line) = (codes "baggy: refused Syntax token " ++ decimal token) ++ numbered (codes " at line ") line
parse_line (parse.TooDeep token line) = (codes "baggy: refused TooDeep token " ++ decimal token) ++ numbered (codes " at line ") line
parse_line parse.Memory = []

-- a text, a name or a number, and a second text with a number
abbrev pub named : List ℕ → List ℕ → List ℕ → ℕ → List ℕ
named text name second n = (text ++ name) ++ numbered second n

abbrev pub typing_line : TypeError → List ℕ
typing_line (typing.Unknown line name) = named (codes "baggy: refused Unknown ") name (codes " at line ") line
typing_line (typing.Twice line name) = named (codes "baggy: refused Twice ") name (codes " at line ") line
typing_line (typing.BadType line rule) = named (codes "baggy: refused BadType rule ") (decimal rule) (codes " at line ") line
typing_line typing.NoMain = codes "baggy: refused NoMain\n"
typing_line (typing.TooLarge line size) = named (codes "baggy: refused TooLarge size ") (decimal size) (codes " at line ") line
typing_line (typing.TooManyParams line) = numbered (codes "baggy: refused TooManyParams at line ") line
typing_line (typing.TooManyFunctions line) = numbered (codes "baggy: refused TooManyFunctions at line ") line
typing_line typing.Memory = []

abbrev pub layout_line : LayoutError → List ℕ
layout_line (layout.GlobalsFull total) = numbered (codes "baggy: refused GlobalsFull total ") total
layout_line (layout.FrameFull name total) = named (codes "baggy: refused FrameFull ") name (codes " total ") total
layout_line layout.Memory = []

abbrev pub lower_line : LowerError → List ℕ
lower_line (lower.TooManyNodes count) = numbered (codes "baggy: refused TooManyNodes count ") count
lower_line (lower.TooManyValues name count) = named (codes "baggy: refused TooManyValues ") name (codes " count ") count
lower_line lower.NotBuilt = []
lower_line lower.Memory = []

abbrev pub compile_line : CompileError → List ℕ
compile_line (compile.Lex error) = lex_line error
compile_line (compile.Parse error) = parse_line error
compile_line (compile.Typing error) = typing_line error
compile_line (compile.Layout error) = layout_line error
compile_line (compile.Lower error) = lower_line error
compile_line compile.Memory = []

abbrev pub image_line : ImageError → List ℕ
image_line (image.Short need have) = (codes "baggy: refused Short need " ++ decimal need) ++ numbered (codes " have ") have
image_line image.BadMagic = codes "baggy: refused BadMagic\n"
image_line (image.BadVersion version) = numbered (codes "baggy: refused BadVersion ") version
image_line (image.BadField at) = numbered (codes "baggy: refused BadField at ") at
image_line (image.Extra at) = numbered (codes "baggy: refused Extra at ") at
image_line image.Memory = []

abbrev pub refusal_line : Refusal → List ℕ
refusal_line (Source error) = compile_line error
refusal_line (Image error) = image_line error
refusal_line NotBuilt = codes "baggy: refused NotBuilt\n"

-- the line that is noted of an ending, with its line feed; some endings have none
abbrev pub line_of : Ending → List ℕ
line_of (Exited status) = []
line_of (Reported kind line) = (codes "baggy: report " ++ report_name kind) ++ numbered (codes " at line ") line
line_of (Trapped kind) = (codes "baggy: trap " ++ trap_name kind) ++ codes "\n"
line_of OutOfSteps = codes "baggy: out of steps\n"
line_of Wrote = []
line_of Checked = []
line_of (Refused error) = refusal_line error
line_of Usage = codes "usage: baggy run|compile|exec|check FILE [--steps N] [--out PATH] [--profile]\n"
line_of NoFile = codes "baggy: no file\n"
line_of FileFault = codes "baggy: file fault\n"
line_of ReadFault = codes "baggy: read fault\n"
line_of WriteFault = codes "baggy: write fault\n"
line_of NoteFault = []
line_of NoMemory = codes "baggy: no memory\n"
