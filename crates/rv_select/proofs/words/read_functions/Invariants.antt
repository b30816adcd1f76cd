use Rattle.std.specs.Prelude.{drop}
use Rattle.rv_select.proofs.Read.{FunctionsLeft}
use Rattle.rv_select.proofs.words.read_functions.Given as goal

abbrev pub invariant-loop-function : goal.invariant-loop-function
invariant-loop-function l = FunctionsLeft (drop l.function-index l.functions) l.functions
