use Rattle.std.proofs.Common.{◌≡◌, ◌+◌, drop}
use Rattle.c_lexer.specs.Reading.{continues, run_behind}
use Rattle.c_lexer.proofs.bytes.run_len.Given as goal

abbrev pub invariant-loop-at : goal.invariant-loop-at
invariant-loop-at l = l.at + run_behind (continues l.class) l.before (drop l.at l.text) ≡ run_behind (continues l.class) 0 l.text
