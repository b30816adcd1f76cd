use Rattle.std.proofs.Common.{ℕ, List, Result, Vec, Global, length}
use Rattle.c_words.specs.Tokens.{Placed}
use Rattle.c_parser_expressions.specs.declared.cursor.Stop.{Stop}
use Rattle.c_parser_rules.specs.Programs.{Sort, Rule}
use Rattle.c_parser_rules.specs.Bodies.{body}
use Rattle.c_parser_expressions.specs.Reads.{GoesOn}
use Rattle.c_parser_expressions.proofs.leaf.strings.Given as goal

abbrev pub invariant-loop-pieces : goal.invariant-loop-pieces
invariant-loop-pieces l = (res : Result (Vec (List ℕ) Global) Stop) (new : List Placed)
    → GoesOn Sort.pieces (body Rule.strings) (λ x. x) (λ v. v.items) l.pieces.items l.cursor res new
    → GoesOn Sort.pieces (body Rule.strings) (λ x. x) (λ v. v.items) l.fn.pieces.items l.fn.cursor res new

abbrev pub decreases-loop-pieces : goal.decreases-loop-pieces
decreases-loop-pieces l = length l.cursor
