use Rattle.std.proofs.Common.{◌≡◌, length, map, bytes_eq}
use Rattle.c_lexer.specs.Reading.{first_row}
use Rattle.c_lexer.proofs.words.first_word.Given as goal

abbrev pub invariant-loop-table : goal.invariant-loop-table
invariant-loop-table l = first_row (λ s. bytes_eq s l.spelling) (map (λ row. (row.0.now, row.1)) l.table) ≡ first_row (λ s. bytes_eq s l.spelling) (map (λ row. (row.0.now, row.1)) l.initial.table)

abbrev pub decreases-loop-table : goal.decreases-loop-table
decreases-loop-table l = length l.table
