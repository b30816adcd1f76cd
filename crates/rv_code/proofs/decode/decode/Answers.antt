use Rattle.std.proofs.Common.{◌≡◌, ◌≢◌, ℕ, arith, subst, sym, ap, ◌∙◌, Option, Some, None}
use Rattle.std.specs.Prelude.{IfSome, IfNone}
use Rattle.rv_code.specs.declared.instr.Instr.{Instr}
use Rattle.rv_code.specs.Code.{Fits, Encodes, word_of, instruction_of}
use Rattle.rv_code.proofs.RoundTrip.{read_back}
use Rattle.rv_code.proofs.Rows.{read_encodes}
use Rattle.rv_code.proofs.decode.decode.Goals as goal

-- a word that is not read is that of no instruction: each is read back
not_read : (word : ℕ) (read : Option Instr) → read ≡ instruction_of word → IfNone read ((instr : Instr) → Fits instr → word_of instr ≢ word)
not_read word None e = λ instr fits same. let back : instruction_of word ≡ Some instr = ap instruction_of (sym same) ∙ read_back instr fits in cc
not_read word (Some instr) e = tt

pub returns-clause-found : goal.returns-clause-found
returns-clause-found c =
    let P : Option Instr → Type 0 = λ read. IfSome read (Encodes c.args.word.0) in
    subst P (sym c.instruction.ensures) (read_encodes c.args.word.0 (omega arith))

pub returns-clause-none : goal.returns-clause-none
returns-clause-none c = not_read c.args.word.0 c.instruction.result c.instruction.ensures
