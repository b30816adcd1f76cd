use Rattle.bb_driver.specs.Sources.{Reads}
use Rattle.std.proofs.Common.{arith}
use Rattle.std.proofs.lemmas.List.Elements.{All-from_get_or}
use Rattle.std.proofs.lemmas.Result.{err_from_is_err_and}
use Rattle.c_lexer.specs.Views.{lexemes}
use Rattle.syntax_tree.specs.GrammarLimits.{within_limits}
use Rattle.syntax_tree.specs.SyntaxViews.{unit_tree}
use Rattle.typed_tree.specs.TypedViews.{program_of}
use Rattle.syntax_in_range.specs.InRange.{AreBytes, IsByte, InRange}
use Rattle.bb_driver.proofs.Reading.{lex_refuses, parse_refuses, typing_refuses}
use Rattle.bb_driver.proofs.source.read.Goals as goal

pub returns-in_err-tokens : goal.returns-in_err-tokens
returns-in_err-tokens c =
    let p = err_from_is_err_and c.from_residual.result c.from_residual.ensures.1 in
    rw (p.1, p.2) (lex_refuses c.args.text.now c.in_err-tokens.field-0.0 c.in_err-tokens.ensures.refusal)

pub returns-in_err-unit : goal.returns-in_err-unit
returns-in_err-unit c =
    let p = err_from_is_err_and c.from_residual-in_err-unit.result c.from_residual-in_err-unit.ensures.1 in
    rw (p.1, p.2) (parse_refuses c.args.text.now (lexemes c.in_ok-tokens.tokens) c.in_err-unit.field-0.0 c.in_ok-tokens.ensures.tokens c.in_err-unit.ensures.answer)

pub returns-in_err-program : goal.returns-in_err-program
returns-in_err-program c =
    let p = err_from_is_err_and c.from_residual-in_err-program.result c.from_residual-in_err-program.ensures.1 in
    let reads : Reads c.args.text.now (unit_tree c.in_ok-unit.unit) = (lexemes c.in_ok-tokens.tokens, c.in_ok-tokens.ensures.tokens, c.in_ok-unit.ensures.answer) in
    rw (p.1, p.2) (typing_refuses c.files_fail_at_first.ensures c.args.text.now (unit_tree c.in_ok-unit.unit) c.in_err-program.field-0.0 reads c.in_err-program.ensures.exact)

pub returns : goal.returns
returns c =
    let lexes = c.in_ok-tokens.ensures.tokens in
    let derives = c.in_ok-unit.ensures.answer in
    let bytes : AreBytes c.args.text.now = All-from_get_or IsByte c.args.text.now 0 (λ i low. let small = c.type_inv.text i in omega (arith, small)) in
    let range : InRange (unit_tree c.in_ok-unit.unit) = c.text_is_in_range.ensures within_limits c.args.text.now (lexemes c.in_ok-tokens.tokens) (unit_tree c.in_ok-unit.unit) lexes bytes derives in
    ((unit_tree c.in_ok-unit.unit, (lexemes c.in_ok-tokens.tokens, lexes, derives), (c.accepted_is_typed.ensures (unit_tree c.in_ok-unit.unit) (program_of c.in_ok-program.program)).backward c.in_ok-program.ensures.exact), c.in_ok-program.ensures.typed range, c.in_ok-program.ensures.lines range)
