use Rattle.std.proofs.lemmas.Result.{err_from_is_err_and}
use Rattle.c_parser_expressions.proofs.CodeSteps.{called, call_failed, tail}
use Rattle.c_parser.proofs.declaration.init_declarator.Goals as goal

pub returns-in_err-declarator : goal.returns-in_err-declarator
returns-in_err-declarator c =
    let p = err_from_is_err_and c.from_residual.result c.from_residual.ensures.1 in
    rw (p.1, p.2) (call_failed c.in_err-declarator.ensures)

pub returns : goal.returns
returns c = called c.in_ok-declarator.ensures (tail c.init_rest.ensures)
