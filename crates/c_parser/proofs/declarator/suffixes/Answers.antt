use Rattle.std.proofs.Common.{sym, ◌∙◌}
use Rattle.std.proofs.lemmas.Result.{err_from_is_err_and}
use Rattle.c_parser_rules.specs.Tests.{begins_suffix}
use Rattle.c_parser_expressions.proofs.Fewer.{shorter_by, suffix_moves}
use Rattle.c_parser_expressions.proofs.Lists.{collected, repeat_more, repeat_failed, repeat_end}
use Rattle.c_parser.proofs.declarator.suffixes.Goals as goal

pub suffixes-init : goal.suffixes-init
suffixes-init c = λ res new g. collected c.new-suffixes.ensures.items g

pub suffixes-smaller : goal.suffixes-smaller
suffixes-smaller c = shorter_by (suffix_moves c.args.depth) c.in_ok-suffix.ensures

pub suffixes-preserved : goal.suffixes-preserved
suffixes-preserved c = λ res new g. c.suffixes.invariant res new
    (repeat_more begins_suffix _ (sym c.sees_suffix.ensures ∙ c.suffixes-test.true) c.in_ok-suffix.ensures c.in_ok-push.ensures.items g)

pub returns-in_err-suffix : goal.returns-in_err-suffix
returns-in_err-suffix c =
    let p = err_from_is_err_and c.from_residual.result c.from_residual.ensures.1 in
    rw (p.1, p.2) (c.suffixes.invariant _ _ (repeat_failed begins_suffix _ (sym c.sees_suffix.ensures ∙ c.suffixes-test.true) c.in_err-suffix.ensures))

pub returns : goal.returns
returns c = c.suffixes.invariant _ _ (repeat_end begins_suffix _ (sym c.sees_suffix.ensures ∙ c.suffixes-test.false))
