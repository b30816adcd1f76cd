use Rattle.std.proofs.Common.{◌≤◌, sym, ap, ◌∙◌, subst}
use Rattle.std.proofs.lemmas.Result.{err_from_is_err_and}
use Rattle.std.specs.Prelude.{All, map}
use Rattle.typed_tree.specs.Counts.{values_of}
use Rattle.typed_tree.specs.TypedViews.{function_of, program_of}
use Rattle.lowering_counts.specs.Counting.{counted_values}
use Rattle.lowering_counts.proofs.Limited.{few_nodes, many_nodes, values_refused}
use Rattle.lowering_counts.proofs.limits.within_limits.Goals as goal

pub returns-then-counts-gt-MOST_NODES-clause-limits : goal.returns-then-counts-gt-MOST_NODES-clause-limits
returns-then-counts-gt-MOST_NODES-clause-limits c =
    many_nodes (program_of c.args.program.now) c.in_ok-counts.counts c.in_ok-counts.ensures c.if-counts-gt-MOST_NODES.true

pub check_values-requires : goal.check_values-requires
check_values-requires c =
    c.as_slice.ensures ∙ c.in_ok-counts.ensures.values ∙ ap (λ fs. counted_values (map function_of fs)) (sym c.as_slice-functions.ensures)

pub returns-in_err-check_values-clause-limits : goal.returns-in_err-check_values-clause-limits
returns-in_err-check_values-clause-limits c =
    let p = program_of c.args.program.now in
    let e = err_from_is_err_and c.from_residual-in_err-check_values.result c.from_residual-in_err-check_values.ensures.1 in
    rw (e.1, e.2) (values_refused p (map function_of c.as_slice-functions.result.now) (ap (map function_of) c.as_slice-functions.ensures) (few_nodes p c.in_ok-counts.counts c.in_ok-counts.ensures c.if-counts-gt-MOST_NODES.false) c.in_err-check_values.field-0.0 c.in_err-check_values.ensures)

pub returns-clause-limits : goal.returns-clause-limits
returns-clause-limits c = (
  few_nodes (program_of c.args.program.now) c.in_ok-counts.counts c.in_ok-counts.ensures c.if-counts-gt-MOST_NODES.false,
  subst (λ fs. All (λ f. values_of f ≤ 250) (map function_of fs)) c.as_slice-functions.ensures c.in_ok-check_values.ensures,
)
