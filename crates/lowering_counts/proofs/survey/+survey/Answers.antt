use Rattle.std.proofs.Common.{◌+◌, sym, ap, ◌∙◌, arith}
use Rattle.std.specs.Prelude.{drop, min, max, sum, ◌&&◌}
use Rattle.lowering_counts.proofs.Counted.{and_true}
use Rattle.std.proofs.lemmas.List.Sums.{sum_by-cons}
use Rattle.typed_tree.specs.Counts.{temps_of, nodes_of, own_nodes, own_temps, greatest_from, temps_with}
use Rattle.typed_tree.specs.Walk.{walked_all, all_of}
use Rattle.typed_tree.specs.TypedViews.{expr_of, exprs_of}
use Rattle.lowering_counts.specs.Built.{is_built_expr}
use Rattle.lowering_counts.proofs.Counted.{one_more, no_more, more_nodes, more_temps, more_built, temps_with_is, call_nodes, call_temps, call_built}
use Rattle.lowering_counts.proofs.survey.+survey.Goals as goal

pub survey_args-loop-e-preserved : goal.survey_args-loop-e-preserved
survey_args-loop-e-preserved t c =
    let args = c.args.args.now in
    let i = c.loop-e.e-index in
    let e = c.e-item.result in
    let rest = exprs_of (drop (i + 1) args) in
    let step = one_more args i e c.loop-e-test.true c.e-item.is in
    let h = c.loop-e.invariant in (
      more_nodes c.loop-e.nodes c.saturating_add-nodes.result c.survey_expr-one.result.nodes (nodes_of (expr_of e)) (sum (walked_all own_nodes rest)) (1 + sum (walked_all own_nodes (exprs_of args)))
          c.saturating_add-nodes.ensures c.survey_expr-one.ensures.nodes (ap (λ z. min (c.loop-e.nodes + z) 4294967295) (sym (sum_by-cons (λ n. n) (nodes_of (expr_of e)) (walked_all own_nodes rest))) ∙ ap (λ z. min (c.loop-e.nodes + sum (walked_all own_nodes z)) 4294967295) (sym step) ∙ h.0),
      more_temps c.loop-e.temps c.greater-temps.result c.survey_expr-one.result.temps c.loop-e.before i (temps_of (expr_of e)) (greatest_from (i + 1) (walked_all own_temps rest)) (max 4 (greatest_from 0 (walked_all own_temps (exprs_of args))))
          (c.greater-temps.ensures ∙ ap (max c.loop-e.temps) c.saturating_add.ensures) c.survey_expr-one.ensures.temps h.3
          (ap (λ z. min (max c.loop-e.temps (max (i + temps_of (expr_of e)) (greatest_from z (walked_all own_temps rest)))) 4294967295) (omega arith) ∙ ap (λ z. min (max c.loop-e.temps (greatest_from i (walked_all own_temps z))) 4294967295) (sym step) ∙ h.1),
      more_built c.loop-e.built c.both-built.result c.survey_expr-one.result.built (all_of (walked_all (λ e bs. is_built_expr e && all_of bs) rest)) _
          c.both-built.ensures (ap (λ z. c.loop-e.built && (z && all_of (walked_all (λ e bs. is_built_expr e && all_of bs) rest))) c.survey_expr-one.ensures.built ∙ ap (λ z. c.loop-e.built && all_of (walked_all (λ e bs. is_built_expr e && all_of bs) z)) (sym step) ∙ h.2),
      omega (arith, h.3, c.saturating_add-before.ensures),
      omega (arith, c.saturating_add-nodes.ensures),
      omega (arith, c.greater-temps.ensures, c.saturating_add.ensures, h.5),
    )

pub survey_args-returns-clause-nodes : goal.survey_args-returns-clause-nodes
survey_args-returns-clause-nodes t c =
    let none = no_more c.args.args.now c.loop-e.e-index c.loop-e-test.false in
    omega (arith, c.loop-e.invariant.0, c.loop-e.invariant.4, ap (λ z. sum (walked_all own_nodes z)) none)

pub survey_args-returns-clause-temps : goal.survey_args-returns-clause-temps
survey_args-returns-clause-temps t c =
    let none = no_more c.args.args.now c.loop-e.e-index c.loop-e-test.false in
    omega (arith, c.loop-e.invariant.1, c.loop-e.invariant.5, ap (λ z. greatest_from c.loop-e.e-index (walked_all own_temps z)) none, temps_with_is c.temps_at_least_four.ensures (exprs_of c.args.args.now))

pub survey_args-returns-clause-built : goal.survey_args-returns-clause-built
survey_args-returns-clause-built t c =
    let none = no_more c.args.args.now c.loop-e.e-index c.loop-e-test.false in
    sym (and_true c.loop-e.built) ∙ ap (λ z. c.loop-e.built && all_of (walked_all (λ e bs. is_built_expr e && all_of bs) z)) (sym none) ∙ c.loop-e.invariant.2

pub survey_expr-returns-in-Call-clause-nodes : goal.survey_expr-returns-in-Call-clause-nodes
survey_expr-returns-in-Call-clause-nodes t c =
    c.survey_args.ensures.nodes ∙ ap (λ z. min (1 + sum (walked_all own_nodes (exprs_of z))) 4294967295) c.deref-in-Call.ensures.value
    ∙ ap (λ z. min z 4294967295) (sym (call_nodes c.args.e.now c.in-Call.field-0 c.in-Call.args c.in-Call.is))

pub survey_expr-returns-in-Call-clause-temps : goal.survey_expr-returns-in-Call-clause-temps
survey_expr-returns-in-Call-clause-temps t c =
    c.survey_args.ensures.temps ∙ ap (λ z. min (temps_with (walked_all own_temps (exprs_of z))) 4294967295) c.deref-in-Call.ensures.value
    ∙ ap (λ z. min z 4294967295) (sym (call_temps c.args.e.now c.in-Call.field-0 c.in-Call.args c.in-Call.is))

pub survey_expr-returns-in-Call-clause-built : goal.survey_expr-returns-in-Call-clause-built
survey_expr-returns-in-Call-clause-built t c =
    c.survey_args.ensures.built
    ∙ ap (λ z. z && all_of (walked_all (λ e bs. is_built_expr e && all_of bs) (exprs_of c.deref-in-Call.result.now))) c.is_built_expr-own.ensures
    ∙ ap (λ z. is_built_expr (expr_of c.args.e.now) && all_of (walked_all (λ e bs. is_built_expr e && all_of bs) (exprs_of z))) c.deref-in-Call.ensures.value
    ∙ sym (call_built c.args.e.now c.in-Call.field-0 c.in-Call.args c.in-Call.is)
