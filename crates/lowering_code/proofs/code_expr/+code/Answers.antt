use Rattle.std.proofs.Common.{◌+◌, ◌++◌, ◌∷◌, [], ap, sym, ◌∙◌, append_assoc}
use Rattle.std.specs.Prelude.{drop, map}
use Rattle.typed_tree.specs.TypedViews.{struct_of, expr_of, exprs_of}
use Rattle.mid_code.specs.Code.{append}
use Rattle.mid_code.specs.Views.{steps_of}
use Rattle.lowering_code.specs.Lower as lower
use Rattle.lowering_code.proofs.Emitted.{append_assoc as more_assoc, append_stop, call_code}
use Rattle.lowering_counts.proofs.Counted.{one_more, no_more}
use Rattle.lowering_code.proofs.code_expr.+code.Goals as goal

pub code_args-loop-e-preserved : goal.code_args-loop-e-preserved
code_args-loop-e-preserved t c =
    let args = c.args.args.now in
    let i = c.loop-e.e-index in
    let at = c.loop-e.at in
    let e = c.e-item.result in
    let structs = map struct_of c.args.structs.now in
    let rest = exprs_of (drop (i + 1) args) in
    let step = one_more args i e c.loop-e-test.true c.e-item.is in (
      ap (λ z. append (steps_of c.code_expr.new.code.items) (lower.all_code structs rest z)) c.in_ok-at.ensures.next
          ∙ ap (λ z. append z (lower.all_code structs rest (at + 1))) c.in_ok-code_expr.ensures
          ∙ more_assoc (steps_of c.loop-e.code.items) (lower.code structs (expr_of e) at) (lower.all_code structs rest (at + 1))
          ∙ ap (λ z. append (steps_of c.loop-e.code.items) (lower.all_code structs z at)) (sym step)
          ∙ c.loop-e.invariant.0,
      ap (λ z. c.push.new.self.items ++ lower.places rest z) c.in_ok-at.ensures.next
          ∙ ap (λ z. z ++ lower.places rest (at + 1)) c.in_ok-push.ensures.items
          ∙ append_assoc c.loop-e.places.items (at ∷ []) (lower.places rest (at + 1))
          ∙ ap (λ z. c.loop-e.places.items ++ lower.places z at) (sym step)
          ∙ c.loop-e.invariant.1,
    )

pub code_args-returns-clause-code : goal.code_args-returns-clause-code
code_args-returns-clause-code t c =
    let none = no_more c.args.args.now c.loop-e.e-index c.loop-e-test.false in
    sym (append_stop (steps_of c.loop-e.code.items)) ∙ ap (λ z. append (steps_of c.loop-e.code.items) (lower.all_code (map struct_of c.args.structs.now) z c.loop-e.at)) (sym none) ∙ c.loop-e.invariant.0

pub code_expr-returns-in_ok-put-in-Call : goal.code_expr-returns-in_ok-put-in-Call
code_expr-returns-in_ok-put-in-Call t c =
    call_code (map struct_of c.args.structs.now) c.args.e.now c.in-Call.called c.in-Call.args c.deref-in-Call.result.now c.args.to _ _ _ _ _ c.in-Call.is c.deref-in-Call.ensures.value c.in_ok-code_args-in-Call.ensures.code
    (c.in_ok-code_args-in-Call.ensures.places ∙ ap (λ z. z ++ lower.places (exprs_of c.deref-in-Call.result.now) c.args.to) c.new-places.ensures.items)
    c.call_step.ensures c.in_ok-put-in-Call.ensures
