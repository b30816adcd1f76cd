use Rattle.std.proofs.Common.{◌+◌, sym, ap, ◌∙◌, arith}
use Rattle.std.specs.Prelude.{drop, min, max, ◌&&◌}
use Rattle.typed_tree.specs.Walk.{over_stmts, over_stmt}
use Rattle.typed_tree.specs.TypedViews.{stmts_of, stmt_of}
use Rattle.lowering_counts.specs.Room as room
use Rattle.lowering_counts.proofs.Counted.{next_in, end_in, more_nodes, more_of_temps, more_built, and_true}
use Rattle.lowering_counts.proofs.survey_stmt.+stmt.Goals as goal

pub survey_stmts-loop-x-preserved : goal.survey_stmts-loop-x-preserved
survey_stmts-loop-x-preserved t c =
    let xs = c.args.statements.now in
    let i = c.loop-x.x-index in
    let x = c.x-item.result in
    let h = c.loop-x.invariant in
    let one = c.survey_stmt.ensures in
    let lt = c.loop-x-test.true in (
      more_nodes c.loop-x.total.nodes c.joined-total.result.nodes c.survey_stmt.result.nodes (over_stmt room.nodes (stmt_of x)) (over_stmts room.nodes (stmts_of (drop (i + 1) xs))) (over_stmts room.nodes (stmts_of xs))
          c.joined-total.ensures.nodes one.nodes (ap (λ z. min (c.loop-x.total.nodes + z) 4294967295) (sym (next_in (λ z. over_stmts room.nodes (stmts_of z)) xs i x lt c.x-item.is)) ∙ h.0),
      more_of_temps c.loop-x.total.temps c.joined-total.result.temps c.survey_stmt.result.temps (over_stmt room.temps (stmt_of x)) (over_stmts room.temps (stmts_of (drop (i + 1) xs))) (over_stmts room.temps (stmts_of xs))
          c.joined-total.ensures.temps one.temps (ap (λ z. min (max c.loop-x.total.temps z) 4294967295) (sym (next_in (λ z. over_stmts room.temps (stmts_of z)) xs i x lt c.x-item.is)) ∙ h.1),
      more_built c.loop-x.total.built c.joined-total.result.built c.survey_stmt.result.built (over_stmts room.built (stmts_of (drop (i + 1) xs))) (over_stmts room.built (stmts_of xs))
          c.joined-total.ensures.built (ap (λ z. c.loop-x.total.built && (z && over_stmts room.built (stmts_of (drop (i + 1) xs)))) one.built ∙ ap (λ z. c.loop-x.total.built && z) (sym (next_in (λ z. over_stmts room.built (stmts_of z)) xs i x lt c.x-item.is)) ∙ h.2),
      omega (arith, c.joined-total.ensures.nodes),
      omega (arith, c.joined-total.ensures.temps, one.temps, h.4),
    )

pub survey_stmts-returns-clause-nodes : goal.survey_stmts-returns-clause-nodes
survey_stmts-returns-clause-nodes t c =
    omega (arith, c.loop-x.invariant.0, c.loop-x.invariant.3, end_in (λ z. over_stmts room.nodes (stmts_of z)) c.args.statements.now c.loop-x.x-index c.loop-x-test.false)

pub survey_stmts-returns-clause-temps : goal.survey_stmts-returns-clause-temps
survey_stmts-returns-clause-temps t c =
    omega (arith, c.loop-x.invariant.1, c.loop-x.invariant.4, end_in (λ z. over_stmts room.temps (stmts_of z)) c.args.statements.now c.loop-x.x-index c.loop-x-test.false)

pub survey_stmts-returns-clause-built : goal.survey_stmts-returns-clause-built
survey_stmts-returns-clause-built t c =
    sym (and_true c.loop-x.total.built) ∙ ap (λ z. c.loop-x.total.built && z) (sym (end_in (λ z. over_stmts room.built (stmts_of z)) c.args.statements.now c.loop-x.x-index c.loop-x-test.false)) ∙ c.loop-x.invariant.2
