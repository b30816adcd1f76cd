use Rattle.std.proofs.Common.{◌+◌, sym, ap, ◌∙◌, arith}
use Rattle.std.specs.Prelude.{drop, min, max, ◌&&◌, map}
use Rattle.typed_tree.specs.Walk.{over_declarations, over_declaration}
use Rattle.typed_tree.specs.TypedViews.{declaration_of}
use Rattle.lowering_counts.specs.Room as room
use Rattle.lowering_counts.proofs.Counted.{next_in, end_in, more_nodes, more_of_temps, more_built, and_true}
use Rattle.lowering_counts.proofs.survey_stmt.survey_declarations.Goals as goal

pub loop-x-preserved : goal.loop-x-preserved
loop-x-preserved c =
    let xs = c.args.declarations.now in
    let i = c.loop-x.x-index in
    let x = c.x-item.result in
    let h = c.loop-x.invariant in
    let one = c.survey_declaration.ensures in
    let lt = c.loop-x-test.true in (
      more_nodes c.loop-x.total.nodes c.joined-total.result.nodes c.survey_declaration.result.nodes (over_declaration room.nodes (declaration_of x)) (over_declarations room.nodes (map declaration_of (drop (i + 1) xs))) (over_declarations room.nodes (map declaration_of xs))
          c.joined-total.ensures.nodes one.nodes (ap (λ z. min (c.loop-x.total.nodes + z) 4294967295) (sym (next_in (λ z. over_declarations room.nodes (map declaration_of z)) xs i x lt c.x-item.is)) ∙ h.0),
      more_of_temps c.loop-x.total.temps c.joined-total.result.temps c.survey_declaration.result.temps (over_declaration room.temps (declaration_of x)) (over_declarations room.temps (map declaration_of (drop (i + 1) xs))) (over_declarations room.temps (map declaration_of xs))
          c.joined-total.ensures.temps one.temps (ap (λ z. min (max c.loop-x.total.temps z) 4294967295) (sym (next_in (λ z. over_declarations room.temps (map declaration_of z)) xs i x lt c.x-item.is)) ∙ h.1),
      more_built c.loop-x.total.built c.joined-total.result.built c.survey_declaration.result.built (over_declarations room.built (map declaration_of (drop (i + 1) xs))) (over_declarations room.built (map declaration_of xs))
          c.joined-total.ensures.built (ap (λ z. c.loop-x.total.built && (z && over_declarations room.built (map declaration_of (drop (i + 1) xs)))) one.built ∙ ap (λ z. c.loop-x.total.built && z) (sym (next_in (λ z. over_declarations room.built (map declaration_of z)) xs i x lt c.x-item.is)) ∙ h.2),
      omega (arith, c.joined-total.ensures.nodes),
      omega (arith, c.joined-total.ensures.temps, one.temps, h.4),
    )

pub returns-clause-nodes : goal.returns-clause-nodes
returns-clause-nodes c =
    omega (arith, c.loop-x.invariant.0, c.loop-x.invariant.3, end_in (λ z. over_declarations room.nodes (map declaration_of z)) c.args.declarations.now c.loop-x.x-index c.loop-x-test.false)

pub returns-clause-temps : goal.returns-clause-temps
returns-clause-temps c =
    omega (arith, c.loop-x.invariant.1, c.loop-x.invariant.4, end_in (λ z. over_declarations room.temps (map declaration_of z)) c.args.declarations.now c.loop-x.x-index c.loop-x-test.false)

pub returns-clause-built : goal.returns-clause-built
returns-clause-built c =
    sym (and_true c.loop-x.total.built) ∙ ap (λ z. c.loop-x.total.built && z) (sym (end_in (λ z. over_declarations room.built (map declaration_of z)) c.args.declarations.now c.loop-x.x-index c.loop-x-test.false)) ∙ c.loop-x.invariant.2
