use Rattle.std.proofs.Common.{◌+◌, sym, ap, ◌∙◌, arith}
use Rattle.std.specs.Prelude.{drop, map, min, if◌then◌else◌}
use Rattle.typed_tree.specs.TypedViews.{local_of}
use Rattle.typed_tree.specs.Counts.{value_locals}
use Rattle.lowering_counts.proofs.Loops.{small}
use Rattle.lowering_counts.proofs.Counted.{more_nodes, next_in, end_in}
use Rattle.lowering_counts.proofs.counts.value_locals.Goals as goal

pub loop-local-preserved : goal.loop-local-preserved
loop-local-preserved c =
    let xs = c.args.locals.now in
    let i = c.loop-local.local-index in
    let x = c.local-item.result in (
      more_nodes c.loop-local.count c.saturating_add-count.result c.value_of.result (if x.is_block then 0 else 1) (value_locals (map local_of (drop (i + 1) xs))) (value_locals (map local_of xs))
          c.saturating_add-count.ensures (c.value_of.ensures ∙ small x.is_block)
          (ap (λ n. min (c.loop-local.count + n) 4294967295) (sym (next_in (λ z. value_locals (map local_of z)) xs i x c.loop-local-test.true c.local-item.is)) ∙ c.loop-local.invariant.0),
      omega (arith, c.saturating_add-count.ensures),
    )

pub returns : goal.returns
returns c =
    omega (arith, c.loop-local.invariant.0, c.loop-local.invariant.1, end_in (λ z. value_locals (map local_of z)) c.args.locals.now c.loop-local.local-index c.loop-local-test.false)
