use Rattle.std.proofs.Common.{refl, sym, ◌∙◌}
use Rattle.std.specs.Prelude.{map, not, ◌&&◌}
use Rattle.lowering_counts.specs.Built.{are_built_locals, has_pointer}
use Rattle.typed_tree.specs.TypedViews.{local_of}
use Rattle.typed_tree.specs.TypesViewed.{ty_of}
use Rattle.lowering_counts.proofs.Counted.{end_in}
use Rattle.lowering_counts.proofs.Loops.{goes_on, stops}
use Rattle.lowering_counts.proofs.built.are_built_locals.Goals as goal

pub loop-local-preserved : goal.loop-local-preserved
loop-local-preserved c = goes_on (λ z. are_built_locals (map local_of z)) (not c.local-item.result.is_block && not (has_pointer (ty_of c.local-item.result.ty))) c.args.locals.now c.loop-local.local-index c.local-item.result _ c.loop-local-test.true c.local-item.is refl (sym c.is_built_local.ensures ∙ c.if-not-is_built_local.false) c.loop-local.invariant

pub returns-then-not-is_built_local : goal.returns-then-not-is_built_local
returns-then-not-is_built_local c = stops (λ z. are_built_locals (map local_of z)) (not c.local-item.result.is_block && not (has_pointer (ty_of c.local-item.result.ty))) c.args.locals.now c.loop-local.local-index c.local-item.result _ c.loop-local-test.true c.local-item.is refl (sym c.is_built_local.ensures ∙ c.if-not-is_built_local.true) c.loop-local.invariant

pub returns : goal.returns
returns c = sym (end_in (λ z. are_built_locals (map local_of z)) c.args.locals.now c.loop-local.local-index c.loop-local-test.false) ∙ c.loop-local.invariant
