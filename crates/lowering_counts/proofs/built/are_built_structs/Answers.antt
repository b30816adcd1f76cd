use Rattle.std.proofs.Common.{refl, sym, ap, ◌∙◌}
use Rattle.std.specs.Prelude.{map}
use Rattle.lowering_counts.specs.Built.{are_built_structs, are_built_members}
use Rattle.typed_tree.specs.TypedViews.{struct_of, member_of}
use Rattle.lowering_counts.proofs.Counted.{end_in}
use Rattle.lowering_counts.proofs.Loops.{goes_on, stops}
use Rattle.lowering_counts.proofs.built.are_built_structs.Goals as goal

pub loop-found-preserved : goal.loop-found-preserved
loop-found-preserved c = goes_on (λ z. are_built_structs (map struct_of z)) (are_built_members (map member_of c.found-item.result.members)) c.args.structs.now c.loop-found.found-index c.found-item.result _ c.loop-found-test.true c.found-item.is refl (ap (λ z. are_built_members (map member_of z)) (sym c.as_slice.ensures) ∙ sym c.are_built_members.ensures ∙ c.if-not-are_built_members.false) c.loop-found.invariant

pub returns-then-not-are_built_members : goal.returns-then-not-are_built_members
returns-then-not-are_built_members c = stops (λ z. are_built_structs (map struct_of z)) (are_built_members (map member_of c.found-item.result.members)) c.args.structs.now c.loop-found.found-index c.found-item.result _ c.loop-found-test.true c.found-item.is refl (ap (λ z. are_built_members (map member_of z)) (sym c.as_slice.ensures) ∙ sym c.are_built_members.ensures ∙ c.if-not-are_built_members.true) c.loop-found.invariant

pub returns : goal.returns
returns c = sym (end_in (λ z. are_built_structs (map struct_of z)) c.args.structs.now c.loop-found.found-index c.loop-found-test.false) ∙ c.loop-found.invariant
