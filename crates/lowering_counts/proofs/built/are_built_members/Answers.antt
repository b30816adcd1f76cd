use Rattle.std.proofs.Common.{refl, sym, ap, ◌∙◌}
use Rattle.std.specs.Prelude.{map, not}
use Rattle.lowering_counts.specs.Built.{are_built_members, has_pointer}
use Rattle.typed_tree.specs.TypedViews.{member_of}
use Rattle.typed_tree.specs.TypesViewed.{ty_of}
use Rattle.lowering_counts.proofs.Counted.{end_in}
use Rattle.lowering_counts.proofs.Loops.{goes_on, stops}
use Rattle.lowering_counts.proofs.built.are_built_members.Goals as goal

pub loop-member-preserved : goal.loop-member-preserved
loop-member-preserved c = goes_on (λ z. are_built_members (map member_of z)) (not (has_pointer (ty_of c.member-item.result.ty))) c.args.members.now c.loop-member.member-index c.member-item.result _ c.loop-member-test.true c.member-item.is refl (ap not (sym c.has_pointer.ensures ∙ c.if-has_pointer.false)) c.loop-member.invariant

pub returns-then-has_pointer : goal.returns-then-has_pointer
returns-then-has_pointer c = stops (λ z. are_built_members (map member_of z)) (not (has_pointer (ty_of c.member-item.result.ty))) c.args.members.now c.loop-member.member-index c.member-item.result _ c.loop-member-test.true c.member-item.is refl (ap not (sym c.has_pointer.ensures ∙ c.if-has_pointer.true)) c.loop-member.invariant

pub returns : goal.returns
returns c = sym (end_in (λ z. are_built_members (map member_of z)) c.args.members.now c.loop-member.member-index c.loop-member-test.false) ∙ c.loop-member.invariant
