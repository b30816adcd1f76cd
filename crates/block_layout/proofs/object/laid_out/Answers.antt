use Rattle.std.proofs.Common.{◌≡◌, ◌+◌, ◌-◌, ◌<◌, ap, sym, ◌∙◌, subst, arith, map}
use Rattle.size_table.specs.declared.memory_map.TheConstants.{SLOT_EXPONENT}
use Rattle.block_layout.specs.Layout.{AreSmall, declining, total_of}
use Rattle.block_layout.specs.Views.{item_of}
use Rattle.block_layout.proofs.Sums.{layout_total}
use Rattle.block_layout.proofs.Places.{small_declining}
use Rattle.block_layout.proofs.object.laid_out.Goals as goal

pub placed-requires-clause-small : goal.placed-requires-clause-small
placed-requires-clause-small c = subst AreSmall (sym (ap (map item_of) c.deref.ensures.value ∙ c.in_ok-ordered.ensures)) (small_declining SLOT_EXPONENT 21 (map item_of c.args.objects.now) c.requires.small)

pub placed-requires-clause-room : goal.placed-requires-clause-room
placed-requires-clause-room c =
    let items = map item_of c.args.objects.now in
    let total : total_of SLOT_EXPONENT (map item_of c.deref.result.now) ≡ total_of SLOT_EXPONENT items =
    ap (total_of SLOT_EXPONENT) (ap (map item_of) c.deref.ensures.value ∙ c.in_ok-ordered.ensures) ∙ layout_total c.exponent_is_least.ensures SLOT_EXPONENT (omega arith) items c.requires.small in
    omega (arith, total, c.requires.room)
