use Rattle.std.proofs.Common.{◌≡◌, ◌+◌, ◌-◌, ◌++◌, suc, ap, sym, ◌∙◌, append_assoc, arith, map}
use Rattle.size_table.specs.declared.memory_map.TheConstants.{SLOT_EXPONENT}
use Rattle.block_layout.specs.Layout.{padded_to, declining}
use Rattle.block_layout.specs.Views.{item_of}
use Rattle.block_layout.proofs.object.declining.Goals as goal

pub loop-above-preserved : goal.loop-above-preserved
loop-above-preserved c =
    let items = map item_of c.args.objects.now in
    let above = c.loop-above.above in
    let done = map item_of c.loop-above.ordered.items in
    let class : 4 + (20 - above) ≡ 24 - above = omega (arith, c.loop-above-test.true) in
    let next : suc (20 - above) ≡ 21 - above = omega (arith, c.loop-above-test.true) in
    let rest : 21 - (above + 1) ≡ 20 - above = omega arith in
    ap (λ n. map item_of c.put_class.new.ordered.items ++ declining SLOT_EXPONENT n items) rest
    ∙ ap (λ l. l ++ declining SLOT_EXPONENT (20 - above) items) c.in_ok-put_class.ensures
    ∙ append_assoc done (padded_to SLOT_EXPONENT (24 - above) items) (declining SLOT_EXPONENT (20 - above) items)
    ∙ ap (λ n. done ++ (padded_to SLOT_EXPONENT n items ++ declining SLOT_EXPONENT (20 - above) items)) (sym class)
    ∙ ap (λ n. done ++ declining SLOT_EXPONENT n items) next
    ∙ c.loop-above.invariant
