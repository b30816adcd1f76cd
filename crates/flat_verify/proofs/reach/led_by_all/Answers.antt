use Rattle.std.proofs.Common.{subst, sym, ap, ◌∙◌, inl, inr, drop, ◌+◌, length, get_or}
use Rattle.flat_verify.specs.Reach.{AreBelow, rules_of, rules_from, led_by_all}
use Rattle.flat_verify.proofs.Marks.{below_at, next_stretch, went_to, length_led_all}
use Rattle.flat_verify.proofs.reach.led_by_all.Goals.{then-lead_stretch, else-lead_stretch}
use Rattle.flat_verify.proofs.reach.led_by_all.Goals as goal

pub lead_stretch-requires : goal.lead_stretch-requires
lead_stretch-requires c =
    below_at _ c.args.stretches.now c.loop-stretch.stretch-index record { from = 0; to = 0; count = 0 } (subst (λ n. AreBelow n c.args.stretches.now) (sym c.loop-stretch.invariant.count) c.requires) c.loop-stretch-test.true

pub loop-stretch-preserved : goal.loop-stretch-preserved
loop-stretch-preserved c =
    let ss = c.args.stretches.now in
    let i = c.loop-stretch.stretch-index in
    let e = c.lead_stretch.ensures in
    let s = get_or ss i record { from = 0; to = 0; count = 0 } in
    went_to (rules_of ss) (rules_of (drop i ss)) (rules_of (drop (i + 1) ss)) c.args.marks.now c.loop-stretch.marks c.lead_stretch.new.marks c.loop-stretch.changed c.lead_stretch.result c.if-lead_stretch.changed c.loop-stretch.invariant
    (next_stretch ss i record { from = 0; to = 0; count = 0 } c.loop-stretch.marks c.loop-stretch-test.true ∙ ap (led_by_all (rules_of (drop (i + 1) ss))) (sym e.led))
    (ap length e.led ∙ length_led_all (rules_from s.from s.to s.count) c.loop-stretch.marks) e.same e.fewer
    (elim c.if-lead_stretch.branch [ then-lead_stretch w ↦ inl (w.if-lead_stretch.true, w.changed-is) | else-lead_stretch w ↦ inr (w.if-lead_stretch.false, w.changed-is) ])
