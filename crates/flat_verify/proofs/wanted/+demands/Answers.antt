use Rattle.std.proofs.Common.{ℕ, ◌+◌, ap, ◌∙◌, refl}
use Rattle.std.specs.Prelude.{nat_lt, map}
use Rattle.flat_discipline.specs.Items.{Item, Items, places}
use Rattle.flat_verify.specs.ItemViews.{as_item}
use Rattle.flat_verify.specs.Links.{demand, demands, demands_all}
use Rattle.flat_verify.specs.Settings.{setting_of}
use Rattle.flat_verify.specs.Views.{fact_of}
use Rattle.flat_verify.proofs.Demanded.{choice_made}
use Rattle.flat_verify.proofs.ItemViewed.{view-If}
use Rattle.flat_verify.proofs.ItemWalk.{one_more}
use Rattle.flat_verify.proofs.wanted.+demands.Goals as goal

pub push_demands_all-loop-item-preserved : goal.push_demands_all-loop-item-preserved
push_demands_all-loop-item-preserved t c =
    let g = c.args.setting.now.exponent in
    let s = setting_of c.args.setting.now in
    one_more (λ (p : ℕ) (i : Item) (rest : Items). demands g s c.args.levels i p) (λ (p : ℕ) (is : Items). demands_all g s c.args.levels is p) (λ (p : ℕ) (i : Item). p + places g i) (λ p i rest. refl)
    c.loop-item.next _ c.args.items.now c.loop-item.item-index c.item-item.result _ _ _ c.loop-item-test.true c.item-item.is
    (c.in_ok-next.ensures ∙ ap (λ n. c.loop-item.next + n) (c.in_ok-size.ensures g)) c.in_ok-push_demands.ensures c.loop-item.invariant

pub push_demands-returns-in_ok-push_demands_all-in-If-2 : goal.push_demands-returns-in_ok-push_demands_all-in-If-2
push_demands-returns-in_ok-push_demands_all-in-If-2 t c =
    let s = setting_of c.args.setting.now in
    choice_made s c.args.setting.now.exponent c.args.levels c.args.place _ _ _ c.in-If.cond c.in-If.yes.items c.deref.result.now c.deref-in-If.result.now c.in-If.no.items c.deref-in-If-2.result.now (as_item c.args.item.now) c.args.demands.now.items _ _ _ _
    (ap as_item c.in-If.is ∙ view-If c.in-If.cond c.in-If.yes c.in-If.no) c.in_ok-push-in-If.ensures.items (ap (λ xs. demand c.args.place c.args.place (nat_lt c.in-If.cond s.values) (map fact_of xs)) c.in_ok-facts-in-If.ensures.items) c.in_ok-first-in-If.ensures
    c.deref.ensures.value c.in_ok-push_demands_all-in-If.ensures c.deref-in-If.ensures.value (c.in_ok-size-in-If.ensures c.args.setting.now.exponent) c.in_ok-second-in-If.ensures c.deref-in-If-2.ensures.value c.in_ok-push_demands_all-in-If-2.ensures
