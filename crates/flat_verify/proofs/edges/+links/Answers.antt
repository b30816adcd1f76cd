use Rattle.std.proofs.Common.{◌≡◌, ℕ, ◌+◌, ◌++◌, ap, ◌∙◌, refl, map, drop}
use Rattle.flat_discipline.specs.Items.{Item, Items, places, first_place}
use Rattle.flat_discipline.specs.Facts.{Here, here_after}
use Rattle.flat_discipline.proofs.Walked.{both_same}
use Rattle.flat_verify.specs.ItemViews.{as_item, as_items}
use Rattle.flat_verify.specs.Links.{links, links_all}
use Rattle.flat_verify.specs.Settings.{setting_of}
use Rattle.flat_verify.specs.Hints.{here_of}
use Rattle.flat_verify.specs.Views.{link_of}
use Rattle.flat_verify.proofs.Demanded.{ways_made, entered, block_made, loop_made, inner_made}
use Rattle.flat_verify.proofs.ItemViewed.{view-If, view-Block, view-Loop, view-Inner}
use Rattle.flat_verify.proofs.ItemWalk.{one_more}
use Rattle.flat_verify.proofs.edges.+links.Goals as goal

pub push_links-returns-in_ok-push_links_all-in-If-2 : goal.push_links-returns-in_ok-push_links_all-in-If-2
push_links-returns-in_ok-push_links_all-in-If-2 t c =
    let g = c.args.setting.now.exponent in
    ways_made (setting_of c.args.setting.now) g (here_of c.args.told.now) (here_of c.branch-inside.result) (here_of c.untold-untold.result) c.args.place _ _ _ c.args.after _ _ c.in-If.cond c.args.exits.now
    c.in-If.yes.items c.deref.result.now c.deref-in-If.result.now c.deref-in-If-3.result.now c.in-If.no.items c.deref-in-If-2.result.now c.deref-in-If-4.result.now (as_item c.args.item.now) _ _ _ _ _
    (ap as_item c.in-If.is ∙ view-If c.in-If.cond c.in-If.yes c.in-If.no) c.in_ok-first-in-If.ensures c.deref.ensures.value (c.in_ok-size-in-If.ensures g) c.in_ok-second-in-If.ensures
    c.deref-in-If.ensures.value c.first_place-to_yes.ensures c.in_ok-push_goes-in-If.ensures
    c.deref-in-If-2.ensures.value c.first_place-to_no.ensures c.in_ok-push_goes-in-If-2.ensures
    c.branch-inside.ensures c.deref-in-If-3.ensures.value c.in_ok-push_links_all-in-If.ensures
    c.untold-untold.ensures c.deref-in-If-4.ensures.value c.in_ok-push_links_all-in-If-2.ensures

pub push_links-returns-in_ok-push_body-in-Block : goal.push_links-returns-in_ok-push_body-in-Block
push_links-returns-in_ok-push_body-in-Block t c =
    block_made (setting_of c.args.setting.now) c.args.setting.now.exponent (here_of c.args.told.now) c.args.place c.args.after c.args.exits.now c.deref-in-Block.result.now c.in-Block.body.items c.deref-in-Block-2.result.now (as_item c.args.item.now) _ _
    (ap as_item c.in-Block.is ∙ view-Block c.in-Block.body) c.deref-in-Block-2.ensures.value (c.deref-in-Block.ensures.value ∙ c.in_ok-around-in-Block.ensures) c.in_ok-push_body-in-Block.ensures

pub push_links-returns-in_ok-push_body-in-Loop : goal.push_links-returns-in_ok-push_body-in-Loop
push_links-returns-in_ok-push_body-in-Loop t c =
    loop_made (setting_of c.args.setting.now) c.args.setting.now.exponent (here_of c.args.told.now) c.args.place c.args.after c.args.exits.now c.deref-in-Loop.result.now c.in-Loop.body.items c.deref-in-Loop-2.result.now (as_item c.args.item.now) _ _
    (ap as_item c.in-Loop.is ∙ view-Loop c.in-Loop.body) c.deref-in-Loop-2.ensures.value (c.deref-in-Loop.ensures.value ∙ c.in_ok-around-in-Loop.ensures) c.in_ok-push_body-in-Loop.ensures

pub push_links-returns-in_ok-push_body-in-Inner : goal.push_links-returns-in_ok-push_body-in-Inner
push_links-returns-in_ok-push_body-in-Inner t c =
    inner_made (setting_of c.args.setting.now) c.args.setting.now.exponent (here_of c.args.told.now) c.args.place c.args.after c.args.exits.now c.deref-in-Inner.result.now c.in-Inner.body.items c.deref-in-Inner-2.result.now (as_item c.args.item.now) _ _
    (ap as_item c.in-Inner.is ∙ view-Inner c.in-Inner.body) c.deref-in-Inner-2.ensures.value (c.deref-in-Inner.ensures.value ∙ c.in_ok-around-in-Inner.ensures) c.in_ok-push_body-in-Inner.ensures

pub push_body-returns : goal.push_body-returns
push_body-returns t c =
    entered (setting_of c.args.setting.now) c.args.setting.now.exponent (here_of c.untold-told.result) c.args.place _ c.args.after _ c.args.exits.now c.args.body.now _ _ _
    c.in_ok-first.ensures c.first_place-to.ensures c.in_ok-push_goes.ensures c.untold-told.ensures c.in_ok-push_links_all.ensures

pub push_links_all-loop-i-preserved : goal.push_links_all-loop-i-preserved
push_links_all-loop-i-preserved t c =
    let g = c.args.setting.now.exponent in
    let s = setting_of c.args.setting.now in
    let item = as_item c.index-items-i.result in
    let behind : c.in_ok-behind.behind ≡ c.loop-i.next + places g item = c.in_ok-behind.ensures ∙ ap (λ n. c.loop-i.next + n) (c.in_ok-size.ensures g) in
    one_more (λ (p : Here × ℕ) (i : Item) (rest : Items). links g s p.0 i p.1 (first_place rest (p.1 + places g i) c.args.after) c.args.exits.now) (λ (p : Here × ℕ) (is : Items). links_all g s p.0 is p.1 c.args.after c.args.exits.now)
    (λ (p : Here × ℕ) (i : Item). (here_after i p.0, p.1 + places g i)) (λ p i rest. refl)
    (here_of c.loop-i.told, c.loop-i.next) _ c.args.items.now c.loop-i.i c.index-items-i.result _ _ _ c.loop-i-test.true c.index-items-i.is (both_same _ _ _ _ c.in_ok-here_after.ensures behind)
    (c.in_ok-push_links.ensures ∙ ap (λ n. map link_of c.loop-i.links.items ++ links g s (here_of c.loop-i.told) item c.loop-i.next n c.args.exits.now) (c.first_place-to.ensures ∙ ap (λ n. first_place (as_items (drop (c.loop-i.i + 1) c.args.items.now)) n c.args.after) behind)) c.loop-i.invariant
