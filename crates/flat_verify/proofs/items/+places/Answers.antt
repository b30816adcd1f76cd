use Rattle.std.proofs.Common.{ap, ◌∙◌}
use Rattle.flat_discipline.specs.Items.{places}
use Rattle.flat_verify.specs.ItemViews.{as_item}
use Rattle.flat_verify.proofs.ItemViewed.{view-If, view-Block, view-Loop, view-Inner}
use Rattle.flat_verify.proofs.ItemWalk.{choice_places, body_places}
use Rattle.flat_verify.proofs.items.+places.Goals as goal

pub places-returns-in_ok-size-in-If : goal.places-returns-in_ok-size-in-If
places-returns-in_ok-size-in-If t c = λ g.
    choice_places g _ _ _ _ c.in-If.cond c.in-If.yes.items c.deref.result.now c.in-If.no.items c.deref-in-If.result.now (as_item c.args.item.now) (ap as_item c.in-If.is ∙ view-If c.in-If.cond c.in-If.yes c.in-If.no)
    c.deref.ensures.value (c.in_ok-first-in-If.ensures g) c.deref-in-If.ensures.value (c.in_ok-second-in-If.ensures g) c.in_ok-before-in-If.ensures c.in_ok-size-in-If.ensures

pub places-returns-in_ok-size-in-Block : goal.places-returns-in_ok-size-in-Block
places-returns-in_ok-size-in-Block t c = λ g.
    body_places g _ _ c.in-Block.body.items c.deref-in-Block.result.now (as_item c.args.item.now) (ap (places g) (ap as_item c.in-Block.is ∙ view-Block c.in-Block.body))
    c.deref-in-Block.ensures.value (c.in_ok-inside-in-Block.ensures g) c.in_ok-size-in-Block.ensures

pub places-returns-in_ok-size-in-Loop : goal.places-returns-in_ok-size-in-Loop
places-returns-in_ok-size-in-Loop t c = λ g.
    body_places g _ _ c.in-Loop.body.items c.deref-in-Loop.result.now (as_item c.args.item.now) (ap (places g) (ap as_item c.in-Loop.is ∙ view-Loop c.in-Loop.body))
    c.deref-in-Loop.ensures.value (c.in_ok-inside-in-Loop.ensures g) c.in_ok-size-in-Loop.ensures

pub places-returns-in_ok-size-in-Inner : goal.places-returns-in_ok-size-in-Inner
places-returns-in_ok-size-in-Inner t c = λ g.
    body_places g _ _ c.in-Inner.body.items c.deref-in-Inner.result.now (as_item c.args.item.now) (ap (places g) (ap as_item c.in-Inner.is ∙ view-Inner c.in-Inner.body))
    c.deref-in-Inner.ensures.value (c.in_ok-inside-in-Inner.ensures g) c.in_ok-size-in-Inner.ensures
