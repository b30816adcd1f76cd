use Rattle.rv_asm.proofs.Growing.{stays_next, settling_next, end_grows, places_start, left_falls}
use Rattle.rv_asm.proofs.places.improve.Goals as goal

pub better-init : goal.better-init
better-init c = places_start c.args.parts.now c.args.places.now c.args.next.now c.requires.count.0 c.requires.count.1 c.requires.start.0 c.requires.start.1

pub returns-then-next-end-clause-stay : goal.returns-then-next-end-clause-stay
returns-then-next-end-clause-stay c = stays_next c.args.parts.now c.better.places c.place_parts.new.next c.better.invariant.0 c.place_parts.ensures.next c.if-next-end.true

pub better-smaller : goal.better-smaller
better-smaller c =
    let rises = end_grows c.args.parts.now c.better.places c.place_parts.new.next c.better.invariant.0 c.place_parts.ensures.next in
    rw c.copy_from_slice.ensures.after (left_falls _ _ _ rises c.if-next-end.false c.place_parts.ensures.next.last)

pub better-preserved : goal.better-preserved
better-preserved c =
    let next = c.place_parts.ensures.next in
    rw c.copy_from_slice.ensures.after (settling_next c.args.parts.now c.better.places c.place_parts.new.next c.requires.parts c.better.invariant.0 next, c.place_parts.ensures.places, next.first)
