use Rattle.std.proofs.Common.{ℕ, ◌+◌, ◌*◌, length, get_or, set, ap, ◌∙◌, arith}
use Rattle.rv_asm.specs.Text.{code_of}
use Rattle.rv_asm.specs.Resolving.{part_at}
use Rattle.rv_asm.proofs.Growing.{next_more, next_whole, next_places}
use Rattle.rv_asm.proofs.places.place_parts.Goals as goal

pub loop-k-preserved : goal.loop-k-preserved
loop-k-preserved c =
    let parts = c.args.parts.now in
    let places = c.args.places.now in
    let k = c.loop-k.k in
    let size = c.length_of.ensures ∙ ap (λ (t : ℕ). length (code_of (part_at parts k) (get_or places k 0) (get_or places t 0))) (c.requires.targets.each k c.loop-k-test.true) in
    next_more parts places c.loop-k.next _ k c.loop-k.invariant c.loop-k-test.true (omega (arith, c.loop-k.auto.next, c.requires.count)) (ap (λ (n : ℕ). set c.loop-k.next (k + 1) (get_or c.loop-k.next k 0 + 4 * n)) size)

pub returns-clause-places : goal.returns-clause-places
returns-clause-places c =
    next_places c.args.parts.now c.args.places.now c.loop-k.next (omega (arith, c.loop-k.auto.next, c.requires.count)) c.requires.size (next_whole c.args.parts.now c.args.places.now c.loop-k.next c.loop-k.k (omega arith) c.loop-k.invariant)
