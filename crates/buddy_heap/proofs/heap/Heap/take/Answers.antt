use Rattle.std.proofs.Common.{◌≡◌, ℕ, List, length, Some, sym, ap, subst, ◌∙◌, arith}
use Rattle.std.specs.List.{insert}
use Rattle.buddy_heap.specs.Places.{place_of, blocks_of, with_block, count_to, AreBlocks, HaveExponents, LieInOrder}
use Rattle.size_table.specs.Blocks.{block_at}
use Rattle.buddy_heap.proofs.Lists.{count_within, have_exponents, inserted, is_taken}
use Rattle.buddy_heap.proofs.heap.Heap.take.Goals as goal

pub put-requires-clause-within : goal.put-requires-clause-within
put-requires-clause-within c =
    let ps = c.self.inside.blocks.items in
    let at : c.count_to-at.result ≡ count_to c.in-Some.base ps = c.count_to-at.ensures ∙ ap (count_to c.in-Some.base) c.deref-in-Some.ensures.value in
    let long = ap length (sym c.deref-in-Some.ensures.value) ∙ c.deref-in-Some.ensures.len in
    let within = count_within c.in-Some.base ps in
    omega (arith, at, long, within)

pub put-requires-clause-room : goal.put-requires-clause-room
put-requires-clause-room c =
    let ps = c.self.inside.blocks.items in
    let is : place_of (blocks_of ps) c.args.e ≡ Some c.in-Some.base = ap (λ (xs : List (ℕ × ℕ)). place_of (blocks_of xs) c.args.e) (sym c.deref.ensures.value) ∙ sym c.place_in.ensures ∙ c.in-Some.is in
    let long = ap length (sym c.deref-in-Some.ensures.value) ∙ c.deref-in-Some.ensures.len in
    let few = (is_taken ps c.args.e c.in-Some.base c.requires.least c.requires.most c.self.invariant.0 c.self.invariant.1 is).few in
    (omega (arith, long, few), c.self.invariant.2)

pub invariant_of-self : goal.invariant_of-self
invariant_of-self c =
    let ps = c.self.inside.blocks.items in
    let is : place_of (blocks_of ps) c.args.e ≡ Some c.in-Some.base = ap (λ (xs : List (ℕ × ℕ)). place_of (blocks_of xs) c.args.e) (sym c.deref.ensures.value) ∙ sym c.place_in.ensures ∙ c.in-Some.is in
    let at : c.count_to-at.result ≡ count_to c.in-Some.base ps = c.count_to-at.ensures ∙ ap (count_to c.in-Some.base) c.deref-in-Some.ensures.value in
    let new = c.put.ensures.items ∙ ap (λ (n : ℕ). insert ps n (c.in-Some.base, c.args.e)) at in
    let t = is_taken ps c.args.e c.in-Some.base c.requires.least c.requires.most c.self.invariant.0 c.self.invariant.1 is in
    (subst AreBlocks (sym new) t.blocks, subst (LieInOrder 16777216) (sym new) t.order, c.put.ensures.capacity)

pub returns-in-Some-clause-some : goal.returns-in-Some-clause-some
returns-in-Some-clause-some c =
    let ps = c.self.inside.blocks.items in
    let at : c.count_to-at.result ≡ count_to c.in-Some.base ps = c.count_to-at.ensures ∙ ap (count_to c.in-Some.base) c.deref-in-Some.ensures.value in
    ap blocks_of (c.put.ensures.items ∙ ap (λ (n : ℕ). insert ps n (c.in-Some.base, c.args.e)) at)
    ∙ inserted c.in-Some.base c.args.e ps
    ∙ ap (with_block (block_at c.in-Some.base c.args.e)) c.self.view_is

pub returns-in-Some-clause-block : goal.returns-in-Some-clause-block
returns-in-Some-clause-block c =
    let ps = c.self.inside.blocks.items in
    let is : place_of (blocks_of ps) c.args.e ≡ Some c.in-Some.base = ap (λ (xs : List (ℕ × ℕ)). place_of (blocks_of xs) c.args.e) (sym c.deref.ensures.value) ∙ sym c.place_in.ensures ∙ c.in-Some.is in
    (is_taken ps c.args.e c.in-Some.base c.requires.least c.requires.most c.self.invariant.0 c.self.invariant.1 is).block

pub place_in-requires-clause-exponents : goal.place_in-requires-clause-exponents
place_in-requires-clause-exponents c =
    subst HaveExponents (sym c.deref.ensures.value) (have_exponents c.self.inside.blocks.items c.self.invariant.0)
