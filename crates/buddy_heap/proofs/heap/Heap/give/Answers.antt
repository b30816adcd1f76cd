use Rattle.std.proofs.Common.{◌≡◌, ℕ, length, get_or, Some, None, refl, sym, ap, subst, ◌∙◌, arith}
use Rattle.size_table.specs.Blocks.{without}
use Rattle.buddy_heap.specs.Places.{blocks_of, block_from, index_of, AreBlocks, LieInOrder}
use Rattle.size_table.specs.Blocks.{IsBlock, block_at}
use Rattle.buddy_heap.proofs.Lists.{found, not_found, removed_order, removed_blocks}
use Rattle.buddy_heap.proofs.heap.Heap.give.Goals as goal

pub remove-block-requires : goal.remove-block-requires
remove-block-requires c =
    let ps = c.self.inside.blocks.items in
    let is : index_of c.args.at ps ≡ Some c.in-Some.i = ap (index_of c.args.at) (sym c.deref.ensures.value) ∙ sym c.index_of.ensures ∙ c.in-Some.is in
    let long = ap length (sym c.deref.ensures.value) ∙ c.deref.ensures.len in
    let within = (found c.args.at c.in-Some.i ps c.self.invariant.0 is).within in
    omega (arith, long, within)

pub invariant_of-self : goal.invariant_of-self
invariant_of-self c =
    let ps = c.self.inside.blocks.items in
    let is : index_of c.args.at ps ≡ Some c.in-Some.i = ap (index_of c.args.at) (sym c.deref.ensures.value) ∙ sym c.index_of.ensures ∙ c.in-Some.is in
    let within = (found c.args.at c.in-Some.i ps c.self.invariant.0 is).within in (
      subst AreBlocks (sym c.remove-block.ensures.items) (removed_blocks c.in-Some.i ps within c.self.invariant.0),
      subst (LieInOrder 16777216) (sym c.remove-block.ensures.items) (removed_order 16777216 c.in-Some.i ps within c.self.invariant.1),
      (let same = c.remove-block.ensures.capacity in let room = c.self.invariant.2 in omega (arith, same, room)),
    )

pub returns-in-Some : goal.returns-in-Some
returns-in-Some c =
    let ps = c.self.inside.blocks.items in
    let is : index_of c.args.at ps ≡ Some c.in-Some.i = ap (index_of c.args.at) (sym c.deref.ensures.value) ∙ sym c.index_of.ensures ∙ c.in-Some.is in
    let f = found c.args.at c.in-Some.i ps c.self.invariant.0 is in
    let block = c.remove-block.result in
    let value : block ≡ get_or ps c.in-Some.i block = c.remove-block.ensures.value in
    record {
      given = (
        ap (block_from c.args.at) (sym c.self.view_is) ∙ f.exponent block ∙ ap (λ (b : ℕ × ℕ). Some (block_at c.args.at b.1)) (sym value),
        ap blocks_of c.remove-block.ensures.items ∙ f.removed ∙ ap (without c.args.at) c.self.view_is,
        subst (λ (b : ℕ × ℕ). IsBlock 4 (block_at c.args.at b.1)) (sym value) (f.block block),
      );
      named = tt;
    }

pub returns-in-None : goal.returns-in-None
returns-in-None c =
    let ps = c.self.inside.blocks.items in
    let is : index_of c.args.at ps ≡ None = ap (index_of c.args.at) (sym c.deref.ensures.value) ∙ sym c.index_of.ensures ∙ c.in-None.is in
    record { given = (ap (block_from c.args.at) (sym c.self.view_is) ∙ not_found c.args.at ps is, refl); named = refl }
