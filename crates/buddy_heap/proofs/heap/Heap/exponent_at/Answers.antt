use Rattle.std.proofs.Common.{◌≡◌, ℕ, length, get_or, Some, None, sym, ap, ◌∙◌, arith}
use Rattle.size_table.specs.Blocks.{block_at}
use Rattle.buddy_heap.specs.Places.{block_from, index_of}
use Rattle.buddy_heap.proofs.Lists.{found, not_found}
use Rattle.buddy_heap.proofs.heap.Heap.exponent_at.Goals as goal

pub index-requires : goal.index-requires
index-requires c =
    let ps = c.self.inside.blocks.items in
    let is : index_of c.args.at ps ≡ Some c.in-Some.i = ap (index_of c.args.at) (sym c.deref.ensures.value) ∙ sym c.index_of.ensures ∙ c.in-Some.is in
    let long = ap length (sym c.deref.ensures.value) ∙ c.deref.ensures.len in
    let within = (found c.args.at c.in-Some.i ps c.self.invariant.0 is).within in
    omega (arith, long, within)

pub returns-in-Some : goal.returns-in-Some
returns-in-Some c =
    let ps = c.self.inside.blocks.items in
    let is : index_of c.args.at ps ≡ Some c.in-Some.i = ap (index_of c.args.at) (sym c.deref.ensures.value) ∙ sym c.index_of.ensures ∙ c.in-Some.is in
    let f = found c.args.at c.in-Some.i ps c.self.invariant.0 is in
    ap (block_from c.args.at) (sym c.self.view_is) ∙ f.exponent c.index.result.now ∙ ap (λ (b : ℕ × ℕ). Some (block_at c.args.at b.1)) (sym c.index.ensures)

pub returns-in-None : goal.returns-in-None
returns-in-None c =
    let ps = c.self.inside.blocks.items in
    let is : index_of c.args.at ps ≡ None = ap (index_of c.args.at) (sym c.deref.ensures.value) ∙ sym c.index_of.ensures ∙ c.in-None.is in
    ap (block_from c.args.at) (sym c.self.view_is) ∙ not_found c.args.at ps is
