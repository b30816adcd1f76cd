use Rattle.std.proofs.Common.{◌≡◌, ℕ, List, length, sym, ap, subst, ◌∙◌, arith}
use Rattle.rv_machine.proofs.Decoding.{KeepsWords, decoded_lent, tabled_keeps}
use Rattle.size_table.specs.Blocks.{block_at}
use Rattle.size_table.specs.Made.{tabled}
use Rattle.rv_machine.proofs.memory.Memory.set_in_table.Goals as goal

pub invariant_of-self : goal.invariant_of-self
invariant_of-self c =
    let items = c.self.inside.bytes.items in
    let long : length items ≡ c.self.inside.bytes.len = ap (λ (l : List ℕ). length l) (sym c.deref_mut.ensures.value) ∙ c.deref_mut.ensures.len in
    let is = c.set_in_table.ensures ∙ ap (λ (m : List ℕ). tabled c.args.exponent (block_at c.args.base c.args.exponent) m) c.deref_mut.ensures.value in
    let keeps = subst (λ (m : List ℕ). KeepsWords items m) (sym is) (tabled_keeps items c.args.exponent (block_at c.args.base c.args.exponent) (record { least = c.requires.least; most = c.requires.most; aligned = c.requires.aligned; within = c.requires.within }) (omega (arith, long, c.self.invariant.0))) in
    (c.self.invariant.0, decoded_lent c.self.inside.text.items c.self.inside.bytes.len items c.set_in_table.new.memory (omega (arith, c.set_in_table.auto.memory, c.deref_mut.ensures.len)) long keeps c.self.invariant.1)
