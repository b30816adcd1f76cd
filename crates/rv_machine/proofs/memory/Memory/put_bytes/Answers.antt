use Rattle.std.proofs.Common.{◌≡◌, ℕ, List, length, sym, ap, subst, ◌∙◌, arith}
use Rattle.rv_machine.proofs.Decoding.{KeepsWords, decoded_lent, written_keeps}
use Rattle.size_table.specs.Memory.{written_at}
use Rattle.rv_machine.proofs.memory.Memory.put_bytes.Goals as goal

pub invariant_of-self : goal.invariant_of-self
invariant_of-self c =
    let items = c.self.inside.bytes.items in
    let long : length items ≡ c.self.inside.bytes.len = ap (λ (l : List ℕ). length l) (sym c.deref_mut.ensures.value) ∙ c.deref_mut.ensures.len in
    let is = c.write_bytes.ensures ∙ ap (λ (m : List ℕ). written_at m c.args.at c.args.bytes.now) c.deref_mut.ensures.value in
    let keeps = subst (λ (m : List ℕ). KeepsWords items m) (sym is) (written_keeps items c.args.at c.args.bytes.now c.requires.above) in
    (c.self.invariant.0, decoded_lent c.self.inside.text.items c.self.inside.bytes.len items c.write_bytes.new.memory (omega (arith, c.write_bytes.auto.memory, c.deref_mut.ensures.len)) long keeps c.self.invariant.1)
