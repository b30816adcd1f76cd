use Rattle.std.proofs.Common.{◌≡◌, drop}
use Rattle.std.specs.List.{AllByRecursion}
use Rattle.size_table.specs.Made.{all_made, blocks_from}
use Rattle.size_table.specs.Blocks.{IsBlock}
use Rattle.rv_machine.specs.State.{with_memory}
use Rattle.rv_machine.proofs.blocks.make_all.Given as goal

abbrev pub invariant-loop-exponent : goal.invariant-loop-exponent
invariant-loop-exponent l =
    (with_memory (all_made (blocks_from l.at (drop l.exponent-index l.exponents)) l.core.memory) l.core ≡ with_memory (all_made (blocks_from l.base l.exponents) l.fn.core.memory) l.fn.core)
    × AllByRecursion (IsBlock 4) (blocks_from l.at (drop l.exponent-index l.exponents))
