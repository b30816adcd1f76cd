use Rattle.std.proofs.Common.{◌≡◌, ◌++◌}
use Rattle.std.specs.Prelude.{replicate}
use Rattle.typed_tree.specs.declared.typed.InitialByte.TheVariants.{Byte}
use Rattle.typing_initializers.proofs.initial_bytes.pad.Given as goal

abbrev pub invariant-loop-more : goal.invariant-loop-more
invariant-loop-more l = l.bytes.items ≡ l.fn.bytes.items ++ replicate l._more (Byte 0)
