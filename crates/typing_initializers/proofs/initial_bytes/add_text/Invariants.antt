use Rattle.std.proofs.Common.{◌≡◌, drop}
use Rattle.typing_initializers.specs.InitializerSteps.{with_text}
use Rattle.typing_initializers.proofs.initial_bytes.add_text.Given as goal

abbrev pub invariant-loop-byte : goal.invariant-loop-byte
invariant-loop-byte l = with_text l.bytes.items (drop l.byte-index l.text) ≡ with_text l.fn.bytes.items l.text
