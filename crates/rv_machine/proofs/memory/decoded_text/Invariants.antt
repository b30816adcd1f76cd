use Rattle.std.proofs.Common.{◌≡◌, length}
use Rattle.rv_machine.specs.Decoded.{AreDecoded}
use Rattle.rv_machine.proofs.memory.decoded_text.Given as goal

abbrev pub invariant-loop-k : goal.invariant-loop-k
invariant-loop-k l = record {
  decoded : AreDecoded l.text.items l.bytes;
  long : length l.text.items ≡ l.k;
}
