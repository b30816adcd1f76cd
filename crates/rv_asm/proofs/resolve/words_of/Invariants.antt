use Rattle.std.proofs.Common.{◌≡◌, ◌++◌, drop, get_or}
use Rattle.std.specs.Prelude.{All}
use Rattle.rv_machine.specs.Formed.{IsWord}
use Rattle.rv_asm.specs.Text.{text_of}
use Rattle.rv_asm.specs.Resolving.{labels_by}
use Rattle.rv_asm.proofs.resolve.words_of.Given as goal

abbrev pub invariant-loop-k : goal.invariant-loop-k
invariant-loop-k l =
    (l.text.items ++ text_of (labels_by l.parts l.places) (get_or l.places l.k 0) (drop l.k l.parts) ≡ text_of (labels_by l.parts l.places) 4096 l.parts)
    × All IsWord l.text.items
