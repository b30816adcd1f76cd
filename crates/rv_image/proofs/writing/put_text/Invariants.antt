use Rattle.std.proofs.Common.{◌≡◌, ◌*◌, ◌++◌, length, take}
use Rattle.std.specs.List.{flat_map}
use Rattle.rv_image.specs.Spelling.{number}
use Rattle.rv_image.proofs.writing.put_text.Given as goal

abbrev pub invariant-loop-word : goal.invariant-loop-word
invariant-loop-word l = l.out.items ≡ l.fn.out.items ++ number (4 * length l.text) ++ flat_map number (take l.word-index l.text)
