use Rattle.std.proofs.Common.{◌≡◌, ◌++◌, length, take}
use Rattle.std.specs.List.{flat_map}
use Rattle.rv_image.specs.Spelling.{number, counted}
use Rattle.rv_image.proofs.writing.put_frames.Given as goal

abbrev pub invariant-loop-frame : goal.invariant-loop-frame
invariant-loop-frame l = l.out.items ≡ l.fn.out.items ++ number (length l.frames) ++ flat_map counted (take l.frame-index l.frames)
