use Rattle.std.proofs.Common.{ℕ, ◌+◌, ◌-◌, ◌<◌, ◌≤◌, List, vec_len}
use Rattle.bb_outside.specs.Files.{Stays}
use Rattle.baggy_tool.proofs.Files.{IsFront}
use Rattle.baggy_tool.proofs.reader.read_file.Given as goal

abbrev pub invariant-loop-shelf : goal.invariant-loop-shelf
invariant-loop-shelf g l = record {
  front : IsFront (g.F.Shelf.file l.fn.shelf l.name) l.text.items;
  most : vec_len l.text ≤ l.most + 1;
  buffer : 0 < vec_len l.buffer;
  same : (other : List ℕ) → Stays (g.F.Shelf.file l.fn.shelf other) (g.F.Shelf.file l.shelf other);
  faults : g.F.Shelf.faults l.fn.shelf ≤ g.F.Shelf.faults l.shelf;
  misses : g.F.Shelf.misses l.fn.shelf ≤ g.F.Shelf.misses l.shelf;
}

abbrev pub decreases-loop-shelf : goal.decreases-loop-shelf
decreases-loop-shelf g l = l.most + 1 - vec_len l.text
