use Rattle.std.proofs.Common.{◌≡◌, ◌≤◌, ◌+◌, drop}
use Rattle.c_lexer.specs.Bytes.{line_feeds}
use Rattle.c_lexer.proofs.bytes.line_feeds.Given as goal

abbrev pub invariant-loop-b : goal.invariant-loop-b
invariant-loop-b l = (l.count + line_feeds (drop l.b-index l.text) ≡ line_feeds l.text) × (l.count ≤ l.b-index)
