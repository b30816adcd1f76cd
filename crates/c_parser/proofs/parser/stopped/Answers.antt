use Rattle.std.proofs.Common.{sym, ◌∙◌}
use Rattle.c_parser.proofs.Stopping.{stop_some, stop_none, stop_last}
use Rattle.c_parser.proofs.parser.stopped.Goals as goal

pub returns-in-Some : goal.returns-in-Some
returns-in-Some c = stop_some _ _ _ (sym c.next_at.ensures ∙ c.in-Some.is)

pub returns-in-None : goal.returns-in-None
returns-in-None c = stop_none c.args.tokens.now _ (sym c.next_at.ensures ∙ c.in_default.is) c.in-None.ensures.value

pub returns-in-Some-last : goal.returns-in-Some-last
returns-in-Some-last c = stop_last c.args.tokens.now _ c.in-Some-last.last.now (sym c.next_at.ensures ∙ c.in_default.is) c.in-Some-last.ensures.value
