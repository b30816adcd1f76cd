use Rattle.std.proofs.Common.{◌∙◌, ap, sym}
use Rattle.baggy_tool.specs.Words.{is_out_of_memory}
use Rattle.baggy_tool.proofs.CommandLine.{matches_asked, error_refuses}
use Rattle.baggy_tool.proofs.words.command_in.Goals as goal

pub returns-in-Ok : goal.returns-in-Ok
returns-in-Ok c = c.asked_by.ensures ∙ matches_asked _ _ _ _ c.in_ok-command.ensures c.in-Ok.ensures.kinds c.in-Ok.ensures.matches

pub returns : goal.returns
returns c = error_refuses _ _ _ c.in_ok-command.ensures (sym c.if-is_out_of_memory.false ∙ c.is_out_of_memory.ensures ∙ ap is_out_of_memory c.kind.ensures) c.in-Err.ensures.kinds
