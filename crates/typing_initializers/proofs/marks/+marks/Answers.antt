use Rattle.std.proofs.Common.{sym, ◌∙◌}
use Rattle.typing_initializers.proofs.CallMarks.{call_marked}
use Rattle.typing_initializers.proofs.marks.+marks.Goals as goal

pub mark_expr-returns-in-Call : goal.mark_expr-returns-in-Call
mark_expr-returns-in-Call t c =
    (rw c.deref-in-Call.ensures.value at c.mark_exprs.ensures) ∙ sym (call_marked c.args.e.now c.in-Call.field-0 c.in-Call.arguments c.args.marks.now.items c.in-Call.is)
