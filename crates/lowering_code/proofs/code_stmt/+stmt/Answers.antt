use Rattle.std.proofs.Common.{◌+◌, sym, ap, ◌∙◌}
use Rattle.std.specs.Prelude.{drop, map}
use Rattle.typed_tree.specs.TypedViews.{struct_of, stmts_of, stmt_of}
use Rattle.mid_code.specs.Code.{append}
use Rattle.mid_code.specs.Views.{steps_of}
use Rattle.lowering_code.specs.Lower as lower
use Rattle.lowering_code.proofs.Emitted.{append_assoc, append_stop}
use Rattle.lowering_counts.proofs.Counted.{next_in, end_in}
use Rattle.lowering_code.proofs.code_stmt.+stmt.Goals as goal

pub code_stmts-loop-x-preserved : goal.code_stmts-loop-x-preserved
code_stmts-loop-x-preserved t c =
    let xs = c.args.statements.now in
    let i = c.loop-x.x-index in
    let structs = map struct_of c.args.structs.now in
    let rest = lower.stmts_code structs (stmts_of (drop (i + 1) xs)) c.args.back c.args.to in
    ap (λ z. append z rest) c.in_ok-code_stmt.ensures
    ∙ append_assoc (steps_of c.loop-x.code.items) (lower.stmt_code structs (stmt_of c.x-item.result) c.args.back c.args.to) rest
    ∙ ap (λ z. append (steps_of c.loop-x.code.items) z) (sym (next_in (λ z. lower.stmts_code structs (stmts_of z) c.args.back c.args.to) xs i c.x-item.result c.loop-x-test.true c.x-item.is))
    ∙ c.loop-x.invariant

pub code_stmts-returns : goal.code_stmts-returns
code_stmts-returns t c =
    sym (append_stop (steps_of c.loop-x.code.items))
    ∙ ap (λ z. append (steps_of c.loop-x.code.items) z) (sym (end_in (λ z. lower.stmts_code (map struct_of c.args.structs.now) (stmts_of z) c.args.back c.args.to) c.args.statements.now c.loop-x.x-index c.loop-x-test.false))
    ∙ c.loop-x.invariant
