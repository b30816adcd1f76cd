use Rattle.std.proofs.Common.{sym, ap, ◌∙◌, arith}
use Rattle.std.proofs.lemmas.List.{length-map}
use Rattle.std.specs.Prelude.{List, map}
use Rattle.mid_code.specs.declared.code.MidBlock.{MidBlock}
use Rattle.typed_tree.specs.TypedViews.{struct_of, local_of, function_of, stmt_of}
use Rattle.mid_code.specs.Code.{Function}
use Rattle.mid_code.specs.Views.{step_of, steps_of, block_of}
use Rattle.lowering_code.specs.Lower.{only, stmt_code}
use Rattle.lowering_code.proofs.Emitted.{from_nothing}
use Rattle.lowering_code.proofs.Readied.{few_locals, function_is}
use Rattle.lowering_code.proofs.program.code_function.Goals as goal

pub overflow_cast-locals : goal.overflow_cast-locals
overflow_cast-locals c = omega (arith, c.len-locals.ensures, length-map c.args.f.now.locals local_of, few_locals (function_of c.args.f.now) c.requires.ready)

pub returns : goal.returns
returns c =
    let f = function_of c.args.f.now in
    let structs = map struct_of c.args.structs.now in
    let inner = steps_of c.code_stmt.new.code.items in
    let body = steps_of c.put.new.code.items in
    let as_function : List MidBlock → Function = λ blocks. record { line = f.line; values = c.args.values; params = f.params; blocks = map block_of blocks; body = body } in
    ap as_function c.new.ensures
    ∙ function_is structs f c.args.values c.len-locals.result inner body (step_of c.block.result) c.requires.ready c.requires.values
    (c.len-locals.ensures ∙ sym (length-map c.args.f.now.locals local_of))
    (from_nothing c.new-inner.result.items inner (stmt_code structs (stmt_of c.args.f.now.body) 1 c.len-locals.result) c.new-inner.ensures.items c.in_ok-code_stmt.ensures)
    c.block.ensures
    (from_nothing c.new-body.result.items body (only (step_of c.block.result)) c.new-body.ensures.items c.in_ok-put.ensures)
