use Rattle.std.proofs.Common.{◌+◌, sym, ap, ◌∙◌}
use Rattle.std.specs.Prelude.{drop, map}
use Rattle.typed_tree.specs.TypedViews.{struct_of, declaration_of}
use Rattle.mid_code.specs.Code.{append}
use Rattle.mid_code.specs.Views.{steps_of}
use Rattle.lowering_code.specs.Lower as lower
use Rattle.lowering_code.proofs.Emitted.{append_assoc, append_stop}
use Rattle.lowering_counts.proofs.Counted.{next_in, end_in}
use Rattle.lowering_code.proofs.code_stmt.code_declarations.Goals as goal

pub loop-x-preserved : goal.loop-x-preserved
loop-x-preserved c =
    let xs = c.args.declarations.now in
    let i = c.loop-x.x-index in
    let structs = map struct_of c.args.structs.now in
    let rest = lower.declarations_code structs (map declaration_of (drop (i + 1) xs)) c.args.to in
    ap (λ z. append z rest) c.in_ok-code_declaration.ensures
    ∙ append_assoc (steps_of c.loop-x.code.items) (lower.declaration_code structs (declaration_of c.x-item.result) c.args.to) rest
    ∙ ap (λ z. append (steps_of c.loop-x.code.items) z) (sym (next_in (λ z. lower.declarations_code structs (map declaration_of z) c.args.to) xs i c.x-item.result c.loop-x-test.true c.x-item.is))
    ∙ c.loop-x.invariant

pub returns : goal.returns
returns c =
    sym (append_stop (steps_of c.loop-x.code.items))
    ∙ ap (λ z. append (steps_of c.loop-x.code.items) z) (sym (end_in (λ z. lower.declarations_code (map struct_of c.args.structs.now) (map declaration_of z) c.args.to) c.args.declarations.now c.loop-x.x-index c.loop-x-test.false))
    ∙ c.loop-x.invariant
