use Rattle.std.proofs.Common.{ap, ◌∙◌, ◌∷◌, []}
use Rattle.rv_selected.specs.Registers.{load}
use Rattle.rv_select.proofs.Emitted.{span_made}
use Rattle.rv_select.proofs.checks.put_span.Goals as goal

pub returns : goal.returns
returns c =
    span_made c.args.g c.args.label _ _ c.args.v.pointer c.args.v.count c.args.v.last c.args.v.line c.byte_at.result c.byte_at.result c.byte_at-2.result _ _ _ _ _ _ _ _ _ _ c.in_ok-end.ensures c.in_ok-third.ensures
    (ap (λ i. i ∷ c.byte_at.result ∷ []) c.load.ensures ∙ ap (λ i. load 5 c.args.v.pointer ∷ i ∷ []) c.byte_at.ensures) (ap (λ i. i ∷ c.addi.result ∷ []) c.load-2.ensures ∙ ap (λ i. load 6 c.args.v.count ∷ i ∷ []) c.addi.ensures) c.byte_at-2.ensures
    c.in_ok-put_count.ensures c.in_ok-put_unless.ensures c.in_ok-put_branch.ensures c.in_ok-put_all.ensures c.in_ok-put_move.ensures c.in_ok-put.ensures c.in_ok-put_label.ensures
