use Rattle.std.proofs.Common.{sym, ap, ◌∙◌, arith}
use Rattle.std.proofs.lemmas.List.{drop-map, drop_all, take_rest, length-map}
use Rattle.std.specs.Prelude.{map, min}
use Rattle.typed_tree.specs.TypedViews.{local_of}
use Rattle.typed_tree.specs.Counts.{value_locals}
use Rattle.lowering_counts.proofs.counts.other_values.Goals as goal

pub returns-then-locals-params : goal.returns-then-locals-params
returns-then-locals-params c =
    sym (ap (λ z. min (value_locals z) 4294967295) (drop_all c.args.params (map local_of c.args.locals.now) (omega (arith, length-map c.args.locals.now local_of, c.if-locals-params.true))))

pub returns : goal.returns
returns c =
    let locals = c.args.locals.now in
    c.value_locals.ensures ∙ ap (λ z. min (value_locals (map local_of z)) 4294967295) (take_rest locals c.args.params) ∙ sym (ap (λ z. min (value_locals z) 4294967295) (drop-map local_of c.args.params locals))
