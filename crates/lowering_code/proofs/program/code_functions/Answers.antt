use Rattle.std.proofs.Common.{refl, sym, ap, ◌∙◌, ◌++◌, append-nil}
use Rattle.std.specs.Prelude.{map}
use Rattle.typed_tree.specs.Counts.{values_of}
use Rattle.typed_tree.specs.TypedViews.{struct_of, function_of}
use Rattle.mid_code.specs.Views.{function_of as mid_function}
use Rattle.lowering_code.specs.Lower.{function_code}
use Rattle.lowering_code.specs.Ready.{IsReady}
use Rattle.lowering_counts.specs.Limits.{counted}
use Rattle.lowering_counts.proofs.Counted.{end_in}
use Rattle.lowering_counts.proofs.Loops.{all_at, number_at, one_coded}
use Rattle.lowering_code.proofs.program.code_functions.Goals as goal

pub code_function-requires-clause-ready : goal.code_function-requires-clause-ready
code_function-requires-clause-ready c = all_at IsReady function_of c.args.functions.now c.loop-number.number c.index-functions-number.result c.requires.ready c.loop-number-test.true c.index-functions-number.is

pub code_function-requires-clause-values : goal.code_function-requires-clause-values
code_function-requires-clause-values c =
    number_at (λ f. counted (values_of f)) function_of c.args.values.now c.args.functions.now c.loop-number.number c.index-functions-number.result 0 c.requires.values c.loop-number-test.true c.index-functions-number.is

pub loop-number-preserved : goal.loop-number-preserved
loop-number-preserved c =
    let structs = map struct_of c.args.structs.now in
    one_coded mid_function (λ z. map (function_code structs) (map function_of z)) c.loop-number.code c.push.new.self _ (function_code structs (function_of c.index-functions-number.result)) c.args.functions.now c.loop-number.number c.index-functions-number.result _
    c.in_ok-push.ensures.ok c.in_ok-code_function.ensures c.loop-number-test.true c.index-functions-number.is refl c.loop-number.invariant

pub returns : goal.returns
returns c =
    let structs = map struct_of c.args.structs.now in
    sym (append-nil (map mid_function c.loop-number.code))
    ∙ ap (λ z. map mid_function c.loop-number.code ++ z) (sym (end_in (λ z. map (function_code structs) (map function_of z)) c.args.functions.now c.loop-number.number c.loop-number-test.false))
    ∙ c.loop-number.invariant
