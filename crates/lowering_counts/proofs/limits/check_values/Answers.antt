use Rattle.std.proofs.Common.{◌≡◌, ◌≤◌, ap, ◌∙◌, arith, length}
use Rattle.std.proofs.lemmas.List.{length-map}
use Rattle.std.specs.Prelude.{map}
use Rattle.typed_tree.specs.Counts.{values_of}
use Rattle.typed_tree.specs.TypedViews.{function_of}
use Rattle.lowering_counts.specs.Limits.{counted}
use Rattle.lowering_counts.proofs.Loops.{all_more, all_seen, found_at, number_at}
use Rattle.lowering_counts.proofs.limits.check_values.Goals as goal

pub loop-number-preserved : goal.loop-number-preserved
loop-number-preserved c =
    let fs = c.args.functions.now in
    let i = c.loop-number.number in
    let f = c.index-functions-number.result in
    let count = number_at (λ f. counted (values_of f)) function_of c.args.values.now fs i f 0 c.requires c.loop-number-test.true c.index-functions-number.is in
    all_more (λ f. values_of f ≤ 250) function_of fs i f c.loop-number-test.true c.index-functions-number.is c.loop-number.invariant (omega (arith, count, c.if-count-gt-MOST_VALUES.false))

pub returns-then-count-gt-MOST_VALUES : goal.returns-then-count-gt-MOST_VALUES
returns-then-count-gt-MOST_VALUES c =
    let fs = c.args.functions.now in
    let i = c.loop-number.number in
    let f = c.index-functions-number.result in
    let count = number_at (λ f. counted (values_of f)) function_of c.args.values.now fs i f 0 c.requires c.loop-number-test.true c.index-functions-number.is in
    record {
      number = i;
      function = function_of f;
      found = found_at function_of fs i f c.loop-number-test.true c.index-functions-number.is;
      full = omega (arith, count, c.if-count-gt-MOST_VALUES.true);
      before = c.loop-number.invariant;
      named = c.in_ok-function.ensures ∙ c.as_slice.ensures;
      counts = count;
    }

pub returns : goal.returns
returns c =
    let fs = map function_of c.args.functions.now in
    all_seen (λ f. values_of f ≤ 250) fs c.loop-number.number (omega (arith, length-map c.args.functions.now function_of, c.loop-number-test.false)) c.loop-number.invariant
