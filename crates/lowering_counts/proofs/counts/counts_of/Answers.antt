use Rattle.std.proofs.Common.{◌≡◌, ◌+◌, ◌++◌, refl, sym, ap, ◌∙◌, append-nil, arith}
use Rattle.std.specs.Prelude.{drop, map, ◌&&◌}
use Rattle.typed_tree.specs.Counts.{nodes_of_function, nodes_of_functions, values_of}
use Rattle.typed_tree.specs.TypedViews.{function_of, program_of}
use Rattle.lowering_counts.specs.Built.{is_built_function, are_built_functions}
use Rattle.lowering_counts.specs.Counting.{counted_values}
use Rattle.lowering_counts.specs.Limits.{counted}
use Rattle.lowering_counts.proofs.Counted.{more_nodes, more_built, next_in, end_in, and_true}
use Rattle.lowering_counts.proofs.Limited.{counts_are}
use Rattle.lowering_counts.proofs.Loops.{one_numbered}
use Rattle.lowering_counts.proofs.counts.counts_of.Goals as goal

pub loop-f-preserved : goal.loop-f-preserved
loop-f-preserved c =
    let fs = c.as_slice-functions.result.now in
    let i = c.loop-f.f-index in
    let f = c.f-item.result in
    let lt = c.loop-f-test.true in
    let is = c.f-item.is in
    let one = c.counts_of_function-one in
    let h = c.loop-f.invariant in
    let rest = map function_of (drop (i + 1) fs) in
    record {
      nodes = more_nodes c.loop-f.nodes c.saturating_add-nodes.result one.result.nodes (nodes_of_function (function_of f)) (nodes_of_functions rest) (nodes_of_functions (map function_of fs))
          c.saturating_add-nodes.ensures one.ensures.nodes (ap (λ n. counted (c.loop-f.nodes + n)) (sym (next_in (λ z. nodes_of_functions (map function_of z)) fs i f lt is)) ∙ h.nodes);
      few = omega (arith, c.saturating_add-nodes.ensures);
      values = one_numbered (λ z. counted_values (map function_of z)) c.loop-f.values c.push.new.self one.result.values (counted (values_of (function_of f))) fs i f _
          c.in_ok-push.ensures.ok one.ensures.values lt is refl h.values;
      built = more_built c.loop-f.built c.both-built.result one.result.built (are_built_functions rest) (are_built_functions (map function_of fs))
          c.both-built.ensures (ap (λ z. c.loop-f.built && (z && are_built_functions rest)) one.ensures.built ∙ ap (λ z. c.loop-f.built && z) (sym (next_in (λ z. are_built_functions (map function_of z)) fs i f lt is)) ∙ h.built);
    }

pub returns : goal.returns
returns c =
    let fs = c.as_slice-functions.result.now in
    let i = c.loop-f.f-index in
    let le = c.loop-f-test.false in
    let h = c.loop-f.invariant in
    counts_are (program_of c.args.program.now) (map function_of fs) (record { nodes = c.loop-f.nodes; values = c.loop-f.values; built = c.both.result }) c.loop-f.built (ap (map function_of) c.as_slice-functions.ensures)
    (omega (arith, h.nodes, h.few, end_in (λ z. nodes_of_functions (map function_of z)) fs i le))
    (sym (append-nil c.loop-f.values) ∙ ap (λ z. c.loop-f.values ++ z) (sym (end_in (λ z. counted_values (map function_of z)) fs i le)) ∙ h.values)
    (sym (and_true c.loop-f.built) ∙ ap (λ z. c.loop-f.built && z) (sym (end_in (λ z. are_built_functions (map function_of z)) fs i le)) ∙ h.built)
    (c.both.ensures ∙ ap (λ z. z && c.loop-f.built) c.is_built_beside_functions-beside.ensures)
