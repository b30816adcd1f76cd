use Rattle.std.proofs.Common.{◌+◌, ◌++◌}
use Rattle.std.specs.Prelude.{drop}
use Rattle.flat_code.specs.CodeViews.{steps_of}
use Rattle.flat_discipline.specs.Items.{items_from}
use Rattle.rv_selected.specs.Selection.{items_labels, items_parts}
use Rattle.rv_select.proofs.Emitted.{Left}
use Rattle.rv_select.proofs.items.+items.Given as goal

abbrev pub invariant-put_items-loop-i : goal.invariant-put_items-loop-i
invariant-put_items-loop-i l =
    Left l.in_function.exponent l.in_function.back l.held l.exits l.next l.skip (drop l.i l.steps) l.parts.items
    (l.initial.parts.items ++ items_parts l.in_function.exponent l.in_function.back l.fn.known l.exits l.fn.label (items_from l.in_function.exponent 0 (steps_of l.steps)))
    (l.fn.label + items_labels (items_from l.in_function.exponent 0 (steps_of l.steps)))
