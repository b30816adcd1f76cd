use Rattle.std.proofs.Common.{◌≡◌, ◌+◌, ◌≤◌}
use Rattle.std.specs.Prelude.{drop, min, max, sum, ◌&&◌}
use Rattle.typed_tree.specs.Counts.{own_nodes, own_temps, greatest_from}
use Rattle.typed_tree.specs.Walk.{walked_all, all_of}
use Rattle.typed_tree.specs.TypedViews.{exprs_of}
use Rattle.lowering_counts.specs.Built.{is_built_expr}
use Rattle.lowering_counts.proofs.survey.+survey.Given as goal

abbrev pub invariant-survey_args-loop-e : goal.invariant-survey_args-loop-e
invariant-survey_args-loop-e l =
    (min (l.nodes + sum (walked_all own_nodes (exprs_of (drop l.e-index l.args)))) 4294967295 ≡ min (1 + sum (walked_all own_nodes (exprs_of l.args))) 4294967295)
    × (min (max l.temps (greatest_from l.e-index (walked_all own_temps (exprs_of (drop l.e-index l.args))))) 4294967295 ≡ min (max 4 (greatest_from 0 (walked_all own_temps (exprs_of l.args)))) 4294967295)
    × ((l.built && all_of (walked_all (λ e bs. is_built_expr e && all_of bs) (exprs_of (drop l.e-index l.args)))) ≡ (l.own && all_of (walked_all (λ e bs. is_built_expr e && all_of bs) (exprs_of l.args))))
    × (l.before ≡ min l.e-index 4294967295)
    × (l.nodes ≤ 4294967295)
    × (l.temps ≤ 4294967295)
