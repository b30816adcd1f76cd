use Rattle.std.proofs.Common.{◌≡◌, ◌+◌, ◌*◌, ◌++◌}
use Rattle.std.specs.Prelude.{map, drop}
use Rattle.flat_discipline.specs.Items.{places, all_places}
use Rattle.flat_verify.specs.ItemViews.{as_item, as_items}
use Rattle.flat_verify.specs.Links.{demands_all}
use Rattle.flat_verify.specs.Settings.{setting_of}
use Rattle.flat_verify.specs.Views.{demand_of}
use Rattle.flat_verify.proofs.wanted.+demands.Given as goal

abbrev pub decreases-push_demands : goal.decreases-push_demands
decreases-push_demands l = 2 * places 0 (as_item l.item.now)

abbrev pub decreases-push_demands_all : goal.decreases-push_demands_all
decreases-push_demands_all l = 2 * all_places 0 (as_items l.items.now) + 1

abbrev pub invariant-push_demands_all-loop-item : goal.invariant-push_demands_all-loop-item
invariant-push_demands_all-loop-item l =
    map demand_of l.demands.items ++ demands_all l.setting.exponent (setting_of l.setting) l.levels (as_items (drop l.item-index l.items)) l.next
    ≡ map demand_of l.initial.demands.items ++ demands_all l.setting.exponent (setting_of l.setting) l.levels (as_items l.items) l.place
