use Rattle.std.proofs.Common.{◌≡◌, ◌+◌, ◌*◌, ◌++◌}
use Rattle.std.specs.Prelude.{map, drop}
use Rattle.flat_discipline.specs.Items.{places, all_places}
use Rattle.flat_verify.specs.ItemViews.{as_item, as_items}
use Rattle.flat_verify.specs.Links.{links_all}
use Rattle.flat_verify.specs.Settings.{setting_of}
use Rattle.flat_verify.specs.Hints.{here_of}
use Rattle.flat_verify.specs.Views.{link_of}
use Rattle.flat_verify.proofs.edges.+links.Given as goal

abbrev pub decreases-push_links : goal.decreases-push_links
decreases-push_links l = 3 * places 0 (as_item l.item.now)

abbrev pub decreases-push_links_all : goal.decreases-push_links_all
decreases-push_links_all l = 3 * all_places 0 (as_items l.items.now) + 1

abbrev pub decreases-push_body : goal.decreases-push_body
decreases-push_body l = 3 * all_places 0 (as_items l.body.now) + 2

abbrev pub invariant-push_links_all-loop-i : goal.invariant-push_links_all-loop-i
invariant-push_links_all-loop-i l =
    map link_of l.links.items ++ links_all l.setting.exponent (setting_of l.setting) (here_of l.told) (as_items (drop l.i l.items)) l.next l.after l.exits
    ≡ map link_of l.initial.links.items ++ links_all l.setting.exponent (setting_of l.setting) (here_of l.fn.told) (as_items l.items) l.place l.after l.exits
