use Rattle.syntax_tree.specs.GrammarLimits.{within_limits}
use Rattle.bb_driver.proofs.laws.files_keep_kinds.Goals as goal

pub returns : goal.returns
returns c = λ g text p input m bytes means.
    let reads = means.1 in
    let range = c.text_is_in_range.ensures within_limits text reads.0 means.0 reads.1 bytes reads.2 in
    c.typed_keeps_kinds.ensures g p input m (c.accepted_keeps_rules.ensures means.0 p range means.2)
