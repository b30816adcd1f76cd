use Rattle.rv_select.proofs.Emitted.{move_made}
use Rattle.rv_select.proofs.checks.put_move.Goals as goal

pub returns : goal.returns
returns c = move_made c.args.g c.args.label _ _ c.args.moved.pointer c.args.moved.becomes c.args.moved.line c.args.distance.now _ _ _ _ _ _ _ _ _ _ c.in_ok-near.ensures c.in_ok-end.ensures
    c.in_ok-put_find_block.ensures c.in_ok-put_unless.ensures c.in_ok-put_find_offset.ensures c.in_ok-put_branch.ensures c.in_ok-put_widen.ensures c.in_ok-put_unless-2.ensures
    c.in_ok-put_mark.ensures c.in_ok-put_label.ensures c.in_ok-put_move_end.ensures
