use Rattle.rv_image.proofs.Loops.{ends_nonzero_last}
use Rattle.rv_image.proofs.reading.ends_nonzero.Goals as goal

pub returns-in-len1-up : goal.returns-in-len1-up
returns-in-len1-up c = ends_nonzero_last c.args.bytes.now c.in-len1-up.len_at_least
