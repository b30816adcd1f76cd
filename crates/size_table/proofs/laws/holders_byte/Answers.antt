use Rattle.size_table.proofs.Tables.{holders_byte_is}
use Rattle.size_table.proofs.laws.holders_byte.Goals as goal

pub returns : goal.returns
returns c = holders_byte_is
