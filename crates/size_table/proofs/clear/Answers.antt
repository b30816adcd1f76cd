use Rattle.size_table.specs.Blocks.{block_at}
use Rattle.size_table.proofs.Tables.{removes}
use Rattle.size_table.proofs.Fills.{marks}
use Rattle.size_table.proofs.clear.Goals as goal

pub returns-clause-bytes : goal.returns-clause-bytes
returns-clause-bytes c = marks c.args.table.now c.fill.new.table c.args.base c.args.e 0 c.requires.block c.requires.size c.fill.ensures

pub returns-clause-removed : goal.returns-clause-removed
returns-clause-removed c = removes 4 (block_at c.args.base c.args.e) c.args.table.now c.fill.new.table (returns-clause-bytes c)
