use Rattle.size_table.specs.Blocks.{block_at}
use Rattle.size_table.proofs.Tables.{adds}
use Rattle.size_table.proofs.Fills.{marks}
use Rattle.size_table.proofs.set.Goals as goal

pub returns-clause-bytes : goal.returns-clause-bytes
returns-clause-bytes c = marks c.args.table.now c.fill.new.table c.args.base c.args.e c.args.e c.requires.block c.requires.size c.fill.ensures

pub returns-clause-added : goal.returns-clause-added
returns-clause-added c = adds 4 (block_at c.args.base c.args.e) c.args.table.now c.fill.new.table (returns-clause-bytes c)
