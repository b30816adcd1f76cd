use Rattle.flat_code.specs.CodeViews.{code_of}
use Rattle.flat_verify.specs.Views.{blocks_of}
use Rattle.flat_verify.proofs.verified.Verified.is_safe.Goals as goal

pub returns : goal.returns
returns c = λ frames input m globals placed.
    c.disciplined_is_safe.ensures c.args.self.now.exponent (code_of c.args.self.now.code.now) (blocks_of c.args.self.now.layout.now) frames input m c.args.self.now.least c.args.self.now.most globals placed c.args.self.now.disciplined
