use Rattle.std.proofs.Common.{ℕ, [], ◌∷◌, ◌++◌, ap, ◌∙◌, arith}
use Rattle.rv_asm.proofs.Indexing.{targets_more, targets_are}
use Rattle.rv_asm.proofs.labels.targets_of.Goals as goal

pub loop-k-preserved : goal.loop-k-preserved
loop-k-preserved c = targets_more c.args.parts.now _ c.loop-k.k c.loop-k.targets.items c.push.new.self.items c.in_ok-labels.ensures c.requires c.loop-k-test.true c.loop-k.invariant.0 c.loop-k.invariant.1 (c.in_ok-push.ensures.items ∙ ap (λ (n : ℕ). c.loop-k.targets.items ++ n ∷ []) c.target_of.ensures)

pub returns : goal.returns
returns c = targets_are c.args.parts.now c.loop-k.k c.loop-k.targets.items c.requires (omega arith) c.loop-k.invariant
