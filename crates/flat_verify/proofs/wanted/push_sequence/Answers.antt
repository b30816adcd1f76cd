use Rattle.std.proofs.Common.{ap, ◌∙◌}
use Rattle.std.specs.Prelude.{true}
use Rattle.flat_code.specs.CodeViews.{steps_of}
use Rattle.flat_code.specs.SequenceViews.{sequence_of}
use Rattle.flat_verify.specs.Links.{demand}
use Rattle.flat_verify.specs.Settings.{setting_of}
use Rattle.flat_verify.specs.Views.{fact_of}
use Rattle.std.specs.Prelude.{map}
use Rattle.flat_verify.proofs.Demanded.{sequence_made}
use Rattle.flat_verify.proofs.wanted.push_sequence.Goals as goal

pub returns : goal.returns
returns c =
    sequence_made (setting_of c.args.setting.now) c.args.setting.now.exponent c.args.levels c.args.place c.in_ok-used.used _ _ (sequence_of c.args.sequence) c.deref.result.now (steps_of c.deref-2.result.now) c.args.demands.now.items _ _ _
    c.in_ok-push.ensures.items (ap (λ xs. demand c.in_ok-used.used c.args.place true (map fact_of xs)) c.in_ok-facts.ensures.items)
    c.pointer_of-value.ensures.value c.pointer_of-value.ensures.place c.in_ok-used.ensures (c.deref.ensures.value ∙ c.in_ok-operands.ensures) (ap steps_of c.deref-2.ensures.value ∙ c.in_ok-steps.ensures) c.in_ok-push_all_inside.ensures
