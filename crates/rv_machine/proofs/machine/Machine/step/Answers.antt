use Rattle.std.proofs.Common.{sym, subst, ◌∙◌}
use Rattle.std.specs.Prelude.{IsSome}
use Rattle.rv_machine.specs.State.{State}
use Rattle.rv_machine.proofs.Pauses.{advanced_one, ran_over}
use Rattle.rv_machine.proofs.machine.Machine.step.Goals as goal

pub returns-then-is_some-clause-stepped : goal.returns-then-is_some-clause-stepped
returns-then-is_some-clause-stepped g c =
    let ended = subst (λ (s : State). IsSome s.ending) c.self.view_is (sym c.is_some.ensures ∙ c.if-is_some.true) in
    ran_over _ _ ended

pub returns-clause-stepped : goal.returns-clause-stepped
returns-clause-stepped g c =
    let e = c.advance-answer.ensures in
    advanced_one c.advance-answer.result.1 c.advance-answer.result.0 _ _ _ _ e.within e.advanced
