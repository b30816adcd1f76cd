use Rattle.std.proofs.Common.{◌≡◌, ◌+◌, refl, sym, subst, arith}
use Rattle.rv_machine.specs.State.{Core}
use Rattle.rv_machine.specs.Instruction.{Traps, Asks, core_step}
use Rattle.rv_machine.specs.Machine.{steps}
use Rattle.rv_machine.specs.Runs.{Ran, running}
use Rattle.rv_machine.proofs.Calls.{step_goes}
use Rattle.rv_machine.proofs.Runs.{ran_none, ran_more, ran_on, ran_all}
use Rattle.rv_machine.proofs.core_step.Core.go.Goals as goal

pub loop-went-init : goal.loop-went-init
loop-went-init c = record { within = omega arith; ran = λ frames heap o. ran_none _ _ }

pub loop-went-preserved : goal.loop-went-preserved
loop-went-preserved c =
    let core = c.go_decoded-core.result.0 in
    let more = c.go_decoded-core.result.1 in
    record {
      within = omega (arith, c.if-went-n.false);
      ran = λ frames heap o.
          let before = ran_on c.loop-went.went more _ _ _ _ _ _ (c.loop-went.invariant.ran frames heap o) (c.go_decoded-core.ensures.ran frames heap o) in
          ran_more (c.loop-went.went + more) _ _ _ _ _ _ before (step_goes (running core frames heap) c.step.new.self o refl c.in-Went.ensures.does);
    }

pub returns-in-Trapped : goal.returns-in-Trapped
returns-in-Trapped c =
    let more = c.go_decoded-core.result.1 in
    let same = c.in-Trapped.ensures.does.1 in
    record {
      ran = λ frames heap o.
          let before = ran_on c.loop-went.went more _ _ _ _ _ _ (c.loop-went.invariant.ran frames heap o) (c.go_decoded-core.ensures.ran frames heap o) in
          subst (λ (x : Core). Ran (steps (c.loop-went.went + more)) (running c.args.self frames heap) o (running x frames heap) o) (sym same) before;
      pause = (omega (arith, c.if-went-n.false), subst (λ (x : Core). core_step x ≡ Traps c.in-Trapped.kind) (sym same) c.in-Trapped.ensures.does.0);
    }

pub returns-in-Asked : goal.returns-in-Asked
returns-in-Asked c =
    let more = c.go_decoded-core.result.1 in
    let same = c.in-Asked.ensures.does.1 in
    record {
      ran = λ frames heap o.
          let before = ran_on c.loop-went.went more _ _ _ _ _ _ (c.loop-went.invariant.ran frames heap o) (c.go_decoded-core.ensures.ran frames heap o) in
          subst (λ (x : Core). Ran (steps (c.loop-went.went + more)) (running c.args.self frames heap) o (running x frames heap) o) (sym same) before;
      pause = (omega (arith, c.if-went-n.false), subst (λ (x : Core). core_step x ≡ Asks) (sym same) c.in-Asked.ensures.does.0, c.in-Asked.ensures.in_text refl);
    }

pub returns-then-went-n-clause-ran : goal.returns-then-went-n-clause-ran
returns-then-went-n-clause-ran c = λ frames heap o.
    let more = c.go_decoded-core.result.1 in
    let before = ran_on c.loop-went.went more _ _ _ _ _ _ (c.loop-went.invariant.ran frames heap o) (c.go_decoded-core.ensures.ran frames heap o) in
    ran_all c.args.n (c.loop-went.went + more) _ _ _ _ (omega (arith, c.loop-went.invariant.within, c.go_decoded-core.ensures.within, c.if-went-n.true)) before
