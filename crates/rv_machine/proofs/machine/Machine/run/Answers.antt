use Rattle.std.proofs.Common.{sym, subst, ◌∙◌, arith}
use Rattle.std.specs.Prelude.{IsSome}
use Rattle.rv_machine.specs.State.{State}
use Rattle.rv_machine.proofs.Runs.{ran_none, ran_on, ran_ended, ran_stops}
use Rattle.rv_machine.proofs.Pauses.{ran_to_fault, fault_cause}
use Rattle.rv_machine.proofs.machine.Machine.run.Goals as goal

pub loop-done-init : goal.loop-done-init
loop-done-init g c = record { within = omega arith; ran = ran_none _ _; read = omega arith; write = omega arith }

pub loop-done-preserved : goal.loop-done-preserved
loop-done-preserved g c =
    let i = c.loop-done.invariant in
    let e = c.advance-went.ensures in
    record {
      within = omega (arith, e.within, i.within);
      ran = ran_on c.loop-done.done c.advance-went.result.0 _ _ _ _ _ _ i.ran (rw c.in-None.is at e.advanced);
      read = omega (arith, i.read, (rw c.in-None.is at e.cause).0);
      write = omega (arith, i.write, (rw c.in-None.is at e.cause).1);
    }

pub returns-then-is_some-clause-stops : goal.returns-then-is_some-clause-stops
returns-then-is_some-clause-stops g c =
    let i = c.loop-done.invariant in
    let ended = subst (λ (s : State). IsSome s.ending) c.self.view_is (sym c.is_some.ensures ∙ c.if-is_some.true) in
    let all = ran_ended c.args.n c.loop-done.done _ _ _ _ ended i.within i.ran in
    rw c.stop.ensures (ran_stops c.args.n _ _ _ _ all)

pub returns-in-Some-clause-stops : goal.returns-in-Some-clause-stops
returns-in-Some-clause-stops g c =
    let e = c.advance-went.ensures in
    let advanced = rw c.in-Some.is at e.advanced in
    rw c.stop_at.ensures (ran_to_fault c.in-Some.fault c.args.n c.loop-done.done c.advance-went.result.0 _ _ _ _ _ _ (omega (arith, (rw c.in-Some.is at e.within).2)) c.loop-done.invariant.ran advanced)

pub returns-in-Some-clause-cause : goal.returns-in-Some-clause-cause
returns-in-Some-clause-cause g c =
    let i = c.loop-done.invariant in
    rw c.stop_at.ensures (fault_cause c.in-Some.fault _ _ _ _ _ _ i.read i.write (rw c.in-Some.is at c.advance-went.ensures.cause))
