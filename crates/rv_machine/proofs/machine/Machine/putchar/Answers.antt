use Rattle.std.proofs.Common.{ℕ, ◌%◌, refl, sym, ap, ◌∙◌}
use Rattle.rv_machine.specs.State.{Core, State, gives, with_core}
use Rattle.rv_machine.specs.Environment.{puts}
use Rattle.rv_machine.proofs.Outside.{ran_at, ran_written, ran_sink_failed}
use Rattle.rv_machine.proofs.machine.Machine.putchar.Goals as goal

pub returns-in-Ok-clause-answered : goal.returns-in-Ok-clause-answered
returns-in-Ok-clause-answered g c = λ left is_over.
    let s : State = record { core = c.self.inside.core; frames = c.self.inside.frames; heap = c.self.inside.heap; ending = c.self.inside.ended } in
    let byte = c.register.result % 256 in
    let is = ap (λ (v : ℕ). v % 256) (sym c.register.ensures) in
    let given = c.give.ensures ∙ ap (λ (v : ℕ). gives 10 v c.self.inside.core) c.from.ensures in
    ran_at puts s _ (with_core (gives 10 byte c.self.inside.core) s) _ _ _ c.self.view_is (ap (λ (x : Core). with_core x s) (sym given)) (ran_written s byte c.in-Ok.field-0 left is_over _ _ is c.in-Ok.ensures.count c.in-Ok.ensures.bytes)

pub returns-in-Err-clause-answered : goal.returns-in-Err-clause-answered
returns-in-Err-clause-answered g c = λ left is_over.
    (ran_sink_failed _ c.in-Err.failed _ left is_over _ _ c.in-Err.ensures.bytes, refl)
