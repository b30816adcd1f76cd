use Rattle.std.proofs.Common.{ℕ, refl, sym, ap, ◌∙◌}
use Rattle.rv_machine.specs.State.{Core, State, gives, with_core}
use Rattle.rv_machine.specs.Environment.{gets}
use Rattle.rv_machine.proofs.Outside.{ran_at, ran_byte, ran_end, ran_source_failed}
use Rattle.rv_machine.proofs.machine.Machine.getchar.Goals as goal

pub returns-in-Ok-Some-clause-answered : goal.returns-in-Ok-Some-clause-answered
returns-in-Ok-Some-clause-answered g c = λ written.
    let s : State = record { core = c.self.inside.core; frames = c.self.inside.frames; heap = c.self.inside.heap; ending = c.self.inside.ended } in
    let took = rw c.in-Ok-Some.field-0-is at c.in-Ok-Some.ensures.bytes in
    let ends = rw c.in-Ok-Some.field-0-is at c.in-Ok-Some.ensures.end in
    let given = c.give.ensures ∙ ap (λ (v : ℕ). gives 10 v c.self.inside.core) c.from.ensures in
    ran_at gets s _ (with_core (gives 10 c.in-Ok-Some.byte c.self.inside.core) s) _ _ _ c.self.view_is (ap (λ (x : Core). with_core x s) (sym given)) (ran_byte s c.in-Ok-Some.byte _ _ _ _ written took ends)

pub returns-in-Ok-None-clause-answered : goal.returns-in-Ok-None-clause-answered
returns-in-Ok-None-clause-answered g c = λ written.
    let s : State = record { core = c.self.inside.core; frames = c.self.inside.frames; heap = c.self.inside.heap; ending = c.self.inside.ended } in
    let took = rw c.in-Ok-None.field-0-is at c.in-Ok-None.ensures.bytes in
    let ends = rw c.in-Ok-None.field-0-is at c.in-Ok-None.ensures.end in
    ran_at gets s _ (with_core (gives 10 4294967295 c.self.inside.core) s) _ _ _ c.self.view_is (ap (λ (x : Core). with_core x s) (sym c.give-in-Ok-None.ensures)) (ran_end s _ _ _ _ written took ends)

pub returns-in-Err-clause-answered : goal.returns-in-Err-clause-answered
returns-in-Err-clause-answered g c = λ written.
    (ran_source_failed _ c.in-Err.failed _ _ _ _ written c.in-Err.ensures.bytes c.in-Err.ensures.end, refl)
