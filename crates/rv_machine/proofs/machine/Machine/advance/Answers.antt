use Rattle.std.proofs.Common.{ap, sym, subst, ◌∙◌, ◌+◌, Some}
use Rattle.rv_machine.specs.State.{State}
use Rattle.rv_machine.specs.Runs.{Shown, Ran, Advanced}
use Rattle.rv_machine.specs.Machine.{steps}
use Rattle.rv_machine.proofs.Pauses.{paused_traps, paused_calls, paused_fails}
use Rattle.rv_machine.proofs.machine.Machine.advance.Goals as goal

pub returns-in-Trapped-clause-advanced : goal.returns-in-Trapped-clause-advanced
returns-in-Trapped-clause-advanced g c =
    let s : State = record { core = c.self.inside.core; frames = c.self.inside.frames; heap = c.self.inside.heap; ending = c.self.inside.ended } in
    let running = ap (λ (x : State). x.ending) c.self.view_is ∙ c.requires.running in
    let o : Shown = record { left = g.I.Source.left c.args.input.now; is_over = g.I.Source.is_over c.args.input.now; written = g.O.Sink.written c.args.output.now } in
    let pause = rw c.in-Trapped.is at c.replace_with-pause.ensures.1 in
    subst (λ (x : State). Ran (steps (c.replace_with-pause.result.went + 1)) x o c.trap.new.self o) c.self.view_is
    (subst (λ (x : State). Ran (steps (c.replace_with-pause.result.went + 1)) s o x o) (sym c.trap.ensures)
    (paused_traps c.replace_with-pause.result.went s c.replace_with-pause.new.dest c.in-Trapped.kind o running c.replace_with-pause.ensures.0 pause.1))

pub returns-in-None-clause-advanced : goal.returns-in-None-clause-advanced
returns-in-None-clause-advanced g c =
    let s : State = record { core = c.self.inside.core; frames = c.self.inside.frames; heap = c.self.inside.heap; ending = c.self.inside.ended } in
    let running = ap (λ (x : State). x.ending) c.self.view_is ∙ c.requires.running in
    let o : Shown = record { left = g.I.Source.left c.args.input.now; is_over = g.I.Source.is_over c.args.input.now; written = g.O.Sink.written c.args.output.now } in
    let o' : Shown = record { left = g.I.Source.left c.call.new.input; is_over = g.I.Source.is_over c.call.new.input; written = g.O.Sink.written c.call.new.output } in
    let pause = rw c.in-Asked.is at c.replace_with-pause.ensures.1 in
    subst (λ (x : State). Ran (steps (c.replace_with-pause.result.went + 1)) x o c.call.new.self o') c.self.view_is
    (paused_calls c.replace_with-pause.result.went s c.replace_with-pause.new.dest o c.call.new.self o' running c.replace_with-pause.ensures.0 pause.1 c.in-None.ensures.stepped)

pub returns-in-Some-clause-advanced : goal.returns-in-Some-clause-advanced
returns-in-Some-clause-advanced g c =
    let s : State = record { core = c.self.inside.core; frames = c.self.inside.frames; heap = c.self.inside.heap; ending = c.self.inside.ended } in
    let running = ap (λ (x : State). x.ending) c.self.view_is ∙ c.requires.running in
    let o : Shown = record { left = g.I.Source.left c.args.input.now; is_over = g.I.Source.is_over c.args.input.now; written = g.O.Sink.written c.args.output.now } in
    let o' : Shown = record { left = g.I.Source.left c.call.new.input; is_over = g.I.Source.is_over c.call.new.input; written = g.O.Sink.written c.call.new.output } in
    subst (λ (x : State). Advanced (Some c.in-Some.fault) c.replace_with-pause.result.went x o c.call.new.self o') c.self.view_is
    (paused_fails c.in-Some.fault c.replace_with-pause.result.went s c.replace_with-pause.new.dest o c.call.new.self o' running c.replace_with-pause.ensures.0 c.in-Some.ensures.stepped)
