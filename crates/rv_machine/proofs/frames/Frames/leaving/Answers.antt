use Rattle.std.proofs.Common.{◌≡◌, ℕ, ◌+◌, ◌-◌, ◌<◌, length, sym, ap, subst, ◌∙◌, refl, arith}
use Rattle.std.specs.Prelude.{slice_get, map, Some}
use Rattle.std.proofs.lemmas.Option.{slice_get_read}
use Rattle.rv_machine.specs.Environment.{ended_event}
use Rattle.rv_machine.specs.Frames.{leave, last_entered}
use Rattle.rv_machine.specs.State.{Frames}
use Rattle.rv_machine.proofs.CallChain.{calls_stacked}
use Rattle.rv_machine.proofs.EventLists.{small_declines, told_leaving}
use Rattle.rv_machine.proofs.frames.Frames.leaving.Goals as goal

pub overflow_add-self-inside : goal.overflow_add-self-inside
overflow_add-self-inside c =
    let small = (calls_stacked c.self.inside.layouts c.self.invariant.0 c.self.inside.entered.items 16777216 c.self.inside.stack (omega arith) c.self.invariant.2).ordered in
    let fits = c.layout-exponents.ensures.fits in
    let total = c.total_size.ensures in
    omega (arith, small, fits, total)

pub blocks-requires : goal.blocks-requires
blocks-requires c =
    let total = c.total_size.ensures in
    (small_declines 20 c.layout-exponents.result.now (omega arith) c.layout-exponents.ensures.declines, omega (arith, total))

pub returns : goal.returns
returns c = λ memory.
    let calls = c.self.inside.entered.items in
    let call = c.index-call.result.now in
    let frames : Frames = record { layouts = c.self.inside.layouts; entered = calls; stack = c.self.inside.stack } in
    let whole : c.len-count.result ≡ length calls = omega arith in
    let within : c.len-count.result - 1 < length calls = omega arith in
    let read : slice_get calls (c.len-count.result - 1) ≡ Some call = slice_get_read calls (length calls) (c.len-count.result - 1) call refl within c.index-call.ensures in
    let last = subst (λ n. slice_get calls (n - 1) ≡ Some call) whole read in
    c.blocks-2.ensures
    ∙ told_leaving (last_entered frames) (slice_get frames.layouts c.args.k) c.args.k frames call c.layout-exponents.result.now (c.self.inside.stack + c.total_size.result) last c.layout-exponents.ensures.value
    (ap (λ (x : ℕ). x) c.if-call-k.false) (ap (λ (n : ℕ). c.self.inside.stack + n) c.total_size.ensures) memory
    ∙ ap (λ (f : Frames). map ended_event (leave (last_entered f) (slice_get f.layouts c.args.k) c.args.k f memory).blocks) c.self.view_is
