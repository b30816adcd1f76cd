-- Instructions that are put together, and a machine that has ended.
use Rattle.std.proofs.Common.{◌≡◌, ℕ, zero, suc, ◌+◌, ◌-◌, ◌≤◌, Option, Some, None, refl, ap, ◌∙◌, add-one, add-zero, add-suc, arith}
use Rattle.std.specs.Prelude.{IsSome}
use Rattle.rv_machine.specs.declared.stop.Halt.{Halt}
use Rattle.rv_machine.specs.Instruction.{Act, core_step}
use Rattle.rv_machine.specs.Environment.{World}
use Rattle.rv_machine.specs.Machine.{step, steps, acted, unless_ended}

pub steps_none : (w : World) → steps 0 w ≡ w
unfolding steps
steps_none w = refl

pub steps_more : (n : ℕ) (w : World) → steps (n + 1) w ≡ step (steps n w)
unfolding steps
steps_more n w = ap (λ k. steps k w) (add-one n)

pub steps_add : (d k : ℕ) (w : World) → steps (k + d) w ≡ steps d (steps k w)
unfolding steps
steps_add zero k w = ap (λ n. steps n w) (add-zero k)
steps_add (suc d) k w = ap (λ n. steps n w) (add-suc k d) ∙ ap step (steps_add d k w)

ended_stays : (halt : Option Halt) (w v : World) → IsSome halt → unless_ended halt w v ≡ w
ended_stays None w v h = cc
ended_stays (Some x) w v h = refl

pub step_ended : (w : World) → IsSome w.machine.ending → step w ≡ w
unfolding step
step_ended w h = ended_stays w.machine.ending w (acted (core_step w.machine.core) w) h

pub steps_ended : (n : ℕ) (w : World) → IsSome w.machine.ending → steps n w ≡ w
unfolding steps
steps_ended zero w h = refl
steps_ended (suc n) w h = ap step (steps_ended n w h) ∙ step_ended w h

-- once the machine has ended, more instructions change nothing
pub steps_stay : (n k : ℕ) (w : World) → IsSome (steps k w).machine.ending → k ≤ n → steps n w ≡ steps k w
steps_stay n k w h le =
    let e : n ≡ k + (n - k) = omega arith in
    ap (λ m. steps m w) e ∙ steps_add (n - k) k w ∙ steps_ended (n - k) (steps k w) h

-- one instruction of a machine that has not ended
pub step_acts : (w : World) (act : Act) → w.machine.ending ≡ None → core_step w.machine.core ≡ act → step w ≡ acted act w
unfolding step
step_acts w act running is = rw (running, is) refl
