-- What instructions tell.
use Rattle.std.proofs.Common.{◌≡◌, ◌≢◌, ℕ, zero, suc, ◌+◌, ◌%◌, Bool, true, false, cond, eqb, List, [], ◌∷◌, ◌++◌, Option, Some, None, refl, sym, ap, ◌∙◌, append-nil, append_assoc, add-zero, add-suc, arith}
use Rattle.std.specs.Prelude.{map}
use Rattle.std.proofs.lemmas.Bool.Decides.{nat_tests}
use Rattle.rv_machine.specs.declared.stop.Halt.{Halt}
use Rattle.rv_machine.specs.State.{State, register_of}
use Rattle.rv_machine.specs.Instruction.{Act, Goes, Traps, Asks, core_step}
use Rattle.rv_machine.specs.Environment.{World, enter_events, leave_events, calls, gets_from, malloc_events, free_events}
use Rattle.bb_watch.specs.Told.{Tell, Output, Happens}
use Rattle.rv_machine.specs.Tells.{call_tells, act_tells, tells_of, tells_unless_ended}
use Rattle.rv_machine.specs.Machine.{step, steps, acted, unless_ended}

-- getchar tells nothing
pub gets_told : (bytes : List ℕ) (w : World) → (gets_from bytes w).told ≡ w.told
gets_told [] w = refl
gets_told (byte ∷ bytes) w = refl

-- a choice of worlds that both have told this
pick : (b : Bool) (u v : World) (l : List Tell) → (b ≡ true → u.told ≡ l) → (b ≡ false → v.told ≡ l) → (cond b u v).told ≡ l
pick true u v l p q = p refl
pick false u v l p q = q refl

-- what a call tells, by its number
tells_1 : (s : State) → register_of s.core 17 ≡ 1 → call_tells s ≡ []
tells_1 s h = rw h refl

tells_2 : (s : State) → register_of s.core 17 ≡ 2 → call_tells s ≡ []
tells_2 s h = rw h refl

tells_3 : (s : State) → register_of s.core 17 ≡ 3 → call_tells s ≡ Output (register_of s.core 10 % 256) ∷ []
tells_3 s h = rw h refl

tells_4 : (s : State) → register_of s.core 17 ≡ 4 → call_tells s ≡ map Happens (malloc_events s)
tells_4 s h = rw h refl

tells_5 : (s : State) → register_of s.core 17 ≡ 5 → call_tells s ≡ map Happens (free_events s)
tells_5 s h = rw h refl

tells_6 : (s : State) → register_of s.core 17 ≡ 6 → call_tells s ≡ []
tells_6 s h = rw h refl

tells_7 : (s : State) → register_of s.core 17 ≡ 7 → call_tells s ≡ map Happens (enter_events s)
tells_7 s h = rw h refl

tells_8 : (s : State) → register_of s.core 17 ≡ 8 → call_tells s ≡ map Happens (leave_events s)
tells_8 s h = rw h refl

tells_none : (s : State) → register_of s.core 17 ≢ 3 → register_of s.core 17 ≢ 4 → register_of s.core 17 ≢ 5 → register_of s.core 17 ≢ 7 → register_of s.core 17 ≢ 8 → call_tells s ≡ []
tells_none s h k l i j = grind (arith, nat_tests)

equal_by : (n k : ℕ) → eqb n k ≡ true → n ≡ k
equal_by n k e = grind (arith, nat_tests)

unequal_by : (n k : ℕ) → eqb n k ≡ false → n ≢ k
unequal_by n k e = grind (arith, nat_tests)

-- nothing more
still : (told : List Tell) (more : List Tell) → more ≡ [] → told ≡ told ++ more
still told more e = sym (append-nil told) ∙ ap (λ (l : List Tell). told ++ l) (sym e)

then : (told : List Tell) (a b : List Tell) → a ≡ b → told ++ b ≡ told ++ a
then told a b e = ap (λ (l : List Tell). told ++ l) (sym e)

calls_told : (w : World) → (calls w).told ≡ w.told ++ call_tells w.machine
unfolding calls
calls_told w =
    let n = register_of w.machine.core 17 in
    let s = w.machine in
    let l = w.told ++ call_tells s in
    pick (eqb n 1) _ _ l (λ e. still w.told (call_tells s) (tells_1 s (equal_by n 1 e))) (λ e1.
    pick (eqb n 2) _ _ l (λ e. gets_told w.left w ∙ still w.told (call_tells s) (tells_2 s (equal_by n 2 e))) (λ e2.
    pick (eqb n 3) _ _ l (λ e. then w.told (call_tells s) _ (tells_3 s (equal_by n 3 e))) (λ e3.
    pick (eqb n 4) _ _ l (λ e. then w.told (call_tells s) _ (tells_4 s (equal_by n 4 e))) (λ e4.
    pick (eqb n 5) _ _ l (λ e. then w.told (call_tells s) _ (tells_5 s (equal_by n 5 e))) (λ e5.
    pick (eqb n 6) _ _ l (λ e. still w.told (call_tells s) (tells_6 s (equal_by n 6 e))) (λ e6.
    pick (eqb n 7) _ _ l (λ e. then w.told (call_tells s) _ (tells_7 s (equal_by n 7 e))) (λ e7.
    pick (eqb n 8) _ _ l (λ e. then w.told (call_tells s) _ (tells_8 s (equal_by n 8 e))) (λ e8.
    still w.told (call_tells s) (tells_none s (unequal_by n 3 e3) (unequal_by n 4 e4) (unequal_by n 5 e5) (unequal_by n 7 e7) (unequal_by n 8 e8))))))))))

act_told : (act : Act) (w : World) → (acted act w).told ≡ w.told ++ act_tells act w.machine
act_told (Goes core) w = refl
act_told (Traps kind) w = sym (append-nil w.told)
act_told Asks w = calls_told w

told_unless_ended : (ending : Option Halt) (w : World) → (unless_ended ending w (acted (core_step w.machine.core) w)).told ≡ w.told ++ tells_unless_ended ending w.machine
told_unless_ended None w = act_told (core_step w.machine.core) w
told_unless_ended (Some halt) w = sym (append-nil w.told)

pub step_told : (w : World) → (step w).told ≡ w.told ++ tells_of w.machine
unfolding step
step_told w = told_unless_ended w.machine.ending w

-- and what many tell
pub steps_told : (d k : ℕ) (w : World) → (more : List Tell) × ((steps (k + d) w).told ≡ (steps k w).told ++ more)
unfolding steps
steps_told zero k w = ([], ap (λ (n : ℕ). (steps n w).told) (add-zero k) ∙ sym (append-nil (steps k w).told))
steps_told (suc d) k w =
    let before = steps_told d k w in
    let last = tells_of (steps (k + d) w).machine in (
      before.0 ++ last,
      ap (λ (n : ℕ). (steps n w).told) (add-suc k d)
          ∙ step_told (steps (k + d) w)
          ∙ ap (λ (l : List Tell). l ++ last) before.1
          ∙ append_assoc (steps k w).told before.0 last,
    )
