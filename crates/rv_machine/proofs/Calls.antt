-- One instruction, by what the core and the environment do.
use Rattle.std.proofs.Common.{◌≡◌, ◌≢◌, ◌++◌, ℕ, List, Option, Some, None, refl, sym, subst, arith}
use Rattle.std.proofs.lemmas.Bool.Decides.{nat_tests}
use Rattle.bb_words.specs.declared.kinds.TrapKind.{TrapKind}
use Rattle.bb_words.specs.declared.kinds.TrapKind.TheVariants.{Call}
use Rattle.rv_machine.specs.declared.stop.Fault.{Fault}
use Rattle.rv_machine.specs.declared.stop.Fault.TheVariants as fault
use Rattle.rv_machine.specs.declared.stop.Halt.TheVariants.{Trapped}
use Rattle.rv_machine.specs.State.{Core, State, register_of, halted, with_core}
use Rattle.rv_machine.specs.Instruction.{Goes, Traps, Asks, core_step, core_events}
use Rattle.rv_machine.specs.Environment.{calls, exits, gets, puts, reports, enters, enter_events, leaves, leave_events, mallocs, malloc_events, frees, free_events}
use Rattle.bb_watch.specs.Told.{Tell}
use Rattle.rv_machine.specs.Machine.{step, IsBeforeCall}
use Rattle.rv_machine.specs.Runs.{Ran, Shown, Stepped}
use Rattle.rv_machine.proofs.Steps.{step_acts}
use Rattle.rv_machine.proofs.Outside.{ran_quiet, ran_same, ran_events}

pub call_exits : (s : State) (o : Shown) → register_of s.core 17 ≡ 1 → Ran calls s o (exits s) o
unfolding calls
call_exits s o h = ran_quiet calls s (exits s) o (λ left told. rw h refl)

pub call_gets : (s : State) (o : Shown) (s' : State) (o' : Shown) → register_of s.core 17 ≡ 2 → Ran gets s o s' o' → Ran calls s o s' o'
unfolding calls
call_gets s o s' o' h p = ran_same gets calls s o s' o' p (λ rest told e. rw h refl)

pub call_puts : (s : State) (o : Shown) (s' : State) (o' : Shown) → register_of s.core 17 ≡ 3 → Ran puts s o s' o' → Ran calls s o s' o'
unfolding calls
call_puts s o s' o' h p = ran_same puts calls s o s' o' p (λ rest told e. rw h refl)

pub call_mallocs : (s : State) (o : Shown) → register_of s.core 17 ≡ 4 → Ran calls s o (mallocs s) o
unfolding calls
call_mallocs s o h = ran_events calls s (mallocs s) o (malloc_events s) (λ left told. rw h refl)

pub call_frees : (s : State) (o : Shown) → register_of s.core 17 ≡ 5 → Ran calls s o (frees s) o
unfolding calls
call_frees s o h = ran_events calls s (frees s) o (free_events s) (λ left told. rw h refl)

pub call_reports : (s : State) (o : Shown) → register_of s.core 17 ≡ 6 → Ran calls s o (reports s) o
unfolding calls
call_reports s o h = ran_quiet calls s (reports s) o (λ left told. rw h refl)

pub call_enters : (s : State) (o : Shown) → register_of s.core 17 ≡ 7 → Ran calls s o (enters s) o
unfolding calls
call_enters s o h = ran_events calls s (enters s) o (enter_events s) (λ left told. rw h refl)

pub call_leaves : (s : State) (o : Shown) → register_of s.core 17 ≡ 8 → Ran calls s o (leaves s) o
unfolding calls
call_leaves s o h = ran_events calls s (leaves s) o (leave_events s) (λ left told. rw h refl)

-- the number is that of no call
pub record IsNoCall (number : ℕ) : Type 0 where
  pub not_1 : number ≢ 1
  pub not_2 : number ≢ 2
  pub not_3 : number ≢ 3
  pub not_4 : number ≢ 4
  pub not_5 : number ≢ 5
  pub not_6 : number ≢ 6
  pub not_7 : number ≢ 7
  pub not_8 : number ≢ 8

no_call : (s : State) (left : List ℕ) (told : List Tell) → IsNoCall (register_of s.core 17) → calls (record { machine = s; left = left; told = told }) ≡ record { machine = halted (Trapped Call) s; left = left; told = told }
unfolding calls
no_call s left told h = grind (arith, nat_tests, h.not_1, h.not_2, h.not_3, h.not_4, h.not_5, h.not_6, h.not_7, h.not_8)

pub call_traps : (s : State) (o : Shown) → IsNoCall (register_of s.core 17) → Ran calls s o (halted (Trapped Call) s) o
call_traps s o h = ran_quiet calls s (halted (Trapped Call) s) o (λ left told. no_call s left told h)

pub step_goes : (s : State) (core : Core) (o : Shown) → s.ending ≡ None → core_step s.core ≡ Goes core → Ran step s o (with_core core s) o
step_goes s core o h e = ran_events step s (with_core core s) o (core_events s.core) (λ left told. step_acts (record { machine = s; left = left; told = told }) (Goes core) h e)

pub step_traps : (s : State) (kind : TrapKind) (o : Shown) → s.ending ≡ None → core_step s.core ≡ Traps kind → Ran step s o (halted (Trapped kind) s) o
step_traps s kind o h e = ran_quiet step s (halted (Trapped kind) s) o (λ left told. step_acts (record { machine = s; left = left; told = told }) (Traps kind) h e)

pub step_asks : (fault : Option Fault) (s : State) (o : Shown) (s' : State) (o' : Shown) → s.ending ≡ None → core_step s.core ≡ Asks → Stepped fault calls s o s' o' → Stepped fault step s o s' o'
step_asks None s o s' o' h e p = ran_same calls step s o s' o' p (λ rest told i. step_acts (record { machine = s; left = p.taken ++ rest; told = told }) Asks h e)
step_asks (Some fault.Read) s o s' o' h e p = p
step_asks (Some fault.Write) s o s' o' h e p = p

-- the call that failed is still to come
pub call_failed : (number : ℕ) (s : State) (o : Shown) (s' : State) (o' : Shown) → s.ending ≡ None → core_step s.core ≡ Asks → register_of s.core 17 ≡ number → Ran (λ w. w) s o s' o' × (s' ≡ s) → Ran (λ w. w) s o s' o' × IsBeforeCall number s'
call_failed number s o s' o' running asks is p =
    (p.0, subst (IsBeforeCall number) (sym p.1) (record { running = running; call = asks; number_is = is }))
