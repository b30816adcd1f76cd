-- From a landing for each bound to all that is said of whole runs.
use Rattle.std.proofs.Common.{◌≡◌, ◌≢◌, ℕ, ◌+◌, ◌-◌, ◌≤◌, ◌<◌, ◌%◌, List, [], ◌∷◌, ◌++◌, Option, Some, None, ◌⊎◌, inl, inr, refl, sym, ap, ◌∙◌, subst, ⊎_elim, arith, append-nil}
use Rattle.std.specs.Prelude.{IsSome}
use Rattle.std.proofs.lemmas.Bool.{cases_lt}
use Rattle.bb_watch.specs.Told.{events_of}
use Rattle.bb_watch.specs.Laws.{EventsAppend, EachAppends, OpenAppends, open_on}
use Rattle.bb_watch.specs.Safety.{Each, IsControlSafe, open_after}
use Rattle.size_table.specs.Blocks.{Block}
use Rattle.flat_code.specs.Told.{Stamped, tells, AllBy, Begins, Came}
use Rattle.flat_code.specs.World.{Ending}
use Rattle.rv_machine.specs.declared.stop.Halt.{Halt}
use Rattle.rv_machine.specs.Environment.{World}
use Rattle.rv_machine_laws.specs.Laws.{EndingStays, ToldGrows}
use Rattle.rv_machine.specs.Machine.{steps}
use Rattle.flat_landing.specs.Shared.{shared}
use Rattle.flat_landing.specs.Lands.{Outcome, halt_of, KeepsControl, LandsSo, Lands, RunsAs}
use Rattle.flat_landing.specs.Laws.{KeptMore, LandingsRun}
use Rattle.flat_landing.proofs.Fronts.{shared_append, front_of, by_last}

pub record Laws : Type 0 where
  pub stays : EndingStays
  pub grows : ToldGrows

pub record ControlLaws : Type 0 where
  pub events_append : EventsAppend
  pub each_appends : EachAppends IsControlSafe
  pub open_appends : OpenAppends

-- what was told after more instructions begins with what was told
told_begins : ToldGrows → (w : World) (n k : ℕ) → n ≤ k → Begins (steps k w).told (steps n w).told
told_begins grows w n k le =
    let h = grows n (k - n) w in
    let is : n + (k - n) ≡ k = omega (arith, le) in
    record { rest = h.0; is = subst (λ j. (steps j w).told ≡ (steps n w).told ++ h.0) is h.1 }

shared_begins : ToldGrows → (w : World) (n k : ℕ) → n ≤ k → Begins (shared (steps k w).told) (shared (steps n w).told)
shared_begins grows w n k le = let b = told_begins grows w n k le in record { rest = shared b.rest; is = ap shared b.is ∙ shared_append (steps n w).told b.rest }

pub kept_more : ToldGrows → KeptMore
kept_more grows w told x k kept soon said n front c =
    ⊎_elim
    (λ h. kept n front (record { rest = h.0; is = h.1; by = c.by }))
    (λ h.
    let late = by_last n told (x ∷ []) (subst (AllBy n) h c.by) in
    let b = shared_begins grows w k n (omega (arith, soon, late.0)) in
    record { rest = b.rest; is = b.is ∙ ap (λ l. l ++ b.rest) (said ∙ ap tells (sym h)) })
    (front_of told front c.rest x c.is)

some_front : (o : Option (List ℕ)) (ys : List _) → IsSome (open_on o ys) → IsSome o
some_front None ys h = h
some_front (Some places) ys h = refl

-- what keeps control kept it before
control_before : ControlLaws → (globals : List Block) (v w : World) → Begins w.told v.told → KeepsControl globals w → KeepsControl globals v
control_before laws globals v w b h =
    let events : events_of w.told ≡ events_of v.told ++ events_of b.rest = ap events_of b.is ∙ laws.events_append v.told b.rest in
    record {
      accesses = ((laws.each_appends globals globals (events_of v.told) (events_of b.rest)).0 (subst (Each IsControlSafe globals globals) events h.accesses)).0;
      returns = some_front (open_after [] (events_of v.told)) (events_of b.rest)
          (subst IsSome (laws.open_appends [] (events_of v.told) (events_of b.rest)) (subst (λ es. IsSome (open_after [] es)) events h.returns));
    }

-- where flat code has ended, the machine has halted in time
ended_so : (ending : Ending) (bound time k : ℕ) (halt : Option Halt) → ending ≢ Ending.Cut → LandsSo ending bound time k halt → (k ≤ time) × (halt ≡ halt_of ending) × IsSome (halt_of ending)
ended_so (Ending.Exited word) bound time k halt not h = (h.0, h.1, refl)
ended_so (Ending.Reported kind line) bound time k halt not h = (h.0, h.1, refl)
ended_so (Ending.Trapped kind) bound time k halt not h = (h.0, h.1, refl)
ended_so Ending.Cut bound time k halt not h = absurd (not refl)

-- flat code is cut and the machine goes on, or it has ended
by_ending : (ending : Ending) → (ending ≡ Ending.Cut) ⊎ (ending ≢ Ending.Cut)
by_ending (Ending.Exited word) = inr (λ e. cc)
by_ending (Ending.Reported kind line) = inr (λ e. cc)
by_ending (Ending.Trapped kind) = inr (λ e. cc)
by_ending Ending.Cut = inl refl

module _ (laws : Laws) (globals : List Block) (flat : ℕ → Outcome) (w : World) (lands : (m : ℕ) → Lands globals (flat m) m (λ n. steps n w)) where
  -- after n instructions the machine has not passed the landing for the bound n, or has halted there
  at : (n : ℕ) → (n ≤ (lands n).steps) ⊎ (steps n w ≡ steps (lands n).steps w)
  at n =
      let l = lands n in
      ⊎_elim
      (λ cut. inl (let so = subst (λ e. LandsSo e n (flat n).point.world.time l.steps (steps l.steps w).machine.ending) cut l.so in so.0))
      (λ not.
      let so = ended_so (flat n).ending n (flat n).point.world.time l.steps (steps l.steps w).machine.ending not l.so in
      ⊎_elim
      (λ lt. inl (omega (arith, lt)))
      (λ ge. inr (laws.stays n l.steps w (subst IsSome (sym so.1) so.2) ge))
      (cases_lt n l.steps))
      (by_ending (flat n).ending)

  ends_of : (m n : ℕ) → (flat m).ending ≢ Ending.Cut → (flat m).point.world.time ≤ n →
      ((steps n w).machine.ending ≡ halt_of (flat m).ending) × (shared (steps n w).told ≡ tells (flat m).point.world.told)
  ends_of m n not le =
      let l = lands m in
      let so = ended_so (flat m).ending m (flat m).point.world.time l.steps (steps l.steps w).machine.ending not l.so in
      let same = laws.stays n l.steps w (subst IsSome (sym so.1) so.2) (omega (arith, so.0, le)) in
      (ap (λ v. v.machine.ending) same ∙ so.1, ap (λ v. shared v.told) same ∙ l.said)

  no_more_of : (n : ℕ) → Begins (tells (flat n).point.world.told) (shared (steps n w).told)
  no_more_of n =
      let l = lands n in
      subst (λ ts. Begins ts (shared (steps n w).told)) l.said
      (⊎_elim
      (λ le. shared_begins laws.grows w n l.steps le)
      (λ e. record { rest = []; is = ap (λ v. shared v.told) (sym e) ∙ sym (append-nil (shared (steps n w).told)) })
      (at n))

  control_of : ControlLaws → (n : ℕ) → KeepsControl globals (steps n w)
  control_of control n =
      let l = lands n in
      ⊎_elim
      (λ le. control_before control globals (steps n w) (steps l.steps w) (told_begins laws.grows w n l.steps le) l.control)
      (λ e. subst (KeepsControl globals) (sym e) l.control)
      (at n)

  not_none : (halt : Option Halt) → IsSome halt → halt ≡ None → ⊥
  not_none None h e = let r : ⊥ = cc in r
  not_none (Some x) h e = let r : ⊥ = cc in r

  halts_only_of : (n : ℕ) → IsSome (steps n w).machine.ending →
      ((flat n).ending ≢ Ending.Cut) × ((steps n w).machine.ending ≡ halt_of (flat n).ending) × (shared (steps n w).told ≡ tells (flat n).point.world.told)
  halts_only_of n halted =
      let l = lands n in
      ⊎_elim
      (λ cut.
      let so = subst (λ e. LandsSo e n (flat n).point.world.time l.steps (steps l.steps w).machine.ending) cut l.so in
      let same = laws.stays l.steps n w halted so.0 in
      absurd (not_none (steps n w).machine.ending halted (ap (λ v. v.machine.ending) (sym same) ∙ so.1)))
      (λ not.
      let so = ended_so (flat n).ending n (flat n).point.world.time l.steps (steps l.steps w).machine.ending not l.so in
      let same : steps n w ≡ steps l.steps w = ⊎_elim
      (λ lt. sym (laws.stays l.steps n w halted (omega (arith, lt))))
      (λ ge. laws.stays n l.steps w (subst IsSome (sym so.1) so.2) ge)
      (cases_lt n l.steps) in
      (not, ap (λ v. v.machine.ending) same ∙ so.1, ap (λ v. shared v.told) same ∙ l.said))
      (by_ending (flat n).ending)

pub landings_run : Laws → ControlLaws → LandingsRun
landings_run laws control globals flat w lands = record {
  in_time = λ m n front c. (lands m).kept n front c;
  ends = ends_of laws globals flat w lands;
  no_more = no_more_of laws globals flat w lands;
  halts_only = halts_only_of laws globals flat w lands;
  control = control_of laws globals flat w lands control;
}
