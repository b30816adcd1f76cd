-- From the source to the machine: what each layer says of one input gives that the machine does the same.
use Rattle.std.proofs.Common.{◌≡◌, ◌≢◌, ℕ, ◌≤◌, List, [], ◌∷◌, ◌++◌, Option, Some, None, ◌⊎◌, inl, inr, refl, sym, ap, ◌∙◌, subst, ⊎_elim, arith, append-nil}
use Rattle.std.specs.Prelude.{IsSome}
use Rattle.size_table.specs.Blocks.{Block}
use Rattle.source_meaning.specs.declared.values.Ending.{Ending}
use Rattle.source_meaning.specs.declared.values.Ending.TheVariants as ending
use Rattle.source_meaning.specs.Worlds as source
use Rattle.source_meaning.specs.Runs.{Outcome, cost}
use Rattle.injection.specs.Trail.{SafeSites, Says}
use Rattle.flat_code.specs.Told.{Tell, Stamped, tells, AllBy, Begins, Came}
use Rattle.flat_code.specs.Told as tell
use Rattle.flat_code.specs.World as flat
use Rattle.flat_code_laws.specs.Laws.{OutputBegins, TrailBegins, TellsBegin, AllByLater}
use Rattle.rv_machine.specs.Environment as machine
use Rattle.flat_landing.specs.Shared.{shared}
use Rattle.flat_landing.specs.Lands as landing
use Rattle.flat_landing.specs.Lands.{RunsAs}
use Rattle.bb_driver.specs.Same.{output, trail, TellsFrom, TellsUpTo, TellsAll, halt_of, IsOutside, HasEnded, SafeSitesHold, Same}
use Rattle.bb_driver.proofs.Shared.{output_shared, trail_shared}

pub record FrontLaws : Type 0 where
  pub output_begins : OutputBegins
  pub trail_begins : TrailBegins
  pub tells_begin : TellsBegin
  pub later : AllByLater

-- of two fronts of one list one begins with the other
comparable : {A : Type 0} (xs ys zs rs ss : List A) → zs ≡ xs ++ rs → zs ≡ ys ++ ss → Begins xs ys ⊎ Begins ys xs
comparable [] ys zs rs ss e f = inr (record { rest = ys; is = refl })
comparable (x ∷ xs) [] zs rs ss e f = inl (record { rest = x ∷ xs; is = refl })
comparable (x ∷ xs) (y ∷ ys) zs rs ss e f =
    let both : x ∷ (xs ++ rs) ≡ y ∷ (ys ++ ss) = sym e ∙ f in
    let head : x ≡ y = cc in
    let tail : xs ++ rs ≡ ys ++ ss = cc in
    ⊎_elim
    (λ h. inl (record { rest = h.rest; is = let q : x ∷ xs ≡ y ∷ (ys ++ h.rest) = ap (λ z. z ∷ xs) head ∙ ap (λ l. y ∷ l) h.is in q }))
    (λ h. inr (record { rest = h.rest; is = let q : y ∷ ys ≡ x ∷ (xs ++ h.rest) = ap (λ z. z ∷ ys) (sym head) ∙ ap (λ l. x ∷ l) h.is in q }))
    (comparable xs ys (xs ++ rs) rs ss refl tail)

-- ---- What flat code says of the source

-- how a run of flat code is beside one of the source that took so much time
abbrev pub Beside : SafeSites → Ending → source.World → (time : ℕ) → landing.Outcome → Type 0
Beside safe (ending.Exited n) s time f = (f.ending ≡ flat.Ending.Exited n) × Says safe s f.point.world.told × (f.point.world.time ≤ time)
Beside safe (ending.Reported kind line) s time f = (f.ending ≡ flat.Ending.Reported kind line) × Says safe s f.point.world.told × (f.point.world.time ≤ time)
Beside safe (ending.Trapped kind) s time f = (f.ending ≡ flat.Ending.Trapped kind) × Says safe s f.point.world.told × (f.point.world.time ≤ time)
Beside safe ending.Cut s time f = (f.ending ≡ flat.Ending.Cut) × Says safe s f.point.world.told × AllBy time f.point.world.told
Beside safe (ending.Outside cause) s time f = (front : List Stamped) × Came f.point.world.told time front × Says safe s front

-- where the source has ended, flat code has ended so
pub record EndsSo (safe : SafeSites) (e : Ending) (s : source.World) (time : ℕ) (f : landing.Outcome) : Type 0 where
  pub not_cut : f.ending ≢ flat.Ending.Cut
  pub halt : landing.halt_of f.ending ≡ halt_of e
  pub says : Says safe s f.point.world.told
  pub soon : f.point.world.time ≤ time

not_cut : (e f : flat.Ending) → e ≡ f → (f ≢ flat.Ending.Cut) → e ≢ flat.Ending.Cut
not_cut e f q h k = h (sym q ∙ k)

ended_beside : (safe : SafeSites) (e : Ending) (s : source.World) (time : ℕ) (f : landing.Outcome) → HasEnded e → Beside safe e s time f → EndsSo safe e s time f
ended_beside safe (ending.Exited n) s time f h b = record { not_cut = not_cut f.ending _ b.0 (λ q. cc); halt = ap landing.halt_of b.0; says = b.1; soon = b.2 }
ended_beside safe (ending.Reported kind line) s time f h b = record { not_cut = not_cut f.ending _ b.0 (λ q. cc); halt = ap landing.halt_of b.0; says = b.1; soon = b.2 }
ended_beside safe (ending.Trapped kind) s time f h b = record { not_cut = not_cut f.ending _ b.0 (λ q. cc); halt = ap landing.halt_of b.0; says = b.1; soon = b.2 }
ended_beside safe ending.Cut s time f h b = absurd (let r : ⊥ = cc in r)
ended_beside safe (ending.Outside cause) s time f h b = absurd (let r : ⊥ = cc in r)

-- where the source keeps its objects, flat code says just what it does
inside_beside : (safe : SafeSites) (e : Ending) (s : source.World) (time : ℕ) (f : landing.Outcome) → (IsOutside e → ⊥) → Beside safe e s time f → Says safe s f.point.world.told
inside_beside safe (ending.Exited n) s time f h b = b.1
inside_beside safe (ending.Reported kind line) s time f h b = b.1
inside_beside safe (ending.Trapped kind) s time f h b = b.1
inside_beside safe ending.Cut s time f h b = b.1
inside_beside safe (ending.Outside cause) s time f h b = absurd (h tt)

-- where it has not ended, a front of what flat code has told came in the time of the source
open_beside : (safe : SafeSites) (e : Ending) (s : source.World) (time : ℕ) (f : landing.Outcome) → (HasEnded e → ⊥) → Beside safe e s time f → (front : List Stamped) × Came f.point.world.told time front × Says safe s front
open_beside safe (ending.Exited n) s time f h b = absurd (h refl)
open_beside safe (ending.Reported kind line) s time f h b = absurd (h refl)
open_beside safe (ending.Trapped kind) s time f h b = absurd (h refl)
open_beside safe ending.Cut s time f h b = (f.point.world.told, record { rest = []; is = sym (append-nil f.point.world.told); by = b.2 }, b.1)
open_beside safe (ending.Outside cause) s time f h b = b

outside_beside : (safe : SafeSites) (e : Ending) (s : source.World) (time : ℕ) (f : landing.Outcome) → IsOutside e → Beside safe e s time f → (front : List Stamped) × Came f.point.world.told time front × Says safe s front
outside_beside safe (ending.Exited n) s time f h b = absurd h
outside_beside safe (ending.Reported kind line) s time f h b = absurd h
outside_beside safe (ending.Trapped kind) s time f h b = absurd h
outside_beside safe ending.Cut s time f h b = absurd h
outside_beside safe (ending.Outside cause) s time f h b = b

-- flat code that has ended otherwise than by being cut is beside a source that has ended so, if it keeps its objects
halted_beside : (safe : SafeSites) (e : Ending) (s : source.World) (time : ℕ) (f : landing.Outcome) → (IsOutside e → ⊥) → f.ending ≢ flat.Ending.Cut → Beside safe e s time f → landing.halt_of f.ending ≡ halt_of e
halted_beside safe (ending.Exited n) s time f h k b = ap landing.halt_of b.0
halted_beside safe (ending.Reported kind line) s time f h k b = ap landing.halt_of b.0
halted_beside safe (ending.Trapped kind) s time f h k b = ap landing.halt_of b.0
halted_beside safe ending.Cut s time f h k b = absurd (k b.0)
halted_beside safe (ending.Outside cause) s time f h k b = absurd (h tt)

-- ---- What the machine has told

module _ (laws : FrontLaws) (safe : SafeSites) where
  from_shared : (w : machine.World) (ts : List Tell) → shared w.told ≡ ts → (output w ≡ tell.output_of ts) × (trail w ≡ tell.trail_of ts)
  from_shared w ts e = (sym (output_shared w.told) ∙ ap tell.output_of e, sym (trail_shared w.told) ∙ ap tell.trail_of e)

  all_of : (w : machine.World) (s : source.World) (told : List Stamped) → Says safe s told → shared w.told ≡ tells told → TellsAll safe w s
  all_of w s told says e = let r = from_shared w (tells told) e in record { output = r.0 ∙ says.said; trail = r.1 ∙ says.went }

  up_to : (w : machine.World) (s : source.World) (told : List Stamped) → Says safe s told → Begins (tells told) (shared w.told) → TellsUpTo safe w s
  up_to w s told says b =
      let r = from_shared w (shared w.told) refl in
      let o = laws.output_begins (tells told) (shared w.told) b in
      let t = laws.trail_begins (tells told) (shared w.told) b in
      record {
        output = record { rest = o.rest; is = sym says.said ∙ o.is ∙ ap (λ l. l ++ o.rest) (sym r.0) };
        trail = record { rest = t.rest; is = sym says.went ∙ t.is ∙ ap (λ l. l ++ t.rest) (sym r.1) };
      }

  tells_from : (w : machine.World) (s : source.World) (told : List Stamped) → Says safe s told → Begins (shared w.told) (tells told) → TellsFrom safe w s
  tells_from w s told says b =
      let r = from_shared w (shared w.told) refl in
      let o = laws.output_begins (shared w.told) (tells told) b in
      let t = laws.trail_begins (shared w.told) (tells told) b in
      record {
        output = record { rest = o.rest; is = r.0 ∙ o.is ∙ ap (λ l. l ++ o.rest) says.said };
        trail = record { rest = t.rest; is = r.1 ∙ t.is ∙ ap (λ l. l ++ t.rest) says.went };
      }

  module _ (globals : List Block) (meant : ℕ → Outcome) (flats : ℕ → landing.Outcome) (after : ℕ → machine.World)
      (beside : (m : ℕ) → Beside safe (meant m).ending (meant m).state.world (cost (meant m).state) (flats m))
      (runs : RunsAs globals flats after) where
    ends_of : (m n : ℕ) → HasEnded (meant m).ending → cost (meant m).state ≤ n →
        ((after n).machine.ending ≡ halt_of (meant m).ending) × TellsAll safe (after n) (meant m).state.world
    ends_of m n h le =
        let b = ended_beside safe (meant m).ending (meant m).state.world (cost (meant m).state) (flats m) h (beside m) in
        let r = runs.ends m n b.not_cut (omega (arith, b.soon, le)) in
        (r.0 ∙ b.halt, all_of (after n) (meant m).state.world (flats m).point.world.told b.says r.1)

    goes_on_of : (m n : ℕ) → (HasEnded (meant m).ending → ⊥) → cost (meant m).state ≤ n → TellsFrom safe (after n) (meant m).state.world
    goes_on_of m n h le =
        let b = open_beside safe (meant m).ending (meant m).state.world (cost (meant m).state) (flats m) h (beside m) in
        let came : Came (flats m).point.world.told n b.0 = record { rest = b.1.rest; is = b.1.is; by = laws.later (cost (meant m).state) n b.0 le b.1.by } in
        tells_from (after n) (meant m).state.world b.0 b.2 (runs.in_time m n b.0 came)

    no_more_of : (n : ℕ) → (IsOutside (meant n).ending → ⊥) → TellsUpTo safe (after n) (meant n).state.world
    no_more_of n h = up_to (after n) (meant n).state.world (flats n).point.world.told (inside_beside safe (meant n).ending (meant n).state.world (cost (meant n).state) (flats n) h (beside n)) (runs.no_more n)

    halts_only_of : (n : ℕ) → (IsOutside (meant n).ending → ⊥) → IsSome (after n).machine.ending →
        ((after n).machine.ending ≡ halt_of (meant n).ending) × (output (after n) ≡ (meant n).state.world.output)
    halts_only_of n h halted =
        let r = runs.halts_only n halted in
        let says = inside_beside safe (meant n).ending (meant n).state.world (cost (meant n).state) (flats n) h (beside n) in (
          r.1 ∙ halted_beside safe (meant n).ending (meant n).state.world (cost (meant n).state) (flats n) h r.0 (beside n),
          (all_of (after n) (meant n).state.world (flats n).point.world.told says r.2).output,
        )

    outside_of : (n : ℕ) → IsOutside (meant n).ending →
        (((after n).machine.ending ≡ None) × TellsUpTo safe (after n) (meant n).state.world) ⊎ TellsFrom safe (after n) (meant n).state.world
    outside_of n is = by_ending (after n).machine.ending refl
      where
        s : source.World
        s = (meant n).state.world

        b : (front : List Stamped) × Came (flats n).point.world.told (cost (meant n).state) front × Says safe s front
        b = outside_beside safe (meant n).ending s (cost (meant n).state) (flats n) is (beside n)

        began : Begins (tells (flats n).point.world.told) (tells b.0)
        began = laws.tells_begin (flats n).point.world.told b.0 (record { rest = b.1.rest; is = b.1.is })

        by_ending : (x : Option _) → (after n).machine.ending ≡ x →
            (((after n).machine.ending ≡ None) × TellsUpTo safe (after n) s) ⊎ TellsFrom safe (after n) s
        by_ending None e =
            let c = runs.no_more n in
            ⊎_elim
            (λ k. inr (tells_from (after n) s b.0 b.2 k))
            (λ k. inl (e, up_to (after n) s b.0 b.2 k))
            (comparable (shared (after n).told) (tells b.0) (tells (flats n).point.world.told) c.rest began.rest c.is began.is)
        by_ending (Some x) e =
            let r = runs.halts_only n (subst IsSome (sym e) refl) in
            inr (tells_from (after n) s b.0 b.2 (record { rest = began.rest; is = r.2 ∙ began.is }))

    pub same_of : ((m : ℕ) → SafeSitesHold safe (meant m).state.world.objects (meant m).state.world.trail) → Same meant safe after
    same_of inside = record {
      ends = ends_of;
      goes_on = goes_on_of;
      no_more = no_more_of;
      halts_only = halts_only_of;
      outside = outside_of;
      inside = inside;
    }
