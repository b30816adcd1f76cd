-- Runs that are put together, and why they come back.
use Rattle.std.proofs.Common.{◌≡◌, ℕ, ◌+◌, ◌≤◌, true, List, [], ◌∷◌, ◌++◌, Option, Some, None, refl, sym, ap, subst, ◌∙◌, append_assoc}
use Rattle.std.specs.Prelude.{IsSome}
use Rattle.rv_machine.specs.declared.stop.Halt.{Halt}
use Rattle.rv_machine.specs.declared.stop.Halt.TheVariants as halt
use Rattle.rv_machine.specs.State.{State}
use Rattle.rv_machine.specs.Environment.{World}
use Rattle.bb_watch.specs.Told.{Tell, Output, Happens, output_of}
use Rattle.rv_machine.specs.Machine.{step, steps}
use Rattle.rv_machine.specs.Runs.{Ran, Shown, Stops, FaultCause, fault_of, stop_of}
use Rattle.rv_machine.proofs.Steps.{steps_none, steps_more, steps_add, steps_stay}
use Rattle.rv_machine.proofs.Outside.{ran_quiet, ran_same}

pub output_append : (a b : List Tell) → output_of (a ++ b) ≡ output_of a ++ output_of b
output_append [] b = refl
output_append (Output x ∷ a) b = ap (λ (l : List ℕ). x ∷ l) (output_append a b)
output_append (Happens event ∷ a) b = output_append a b

unfoldable pub ran_none : (s : State) (o : Shown) → Ran (steps 0) s o s o
ran_none s o = ran_quiet (steps 0) s s o (λ left told. steps_none (record { machine = s; left = left; told = told }))

-- one run and then another
unfoldable pub ran_then : (f g : World → World) (s : State) (o : Shown) (s1 : State) (o1 : Shown) (s2 : State) (o2 : Shown) → Ran f s o s1 o1 → Ran g s1 o1 s2 o2 → Ran (λ w. g (f w)) s o s2 o2
ran_then f g s o s1 o1 s2 o2 p q = record {
  taken = p.taken ++ q.taken;
  tells = p.tells ++ q.tells;
  does = λ rest told h.
      let after_first : o1.is_over ≡ true → q.taken ++ rest ≡ [] = λ e. let v = q.over e in ap (λ (l : List ℕ). l ++ rest) v.0 ∙ h v.1 in
      ap (λ (l : List ℕ). g (f (record { machine = s; left = l; told = told }))) (append_assoc p.taken q.taken rest)
      ∙ ap g (p.does (q.taken ++ rest) told after_first)
      ∙ q.does rest (told ++ p.tells) h
      ∙ ap (λ (t : List Tell). record { machine = s2; left = rest; told = t }) (append_assoc told p.tells q.tells);
  input = λ bytes e.
      let a = p.input bytes e in
      let b = q.input a.0 a.2 in
      (b.0, a.1 ∙ ap (λ (l : List ℕ). p.taken ++ l) b.1 ∙ sym (append_assoc p.taken q.taken b.0), b.2);
  over = λ e. let a = p.over e in let b = q.over a.1 in (ap (λ (l : List ℕ). l ++ q.taken) a.0 ∙ b.0, b.1);
  output = λ bytes e.
      q.output (bytes ++ output_of p.tells) (p.output bytes e)
      ∙ ap Some (append_assoc bytes (output_of p.tells) (output_of q.tells) ∙ ap (λ (l : List ℕ). bytes ++ l) (sym (output_append p.tells q.tells)));
}

-- k instructions and one more
unfoldable pub ran_more : (k : ℕ) (s : State) (o : Shown) (s1 : State) (o1 : Shown) (s2 : State) (o2 : Shown) → Ran (steps k) s o s1 o1 → Ran step s1 o1 s2 o2 → Ran (steps (k + 1)) s o s2 o2
ran_more k s o s1 o1 s2 o2 p q =
    let both = ran_then (steps k) step s o s1 o1 s2 o2 p q in
    ran_same (λ w. step (steps k w)) (steps (k + 1)) s o s2 o2 both (λ rest told e. steps_more k (record { machine = s; left = both.taken ++ rest; told = told }))

-- k instructions and d more
pub ran_on : (k d : ℕ) (s : State) (o : Shown) (s1 : State) (o1 : Shown) (s2 : State) (o2 : Shown) → Ran (steps k) s o s1 o1 → Ran (steps d) s1 o1 s2 o2 → Ran (steps (k + d)) s o s2 o2
ran_on k d s o s1 o1 s2 o2 p q =
    let both = ran_then (steps k) (steps d) s o s1 o1 s2 o2 p q in
    ran_same (λ w. steps d (steps k w)) (steps (k + d)) s o s2 o2 both (λ rest told e. steps_add d k (record { machine = s; left = both.taken ++ rest; told = told }))

-- k instructions and a fault
pub ran_still : (k : ℕ) (s : State) (o : Shown) (s1 : State) (o1 : Shown) (s2 : State) (o2 : Shown) → Ran (steps k) s o s1 o1 → Ran (λ w. w) s1 o1 s2 o2 → Ran (steps k) s o s2 o2
ran_still k s o s1 o1 s2 o2 p q = ran_then (steps k) (λ w. w) s o s1 o1 s2 o2 p q

-- once it has ended, more instructions change nothing
pub ran_ended : (n k : ℕ) (s : State) (o : Shown) (s' : State) (o' : Shown) → IsSome s'.ending → k ≤ n → Ran (steps k) s o s' o' → Ran (steps n) s o s' o'
ran_ended n k s o s' o' h le p = ran_same (steps k) (steps n) s o s' o' p (λ rest told e.
    let w : World = record { machine = s; left = p.taken ++ rest; told = told } in
    steps_stay n k w (subst (λ (v : World). IsSome v.machine.ending) (sym (p.does rest told e)) h) le)

-- the same number of instructions
pub ran_all : (n k : ℕ) (s : State) (o : Shown) (s' : State) (o' : Shown) → k ≡ n → Ran (steps k) s o s' o' → Ran (steps n) s o s' o'
ran_all n k s o s' o' e p = subst (λ (m : ℕ). Ran (steps m) s o s' o') e p

-- why a run of n instructions comes back, by its last state
pub ran_stops : (n : ℕ) (s : State) (o : Shown) (s' : State) (o' : Shown) → Ran (steps n) s o s' o' → Stops (stop_of s'.ending) n s o s' o'
ran_stops n s o s' o' p = by s'.ending refl
  where
    by : (e : Option Halt) → s'.ending ≡ e → Stops (stop_of e) n s o s' o'
    by None e = (p, e)
    by (Some (halt.Exited status)) e = (p, e)
    by (Some (halt.Reported kind line)) e = (p, e)
    by (Some (halt.Trapped kind)) e = (p, e)

-- no ending of the machine is a fault
pub no_fault : (ending : Option Halt) (input input' output output' : ℕ) → input ≤ input' → output ≤ output' → FaultCause (fault_of (stop_of ending)) input input' output output'
no_fault None i i' o o' a b = (a, b)
no_fault (Some (halt.Exited status)) i i' o o' a b = (a, b)
no_fault (Some (halt.Reported kind line)) i i' o o' a b = (a, b)
no_fault (Some (halt.Trapped kind)) i i' o o' a b = (a, b)
