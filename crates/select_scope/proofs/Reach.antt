-- Where a machine comes to, by how steps of flat code are left.
use Rattle.std.proofs.Common.{◌≡◌, ℕ, zero, suc, ◌+◌, ◌<◌, ◌≤◌, Bool, true, false, List, ◌∷◌, length, Option, Some, None, ap, subst, arith}
use Rattle.std.specs.Prelude.{slice_index}
use Rattle.bb_words.specs.Answers.{Answer, and_then}
use Rattle.flat_code.specs.Told.{tells}
use Rattle.flat_code.specs.World.{FWorld, FPoint, Ending, Run, Way, onward, out_of}
use Rattle.flat_discipline.specs.Comes.{IfOn}
use Rattle.rv_machine.specs.State.{register_of}
use Rattle.rv_machine.specs.Environment.{World}
use Rattle.flat_landing.specs.Lands.{halt_of, KeepsControl}
use Rattle.flat_landing.specs.Shared.{shared}
use Rattle.select_scope.specs.Loaded.{Loaded, after, Frame, Agrees, IsKept, At}

-- ---- Places that are come to

-- From k instructions on, where flat code stood at time t, the machine comes to a place as flat code does to a point, and
-- takes no more instructions than flat code takes time.
pub record Arrives (s : Loaded) (f : Frame) (place : ℕ) (known : Option ℕ) (u : FPoint) (k t : ℕ) : Type 0 where
  pub count : ℕ
  pub later : k ≤ count
  pub within : count + t ≤ k + u.world.time
  pub there : At s f place known u count

-- to the end of its function, with a word in x9
pub record Returns (s : Loaded) (f : Frame) (place word : ℕ) (u : FPoint) (k t : ℕ) : Type 0 where
  pub come : Arrives s f place None u k t
  pub value : register_of (after s come.count).machine.core 9 ≡ word

-- to the same ending
pub record Finishes (s : Loaded) (ending : Ending) (u : FPoint) (k t : ℕ) : Type 0 where
  pub count : ℕ
  pub later : k ≤ count
  pub within : count + t ≤ k + u.world.time
  pub halted : (after s count).machine.ending ≡ halt_of ending
  pub said : shared (after s count).told ≡ tells u.world.told
  pub control : KeepsControl s.globals (after s count)
  pub kept : IsKept s u.world.told

-- It goes on for q instructions at least, where flat code is cut.
pub record GoesOn (s : Loaded) (u : FPoint) (q k : ℕ) : Type 0 where
  pub count : ℕ
  pub later : k + q ≤ count
  pub running : (after s count).machine.ending ≡ None
  pub said : shared (after s count).told ≡ tells u.world.told
  pub control : KeepsControl s.globals (after s count)
  pub kept : IsKept s u.world.told

abbrev pub Ends : Loaded → Ending → FPoint → (q k t : ℕ) → Type 0
Ends s (Ending.Exited word) u q k t = Finishes s (Ending.Exited word) u k t
Ends s (Ending.Reported kind line) u q k t = Finishes s (Ending.Reported kind line) u k t
Ends s (Ending.Trapped kind) u q k t = Finishes s (Ending.Trapped kind) u k t
Ends s Ending.Cut u q k t = GoesOn s u q k

-- where the labels of the constructs around and of the function's end are
pub record Around : Type 0 where
  pub exits : List ℕ
  pub back : ℕ

-- where steps that stand up to a place land, by how they are left
abbrev pub Comes : Loaded → Frame → Around → (behind : ℕ) → (known : Option ℕ) → (q k t : ℕ) → Run Way → Type 0
Comes s f r b known q k t (Answer.Goes Way.On u) = Arrives s f b known u k t
Comes s f r b known q k t (Answer.Goes (Way.Out n) u) = (n < length r.exits) × Arrives s f (s.labels (slice_index r.exits n)) None u k t
Comes s f r b known q k t (Answer.Goes (Way.Back word) u) = Returns s f (s.labels r.back) word u k t
Comes s f r b known q k t (Answer.Ends ending u) = Ends s ending u q k t

-- ---- Control at any agreement

pub control_of : (s : Loaded) (f : Frame) (w : FWorld) (v : World) → Agrees s f w v → KeepsControl s.globals v
control_of s f w v a = record { accesses = a.accesses; returns = ap (λ o. is_some_of o) a.returns }
  where
    is_some_of : Option (List ℕ) → Bool
    is_some_of None = false
    is_some_of (Some places) = true

-- ---- From an earlier point

module _ (s : Loaded) (f : Frame) where
  abbrev pub arrives_from : (b : ℕ) (known : Option ℕ) (u : FPoint) (k t k' t' : ℕ) → k ≤ k' → k' + t ≤ k + t' → Arrives s f b known u k' t' → Arrives s f b known u k t
  arrives_from b known u k t k' t' le near h = record { count = h.count; later = omega (arith, h.later, le); within = omega (arith, h.within, near); there = h.there }

  finishes_from : (ending : Ending) (u : FPoint) (k t k' t' : ℕ) → k ≤ k' → k' + t ≤ k + t' → Finishes s ending u k' t' → Finishes s ending u k t
  finishes_from ending u k t k' t' le near h =
      record { count = h.count; later = omega (arith, h.later, le); within = omega (arith, h.within, near); halted = h.halted; said = h.said; control = h.control; kept = h.kept }

  goes_from : (u : FPoint) (p q k k' : ℕ) → k + p ≤ k' + q → GoesOn s u q k' → GoesOn s u p k
  goes_from u p q k k' more h = record { count = h.count; later = omega (arith, h.later, more); running = h.running; said = h.said; control = h.control; kept = h.kept }

  pub ends_from : (ending : Ending) (u : FPoint) (p q k t k' t' : ℕ) → k ≤ k' → k + p ≤ k' + q → k' + t ≤ k + t' → Ends s ending u q k' t' → Ends s ending u p k t
  ends_from (Ending.Exited word) u p q k t k' t' le more near h = finishes_from (Ending.Exited word) u k t k' t' le near h
  ends_from (Ending.Reported kind line) u p q k t k' t' le more near h = finishes_from (Ending.Reported kind line) u k t k' t' le near h
  ends_from (Ending.Trapped kind) u p q k t k' t' le more near h = finishes_from (Ending.Trapped kind) u k t k' t' le near h
  ends_from Ending.Cut u p q k t k' t' le more near h = goes_from u p q k k' more h

  pub comes_on : (r : Around) (b : ℕ) (known : Option ℕ) (p q k t k' t' : ℕ) (o : Run Way) → k ≤ k' → k + p ≤ k' + q → k' + t ≤ k + t' → Comes s f r b known q k' t' o → Comes s f r b known p k t o
  comes_on r b known p q k t k' t' (Answer.Goes Way.On u) le more near h = arrives_from b known u k t k' t' le near h
  comes_on r b known p q k t k' t' (Answer.Goes (Way.Out n) u) le more near h = (h.0, arrives_from (s.labels (slice_index r.exits n)) None u k t k' t' le near h.1)
  comes_on r b known p q k t k' t' (Answer.Goes (Way.Back word) u) le more near h = record { come = arrives_from (s.labels r.back) None u k t k' t' le near h.come; value = h.value }
  comes_on r b known p q k t k' t' (Answer.Ends ending u) le more near h = ends_from ending u p q k t k' t' le more near h

  -- with the same bound
  pub comes_from : (r : Around) (b : ℕ) (known : Option ℕ) (q k t k' t' : ℕ) (o : Run Way) → k ≤ k' → k' + t ≤ k + t' → Comes s f r b known q k' t' o → Comes s f r b known q k t o
  comes_from r b known q k t k' t' o le near h = comes_on r b known q q k t k' t' o le (omega (arith, le)) near h

  -- ---- What x5 is known to hold

  pub forget : (b : ℕ) (known : Option ℕ) (u : FPoint) (k : ℕ) → At s f b known u k → At s f b None u k
  forget b known u k at = record {
    at = at.at;
    frame = record { base = at.frame.base; stands = record { cells = at.frame.stands.cells; five = tt; zero = at.frame.stands.zero }; behind = at.frame.behind };
    agrees = at.agrees;
    soon = at.soon;
    kept = at.kept;
  }

  pub forgets : (r : Around) (b : ℕ) (known : Option ℕ) (q k t : ℕ) (o : Run Way) → Comes s f r b known q k t o → Comes s f r b None q k t o
  forgets r b known q k t (Answer.Goes Way.On u) h = record { count = h.count; later = h.later; within = h.within; there = forget b known u h.count h.there }
  forgets r b known q k t (Answer.Goes (Way.Out n) u) h = h
  forgets r b known q k t (Answer.Goes (Way.Back word) u) h = h
  forgets r b known q k t (Answer.Ends ending u) h = h

  -- ---- Steps one after another, the later ones with what holds where they begin

  pub then_comes : (r : Around) (m b : ℕ) (known last : Option ℕ) (q k t : ℕ) (o : Run Way) (go : FPoint → Run Way) (P : FPoint → Type 0) → IfOn o P → Comes s f r m known q k t o
      → ((u : FPoint) (j : ℕ) → P u → At s f m known u j → Comes s f r b last q j u.world.time (go u))
      → Comes s f r b last q k t (and_then o (λ way u. onward way u go))
  unfolding and_then
  then_comes r m b known last q k t (Answer.Goes Way.On u) go P p h g = comes_from r b last q k t h.count u.world.time (go u) h.later h.within (g u h.count p h.there)
  then_comes r m b known last q k t (Answer.Goes (Way.Out n) u) go P p h g = h
  then_comes r m b known last q k t (Answer.Goes (Way.Back word) u) go P p h g = h
  then_comes r m b known last q k t (Answer.Ends ending u) go P p h g = h

  -- ---- Blocks

  -- a construct is left, whose label stands at its end
  pub block_comes : (r : Around) (l b : ℕ) (known : Option ℕ) (q k t : ℕ) (o : Run Way) → s.labels l ≡ b
      → Comes s f (record { exits = l ∷ r.exits; back = r.back }) b known q k t o
      → Comes s f r b None q k t (and_then o (λ way u. Answer.Goes (out_of way) u))
  unfolding and_then
  block_comes r l b known q k t (Answer.Goes Way.On u) e h = forgets r b known q k t (Answer.Goes Way.On u) h
  block_comes r l b known q k t (Answer.Goes (Way.Out zero) u) e h = subst (λ p. Arrives s f p None u k t) e h.1
  block_comes r l b known q k t (Answer.Goes (Way.Out (suc n)) u) e h = (omega (arith, h.0), h.1)
  block_comes r l b known q k t (Answer.Goes (Way.Back word) u) e h = h
  block_comes r l b known q k t (Answer.Ends ending u) e h = h
