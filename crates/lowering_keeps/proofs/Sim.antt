-- One run follows another, step by step: the run of mid code follows that of the typed tree.
use Rattle.std.proofs.Common.{◌≡◌, ◌≤◌, refl, sym, ap, subst}
use Rattle.bb_words.specs.Answers.{Answer, Goes, Ends, and_then}
use Rattle.source_meaning.specs.States.{State, Runs}
use Rattle.source_meaning.specs.Runs.{cost}
use Rattle.mid_code.specs.Meaning.{Came, Point, Goings}

-- both runs have ended in one world, and the code has spent no more than the tree has earned
abbrev pub Over : State → Point → Type 0
Over c v = (v.world ≡ c.world) × (v.time ≤ cost c)

abbrev pub Reaches : {A B : Type 0} → (A → State → B → Point → Type 0) → Runs A → Goings B → Type 0
Reaches {B = B} R (Goes a c) q = (b : B) × (v : Point) × (q ≡ Goes b v) × R a c b v
Reaches R (Ends e c) q = (v : Point) × (q ≡ Ends (Came e) v) × Over c v

-- where the first run goes on or ends, so does the second, with what R and Over say
pub record Sim {A B : Type 0} (R : A → State → B → Point → Type 0) (r : Runs A) (q : Goings B) : Type 0 where
  pub by : Reaches R r q

pub goes : {A B : Type 0} (R : A → State → B → Point → Type 0) (a : A) (c : State) (b : B) (v : Point) → R a c b v → Sim R (Goes a c) (Goes b v)
goes R a c b v h = record { by = (b, v, refl, h) }

pub ends : {A B : Type 0} (R : A → State → B → Point → Type 0) (e : _) (c : State) (v : Point) → Over c v → Sim R (Ends e c) (Ends (Came e) v)
ends R e c v h = record { by = (v, refl, h) }

pub sim_then : {A B A' B' : Type 0} (R : A → State → B → Point → Type 0) (R' : A' → State → B' → Point → Type 0) (r : Runs A) (q : Goings B) (f : A → State → Runs A') (g : B → Point → Goings B') → Sim R r q → ((a : A) (c : State) (b : B) (v : Point) → R a c b v → Sim R' (f a c) (g b v)) → Sim R' (and_then r f) (and_then q g)
unfolding and_then
sim_then R R' (Goes a c) q f g h k =
    subst (λ z. Sim R' (f a c) (and_then z g)) (sym h.by.2) (k a c h.by.0 h.by.1 h.by.3)
sim_then R R' (Ends e c) q f g h k = record { by = (h.by.0, ap (λ z. and_then z g) h.by.1, h.by.2) }

-- the second run goes on alone
pub sim_right : {A B B' : Type 0} (R : A → State → B → Point → Type 0) (R' : A → State → B' → Point → Type 0) (r : Runs A) (q : Goings B) (g : B → Point → Goings B') → Sim R r q → ((a : A) (c : State) (b : B) (v : Point) → R a c b v → Sim R' (Goes a c) (g b v)) → Sim R' r (and_then q g)
unfolding and_then
sim_right R R' (Goes a c) q g h k =
    subst (λ z. Sim R' (Goes a c) (and_then z g)) (sym h.by.2) (k a c h.by.0 h.by.1 h.by.3)
sim_right R R' (Ends e c) q g h k = record { by = (h.by.0, ap (λ z. and_then z g) h.by.1, h.by.2) }

-- the first run goes on alone
pub sim_left : {A B A' : Type 0} (R : A → State → B → Point → Type 0) (R' : A' → State → B → Point → Type 0) (r : Runs A) (q : Goings B) (f : A → State → Runs A') → Sim R r q → ((a : A) (c : State) (b : B) (v : Point) → R a c b v → Sim R' (f a c) (Goes b v)) → Sim R' (and_then r f) q
unfolding and_then
sim_left R R' (Goes a c) q f h k =
    subst (λ z. Sim R' (f a c) z) (sym h.by.2) (k a c h.by.0 h.by.1 h.by.3)
sim_left R R' (Ends e c) q f h k = record { by = h.by }

-- the same with a weaker relation
pub sim_weaker : {A B : Type 0} (R R' : A → State → B → Point → Type 0) (r : Runs A) (q : Goings B) → Sim R r q → ((a : A) (c : State) (b : B) (v : Point) → R a c b v → R' a c b v) → Sim R' r q
sim_weaker R R' (Goes a c) q h k = record { by = (h.by.0, h.by.1, h.by.2, k a c h.by.0 h.by.1 h.by.3) }
sim_weaker R R' (Ends e c) q h k = record { by = h.by }

pub assoc : {E S A B C : Type 0} (r : Answer E S A) (f : A → S → Answer E S B) (g : B → S → Answer E S C) → and_then (and_then r f) g ≡ and_then r (λ a s. and_then (f a s) g)
unfolding and_then
assoc (Goes a s) f g = refl
assoc (Ends e s) f g = refl

-- the source's run in another form
pub from_equal : {A B : Type 0} (R : A → State → B → Point → Type 0) (r r' : Runs A) (q : Goings B) → r ≡ r' → Sim R r' q → Sim R r q
from_equal R r r' q e h = subst (λ z. Sim R z q) (sym e) h

-- the code's run in another form
pub to_equal : {A B : Type 0} (R : A → State → B → Point → Type 0) (r : Runs A) (q q' : Goings B) → q ≡ q' → Sim R r q' → Sim R r q
to_equal R r q q' e h = subst (λ z. Sim R r z) (sym e) h
