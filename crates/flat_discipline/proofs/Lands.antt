-- Where the steps of a function come to, and what holds of each step on the way.
use Rattle.std.proofs.Common.{◌≡◌, ◌≢◌, ℕ, zero, suc, ◌+◌, List, ◌∷◌, Some, Bool, true, false, cond, refl, sym, ap, ◌∙◌, subst, ⊎_elim, arith, true≢false}
use Rattle.std.specs.Prelude.{◌==◌, ◌&&◌, slice_get}
use Rattle.std.proofs.lemmas.Bool.Decides.{eqb_tells}
use Rattle.bb_words.specs.Answers.{Answer, and_then, either}
use Rattle.size_table.specs.Blocks.{Block}
use Rattle.flat_code.specs.Code.{FStep, FSteps, ◌+++◌, FFunction}
use Rattle.flat_code.specs.World.{FWorld, FPoint, point, spend, choose, Run, Way, onward, out_of, again}
use Rattle.flat_code.specs.Time.{charge, turn_charge}
use Rattle.flat_code.specs.Run.{turns, Calls, act, act_all}
use Rattle.flat_discipline.specs.Items.{step_places, steps_places}
use Rattle.flat_discipline.specs.Discipline.{ResultLost}
use Rattle.flat_discipline.specs.Comes.{Claim, IfOn, InTurns, InStep, InSteps}
use Rattle.flat_discipline.specs.Safe.{IsInRange}
use Rattle.flat_discipline.proofs.Blocks.{both, Good}
use Rattle.flat_discipline.proofs.Worlds.{ever, Holds}
use Rattle.flat_discipline.proofs.Points.{Base, OkAt, spent}

-- ---- Answers

pub if_on_any : (r : Run Way) (P : FPoint → Type 0) → ((t : FPoint) → P t) → IfOn r P
if_on_any (Answer.Goes Way.On t) P h = h t
if_on_any (Answer.Goes (Way.Out n) t) P h = tt
if_on_any (Answer.Goes (Way.Back n) t) P h = tt
if_on_any (Answer.Ends e t) P h = tt

-- one of two ways, by a number that is tested
pub by_zero : {A : Type 0} (x : ℕ) (P : A → Type 0) (a b : FPoint → A) (u : FPoint) → (x ≡ 0 → P (a u)) → (x ≢ 0 → P (b u)) → P (choose (x == 0) a b u)
by_zero x P a b u h k = ⊎_elim
    (λ e. subst (λ t. P (choose t a b u)) (sym e.0) (h e.1))
    (λ e. subst (λ t. P (choose t a b u)) (sym e.0) (k e.1))
    (eqb_tells x 0)

pub claims_by_zero : (x : ℕ) (a b : FPoint → Type 0) (u : FPoint) → (x ≡ 0 → a u) → (x ≢ 0 → b u) → either (x == 0) a b u
claims_by_zero x a b u h k = ⊎_elim
    (λ e. subst (λ t. either t a b u) (sym e.0) (h e.1))
    (λ e. subst (λ t. either t a b u) (sym e.0) (k e.1))
    (eqb_tells x 0)

-- ---- Steps one after another

pub all_append : (g : ℕ) (call : Calls) (m frame : ℕ) (xs ys : FSteps) (u : FPoint) → act_all g call m frame (xs +++ ys) u ≡ and_then (act_all g call m frame xs u) (λ way t. onward way t (act_all g call m frame ys))
unfolding and_then
all_append g call m frame FSteps.none ys u = refl
all_append g call m frame (FSteps.more x xs) ys u = by (λ t. all_append g call m frame xs ys t) (act g call m frame x (point u.words (spend (charge x) u.world)))
  where
    by : ((t : FPoint) → act_all g call m frame (xs +++ ys) t ≡ and_then (act_all g call m frame xs t) (λ way t. onward way t (act_all g call m frame ys))) → (r : Run Way)
        → and_then r (λ way t. onward way t (act_all g call m frame (xs +++ ys))) ≡ and_then (and_then r (λ way t. onward way t (act_all g call m frame xs))) (λ way t. onward way t (act_all g call m frame ys))
    by h (Answer.Goes Way.On t) = h t
    by h (Answer.Goes (Way.Out n) t) = refl
    by h (Answer.Goes (Way.Back n) t) = refl
    by h (Answer.Ends o t) = refl

-- a single step
pub one_step : (g : ℕ) (call : Calls) (m frame : ℕ) (x : FStep) (u : FPoint) → act_all g call m frame (FSteps.more x FSteps.none) u ≡ act g call m frame x (point u.words (spend (charge x) u.world))
unfolding and_then
one_step g call m frame x u = by (act g call m frame x (point u.words (spend (charge x) u.world)))
  where
    by : (r : Run Way) → and_then r (λ way t. onward way t (act_all g call m frame FSteps.none)) ≡ r
    by (Answer.Goes Way.On t) = refl
    by (Answer.Goes (Way.Out n) t) = refl
    by (Answer.Goes (Way.Back n) t) = refl
    by (Answer.Ends o t) = refl

pub places_append : (xs ys : FSteps) → steps_places (xs +++ ys) ≡ steps_places xs + steps_places ys
places_append FSteps.none ys = (let z : steps_places ys ≡ 0 + steps_places ys = omega arith in z)
places_append (FSteps.more x xs) ys = ap (λ n. step_places x + n) (places_append xs ys) ∙ (let z : step_places x + (steps_places xs + steps_places ys) ≡ step_places x + steps_places xs + steps_places ys = omega arith in z)

module _ (g : ℕ) (call : Calls) (m frame : ℕ) (inside : (function : ℕ) → (args : List ℕ) → FPoint → Type 0) (claim : Claim) where
  pub in_append : (xs ys : FSteps) (p : ℕ) (u : FPoint) → InSteps g call m frame inside claim xs p u → IfOn (act_all g call m frame xs u) (InSteps g call m frame inside claim ys (p + steps_places xs)) → InSteps g call m frame inside claim (xs +++ ys) p u
  unfolding and_then
  in_append FSteps.none ys p u h k = subst (λ n. InSteps g call m frame inside claim ys n u) (let z : p + 0 ≡ p = omega arith in z) k
  in_append (FSteps.more x xs) ys p u h k = (h.0, h.1, by (act g call m frame x (point u.words (spend (charge x) u.world))) h.2 k (λ t a b. in_append xs ys (p + step_places x) t a b))
    where
      place : p + (step_places x + steps_places xs) ≡ p + step_places x + steps_places xs
      place = omega arith

      by : (r : Run Way) → IfOn r (InSteps g call m frame inside claim xs (p + step_places x)) → IfOn (and_then r (λ way t. onward way t (act_all g call m frame xs))) (InSteps g call m frame inside claim ys (p + (step_places x + steps_places xs)))
          → ((t : FPoint) → InSteps g call m frame inside claim xs (p + step_places x) t → IfOn (act_all g call m frame xs t) (InSteps g call m frame inside claim ys (p + step_places x + steps_places xs)) → InSteps g call m frame inside claim (xs +++ ys) (p + step_places x) t)
          → IfOn r (InSteps g call m frame inside claim (xs +++ ys) (p + step_places x))
      by (Answer.Goes Way.On t) a b more = more t a (subst (λ n. IfOn (act_all g call m frame xs t) (InSteps g call m frame inside claim ys n)) place b)
      by (Answer.Goes (Way.Out n) t) a b more = tt
      by (Answer.Goes (Way.Back n) t) a b more = tt
      by (Answer.Ends o t) a b more = tt

-- ---- Steps of which nothing is to be shown

abbrev mutual
  pub quiet_step : FStep → Bool
  quiet_step (FStep.If cond x y) = quiet x && quiet y
  quiet_step (FStep.Number to value) = true
  quiet_step (FStep.Arith to f l r) = true
  quiet_step (FStep.Slot to from) = true
  quiet_step (FStep.Checked from to) = true
  quiet_step (FStep.Report kind line) = true
  quiet_step s = false

  pub quiet : FSteps → Bool
  quiet FSteps.none = true
  quiet (FSteps.more s rest) = quiet_step s && quiet rest

module _ (g : ℕ) (call : Calls) (m frame : ℕ) (functions : List FFunction) (bytes : ℕ) (inside : (function : ℕ) → (args : List ℕ) → FPoint → Type 0) where
  abbrev pub ranged : Claim
  ranged place s u = IsInRange g bytes functions s u

  wrong : {A : Type 0} → false ≡ true → A
  wrong h = absurd (true≢false (sym h))

  mutual
    quiet_claim : (s : FStep) → quiet_step s ≡ true → (p : ℕ) (u : FPoint) → ranged p s u × InStep g call m frame inside ranged s p u
    quiet_claim (FStep.If c x y) h p u =
        let r = both (quiet x) (quiet y) h in (
          tt,
          claims_by_zero (u.words c) (InSteps g call m frame inside ranged y (p + 1 + steps_places x)) (InSteps g call m frame inside ranged x (p + 1)) u
              (λ z. quiet_in y r.1 (p + 1 + steps_places x) u) (λ z. quiet_in x r.0 (p + 1) u),
        )
    quiet_claim (FStep.Number to value) h p u = (tt, tt)
    quiet_claim (FStep.Arith to f l r) h p u = (tt, tt)
    quiet_claim (FStep.Slot to from) h p u = (tt, tt)
    quiet_claim (FStep.Checked from to) h p u = (tt, tt)
    quiet_claim (FStep.Report kind line) h p u = (tt, tt)
    quiet_claim (FStep.Same a b) h p u = wrong h
    quiet_claim (FStep.Block a) h p u = wrong h
    quiet_claim (FStep.Loop a) h p u = wrong h
    quiet_claim (FStep.Inner a) h p u = wrong h
    quiet_claim (FStep.Exit n) h p u = wrong h
    quiet_claim (FStep.Call a b c) h p u = wrong h
    quiet_claim (FStep.Return a) h p u = wrong h
    quiet_claim (FStep.Look a b) h p u = wrong h
    quiet_claim (FStep.FrameAt a b) h p u = wrong h
    quiet_claim (FStep.Load a b c) h p u = wrong h
    quiet_claim (FStep.Store a b c) h p u = wrong h
    quiet_claim (FStep.LineMark a) h p u = wrong h
    quiet_claim (FStep.Env a b c d) h p u = wrong h

    pub quiet_in : (xs : FSteps) → quiet xs ≡ true → (p : ℕ) (u : FPoint) → InSteps g call m frame inside ranged xs p u
    quiet_in FSteps.none h p u = tt
    quiet_in (FSteps.more s rest) h p u =
        let r = both (quiet_step s) (quiet rest) h in
        let t : FPoint = point u.words (spend (charge s) u.world) in (
          (quiet_claim s r.0 p u).0,
          (quiet_claim s r.0 p t).1,
          if_on_any (act g call m frame s t) (InSteps g call m frame inside ranged rest (p + step_places s)) (λ z. quiet_in rest r.1 (p + step_places s) z),
        )

-- ---- Where steps come to

module _ (g : ℕ) (globals : List Block) (functions : List FFunction) (f : ℕ) (base : ℕ) (w0 : FWorld) where
  abbrev pub Lands : (after : ℕ) → (exits : List ℕ) → (X : FPoint → Type 0) → Run Way → Type 0
  Lands after exits X (Answer.Goes Way.On u) = OkAt g globals functions f base w0 after u × X u
  Lands after exits X (Answer.Goes (Way.Out n) u) = (q : ℕ) × (slice_get exits n ≡ Some q) × OkAt g globals functions f base w0 q u
  Lands after exits X (Answer.Goes (Way.Back word) u) = Base g globals functions f base w0 u.world × ((ResultLost g globals functions f → ⊥) → Good g (ever g globals u.world) word)
  Lands after exits X (Answer.Ends ending u) = Holds g globals u.world

  abbrev pub Any : FPoint → Type 0
  Any u = Unit {0}

  pub lands_as : (after : ℕ) (exits : List ℕ) (X Y : FPoint → Type 0) → ((u : FPoint) → X u → Y u) → (r : Run Way) → Lands after exits X r → Lands after exits Y r
  lands_as after exits X Y h (Answer.Goes Way.On u) l = (l.0, h u l.1)
  lands_as after exits X Y h (Answer.Goes (Way.Out n) u) l = l
  lands_as after exits X Y h (Answer.Goes (Way.Back n) u) l = l
  lands_as after exits X Y h (Answer.Ends e u) l = l

  -- steps come after others
  pub then_lands : (after mid : ℕ) (exits : List ℕ) (X Y Z : FPoint → Type 0) (go : FPoint → Run Way) → (r : Run Way) → Lands mid exits X r
      → ((u : FPoint) → OkAt g globals functions f base w0 mid u → X u → Z u × Lands after exits Y (go u)) → IfOn r Z × Lands after exits Y (and_then r (λ way t. onward way t go))
  unfolding and_then
  then_lands after mid exits X Y Z go (Answer.Goes Way.On u) l h = h u l.0 l.1
  then_lands after mid exits X Y Z go (Answer.Goes (Way.Out n) u) l h = (tt, l)
  then_lands after mid exits X Y Z go (Answer.Goes (Way.Back n) u) l h = (tt, l)
  then_lands after mid exits X Y Z go (Answer.Ends e u) l h = (tt, l)

  -- out of a construct
  pub out_lands : (after : ℕ) (exits : List ℕ) (r : Run Way) → Lands after (after ∷ exits) Any r → Lands after exits Any (and_then r (λ way t. Answer.Goes (out_of way) t))
  unfolding and_then
  out_lands after exits (Answer.Goes Way.On u) l = l
  out_lands after exits (Answer.Goes (Way.Out zero) u) l = (subst (λ q. OkAt g globals functions f base w0 q u) (sym (same after l.0 l.1)) l.2, tt)
    where
      same : (a b : ℕ) → Some a ≡ Some b → a ≡ b
      same a b h = cc
  out_lands after exits (Answer.Goes (Way.Out (suc n)) u) l = l
  out_lands after exits (Answer.Goes (Way.Back n) u) l = l
  out_lands after exits (Answer.Ends e u) l = l

  -- turns of a body that begins at a place and comes back to it
  module _ (p first after : ℕ) (exits : List ℕ) (body : FPoint → Run Way) (In : FPoint → Type 0)
      (enter : (u : FPoint) → OkAt g globals functions f base w0 p u → OkAt g globals functions f base w0 first u)
      (run : (u : FPoint) → OkAt g globals functions f base w0 first u → In u × Lands p (after ∷ exits) Any (body u)) where
    pub turns_land : (n : ℕ) (u : FPoint) → OkAt g globals functions f base w0 p u → InTurns n body In u × Lands after exits Any (turns n body u)
    unfolding and_then
    turns_land zero u at = (tt, at.kept.holds)
    turns_land (suc n) u at =
        let t : FPoint = point u.words (spend turn_charge u.world) in
        let r = run t (enter t (spent g globals functions f base w0 p turn_charge u at)) in
        let rest = turn (body t) r.1 (λ v k. turns_land n v k) in
        ((r.0, rest.0), rest.1)
      where
        same : (a b : ℕ) → Some a ≡ Some b → a ≡ b
        same a b h = cc

        turn : (r : Run Way) → Lands p (after ∷ exits) Any r → ((v : FPoint) → OkAt g globals functions f base w0 p v → InTurns n body In v × Lands after exits Any (turns n body v))
            → IfOn r (InTurns n body In) × Lands after exits Any (and_then r (λ way t. again way t (turns n body)))
        turn (Answer.Goes Way.On v) l more = more v l.0
        turn (Answer.Goes (Way.Out zero) v) l more = (tt, (subst (λ q. OkAt g globals functions f base w0 q v) (sym (same after l.0 l.1)) l.2, tt))
        turn (Answer.Goes (Way.Out (suc k)) v) l more = (tt, l)
        turn (Answer.Goes (Way.Back k) v) l more = (tt, l)
        turn (Answer.Ends e v) l more = (tt, l)
