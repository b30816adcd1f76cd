-- One run follows another: the run of flat code follows that of mid code.
use Rattle.std.proofs.Common.{◌≡◌, ℕ, zero, suc, [], ◌++◌, refl, sym, ap, ◌∙◌, subst, append_assoc, append-nil}
use Rattle.bb_words.specs.Answers.{Answer, Goes, Ends, and_then}
use Rattle.source_meaning.specs.declared.values.Ending.TheVariants.{Exited, Reported, Trapped, Outside, Cut}
use Rattle.mid_code.specs.Meaning.{MidEnding, Came, Strayed, Point, Goings}
use Rattle.flat_code.specs.Code.{FSteps, none, more, ◌+++◌}
use Rattle.flat_code.specs.Told as Told
use Rattle.flat_code.specs.Told.{Stamped}
use Rattle.flat_code_laws.specs.Laws.{point_of}
use Rattle.flat_code.specs.World.{FPoint, point, spend, Ending, Run, Way, onward, again}
use Rattle.flat_code.specs.Time.{charge, turn_charge}
use Rattle.flat_code.specs.Run.{Calls, act, act_all, turns}
use Rattle.injection.specs.Trail.{SafeSites}
use Rattle.bounds_instr_keeps.specs.Keeps.{Stops, IsCut, Begins, EndsAlike}

abbrev pub Reaches : {A B : Type 0} → SafeSites → (A → Point → B → FPoint → Type 0) → Goings A → Run B → Type 0
Reaches {B = B} safe R (Goes a v) q = (b : B) × (u : FPoint) × (q ≡ Goes b u) × R a v b u
Reaches safe R (Ends e v) q = EndsAlike safe e v q

-- where the first run goes on or ends, so does the second, with what R and EndsAlike say
pub record Follows {A B : Type 0} (safe : SafeSites) (R : A → Point → B → FPoint → Type 0) (r : Goings A) (q : Run B) : Type 0 where
  pub by : Reaches safe R r q

-- ---- What was told only grows

pub record Grows {B : Type 0} (u : FPoint) (q : Run B) : Type 0 where
  pub told : Told.Begins (point_of q).world.told u.world.told

pub grows_on : {B : Type 0} (u : FPoint) (b : B) (t : FPoint) → t.world.told ≡ u.world.told → Grows u (Goes b t)
grows_on u b t e = record { told = record { rest = []; is = e ∙ sym (append-nil u.world.told) } }

pub grows_end : {B : Type 0} (u : FPoint) (e : Ending) (t : FPoint) → t.world.told ≡ u.world.told → Grows {B = B} u (Ends e t)
grows_end u e t h = record { told = record { rest = []; is = h ∙ sym (append-nil u.world.told) } }

pub grows_then : {A B : Type 0} (u : FPoint) (q : Run A) (h : A → FPoint → Run B) → Grows u q → ((a : A) (t : FPoint) → Grows t (h a t)) → Grows u (and_then q h)
unfolding and_then
grows_then u (Goes a t) h g k =
    let next = (k a t).told in
    record { told = record { rest = g.told.rest ++ next.rest; is = next.is ∙ ap (λ x. x ++ next.rest) g.told.is ∙ append_assoc u.world.told g.told.rest next.rest } }
grows_then u (Ends e t) h g k = record { told = g.told }

pub turns_grow : (body : FPoint → Run Way) → ((u : FPoint) → Grows u (body u)) → (n : ℕ) (u : FPoint) → Grows u (turns n body u)
turns_grow body h zero u = grows_end u Ending.Cut u refl
turns_grow body h (suc n) u =
    grows_then u (body (point u.words (spend turn_charge u.world))) (λ way t. again way t (turns n body))
    (record { told = (h (point u.words (spend turn_charge u.world))).told }) (λ way t. of (λ s. turns_grow body h n s) way t)
  where
    of : ((s : FPoint) → Grows s (turns n body s)) → (way : Way) (t : FPoint) → Grows t (again way t (turns n body))
    of rec Way.On t = rec t
    of rec (Way.Out k) t = grows_on t _ t refl
    of rec (Way.Back w) t = grows_on t _ t refl

pub onward_grows : (go : FPoint → Run Way) → ((u : FPoint) → Grows u (go u)) → (way : Way) (t : FPoint) → Grows t (onward way t go)
onward_grows go h Way.On t = h t
onward_grows go h (Way.Out k) t = grows_on t _ t refl
onward_grows go h (Way.Back w) t = grows_on t _ t refl

-- ---- Going on in both runs

module _ (safe : SafeSites) where
  begins_then : {A B : Type 0} (v : Point) (q : Run A) (h : A → FPoint → Run B) → ((a : A) (t : FPoint) → Grows t (h a t)) → Begins safe v q → Begins safe v (and_then q h)
  unfolding and_then
  begins_then v (Goes a t) h k b =
      let next = (k a t).told in
      record {
        front = b.front;
        came = record { rest = b.came.rest ++ next.rest; is = next.is ∙ ap (λ x. x ++ next.rest) b.came.is ∙ append_assoc b.front b.came.rest next.rest; by = b.came.by };
        says = b.says;
      }
  begins_then v (Ends e t) h k b = record { front = b.front; came = b.came; says = b.says }

  stops_then : {A B : Type 0} (e : Ending) (v : Point) (q : Run A) (h : A → FPoint → Run B) → Stops safe e v q → Stops safe e v (and_then q h)
  unfolding and_then
  stops_then e v q h s = record { point = s.point; is = ap (λ z. and_then z h) s.is; says = s.says; time = s.time }

  cut_then : {A B : Type 0} (v : Point) (q : Run A) (h : A → FPoint → Run B) → IsCut safe v q → IsCut safe v (and_then q h)
  unfolding and_then
  cut_then v q h s = record { point = s.point; is = ap (λ z. and_then z h) s.is; says = s.says; by = s.by }

  ends_then : {A B : Type 0} (e : MidEnding) (v : Point) (q : Run A) (h : A → FPoint → Run B) → ((a : A) (t : FPoint) → Grows t (h a t)) → EndsAlike safe e v q → EndsAlike safe e v (and_then q h)
  ends_then (Came (Exited n)) v q h k s = stops_then _ v q h s
  ends_then (Came (Reported kind line)) v q h k s = stops_then _ v q h s
  ends_then (Came (Trapped kind)) v q h k s = stops_then _ v q h s
  ends_then (Came Cut) v q h k s = cut_then v q h s
  ends_then (Came (Outside cause)) v q h k s = begins_then v q h k s
  ends_then Strayed v q h k s = tt

  pub follows_then : {A B A' B' : Type 0} (R : A → Point → B → FPoint → Type 0) (R' : A' → Point → B' → FPoint → Type 0) (r : Goings A) (q : Run B) (f : A → Point → Goings A') (h : B → FPoint → Run B') → Follows safe R r q → ((b : B) (t : FPoint) → Grows t (h b t)) → ((a : A) (v : Point) (b : B) (u : FPoint) → R a v b u → Follows safe R' (f a v) (h b u)) → Follows safe R' (and_then r f) (and_then q h)
  unfolding and_then
  follows_then R R' (Goes a v) q f h s grows k =
      subst (λ z. Follows safe R' (f a v) (and_then z h)) (sym s.by.2) (k a v s.by.0 s.by.1 s.by.3)
  follows_then R R' (Ends e v) q f h s grows k = record { by = ends_then e v q h grows s.by }

  pub follows_goes : {A B : Type 0} (R : A → Point → B → FPoint → Type 0) (a : A) (v : Point) (b : B) (u : FPoint) → R a v b u → Follows safe R (Goes a v) (Goes b u)
  follows_goes R a v b u h = record { by = (b, u, refl, h) }

  -- the flat run in another form
  pub to_equal : {A B : Type 0} (R : A → Point → B → FPoint → Type 0) (r : Goings A) (q q' : Run B) → q ≡ q' → Follows safe R r q' → Follows safe R r q
  to_equal R r q q' e h = subst (λ z. Follows safe R r z) (sym e) h

  -- the run of mid code in another form
  pub from_equal : {A B : Type 0} (R : A → Point → B → FPoint → Type 0) (r r' : Goings A) (q : Run B) → r ≡ r' → Follows safe R r' q → Follows safe R r q
  from_equal R r r' q e h = subst (λ z. Follows safe R z q) (sym e) h

-- ---- Steps one after another

pub goes_then : {E S A B : Type 0} (a : A) (s : S) (f : A → S → Answer E S B) → and_then (Goes a s) f ≡ f a s
unfolding and_then
goes_then a s f = refl

module _ (g : ℕ) (call : Calls) (m frame : ℕ) where
  abbrev run_of : FSteps → FPoint → Run Way
  run_of xs = act_all g call m frame xs

  pub acts_append : (xs ys : FSteps) (u : FPoint) → act_all g call m frame (xs +++ ys) u ≡ and_then (act_all g call m frame xs u) (λ way t. onward way t (act_all g call m frame ys))
  unfolding and_then
  acts_append none ys u = refl
  acts_append (more x xs) ys u = from (λ t. acts_append xs ys t) (act g call m frame x (point u.words (spend (charge x) u.world)))
    where
      go : ((t : FPoint) → run_of (xs +++ ys) t ≡ and_then (run_of xs t) (λ way s. onward way s (run_of ys))) → (way : Way) (t : FPoint) → onward way t (run_of (xs +++ ys)) ≡ and_then (onward way t (run_of xs)) (λ way s. onward way s (run_of ys))
      go rec Way.On t = rec t
      go rec (Way.Out n) t = refl
      go rec (Way.Back w) t = refl

      from : ((t : FPoint) → run_of (xs +++ ys) t ≡ and_then (run_of xs t) (λ way s. onward way s (run_of ys))) → (q : Run Way) → and_then q (λ way t. onward way t (run_of (xs +++ ys))) ≡ and_then (and_then q (λ way t. onward way t (run_of xs))) (λ way t. onward way t (run_of ys))
      from rec (Goes way t) = go rec way t
      from rec (Ends e t) = refl

  at_end : (q : Run Way) → and_then q (λ way t. onward way t (act_all g call m frame none)) ≡ q
  unfolding and_then
  at_end (Ends e t) = refl
  at_end (Goes Way.On t) = refl
  at_end (Goes (Way.Out n) t) = refl
  at_end (Goes (Way.Back w) t) = refl

  pub only_acts : (x : _) (u : FPoint) → act_all g call m frame (more x none) u ≡ act g call m frame x (point u.words (spend (charge x) u.world))
  only_acts x u = at_end (act g call m frame x (point u.words (spend (charge x) u.world)))
