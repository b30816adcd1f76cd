-- What holds between a state of the typed tree's run and a point of the code's.
use Rattle.std.specs.Prelude.{◌==◌, if◌then◌else◌}
use Rattle.std.proofs.Common.{◌≡◌, ◌≢◌, ℕ, ◌+◌, ◌<◌, ◌≤◌, Bool, true, false, refl, sym, ap, ◌∙◌, subst, arith}
use Rattle.bb_words.specs.Answers.{Goes, Ends}
use Rattle.source_meaning.specs.declared.values.Value.{Value}
use Rattle.source_meaning.specs.declared.values.Value.TheVariants.{Num, Ptr}
use Rattle.source_meaning.specs.declared.values.Slot.{Slot}
use Rattle.source_meaning.specs.declared.values.Slot.TheVariants.{Kept}
use Rattle.source_meaning.specs.declared.values.Held.{Held}
use Rattle.source_meaning.specs.declared.values.Held.TheVariants.{Of}
use Rattle.source_meaning.specs.Worlds.{World, Does, Line, noted}
use Rattle.source_meaning.specs.States.{State, tick, done_in, doing as does, with_slot}
use Rattle.source_meaning.specs.Meaning.{begin}
use Rattle.source_meaning.specs.Runs.{cost}
use Rattle.c_words.specs.declared.place.At.{At as Spot}
use Rattle.mid_code.specs.Meaning.{Point, Way, On, spend, set, with_value, at_world, done_at, doing}
use Rattle.lowering_keeps.proofs.Sim.{Over, Sim, goes, ends}

-- local j is a number in both runs, the same
pub record Agrees (c : State) (v : Point) (j : ℕ) : Type 0 where
  pub number : ℕ
  pub slot : c.locals j ≡ Kept (Num number)
  pub value : v.values j ≡ Num number

-- one world, the locals below k agree, and s of what was earned is left
pub record Meets (k s : ℕ) (c : State) (v : Point) : Type 0 where
  pub world : v.world ≡ c.world
  pub locals : (j : ℕ) → j < k → Agrees c v j
  pub paid : v.time + s ≤ cost c

-- the values from k to below t are as they were
abbrev pub Rests : ℕ → ℕ → Point → Point → Type 0
Rests k t v0 v = (i : ℕ) → k ≤ i → i < t → v.values i ≡ v0.values i

-- value t holds the number n
pub record Holds (k t s : ℕ) (v0 : Point) (n : ℕ) (c : State) (v : Point) : Type 0 where
  pub holds : v.values t ≡ Num n
  pub rests : Rests k t v0 v
  pub meets : Meets k s c v

-- the code of an expression has come to its end, and value t holds the expression's value
pub record Lands (k t s : ℕ) (v0 : Point) (x : Held) (c : State) (w : Way) (v : Point) : Type 0 where
  pub on : w ≡ On
  pub number : ℕ
  pub value : x ≡ Of (Num number)
  pub holds : Holds k t s v0 number c v

pub lands : (k t s : ℕ) (v0 : Point) (n : ℕ) (c : State) (v : Point) → Holds k t s v0 n c v → Lands k t s v0 (Of (Num n)) c On v
lands k t s v0 n c v h = record { on = refl; number = n; value = refl; holds = h }

here : (f : ℕ → Value) (i : ℕ) (x : Value) → with_value f i x i ≡ x
here f i x = grind arith

pub there : (f : ℕ → Value) (i j : ℕ) (x : Value) → j ≢ i → with_value f i x j ≡ f j
there f i j x ne = grind arith

here_slot : (f : ℕ → Slot) (i : ℕ) (x : Slot) → with_slot f i x i ≡ x
here_slot f i x = grind arith

there_slot : (f : ℕ → Slot) (i j : ℕ) (x : Slot) → j ≢ i → with_slot f i x j ≡ f j
there_slot f i j x ne = grind arith

pub less : (k s s' : ℕ) (c : State) (v : Point) → s' ≤ s → Meets k s c v → Meets k s' c v
less k s s' c v le h = record { world = h.world; locals = h.locals; paid = omega (arith, h.paid) }

pub ticked : (k s : ℕ) (c : State) (v : Point) → Meets k s c v → Meets k (s + 1024) (tick c) v
ticked k s c v h = record {
  world = h.world;
  locals = λ j lt. let a = h.locals j lt in record { number = a.number; slot = a.slot; value = a.value };
  paid = omega (arith, h.paid);
}

pub spent : (n k s : ℕ) (c : State) (v : Point) → Meets k (s + n) c v → Meets k s c (spend n v)
spent n k s c v h = record {
  world = h.world;
  locals = λ j lt. let a = h.locals j lt in record { number = a.number; slot = a.slot; value = a.value };
  paid = omega (arith, h.paid);
}

-- a statement begins
abbrev pub marked : (line : ℕ) → Point → Point
marked line v = record { world = noted (Line line) v.world; values = v.values; time = v.time + 4 }

pub begins : (at : Spot) (k s : ℕ) (c : State) (v : Point) → Meets k s c v → Meets k (s + 1020) (begin at c) (marked at.line v)
begins at k s c v h = record {
  world = ap (noted (Line at.line)) h.world;
  locals = λ j lt. let a = h.locals j lt in record { number = a.number; slot = a.slot; value = a.value };
  paid = omega (arith, h.paid);
}

pub sets : (k t s n : ℕ) (c : State) (v : Point) → k ≤ t → Meets k s c v → Meets k s c (set t (Num n) v)
sets k t s n c v le h = record {
  world = h.world;
  locals = λ j lt. let a = h.locals j lt in record { number = a.number; slot = a.slot; value = there v.values t j (Num n) (λ e. omega arith) ∙ a.value };
  paid = h.paid;
}

-- a value is set
pub holds_set : (k t s n : ℕ) (v0 : Point) (c : State) (v : Point) → k ≤ t → Rests k t v0 v → Meets k s c v → Holds k t s v0 n c (set t (Num n) v)
holds_set k t s n v0 c v le rests h = record {
  holds = here v.values t (Num n);
  rests = λ i lo hi. there v.values t i (Num n) (λ e. omega arith) ∙ rests i lo hi;
  meets = sets k t s n c v le h;
}

-- a local is set in both runs
abbrev pub with_local : ℕ → ℕ → State → State
with_local j n c = record c { locals = with_slot c.locals j (Kept (Num n)) }

pub assigned : (k s j n : ℕ) (c : State) (v : Point) → Meets k s c v → Meets k s (with_local j n c) (set j (Num n) v)
assigned k s j n c v h = record {
  world = h.world;
  locals = λ i lt. of i (i == j) refl (h.locals i lt);
  paid = h.paid;
}
  where
    of : (i : ℕ) (b : Bool) → (i == j) ≡ b → Agrees c v i → Agrees (with_local j n c) (set j (Num n) v) i
    of i true e a = record {
      number = n;
      slot = ap (λ z. if z then Kept (Num n) else c.locals i) e;
      value = ap (λ z. if z then Num n else v.values i) e;
    }
    of i false e a = record {
      number = a.number;
      slot = ap (λ z. if z then Kept (Num n) else c.locals i) e ∙ a.slot;
      value = ap (λ z. if z then Num n else v.values i) e ∙ a.value;
    }

pub held_assigned : (k t s j n m : ℕ) (v0 : Point) (c : State) (v : Point) → j < k → k ≤ t → Holds k t s v0 n c v → Holds k t s v0 n (with_local j m c) (set j (Num m) v)
held_assigned k t s j n m v0 c v lt le h = record {
  holds = there v.values j t (Num m) (λ e. omega arith) ∙ h.holds;
  rests = λ i lo hi. there v.values j i (Num m) (λ e. omega arith) ∙ h.rests i lo hi;
  meets = assigned k s j m c v h.meets;
}

pub overs : (k s : ℕ) (c : State) (v : Point) → Meets k s c v → Over c v
overs k s c v h = (h.world, omega (arith, h.paid))

-- ---- Operations on the world

-- An operation answers with a number, and the world has counted no fewer bytes.
abbrev pub IsNumeral : World → Does Value → Type 0
IsNumeral w (Goes (Num n) w') = w.bytes ≤ w'.bytes
IsNumeral w (Goes (Ptr q) w') = ⊥
IsNumeral w (Ends e w') = w.bytes ≤ w'.bytes

-- the same with an answer of any kind
abbrev pub Grows : {A : Type 0} → World → Does A → Type 0
Grows w (Goes a w') = w.bytes ≤ w'.bytes
Grows w (Ends e w') = w.bytes ≤ w'.bytes

-- the same operation on the same world
pub record Did {A : Type 0} (k s : ℕ) (v0 : Point) (a : A) (c : State) (b : A) (v : Point) : Type 0 where
  pub result : b ≡ a
  pub unset : v.values ≡ v0.values
  pub meets : Meets k s c v

pub at_world_meets : (k s : ℕ) (c : State) (v : Point) (w : World) → Meets k s c v → c.world.bytes ≤ w.bytes → Meets k s (record c { world = w }) (at_world w v)
at_world_meets k s c v w h le = record {
  world = refl;
  locals = λ j lt. let a = h.locals j lt in record { number = a.number; slot = a.slot; value = a.value };
  paid = omega (arith, h.paid, le, ap (λ u. u.bytes) h.world);
}

-- an operation that leaves the world as it is
pub unchanged_meets : (k s : ℕ) (c : State) (v : Point) → Meets k s c v → Meets k s c (at_world v.world v)
unchanged_meets k s c v h = record {
  world = h.world;
  locals = λ j lt. let a = h.locals j lt in record { number = a.number; slot = a.slot; value = a.value };
  paid = omega (arith, h.paid);
}

does_in : {A : Type 0} (k s : ℕ) (c : State) (v : Point) (r q : Does A) → q ≡ r → Meets k s c v → Grows c.world r → Sim (Did k s v) (done_in c r) (done_at v q)
does_in k s c v (Goes a w) q e h le =
    subst (λ z. Sim (Did k s v) (Goes a (record c { world = w })) (done_at v z)) (sym e)
    (goes (Did k s v) a (record c { world = w }) a (at_world w v) (record { result = refl; unset = refl; meets = at_world_meets k s c v w h le }))
does_in {A = A} k s c v (Ends o w) q e h le =
    subst (λ z. Sim (Did {A = A} k s v) (Ends o (record c { world = w })) (done_at v z)) (sym e)
    (ends (Did {A = A} k s v) o (record c { world = w }) (at_world w v) (overs k s (record c { world = w }) (at_world w v) (at_world_meets k s c v w h le)))

pub did : {A : Type 0} (k s : ℕ) (c : State) (v : Point) (f g : World → Does A) → g ≡ f → Meets k s c v → Grows c.world (f c.world) → Sim (Did k s v) (does f c) (doing g v)
did k s c v f g e h le = does_in k s c v (f c.world) (g v.world) (ap (λ w. g w) h.world ∙ ap (λ p. p c.world) e) h le
