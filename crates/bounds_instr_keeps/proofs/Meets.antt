-- What holds between a point of mid code's run and one of the flat run.
use Rattle.std.specs.Prelude.{◌==◌, if◌then◌else◌}
use Rattle.std.proofs.Common.{◌≡◌, ◌≢◌, ℕ, suc, ◌+◌, ◌-◌, ◌*◌, ◌<◌, ◌≤◌, Bool, true, false, List, [], ◌∷◌, ◌++◌, All, refl, sym, ◌∙◌, subst, arith}
use Rattle.bb_words.specs.Answers.{Goes, Ends, and_then}
use Rattle.source_meaning.specs.declared.values.Value.{Value}
use Rattle.source_meaning.specs.declared.values.Value.TheVariants.{Num}
use Rattle.source_meaning.specs.declared.values.Ending.TheVariants.{Exited, Reported, Trapped, Outside, Cut}
use Rattle.source_meaning.specs.Objects.{Object}
use Rattle.source_meaning.specs.Worlds.{World, Does, Line, noted}
use Rattle.mid_code.specs.Meaning.{MidEnding, Came, Point, Goings, Way, On, Out, Back, set, with_value, at_world, done_at, setting}
use Rattle.mid_code.specs.Meaning as mid
use Rattle.flat_code.specs.Told.{Tell, Stamped, AllBy}
use Rattle.flat_code.specs.World.{Words, with_word, FWorld, FPoint, point, put, tell, Ending, Run}
use Rattle.flat_code.specs.World as flat
use Rattle.flat_code.specs.Run.{goes}
use Rattle.injection.specs.Words.{word_of_value}
use Rattle.injection.specs.Memory.{IsValue, SameValues}
use Rattle.injection.specs.Trail.{SafeSites}
use Rattle.injection.specs.Worlds.{Accounted, Stays, Since, Injection}
use Rattle.injection.specs.Laws.{SaysKeep, TrailsAppend, GivesAlike}
use Rattle.bounds_instr_keeps.specs.Keeps.{Stops, IsCut, Begins}
use Rattle.bounds_instr_keeps.proofs.Follow.{Follows, Grows, grows_on, follows_goes}

-- ---- Times

pub by_later : (a b : ℕ) (xs : List Stamped) → a ≤ b → AllBy a xs → AllBy b xs
by_later a b [] le h = tt
by_later a b (x ∷ xs) le h = (let q : x.time ≤ b = omega (arith, h.0) in q, by_later a b xs le h.1)

pub by_append : (t : ℕ) (xs ys : List Stamped) → AllBy t xs → AllBy t ys → AllBy t (xs ++ ys)
by_append t [] ys h k = k
by_append t (x ∷ xs) ys h k = (h.0, by_append t xs ys h.1 k)

-- ---- The running call

-- how many values it has, the objects just after it was entered, and its stack number
pub record Frame : Type 0 where
  pub values : ℕ
  pub objects : List Object
  pub stack : ℕ

-- The worlds of both runs: one stands for the other; what lived below the heap at the call's entry still does, and nothing
-- else does; and the rest of the input is bytes.
pub record Agrees (g : ℕ) (safe : SafeSites) (fr : Frame) (w : World) (f : FWorld) : Type 0 where
  pub world : Injection g safe w f
  pub accounted : Accounted fr.objects w.objects
  pub stays : Stays fr.objects w.objects
  pub since : Since fr.objects w.objects
  pub own : w.stack ≡ fr.stack
  pub bytes : All (λ b. b < 256) w.rest

-- Values have their words, s of the time that mid code has counted is left, and all that was told came by its time.
pub record Meets (g : ℕ) (safe : SafeSites) (fr : Frame) (s : ℕ) (v : Point) (u : FPoint) : Type 0 where
  pub agrees : Agrees g safe fr v.world u.world
  pub values : SameValues g fr.values v.world.objects v.values u.words
  pub paid : u.world.time + s ≤ v.time
  pub by : AllBy v.time u.world.told

-- the same, when time goes on
pub injection_spend : (g : ℕ) (safe : SafeSites) (w : World) (f : FWorld) (n : ℕ) → Injection g safe w f → Injection g safe w (flat.spend n f)
injection_spend g safe w f n h = record {
  injects = h.injects;
  blocks = h.blocks;
  depths = h.depths;
  stacks = h.stacks;
  inputs = h.inputs;
  says = h.says;
  named = h.named;
  heights = h.heights;
  regions = h.regions;
}

pub agrees_spend : (g : ℕ) (safe : SafeSites) (fr : Frame) (w : World) (f : FWorld) (n : ℕ) → Agrees g safe fr w f → Agrees g safe fr w (flat.spend n f)
agrees_spend g safe fr w f n h = record {
  world = injection_spend g safe w f n h.world;
  accounted = h.accounted;
  stays = h.stays;
  since = h.since;
  own = h.own;
  bytes = h.bytes;
}

pub here : (f : ℕ → Value) (i : ℕ) (x : Value) → with_value f i x i ≡ x
here f i x = grind arith

pub there : (f : ℕ → Value) (i j : ℕ) (x : Value) → j ≢ i → with_value f i x j ≡ f j
there f i j x ne = grind arith

pub word_here : (f : Words) (i x : ℕ) → with_word f i x i ≡ x
word_here f i x = grind arith

pub word_there : (f : Words) (i j x : ℕ) → j ≢ i → with_word f i x j ≡ f j
word_there f i j x ne = grind arith

-- a value is set, and its word
pub same_set : (g n : ℕ) (os : List Object) (values : ℕ → Value) (words : Words) (to : ℕ) (x : Value) (w : ℕ) → IsValue g os x → w ≡ word_of_value os x → SameValues g n os values words → SameValues g n os (with_value values to x) (with_word words to w)
same_set g n os values words to x w formed is h = record {
  each = λ i lt. each_of i (i == to) (h.each i lt);
  formed = λ i lt. formed_of (values i) (i == to) (h.formed i lt);
}
  where
    each_of : (i : ℕ) (b : Bool) → words i ≡ word_of_value os (values i) → (if b then w else words i) ≡ word_of_value os (if b then x else values i)
    each_of i true e = is
    each_of i false e = e

    formed_of : (y : Value) (b : Bool) → IsValue g os y → IsValue g os (if b then x else y)
    formed_of y true f = formed
    formed_of y false f = f

-- a temporary is set
pub same_put : (g n : ℕ) (os : List Object) (values : ℕ → Value) (words : Words) (t w : ℕ) → n ≤ t → SameValues g n os values words → SameValues g n os values (with_word words t w)
same_put g n os values words t w le h = record {
  each = λ i lt. word_there words t i w (λ e. omega (arith, le, lt, e)) ∙ h.each i lt;
  formed = h.formed;
}

-- what is told now came by the time of mid code
pub told_by : (v : Point) (u : FPoint) (t s : ℕ) (what : Tell) → v.time ≤ t → u.world.time + s ≤ v.time → AllBy v.time u.world.told → AllBy t (u.world.told ++ record { time = u.world.time; what = what } ∷ [])
told_by v u t s what le paid by =
    by_append t u.world.told (record { time = u.world.time; what = what } ∷ []) (by_later v.time t u.world.told le by) (let q : u.world.time ≤ t = omega (arith, le, paid) in q, tt)

module _ (g : ℕ) (safe : SafeSites) (fr : Frame) where
  pub less : (s s' : ℕ) (v : Point) (u : FPoint) → s' ≤ s → Meets g safe fr s v u → Meets g safe fr s' v u
  less s s' v u le h = record { agrees = h.agrees; values = h.values; paid = omega (arith, h.paid); by = h.by }

  -- both runs go on for some time
  pub spent : (a b s s' : ℕ) (v : Point) (u : FPoint) → b + s' ≤ a + s → Meets g safe fr s v u → Meets g safe fr s' (mid.spend a v) (point u.words (flat.spend b u.world))
  spent a b s s' v u le h = record {
    agrees = agrees_spend g safe fr v.world u.world b h.agrees;
    values = h.values;
    paid = omega (arith, h.paid);
    by = by_later v.time (v.time + a) u.world.told (omega arith) h.by;
  }

  -- the run of mid code alone
  pub earned : (a s : ℕ) (v : Point) (u : FPoint) → Meets g safe fr s v u → Meets g safe fr s (mid.spend a v) u
  earned a s v u h = record { agrees = h.agrees; values = h.values; paid = omega (arith, h.paid); by = by_later v.time (v.time + a) u.world.told (omega arith) h.by }

  -- the flat run alone
  pub flat_spent : (b s s' : ℕ) (v : Point) (u : FPoint) → b + s' ≤ s → Meets g safe fr s v u → Meets g safe fr s' v (point u.words (flat.spend b u.world))
  flat_spent b s s' v u le h = record {
    agrees = agrees_spend g safe fr v.world u.world b h.agrees;
    values = h.values;
    paid = omega (arith, h.paid);
    by = h.by;
  }

  -- mid code is charged for a step, and the flat run has that time left
  pub gained : (a s s' : ℕ) (v : Point) (u : FPoint) → s' ≤ a + s → Meets g safe fr s v u → Meets g safe fr s' (mid.spend a v) u
  gained a s s' v u le h = record { agrees = h.agrees; values = h.values; paid = omega (arith, h.paid); by = by_later v.time (v.time + a) u.world.told (omega arith) h.by }

  -- an operation on the world that leaves it as it is
  pub unchanged : (s : ℕ) (v : Point) (u : FPoint) → Meets g safe fr s v u → Meets g safe fr s (at_world v.world v) u
  unchanged s v u h = record {
    agrees = h.agrees;
    values = h.values;
    paid = omega (arith, h.paid);
    by = by_later v.time (v.time + 64 * (v.world.bytes - v.world.bytes)) u.world.told (omega arith) h.by;
  }

  pub sets : (s to : ℕ) (x : Value) (w : ℕ) (v : Point) (u : FPoint) → IsValue g v.world.objects x → w ≡ word_of_value v.world.objects x → Meets g safe fr s v u → Meets g safe fr s (set to x v) (put to w u)
  sets s to x w v u formed is h = record {
    agrees = h.agrees;
    values = same_set g fr.values v.world.objects v.values u.words to x w formed is h.values;
    paid = h.paid;
    by = h.by;
  }

  -- a temporary of the flat run
  pub puts : (s t w : ℕ) (v : Point) (u : FPoint) → fr.values ≤ t → Meets g safe fr s v u → Meets g safe fr s v (put t w u)
  puts s t w v u le h = record {
    agrees = h.agrees;
    values = same_put g fr.values v.world.objects v.values u.words t w le h.values;
    paid = h.paid;
    by = h.by;
  }

  -- a step of the flat run sets a temporary
  pub sets_temporary : (b s s' t w : ℕ) (v : Point) (u : FPoint) → b + s' ≤ s → fr.values ≤ t → Meets g safe fr s v u → Meets g safe fr s' v (put t w (point u.words (flat.spend b u.world)))
  sets_temporary b s s' t w v u le at h = puts s' t w v (point u.words (flat.spend b u.world)) at (flat_spent b s s' v u le h)

  -- ---- What is told and taken

  -- a byte is written
  pub wrote : SaysKeep → (s byte : ℕ) (v : Point) (u : FPoint) → Meets g safe fr s v u → Meets g safe fr s (at_world (record v.world { output = v.world.output ++ byte ∷ [] }) v) (point u.words (tell (Tell.Output byte) u.world))
  wrote says s byte v u h = let w = h.agrees.world in record {
    agrees = record {
      world = record {
        injects = w.injects;
        blocks = w.blocks;
        depths = w.depths;
        stacks = w.stacks;
        inputs = w.inputs;
        says = says.written safe v.world byte u.world.told (record { time = u.world.time; what = Tell.Output byte } ∷ []) w.says refl refl;
        named = w.named;
        heights = w.heights;
        regions = w.regions;
      };
      accounted = h.agrees.accounted;
      stays = h.agrees.stays;
      since = h.agrees.since;
      own = h.agrees.own;
      bytes = h.agrees.bytes;
    };
    values = h.values;
    paid = omega (arith, h.paid);
    by = told_by v u (v.time + 64 * (v.world.bytes - v.world.bytes)) s (Tell.Output byte) (omega arith) h.paid h.by;
  }

  -- a byte is read
  pub took : (s : ℕ) (bytes : List ℕ) (v : Point) (u : FPoint) → All (λ b. b < 256) bytes → Meets g safe fr s v u → Meets g safe fr s (at_world (record v.world { rest = bytes }) v) (point u.words (record u.world { input = bytes }))
  took s bytes v u small h = let w = h.agrees.world in record {
    agrees = record {
      world = record {
        injects = w.injects;
        blocks = w.blocks;
        depths = w.depths;
        stacks = w.stacks;
        inputs = refl;
        says = record { said = w.says.said; went = w.says.went };
        named = w.named;
        heights = w.heights;
        regions = w.regions;
      };
      accounted = h.agrees.accounted;
      stays = h.agrees.stays;
      since = h.agrees.since;
      own = h.agrees.own;
      bytes = small;
    };
    values = h.values;
    paid = omega (arith, h.paid);
    by = by_later v.time (v.time + 64 * (v.world.bytes - v.world.bytes)) u.world.told (omega arith) h.by;
  }

  -- a statement begins
  pub marked : SaysKeep → TrailsAppend → (s line : ℕ) (v : Point) (u : FPoint) → Meets g safe fr s v u → Meets g safe fr s (record v { world = noted (Line line) v.world }) (point u.words (tell (Tell.Line line) u.world))
  marked says trails s line v u h = let w = h.agrees.world in record {
    agrees = record {
      world = record {
        injects = w.injects;
        blocks = w.blocks;
        depths = w.depths;
        stacks = w.stacks;
        inputs = w.inputs;
        says = says.marked safe v.world (Line line) u.world.told (record { time = u.world.time; what = Tell.Line line } ∷ []) w.says refl refl;
        named = trails.named g v.world.objects v.world.trail (Line line ∷ []) w.named tt;
        heights = w.heights;
        regions = w.regions;
      };
      accounted = h.agrees.accounted;
      stays = h.agrees.stays;
      since = h.agrees.since;
      own = h.agrees.own;
      bytes = h.agrees.bytes;
    };
    values = h.values;
    paid = h.paid;
    by = told_by v u v.time s (Tell.Line line) (omega arith) h.paid h.by;
  }

  -- ---- Both runs end

  pub stopped : {B : Type 0} (e : Ending) (s : ℕ) (v : Point) (u : FPoint) → Meets g safe fr s v u → Stops {B = B} safe e v (Ends e u)
  stopped e s v u h = record { point = u; is = refl; says = h.agrees.world.says; time = omega (arith, h.paid) }

  pub cut : {B : Type 0} (s : ℕ) (v : Point) (u : FPoint) → Meets g safe fr s v u → IsCut {B = B} safe v (Ends Ending.Cut u)
  cut s v u h = record { point = u; is = refl; says = h.agrees.world.says; by = h.by }

  -- mid code has left its objects, and the flat run does whatever it does
  pub left : {B : Type 0} (s : ℕ) (v : Point) (u : FPoint) (q : Run B) → Grows u q → Meets g safe fr s v u → Begins safe v q
  left s v u q grows h = record {
    front = u.world.told;
    came = record { rest = grows.told.rest; is = grows.told.is; by = h.by };
    says = h.agrees.world.says;
  }

-- ---- Ways

-- how steps leave in both runs, inside so many Blocks and Loops
abbrev pub WaysAlike : (g d : ℕ) → List Object → Way → flat.Way → Type 0
WaysAlike g d os On flat.Way.On = Unit {0}
WaysAlike g d os On (flat.Way.Out k) = ⊥
WaysAlike g d os On (flat.Way.Back w) = ⊥
WaysAlike g d os (Out n) flat.Way.On = ⊥
WaysAlike g d os (Out n) (flat.Way.Out k) = (n ≡ suc k) × (n ≤ d)
WaysAlike g d os (Out n) (flat.Way.Back w) = ⊥
WaysAlike g d os (Back x) flat.Way.On = ⊥
WaysAlike g d os (Back x) (flat.Way.Out k) = ⊥
WaysAlike g d os (Back x) (flat.Way.Back w) = IsValue g os x × (w ≡ word_of_value os x)

pub record Left (g : ℕ) (safe : SafeSites) (fr : Frame) (d s : ℕ) (way : Way) (v : Point) (out : flat.Way) (u : FPoint) : Type 0 where
  pub ways : WaysAlike g d v.world.objects way out
  pub meets : Meets g safe fr s v u

-- ---- Calls

-- what a call gives
pub record Gave (g : ℕ) (safe : SafeSites) (fr : Frame) (s : ℕ) (x : Value) (v : Point) (w : ℕ) (u : FPoint) : Type 0 where
  pub formed : IsValue g v.world.objects x
  pub word : w ≡ word_of_value v.world.objects x
  pub meets : Meets g safe fr s v u

-- A call is about to begin. Before that of the program's first function the flat run has spent 8 alone.
pub record Enters (g : ℕ) (safe : SafeSites) (fr : Frame) (s : ℕ) (v : Point) (u : FPoint) : Type 0 where
  pub agrees : Agrees g safe fr v.world u.world
  pub values : SameValues g fr.values v.world.objects v.values u.words
  pub paid : u.world.time + s ≤ v.time + 8
  pub by : AllBy v.time u.world.told

pub enters : (g : ℕ) (safe : SafeSites) (fr : Frame) (s : ℕ) (v : Point) (u : FPoint) → Meets g safe fr s v u → Enters g safe fr s v u
enters g safe fr s v u h = record { agrees = h.agrees; values = h.values; paid = omega (arith, h.paid); by = h.by }

-- ---- An operation whose answer a value gets

-- it gives the value of this word and leaves the world as it is, or leaves its objects
abbrev pub Replies : (g : ℕ) → World → (word : ℕ) → Does Value → Type 0
Replies g w word (Goes x y) = (y ≡ w) × IsValue g w.objects x × (word ≡ word_of_value w.objects x)
Replies g w word (Ends (Outside cause) y) = y ≡ w
Replies g w word (Ends (Exited n) y) = ⊥
Replies g w word (Ends (Reported kind line) y) = ⊥
Replies g w word (Ends (Trapped kind) y) = ⊥
Replies g w word (Ends Cut y) = ⊥

module _ (g : ℕ) (safe : SafeSites) (fr : Frame) (d : ℕ) where
  pub setting_follows : (F : World → Does Value) (s to word : ℕ) (v : Point) (u : FPoint) → Replies g v.world word (F v.world) → Meets g safe fr s v u → Follows safe (Left g safe fr d s) (setting to F v) (goes (put to word u))
  unfolding and_then
  setting_follows F s to word v u replies h = of (F v.world) replies
    where
      of : (r : Does Value) → Replies g v.world word r → Follows safe (Left g safe fr d s) (and_then (done_at v r) (λ x t. Goes On (set to x t))) (goes (put to word u))
      of (Goes x w) q =
          subst (λ z. Follows safe (Left g safe fr d s) (Goes On (set to x (at_world z v))) (goes (put to word u))) (sym q.0)
          (follows_goes safe (Left g safe fr d s) On (set to x (at_world v.world v)) flat.Way.On (put to word u)
          (record { ways = tt; meets = sets g safe fr s to x word (at_world v.world v) u q.1 q.2 (unchanged g safe fr s v u h) }))
      of (Ends (Outside cause) w) q =
          subst (λ z. Follows safe (Left g safe fr d s) (Ends (Came (Outside cause)) (at_world z v)) (goes (put to word u))) (sym q)
          (record { by = left g safe fr s (at_world v.world v) u (goes (put to word u)) (grows_on u _ (put to word u) refl) (unchanged g safe fr s v u h) })
      of (Ends (Exited n) w) q = absurd q
      of (Ends (Reported kind line) w) q = absurd q
      of (Ends (Trapped kind) w) q = absurd q
      of (Ends Cut w) q = absurd q

-- a number is given, and its word
pub number_reply : (g n word : ℕ) (r : Does Value) (w : World) → word ≡ n → n < 4294967296 → GivesAlike w (Num n) r → Replies g w word r
number_reply g n word (Goes x y) w e lt h = subst (λ z. (y ≡ w) × IsValue g w.objects z × (word ≡ word_of_value w.objects z)) (sym h.1) (h.0, lt, e)
number_reply g n word (Ends (Outside cause) y) w e lt h = h
number_reply g n word (Ends (Exited k) y) w e lt h = absurd h
number_reply g n word (Ends (Reported kind line) y) w e lt h = absurd h
number_reply g n word (Ends (Trapped kind) y) w e lt h = absurd h
number_reply g n word (Ends Cut y) w e lt h = absurd h
