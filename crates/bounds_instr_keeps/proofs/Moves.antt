-- The steps that move pointers.
use Rattle.std.specs.Prelude.{ℤ, Bool, true, false}
use Rattle.std.proofs.Common.{◌≡◌, ◌≢◌, ℕ, zero, suc, ◌+◌, ◌-◌, ◌*◌, ◌<◌, ◌≤◌, [], ◌∷◌, refl, sym, ap, ◌∙◌, subst, arith, ⊎_elim}
use Rattle.std.proofs.lemmas.Int.{of_z-to_z}
use Rattle.std.specs.Int.{w32}
use Rattle.bb_words.specs.Answers.{Goes, Ends, and_then}
use Rattle.bb_words.specs.Numbers.{product, difference, signed, word_of as word_of_int}
use Rattle.bb_words.specs.declared.kinds.ReportKind.TheVariants.{Bounds}
use Rattle.marked_ptr.specs.Marked.{owner_slot, moved}
use Rattle.marked_ptr.specs.declared.answer.MoveAnswer.{MoveAnswer}
use Rattle.size_table.specs.Table.{byte_of}
use Rattle.source_meaning.specs.declared.values.Pointer.{Pointer}
use Rattle.source_meaning.specs.declared.values.Value.{Value}
use Rattle.source_meaning.specs.declared.values.Value.TheVariants.{Num, Ptr}
use Rattle.source_meaning.specs.declared.values.Ending.TheVariants.{Exited, Reported, Trapped, Outside, Cut}
use Rattle.source_meaning.specs.Worlds.{Does, Moved, noted, live_blocks}
use Rattle.source_meaning.specs.Moves.{move, distance}
use Rattle.mid_code.specs.Meaning.{Came, Point, Goings, Way, On, set, at_world, done_at, setting, move_by, move_elements, watched}
use Rattle.mid_code.specs.Meaning as mid
use Rattle.mid_code.specs.Formed.{IsDistance}
use Rattle.flat_code.specs.Code.{FStep, FSteps, none, more}
use Rattle.flat_code.specs.Told.{Tell}
use Rattle.flat_code.specs.Told.Mark.{Pair}
use Rattle.flat_code.specs.World.{Words, with_word, FWorld, FPoint, point, put, tell, Ending, Run, onward}
use Rattle.flat_code.specs.World as flat
use Rattle.flat_code.specs.Sequences.{move_sequence, MoveApart, WentOn, WasReported, DoesMove}
use Rattle.flat_code_laws.specs.Laws.{MoveSequenceMoves}
use Rattle.flat_code.specs.Run.{goes}
use Rattle.flat_code.specs.Run as run
use Rattle.injection.specs.Words.{word_of, word_of_value}
use Rattle.injection.specs.Memory.{AreLaidOut, IsPointer, IsValue}
use Rattle.injection.specs.Trail.{SafeSites, pair_unless}
use Rattle.injection.specs.Laws.{SaysKeep, TrailsAppend, PointersAreOwned, MovesAreMoved, MovesAlike, IsOwned}
use Rattle.bounds_instr_code.specs.Code.{moving, factor, moving_elements, moving_by}
use Rattle.bounds_instr_keeps.proofs.Follow.{Follows, Grows, follows_goes, to_equal, acts_append}
use Rattle.bounds_instr_keeps.proofs.Meets.{told_by, Frame, Meets, word_here, word_there, gained, flat_spent, sets_temporary, unchanged, left, Left}
use Rattle.bounds_instr_keeps.proofs.Temporaries.{Two, neither, first_set, second_set}
use Rattle.bounds_instr_keeps.proofs.Accesses.{same_after}

pub record MoveLaws : Type 0 where
  pub says : SaysKeep
  pub trails : TrailsAppend
  pub owned : PointersAreOwned
  pub moves : MovesAreMoved
  pub sequence : MoveSequenceMoves

-- ---- Distances

shared : (n a b : ℕ) → n * a + n * b ≡ n * (a + b)
shared n a b = grind arith

down_is : (n scale : ℕ) → scale < 4294967296 → product n (difference 0 scale) ≡ difference 0 (product n scale)
down_is n zero lt = omega arith
down_is n (suc k) lt = of (difference 0 (suc k)) (omega (arith, lt))
  where
    of : (d : ℕ) → d + suc k ≡ 4294967296 → product n d ≡ difference 0 (product n (suc k))
    of d e =
        let whole : n * d + n * suc k ≡ n * 4294967296 = shared n d (suc k) ∙ ap (λ z. n * z) e in
        omega (arith, whole)

distance_is : (down : Bool) (scale n : ℕ) → scale < 4294967296 → distance down scale n ≡ signed (product n (factor scale down))
distance_is true scale n lt = ap signed (sym (down_is n scale lt))
distance_is false scale n lt = refl

product_fits : (a b : ℕ) → product a b < 4294967296
product_fits a b = omega arith

-- ---- A move

module _ (laws : MoveLaws) (g : ℕ) (big : 2 ≤ g) (small : g ≤ 24) (safe : SafeSites) (checked : (site : ℕ) → safe site ≡ false) (fr : Frame) (call : run.Calls) (m frame d : ℕ) (grows : (xs : FSteps) (u : FPoint) → Grows u (run.act_all g call m frame xs u)) where
  apart : (from : ℕ) → from < fr.values → MoveApart from fr.values (fr.values + 2) (fr.values + 1) (fr.values + 3) (fr.values + 4)
  apart from lt = record {
    qp = λ e. omega (arith, lt, e);
    qd = λ e. omega (arith, e);
    ql = λ e. omega (arith, e);
    sp = λ e. omega (arith, lt, e);
    sd = λ e. omega (arith, e);
    sl = λ e. omega (arith, e);
    sq = λ e. omega (arith, e);
    ep = λ e. omega (arith, lt, e);
    ed = λ e. omega (arith, e);
    el = λ e. omega (arith, e);
    eq = λ e. omega (arith, e);
    es = λ e. omega (arith, e);
  }

  -- the move was told, and the world has noted it
  noted_move : (s site word : ℕ) (q to : Pointer) (v : Point) (u : FPoint) → IsPointer g v.world.objects q → IsPointer g v.world.objects to → word ≡ word_of v.world.objects q → Meets g safe fr s v u → Meets g safe fr s (at_world (noted (Moved site q to) v.world) v) (point u.words (tell (Tell.Move word (word_of v.world.objects to)) u.world))
  noted_move s site word q to v u fq ft is h = let w = h.agrees.world in record {
    agrees = record {
      world = record {
        injects = w.injects;
        blocks = w.blocks;
        depths = w.depths;
        stacks = w.stacks;
        inputs = w.inputs;
        says = laws.says.marked safe v.world (Moved site q to) u.world.told (record { time = u.world.time; what = Tell.Move word (word_of v.world.objects to) } ∷ []) w.says refl
            (ap (λ z. Pair z (word_of v.world.objects to) ∷ []) is ∙ ap (λ b. pair_unless b (word_of v.world.objects q) (word_of v.world.objects to) []) (sym (checked site)));
        named = laws.trails.named g v.world.objects v.world.trail (Moved site q to ∷ []) w.named (fq, ft, tt);
        heights = w.heights;
        regions = w.regions;
      };
      accounted = h.agrees.accounted;
      stays = h.agrees.stays;
      since = h.agrees.since;
      own = h.agrees.own;
      bytes = h.agrees.bytes;
    };
    values = h.values;
    paid = omega (arith, h.paid);
    by = told_by v u (v.time + 64 * (v.world.bytes - v.world.bytes)) s (Tell.Move word (word_of v.world.objects to)) (omega arith) h.paid h.by;
  }

  abbrev copy : ℕ → flat.Way → FPoint → Run flat.Way
  copy to way t = onward way t (run.act_all g call m frame (more (FStep.Same to (fr.values + 2)) none))

  arrived : (s site to from : ℕ) (q r : Pointer) (v : Point) (u : FPoint) (run : Run flat.Way) → to < fr.values → IsPointer g v.world.objects q → IsPointer g v.world.objects r → u.words from ≡ word_of v.world.objects q → WentOn 128 from (fr.values + 2) (fr.values + 3) (fr.values + 4) (word_of v.world.objects r) u run → Meets g safe fr (s + 130) v u → Follows safe (Left g safe fr d s) (Goes On (set to (Ptr r) (at_world (noted (Moved site q r) v.world) v))) (and_then run (copy to))
  unfolding and_then
  arrived s site to from q r v u run lt fq fr' word w h =
      to_equal safe (Left g safe fr d s) _ _ _ (ap (λ z. and_then z (copy to)) w.is)
      (follows_goes safe (Left g safe fr d s) On (set to (Ptr r) (at_world (noted (Moved site q r) v.world) v)) flat.Way.On (put to (w.words (fr.values + 2)) (point w.words (flat.spend 2 told)))
      (record {
        ways = tt;
        meets = record {
          agrees = met.agrees;
          values = same_after g fr.values v.world.objects v.values u.words (with_word w.words to (w.words (fr.values + 2))) to (Ptr r) fr' (here_is ∙ w.value) (λ i lti ne. other i ne ∙ w.kept i (λ e. omega (arith, lti, e)) (λ e. omega (arith, lti, e)) (λ e. omega (arith, lti, e))) h.values;
          paid = met.paid;
          by = met.by;
        };
      }))
    where
      told : FWorld
      told = tell (Tell.Move (u.words from) (word_of v.world.objects r)) (flat.spend w.took u.world)

      here_is : with_word w.words to (w.words (fr.values + 2)) to ≡ w.words (fr.values + 2)
      here_is = word_here w.words to (w.words (fr.values + 2))

      other : (i : ℕ) → i ≢ to → with_word w.words to (w.words (fr.values + 2)) i ≡ w.words i
      other i ne = word_there w.words to i (w.words (fr.values + 2)) ne

      met : Meets g safe fr s (at_world (noted (Moved site q r) v.world) v) (point u.words (flat.spend 2 told))
      met =
          flat_spent g safe fr 2 (s + 2) s (at_world (noted (Moved site q r) v.world) v) (point u.words told) (omega arith)
          (noted_move (s + 2) site (u.words from) q r v (point u.words (flat.spend w.took u.world)) fq fr' word
          (flat_spent g safe fr w.took (s + 130) (s + 2) v u (omega (arith, w.within)) h))

  reported : (s to from line : ℕ) (v : Point) (u : FPoint) (run : Run flat.Way) → u.words (fr.values + 1) ≡ line → WasReported 128 (fr.values + 1) Bounds u run → Meets g safe fr (s + 130) v u → Follows safe (Left g safe fr d s) (Ends (Came (Reported Bounds line)) (at_world v.world v)) (and_then run (copy to))
  unfolding and_then
  reported s to from line v u run e w h = record {
    by = record {
      point = point w.words (flat.spend w.took u.world);
      is = ap (λ z. and_then z (copy to)) w.is ∙ ap (λ z. Ends (Ending.Reported Bounds z) (point w.words (flat.spend w.took u.world))) e;
      says = h.agrees.world.says;
      time = omega (arith, h.paid, w.within);
    };
  }

  move_answers : (s site to from line : ℕ) (q : Pointer) (v : Point) (u : FPoint) (answer : MoveAnswer) (run : Run flat.Way) (r : Does Pointer) → to < fr.values → IsPointer g v.world.objects q → u.words from ≡ word_of v.world.objects q → u.words (fr.values + 1) ≡ line → MovesAlike g site line v.world q answer r → DoesMove 128 answer from (fr.values + 2) (fr.values + 1) (fr.values + 3) (fr.values + 4) u run → Grows u (and_then run (copy to)) → Meets g safe fr (s + 130) v u → Follows safe (Left g safe fr d s) (and_then (done_at v (and_then r (λ x. Goes (Ptr x)))) (λ x t. Goes On (set to x t))) (and_then run (copy to))
  unfolding and_then
  move_answers s site to from line q v u answer run (Goes r x) lt fq word name k does grown h =
      subst (λ z. Follows safe (Left g safe fr d s) (Goes On (set to (Ptr r) (at_world z v))) (and_then run (copy to))) (sym k.world)
      (arrived s site to from q r v u run lt fq k.formed word
      (⊎_elim (λ e. subst (λ a. DoesMove 128 a from (fr.values + 2) (fr.values + 1) (fr.values + 3) (fr.values + 4) u run) e does) (λ e. subst (λ a. DoesMove 128 a from (fr.values + 2) (fr.values + 1) (fr.values + 3) (fr.values + 4) u run) e does) k.word) h)
  move_answers s site to from line q v u answer run (Ends (Reported kind at) x) lt fq word name k does grown h =
      subst (λ z. Follows safe (Left g safe fr d s) (Ends (Came (Reported kind at)) (at_world z v)) (and_then run (copy to))) (sym k.0)
      (subst (λ z. Follows safe (Left g safe fr d s) (Ends (Came (Reported z at)) (at_world v.world v)) (and_then run (copy to))) (sym k.1)
      (subst (λ z. Follows safe (Left g safe fr d s) (Ends (Came (Reported Bounds z)) (at_world v.world v)) (and_then run (copy to))) (sym k.2)
      (reported s to from line v u run name (subst (λ a. DoesMove 128 a from (fr.values + 2) (fr.values + 1) (fr.values + 3) (fr.values + 4) u run) k.3 does) h)))
  move_answers s site to from line q v u answer run (Ends (Outside cause) x) lt fq word name k does grown h =
      subst (λ z. Follows safe (Left g safe fr d s) (Ends (Came (Outside cause)) (at_world z v)) (and_then run (copy to))) (sym k)
      (record { by = left g safe fr (s + 130) (at_world v.world v) u _ grown (unchanged g safe fr (s + 130) v u h) })
  move_answers s site to from line q v u answer run (Ends (Exited n) x) lt fq word name k does grown h = absurd k
  move_answers s site to from line q v u answer run (Ends (Trapped kind) x) lt fq word name k does grown h = absurd k
  move_answers s site to from line q v u answer run (Ends Cut x) lt fq word name k does grown h = absurd k

  -- the temporaries hold the distance and the line
  pub moving_follows : (s site to from line n : ℕ) (x : Value) (v : Point) (u : FPoint) → v.values from ≡ x → to < fr.values → from < fr.values → n < 4294967296 → u.words fr.values ≡ n → u.words (fr.values + 1) ≡ line → Meets g safe fr (s + 130) v u → Follows safe (Left g safe fr d s) (setting to (move_by g site line (signed n) x) v) (run.act_all g call m frame (moving g fr.values to from) u)
  unfolding and_then
  moving_follows s site to from line n (Num i) v u is lt lf fits dist name h =
      record { by = left g safe fr (s + 130) (at_world v.world v) u _ (grows (moving g fr.values to from) u) (unchanged g safe fr (s + 130) v u h) }
  moving_follows s site to from line n (Ptr q) v u is lt lf fits dist name h =
      to_equal safe (Left g safe fr d s) _ _ _ appended
      (move_answers s site to from line q v u (moved g (u.words from) (u.words fr.values) (byte_of g u.world.live owner.slot)) seq (move g site line (signed n) q v.world) lt formed word name
      (subst (λ b. MovesAlike g site line v.world q (moved g (u.words from) (u.words fr.values) (byte_of g b owner.slot)) (move g site line (signed n) q v.world)) (sym blocks)
      (subst (λ z. MovesAlike g site line v.world q (moved g z (u.words fr.values) (byte_of g (live_blocks v.world.objects) owner.slot)) (move g site line (signed n) q v.world)) (sym word)
      (subst (λ z. MovesAlike g site line v.world q (moved g (word_of v.world.objects q) z (byte_of g (live_blocks v.world.objects) owner.slot)) (move g site line (signed n) q v.world)) (sym dist)
      (laws.moves g site line n owner.slot q v.world laid formed fits owner.is))))
      (laws.sequence g (omega (arith, big)) small call m frame from fr.values (fr.values + 2) (fr.values + 1) (fr.values + 3) (fr.values + 4) (apart from lf) u owner.slot (ap (λ z. owner_slot g z) word ∙ owner.is) owner.small (subst (λ b. byte_of g b owner.slot ≤ 24) (sym blocks) owner.byte))
      (subst (λ z. Grows u z) appended (grows (moving g fr.values to from) u)) h)
    where
      seq : Run flat.Way
      seq = run.act_all g call m frame (move_sequence g from fr.values (fr.values + 2) (fr.values + 1) (fr.values + 3) (fr.values + 4)) u

      appended : run.act_all g call m frame (moving g fr.values to from) u ≡ and_then seq (copy to)
      appended = acts_append g call m frame (move_sequence g from fr.values (fr.values + 2) (fr.values + 1) (fr.values + 3) (fr.values + 4)) (more (FStep.Same to (fr.values + 2)) none) u

      laid : AreLaidOut g v.world.objects
      laid = h.agrees.world.injects.out

      formed : IsPointer g v.world.objects q
      formed = subst (IsValue g v.world.objects) is (h.values.formed from lf)

      word : u.words from ≡ word_of v.world.objects q
      word = h.values.each from lf ∙ ap (word_of_value v.world.objects) is

      blocks : u.world.live ≡ live_blocks v.world.objects
      blocks = h.agrees.world.blocks

      owner : IsOwned g v.world.objects (word_of v.world.objects q)
      owner = laws.owned g v.world.objects q laid formed

  -- ---- Steps

  watched_follows : (b : Bool) (r : Goings Way) (v : Point) (q : Run flat.Way) (s : ℕ) → Follows safe (Left g safe fr d s) r q → Follows safe (Left g safe fr d s) (watched b r v) q
  watched_follows true r v q s h = h
  watched_follows false r v q s h = record { by = tt }

  by_elements : (s site to from by scale : ℕ) (down : Bool) (line : ℕ) (y : Value) (v : Point) (u : FPoint) → v.values by ≡ y → to < fr.values → from < fr.values → by < fr.values → scale < 4294967296 → Meets g safe fr s v u → Follows safe (Left g safe fr d s) (setting to (move_elements g site line scale down (v.values from) y) (mid.spend 256 v)) (run.act_all g call m frame (moving_elements g fr.values to from by scale down line) u)
  unfolding and_then
  by_elements s site to from by scale down line (Ptr q) v u is lt lf lb ls h =
      record { by = left g safe fr s (at_world v.world (mid.spend 256 v)) u _ (grows (moving_elements g fr.values to from by scale down line) u) (unchanged g safe fr s (mid.spend 256 v) u (gained g safe fr 256 s s v u (omega arith) h)) }
  by_elements s site to from by scale down line (Num i) v u is lt lf lb ls h =
      subst (λ z. Follows safe (Left g safe fr d s) (setting to (move_by g site line z (v.values from)) (mid.spend 256 v)) (run.act_all g call m frame (moving g n to from) u3)) (sym (distance_is down scale i ls))
      (moving_follows s site to from line (product i (factor scale down)) (v.values from) (mid.spend 256 v) u3 refl lt lf (product_fits i (factor scale down)) t3.first t3.second h3)
    where
      n : ℕ
      n = fr.values

      w1 : Words
      w1 = with_word u.words (n + 1) line

      w2 : Words
      w2 = with_word w1 n (factor scale down)

      w3 : Words
      w3 = with_word w2 n (product (w2 by) (w2 n))

      t1 : Two n u.words (u.words n) line w1
      t1 = second_set n u.words (u.words n) (u.words (n + 1)) line line u.words refl (neither n u.words)

      t2 : Two n u.words (factor scale down) line w2
      t2 = first_set n u.words (u.words n) line (factor scale down) (factor scale down) w1 refl t1

      t3 : Two n u.words (product i (factor scale down)) line w3
      t3 =
          first_set n u.words (factor scale down) line (product (w2 by) (w2 n)) (product i (factor scale down)) w2
          (ap (λ z. product z (w2 n)) (t2.kept by lb ∙ h.values.each by lb ∙ ap (word_of_value v.world.objects) is) ∙ ap (λ z. product i z) t2.first) t2

      u1 : FPoint
      u1 = point w1 (flat.spend 3 u.world)

      u2 : FPoint
      u2 = point w2 (flat.spend 3 u1.world)

      u3 : FPoint
      u3 = point w3 (flat.spend 5 u2.world)

      h3 : Meets g safe fr (s + 130) (mid.spend 256 v) u3
      h3 =
          sets_temporary g safe fr 5 (s + 135) (s + 130) n (product (w2 by) (w2 n)) (mid.spend 256 v) u2 (omega arith) (omega arith)
          (sets_temporary g safe fr 3 (s + 138) (s + 135) n (factor scale down) (mid.spend 256 v) u1 (omega arith) (omega arith)
          (sets_temporary g safe fr 3 (s + 256) (s + 138) (n + 1) line (mid.spend 256 v) u (omega arith) (omega arith)
          (gained g safe fr 256 s (s + 256) v u (omega arith) h)))

  pub elements_follow : (b : Bool) (s site to from by scale : ℕ) (down : Bool) (line : ℕ) (v : Point) (u : FPoint) → to < fr.values → from < fr.values → by < fr.values → scale < 4294967296 → Meets g safe fr s v u → Follows safe (Left g safe fr d s) (watched b (setting to (move_elements g site line scale down (v.values from) (v.values by)) (mid.spend 256 v)) (mid.spend 256 v)) (run.act_all g call m frame (moving_elements g fr.values to from by scale down line) u)
  elements_follow b s site to from by scale down line v u lt lf lb ls h =
      watched_follows b _ (mid.spend 256 v) _ s (by_elements s site to from by scale down line (v.values by) v u refl lt lf lb ls h)

  by_distance : (s site to from line n : ℕ) (v : Point) (u : FPoint) → to < fr.values → from < fr.values → n < 4294967296 → Meets g safe fr s v u → Follows safe (Left g safe fr d s) (setting to (move_by g site line (signed n) (v.values from)) (mid.spend 256 v)) (run.act_all g call m frame (moving_by g fr.values to from n line) u)
  unfolding and_then
  by_distance s site to from line x v u lt lf lx h =
      moving_follows s site to from line x (v.values from) (mid.spend 256 v) u2 refl lt lf lx t2.first t2.second h2
    where
      n : ℕ
      n = fr.values

      w1 : Words
      w1 = with_word u.words (n + 1) line

      w2 : Words
      w2 = with_word w1 n x

      t2 : Two n u.words x line w2
      t2 = first_set n u.words (u.words n) line x x w1 refl (second_set n u.words (u.words n) (u.words (n + 1)) line line u.words refl (neither n u.words))

      u1 : FPoint
      u1 = point w1 (flat.spend 3 u.world)

      u2 : FPoint
      u2 = point w2 (flat.spend 3 u1.world)

      h2 : Meets g safe fr (s + 130) (mid.spend 256 v) u2
      h2 =
          sets_temporary g safe fr 3 (s + 138) (s + 130) n x (mid.spend 256 v) u1 (omega arith) (omega arith)
          (sets_temporary g safe fr 3 (s + 256) (s + 138) (n + 1) line (mid.spend 256 v) u (omega arith) (omega arith)
          (gained g safe fr 256 s (s + 256) v u (omega arith) h))

  pub distance_follows : (b : Bool) (s site to from line : ℕ) (z : ℤ) (v : Point) (u : FPoint) → to < fr.values → from < fr.values → IsDistance z → Meets g safe fr s v u → Follows safe (Left g safe fr d s) (watched b (setting to (move_by g site line z (v.values from)) (mid.spend 256 v)) (mid.spend 256 v)) (run.act_all g call m frame (moving_by g fr.values to from (word_of_int z) line) u)
  distance_follows b s site to from line z v u lt lf k h =
      watched_follows b _ (mid.spend 256 v) _ s
      (subst (λ y. Follows safe (Left g safe fr d s) (setting to (move_by g site line y (v.values from)) (mid.spend 256 v)) (run.act_all g call m frame (moving_by g fr.values to from (word_of_int y) line) u)) (sym k.2)
      (subst (λ y. Follows safe (Left g safe fr d s) (setting to (move_by g site line (signed k.0) (v.values from)) (mid.spend 256 v)) (run.act_all g call m frame (moving_by g fr.values to from y line) u)) (sym (of_z-to_z w32 k.0 k.1))
      (by_distance s site to from line k.0 v u lt lf k.1 h)))
