-- The steps of mid code, and the flat code that follows them.
use Rattle.std.specs.Prelude.{◌==◌, not, ◌%◌, ◌/◌, ◌*◌, nat_lt, if◌then◌else◌, None}
use Rattle.std.proofs.Common.{◌≡◌, ℕ, zero, suc, ◌+◌, ◌^◌, ◌<◌, ◌≤◌, Bool, true, false, List, [], ◌∷◌, ◌++◌, map, All, refl, sym, ap, ◌∙◌, subst, arith, ne_eqb}
use Rattle.std.proofs.lemmas.Bool.Decides.{nat_tests}
use Rattle.std.proofs.lemmas.List.Elements.{All-nil, All-cons, All-head, All-tail}
use Rattle.bb_words.specs.Answers.{Goes, Ends, and_then, either}
use Rattle.bb_words.specs.Numbers.{product, unsigned_high_product}
use Rattle.bb_words.specs.Steps.{flag, arith as calculated, divided}
use Rattle.bb_words.specs.declared.kinds.ReportKind.TheVariants.{DivZero}
use Rattle.bb_words.specs.declared.steps.ArithOp.{ArithOp}
use Rattle.bb_words.specs.declared.steps.ArithOp.TheVariants as op
use Rattle.bb_words.specs.declared.steps.DivideOp.{DivideOp}
use Rattle.bb_words.specs.declared.steps.DivideOp.TheVariants as divide
use Rattle.bb_words.specs.declared.steps.Width.{Width}
use Rattle.bb_words.specs.declared.steps.Width.TheVariants as width
use Rattle.typed_tree.specs.declared.typed_expr.LibCall.{LibCall}
use Rattle.typed_tree.specs.declared.typed_expr.LibCall.TheVariants as lib
use Rattle.source_meaning.specs.declared.values.Pointer.TheVariants.{Null}
use Rattle.source_meaning.specs.declared.values.Value.{Value}
use Rattle.source_meaning.specs.declared.values.Value.TheVariants.{Num, Ptr}
use Rattle.source_meaning.specs.declared.values.Ending.TheVariants.{Exited, Reported, Trapped, Outside, Cut}
use Rattle.source_meaning.specs.Objects.{Object}
use Rattle.source_meaning.specs.Worlds.{World, Does, Line, noted, with_number, with_pointer}
use Rattle.source_meaning.specs.Accesses.{load}
use Rattle.source_meaning.specs.Comparisons.{same, truth}
use Rattle.source_meaning.specs.Accounts.{put as write_out, get_from, allocate, free, library}
use Rattle.source_meaning.specs.Numbers.{unless_zero}
use Rattle.mid_code.specs.Code.{Step, Steps, Program}
use Rattle.mid_code.specs.Times.{charge}
use Rattle.mid_code.specs.Meaning.{Came, Point, Goings, Way, On, Out, Back, set, at_world, done_at, doing, setting, on_words, site_in, Watch, Names, distance_of, keeps, out_of_one, rounds, act, acts}
use Rattle.mid_code.specs.Meaning as mid
use Rattle.flat_code.specs.Code.{FStep, FSteps, none, more}
use Rattle.flat_code.specs.Told.{Tell}
use Rattle.flat_code.specs.World.{FWorld, FPoint, point, put, tell, with_word, choose, Ending, Run, onward, out_of, again}
use Rattle.flat_code.specs.World as flat
use Rattle.flat_code.specs.Accounts.{malloc}
use Rattle.flat_code.specs.Time as time
use Rattle.flat_code.specs.Run.{goes, ends, get, turns}
use Rattle.flat_code.specs.Run as run
use Rattle.injection.specs.Words.{word_of_value}
use Rattle.injection.specs.Memory.{IsValue}
use Rattle.injection.specs.Trail.{SafeSites}
use Rattle.injection.specs.Laws.{SaysKeep, TrailsAppend, TruthIsOfWords, ComparisonsAreOfWords, StoresAreWrites, LoadsAreReads, GivesAlike}
use Rattle.flat_code_laws.specs.Laws.{LoadSequenceLoads, LoadSequenceStops}
use Rattle.bounds_instr_keeps.specs.Keeps.{Begins}
use Rattle.bounds_instr_code.specs.Code.{quotient, division, allocation, library_code, step_code, code}
use Rattle.bounds_instr_keeps.proofs.Words.{calculated_fits, flag_fits}
use Rattle.bounds_instr_keeps.proofs.Follow.{Follows, Grows, grows_on, grows_end, turns_grow, onward_grows, follows_then, follows_goes, to_equal, acts_append, only_acts}
use Rattle.bounds_instr_keeps.proofs.Meets.{Frame, Meets, word_here, word_there, gained, spent, earned, flat_spent, sets_temporary, unchanged, sets, wrote, took, marked, stopped, cut, left, WaysAlike, Left, Gave, Enters, enters, Replies, setting_follows}
use Rattle.bounds_instr_keeps.proofs.Orders.{ordering_follows, subtraction_follows}
use Rattle.bounds_instr_keeps.proofs.Accesses.{store_follows, load_follows, pointer_follows}
use Rattle.bounds_instr_keeps.proofs.Moves.{MoveLaws, elements_follow, distance_follows}
use Rattle.bounds_instr_keeps.proofs.Heap.{HeapLaws, taken_follows, malloc_follows, both_refused, free_follows}
use Rattle.bounds_instr_code.proofs.Fits.{HasArguments, Fits, AllFit}

-- ---- Ways

out_alike : (g d : ℕ) (os : List Object) (way : Way) (out : flat.Way) → WaysAlike g (suc d) os way out → WaysAlike g d os (out_of_one way) (out_of out)
out_alike g d os On flat.Way.On h = tt
out_alike g d os On (flat.Way.Out k) h = absurd h
out_alike g d os On (flat.Way.Back w) h = absurd h
out_alike g d os (Out n) flat.Way.On h = absurd h
out_alike g d os (Out zero) (flat.Way.Out k) h = absurd (omega (arith, h.0))
out_alike g d os (Out (suc zero)) (flat.Way.Out zero) h = tt
out_alike g d os (Out (suc zero)) (flat.Way.Out (suc k)) h = absurd (omega (arith, h.0))
out_alike g d os (Out (suc (suc n))) (flat.Way.Out zero) h = absurd (omega (arith, h.0))
out_alike g d os (Out (suc (suc n))) (flat.Way.Out (suc k)) h = (omega (arith, h.0), omega (arith, h.1))
out_alike g d os (Out n) (flat.Way.Back w) h = absurd h
out_alike g d os (Back x) flat.Way.On h = absurd h
out_alike g d os (Back x) (flat.Way.Out k) h = absurd h
out_alike g d os (Back x) (flat.Way.Back w) h = h

-- ---- Operations on numbers

words_reply : (g : ℕ) (o : ArithOp) (x y : Value) (w : World) → IsValue g w.objects x → IsValue g w.objects y → Replies g w (calculated o (word_of_value w.objects x) (word_of_value w.objects y)) (on_words (λ a b. Goes (Num (calculated o a b))) x y w)
words_reply g o (Num a) (Num b) w p q = (refl, calculated_fits o a b p q, refl)
words_reply g o (Num a) (Ptr q) w p h = refl
words_reply g o (Ptr q) y w p h = refl

same_reply : (g a b : ℕ) (r : Does Value) (w : World) → GivesAlike w (Num (flag (a == b))) r → Replies g w (calculated op.Equal a b) r
same_reply g a b (Goes x y) w h = subst (λ z. (y ≡ w) × IsValue g w.objects z × (calculated op.Equal a b ≡ word_of_value w.objects z)) (sym h.1) (h.0, flag_fits (a == b), refl)
same_reply g a b (Ends (Outside cause) y) w h = h
same_reply g a b (Ends (Exited n) y) w h = absurd h
same_reply g a b (Ends (Reported kind line) y) w h = absurd h
same_reply g a b (Ends (Trapped kind) y) w h = absurd h
same_reply g a b (Ends Cut y) w h = absurd h

quotient_is : (o : DivideOp) (a b : ℕ) → calculated (quotient o) a b ≡ divided o a b
quotient_is divide.Div a b = refl
quotient_is divide.Divu a b = refl
quotient_is divide.Rem a b = refl
quotient_is divide.Remu a b = refl

-- ---- Products

low_high : (x : ℕ) → x < 4294967296 → x / 2 ^ 32 ≡ 0
low_high x lt = omega (arith, lt)

low_product : (x : ℕ) → x < 4294967296 → x % 2 ^ 32 ≡ x
low_product x lt = omega (arith, lt)

-- ---- Calls

-- A call follows, from any world, in any frame.
abbrev pub Matches : (g : ℕ) (safe : SafeSites) (deep : mid.Calls) (call : run.Calls) → Type 0
Matches g safe deep call =
    (fr : Frame) (s f : ℕ) (xs : List Value) (v : Point) (u : FPoint) → All (IsValue g v.world.objects) xs → Enters g safe fr s v u
    → Follows safe (Gave g safe fr s) (deep f xs v) (call f (map (word_of_value v.world.objects) xs) u)

pub record Laws : Type 0 where
  pub truths : TruthIsOfWords
  pub says : SaysKeep
  pub trails : TrailsAppend
  pub compares : ComparisonsAreOfWords
  pub stores : StoresAreWrites
  pub loads : LoadsAreReads
  pub passes : LoadSequenceLoads
  pub stops : LoadSequenceStops
  pub moving : MoveLaws
  pub heap : HeapLaws

module _ (laws : Laws) (g : ℕ) (big : 2 ≤ g) (small : g ≤ 24) (safe : SafeSites) (checked : (site : ℕ) → safe site ≡ false) (fr : Frame) where
  words_are : (args : List ℕ) (v : Point) (u : FPoint) (s : ℕ) → All (λ a. a < fr.values) args → Meets g safe fr s v u → map u.words args ≡ map (word_of_value v.world.objects) (map v.values args)
  words_are [] v u s lt h = refl
  words_are (a ∷ args) v u s lt h = ap (λ z. z ∷ map u.words args) (h.values.each a (All-head (λ i. i < fr.values) a args lt)) ∙ ap (λ z. word_of_value v.world.objects (v.values a) ∷ z) (words_are args v u s (All-tail (λ i. i < fr.values) a args lt) h)

  values_are : (args : List ℕ) (v : Point) (u : FPoint) (s : ℕ) → All (λ a. a < fr.values) args → Meets g safe fr s v u → All (IsValue g v.world.objects) (map v.values args)
  values_are [] v u s lt h = All-nil (IsValue g v.world.objects)
  values_are (a ∷ args) v u s lt h = All-cons (IsValue g v.world.objects) (v.values a) (map v.values args) (h.values.formed a (All-head (λ i. i < fr.values) a args lt)) (values_are args v u s (All-tail (λ i. i < fr.values) a args lt) h)

  -- ---- Turns

  module _ (d : ℕ) (body : Point → Goings Way) (flat_body : FPoint → Run flat.Way) (grows : (u : FPoint) → Grows u (flat_body u)) (follows : (s : ℕ) (v : Point) (u : FPoint) → Meets g safe fr s v u → Follows safe (Left g safe fr (suc d) s) (body v) (flat_body u)) where
    again_grows : (k : ℕ) (way : flat.Way) (t : FPoint) → Grows t (again way t (turns k flat_body))
    again_grows k flat.Way.On t = turns_grow flat_body grows k t
    again_grows k (flat.Way.Out n) t = grows_on t _ t refl
    again_grows k (flat.Way.Back w) t = grows_on t _ t refl

    pub rounds_follow : (k s : ℕ) (v : Point) (u : FPoint) → Meets g safe fr s v u → Follows safe (Left g safe fr d s) (rounds k body v) (turns k flat_body u)
    rounds_follow zero s v u h = record { by = cut g safe fr s v u h }
    rounds_follow (suc k) s v u h =
        follows_then safe (Left g safe fr (suc d) s) (Left g safe fr d s) (body (mid.spend 16 v)) (flat_body (point u.words (flat.spend 2 u.world))) (λ way. mid.again way (rounds k body)) (λ way t. again way t (turns k flat_body))
        (follows s (mid.spend 16 v) (point u.words (flat.spend 2 u.world)) (spent g safe fr 16 2 s s v u (omega arith) h)) (again_grows k) (λ way w out t l. next (λ w2 t2 l2. rounds_follow k s w2 t2 l2) way w out t l.ways l.meets)
      where
        next : ((w2 : Point) (t2 : FPoint) → Meets g safe fr s w2 t2 → Follows safe (Left g safe fr d s) (rounds k body w2) (turns k flat_body t2)) → (way : Way) (w : Point) (out : flat.Way) (t : FPoint) → WaysAlike g (suc d) w.world.objects way out → Meets g safe fr s w t → Follows safe (Left g safe fr d s) (mid.again way (rounds k body) w) (again out t (turns k flat_body))
        next rec On w flat.Way.On t e l = rec w t l
        next rec On w (flat.Way.Out n) t e l = absurd e
        next rec On w (flat.Way.Back x) t e l = absurd e
        next rec (Out n) w flat.Way.On t e l = absurd e
        next rec (Out n) w (flat.Way.Out i) t e l = follows_goes safe (Left g safe fr d s) (out_of_one (Out n)) w (out_of (flat.Way.Out i)) t (record { ways = out_alike g d w.world.objects (Out n) (flat.Way.Out i) e; meets = l })
        next rec (Out n) w (flat.Way.Back x) t e l = absurd e
        next rec (Back x) w flat.Way.On t e l = absurd e
        next rec (Back x) w (flat.Way.Out i) t e l = absurd e
        next rec (Back x) w (flat.Way.Back y) t e l = follows_goes safe (Left g safe fr d s) (Back x) w (flat.Way.Back y) t (record { ways = e; meets = l })

  -- ---- Steps

  module _ (watch : Watch) (deep : mid.Calls) (names : Names) (call : run.Calls) (m frame : ℕ) (p : Program) (match : Matches g safe deep call) (grows : (xs : FSteps) (u : FPoint) → Grows u (run.act_all g call m frame xs u)) where
    abbrev R : (d s : ℕ) → Way → Point → flat.Way → FPoint → Type 0
    R d s = Left g safe fr d s

    abbrev later : FStep → FPoint → FPoint
    later x u = point u.words (flat.spend (time.charge x) u.world)

    one : (x : FStep) (d s : ℕ) (r : Goings Way) (u : FPoint) → Follows safe (Left g safe fr d s) r (run.act g call m frame x (point u.words (flat.spend (time.charge x) u.world))) → Follows safe (Left g safe fr d s) r (run.act_all g call m frame (more x none) u)
    one x d s r u h = to_equal safe (Left g safe fr d s) r (run.act_all g call m frame (more x none) u) (run.act g call m frame x (point u.words (flat.spend (time.charge x) u.world))) (only_acts g call m frame x u) h

    -- a value is set at once
    set_at_once : (x : FStep) (d s to : ℕ) (y : Value) (w : ℕ) (v : Point) (u : FPoint) → run.act g call m frame x (point u.words (flat.spend (time.charge x) u.world)) ≡ goes (put to w (point u.words (flat.spend (time.charge x) u.world))) → IsValue g v.world.objects y → w ≡ word_of_value v.world.objects y → Meets g safe fr s v (point u.words (flat.spend (time.charge x) u.world)) → Follows safe (Left g safe fr d s) (Goes On (set to y v)) (run.act_all g call m frame (more x none) u)
    set_at_once x d s to y w v u e formed is h =
        one x d s (Goes On (set to y v)) u
        (to_equal safe (Left g safe fr d s) (Goes On (set to y v)) _ (goes (put to w (point u.words (flat.spend (time.charge x) u.world)))) e
        (follows_goes safe (Left g safe fr d s) On (set to y v) flat.Way.On (put to w (point u.words (flat.spend (time.charge x) u.world))) (record { ways = tt; meets = sets g safe fr s to y w v (point u.words (flat.spend (time.charge x) u.world)) formed is h })))

    -- the first steps leave in one way, and the next ones follow
    onward_follows : (d s : ℕ) (xs : Steps) (ys : FSteps) (way : Way) (w : Point) (out : flat.Way) (t : FPoint) → WaysAlike g d w.world.objects way out → Meets g safe fr s w t → (Meets g safe fr s w t → Follows safe (Left g safe fr d s) (acts g watch deep m names xs w) (run.act_all g call m frame ys t)) → Follows safe (Left g safe fr d s) (mid.after way (acts g watch deep m names xs) w) (onward out t (run.act_all g call m frame ys))
    onward_follows d s xs ys On w flat.Way.On t e l go = go l
    onward_follows d s xs ys On w (flat.Way.Out n) t e l go = absurd e
    onward_follows d s xs ys On w (flat.Way.Back x) t e l go = absurd e
    onward_follows d s xs ys (Out n) w flat.Way.On t e l go = absurd e
    onward_follows d s xs ys (Out n) w (flat.Way.Out i) t e l go = follows_goes safe (Left g safe fr d s) (Out n) w (flat.Way.Out i) t (record { ways = e; meets = l })
    onward_follows d s xs ys (Out n) w (flat.Way.Back x) t e l go = absurd e
    onward_follows d s xs ys (Back x) w flat.Way.On t e l go = absurd e
    onward_follows d s xs ys (Back x) w (flat.Way.Out i) t e l go = absurd e
    onward_follows d s xs ys (Back x) w (flat.Way.Back y) t e l go = follows_goes safe (Left g safe fr d s) (Back x) w (flat.Way.Back y) t (record { ways = e; meets = l })

    -- ---- Divisions

    division_follows : (d s to : ℕ) (o : DivideOp) (a b line : ℕ) (v : Point) (u : FPoint) → a < fr.values → b < fr.values → Meets g safe fr s v u → Follows safe (Left g safe fr d s) (setting to (on_words (λ x y. unless_zero line y (divided o x y)) (v.values a) (v.values b)) (mid.spend 32 v)) (run.act_all g call m frame (division fr.values to o a b line) u)
    unfolding and_then
    division_follows d s to o a b line v u la lb h =
        of (v.values a) (v.values b) (h.values.each a la) (h.values.each b lb) (h.values.formed a la) (h.values.formed b lb)
      where
        h1 : Meets g safe fr (s + 26) (mid.spend 32 v) (point u.words (flat.spend 6 u.world))
        h1 = spent g safe fr 32 6 s (s + 26) v u (omega arith) h

        decide : (t : Bool) (i j : ℕ) → u.words a ≡ i → u.words b ≡ j → i < 4294967296 → j < 4294967296 → Follows safe (Left g safe fr d s) (and_then (done_at (mid.spend 32 v) (if t then Ends (Reported DivZero line) v.world else Goes (Num (divided o i j)) v.world)) (λ x t. Goes On (set to x t))) (and_then (choose t (run.act_all g call m frame (more (FStep.Number fr.values line) (more (FStep.Report DivZero fr.values) none))) (run.act_all g call m frame none) (point u.words (flat.spend 6 u.world))) (λ way t. onward way t (run.act_all g call m frame (more (FStep.Arith to (quotient o) a b) none))))
        decide true i j ea eb pa pb = record {
          by = record {
            point = point (with_word u.words fr.values line) (flat.spend 4 (flat.spend 3 (flat.spend 6 u.world)));
            is = ap (λ z. Ends (Ending.Reported DivZero z) (point (with_word u.words fr.values line) (flat.spend 4 (flat.spend 3 (flat.spend 6 u.world))))) (word_here u.words fr.values line);
            says = h1.agrees.world.says;
            time = omega (arith, h1.paid);
          };
        }
        decide false i j ea eb pa pb =
            follows_goes safe (Left g safe fr d s) On (set to (Num (divided o i j)) (at_world v.world (mid.spend 32 v))) flat.Way.On (put to (calculated (quotient o) (u.words a) (u.words b)) (point u.words (flat.spend 5 (flat.spend 6 u.world))))
            (record {
              ways = tt;
              meets = sets g safe fr s to (Num (divided o i j)) (calculated (quotient o) (u.words a) (u.words b)) (at_world v.world (mid.spend 32 v)) (point u.words (flat.spend 5 (flat.spend 6 u.world)))
                  (subst (λ z. z < 4294967296) (quotient_is o i j) (calculated_fits (quotient o) i j pa pb))
                  (ap (λ z. calculated (quotient o) z (u.words b)) ea ∙ ap (λ z. calculated (quotient o) i z) eb ∙ quotient_is o i j)
                  (unchanged g safe fr s (mid.spend 32 v) (point u.words (flat.spend 5 (flat.spend 6 u.world))) (flat_spent g safe fr 5 (s + 26) s (mid.spend 32 v) (point u.words (flat.spend 6 u.world)) (omega arith) h1));
            })

        apart : Begins safe (at_world v.world (mid.spend 32 v)) (run.act_all g call m frame (division fr.values to o a b line) u)
        apart = left g safe fr s (at_world v.world (mid.spend 32 v)) u (run.act_all g call m frame (division fr.values to o a b line) u) (grows (division fr.values to o a b line) u) (unchanged g safe fr s (mid.spend 32 v) u (earned g safe fr 32 s v u h))

        of : (x y : Value) → u.words a ≡ word_of_value v.world.objects x → u.words b ≡ word_of_value v.world.objects y → IsValue g v.world.objects x → IsValue g v.world.objects y → Follows safe (Left g safe fr d s) (setting to (on_words (λ x y. unless_zero line y (divided o x y)) x y) (mid.spend 32 v)) (run.act_all g call m frame (division fr.values to o a b line) u)
        of (Num i) (Num j) ea eb pa pb =
            to_equal safe (Left g safe fr d s) _ _ _ (ap (λ z. and_then (choose (z == 0) (run.act_all g call m frame (more (FStep.Number fr.values line) (more (FStep.Report DivZero fr.values) none))) (run.act_all g call m frame none) (point u.words (flat.spend 6 u.world))) (λ way t. onward way t (run.act_all g call m frame (more (FStep.Arith to (quotient o) a b) none)))) eb)
            (decide (j == 0) i j ea eb pa pb)
        of (Num i) (Ptr q) ea eb pa pb = record { by = apart }
        of (Ptr q) y ea eb pa pb = record { by = apart }

    -- ---- Choices

    either_follows : (d s : ℕ) (xs ys : Steps) (v : Point) (u : FPoint) (w : ℕ) → Meets g safe fr s v u → (Meets g safe fr s (at_world v.world v) u → Follows safe (Left g safe fr d s) (acts g watch deep m names xs (at_world v.world v)) (run.act_all g call m frame (code g fr.values xs) u)) → (Meets g safe fr s (at_world v.world v) u → Follows safe (Left g safe fr d s) (acts g watch deep m names ys (at_world v.world v)) (run.act_all g call m frame (code g fr.values ys) u)) → (r : Does Bool) → GivesAlike v.world (not (w == 0)) r → Follows safe (Left g safe fr d s) (and_then (done_at v r) (λ holds. either holds (acts g watch deep m names xs) (acts g watch deep m names ys))) (choose (w == 0) (run.act_all g call m frame (code g fr.values ys)) (run.act_all g call m frame (code g fr.values xs)) u)
    unfolding and_then
    either_follows d s xs ys v u w h when_true when_false (Goes b y) e =
        subst (λ z. Follows safe (Left g safe fr d s) (either b (acts g watch deep m names xs) (acts g watch deep m names ys) (at_world z v)) (choose (w == 0) (run.act_all g call m frame (code g fr.values ys)) (run.act_all g call m frame (code g fr.values xs)) u)) (sym e.0)
        (subst (λ z. Follows safe (Left g safe fr d s) (either z (acts g watch deep m names xs) (acts g watch deep m names ys) (at_world v.world v)) (choose (w == 0) (run.act_all g call m frame (code g fr.values ys)) (run.act_all g call m frame (code g fr.values xs)) u)) (sym e.1) (pick (w == 0)))
      where
        pick : (t : Bool) → Follows safe (Left g safe fr d s) (either (not t) (acts g watch deep m names xs) (acts g watch deep m names ys) (at_world v.world v)) (choose t (run.act_all g call m frame (code g fr.values ys)) (run.act_all g call m frame (code g fr.values xs)) u)
        pick true = when_false (unchanged g safe fr s v u h)
        pick false = when_true (unchanged g safe fr s v u h)
    either_follows d s xs ys v u w h when_true when_false (Ends (Outside cause) y) e =
        subst (λ z. Follows safe (Left g safe fr d s) (Ends (Came (Outside cause)) (at_world z v)) (choose (w == 0) (run.act_all g call m frame (code g fr.values ys)) (run.act_all g call m frame (code g fr.values xs)) u)) (sym e)
        (record { by = left g safe fr s (at_world v.world v) u (choose (w == 0) (run.act_all g call m frame (code g fr.values ys)) (run.act_all g call m frame (code g fr.values xs)) u) (either_grows (w == 0)) (unchanged g safe fr s v u h) })
      where
        either_grows : (t : Bool) → Grows u (choose t (run.act_all g call m frame (code g fr.values ys)) (run.act_all g call m frame (code g fr.values xs)) u)
        either_grows true = grows (code g fr.values ys) u
        either_grows false = grows (code g fr.values xs) u
    either_follows d s xs ys v u w h when_true when_false (Ends (Exited n) y) e = absurd e
    either_follows d s xs ys v u w h when_true when_false (Ends (Reported kind line) y) e = absurd e
    either_follows d s xs ys v u w h when_true when_false (Ends (Trapped kind) y) e = absurd e
    either_follows d s xs ys v u w h when_true when_false (Ends Cut y) e = absurd e

    -- ---- The library

    putchar_follows : (d s to a : ℕ) (x : Value) (v : Point) (u : FPoint) → u.words a ≡ word_of_value v.world.objects x → Meets g safe fr s v u → Follows safe (Left g safe fr d s) (setting to (with_number x write_out) v) (goes (put to (u.words a % 256) (point u.words (tell (Tell.Output (u.words a % 256)) u.world))))
    unfolding and_then
    putchar_follows d s to a (Ptr q) v u e h = record { by = left g safe fr s (at_world v.world v) u _ (told u.words (u.words a % 256)) (unchanged g safe fr s v u h) }
      where
        told : (words : flat.Words) (byte : ℕ) → Grows u (goes (put to byte (point words (tell (Tell.Output byte) u.world))))
        told words byte = record { told = record { rest = record { time = u.world.time; what = Tell.Output byte } ∷ []; is = refl } }
    putchar_follows d s to a (Num i) v u e h =
        to_equal safe (Left g safe fr d s) _ _ _ (ap (λ z. goes (put to (z % 256) (point u.words (tell (Tell.Output (z % 256)) u.world)))) e)
        (follows_goes safe (Left g safe fr d s) On (set to (Num (i % 256)) (at_world (record v.world { output = v.world.output ++ i % 256 ∷ [] }) v)) flat.Way.On (put to (i % 256) (point u.words (tell (Tell.Output (i % 256)) u.world)))
        (record { ways = tt; meets = sets g safe fr s to (Num (i % 256)) (i % 256) (at_world (record v.world { output = v.world.output ++ i % 256 ∷ [] }) v) (point u.words (tell (Tell.Output (i % 256)) u.world)) (let q : i % 256 < 4294967296 = omega arith in q) refl (wrote g safe fr laws.says s (i % 256) v u h) }))

    getchar_follows : (d s to : ℕ) (rest : List ℕ) (v : Point) (u : FPoint) → v.world.rest ≡ rest → Meets g safe fr s v u → Follows safe (Left g safe fr d s) (setting to (get_from rest) v) (goes (get to rest u))
    unfolding and_then
    getchar_follows d s to [] v u e h =
        follows_goes safe (Left g safe fr d s) On (set to (Num 4294967295) (at_world v.world v)) flat.Way.On (put to 4294967295 u)
        (record { ways = tt; meets = sets g safe fr s to (Num 4294967295) 4294967295 (at_world v.world v) u (omega arith) refl (unchanged g safe fr s v u h) })
    getchar_follows d s to (byte ∷ bytes) v u e h =
        let small : All (λ b. b < 256) (byte ∷ bytes) = subst (All (λ b. b < 256)) e h.agrees.bytes in
        let first : byte < 256 = All-head (λ b. b < 256) byte bytes small in
        follows_goes safe (Left g safe fr d s) On (set to (Num byte) (at_world (record v.world { rest = bytes }) v)) flat.Way.On (put to byte (point u.words (record u.world { input = bytes })))
        (record { ways = tt; meets = sets g safe fr s to (Num byte) byte (at_world (record v.world { rest = bytes }) v) (point u.words (record u.world { input = bytes })) (let q : byte < 4294967296 = omega (arith, first) in q) refl (took g safe fr s bytes v u (All-tail (λ b. b < 256) byte bytes small) h) })

    exit_follows : (d s to a : ℕ) (x : Value) (v : Point) (u : FPoint) → u.words a ≡ word_of_value v.world.objects x → Meets g safe fr s v u → Follows safe (Left g safe fr d s) (setting to (with_number x (λ n. Ends (Exited n))) v) (ends (Ending.Exited (u.words a)) u)
    unfolding and_then
    exit_follows d s to a (Ptr q) v u e h = record { by = left g safe fr s (at_world v.world v) u _ (grows_end u (Ending.Exited (u.words a)) u refl) (unchanged g safe fr s v u h) }
    exit_follows d s to a (Num i) v u e h =
        to_equal safe (Left g safe fr d s) _ _ _ (ap (λ z. ends (Ending.Exited z) u) e)
        (record { by = stopped g safe fr (Ending.Exited i) s (at_world v.world v) u (unchanged g safe fr s v u h) })

    malloc_grows : (to a : ℕ) (u : FPoint) → Grows (point u.words (flat.spend 5 u.world)) (goes (malloc g to (u.words a) (point u.words (flat.spend 5 u.world))))
    unfolding and_then
    malloc_grows to a u = record { told = (grows (more (FStep.Env to 4 a a) none) u).told }

    freeing : (d s to line a : ℕ) (v : Point) (u : FPoint) → a < fr.values → Meets g safe fr s v u → Follows safe (Left g safe fr d s) (setting to (with_pointer (v.values a) (free line)) (mid.spend 64 v)) (run.act_all g call m frame (library_code fr.values lib.Free to line (a ∷ [])) u)
    unfolding and_then
    freeing d s to line a v u la h =
        let n = fr.values in
        let u1 : FPoint = put n line (point u.words (flat.spend 3 u.world)) in
        let h1 : Meets g safe fr (s + 8) (mid.spend 64 v) u1 = sets_temporary g safe fr 3 (s + 64) (s + 8) n line (mid.spend 64 v) u (omega arith) (omega arith) (gained g safe fr 64 s (s + 64) v u (omega arith) h) in
        free_follows laws.heap g (omega (arith, big)) small safe fr d s to line (v.values a) (u1.words a) (u1.words n) (mid.spend 64 v) (point u1.words (flat.spend 5 u1.world)) (h1.values.each a la) (word_here u.words n line) (h1.values.formed a la)
        (flat_spent g safe fr 5 (s + 8) (s + 3) (mid.spend 64 v) u1 (omega arith) h1)

    -- room for so many elements of a size
    allocating : (d s to a b : ℕ) (v : Point) (u : FPoint) → a < fr.values → b < fr.values → Meets g safe fr s v u → Follows safe (Left g safe fr d s) (setting to (with_number (v.values a) (λ i. with_number (v.values b) (λ j. allocate g (i * j)))) (mid.spend 1024 v)) (run.act_all g call m frame (allocation fr.values to a b) u)
    unfolding and_then
    allocating d s to a b v u la lb h = of (v.values a) (v.values b) refl refl
      where
        n : ℕ
        n = fr.values

        w1 : flat.Words
        w1 = with_word u.words n (unsigned_high_product (u.words a) (u.words b))

        p1 : FPoint
        p1 = point w1 (flat.spend 6 (flat.spend 5 u.world))

        h1 : Meets g safe fr (s + 64) (mid.spend 1024 v) (point w1 (flat.spend 5 u.world))
        h1 = sets_temporary g safe fr 5 (s + 1024) (s + 64) n (unsigned_high_product (u.words a) (u.words b)) (mid.spend 1024 v) u (omega arith) (omega arith) (gained g safe fr 1024 s (s + 1024) v u (omega arith) h)

        h2 : Meets g safe fr (s + 58) (mid.spend 1024 v) p1
        h2 = flat_spent g safe fr 6 (s + 64) (s + 58) (mid.spend 1024 v) (point w1 (flat.spend 5 u.world)) (omega arith) h1

        -- the size is a word, or it is none
        whole : FPoint
        whole = point (with_word w1 n (product (w1 a) (w1 b))) (flat.spend 5 (flat.spend 5 p1.world))

        greatest : FPoint
        greatest = point (with_word w1 n 4294967295) (flat.spend 5 (flat.spend 3 p1.world))

        met_whole : Meets g safe fr s (mid.spend 1024 v) whole
        met_whole = flat_spent g safe fr 5 (s + 5) s (mid.spend 1024 v) (point (with_word w1 n (product (w1 a) (w1 b))) (flat.spend 5 p1.world)) (omega arith) (sets_temporary g safe fr 5 (s + 58) (s + 5) n (product (w1 a) (w1 b)) (mid.spend 1024 v) p1 (omega arith) (omega arith) h2)

        met_greatest : Meets g safe fr s (mid.spend 1024 v) greatest
        met_greatest = flat_spent g safe fr 5 (s + 5) s (mid.spend 1024 v) (point (with_word w1 n 4294967295) (flat.spend 3 p1.world)) (omega arith) (sets_temporary g safe fr 3 (s + 58) (s + 5) n 4294967295 (mid.spend 1024 v) p1 (omega arith) (omega arith) h2)

        decide : (t : Bool) (i j : ℕ) → u.words a ≡ i → u.words b ≡ j → nat_lt (i * j) 4294967296 ≡ t → Follows safe (Left g safe fr d s) (and_then (done_at (mid.spend 1024 v) (allocate g (i * j) v.world)) (λ x t. Goes On (set to x t))) (run.act_all g call m frame (allocation n to a b) u)
        decide true i j ea eb e =
            let lt : i * j < 4294967296 = grind (arith, nat_tests) in
            let same : w1 a ≡ i = word_there u.words n a (unsigned_high_product (u.words a) (u.words b)) (λ q. omega (arith, la, q)) ∙ ea in
            let other : w1 b ≡ j = word_there u.words n b (unsigned_high_product (u.words a) (u.words b)) (λ q. omega (arith, lb, q)) ∙ eb in
            let none_high : (w1 n == 0) ≡ true = ap (λ z. z == 0) (word_here u.words n (unsigned_high_product (u.words a) (u.words b)) ∙ ap (λ z. unsigned_high_product z (u.words b)) ea ∙ ap (λ z. unsigned_high_product i z) eb ∙ low_high (i * j) lt) in
            let size : with_word w1 n (product (w1 a) (w1 b)) n ≡ i * j = word_here w1 n (product (w1 a) (w1 b)) ∙ ap (λ z. product z (w1 b)) same ∙ ap (λ z. product i z) other ∙ low_product (i * j) lt in
            to_equal safe (Left g safe fr d s) _ _ (goes (malloc g to (i * j) whole)) (ap (λ t. and_then (choose t (run.act_all g call m frame (more (FStep.Arith n op.Mul a b) none)) (run.act_all g call m frame (more (FStep.Number n 4294967295) none)) p1) (λ way t. onward way t (run.act_all g call m frame (more (FStep.Env to 4 n n) none)))) none_high ∙ ap (λ z. goes (malloc g to z whole)) size)
            (taken_follows laws.heap g (omega (arith, big)) small safe fr d s to (i * j) (mid.spend 1024 v) whole met_whole)
        decide false i j ea eb e =
            let le : 4294967296 ≤ i * j = grind (arith, nat_tests) in
            let some_high : (w1 n == 0) ≡ false = ap (λ z. z == 0) (word_here u.words n (unsigned_high_product (u.words a) (u.words b)) ∙ ap (λ z. unsigned_high_product z (u.words b)) ea ∙ ap (λ z. unsigned_high_product i z) eb) ∙ ne_eqb (i * j / 2 ^ 32) 0 (λ q. omega (arith, le, q)) in
            to_equal safe (Left g safe fr d s) _ _ (goes (malloc g to (i * j) greatest)) (ap (λ t. and_then (choose t (run.act_all g call m frame (more (FStep.Arith n op.Mul a b) none)) (run.act_all g call m frame (more (FStep.Number n 4294967295) none)) p1) (λ way t. onward way t (run.act_all g call m frame (more (FStep.Env to 4 n n) none)))) some_high ∙ ap (λ z. goes (malloc g to z greatest)) (word_here w1 n 4294967295) ∙ ap goes (both_refused g to 4294967295 (i * j) greatest (omega arith) (omega (arith, le))))
            (taken_follows laws.heap g (omega (arith, big)) small safe fr d s to (i * j) (mid.spend 1024 v) greatest met_greatest)

        apart : Begins safe (at_world v.world (mid.spend 1024 v)) (run.act_all g call m frame (allocation n to a b) u)
        apart = left g safe fr s (at_world v.world (mid.spend 1024 v)) u (run.act_all g call m frame (allocation n to a b) u) (grows (allocation n to a b) u) (unchanged g safe fr s (mid.spend 1024 v) u (earned g safe fr 1024 s v u h))

        of : (x y : Value) → v.values a ≡ x → v.values b ≡ y → Follows safe (Left g safe fr d s) (setting to (with_number x (λ i. with_number y (λ j. allocate g (i * j)))) (mid.spend 1024 v)) (run.act_all g call m frame (allocation n to a b) u)
        of (Num i) (Num j) ea eb = decide (nat_lt (i * j) 4294967296) i j (h.values.each a la ∙ ap (word_of_value v.world.objects) ea) (h.values.each b lb ∙ ap (word_of_value v.world.objects) eb) refl
        of (Num i) (Ptr q) ea eb = record { by = apart }
        of (Ptr q) y ea eb = record { by = apart }

    calloc_follows : (d s to line site_a site_b : ℕ) (args : List ℕ) (v : Point) (u : FPoint) → HasArguments fr.values lib.Calloc args → Meets g safe fr s v u → Follows safe (Left g safe fr d s) (setting to (library g lib.Calloc site_a site_b line (map v.values args)) (mid.spend 1024 v)) (run.act_all g call m frame (library_code fr.values lib.Calloc to line args) u)
    calloc_follows d s to line sa sb args v u f h =
        subst (λ z. Follows safe (Left g safe fr d s) (setting to (library g lib.Calloc sa sb line (map v.values z)) (mid.spend 1024 v)) (run.act_all g call m frame (library_code fr.values lib.Calloc to line z) u)) (sym f.2)
        (allocating d s to f.0 f.1 v u f.3 f.4 h)

    library_follows : (d s to line site_a site_b : ℕ) (which : LibCall) (args : List ℕ) (v : Point) (u : FPoint) → HasArguments fr.values which args → Meets g safe fr s v u → charge (Step.Library to which args line None None) ≡ 64 → Follows safe (Left g safe fr d s) (setting to (library g which site_a site_b line (map v.values args)) (mid.spend 64 v)) (run.act_all g call m frame (library_code fr.values which to line args) u)
    library_follows d s to line sa sb lib.Putchar args v u f h e =
        subst (λ z. Follows safe (Left g safe fr d s) (setting to (library g lib.Putchar sa sb line (map v.values z)) (mid.spend 64 v)) (run.act_all g call m frame (library_code fr.values lib.Putchar to line z) u)) (sym f.1)
        (one (FStep.Env to 3 f.0 f.0) d s _ u (putchar_follows d s to f.0 (v.values f.0) (mid.spend 64 v) (point u.words (flat.spend 5 u.world)) (h.values.each f.0 f.2) (spent g safe fr 64 5 s s v u (omega arith) h)))
    library_follows d s to line sa sb lib.Getchar args v u f h e =
        one (FStep.Env to 2 to to) d s _ u
        (to_equal safe (Left g safe fr d s) _ _ _ (ap (λ z. goes (get to z (point u.words (flat.spend 5 u.world)))) h.agrees.world.inputs)
        (getchar_follows d s to v.world.rest (mid.spend 64 v) (point u.words (flat.spend 5 u.world)) refl (spent g safe fr 64 5 s s v u (omega arith) h)))
    library_follows d s to line sa sb lib.Exit args v u f h e =
        subst (λ z. Follows safe (Left g safe fr d s) (setting to (library g lib.Exit sa sb line (map v.values z)) (mid.spend 64 v)) (run.act_all g call m frame (library_code fr.values lib.Exit to line z) u)) (sym f.1)
        (one (FStep.Env to 1 f.0 f.0) d s _ u (exit_follows d s to f.0 (v.values f.0) (mid.spend 64 v) (point u.words (flat.spend 5 u.world)) (h.values.each f.0 f.2) (spent g safe fr 64 5 s s v u (omega arith) h)))
    library_follows d s to line sa sb lib.Malloc args v u f h e =
        subst (λ z. Follows safe (Left g safe fr d s) (setting to (library g lib.Malloc sa sb line (map v.values z)) (mid.spend 64 v)) (run.act_all g call m frame (library_code fr.values lib.Malloc to line z) u)) (sym f.1)
        (one (FStep.Env to 4 f.0 f.0) d s _ u
        (malloc_follows laws.heap g (omega (arith, big)) small safe fr d s to (v.values f.0) (u.words f.0) (mid.spend 64 v) (point u.words (flat.spend 5 u.world)) (h.values.each f.0 f.2)
        (malloc_grows to f.0 u) (spent g safe fr 64 5 s s v u (omega arith) h)))
    library_follows d s to line sa sb lib.Calloc args v u f h e = absurd (omega (arith, e))
    library_follows d s to line sa sb lib.Free args v u f h e =
        subst (λ z. Follows safe (Left g safe fr d s) (setting to (library g lib.Free sa sb line (map v.values z)) (mid.spend 64 v)) (run.act_all g call m frame (library_code fr.values lib.Free to line z) u)) (sym f.1)
        (freeing d s to line f.0 v u f.2 h)
    library_follows d s to line sa sb lib.Memcpy args v u f h e = absurd f
    library_follows d s to line sa sb lib.Memset args v u f h e = absurd f

    -- ---- Steps of code

    call_follows : (d s to f : ℕ) (args : List ℕ) (v : Point) (u : FPoint) → All (λ a. a < fr.values) args → Meets g safe fr s v u → Follows safe (Left g safe fr d s) (and_then (deep f (map v.values args) v) (λ x t. Goes On (set to x t))) (and_then (call f (map u.words args) u) (λ word t. goes (put to word t)))
    call_follows d s to f args v u lt h =
        follows_then safe (Gave g safe fr s) (Left g safe fr d s) (deep f (map v.values args) v) (call f (map u.words args) u) (λ x t. Goes On (set to x t)) (λ word t. goes (put to word t))
        (to_equal safe (Gave g safe fr s) _ _ _ (ap (λ z. call f z u) (words_are args v u s lt h))
        (match fr s f (map v.values args) v u (values_are args v u s lt h) (enters g safe fr s v u h)))
        (λ word t. grows_on t _ (put to word t) refl)
        (λ x w word t l. follows_goes safe (Left g safe fr d s) On (set to x w) flat.Way.On (put to word t) (record { ways = tt; meets = sets g safe fr s to x word w t l.formed l.word l.meets }))

    -- what stands at a place is loaded unchecked
    loading_follows : (to at : ℕ) (w : Width) (d s : ℕ) (v : Point) (u : FPoint) → at < fr.values → Meets g safe fr s v u → Follows safe (Left g safe fr d s) (setting to (with_pointer (v.values at) (load w)) (mid.spend 128 v)) (run.act_all g call m frame (more (FStep.Load to at w) none) u)
    loading_follows to at w d s v u la h =
        one (FStep.Load to at w) d s _ u
        (load_follows g safe fr laws.says d laws.loads big s to at w (v.values at) (mid.spend 128 v) (point u.words (flat.spend 3 u.world)) (h.values.each at la) (spent g safe fr 128 3 s s v u (omega arith) h))

    ways_out : (d s : ℕ) (way : Way) (w : Point) (out : flat.Way) (t : FPoint) → Left g safe fr (suc d) s way w out t → Follows safe (Left g safe fr d s) (Goes (out_of_one way) w) (Goes (out_of out) t)
    ways_out d s way w out t l = follows_goes safe (Left g safe fr d s) (out_of_one way) w (out_of out) t (record { ways = out_alike g d w.world.objects way out l.ways; meets = l.meets })

    mutual
      pub step_follows : (x : Step) (d s : ℕ) (v : Point) (u : FPoint) → Fits p fr.values d x → Meets g safe fr s v u → Follows safe (Left g safe fr d s) (act g watch deep m names x (mid.spend (charge x) v)) (run.act_all g call m frame (step_code g fr.values x) u)
      step_follows (Step.Number to value) d s v u f h =
          set_at_once (FStep.Number to value) d s to (Num (value % 2 ^ 32)) value (mid.spend 8 v) u refl (omega arith) (let q : value ≡ value % 2 ^ 32 = omega (arith, f.1) in q) (spent g safe fr 8 3 s s v u (omega arith) h)
      step_follows (Step.NullPtr to) d s v u f h =
          set_at_once (FStep.Number to 0) d s to (Ptr Null) 0 (mid.spend 4 v) u refl tt refl (spent g safe fr 4 3 s s v u (omega arith) h)
      step_follows (Step.Same to from) d s v u f h =
          set_at_once (FStep.Same to from) d s to (v.values from) (u.words from) (mid.spend 8 v) u refl (h.values.formed from f.1) (h.values.each from f.1) (spent g safe fr 8 2 s s v u (omega arith) h)
      step_follows (Step.Arith to o a b) d s v u f h =
          one (FStep.Arith to o a b) d s _ u
          (to_equal safe (Left g safe fr d s) _ _ _ (ap (λ z. goes (put to (calculated o z (u.words b)) (point u.words (flat.spend 5 u.world)))) (h.values.each a f.1) ∙ ap (λ z. goes (put to (calculated o (word_of_value v.world.objects (v.values a)) z) (point u.words (flat.spend 5 u.world)))) (h.values.each b f.2))
          (setting_follows g safe fr d (on_words (λ x y. Goes (Num (calculated o x y))) (v.values a) (v.values b)) s to _ (mid.spend 16 v) (point u.words (flat.spend 5 u.world))
          (words_reply g o (v.values a) (v.values b) v.world (h.values.formed a f.1) (h.values.formed b f.2)) (spent g safe fr 16 5 s s v u (omega arith) h)))
      step_follows (Step.Divide to o a b line) d s v u f h = division_follows d s to o a b line v u f.1 f.2 h
      step_follows (Step.PtrSame to a b) d s v u f h =
          one (FStep.Arith to op.Equal a b) d s _ u
          (to_equal safe (Left g safe fr d s) _ _ _ (ap (λ z. goes (put to (calculated op.Equal z (u.words b)) (point u.words (flat.spend 5 u.world)))) (h.values.each a f.1) ∙ ap (λ z. goes (put to (calculated op.Equal (word_of_value v.world.objects (v.values a)) z) (point u.words (flat.spend 5 u.world)))) (h.values.each b f.2))
          (setting_follows g safe fr d (same (v.values a) (v.values b)) s to _ (mid.spend 32 v) (point u.words (flat.spend 5 u.world))
          (same_reply g _ _ (same (v.values a) (v.values b) v.world) v.world (laws.compares g (v.values a) (v.values b) v.world h.agrees.world.injects.out (h.values.formed a f.1) (h.values.formed b f.2)).equality) (spent g safe fr 32 5 s s v u (omega arith) h)))
      step_follows (Step.Call to k args) d s v u f h =
          one (FStep.Call to k args) d s _ u (call_follows d s to k args (mid.spend 128 v) (point u.words (flat.spend 48 u.world)) f.2 (spent g safe fr 128 48 s s v u (omega arith) h))
      step_follows (Step.Library to which args line a b) d s v u f h = called which f.1
        where
          called : (which : LibCall) → HasArguments fr.values which args → Follows safe (Left g safe fr d s) (act g watch deep m names (Step.Library to which args line a b) (mid.spend (charge (Step.Library to which args line a b)) v)) (run.act_all g call m frame (library_code fr.values which to line args) u)
          called lib.Putchar e = library_follows d s to line (site_in a) (site_in b) lib.Putchar args v u e h refl
          called lib.Getchar e = library_follows d s to line (site_in a) (site_in b) lib.Getchar args v u e h refl
          called lib.Exit e = library_follows d s to line (site_in a) (site_in b) lib.Exit args v u e h refl
          called lib.Malloc e = library_follows d s to line (site_in a) (site_in b) lib.Malloc args v u e h refl
          called lib.Calloc e = calloc_follows d s to line (site_in a) (site_in b) args v u e h
          called lib.Free e = library_follows d s to line (site_in a) (site_in b) lib.Free args v u e h refl
          called lib.Memcpy e = absurd e
          called lib.Memset e = absurd e
      step_follows (Step.If cond xs ys) d s v u f h =
          one (FStep.If cond (code g fr.values xs) (code g fr.values ys)) d s _ u
          (to_equal safe (Left g safe fr d s) _ _ _ (ap (λ z. choose (z == 0) (run.act_all g call m frame (code g fr.values ys)) (run.act_all g call m frame (code g fr.values xs)) (point u.words (flat.spend 6 u.world))) (h.values.each cond f.0))
          (either_follows d s xs ys (mid.spend 16 v) (point u.words (flat.spend 6 u.world)) _ (spent g safe fr 16 6 s s v u (omega arith) h)
          (λ l. steps_follow xs d s _ _ f.1 l) (λ l. steps_follow ys d s _ _ f.2 l)
          (truth (v.values cond) v.world) (laws.truths g (v.values cond) v.world h.agrees.world.injects.out (h.values.formed cond f.0))))
      step_follows (Step.Block body) d s v u f h =
          one (FStep.Block (code g fr.values body)) d s _ u
          (follows_then safe (Left g safe fr (suc d) s) (Left g safe fr d s) (acts g watch deep m names body (mid.spend 8 v)) (run.act_all g call m frame (code g fr.values body) (point u.words (flat.spend 0 u.world))) (λ way. Goes (out_of_one way)) (λ way t. Goes (out_of way) t)
          (steps_follow body (suc d) s (mid.spend 8 v) (point u.words (flat.spend 0 u.world)) f (spent g safe fr 8 0 s s v u (omega arith) h))
          (λ way t. grows_on t _ t refl) (λ way w out t l. ways_out d s way w out t l))
      step_follows (Step.Loop body) d s v u f h =
          one (FStep.Loop (code g fr.values body)) d s _ u
          (rounds_follow d (acts g watch deep m names body) (run.act_all g call m frame (code g fr.values body)) (grows (code g fr.values body)) (λ s1 v1 u1 l. steps_follow body (suc d) s1 v1 u1 f l) m s (mid.spend 8 v) (point u.words (flat.spend 0 u.world)) (spent g safe fr 8 0 s s v u (omega arith) h))
      step_follows (Step.Exit zero) d s v u f h = absurd (omega (arith, f.0))
      step_follows (Step.Exit (suc k)) d s v u f h =
          one (FStep.Exit (suc k)) d s _ u
          (follows_goes safe (Left g safe fr d s) (Out (suc k)) (mid.spend 8 v) (flat.Way.Out k) (point u.words (flat.spend 2 u.world)) (record { ways = (refl, f.1); meets = spent g safe fr 8 2 s s v u (omega arith) h }))
      step_follows (Step.Return from) d s v u f h =
          one (FStep.Return from) d s _ u
          (follows_goes safe (Left g safe fr d s) (Back (v.values from)) (mid.spend 16 v) (flat.Way.Back (u.words from)) (point u.words (flat.spend 3 u.world)) (record { ways = (h.values.formed from f, h.values.each from f); meets = spent g safe fr 16 3 s s v u (omega arith) h }))
      step_follows (Step.LineMark line) d s v u f h =
          one (FStep.LineMark line) d s _ u
          (follows_goes safe (Left g safe fr d s) On (record (mid.spend 4 v) { world = noted (Line line) v.world }) flat.Way.On (point u.words (tell (Tell.Line line) (flat.spend 1 u.world))) (record { ways = tt; meets = marked g safe fr laws.says laws.trails s line (mid.spend 4 v) (point u.words (flat.spend 1 u.world)) (spent g safe fr 4 1 s s v u (omega arith) h) }))
      step_follows (Step.Named to o) d s v u f h = absurd f
      step_follows (Step.Move site to from by scale down line) d s v u f h =
          elements_follow laws.moving g big small safe checked fr call m frame d grows (keeps names (watch site) (v.values from) (distance_of scale down (v.values by)) v.world) s site to from by scale down line v u f.0 f.1 f.2 f.3 h
      step_follows (Step.MoveBy site to from z line) d s v u f h =
          distance_follows laws.moving g big small safe checked fr call m frame d grows (keeps names (watch site) (v.values from) z v.world) s site to from line z v u f.0 f.1 f.2 h
      step_follows (Step.Load to at width.Byte line) d s v u f h = loading_follows to at width.Byte d s v u f.1 h
      step_follows (Step.Load to at width.Half line) d s v u f h = loading_follows to at width.Half d s v u f.1 h
      step_follows (Step.Load to at width.SignedHalf line) d s v u f h = loading_follows to at width.SignedHalf d s v u f.1 h
      step_follows (Step.Load to at width.Word line) d s v u f h = loading_follows to at width.Word d s v u f.1 h
      step_follows (Step.Load to at width.Pointer line) d s v u f h =
          pointer_follows g safe fr laws.says d laws.loads big laws.passes laws.stops call m frame grows s to at line (v.values at) v u refl f.0 f.1 h
      step_follows (Step.Store at from width) d s v u f h =
          one (FStep.Store at from width) d s _ u
          (store_follows g safe fr laws.says d laws.stores big s at from width (v.values at) (v.values from) (mid.spend 16 v) (point u.words (flat.spend 3 u.world)) (h.values.each at f.0) (h.values.each from f.1) (h.values.formed from f.1) (spent g safe fr 16 3 s s v u (omega arith) h))
      step_follows (Step.Clear o) d s v u f h = absurd f
      step_follows (Step.Init o offset from width) d s v u f h = absurd f
      step_follows (Step.CopyBytes a b from to n line) d s v u f h = absurd f
      step_follows (Step.PtrOrder to o a b) d s v u f h = ordering_follows laws.compares g safe fr call m frame d s to o a b v u f.1 f.2 h
      step_follows (Step.PtrDiff to a b size) d s v u f h = subtraction_follows laws.compares g safe fr call m frame d s to a b size v u f.1 f.2 f.3 f.4 h

      pub steps_follow : (xs : Steps) (d s : ℕ) (v : Point) (u : FPoint) → AllFit p fr.values d xs → Meets g safe fr s v u → Follows safe (Left g safe fr d s) (acts g watch deep m names xs v) (run.act_all g call m frame (code g fr.values xs) u)
      steps_follow Steps.stop d s v u f h = follows_goes safe (Left g safe fr d s) On v flat.Way.On u (record { ways = tt; meets = h })
      steps_follow (Steps.step x xs) d s v u f h =
          to_equal safe (Left g safe fr d s) _ _ _ (acts_append g call m frame (step_code g fr.values x) (code g fr.values xs) u)
          (follows_then safe (Left g safe fr d s) (Left g safe fr d s) (act g watch deep m names x (mid.spend (charge x) v)) (run.act_all g call m frame (step_code g fr.values x) u) (λ way. mid.after way (acts g watch deep m names xs)) (λ way t. onward way t (run.act_all g call m frame (code g fr.values xs)))
          (step_follows x d s v u f.0 h)
          (onward_grows (run.act_all g call m frame (code g fr.values xs)) (grows (code g fr.values xs)))
          (λ way w out t l. onward_follows d s xs (code g fr.values xs) way w out t l.ways l.meets (λ k. steps_follow xs d s w t f.1 k)))
