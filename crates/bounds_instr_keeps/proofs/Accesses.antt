-- The steps that read and write memory.
use Rattle.std.specs.Prelude.{◌==◌, if◌then◌else◌}
use Rattle.std.proofs.Common.{◌≡◌, ◌≢◌, ℕ, ◌+◌, ◌-◌, ◌*◌, ◌<◌, ◌≤◌, Bool, true, false, List, [], ◌∷◌, Option, Some, None, refl, sym, ap, ◌∙◌, subst, arith, ⊎_elim}
use Rattle.std.proofs.lemmas.Bool.Decides.{eqb_tells}
use Rattle.bb_words.specs.Answers.{Goes, Ends, and_then}
use Rattle.bb_words.specs.Steps.{size_of_width}
use Rattle.bb_words.specs.declared.steps.Width.{Width}
use Rattle.bb_words.specs.declared.steps.Width.TheVariants as width
use Rattle.source_meaning.specs.declared.values.Pointer.{Pointer}
use Rattle.source_meaning.specs.declared.values.Value.{Value}
use Rattle.source_meaning.specs.declared.values.Value.TheVariants.{Num, Ptr}
use Rattle.source_meaning.specs.declared.values.OutsideCause.TheVariants.{Forged}
use Rattle.source_meaning.specs.declared.values.Ending.TheVariants.{Exited, Reported, Trapped, Outside, Cut}
use Rattle.source_meaning.specs.Objects.{Object, pointer_in, cells_at}
use Rattle.source_meaning.specs.Worlds.{World, Does, outside, with_pointer, is_sound, live_blocks}
use Rattle.source_meaning.specs.Accesses.{access as place, pointer_read, loaded_from, load, store}
use Rattle.mid_code.specs.Meaning.{Came, Point, Goings, On, set, with_value, at_world, done_at, setting, going}
use Rattle.mid_code.specs.Meaning as mid
use Rattle.flat_code.specs.Code.{FSteps}
use Rattle.flat_code.specs.Told.{Tell}
use Rattle.flat_code.specs.World.{Words, with_word, read, FWorld, FPoint, point, put, tell, with_bytes, bytes_of, Ending, Run}
use Rattle.flat_code.specs.World as flat
use Rattle.flat_code.specs.Sequences.{load_sequence, LoadApart, may_be_loaded, DoesLoad, accessed}
use Rattle.flat_code_laws.specs.Laws.{LoadSequenceLoads, LoadSequenceStops}
use Rattle.flat_code.specs.Run.{goes, unless_refused, refusal, access, loaded, stored}
use Rattle.flat_code.specs.Run as run
use Rattle.injection.specs.Words.{word_of_value}
use Rattle.injection.specs.Memory.{IsValue, SameValues}
use Rattle.injection.specs.Trail.{SafeSites}
use Rattle.injection.specs.Laws.{SaysKeep, LoadsAreReads, LoadsAlike, StoresAreWrites, StoresAlike, Stores}
use Rattle.bounds_instr_code.specs.Code.{loading}
use Rattle.bounds_instr_keeps.proofs.Follow.{Follows, Grows, grows_end, follows_goes, to_equal}
use Rattle.bounds_instr_keeps.proofs.Meets.{told_by, Frame, Meets, gained, sets, sets_temporary, flat_spent, unchanged, stopped, left, Left}

-- ---- Values

-- a value was set, and its word; no other word of a value has changed
pub same_after : (g n : ℕ) (os : List Object) (values : ℕ → Value) (old new : Words) (to : ℕ) (x : Value) → IsValue g os x → new to ≡ word_of_value os x → ((i : ℕ) → i < n → i ≢ to → new i ≡ old i) → SameValues g n os values old → SameValues g n os (with_value values to x) new
same_after g n os values old new to x formed is kept h = record {
  each = λ i lt. ⊎_elim (λ e. to_is i e.1 ∙ ap (λ b. word_of_value os (if b then x else values i)) (sym e.0)) (λ e. kept i lt e.1 ∙ h.each i lt ∙ ap (λ b. word_of_value os (if b then x else values i)) (sym e.0)) (eqb_tells i to);
  formed = λ i lt. formed_of (values i) (i == to) (h.formed i lt);
}
  where
    to_is : (i : ℕ) → i ≡ to → new i ≡ word_of_value os x
    to_is i e = ap new e ∙ is

    formed_of : (y : Value) (b : Bool) → IsValue g os y → IsValue g os (if b then x else y)
    formed_of y true f = formed
    formed_of y false f = f

-- ---- Answers

-- what is read as a pointer is one
abbrev GivesPointer : Does Value → Type 0
GivesPointer (Goes (Ptr q) w) = Unit {0}
GivesPointer (Goes (Num n) w) = ⊥
GivesPointer (Ends e w) = Unit {0}

pointer_given : (o : Option Pointer) (w : World) → GivesPointer (pointer_read o w)
pointer_given None w = tt
pointer_given (Some q) w = of (is_sound w q)
  where
    of : (b : Bool) → GivesPointer (if b then Goes (Ptr q) w else outside Forged w)
    of true = tt
    of false = tt

pointer_loaded : (q : Pointer) (w : World) → GivesPointer (load width.Pointer q w)
unfolding and_then
pointer_loaded q w = of (place 4 q w)
  where
    of : (r : Does (ℕ × ℕ)) → GivesPointer (and_then r (loaded_from width.Pointer))
    of (Goes a x) = pointer_given (pointer_in (cells_at x.cells a.0 a.1 4)) x
    of (Ends e x) = tt

module _ (g : ℕ) (safe : SafeSites) (fr : Frame) where
  -- an access was told
  pub touched : SaysKeep → (s at size : ℕ) (write : Bool) (v : Point) (u : FPoint) → Meets g safe fr s v u → Meets g safe fr s (at_world v.world v) (point u.words (tell (Tell.Access at size write) u.world))
  touched says s at size write v u h = let w = h.agrees.world in record {
    agrees = record {
      world = record {
        injects = w.injects;
        blocks = w.blocks;
        depths = w.depths;
        stacks = w.stacks;
        inputs = w.inputs;
        says = says.quiet safe v.world u.world.told (record { time = u.world.time; what = Tell.Access at size write } ∷ []) w.says refl refl;
        named = w.named;
        heights = w.heights;
        regions = w.regions;
      };
      accounted = h.agrees.accounted;
      stays = h.agrees.stays;
      since = h.agrees.since;
      own = h.agrees.own;
      bytes = h.agrees.bytes;
    };
    values = h.values;
    paid = omega (arith, h.paid);
    by = told_by v u (v.time + 64 * (v.world.bytes - v.world.bytes)) s (Tell.Access at size write) (omega arith) h.paid h.by;
  }

  -- a part of an object has got a value
  written : SaysKeep → (s at word : ℕ) (width : Width) (v : Point) (u : FPoint) (x : World) → Stores g width u.world.memory v.world at word x → Meets g safe fr s v u → Meets g safe fr s (at_world (record v.world { cells = x.cells }) v) (point u.words (tell (Tell.Access at (size_of_width width) true) (record u.world { memory = with_bytes u.world.memory at (bytes_of (size_of_width width) word) })))
  written says s at word width v u x k h = let w = h.agrees.world in record {
    agrees = record {
      world = record {
        injects = k.keeps;
        blocks = w.blocks;
        depths = w.depths;
        stacks = w.stacks;
        inputs = w.inputs;
        says = let q = says.quiet safe v.world u.world.told (record { time = u.world.time; what = Tell.Access at (size_of_width width) true } ∷ []) w.says refl refl in record { said = q.said; went = q.went };
        named = w.named;
        heights = w.heights;
        regions = w.regions;
      };
      accounted = h.agrees.accounted;
      stays = h.agrees.stays;
      since = h.agrees.since;
      own = h.agrees.own;
      bytes = h.agrees.bytes;
    };
    values = h.values;
    paid = omega (arith, h.paid);
    by = told_by v u (v.time + 64 * (v.world.bytes - v.world.bytes)) s (Tell.Access at (size_of_width width) true) (omega arith) h.paid h.by;
  }

  module _ (says : SaysKeep) (d : ℕ) where
    access_grows : (at size : ℕ) (go : FPoint → Run flat.Way) (u : FPoint) → Grows u (go u) → Grows u (access at size go u)
    access_grows at size go u h = of (refusal at size)
      where
        of : (o : Option Ending) → Grows u (unless_refused o go u)
        of None = h
        of (Some e) = grows_end u e u refl

    -- ---- Stores

    module _ (stores : StoresAreWrites) (big : 2 ≤ g) where
      abbrev storing : (at word : ℕ) → Width → FPoint → Run flat.Way
      storing at word width u = access at (size_of_width width) (λ t. goes (stored at word width t)) u

      store_grows : (at word : ℕ) (width : Width) (u : FPoint) → Grows u (storing at word width u)
      store_grows at word width u = access_grows at (size_of_width width) (λ t. goes (stored at word width t)) u (record { told = record { rest = record { time = u.world.time; what = Tell.Access at (size_of_width width) true } ∷ []; is = refl } })

      store_answers : (s at word : ℕ) (width : Width) (v : Point) (u : FPoint) (r : Does (Unit {0})) → StoresAlike g width u.world.memory v.world at word r → Meets g safe fr s v u → Follows safe (Left g safe fr d s) (and_then (done_at v r) (λ done. Goes On)) (storing at word width u)
      unfolding and_then
      store_answers s at word width v u (Goes done x) k h =
          to_equal safe (Left g safe fr d s) _ _ (goes (stored at word width u)) (ap (λ o. unless_refused o (λ t. goes (stored at word width t)) u) k.found.free)
          (subst (λ z. Follows safe (Left g safe fr d s) (Goes On (at_world z v)) (goes (stored at word width u))) (sym k.world)
          (follows_goes safe (Left g safe fr d s) On (at_world (record v.world { cells = x.cells }) v) flat.Way.On (stored at word width u) (record { ways = tt; meets = written says s at word width v u x k h })))
      store_answers s at word width v u (Ends (Trapped kind) x) k h =
          to_equal safe (Left g safe fr d s) _ _ (Ends (Ending.Trapped kind) u) (ap (λ o. unless_refused o (λ t. goes (stored at word width t)) u) k.1)
          (subst (λ z. Follows safe (Left g safe fr d s) (Ends (Came (Trapped kind)) (at_world z v)) (Ends (Ending.Trapped kind) u)) (sym k.0)
          (record { by = stopped g safe fr (Ending.Trapped kind) s (at_world v.world v) u (unchanged g safe fr s v u h) }))
      store_answers s at word width v u (Ends (Outside cause) x) k h =
          subst (λ z. Follows safe (Left g safe fr d s) (Ends (Came (Outside cause)) (at_world z v)) (storing at word width u)) (sym k)
          (record { by = left g safe fr s (at_world v.world v) u _ (store_grows at word width u) (unchanged g safe fr s v u h) })
      store_answers s at word width v u (Ends (Exited n) x) k h = absurd k
      store_answers s at word width v u (Ends (Reported kind line) x) k h = absurd k
      store_answers s at word width v u (Ends Cut x) k h = absurd k

      -- a value is stored where another points
      pub store_follows : (s at from : ℕ) (width : Width) (x y : Value) (v : Point) (u : FPoint) → u.words at ≡ word_of_value v.world.objects x → u.words from ≡ word_of_value v.world.objects y → IsValue g v.world.objects y → Meets g safe fr s v u → Follows safe (Left g safe fr d s) (going (with_pointer x (λ q. store width q y)) v) (storing (u.words at) (u.words from) width u)
      unfolding and_then
      store_follows s at from width (Num n) y v u ea ef formed h =
          record { by = left g safe fr s (at_world v.world v) u _ (store_grows (u.words at) (u.words from) width u) (unchanged g safe fr s v u h) }
      store_follows s at from width (Ptr q) y v u ea ef formed h =
          to_equal safe (Left g safe fr d s) _ _ _ (ap (λ z. storing z (u.words from) width u) ea ∙ ap (λ z. storing (word_of_value v.world.objects (Ptr q)) z width u) ef)
          (store_answers s (word_of_value v.world.objects (Ptr q)) (word_of_value v.world.objects y) width v u (store width q y v.world) (stores g width q y u.world.memory v.world big h.agrees.world.injects formed) h)

    -- ---- Loads

    module _ (loads : LoadsAreReads) (big : 2 ≤ g) where
      abbrev reading : (to at : ℕ) → Width → FPoint → Run flat.Way
      reading to at width u = access at (size_of_width width) (λ t. goes (loaded to at width t)) u

      read_grows : (to at : ℕ) (width : Width) (u : FPoint) → Grows u (reading to at width u)
      read_grows to at width u = access_grows at (size_of_width width) (λ t. goes (loaded to at width t)) u (record { told = record { rest = record { time = u.world.time; what = Tell.Access at (size_of_width width) false } ∷ []; is = refl } })

      load_answers : (s to at : ℕ) (width : Width) (v : Point) (u : FPoint) (r : Does Value) → LoadsAlike g width u.world.memory v.world at r → Meets g safe fr s v u → Follows safe (Left g safe fr d s) (and_then (done_at v r) (λ x t. Goes On (set to x t))) (reading to at width u)
      unfolding and_then
      load_answers s to at width v u (Goes x y) k h =
          to_equal safe (Left g safe fr d s) _ _ (goes (loaded to at width u)) (ap (λ o. unless_refused o (λ t. goes (loaded to at width t)) u) k.1.found.free)
          (subst (λ z. Follows safe (Left g safe fr d s) (Goes On (set to x (at_world z v))) (goes (loaded to at width u))) (sym k.0)
          (follows_goes safe (Left g safe fr d s) On (set to x (at_world v.world v)) flat.Way.On (loaded to at width u)
          (record { ways = tt; meets = sets g safe fr s to x (read width u.world.memory at) (at_world v.world v) (point u.words (tell (Tell.Access at (size_of_width width) false) u.world)) k.1.formed (sym k.1.word) (touched says s at (size_of_width width) false v u h) })))
      load_answers s to at width v u (Ends (Trapped kind) x) k h =
          to_equal safe (Left g safe fr d s) _ _ (Ends (Ending.Trapped kind) u) (ap (λ o. unless_refused o (λ t. goes (loaded to at width t)) u) k.1)
          (subst (λ z. Follows safe (Left g safe fr d s) (Ends (Came (Trapped kind)) (at_world z v)) (Ends (Ending.Trapped kind) u)) (sym k.0)
          (record { by = stopped g safe fr (Ending.Trapped kind) s (at_world v.world v) u (unchanged g safe fr s v u h) }))
      load_answers s to at width v u (Ends (Outside cause) x) k h =
          subst (λ z. Follows safe (Left g safe fr d s) (Ends (Came (Outside cause)) (at_world z v)) (reading to at width u)) (sym k)
          (record { by = left g safe fr s (at_world v.world v) u _ (read_grows to at width u) (unchanged g safe fr s v u h) })
      load_answers s to at width v u (Ends (Exited n) x) k h = absurd k
      load_answers s to at width v u (Ends (Reported kind line) x) k h = absurd k
      load_answers s to at width v u (Ends Cut x) k h = absurd k

      -- what stands where a value points is loaded, unchecked
      pub load_follows : (s to at : ℕ) (width : Width) (x : Value) (v : Point) (u : FPoint) → u.words at ≡ word_of_value v.world.objects x → Meets g safe fr s v u → Follows safe (Left g safe fr d s) (setting to (with_pointer x (load width)) v) (reading to (u.words at) width u)
      unfolding and_then
      load_follows s to at width (Num n) v u ea h =
          record { by = left g safe fr s (at_world v.world v) u _ (read_grows to (u.words at) width u) (unchanged g safe fr s v u h) }
      load_follows s to at width (Ptr q) v u ea h =
          to_equal safe (Left g safe fr d s) _ _ _ (ap (λ z. reading to z width u) ea)
          (load_answers s to (word_of_value v.world.objects (Ptr q)) width v u (load width q v.world) (loads g width q u.world.memory v.world big h.agrees.world.injects) h)

      -- ---- Loads of pointers

      module _ (passes : LoadSequenceLoads) (stops : LoadSequenceStops) (call : run.Calls) (m frame : ℕ) (grows : (xs : FSteps) (u : FPoint) → Grows u (run.act_all g call m frame xs u)) where
        apart : (n to : ℕ) → to < n → LoadApart to n (n + 1) (n + 2)
        apart n to lt = record {
          wl = λ e. omega (arith, lt, e);
          sw = λ e. omega (arith, lt, e);
          sl = λ e. omega (arith, e);
          ew = λ e. omega (arith, lt, e);
          el = λ e. omega (arith, e);
          es = λ e. omega (arith, e);
        }

        -- a pointer was loaded, and may be
        passed : (s to at line : ℕ) (x : Value) (v : Point) (u : FPoint) (r : Run flat.Way) → IsValue g v.world.objects x → word_of_value v.world.objects x ≡ read width.Pointer u.world.memory (u.words at) → DoesLoad true to at fr.values (fr.values + 1) (fr.values + 2) u r → Meets g safe fr (s + 49) v u → Follows safe (Left g safe fr d s) (Goes On (set to x (at_world v.world v))) r
        passed s to at line x v u r formed is l h =
            to_equal safe (Left g safe fr d s) (Goes On (set to x (at_world v.world v))) r (goes (point l.words (flat.spend l.took (accessed (u.words at) 4 u.world)))) l.is
            (follows_goes safe (Left g safe fr d s) On (set to x (at_world v.world v)) flat.Way.On (point l.words (flat.spend l.took (accessed (u.words at) 4 u.world)))
            (record {
              ways = tt;
              meets = record {
                agrees = met.agrees;
                values = same_after g fr.values v.world.objects v.values u.words l.words to x formed (l.value ∙ sym is) (λ i lt ne. l.kept i ne (λ e. omega (arith, lt, e)) (λ e. omega (arith, lt, e))) h.values;
                paid = met.paid;
                by = met.by;
              };
            }))
          where
            early : Meets g safe fr (s + 46) (at_world v.world v) (point u.words (accessed (u.words at) 4 u.world))
            early = touched says (s + 46) (u.words at) 4 false v (point u.words (flat.spend 3 u.world)) (flat_spent g safe fr 3 (s + 49) (s + 46) v u (omega arith) h)

            met : Meets g safe fr s (at_world v.world v) (point u.words (flat.spend l.took (accessed (u.words at) 4 u.world)))
            met = flat_spent g safe fr l.took (s + 46) s (at_world v.world v) (point u.words (accessed (u.words at) 4 u.world)) (omega (arith, l.within)) early

        pointer_answers : (s to at line : ℕ) (v : Point) (u : FPoint) (r : Does Value) → to < fr.values → GivesPointer r → LoadsAlike g width.Pointer u.world.memory v.world (u.words at) r → Meets g safe fr (s + 49) v u → Follows safe (Left g safe fr d s) (and_then (done_at v r) (λ x t. Goes On (set to x t))) (run.act_all g call m frame (load_sequence g to at fr.values (fr.values + 1) (fr.values + 2)) u)
        unfolding and_then
        pointer_answers s to at line v u (Goes (Num n) y) lt given k h = absurd given
        pointer_answers s to at line v u (Goes (Ptr q) y) lt given k h =
            subst (λ z. Follows safe (Left g safe fr d s) (Goes On (set to (Ptr q) (at_world z v))) (run.act_all g call m frame (load_sequence g to at fr.values (fr.values + 1) (fr.values + 2)) u)) (sym k.0)
            (passed s to at line (Ptr q) v u (run.act_all g call m frame (load_sequence g to at fr.values (fr.values + 1) (fr.values + 2)) u) k.1.formed k.1.word
            (subst (λ b. DoesLoad b to at fr.values (fr.values + 1) (fr.values + 2) u (run.act_all g call m frame (load_sequence g to at fr.values (fr.values + 1) (fr.values + 2)) u))
            (ap (λ z. may_be_loaded g z (read width.Pointer u.world.memory (u.words at))) h.agrees.world.blocks ∙ ap (λ z. may_be_loaded g (live_blocks v.world.objects) z) (sym k.1.word) ∙ k.1.passes)
            (passes g (omega (arith, big)) call m frame to at fr.values (fr.values + 1) (fr.values + 2) (apart fr.values to lt) u k.1.found.free)) h)
        pointer_answers s to at line v u (Ends (Trapped kind) x) lt given k h =
            to_equal safe (Left g safe fr d s) _ _ (Ends (Ending.Trapped kind) (point u.words (flat.spend 3 u.world))) (stops g call m frame to at fr.values (fr.values + 1) (fr.values + 2) u (Ending.Trapped kind) k.1)
            (subst (λ z. Follows safe (Left g safe fr d s) (Ends (Came (Trapped kind)) (at_world z v)) (Ends (Ending.Trapped kind) (point u.words (flat.spend 3 u.world)))) (sym k.0)
            (record { by = stopped g safe fr (Ending.Trapped kind) s (at_world v.world v) (point u.words (flat.spend 3 u.world)) (unchanged g safe fr s v (point u.words (flat.spend 3 u.world)) (flat_spent g safe fr 3 (s + 49) s v u (omega arith) h)) }))
        pointer_answers s to at line v u (Ends (Outside cause) x) lt given k h =
            subst (λ z. Follows safe (Left g safe fr d s) (Ends (Came (Outside cause)) (at_world z v)) (run.act_all g call m frame (load_sequence g to at fr.values (fr.values + 1) (fr.values + 2)) u)) (sym k)
            (record { by = left g safe fr (s + 49) (at_world v.world v) u _ (grows (load_sequence g to at fr.values (fr.values + 1) (fr.values + 2)) u) (unchanged g safe fr (s + 49) v u h) })
        pointer_answers s to at line v u (Ends (Exited n) x) lt given k h = absurd k
        pointer_answers s to at line v u (Ends (Reported kind name) x) lt given k h = absurd k
        pointer_answers s to at line v u (Ends Cut x) lt given k h = absurd k

        -- a pointer is loaded where a value points, and checked
        pub pointer_follows : (s to at line : ℕ) (x : Value) (v : Point) (u : FPoint) → v.values at ≡ x → to < fr.values → at < fr.values → Meets g safe fr s v u → Follows safe (Left g safe fr d s) (setting to (with_pointer x (load width.Pointer)) (mid.spend 128 v)) (run.act_all g call m frame (loading g fr.values to at width.Pointer line) u)
        unfolding and_then
        pointer_follows s to at line (Num n) v u is lt la h =
            record { by = left g safe fr (s + 128) (at_world v.world (mid.spend 128 v)) u _ (grows (loading g fr.values to at width.Pointer line) u) (unchanged g safe fr (s + 128) (mid.spend 128 v) u (gained g safe fr 128 s (s + 128) v u (omega arith) h)) }
        pointer_follows s to at line (Ptr q) v u is lt la h =
            let n = fr.values in
            let u1 : FPoint = put n line (point u.words (flat.spend 3 u.world)) in
            let h1 : Meets g safe fr (s + 49) (mid.spend 128 v) u1 = sets_temporary g safe fr 3 (s + 128) (s + 49) n line (mid.spend 128 v) u (omega arith) (omega arith) (gained g safe fr 128 s (s + 128) v u (omega arith) h) in
            let word : u1.words at ≡ word_of_value v.world.objects (Ptr q) = h1.values.each at la ∙ ap (word_of_value v.world.objects) is in
            pointer_answers s to at line (mid.spend 128 v) u1 (load width.Pointer q v.world) lt (pointer_loaded q v.world)
            (subst (λ z. LoadsAlike g width.Pointer u.world.memory v.world z (load width.Pointer q v.world)) (sym word) (loads g width.Pointer q u.world.memory v.world big h.agrees.world.injects)) h1
