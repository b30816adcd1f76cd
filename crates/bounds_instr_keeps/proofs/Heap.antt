-- Blocks of the heap are taken and given back.
use Rattle.std.specs.Prelude.{◌==◌, nat_le, if◌then◌else◌}
use Rattle.std.proofs.Common.{◌≡◌, ℕ, ◌+◌, ◌-◌, ◌*◌, ◌<◌, ◌≤◌, Bool, true, false, List, [], ◌∷◌, ◌++◌, Option, Some, None, slice_get, refl, sym, ap, ◌∙◌, subst, arith, ⊎_elim, ne_eqb, eq-eqb, lt-ltb}
use Rattle.std.proofs.lemmas.Bool.Decides.{nat_tests}
use Rattle.std.proofs.lemmas.Option.{none-some}
use Rattle.bb_words.specs.Answers.{Goes, Ends, and_then}
use Rattle.bb_words.specs.declared.kinds.ReportKind.TheVariants.{BadFree}
use Rattle.size_table.specs.declared.memory_map.TheConstants.{HEAP_START, MOST_BYTES}
use Rattle.size_table.specs.Blocks.{Block, block_at, without}
use Rattle.size_table.specs.Pads.{exponent_of}
use Rattle.buddy_heap.specs.Places.{place_of, block_from}
use Rattle.source_meaning.specs.declared.values.Value.{Value}
use Rattle.source_meaning.specs.declared.values.Pointer.TheVariants.{Null}
use Rattle.source_meaning.specs.declared.values.Value.TheVariants.{Num, Ptr}
use Rattle.source_meaning.specs.declared.values.Ending.TheVariants.{Exited, Reported, Trapped, Outside, Cut}
use Rattle.source_meaning.specs.Objects.{ended_in, cleared}
use Rattle.source_meaning.specs.Worlds.{World, Does, made, ended, live_blocks, with_number, with_pointer}
use Rattle.source_meaning.specs.Accounts.{allocate, free}
use Rattle.mid_code.specs.Meaning.{Came, Point, Goings, On, set, at_world, done_at, setting}
use Rattle.mid_code.specs.Meaning as mid
use Rattle.flat_code.specs.Told.{Tell, Stamped}
use Rattle.flat_code.specs.World.{FPoint, point, put, choose, Ending, Run, onward}
use Rattle.flat_code.specs.World as flat
use Rattle.flat_code.specs.Accounts.{make, end, allot, malloc, heap_block, give_back}
use Rattle.flat_code.specs.Accounts as accounts
use Rattle.flat_code.specs.Run.{goes}
use Rattle.injection.specs.Words.{word_of, word_of_value}
use Rattle.injection.specs.Memory.{IsValue, Injects, SameValues}
use Rattle.injection.specs.Trail.{SafeSites}
use Rattle.injection.specs.Worlds.{Accounted, Stays, Since, Heights, InRegions}
use Rattle.injection.specs.Laws.{AccountsCompose, AccountsKeep, AccountsGrow, SaysKeep, EndedKeeps, PlacesKeep, AllocationsAreOfBlocks, AllocatesAlike, IsRefused, IsNew, heap_object, FreesAreOfBlocks, FreesAlike, Frees}
use Rattle.bounds_instr_keeps.proofs.Follow.{Follows, Grows, grows_on, grows_end, follows_goes, to_equal}
use Rattle.bounds_instr_keeps.proofs.Meets.{told_by, Frame, Meets, sets, flat_spent, unchanged, left, Left}

pub record HeapLaws : Type 0 where
  pub compose : AccountsCompose
  pub keep : AccountsKeep
  pub grow : AccountsGrow
  pub says : SaysKeep
  pub ends : EndedKeeps
  pub places : PlacesKeep
  pub allocates : AllocationsAreOfBlocks
  pub frees : FreesAreOfBlocks

-- what is more than there is is refused alike
pub both_refused : (g to m n : ℕ) (u : FPoint) → MOST_BYTES < m → MOST_BYTES < n → malloc g to m u ≡ malloc g to n u
both_refused g to m n u p q = refused m p ∙ sym (refused n q)
  where
    refused : (k : ℕ) → MOST_BYTES < k → malloc g to k u ≡ put to 0 u
    refused k r = ap (λ b. choose b (λ t. put to 0 t) (λ t. allot to (exponent_of g k) (place_of t.world.live (exponent_of g k)) t) u) (lt-ltb MOST_BYTES k r)

-- a block of the heap begins in the heap
in_heap : (at : ℕ) (blocks : List Block) (b : Block) → heap_block at blocks ≡ Some b → HEAP_START ≤ at
in_heap at blocks b e = of (nat_le HEAP_START at) refl e
  where
    of : (t : Bool) → nat_le HEAP_START at ≡ t → (if t then block_from at blocks else None) ≡ Some b → HEAP_START ≤ at
    of true q h = grind (arith, nat_tests)
    of false q h = absurd (none-some b h)

module _ (laws : HeapLaws) (g : ℕ) (big : 1 ≤ g) (small : g ≤ 24) (safe : SafeSites) (fr : Frame) (d : ℕ) where
  -- ---- An object is made

  made_meets : (s n : ℕ) (v : Point) (u : FPoint) (to : ℕ) (x : World) (y : Value) (t : FPoint) (k : IsNew g n v.world to u y x t) → Meets g safe fr s v u → Meets g safe fr s (at_world (made (heap_object g n k.base) v.world) v) (point u.words (make (block_at k.base (exponent_of g n)) u.world))
  made_meets s n v u to x y t k h =
      let w = h.agrees.world in
      let o = heap_object g n k.base in
      let x' = made o v.world in
      let grown : Accounted v.world.objects (v.world.objects ++ o ∷ []) = (laws.grow.made v.world.objects (o ∷ [])).0 in
      let told : List Stamped = record { time = u.world.time; what = Tell.Made k.base (exponent_of g n) } ∷ [] in
      let keeps = subst (λ z. Injects g z.objects z.cells (make (block_at k.base (exponent_of g n)) u.world).memory) k.world (subst (λ z. Injects g x.objects x.cells z.world.memory) k.point k.keeps) in
      record {
        agrees = record {
          world = record {
            injects = keeps;
            blocks = subst (λ z. (make (block_at k.base (exponent_of g n)) u.world).live ≡ live_blocks z.objects) k.world (subst (λ z. z.world.live ≡ live_blocks x.objects) k.point k.blocks);
            depths = w.depths;
            stacks = w.stacks;
            inputs = w.inputs;
            says = laws.says.quiet safe x' u.world.told told (laws.says.accounted g safe v.world x' u.world.told grown w.named refl refl w.says) refl refl;
            named = (laws.keep.trails g safe v.world.objects (v.world.objects ++ o ∷ []) v.world.trail grown w.named).0;
            heights = subst (λ z. Heights z.objects v.world.stack) k.world k.heights;
            regions = subst (λ z. InRegions z.objects) k.world k.regions;
          };
          accounted = laws.compose.accounted_then fr.objects v.world.objects (v.world.objects ++ o ∷ []) h.agrees.accounted grown;
          stays = laws.compose.stays_then fr.objects v.world.objects (v.world.objects ++ o ∷ []) h.agrees.stays (laws.grow.made v.world.objects (o ∷ [])).1;
          since = laws.compose.since_then fr.objects v.world.objects (v.world.objects ++ o ∷ []) h.agrees.since (subst (λ z. Since v.world.objects z.objects) k.world k.since);
          own = h.agrees.own;
          bytes = h.agrees.bytes;
        };
        values = laws.keep.words g fr.values v.world.objects (v.world.objects ++ o ∷ []) v.values u.words grown h.values;
        paid = omega (arith, h.paid);
        by = told_by v u (v.time + 64 * (v.world.bytes - v.world.bytes)) s (Tell.Made k.base (exponent_of g n)) (omega arith) h.paid h.by;
      }

  malloc_answers : (s to n : ℕ) (v : Point) (u t : FPoint) (r : Does Value) → AllocatesAlike g n v.world to u t r → Meets g safe fr s v u → Follows safe (Left g safe fr d s) (and_then (done_at v r) (λ x t. Goes On (set to x t))) (goes t)
  unfolding and_then
  malloc_answers s to n v u t (Goes y x) k h = ⊎_elim refused new k
    where
      refused : IsRefused v.world to u y x t → Follows safe (Left g safe fr d s) (Goes On (set to y (at_world x v))) (goes t)
      refused e =
          subst (λ z. Follows safe (Left g safe fr d s) (Goes On (set to y (at_world x v))) (goes z)) (sym e.point)
          (subst (λ z. Follows safe (Left g safe fr d s) (Goes On (set to z (at_world x v))) (goes (put to 0 u))) (sym e.value)
          (subst (λ z. Follows safe (Left g safe fr d s) (Goes On (set to (Ptr Null) (at_world z v))) (goes (put to 0 u))) (sym e.world)
          (follows_goes safe (Left g safe fr d s) On (set to (Ptr Null) (at_world v.world v)) flat.Way.On (put to 0 u)
          (record { ways = tt; meets = sets g safe fr s to (Ptr Null) 0 (at_world v.world v) u tt refl (unchanged g safe fr s v u h) }))))

      new : IsNew g n v.world to u y x t → Follows safe (Left g safe fr d s) (Goes On (set to y (at_world x v))) (goes t)
      new e =
          subst (λ z. Follows safe (Left g safe fr d s) (Goes On (set to y (at_world x v))) (goes z)) (sym e.point)
          (subst (λ z. Follows safe (Left g safe fr d s) (Goes On (set to y (at_world z v))) (goes (put to e.base (point u.words (make (block_at e.base (exponent_of g n)) u.world))))) (sym e.world)
          (follows_goes safe (Left g safe fr d s) On (set to y (at_world (made (heap_object g n e.base) v.world) v)) flat.Way.On (put to e.base (point u.words (make (block_at e.base (exponent_of g n)) u.world)))
          (record { ways = tt; meets = sets g safe fr s to y e.base (at_world (made (heap_object g n e.base) v.world) v) (point u.words (make (block_at e.base (exponent_of g n)) u.world)) (formed e) (word e) (made_meets s n v u to x y t e h) })))
        where
          formed : (e : IsNew g n v.world to u y x t) → IsValue g (v.world.objects ++ heap_object g n e.base ∷ []) y
          formed e = subst (λ z. IsValue g z.objects y) e.world (subst (λ z. IsValue g x.objects z) (sym e.value) e.formed)

          word : (e : IsNew g n v.world to u y x t) → e.base ≡ word_of_value (v.world.objects ++ heap_object g n e.base ∷ []) y
          word e = subst (λ z. e.base ≡ word_of_value z.objects y) e.world (subst (λ z. e.base ≡ word_of_value x.objects z) (sym e.value) (sym e.word))
  malloc_answers s to n v u t (Ends e x) k h = absurd k

  -- so many bytes are taken
  pub taken_follows : (s to n : ℕ) (v : Point) (u : FPoint) → Meets g safe fr s v u → Follows safe (Left g safe fr d s) (and_then (done_at v (allocate g n v.world)) (λ x t. Goes On (set to x t))) (goes (malloc g to n u))
  taken_follows s to n v u h =
      malloc_answers s to n v u (malloc g to n u) (allocate g n v.world)
      (laws.allocates g n to v.world u big small h.agrees.world.injects h.agrees.world.blocks h.agrees.world.heights h.agrees.world.regions) h

  -- as many as a value says
  pub malloc_follows : (s to : ℕ) (x : Value) (word : ℕ) (v : Point) (u : FPoint) → word ≡ word_of_value v.world.objects x → Grows u (goes (malloc g to word u)) → Meets g safe fr s v u → Follows safe (Left g safe fr d s) (setting to (with_number x (allocate g)) v) (goes (malloc g to word u))
  unfolding and_then
  malloc_follows s to (Ptr q) word v u is grown h =
      record { by = left g safe fr s (at_world v.world v) u _ grown (unchanged g safe fr s v u h) }
  malloc_follows s to (Num n) word v u is grown h =
      to_equal safe (Left g safe fr d s) _ _ (goes (malloc g to n u)) (ap (λ z. goes (malloc g to z u)) is)
      (taken_follows s to n v u h)

  -- ---- An object ends

  ended_meets : (s at : ℕ) (v : Point) (u : FPoint) (x : World) (k : Frees v.world at x) → Meets g safe fr s v u → Meets g safe fr s (at_world (ended k.number v.world) v) (point u.words (end (block_at k.object.base k.object.exponent) u.world))
  ended_meets s at v u x k h =
      let w = h.agrees.world in
      let os = v.world.objects in
      let after = ended_in os k.number (slice_get os k.number) in
      let as_some : after ≡ ended_in os k.number (Some k.object) = ap (λ z. ended_in os k.number z) k.live.there in
      let alike = laws.ends g os v.world.cells u.world.memory k.number k.object k.live w.injects in
      let gone = laws.grow.ended os k.number in
      let told : List Stamped = record { time = u.world.time; what = Tell.Ended k.object.base k.object.exponent } ∷ [] in
      let low : HEAP_START ≤ k.object.base = subst (λ z. HEAP_START ≤ z) k.base (in_heap at (live_blocks os) (block_at k.object.base k.object.exponent) k.block) in
      record {
        agrees = record {
          world = record {
            injects = subst (λ z. Injects g z (cleared v.world.cells k.number) u.world.memory) (sym as_some) alike.keeps;
            blocks = ap (λ z. without k.object.base z) w.blocks ∙ sym alike.blocks ∙ ap live_blocks (sym as_some);
            depths = w.depths;
            stacks = w.stacks;
            inputs = w.inputs;
            says = laws.says.quiet safe (ended k.number v.world) u.world.told told (laws.says.accounted g safe v.world (ended k.number v.world) u.world.told gone.0 w.named refl refl w.says) refl refl;
            named = (laws.keep.trails g safe os after v.world.trail gone.0 w.named).0;
            heights = laws.places.heights_since os after v.world.stack w.heights gone.1;
            regions = laws.places.regions_ended os k.number w.regions;
          };
          accounted = laws.compose.accounted_then fr.objects os after h.agrees.accounted gone.0;
          stays = laws.compose.stays_then fr.objects os after h.agrees.stays (subst (λ z. Stays os z) (sym as_some) (laws.grow.ended_stays os k.number k.object k.live.there low));
          since = laws.compose.since_then fr.objects os after h.agrees.since gone.1;
          own = h.agrees.own;
          bytes = h.agrees.bytes;
        };
        values = laws.keep.words g fr.values os after v.values u.words gone.0 h.values;
        paid = omega (arith, h.paid);
        by = told_by v u (v.time + 64 * (v.world.bytes - v.world.bytes)) s (Tell.Ended k.object.base k.object.exponent) (omega arith) h.paid h.by;
      }

  -- what comes after the call: its value becomes 0
  abbrev zero_after : (to : ℕ) → flat.Way → FPoint → Run flat.Way
  zero_after to way t = onward way t (λ r. goes (put to 0 (point r.words (flat.spend 3 r.world))))

  abbrev giving : (to at line : ℕ) → FPoint → Run flat.Way
  giving to at line u = and_then (accounts.free at line (put to at u)) (zero_after to)

  giving_grows : (to at line : ℕ) (u : FPoint) → Grows u (giving to at line u)
  unfolding and_then
  giving_grows to at line u = of (at == 0)
    where
      given : (o : Option Block) → Grows u (and_then (give_back line o (put to at u)) (zero_after to))
      given None = grows_end u _ _ refl
      given (Some b) = record { told = record { rest = record { time = u.world.time; what = Tell.Ended b.base b.exponent } ∷ []; is = refl } }

      of : (b : Bool) → Grows u (and_then (choose b (λ t. Goes flat.Way.On t) (λ t. give_back line (heap_block at t.world.live) t) (put to at u)) (zero_after to))
      of true = grows_on u _ _ refl
      of false = given (heap_block at u.world.live)

  -- a value of mid code is set to 0, over any word that stood there
  zeroed : (s to at : ℕ) (v : Point) (u : FPoint) → Meets g safe fr (s + 3) v u → Meets g safe fr s (set to (Num 0) v) (put to 0 (point (put to at u).words (flat.spend 3 u.world)))
  zeroed s to at v u h =
      let early = flat_spent g safe fr 3 (s + 3) s v u (omega arith) h in
      record {
        agrees = early.agrees;
        values = twice_set early;
        paid = early.paid;
        by = early.by;
      }
    where
      twice_set : Meets g safe fr s v (point u.words (flat.spend 3 u.world)) → SameValues g fr.values v.world.objects (mid.with_value v.values to (Num 0)) (flat.with_word (flat.with_word u.words to at) to 0)
      twice_set e = record {
        each = λ i lt. each_of i (i == to) (e.values.each i lt);
        formed = λ i lt. formed_of (v.values i) (i == to) (e.values.formed i lt);
      }
        where
          each_of : (i : ℕ) (b : Bool) → u.words i ≡ word_of_value v.world.objects (v.values i) → (if b then 0 else (if b then at else u.words i)) ≡ word_of_value v.world.objects (if b then Num 0 else v.values i)
          each_of i true q = refl
          each_of i false q = q

          formed_of : (y : Value) (b : Bool) → IsValue g v.world.objects y → IsValue g v.world.objects (if b then Num 0 else y)
          formed_of y true q = omega arith
          formed_of y false q = q

  free_answers : (s to at line : ℕ) (v : Point) (u : FPoint) (r : Does Value) → FreesAlike line v.world at r → Meets g safe fr (s + 3) v u → Follows safe (Left g safe fr d s) (and_then (done_at v r) (λ x t. Goes On (set to x t))) (giving to at line u)
  unfolding and_then
  free_answers s to at line v u (Goes y x) k h =
      subst (λ z. Follows safe (Left g safe fr d s) (Goes On (set to z (at_world x v))) (giving to at line u)) (sym k.0) (⊎_elim nothing block k.1)
    where
      nothing : (at ≡ 0) × (x ≡ v.world) → Follows safe (Left g safe fr d s) (Goes On (set to (Num 0) (at_world x v))) (giving to at line u)
      nothing e =
          subst (λ z. Follows safe (Left g safe fr d s) (Goes On (set to (Num 0) (at_world z v))) (giving to at line u)) (sym e.1)
          (to_equal safe (Left g safe fr d s) _ _ (goes (put to 0 (point (put to at u).words (flat.spend 3 u.world)))) (ap (λ b. and_then (choose b (λ t. Goes flat.Way.On t) (λ t. give_back line (heap_block at t.world.live) t) (put to at u)) (zero_after to)) (eq-eqb at 0 e.0))
          (follows_goes safe (Left g safe fr d s) On (set to (Num 0) (at_world v.world v)) flat.Way.On (put to 0 (point (put to at u).words (flat.spend 3 u.world)))
          (record { ways = tt; meets = zeroed s to at (at_world v.world v) u (unchanged g safe fr (s + 3) v u h) })))

      block : Frees v.world at x → Follows safe (Left g safe fr d s) (Goes On (set to (Num 0) (at_world x v))) (giving to at line u)
      block e =
          subst (λ z. Follows safe (Left g safe fr d s) (Goes On (set to (Num 0) (at_world z v))) (giving to at line u)) (sym e.world)
          (to_equal safe (Left g safe fr d s) _ _ (goes (put to 0 (point (put to at u).words (flat.spend 3 (end (block_at e.object.base e.object.exponent) u.world)))))
          (ap (λ b. and_then (choose b (λ t. Goes flat.Way.On t) (λ t. give_back line (heap_block at t.world.live) t) (put to at u)) (zero_after to)) (ne_eqb at 0 e.not_null)
          ∙ ap (λ o. and_then (give_back line o (put to at u)) (zero_after to)) (ap (λ z. heap_block at z) h.agrees.world.blocks ∙ e.block))
          (follows_goes safe (Left g safe fr d s) On (set to (Num 0) (at_world (ended e.number v.world) v)) flat.Way.On (put to 0 (point (put to at u).words (flat.spend 3 (end (block_at e.object.base e.object.exponent) u.world))))
          (record { ways = tt; meets = zeroed s to at (at_world (ended e.number v.world) v) (point u.words (end (block_at e.object.base e.object.exponent) u.world)) (ended_meets (s + 3) at v u x e h) })))
  free_answers s to at line v u (Ends (Reported kind name) x) k h =
      subst (λ z. Follows safe (Left g safe fr d s) (Ends (Came (Reported kind name)) (at_world z v)) (giving to at line u)) (sym k.0)
      (subst (λ z. Follows safe (Left g safe fr d s) (Ends (Came (Reported z name)) (at_world v.world v)) (giving to at line u)) (sym k.1)
      (subst (λ z. Follows safe (Left g safe fr d s) (Ends (Came (Reported BadFree z)) (at_world v.world v)) (giving to at line u)) (sym k.2)
      (record {
        by = record {
          point = put to at u;
          is = ap (λ b. and_then (choose b (λ t. Goes flat.Way.On t) (λ t. give_back line (heap_block at t.world.live) t) (put to at u)) (zero_after to)) (ne_eqb at 0 k.3)
              ∙ ap (λ o. and_then (give_back line o (put to at u)) (zero_after to)) (ap (λ z. heap_block at z) h.agrees.world.blocks ∙ k.4);
          says = h.agrees.world.says;
          time = omega (arith, h.paid);
        };
      })))
  free_answers s to at line v u (Ends (Outside cause) x) k h =
      subst (λ z. Follows safe (Left g safe fr d s) (Ends (Came (Outside cause)) (at_world z v)) (giving to at line u)) (sym k)
      (record { by = left g safe fr (s + 3) (at_world v.world v) u _ (giving_grows to at line u) (unchanged g safe fr (s + 3) v u h) })
  free_answers s to at line v u (Ends (Exited n) x) k h = absurd k
  free_answers s to at line v u (Ends (Trapped kind) x) k h = absurd k
  free_answers s to at line v u (Ends Cut x) k h = absurd k

  -- what a value points to is given back
  pub free_follows : (s to line : ℕ) (x : Value) (word name : ℕ) (v : Point) (u : FPoint) → word ≡ word_of_value v.world.objects x → name ≡ line → IsValue g v.world.objects x → Meets g safe fr (s + 3) v u → Follows safe (Left g safe fr d s) (setting to (with_pointer x (free line)) v) (giving to word name u)
  unfolding and_then
  free_follows s to line (Num n) word name v u is e formed h =
      record { by = left g safe fr (s + 3) (at_world v.world v) u _ (giving_grows to word name u) (unchanged g safe fr (s + 3) v u h) }
  free_follows s to line (Ptr q) word name v u is e formed h =
      to_equal safe (Left g safe fr d s) _ _ (giving to (word_of v.world.objects q) line u) (ap (λ z. giving to z name u) is ∙ ap (λ z. giving to (word_of v.world.objects q) z u) e)
      (free_answers s to (word_of v.world.objects q) line v u (free line q v.world) (laws.frees g line q v.world h.agrees.world.injects.out h.agrees.world.regions formed) h)
