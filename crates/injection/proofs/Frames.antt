-- Frames: their objects are made, and end.
use Rattle.std.proofs.Common.{◌≡◌, ◌⊎◌, ℕ, zero, suc, ◌+◌, ◌^◌, ◌<◌, ◌≤◌, Bool, true, false, ◌==◌, cond, List, [], ◌∷◌, ◌++◌, length, reverse, Option, Some, None, slice_get, refl, sym, ap, ◌∙◌, subst, inl, inr, arith, pow_pos, eqb-true, length-append}
use Rattle.std.proofs.lemmas.Option.{none-some, slice_get_within}
use Rattle.std.proofs.lemmas.Bool.{cases_lt}
use Rattle.std.proofs.lemmas.Grind.{reverse_onto}
use Rattle.size_table.specs.declared.memory_map.TheConstants.{STACK_START, HEAP_START}
use Rattle.size_table.specs.Blocks.{Block, block_at, without}
use Rattle.size_table.specs.Made.{blocks_from}
use Rattle.block_layout.specs.Layout.{Placed}
use Rattle.source_meaning.specs.declared.values.ObjectKind.TheVariants.{Local}
use Rattle.source_meaning.specs.Objects.{Object, cleared, ended_in}
use Rattle.source_meaning.specs.Worlds.{World, made, ended, all_ended, live_blocks}
use Rattle.source_meaning.specs.Accounts.{object_of, all_made}
use Rattle.flat_code.specs.World.{FWorld, Memory, zeroed}
use Rattle.flat_code.specs.Accounts.{make, end, make_all, end_all}
use Rattle.injection.specs.Memory.{IsLive, IsFree, Injects}
use Rattle.injection.specs.Worlds.{Accounted, Stays, Since, Heights, InRegions}
use Rattle.injection.specs.Laws.{exponents, frame_objects, IsLaid, Entered, Left}
use Rattle.injection.proofs.Lists.{get_old, append_nothing}
use Rattle.injection.proofs.Accounts.{accounted_same, accounted_then, accounted_more, accounted_ended, live_made, live_before, live_after}
use Rattle.injection.proofs.Objects.{made_keeps, ended_keeps}
use Rattle.injection.proofs.Blocks.{live_blocks_made, live_blocks_ended}
use Rattle.injection.proofs.Regions.{heights_made, other_made, regions_ended}

append_next : {A : Type 0} (xs : List A) (y : A) (ys : List A) → (xs ++ y ∷ []) ++ ys ≡ xs ++ y ∷ ys
append_next [] y ys = refl
append_next (x ∷ xs) y ys = ap (λ zs. x ∷ zs) (append_next xs y ys)

length_next : {A : Type 0} (xs : List A) (y : A) → length (xs ++ y ∷ []) ≡ suc (length xs)
length_next [] y = refl
length_next (x ∷ xs) y = ap suc (length_next xs y)

pub get_next : {A : Type 0} (xs : List A) (y : A) (ys : List A) → slice_get (xs ++ y ∷ ys) (length xs) ≡ Some y
get_next [] y ys = refl
get_next (x ∷ xs) y ys = get_next xs y ys

get_front : {A : Type 0} (xs ys : List A) (i : ℕ) (x : A) → slice_get (xs ++ ys) i ≡ Some x → i < length xs → slice_get xs i ≡ Some x
get_front [] ys i x h lt = absurd (omega arith)
get_front (z ∷ zs) ys zero x h lt = h
get_front (z ∷ zs) ys (suc i) x h lt = get_front zs ys i x h (omega arith)

-- ---- Entries

-- each live object ends by the address, or begins at the stack number of the caller or above
record IsClear (os : List Object) (at stack : ℕ) : Type 0 where
  by : (k : ℕ) (o : Object) → IsLive os k o → (o.base + 2 ^ o.exponent ≤ at) ⊎ (stack ≤ o.base)

laid_high : (g start at top : ℕ) (plan : List Placed) → IsLaid g start at top plan → at ≤ top
laid_high g start at top [] h = h
laid_high g start at top (p ∷ ps) h = let r = laid_high g start (at + 2 ^ p.exponent) top ps h.2 in omega (arith, r)

clear_made : (os : List Object) (o : Object) (at stack : ℕ) → o.base ≡ at → IsClear os at stack → IsClear (os ++ o ∷ []) (at + 2 ^ o.exponent) stack
clear_made os o at stack e h = record { by = λ k p l. by k p (live_made os o k p l) }
  where
    by : (k : ℕ) (p : Object) → IsLive os k p ⊎ ((k ≡ length os) × (p ≡ o)) → (p.base + 2 ^ p.exponent ≤ at + 2 ^ o.exponent) ⊎ (stack ≤ p.base)
    by k p (inl m) = elim (h.by k p m) [ inl a ↦ inl (omega (arith, a)) | inr b ↦ inr b ]
    by k p (inr r) = inl (subst (λ (x : Object). x.base + 2 ^ x.exponent ≤ at + 2 ^ o.exponent) (sym r.1) (omega (arith, e)))

free_there : (os : List Object) (o : Object) (at stack : ℕ) → o.base ≡ at → at + 2 ^ o.exponent ≤ stack → IsClear os at stack → IsFree os o
free_there os o at stack e high h = record { apart = λ k p l. elim (h.by k p l) [ inl a ↦ inr (omega (arith, a, e)) | inr b ↦ inl (omega (arith, b, e, high)) ] }

enters_from : (g start stack at : ℕ) (plan : List Placed) (w : World) (u : FWorld) → IsLaid g start at stack plan → start ≤ at → stack ≤ HEAP_START
    → Injects g w.objects w.cells u.memory → u.live ≡ live_blocks w.objects → IsClear w.objects at stack → Heights w.objects start → InRegions w.objects
    → Entered g start plan w (all_made Local start plan w) (make_all (blocks_from at (exponents plan)) u)
enters_from g start stack at [] w u laid low top h live clear heights regions = record {
  keeps = h;
  blocks = live;
  objects = sym (append_nothing w.objects);
  heights = heights;
  regions = regions;
}
enters_from g start stack at (p ∷ ps) w u laid low top h live clear heights regions =
    let o = object_of Local start p in
    let high = laid_high g start (at + 2 ^ p.exponent) stack ps laid.2 in
    let free = free_there w.objects o at stack laid.0 high clear in
    let there = laid.0 in
    let rest = enters_from g start stack (at + 2 ^ p.exponent) ps (made o w) (make (block_at at p.exponent) u) laid.2 (omega (arith, low)) top
    (subst (λ b. Injects g (w.objects ++ o ∷ []) (cleared w.cells (length w.objects)) (zeroed u.memory b (2 ^ p.exponent))) laid.0 (made_keeps g w.objects w.cells u.memory o laid.1 free h))
    (ap (λ bs. bs ++ block_at at p.exponent ∷ []) live ∙ ap (λ b. live_blocks w.objects ++ block_at b p.exponent ∷ []) (sym laid.0) ∙ sym (live_blocks_made w.objects o refl))
    (clear_made w.objects o at stack laid.0 clear)
    (heights_made w.objects o start heights (omega (arith, low, there)))
    (other_made w.objects o regions refl (omega (arith, there, high, top))) in
    record {
      keeps = rest.keeps;
      blocks = rest.blocks;
      objects = rest.objects ∙ append_next w.objects o (frame_objects start ps);
      heights = rest.heights;
      regions = rest.regions;
    }

pub enters : (g start : ℕ) (plan : List Placed) (w : World) (u : FWorld) (stack : ℕ) → IsLaid g start start stack plan → STACK_START ≤ start → start ≤ stack
    → Injects g w.objects w.cells u.memory → u.live ≡ live_blocks w.objects → Heights w.objects stack → InRegions w.objects
    → Entered g start plan w (all_made Local start plan w) (make_all (blocks_from start (exponents plan)) u)
enters g start plan w u stack laid low under h live heights regions =
    enters_from g start stack start plan w u laid (omega arith) heights.top h live
    (record { by = λ k o l. elim (heights.by k o l) [ inl a ↦ inl (omega (arith, a, low)) | inr b ↦ inr b ] })
    (record { by = λ k o l. elim (heights.by k o l) [ inl a ↦ inl a | inr b ↦ inr (omega (arith, b, under)) ]; top = (let t = heights.top in omega (arith, t, under)) })
    regions

-- ---- Exits

abbrev LiveFrom : List Object → ℕ → List Object → Type 0
LiveFrom os k [] = Unit {0}
LiveFrom os k (o ∷ rest) = IsLive os k o × LiveFrom os (suc k) rest

abbrev taken_out : List Object → List Block → List Block
taken_out [] blocks = blocks
taken_out (o ∷ rest) blocks = taken_out rest (without o.base blocks)

live_later : (os : List Object) (k j : ℕ) (o : Object) (fs : List Object) → j < k → LiveFrom os k fs → LiveFrom (ended_in os j (Some o)) k fs
live_later os k j o [] lt h = tt
live_later os k j o (f ∷ fs) lt h = (live_after os j o k f h.0 (λ e. omega (arith, e, lt)), live_later os (suc k) j o fs (omega (arith, lt)) h.1)

record Ending (g : ℕ) (fs : List Object) (w v : World) (memory : Memory) : Type 0 where
  keeps : Injects g v.objects v.cells memory
  blocks : live_blocks v.objects ≡ taken_out fs (live_blocks w.objects)
  accounted : Accounted w.objects v.objects
  regions : InRegions v.objects

ends_all : (g k : ℕ) (fs : List Object) (w : World) (memory : Memory) → LiveFrom w.objects k fs → Injects g w.objects w.cells memory → InRegions w.objects → Ending g fs w (all_ended (length fs) k w) memory
ends_all g k [] w memory live h regions = record { keeps = h; blocks = refl; accounted = accounted_same w.objects; regions = regions }
ends_all g k (o ∷ fs) w memory live h regions =
    let l = live.0 in
    let rest = ends_all g (suc k) fs (ended k w) memory
    (subst (λ x. LiveFrom (ended_in w.objects k x) (suc k) fs) (sym l.there) (live_later w.objects (suc k) k o fs (omega arith) live.1))
    (subst (λ x. Injects g (ended_in w.objects k x) (cleared w.cells k) memory) (sym l.there) (ended_keeps g w.objects w.cells memory k o l.there h))
    (regions_ended w.objects k regions) in
    record {
      keeps = rest.keeps;
      blocks = rest.blocks ∙ ap (taken_out fs) (ap (λ x. live_blocks (ended_in w.objects k x)) l.there ∙ live_blocks_ended g w.objects k o h.out l);
      accounted = accounted_then w.objects _ _ (accounted_ended w.objects k) rest.accounted;
      regions = rest.regions;
    }

-- what lives once one has ended
ended_live : (os : List Object) (k j : ℕ) (p : Object) → IsLive (ended_in os k (slice_get os k)) j p → IsLive os j p × (j ≡ k → ⊥)
ended_live os k j p l = at (slice_get os k) refl l
  where
    at : (x : Option Object) → slice_get os k ≡ x → IsLive (ended_in os k x) j p → IsLive os j p × (j ≡ k → ⊥)
    at None e m = (m, λ q. none-some p (sym e ∙ ap (slice_get os) (sym q) ∙ m.there))
    at (Some o) e m = live_before os k o j p e m

lives_on : (os : List Object) (k j : ℕ) (p : Object) → IsLive os j p → (j ≡ k → ⊥) → IsLive (ended_in os k (slice_get os k)) j p
lives_on os k j p l n = at (slice_get os k)
  where
    at : (x : Option Object) → IsLive (ended_in os k x) j p
    at None = l
    at (Some o) = live_after os k o j p l n

all_before : (n k : ℕ) (w : World) (j : ℕ) (p : Object) → IsLive (all_ended n k w).objects j p → IsLive w.objects j p × ((j < k) ⊎ (k + n ≤ j))
all_before zero k w j p l = (l, by (cases_lt j k))
  where
    by : (j < k) ⊎ (k ≤ j) → (j < k) ⊎ (k + 0 ≤ j)
    by (inl a) = inl a
    by (inr b) = inr (omega (arith, b))
all_before (suc n) k w j p l =
    let r = all_before n (suc k) (ended k w) j p l in
    let m = ended_live w.objects k j p r.0 in
    (m.0, by r.1 m.1)
  where
    by : (j < suc k) ⊎ (suc k + n ≤ j) → (j ≡ k → ⊥) → (j < k) ⊎ (k + suc n ≤ j)
    by (inl a) ne = inl (omega (arith, a, ne))
    by (inr b) ne = inr (omega (arith, b))

all_on : (n k : ℕ) (w : World) (j : ℕ) (p : Object) → j < k → IsLive w.objects j p → IsLive (all_ended n k w).objects j p
all_on zero k w j p lt l = l
all_on (suc n) k w j p lt l = all_on n (suc k) (ended k w) j p (omega (arith, lt)) (lives_on w.objects k j p l (λ e. omega (arith, e, lt)))

-- ---- Blocks that end, in any order

abbrev drop_all : List Block → List Block → List Block
drop_all [] blocks = blocks
drop_all (b ∷ bs) blocks = drop_all bs (without b.base blocks)

ends_live : (bs : List Block) (u : FWorld) → (end_all bs u).live ≡ drop_all bs u.live
ends_live [] u = refl
ends_live (b ∷ bs) u = ends_live bs (end b u)

ends_memory : (bs : List Block) (u : FWorld) → (end_all bs u).memory ≡ u.memory
ends_memory [] u = refl
ends_memory (b ∷ bs) u = ends_memory bs (end b u)

without_swap : (a c : ℕ) (bs : List Block) → without a (without c bs) ≡ without c (without a bs)
without_swap a c [] = refl
without_swap a c (b ∷ bs) = by (b.base == a) (b.base == c) refl refl (without_swap a c bs)
  where
    by : (s t : Bool) → (b.base == a) ≡ s → (b.base == c) ≡ t → without a (without c bs) ≡ without c (without a bs) → without a (cond t bs (b ∷ without c bs)) ≡ without c (cond s bs (b ∷ without a bs))
    by true true e f r = ap (λ x. without x bs) (sym (eqb-true b.base a e) ∙ eqb-true b.base c f)
    by true false e f r = ap (λ s. cond s (without c bs) (b ∷ without a (without c bs))) e
    by false true e f r = sym (ap (λ t. cond t (without a bs) (b ∷ without c (without a bs))) f)
    by false false e f r =
        ap (λ s. cond s (without c bs) (b ∷ without a (without c bs))) e ∙ ap (λ xs. b ∷ xs) r ∙ sym (ap (λ t. cond t (without a bs) (b ∷ without c (without a bs))) f)

drop_one : (bs : List Block) (a : ℕ) (blocks : List Block) → without a (drop_all bs blocks) ≡ drop_all bs (without a blocks)
drop_one [] a blocks = refl
drop_one (b ∷ bs) a blocks = drop_one bs a (without b.base blocks) ∙ ap (drop_all bs) (without_swap a b.base blocks)

drop_append : (xs ys blocks : List Block) → drop_all (xs ++ ys) blocks ≡ drop_all ys (drop_all xs blocks)
drop_append [] ys blocks = refl
drop_append (x ∷ xs) ys blocks = drop_append xs ys (without x.base blocks)

drop_reverse : (bs blocks : List Block) → drop_all (reverse bs) blocks ≡ drop_all bs blocks
drop_reverse [] blocks = refl
drop_reverse (b ∷ bs) blocks = ap (λ xs. drop_all xs blocks) (reverse_onto bs b []) ∙ drop_append (reverse bs) (b ∷ []) blocks ∙ ap (without b.base) (drop_reverse bs blocks) ∙ drop_one bs b.base blocks

-- ---- The objects of the frame

drop_frame : (g start at stack : ℕ) (plan : List Placed) (blocks : List Block) → IsLaid g start at stack plan → drop_all (blocks_from at (exponents plan)) blocks ≡ taken_out (frame_objects start plan) blocks
drop_frame g start at stack [] blocks laid = refl
drop_frame g start at stack (p ∷ ps) blocks laid =
    drop_frame g start (at + 2 ^ p.exponent) stack ps (without at blocks) laid.2 ∙ ap (λ b. taken_out (frame_objects start ps) (without b blocks)) (sym laid.0)

frame_live : (g start at stack : ℕ) (plan : List Placed) (xs : List Object) → IsLaid g start at stack plan → LiveFrom (xs ++ frame_objects start plan) (length xs) (frame_objects start plan)
frame_live g start at stack [] xs laid = tt
frame_live g start at stack (p ∷ ps) xs laid =
    let o = object_of Local start p in
    let rest = frame_live g start (at + 2 ^ p.exponent) stack ps (xs ++ o ∷ []) laid.2 in (
      record { there = get_next xs o (frame_objects start ps); live = refl },
      subst (λ n. LiveFrom (xs ++ o ∷ frame_objects start ps) n (frame_objects start ps)) (length_next xs o)
          (subst (λ os. LiveFrom os (length (xs ++ o ∷ [])) (frame_objects start ps)) (append_next xs o (frame_objects start ps)) rest),
    )

frame_low : (g start at stack k : ℕ) (plan : List Placed) (os ps : List Object) → stack ≤ HEAP_START → IsLaid g start at stack plan → Stays os ps → LiveFrom os k (frame_objects start plan) → LiveFrom ps k (frame_objects start plan)
frame_low g start at stack k [] os ps top laid stays live = tt
frame_low g start at stack k (p ∷ rest) os ps top laid stays live =
    let high = laid_high g start (at + 2 ^ p.exponent) stack rest laid.2 in
    let there = laid.0 in
    let pp = pow_pos p.exponent in
    (stays.by k (object_of Local start p) live.0 (omega (arith, there, high, top, pp)), frame_low g start (at + 2 ^ p.exponent) stack (suc k) rest os ps top laid.2 stays live.1)

frame_length : (start : ℕ) (plan : List Placed) → length (frame_objects start plan) ≡ length plan
frame_length start [] = refl
frame_length start (p ∷ ps) = ap suc (frame_length start ps)

pub exits : (g start stack : ℕ) (plan : List Placed) (caller : List Object) (w : World) (u : FWorld) → IsLaid g start start stack plan → stack ≤ HEAP_START
    → Accounted (caller ++ frame_objects start plan) w.objects → Stays (caller ++ frame_objects start plan) w.objects → Since (caller ++ frame_objects start plan) w.objects
    → Injects g w.objects w.cells u.memory → u.live ≡ live_blocks w.objects → InRegions w.objects
    → Left g caller (all_ended (length plan) (length caller) w) (end_all (reverse (blocks_from start (exponents plan))) u)
exits g start stack plan caller w u laid top accounted stays since h live regions = record {
  keeps = subst (Injects g (all_ended (length plan) (length caller) w).objects (all_ended (length plan) (length caller) w).cells) (sym (ends_memory (reverse (blocks_from start (exponents plan))) u)) ending.keeps;
  blocks = ends_live (reverse (blocks_from start (exponents plan))) u ∙ ap (drop_all (reverse (blocks_from start (exponents plan)))) live ∙ drop_reverse (blocks_from start (exponents plan)) (live_blocks w.objects) ∙ drop_frame g start start stack plan (live_blocks w.objects) laid ∙ sym ending.blocks;
  accounted = accounted_then caller _ _ (accounted_more caller (frame_objects start plan)) (accounted_then (caller ++ (frame_objects start plan)) _ _ accounted ending.accounted);
  stays = record { by = λ j p l low. all_on (length plan) (length caller) w j p (slice_get_within caller j p l.there) (stays.by j p (record { there = get_old caller (frame_objects start plan) j p l.there; live = l.live }) low) };
  since = record { by = λ j p l. from j p (all_before (length plan) (length caller) w j p l) };
  regions = ending.regions;
}
  where
    ending : Ending g (frame_objects start plan) w (all_ended (length plan) (length caller) w) u.memory
    ending = subst (λ n. Ending g (frame_objects start plan) w (all_ended n (length caller) w) u.memory) (frame_length start plan)
        (ends_all g (length caller) (frame_objects start plan) w u.memory (frame_low g start start stack (length caller) plan _ w.objects top laid stays (frame_live g start start stack plan caller laid)) h regions)

    old : (j : ℕ) (p : Object) → IsLive (caller ++ frame_objects start plan) j p → (j < length caller) ⊎ (length caller + length plan ≤ j) → IsLive caller j p
    old j p l (inl lt) = record { there = get_front caller (frame_objects start plan) j p l.there lt; live = l.live }
    old j p l (inr ge) =
        let within = slice_get_within (caller ++ frame_objects start plan) j p l.there in
        absurd (omega (arith, within, ge, length-append caller (frame_objects start plan), frame_length start plan))

    from : (j : ℕ) (p : Object) → IsLive w.objects j p × ((j < length caller) ⊎ (length caller + length plan ≤ j)) → IsLive caller j p ⊎ (HEAP_START ≤ p.base)
    from j p r = elim (since.by j p r.0) [ inl l ↦ inl (old j p l r.1) | inr high ↦ inr high ]
