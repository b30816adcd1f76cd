-- Lists of bases and exponents.
use Rattle.std.proofs.Common.{◌≡◌, ℕ, zero, suc, ◌+◌, ◌-◌, ◌*◌, ◌%◌, ◌^◌, ◌<◌, ◌≤◌, Bool, true, false, cond, eqb, ltb, List, [], ◌∷◌, length, get_or, Option, Some, None, refl, sym, ap, subst, ◌∙◌, inl, inr, arith}
use Rattle.std.specs.List.{insert, remove}
use Rattle.std.proofs.lemmas.Bool.{ltb-true, ltb-false, eqb-true}
use Rattle.std.proofs.lemmas.Nat.{pow_pos, pow-add}
use Rattle.std.proofs.Math.Pow.{pow_mono}
use Rattle.std.proofs.lemmas.Option.{same_Some, none-some}
use Rattle.size_table.specs.Blocks.{Block, block_at, without, IsBlock, MissEachOther, MissesAll}
use Rattle.buddy_heap.specs.Places.{IsRoom, IsPlaceOf, is_clear, place_or, first_of, place_of, with_block, block_from, blocks_of, AreBlocks, HaveExponents, LieInOrder, count_to, next_index, index_of}
use Rattle.buddy_heap.proofs.Places.{whole, place_least}

-- ---- Places that are left

pub record HasLeft (bs : List Block) (e at : ℕ) : Type 0 where
  pub places : ℕ
  pub sum : at + places * 2 ^ e ≡ 33554432
  pub same : first_of places at e bs ≡ place_of bs e

pub left_first : (bs : List Block) (e : ℕ) → e ≤ 24 → HasLeft bs e 16777216
unfolding place_of
left_first bs e h = record { places = 2 ^ (24 - e); sum = whole e h; same = refl }

pub left_room : (bs : List Block) (e at : ℕ) → at < 33554432 → HasLeft bs e at → at + 2 ^ e ≤ 33554432
left_room bs e at l h = by h.places h.sum
  where
    by : (n : ℕ) → at + n * 2 ^ e ≡ 33554432 → at + 2 ^ e ≤ 33554432
    by zero s = absurd (omega (arith, l, s))
    by (suc n) s = omega (arith, s)

pub left_found : (bs : List Block) (e at : ℕ) → at < 33554432 → is_clear (block_at at e) bs ≡ true → HasLeft bs e at → Some at ≡ place_of bs e
unfolding first_of
left_found bs e at l clear h = by h.places h.sum h.same
  where
    by : (n : ℕ) → at + n * 2 ^ e ≡ 33554432 → first_of n at e bs ≡ place_of bs e → Some at ≡ place_of bs e
    by zero s e2 = absurd (omega (arith, l, s))
    by (suc n) s e2 = sym (ap (λ (t : Bool). place_or t at (first_of n (at + 2 ^ e) e) bs) clear) ∙ e2

pub left_more : (bs : List Block) (e at : ℕ) → at < 33554432 → is_clear (block_at at e) bs ≡ false → HasLeft bs e at → HasLeft bs e (at + 2 ^ e)
unfolding first_of
left_more bs e at l clear h = by h.places h.sum h.same
  where
    by : (n : ℕ) → at + n * 2 ^ e ≡ 33554432 → first_of n at e bs ≡ place_of bs e → HasLeft bs e (at + 2 ^ e)
    by zero s e2 = absurd (omega (arith, l, s))
    by (suc n) s e2 = record { places = n; sum = omega (arith, s); same = sym (ap (λ (t : Bool). place_or t at (first_of n (at + 2 ^ e) e) bs) clear) ∙ e2 }

pub left_none : (bs : List Block) (e at : ℕ) → 33554432 ≤ at → HasLeft bs e at → None ≡ place_of bs e
unfolding first_of
left_none bs e at l h = by h.places h.sum h.same
  where
    by : (n : ℕ) → at + n * 2 ^ e ≡ 33554432 → first_of n at e bs ≡ place_of bs e → None ≡ place_of bs e
    by zero s e2 = e2
    by (suc n) s e2 = let p = pow_pos e in absurd (omega (arith, l, s, p))

-- ---- A block more

pub count_within : (at : ℕ) (ps : List (ℕ × ℕ)) → count_to at ps ≤ length ps
count_within at [] = omega arith
count_within at (p ∷ ps) = by (ltb at p.0) (count_within at ps)
  where
    by : (t : Bool) → count_to at ps ≤ length ps → cond {A = ℕ} t 0 (suc (count_to at ps)) ≤ suc (length ps)
    by true h = omega arith
    by false h = omega (arith, h)

pub inserted : (at e : ℕ) (ps : List (ℕ × ℕ)) → blocks_of (insert ps (count_to at ps) (at, e)) ≡ with_block (block_at at e) (blocks_of ps)
inserted at e [] = refl
inserted at e (p ∷ ps) = by (ltb at p.0) (inserted at e ps)
  where
    by : (t : Bool) → blocks_of (insert ps (count_to at ps) (at, e)) ≡ with_block (block_at at e) (blocks_of ps) → blocks_of (insert (p ∷ ps) (cond {A = ℕ} t 0 (suc (count_to at ps))) (at, e)) ≡ cond t (block_at at e ∷ block_at p.0 p.1 ∷ blocks_of ps) (block_at p.0 p.1 ∷ with_block (block_at at e) (blocks_of ps))
    by true h = refl
    by false h = ap (λ (bs : List Block). block_at p.0 p.1 ∷ bs) h

pub inserted_blocks : (n : ℕ) (b : ℕ × ℕ) (ps : List (ℕ × ℕ)) → n ≤ length ps → IsBlock 4 (block_at b.0 b.1) → AreBlocks ps → AreBlocks (insert ps n b)
inserted_blocks zero b ps l h a = (h, a)
inserted_blocks (suc n) b [] l h a = absurd (omega (arith, l))
inserted_blocks (suc n) b (p ∷ ps) l h a = (a.0, inserted_blocks n b ps (omega (arith, l)) h a.1)

pub inserted_order : (low at e : ℕ) (ps : List (ℕ × ℕ)) → low ≤ at → at + 2 ^ e ≤ 33554432 → MissesAll (block_at at e) (blocks_of ps) → LieInOrder low ps → LieInOrder low (insert ps (count_to at ps) (at, e))
inserted_order low at e [] l h m o = (l, h)
inserted_order low at e (p ∷ ps) l h m o = by (ltb at p.0) refl (λ (k : p.0 + 2 ^ p.1 ≤ at). inserted_order (p.0 + 2 ^ p.1) at e ps k h m.1 o.1) m.0
  where
    by : (t : Bool) → ltb at p.0 ≡ t → (p.0 + 2 ^ p.1 ≤ at → LieInOrder (p.0 + 2 ^ p.1) (insert ps (count_to at ps) (at, e))) → MissEachOther (block_at at e) (block_at p.0 p.1) → LieInOrder low (insert (p ∷ ps) (cond {A = ℕ} t 0 (suc (count_to at ps))) (at, e))
    by true t rest (inl b) = (l, (b, o.1))
    by true t rest (inr b) = let k = ltb-true at p.0 t in let n = pow_pos p.1 in absurd (omega (arith, b, k, n))
    by false t rest (inl b) = let k = ltb-false at p.0 t in let n = pow_pos e in absurd (omega (arith, b, k, n))
    by false t rest (inr b) = (o.0, rest b)

pub order_room : (low : ℕ) (ps : List (ℕ × ℕ)) → AreBlocks ps → LieInOrder low ps → low + 16 * length ps ≤ 33554432
order_room low [] a o = omega (arith, o)
order_room low (p ∷ ps) a o =
    let rest = order_room (p.0 + 2 ^ p.1) ps a.1 o.1 in
    let k : p.1 - 4 + 4 ≡ p.1 = (let l = a.0.least in omega (arith, l)) in
    let split : 2 ^ p.1 ≡ 2 ^ (p.1 - 4) * 2 ^ 4 = ap (λ n. 2 ^ n) (sym k) ∙ pow-add 2 (p.1 - 4) 4 in
    let n = pow_pos (p.1 - 4) in
    let first = o.0 in
    omega (arith, rest, split, n, first)

pub insert_long : (n : ℕ) (b : ℕ × ℕ) (ps : List (ℕ × ℕ)) → n ≤ length ps → length (insert ps n b) ≡ suc (length ps)
insert_long zero b ps l = refl
insert_long (suc n) b [] l = absurd (omega (arith, l))
insert_long (suc n) b (p ∷ ps) l = ap suc (insert_long n b ps (omega (arith, l)))

-- ---- A block less

pub order_lower : (low low' : ℕ) (ps : List (ℕ × ℕ)) → low' ≤ low → LieInOrder low ps → LieInOrder low' ps
order_lower low low' [] l o = omega (arith, l, o)
order_lower low low' (p ∷ ps) l o = (omega (arith, l, o.0), o.1)

pub removed_order : (low i : ℕ) (ps : List (ℕ × ℕ)) → i < length ps → LieInOrder low ps → LieInOrder low (remove ps i)
removed_order low i [] l o = absurd (omega (arith, l))
removed_order low zero (p ∷ ps) l o = let n = pow_pos p.1 in order_lower (p.0 + 2 ^ p.1) low ps (omega (arith, o.0, n)) o.1
removed_order low (suc i) (p ∷ ps) l o = (o.0, removed_order (p.0 + 2 ^ p.1) i ps (omega (arith, l)) o.1)

pub removed_blocks : (i : ℕ) (ps : List (ℕ × ℕ)) → i < length ps → AreBlocks ps → AreBlocks (remove ps i)
removed_blocks i [] l a = absurd (omega (arith, l))
removed_blocks zero (p ∷ ps) l a = a.1
removed_blocks (suc i) (p ∷ ps) l a = (a.0, removed_blocks i ps (omega (arith, l)) a.1)

-- what is known of the block at the index that was found
pub record IsFound (at i : ℕ) (ps : List (ℕ × ℕ)) : Type 0 where
  pub within : i < length ps
  pub exponent : (d : ℕ × ℕ) → block_from at (blocks_of ps) ≡ Some (block_at at (get_or ps i d).1)
  pub block : (d : ℕ × ℕ) → IsBlock 4 (block_at at (get_or ps i d).1)
  pub removed : blocks_of (remove ps i) ≡ without at (blocks_of ps)

pub found : (at i : ℕ) (ps : List (ℕ × ℕ)) → AreBlocks ps → index_of at ps ≡ Some i → IsFound at i ps
found at i [] a e = absurd (none-some _ e)
found at i (p ∷ ps) a e = by (eqb p.0 at) refl (λ (j : ℕ) (f : index_of at ps ≡ Some j). found at j ps a.1 f) e
  where
    next : (o : Option ℕ) → next_index o ≡ Some i → (j : ℕ) × (o ≡ Some j) × (suc j ≡ i)
    next None f = absurd (none-some _ f)
    next (Some j) f = (j, refl, same_Some (suc j) i f)

    by : (t : Bool) → eqb p.0 at ≡ t → ((j : ℕ) → index_of at ps ≡ Some j → IsFound at j ps) → cond t (Some 0) (next_index (index_of at ps)) ≡ Some i → IsFound at i (p ∷ ps)
    by true t rest f =
        let z : 0 ≡ i = same_Some 0 i f in
        let b : p.0 ≡ at = eqb-true p.0 at t in
        subst (λ (k : ℕ). IsFound at k (p ∷ ps)) z (record {
          within = omega arith;
          exponent = λ d. ap (λ (u : Bool). cond u (Some (block_at p.0 p.1)) (block_from at (blocks_of ps))) t ∙ ap (λ (n : ℕ). Some (block_at n p.1)) b;
          block = λ d. subst (λ (n : ℕ). IsBlock 4 (block_at n p.1)) b a.0;
          removed = sym (ap (λ (u : Bool). cond u (blocks_of ps) (block_at p.0 p.1 ∷ without at (blocks_of ps))) t);
        })
    by false t rest f =
        let n = next (index_of at ps) f in
        let r = rest n.0 n.1 in
        subst (λ (k : ℕ). IsFound at k (p ∷ ps)) n.2 (record {
          within = (let w = r.within in omega (arith, w));
          exponent = λ d. ap (λ (u : Bool). cond u (Some (block_at p.0 p.1)) (block_from at (blocks_of ps))) t ∙ r.exponent d;
          block = λ d. r.block d;
          removed = ap (λ (bs : List Block). block_at p.0 p.1 ∷ bs) r.removed ∙ sym (ap (λ (u : Bool). cond u (blocks_of ps) (block_at p.0 p.1 ∷ without at (blocks_of ps))) t);
        })

pub not_found : (at : ℕ) (ps : List (ℕ × ℕ)) → index_of at ps ≡ None → block_from at (blocks_of ps) ≡ None
not_found at [] e = refl
not_found at (p ∷ ps) e = by (eqb p.0 at) refl (not_found at ps) e
  where
    next : (o : Option ℕ) → next_index o ≡ None → o ≡ None
    next None f = refl
    next (Some j) f = absurd (none-some _ (sym f))

    by : (t : Bool) → eqb p.0 at ≡ t → (index_of at ps ≡ None → block_from at (blocks_of ps) ≡ None) → cond t (Some 0) (next_index (index_of at ps)) ≡ None → cond t (Some (block_at p.0 p.1)) (block_from at (blocks_of ps)) ≡ None
    by true t rest f = absurd (none-some _ (sym f))
    by false t rest f = rest (next (index_of at ps) f)

-- ---- A block at the place that was found

pub placed_block : (e p : ℕ) (bs : List Block) → 4 ≤ e → e ≤ 24 → IsRoom bs e p → IsBlock 4 (block_at p e)
placed_block e p bs low high r = record { least = low; most = high; aligned = r.aligned; within = r.high }

pub size_is : (e : ℕ) → e ≤ 24 → 1 * 2 ^ e % 4294967296 ≡ 2 ^ e
size_is e h =
    let most : 2 ^ e ≤ 2 ^ 24 = pow_mono h in
    omega (arith, most)

pub left_next : (bs : List Block) (e at : ℕ) → e ≤ 24 → at < 33554432 → is_clear (block_at at e) bs ≡ false → HasLeft bs e at → HasLeft bs e (at + 1 * 2 ^ e % 4294967296)
left_next bs e at small l clear h = subst (λ (n : ℕ). HasLeft bs e (at + n)) (sym (size_is e small)) (left_more bs e at l clear h)

-- what is known where a block is made
pub record IsTaken (ps : List (ℕ × ℕ)) (e base : ℕ) : Type 0 where
  pub few : length ps < 1048576
  pub blocks : AreBlocks (insert ps (count_to base ps) (base, e))
  pub order : LieInOrder 16777216 (insert ps (count_to base ps) (base, e))
  pub block : IsBlock 4 (block_at base e)

pub is_taken : (ps : List (ℕ × ℕ)) (e base : ℕ) → 4 ≤ e → e ≤ 24 → AreBlocks ps → LieInOrder 16777216 ps → place_of (blocks_of ps) e ≡ Some base → IsTaken ps e base
is_taken ps e base low high a o is =
    let room = (subst (IsPlaceOf (blocks_of ps) e) is (place_least (blocks_of ps) e high)).0 in
    let block = placed_block e base (blocks_of ps) low high room in
    let within = count_within base ps in
    let order = inserted_order 16777216 base e ps room.low room.high room.clear o in
    let blocks = inserted_blocks (count_to base ps) (base, e) ps within block a in
    let long = insert_long (count_to base ps) (base, e) ps within in
    let fits = order_room 16777216 (insert ps (count_to base ps) (base, e)) blocks order in
    record { few = omega (arith, long, fits); blocks = blocks; order = order; block = block }

pub have_exponents : (ps : List (ℕ × ℕ)) → AreBlocks ps → HaveExponents ps
have_exponents [] blocks = tt
have_exponents (p ∷ ps) blocks = (blocks.0.most, have_exponents ps blocks.1)
