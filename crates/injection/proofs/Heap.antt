-- Objects that are made in the heap.
use Rattle.std.proofs.Common.{◌≡◌, ℕ, ◌≤◌, Bool, true, false, cond, nat_lt, [], ◌∷◌, ◌++◌, Option, Some, None, pos, refl, sym, ap, ◌∙◌, subst, inl, inr, arith, pow_pos}
use Rattle.std.proofs.lemmas.Bool.Decides.{nat_tests}
use Rattle.bb_words.specs.Answers.{Goes}
use Rattle.size_table.specs.declared.memory_map.TheConstants.{MOST_BYTES}
use Rattle.size_table.specs.Blocks.{block_at}
use Rattle.size_table.specs.Pads.{exponent_of}
use Rattle.buddy_heap.specs.Places.{place_of}
use Rattle.source_meaning.specs.declared.values.Pointer.TheVariants.{Null}
use Rattle.source_meaning.specs.declared.values.Value.TheVariants.{Ptr}
use Rattle.source_meaning.specs.Worlds.{World, live_blocks, heap_blocks}
use Rattle.source_meaning.specs.Accounts.{allocated_at, allocate}
use Rattle.flat_code.specs.World.{FPoint, put, choose}
use Rattle.flat_code.specs.Accounts.{allot, malloc}
use Rattle.injection.specs.Words.{word_in}
use Rattle.injection.specs.Memory.{IsPointerIn, Injects}
use Rattle.injection.specs.Worlds.{Heights, InRegions}
use Rattle.injection.specs.Laws.{heap_object, PlacesAreFree, AllocatesAlike}
use Rattle.injection.proofs.Accounts.{since_made}
use Rattle.injection.proofs.Blocks.{live_blocks_made}
use Rattle.injection.proofs.Frames.{get_next}
use Rattle.injection.proofs.Objects.{made_keeps}
use Rattle.injection.proofs.Regions.{heights_made, heap_made}
use Rattle.injection.proofs.Tests.{start_word}

module _ (places : PlacesAreFree) (g n to : ℕ) (w : World) (u : FPoint) (slot : 1 ≤ g) (small : g ≤ 24) (h : Injects g w.objects w.cells u.world.memory) (live : u.world.live ≡ live_blocks w.objects) (heights : Heights w.objects w.stack) (regions : InRegions w.objects) where
  refused : AllocatesAlike g n w to u (put to 0 u) (Goes (Ptr Null) w)
  refused = inl (record { world = refl; value = refl; point = refl })

  at_place : n ≤ MOST_BYTES → (x : Option ℕ) → place_of (live_blocks w.objects) (exponent_of g n) ≡ x → AllocatesAlike g n w to u (allot to (exponent_of g n) x u) (allocated_at g n x w)
  at_place most None e = refused
  at_place most (Some base) e =
      let o = heap_object g n base in
      let p = places g n w.objects slot small most regions in
      let low = p.heap base e in
      let there = get_next w.objects o [] in
      let pp = pow_pos (exponent_of g n) in
      inr (record {
        base = base;
        world = refl;
        value = refl;
        point = refl;
        word = ap (λ x. word_in x (pos 0)) there ∙ start_word base (exponent_of g n);
        formed = subst (λ x. IsPointerIn g x (pos 0)) (sym there) (omega (arith, pp));
        keeps = made_keeps g w.objects w.cells u.world.memory o (p.account base e) (p.free base e) h;
        blocks = ap (λ bs. bs ++ block_at base (exponent_of g n) ∷ []) live ∙ sym (live_blocks_made w.objects o refl);
        heights = heights_made w.objects o w.stack heights (let t = heights.top in omega (arith, t, low));
        regions = heap_made w.objects o regions refl low;
        since = since_made w.objects o low;
      })

  tested : AllocatesAlike g n w to u (malloc g to n u) (allocate g n w)
  tested = by (nat_lt 16777216 n) refl
    where
      was : nat_lt 16777216 n ≡ false → n ≤ 16777216
      was e = grind (arith, nat_tests)

      by : (t : Bool) → nat_lt 16777216 n ≡ t → AllocatesAlike g n w to u (choose t (λ v. put to 0 v) (λ v. allot to (exponent_of g n) (place_of v.world.live (exponent_of g n)) v) u) (cond t (Goes (Ptr Null) w) (allocated_at g n (place_of (heap_blocks w.objects) (exponent_of g n)) w))
      by true e = refused
      by false e =
          subst (λ x. AllocatesAlike g n w to u (allot to (exponent_of g n) x u) (allocated_at g n (place_of (heap_blocks w.objects) (exponent_of g n)) w)) (sym (ap (λ bs. place_of bs (exponent_of g n)) live))
          (subst (λ x. AllocatesAlike g n w to u (allot to (exponent_of g n) (place_of (live_blocks w.objects) (exponent_of g n)) u) (allocated_at g n x w)) (sym (places g n w.objects slot small (was e) regions).same)
          (at_place (was e) (place_of (live_blocks w.objects) (exponent_of g n)) refl))

pub allocates_alike : PlacesAreFree → (g n to : ℕ) (w : World) (u : FPoint) → 1 ≤ g → g ≤ 24 → Injects g w.objects w.cells u.world.memory → u.world.live ≡ live_blocks w.objects → Heights w.objects w.stack → InRegions w.objects → AllocatesAlike g n w to u (malloc g to n u) (allocate g n w)
allocates_alike places g n to w u slot small h live heights regions = tested places g n to w u slot small h live heights regions
