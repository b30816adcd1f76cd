-- Bytes that are accessed, one range or another, lie in objects and their blocks.
use Rattle.std.proofs.Common.{◌≡◌, ℕ, ◌+◌, ◌-◌, ◌^◌, ◌<◌, ◌≤◌, Bool, true, false, cond, nat_lt, List, [], ◌∷◌, slice_get, pos, ◌+ℤ◌, refl, sym, ap, ◌∙◌, subst, inl, inr, arith, w32}
use Rattle.std.proofs.lemmas.Option.{same_Some}
use Rattle.std.proofs.lemmas.Bool.Decides.{nat_tests}
use Rattle.std.proofs.lemmas.Int.{to_z_pos}
use Rattle.bb_watch.specs.Safety.{LieIn}
use Rattle.bb_words.specs.Answers.{Goes, Ends, and_then}
use Rattle.bb_words.specs.Numbers.{signed}
use Rattle.bb_words.specs.declared.kinds.ReportKind.TheVariants.{Bounds}
use Rattle.bb_words.specs.declared.steps.Width.TheVariants as width
use Rattle.size_table.specs.Blocks.{Block}
use Rattle.source_meaning.specs.declared.values.Pointer.{Pointer}
use Rattle.source_meaning.specs.declared.values.Pointer.TheVariants.{To}
use Rattle.source_meaning.specs.declared.values.OutsideCause.TheVariants.{Dead}
use Rattle.source_meaning.specs.declared.values.Ending.TheVariants.{Reported}
use Rattle.source_meaning.specs.Objects.{Object}
use Rattle.source_meaning.specs.Worlds.{World, Does, outside, Moved, noted, live_blocks}
use Rattle.source_meaning.specs.Moves.{is_within, move_in, move}
use Rattle.source_meaning.specs.Accesses.{touch}
use Rattle.source_meaning.specs.Copies.{spanned, span}
use Rattle.injection.specs.Words.{word_of}
use Rattle.injection.specs.Memory.{IsLive, AreLaidOut}
use Rattle.injection.specs.Laws.{Found, AccessesAlike, SpansIfAny}
use Rattle.injection.proofs.Access.{accesses_alike}
use Rattle.injection.proofs.Blocks.{IsAmong, block_of, among_live}

lie_among : (b : Block) (bs : List Block) (at size : ℕ) → IsAmong b bs → b.base ≤ at → at + size ≤ b.base + 2 ^ b.exponent → LieIn at size bs
lie_among b [] at size h low high = absurd h
lie_among b (c ∷ cs) at size (inl e) low high = inl (subst (λ (x : Block). (x.base ≤ at) × (at + size ≤ x.base + 2 ^ x.exponent)) e (low, high))
lie_among b (c ∷ cs) at size (inr h) low high = inr (lie_among b cs at size h low high)

pub found_lie_in : (g : ℕ) (os : List Object) (size at k i : ℕ) → AreLaidOut g os → Found os size at k i → LieIn at size (live_blocks os)
found_lie_in g os size at k i out f =
    let fits = (out.accounts k f.object f.live.there).fits in
    let is = f.is in
    let within = f.within in
    lie_among (block_of f.object) (live_blocks os) at size (among_live os k f.object f.live) (omega (arith, is)) (omega (arith, is, within, fits))

-- ---- Spans

module _ (g site line n : ℕ) (w : World) (two : 2 ≤ g) (one : 1 ≤ n) (most : n ≤ 16777216) (out : AreLaidOut g w.objects) where
  distance_is : signed (n - 1) ≡ pos (n - 1)
  distance_is = to_z_pos w32 (n - 1) (let q : n - 1 < 2 ^ 31 = omega (arith, most) in q)

  -- the last byte
  last_touched : (q : Pointer) (first : ℕ × ℕ) (o : Object) (x : World) (r : Does (ℕ × ℕ)) → IsLive w.objects first.0 o → q ≡ To first.0 (pos first.1) → x ≡ noted (Moved site q (To first.0 (pos (first.1 + (n - 1))))) w
      → AccessesAlike x (To first.0 (pos (first.1 + (n - 1)))) 1 (word_of x.objects (To first.0 (pos (first.1 + (n - 1))))) r → SpansIfAny site n w q (and_then r (λ b. Goes first))
  unfolding and_then
  last_touched q first o x (Ends e y) l is moved a = tt
  last_touched q first o x (Goes place y) l is moved a =
      let f = a.2 in
      let k : place.0 ≡ first.0 = number (sym a.1) in
      let i : place.1 ≡ first.1 + (n - 1) = offset (sym a.1) in
      let objects : x.objects ≡ w.objects = ap (λ (v : World). v.objects) moved in
      let same : f.object ≡ o = same_Some _ _ (sym f.live.there ∙ ap (slice_get x.objects) k ∙ ap (λ os. slice_get os first.0) objects ∙ l.there) in
      let length : f.object.length ≡ o.length = ap (λ (p : Object). p.length) same in
      let within = f.within in
      record { object = o; live = l; pointer = is; within = omega (arith, i, length, within, one); world = a.0 ∙ moved }
    where
      number : To place.0 (pos place.1) ≡ To first.0 (pos (first.1 + (n - 1))) → place.0 ≡ first.0
      number e = cc

      offset : To place.0 (pos place.1) ≡ To first.0 (pos (first.1 + (n - 1))) → place.1 ≡ first.1 + (n - 1)
      offset e = cc

  moved_on : (q : Pointer) (first : ℕ × ℕ) (o : Object) → IsLive w.objects first.0 o → q ≡ To first.0 (pos first.1) → SpansIfAny site n w q (spanned g site line n q first w)
  unfolding and_then
  moved_on q first o l is =
      subst (λ p. SpansIfAny site n w p (spanned g site line n p first w)) (sym is)
      (subst (λ d. SpansIfAny site n w (To first.0 (pos first.1)) (and_then (move g site line d (To first.0 (pos first.1)) w) (λ last w1. and_then (touch last w1) (λ b. Goes first)))) (sym distance_is)
      (subst (λ x. SpansIfAny site n w (To first.0 (pos first.1)) (and_then (move_in g site line first.0 (pos first.1) (pos (n - 1)) x w) (λ last w1. and_then (touch last w1) (λ b. Goes first)))) (sym l.there) (by o.live refl)))
    where
      by_reach : (t : Bool) → SpansIfAny site n w (To first.0 (pos first.1)) (and_then (cond t (Goes (To first.0 (pos (first.1 + (n - 1)))) (noted (Moved site (To first.0 (pos first.1)) (To first.0 (pos (first.1 + (n - 1))))) w)) (Ends (Reported Bounds line) w)) (λ last w1. and_then (touch last w1) (λ b. Goes first)))
      by_reach false = tt
      by_reach true =
          let x = noted (Moved site (To first.0 (pos first.1)) (To first.0 (pos (first.1 + (n - 1))))) w in
          last_touched (To first.0 (pos first.1)) first o x _ l refl refl (accesses_alike g width.Byte (To first.0 (pos (first.1 + (n - 1)))) x two out)

      by : (t : Bool) → o.live ≡ t → SpansIfAny site n w (To first.0 (pos first.1)) (and_then (cond t (cond (is_within g o.exponent (pos first.1 +ℤ pos (n - 1))) (Goes (To first.0 (pos first.1 +ℤ pos (n - 1))) (noted (Moved site (To first.0 (pos first.1)) (To first.0 (pos first.1 +ℤ pos (n - 1)))) w)) (Ends (Reported Bounds line) w)) (outside Dead w)) (λ last w1. and_then (touch last w1) (λ b. Goes first)))
      by false e = tt
      by true e = by_reach (is_within g o.exponent (pos (first.1 + (n - 1))))

  first_touched : (q : Pointer) (r : Does (ℕ × ℕ)) → AccessesAlike w q 1 (word_of w.objects q) r → SpansIfAny site n w q (and_then r (spanned g site line n q))
  unfolding and_then
  first_touched q (Ends e y) a = tt
  first_touched q (Goes first y) a = subst (λ v. SpansIfAny site n w q (spanned g site line n q first v)) (sym a.0) (moved_on q first a.2.object a.2.live a.1)

pub spans : (g site line n : ℕ) (q : Pointer) (w : World) → 2 ≤ g → 1 ≤ n → AreLaidOut g w.objects → SpansIfAny site n w q (span g site line n q w)
spans g site line n q w two one out = by (nat_lt 16777216 n) refl
  where
    small : nat_lt 16777216 n ≡ false → n ≤ 16777216
    small e = grind (arith, nat_tests)

    by : (t : Bool) → nat_lt 16777216 n ≡ t → SpansIfAny site n w q (cond t (Ends (Reported Bounds line) w) (and_then (touch q w) (spanned g site line n q)))
    by true e = tt
    by false e = first_touched g site line n w two one (small e) out q (touch q w) (accesses_alike g width.Byte q w two out)
