-- The layout of a frame, as objects and as blocks.
use Rattle.std.specs.Prelude.{All}
use Rattle.std.proofs.Common.{◌≡◌, ℕ, ◌+◌, ◌-◌, ◌*◌, ◌/◌, ◌%◌, ◌^◌, ◌<◌, ◌≤◌, List, [], ◌∷◌, refl, sym, ap, ◌∙◌, subst, arith, pow_pos, length}
use Rattle.std.proofs.lemmas.List.Elements.{All-head, All-tail}
use Rattle.std.proofs.lemmas.Nat.{pow-add, mod-mul-add, div-add-mod'}
use Rattle.size_table.specs.declared.memory_map.TheConstants.{STACK_START, HEAP_START}
use Rattle.block_layout.specs.Layout.{Item, Placed, AreSmall, layout, total_of, alignment_of}
use Rattle.block_layout.specs.Laws.{FollowEachOther, IsAligned, Decline, LayoutsLieWell}
use Rattle.flat_code.specs.Accounts.{frame_size, alignment}
use Rattle.injection.specs.Laws.{exponents, IsLaid, FramesAlike}

size_of_following : (from to : ℕ) (ps : List Placed) → FollowEachOther from to ps → from + frame_size (exponents ps) ≡ to
size_of_following from to [] f = omega (arith, f)
size_of_following from to (p ∷ ps) f = let r = size_of_following (from + 2 ^ p.exponent) to ps f.1 in omega (arith, r)

ends_behind : (from to : ℕ) (ps : List Placed) → FollowEachOther from to ps → from ≤ to
ends_behind from to ps f = omega (arith, size_of_following from to ps f)

alignment_is : (g : ℕ) (ps : List Placed) → alignment g (exponents ps) ≡ alignment_of g ps
alignment_is g [] = refl
alignment_is g (p ∷ ps) = refl

alignment_most : (g : ℕ) (ps : List Placed) → g ≤ 24 → Decline 24 ps → alignment_of g ps ≤ 24
alignment_most g [] most d = most
alignment_most g (p ∷ ps) most d = d.0

first_declines : (g : ℕ) (ps : List Placed) → Decline 24 ps → Decline (alignment_of g ps) ps
first_declines g [] d = tt
first_declines g (p ∷ ps) d = (omega arith, d.1)

product_moved : (k q p : ℕ) → k * (q * p) ≡ k * q * p
product_moved k q p = grind arith

products_sum : (k q p : ℕ) → k * p + q * p ≡ (k + q) * p
products_sum k q p = grind arith

-- A place that is aligned from the start on is aligned, where the start is a multiple of more.
from_start : (start c m e offset : ℕ) → start ≡ c * 2 ^ m → e ≤ m → offset % 2 ^ e ≡ 0 → (start + offset) % 2 ^ e ≡ 0
from_start start c m e offset is le h =
    let p = 2 ^ e in
    let k = c * 2 ^ (m - e) in
    let q = offset / p in
    let whole : start ≡ k * p =
    is ∙ ap (λ n. c * 2 ^ n) (let s : m ≡ (m - e) + e = omega (arith, le) in s) ∙ ap (λ n. c * n) (pow-add 2 (m - e) e) ∙ product_moved c (2 ^ (m - e)) p in
    let part : offset ≡ q * p = let d = div-add-mod' offset p in omega (arith, d, h) in
    let sum : start + offset ≡ (k + q) * p + 0 = omega (arith, whole, part, products_sum k q p) in
    ap (λ x. x % p) sum ∙ mod-mul-add (k + q) p 0 (pow_pos e)

module _ (g : ℕ) (one : 1 ≤ g) (start c m : ℕ) (is : start ≡ c * 2 ^ m) (low : STACK_START ≤ start) where
  laid_from : (offset to top e : ℕ) (ps : List Placed) → FollowEachOther offset to ps → All (IsAligned g) ps → Decline e ps → e ≤ m → e ≤ 24 → start + to ≤ top → top ≤ HEAP_START → IsLaid g start (start + offset) top ps
  laid_from offset to top e [] f a d le most within high = omega (arith, f, within)
  laid_from offset to top e (p ∷ ps) f a d le most within high =
      let here = All-head (IsAligned g) p ps a in
      let end = ends_behind (offset + 2 ^ p.exponent) to ps f.1 in
      let next : start + (offset + 2 ^ p.exponent) ≡ start + offset + 2 ^ p.exponent = omega arith in (
        ap (λ n. start + n) f.0,
        record {
          placed = record {
            slot = one;
            least = here.exponent.slot;
            most = omega (arith, d.0, most);
            aligned = from_start start c m p.exponent p.offset is (omega (arith, d.0, le)) here.aligned;
            low = omega (arith, low);
            high = omega (arith, f.0, end, within, high);
          };
          fits = here.exponent.fits;
        },
        subst (λ n. IsLaid g start n top ps) next
            (laid_from (offset + 2 ^ p.exponent) to top p.exponent ps f.1 (All-tail (IsAligned g) p ps a) d.1 (omega (arith, d.0, le)) (omega (arith, d.0, most)) within high),
      )

room_under : (stack total p q start : ℕ) → start ≡ q * p → q * p ≤ stack - total → STACK_START ≤ start → start + total ≤ stack
room_under stack total p q start e le low = omega (arith, e, le, low)

quotient_under : (n p : ℕ) → n / p * p ≤ n
quotient_under n p = let d = div-add-mod' n p in omega (arith, d)

pub frames_alike : LayoutsLieWell → (g stack : ℕ) (items : List Item) → 1 ≤ g → g ≤ 24 → stack ≤ HEAP_START → AreSmall items → FramesAlike g stack items
frames_alike lie_well g stack items one most top small =
    let ps = layout g items in
    let well = lie_well g items most small in
    let a = alignment_of g ps in
    let total = total_of g items in
    let c = (stack - total) / 2 ^ a in
    let start = c * 2 ^ a in
    let room = room_under stack total (2 ^ a) c start refl (quotient_under (stack - total) (2 ^ a)) in
    let size : frame_size (exponents ps) ≡ total = let s = size_of_following 0 total ps well.follow in omega (arith, s) in
    record {
      count = well.count;
      number = ap (λ n. (stack - n) / 2 ^ alignment g (exponents ps) * 2 ^ alignment g (exponents ps)) size ∙ ap (λ e. (stack - total) / 2 ^ e * 2 ^ e) (alignment_is g ps);
      under = λ low. omega (arith, room low);
      laid = λ low.
          let same : start + 0 ≡ start = omega arith in
          subst (λ n. IsLaid g start n stack ps) same
          (laid_from g one start c a refl low 0 total stack a ps well.follow well.aligned (first_declines g ps well.decline) (omega arith) (alignment_most g ps most well.decline) (room low) top);
    }
