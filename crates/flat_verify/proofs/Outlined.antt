-- The places that links lead to, and the ranges that they ask for.
use Rattle.std.proofs.Common.{◌≡◌, ◌<◌, ◌≤◌, ℕ, ◌+◌, ◌*◌, List, [], ◌∷◌, ◌++◌, Option, Some, None, Bool, true, false, refl, sym, ap, ◌∙◌, subst, cond, arith, length, get_or, drop, map, true≢false}
use Rattle.std.specs.Prelude.{◌==◌, ◌&&◌}
use Rattle.std.proofs.lemmas.List.{at_drop_more, drop_all, map-append}
use Rattle.std.proofs.lemmas.Bool.{eq-eqb}
use Rattle.flat_verify.specs.declared.facts.Link.{Link as LinkWritten}
use Rattle.flat_verify.specs.declared.sheets.Range.{Range as RangeWritten}
use Rattle.flat_discipline.specs.Facts.{Fact, Source}
use Rattle.flat_verify.specs.Effects.{Effect}
use Rattle.flat_verify.specs.Links.{OfEach, Link}
use Rattle.flat_verify.specs.Outline.{range_in_source, HasRangeIf, HasRange}
use Rattle.flat_verify.specs.Sheets.{Range, Sheet, later, range_number, from_number, none_unless, InPlaces, is_some, IsAsked, IsCovered}
use Rattle.flat_verify.specs.SheetViews.{range_of}
use Rattle.flat_verify.specs.Views.{link_of}

next_in : {X Y : Type 0} (G : List X → Y) (xs : List X) (i : ℕ) (x : X) → i < length xs → x ≡ get_or xs i x → G (drop i xs) ≡ G (x ∷ drop (i + 1) xs)
next_in G xs i x lt is = at_drop_more G xs i x lt ∙ ap (λ z. G (z ∷ drop (i + 1) xs)) (sym is)

-- ---- Places

pub in_more : (n m : ℕ) (l : Link) → n ≤ m → InPlaces n l → InPlaces m l
in_more n m (Link.Goes e a b) le i = omega (arith, le, i)
in_more n m (Link.Passes a f args) le i = tt
in_more n m (Link.Returns a v) le i = tt

-- all links lead to places, if those from the i-th on do
abbrev pub PlacedBehind : (places : ℕ) (behind all : List LinkWritten) → Type 0
PlacedBehind n behind all = (m : ℕ) → n ≤ m → OfEach (InPlaces m) (map link_of behind) → OfEach (InPlaces m) (map link_of all)

pub placed_in : (n k : ℕ) (xs : List LinkWritten) (i : ℕ) (x : LinkWritten) (all : List LinkWritten) → i < length xs → x ≡ get_or xs i x → n ≤ k → InPlaces k (link_of x)
    → PlacedBehind n (drop i xs) all → PlacedBehind k (drop (i + 1) xs) all
placed_in n k xs i x all lt is le here left = λ m more rest.
    left m (omega (arith, le, more)) (subst (λ z. OfEach (InPlaces m) (map link_of z)) (sym (next_in (λ z. z) xs i x lt is)) (in_more k m (link_of x) more here, rest))

pub placed_end : (n : ℕ) (xs : List LinkWritten) (i : ℕ) (all : List LinkWritten) → length xs ≤ i → PlacedBehind n (drop i xs) all → OfEach (InPlaces n) (map link_of all)
placed_end n xs i all le left = left n (omega arith) (subst (λ z. OfEach (InPlaces n) (map link_of z)) (sym (drop_all i xs le)) tt)

-- ---- Ranges

abbrev pub Has : List Range → (a n : ℕ) → Type 0
Has rs a n = is_some (range_number rs a n) ≡ true

-- what stands among the first stands among the second
abbrev pub Grows : (old new : List Range) → Type 0
Grows old new = (a n : ℕ) → Has old a n → Has new a n

still_some : (o : Option ℕ) → is_some o ≡ true → is_some (later o) ≡ true
still_some None e = e
still_some (Some k) e = refl

at_first : (b : Bool) (o : Option ℕ) → b ≡ true → is_some (cond b (Some 0) (later o)) ≡ true
at_first true o e = refl
at_first false o e = absurd (true≢false (sym e))

pub grows : (xs ys : List Range) → Grows xs (xs ++ ys)
grows [] ys a n e = absurd (true≢false (sym e))
grows (r ∷ rs) ys a n e = by ((a == r.pointer) && (n == r.count)) e (grows rs ys a n)
  where
    earlier : (o : Option ℕ) → is_some (later o) ≡ true → is_some o ≡ true
    earlier None e = e
    earlier (Some k) e = refl

    by : (b : Bool) → is_some (cond b (Some 0) (later (range_number rs a n))) ≡ true → (is_some (range_number rs a n) ≡ true → is_some (range_number (rs ++ ys) a n) ≡ true) → is_some (cond b (Some 0) (later (range_number (rs ++ ys) a n))) ≡ true
    by true e more = refl
    by false e more = still_some (range_number (rs ++ ys) a n) (more (earlier (range_number rs a n) e))

pub pushed : (xs : List Range) (r : Range) → Has (xs ++ r ∷ []) r.pointer r.count
pushed [] r = at_first ((r.pointer == r.pointer) && (r.count == r.count)) None (ap (λ b. b && (r.count == r.count)) (eq-eqb r.pointer r.pointer refl) ∙ eq-eqb r.count r.count refl)
pushed (x ∷ xs) r = by ((r.pointer == x.pointer) && (r.count == x.count)) (pushed xs r)
  where
    by : (b : Bool) → is_some (range_number (xs ++ r ∷ []) r.pointer r.count) ≡ true → is_some (cond b (Some 0) (later (range_number (xs ++ r ∷ []) r.pointer r.count))) ≡ true
    by true e = refl
    by false e = still_some (range_number (xs ++ r ∷ []) r.pointer r.count) e

pub pushed_there : (old new : List RangeWritten) (r : RangeWritten) → new ≡ old ++ r ∷ [] → Has (map range_of new) r.pointer r.count
pushed_there old new r e = subst (λ xs. Has xs r.pointer r.count) (sym (ap (map range_of) e ∙ map-append range_of old (r ∷ []))) (pushed (map range_of old) (range_of r))

pub pushed_kept : (old new : List RangeWritten) (r : RangeWritten) → new ≡ old ++ r ∷ [] → Grows (map range_of old) (map range_of new)
pushed_kept old new r e = subst (λ xs. Grows (map range_of old) xs) (sym (ap (map range_of) e ∙ map-append range_of old (r ∷ []))) (grows (map range_of old) (range_of r ∷ []))

has_more : (rs ss : List Range) (o : Option Range) → Grows rs ss → HasRangeIf rs o → HasRangeIf ss o
has_more rs ss None more h = tt
has_more rs ss (Some r) more h = more r.pointer r.count h

-- all links have their ranges, if those from the i-th on do
abbrev pub RangedBehind : (ranges : List RangeWritten) (behind all : List LinkWritten) → Type 0
RangedBehind ranges behind all = (rs : List Range) → Grows (map range_of ranges) rs → OfEach (HasRange rs) (map link_of behind) → OfEach (HasRange rs) (map link_of all)

pub ranged_in : (old new : List RangeWritten) (xs : List LinkWritten) (i : ℕ) (x : LinkWritten) (all : List LinkWritten) → i < length xs → x ≡ get_or xs i x
    → Grows (map range_of old) (map range_of new) → HasRange (map range_of new) (link_of x) → RangedBehind old (drop i xs) all → RangedBehind new (drop (i + 1) xs) all
ranged_in old new xs i x all lt is more here left = λ rs grow rest.
    left rs (λ a n h. grow a n (more a n h)) (subst (λ z. OfEach (HasRange rs) (map link_of z)) (sym (next_in (λ z. z) xs i x lt is)) (has_more (map range_of new) rs _ grow here, rest))

pub ranged_end : (ranges : List RangeWritten) (xs : List LinkWritten) (i : ℕ) (all : List LinkWritten) → length xs ≤ i → RangedBehind ranges (drop i xs) all → OfEach (HasRange (map range_of ranges)) (map link_of all)
ranged_end ranges xs i all le left = left (map range_of ranges) (λ a n h. h) (subst (λ z. OfEach (HasRange (map range_of ranges)) (map link_of z)) (sym (drop_all i xs le)) tt)

-- ---- What is asked

asked : (s : Sheet) (o : Source) → HasRangeIf s.ranges (range_in_source o) → IsAsked s o
asked s Source.Held h = tt
asked s Source.Gone h = tt
asked s (Source.FromCall f) h = tt
asked s (Source.From (Fact.Clean v)) h = λ m. ap (λ b. is_some (none_unless b (Some v))) m
asked s (Source.From (Fact.Own v)) h = λ m. ap (λ b. is_some (none_unless b (Some (s.values + v)))) m
asked s (Source.From (Fact.Spanned a n)) h = λ m. ap (λ b. is_some (none_unless b (from_number (2 * s.values) (range_number s.ranges a n)))) m ∙ some (range_number s.ranges a n) h
  where
    some : (o : Option ℕ) → is_some o ≡ true → is_some (from_number (2 * s.values) o) ≡ true
    some None e = e
    some (Some k) e = refl

covers : (s : Sheet) (l : Link) → HasRange s.ranges l → IsCovered s l
covers s (Link.Goes Effect.KeepsFacts a b) h = tt
covers s (Link.Goes (Effect.Sets to clean ends) a b) h = asked s clean h
covers s (Link.Goes (Effect.Checks q) a b) h = tt
covers s (Link.Passes a f args) h = tt
covers s (Link.Returns a v) h = tt

pub all_covered : (s : Sheet) (ls : List Link) → OfEach (HasRange s.ranges) ls → OfEach (IsCovered s) ls
all_covered s [] h = tt
all_covered s (l ∷ ls) h = (covers s l h.0, all_covered s ls h.1)
