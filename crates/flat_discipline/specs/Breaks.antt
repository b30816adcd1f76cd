-- What breaks the discipline in a function, and where.
use Rattle.std.specs.Prelude.{◌≡◌, ◌⊎◌, ◌==◌, ℕ, suc, ◌+◌, Bool, true, false, not, ◌&&◌}
use Rattle.std.specs.Prelude.{List, [], ◌∷◌, length, Option, Some, None, nat_lt, nat_le, if◌then◌else◌}
use Rattle.flat_code.specs.Code.{FStep, FSteps}
use Rattle.flat_code.specs.Recognized.{Sequence, sequence_steps}
use Rattle.flat_discipline.specs.Items.{Item, Items, step_places, steps_places, places, all_places}
use Rattle.flat_discipline.specs.Facts.{Fact, Setting, is_among}

-- ---- Numbers in range

abbrev pub all_below : ℕ → List ℕ → Bool
all_below n [] = true
all_below n (x ∷ xs) = nat_lt x n && all_below n xs

abbrev pub is_count : Option ℕ → ℕ → Bool
is_count None n = false
is_count (Some k) n = k == n

-- The numbers of a step are in range, those of the steps inside it apart, within so many Blocks, Loops and Inners. A call
-- has as many arguments as the function has parameters, and stands in no body of the library, whose line is 0.
abbrev pub fits : Setting → (levels : ℕ) → FStep → Bool
fits s levels (FStep.Number to value) = nat_lt to s.values
fits s levels (FStep.Same to from) = nat_lt to s.values && nat_lt from s.values
fits s levels (FStep.Arith to f left right) = nat_lt to s.values && (nat_lt left s.values && nat_lt right s.values)
fits s levels (FStep.If cond first second) = nat_lt cond s.values
fits s levels (FStep.Block body) = true
fits s levels (FStep.Loop body) = true
fits s levels (FStep.Inner body) = true
fits s levels (FStep.Exit n) = nat_lt 0 n && nat_le n levels
fits s levels (FStep.Call to function args) =
    nat_lt to s.values && (all_below s.values args && (is_count (s.params_of function) (length args) && not (s.line == 0)))
fits s levels (FStep.Return from) = nat_lt from s.values
fits s levels (FStep.Slot to from) = nat_lt to s.values && nat_lt from s.values
fits s levels (FStep.Look to slot) = nat_lt to s.values && nat_lt slot s.values
fits s levels (FStep.FrameAt to offset) = nat_lt to s.values && nat_lt offset s.frame
fits s levels (FStep.Load to at width) = nat_lt to s.values && nat_lt at s.values
fits s levels (FStep.Store at from width) = nat_lt at s.values && nat_lt from s.values
fits s levels (FStep.Checked from to) = nat_lt from s.values && nat_lt to s.values
fits s levels (FStep.LineMark line) = nat_le line 0xF_FFFF
fits s levels (FStep.Report kind line) = nat_lt line s.values
fits s levels (FStep.Env to call a b) = nat_lt to s.values && (nat_lt a s.values && (nat_lt b s.values && (nat_lt 0 call && nat_lt call 6)))

-- Slot, Look and Checked stand in sequences alone, and a construct is an item of its own.
abbrev pub is_plain : FStep → Bool
is_plain (FStep.If cond first second) = false
is_plain (FStep.Block body) = false
is_plain (FStep.Loop body) = false
is_plain (FStep.Inner body) = false
is_plain (FStep.Slot to from) = false
is_plain (FStep.Look to slot) = false
is_plain (FStep.Checked from to) = false
is_plain s = true

-- ---- Values that are read

-- the value that a step uses as an address
abbrev pub address : FStep → Option ℕ
address (FStep.Load to at width) = Some at
address (FStep.Store at from width) = Some at
address s = None

abbrev pub reads : FStep → List ℕ
reads (FStep.Same to from) = from ∷ []
reads (FStep.Arith to f left right) = left ∷ right ∷ []
reads (FStep.If cond first second) = cond ∷ []
reads (FStep.Call to function args) = args
reads (FStep.Return from) = from ∷ []
reads (FStep.Slot to from) = from ∷ []
reads (FStep.Look to slot) = slot ∷ []
reads (FStep.Load to at width) = at ∷ []
reads (FStep.Store at from width) = at ∷ from ∷ []
reads (FStep.Checked from to) = from ∷ to ∷ []
reads (FStep.Report kind line) = line ∷ []
reads (FStep.Env to call a b) = a ∷ b ∷ []
reads s = []

-- what a sequence is given: it reads these as they were before it
abbrev pub operands : Sequence → List ℕ
operands (Sequence.Move p d q line s e) = p ∷ d ∷ line ∷ []
operands (Sequence.Load w at line s e) = at ∷ line ∷ []
operands (Sequence.Span p n q line d s e) = p ∷ n ∷ line ∷ []

-- the pointer that a sequence is about, and how many places after its first step it is used: a span loads its first byte
-- after three steps and a report
abbrev pub pointer : Sequence → ℕ
pointer (Sequence.Move p d q line s e) = p
pointer (Sequence.Load w at line s e) = at
pointer (Sequence.Span p n q line d s e) = p

abbrev pub pointer_use : Sequence → ℕ
pointer_use (Sequence.Move p d q line s e) = 0
pointer_use (Sequence.Load w at line s e) = 0
pointer_use (Sequence.Span p n q line d s e) = 5

-- those of the second list that are in the first
abbrev pub shared : (xs ys : List ℕ) → List ℕ
shared xs [] = []
shared xs (y ∷ ys) = if is_among y xs then y ∷ shared xs ys else shared xs ys

-- ---- Steps that break it

-- L says which facts are lost before the item
abbrev pub AddressLost : (L : Fact → Type 0) → Option ℕ → Type 0
AddressLost L None = ⊥
AddressLost L (Some v) = L (Fact.Clean v)

abbrev pub ReadLost : (L : Fact → Type 0) → List ℕ → Type 0
ReadLost L [] = ⊥
ReadLost L (v ∷ vs) = L (Fact.Own v) ⊎ ReadLost L vs

-- A step of a sequence breaks it by a number out of range, or by reading an operand that was last set inside an earlier one.
module _ (s : Setting) (L : Fact → Type 0) (operands : List ℕ) where
  abbrev pub BreaksInside : (levels : ℕ) → FStep → Type 0
  BreaksInside levels x = (fits s levels x ≡ false) ⊎ ReadLost L (shared operands (reads x))

  -- the step at q of those that stand from p on
  abbrev mutual
    pub InsideStep : (levels : ℕ) → FStep → (p q : ℕ) → Type 0
    InsideStep levels (FStep.If cond x y) p q =
        ((q ≡ p) × BreaksInside levels (FStep.If cond x y)) ⊎ (Inside levels x (p + 1) q ⊎ Inside levels y (p + 1 + steps_places x) q)
    InsideStep levels (FStep.Block x) p q = Inside (suc levels) x (p + 1) q
    InsideStep levels (FStep.Loop x) p q = Inside (suc levels) x (p + 1) q
    InsideStep levels (FStep.Inner x) p q = Inside (suc levels) x (p + 1) q
    InsideStep levels x p q = (q ≡ p) × BreaksInside levels x

    pub Inside : (levels : ℕ) → FSteps → (p q : ℕ) → Type 0
    Inside levels FSteps.none p q = ⊥
    Inside levels (FSteps.more x rest) p q = InsideStep levels x p q ⊎ Inside levels rest (p + step_places x) q

-- The step at q breaks it, of the items that stand from p on; L says which facts are lost at a place.
module _ (g : ℕ) (s : Setting) (L : (place : ℕ) → Fact → Type 0) where
  abbrev mutual
    pub Breaks : (levels : ℕ) → Item → (p q : ℕ) → Type 0
    Breaks levels (Item.Plain x) p q = (q ≡ p) × ((fits s levels x && is_plain x ≡ false) ⊎ (AddressLost (L p) (address x) ⊎ ReadLost (L p) (reads x)))
    Breaks levels (Item.Checks x) p q = ((q ≡ p + pointer_use x) × L p (Fact.Clean (pointer x)))
        ⊎ Inside s (L p) (operands x) levels (sequence_steps g x) p q
    Breaks levels (Item.If c a b) p q =
        ((q ≡ p) × ((nat_lt c s.values ≡ false) ⊎ L p (Fact.Own c))) ⊎ (BreaksAll levels a (p + 1) q ⊎ BreaksAll levels b (p + 1 + all_places g a) q)
    Breaks levels (Item.Block a) p q = BreaksAll (suc levels) a (p + 1) q
    Breaks levels (Item.Loop a) p q = BreaksAll (suc levels) a (p + 1) q
    Breaks levels (Item.Inner a) p q = BreaksAll (suc levels) a (p + 1) q

    pub BreaksAll : (levels : ℕ) → Items → (p q : ℕ) → Type 0
    BreaksAll levels Items.end p q = ⊥
    BreaksAll levels (Items.next i rest) p q = Breaks levels i p q ⊎ BreaksAll levels rest (p + places g i) q
