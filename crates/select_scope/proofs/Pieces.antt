-- The pieces of straight code that steps are selected as: that they are straight, how long they are, and parts one after another.
use Rattle.std.proofs.Common.{◌≡◌, ◌≢◌, ◌==◌, ℕ, ◌+◌, ◌%◌, ◌^◌, ◌<◌, ◌≤◌, ◌⊎◌, inl, inr, Bool, true, false, if◌then◌else◌, List, [], ◌∷◌, ◌++◌, length, Option, Some, None, refl, sym, ap, ◌∙◌, subst, arith, length-append}
use Rattle.std.proofs.lemmas.Bool.{eq-eqb, ne_eqb, cases_eq}
use Rattle.bb_words.specs.declared.steps.ArithOp.{ArithOp}
use Rattle.bb_words.specs.declared.steps.ArithOp.TheVariants as op
use Rattle.flat_code.specs.World.{Words, with_word as put_word}
use Rattle.rv_asm.specs.Text.{upper_part, lower_part}
use Rattle.rv_asm.specs.declared.parts.Part.{Part}
use Rattle.rv_asm.specs.Runs.{PartsAt}
use Rattle.rv_code.specs.declared.instr.Instr.{Instr}
use Rattle.rv_code.specs.declared.instr.Instr.TheVariants.{Lui, Addi}
use Rattle.rv_selected.specs.Registers.{cell, load, store, constant, is_short}
use Rattle.rv_selected.specs.Steps.{plains, fetch, operation, number_code, same_code, arith_code}
use Rattle.rv_selected.specs.Straight.{Held, changed, does_all, IsSet, IsCell, AreStraight}
use Rattle.rv_selected.specs.Follows.{Stands, KeepsRegisters}
use Rattle.select_scope.specs.Loaded.{Loaded}
use Rattle.select_scope.proofs.Moves.{cell_is}

-- ---- Parts

-- where the first parts end and the others begin
pub parts_split : (s : Loaded) (xs ys : List Part) (a b : ℕ) → PartsAt s.text s.all s.labels a (xs ++ ys) b
    → (m : ℕ) × PartsAt s.text s.all s.labels a xs m × PartsAt s.text s.all s.labels m ys b
parts_split s [] ys a b h = (a, refl, h)
parts_split s (x ∷ xs) ys a b h = let rest = parts_split s xs ys h.0 b h.2 in (rest.0, (h.0, h.1, rest.1), rest.2)

-- where the instructions of one list end and those of the other begin
pub plains_split : (s : Loaded) (x y : List Instr) (a b : ℕ) → PartsAt s.text s.all s.labels a (plains (x ++ y)) b
    → (m : ℕ) × PartsAt s.text s.all s.labels a (plains x) m × PartsAt s.text s.all s.labels m (plains y) b
plains_split s [] y a b h = (a, refl, h)
plains_split s (i ∷ x) y a b h = let rest = plains_split s x y h.0 b h.2 in (rest.0, (h.0, h.1, rest.1), rest.2)

-- and the other way round
pub plains_join : (s : Loaded) (x y : List Instr) (a m b : ℕ) → PartsAt s.text s.all s.labels a (plains x) m → PartsAt s.text s.all s.labels m (plains y) b → PartsAt s.text s.all s.labels a (plains (x ++ y)) b
plains_join s [] y a m b h rest = subst (λ p. PartsAt s.text s.all s.labels p (plains y) b) h rest
plains_join s (i ∷ x) y a m b h rest = (h.0, h.1, plains_join s x y h.0 m b h.2 rest)

-- ---- Registers and cells

pub is_set : (r : ℕ) → 3 ≤ r → r < 32 → IsSet r
is_set r low high = record { some = omega (arith, low); few = high; other = λ e. absurd (let q : 3 ≤ 2 = omega (arith, e, low) in omega (arith, q)) }

pub is_cell : (values v : ℕ) → values ≤ 255 → v ≤ values → IsCell (values + 1) (cell v)
is_cell values v few le = record { number = v; few = omega (arith, le); is = cell_is v (omega (arith, few, le)) }

-- ---- Pieces

pub straight_append : (words : ℕ) (a b : List Instr) → AreStraight words a → AreStraight words b → AreStraight words (a ++ b)
straight_append words [] b p q = q
straight_append words (i ∷ a) b p q = (p.0, straight_append words a b p.1 q)

module _ (values : ℕ) (few : values ≤ 255) where
  pub load_straight : (r v : ℕ) → 3 ≤ r → r < 32 → v ≤ values → AreStraight (values + 1) (load r v ∷ [])
  load_straight r v low high le = ((is_set r low high, refl, is_cell values v few le), tt)

  pub store_straight : (r v : ℕ) → r < 32 → v ≤ values → AreStraight (values + 1) (store r v ∷ [])
  store_straight r v high le = ((refl, high, is_cell values v few le), tt)

  pub constant_straight : (r n : ℕ) → 3 ≤ r → r < 32 → n < 2 ^ 32 → AreStraight (values + 1) (constant r n)
  constant_straight r n low high lt = by_tests (is_short n) (n % 4096 == 0)
    where
      by_tests : (short whole : Bool) → AreStraight (values + 1)
          (if short then Addi r 0 n ∷ [] else if whole then Lui r n ∷ [] else Lui r (upper_part n) ∷ Addi r r (lower_part n) ∷ [])
      by_tests true whole = ((is_set r low high, omega arith), tt)
      by_tests false true = ((is_set r low high, lt), tt)
      by_tests false false = ((is_set r low high, omega arith), ((is_set r low high, high), tt))

  pub fetch_straight : (known : Option ℕ) (v : ℕ) → v ≤ values → AreStraight (values + 1) (fetch known v)
  fetch_straight None v le = load_straight 5 v (omega arith) (omega arith) le
  fetch_straight (Some held) v le = by_test (held == v)
    where
      by_test : (b : Bool) → AreStraight (values + 1) (if b then [] else load 5 v ∷ [])
      by_test true = tt
      by_test false = load_straight 5 v (omega arith) (omega arith) le

  pub operation_straight : (f : ArithOp) → AreStraight (values + 1) (operation f)
  operation_straight op.Equal = ((is_set 5 (omega arith) (omega arith), omega arith, omega arith), ((is_set 5 (omega arith) (omega arith), omega arith), tt))
  operation_straight op.Unequal = ((is_set 5 (omega arith) (omega arith), omega arith, omega arith), ((is_set 5 (omega arith) (omega arith), omega arith, omega arith), tt))
  operation_straight op.AtMostSigned = ((is_set 5 (omega arith) (omega arith), omega arith, omega arith), ((is_set 5 (omega arith) (omega arith), omega arith), tt))
  operation_straight op.AtMostUnsigned = ((is_set 5 (omega arith) (omega arith), omega arith, omega arith), ((is_set 5 (omega arith) (omega arith), omega arith), tt))
  operation_straight f = ((is_set 5 (omega arith) (omega arith), omega arith, omega arith), tt)

  pub number_straight : (to value : ℕ) → to < values → value < 2 ^ 32 → AreStraight (values + 1) (number_code to value)
  number_straight to value lt small = by_test (value == 0)
    where
      by_test : (b : Bool) → AreStraight (values + 1) (if b then store 0 to ∷ [] else constant 5 value ++ store 5 to ∷ [])
      by_test true = store_straight 0 to (omega arith) (omega (arith, lt))
      by_test false = straight_append (values + 1) (constant 5 value) (store 5 to ∷ []) (constant_straight 5 value (omega arith) (omega arith) small) (store_straight 5 to (omega arith) (omega (arith, lt)))

  pub same_straight : (known : Option ℕ) (to from : ℕ) → to < values → from < values → AreStraight (values + 1) (same_code known to from)
  same_straight known to from lt lf = straight_append (values + 1) (fetch known from) (store 5 to ∷ []) (fetch_straight known from (omega (arith, lf))) (store_straight 5 to (omega arith) (omega (arith, lt)))

  pub arith_straight : (known : Option ℕ) (to : ℕ) (f : ArithOp) (left right : ℕ) → to < values → left < values → right < values → AreStraight (values + 1) (arith_code known to f left right)
  arith_straight known to f left right lt ll lr =
      straight_append (values + 1) (fetch known left ++ load 6 right ∷ [] ++ operation f) (store 5 to ∷ [])
      (straight_append (values + 1) (fetch known left ++ load 6 right ∷ []) (operation f)
      (straight_append (values + 1) (fetch known left) (load 6 right ∷ []) (fetch_straight known left (omega (arith, ll))) (load_straight 6 right (omega arith) (omega arith) (omega (arith, lr))))
      (operation_straight f))
      (store_straight 5 to (omega arith) (omega (arith, lt)))

-- ---- Lengths

pub constant_length : (r n : ℕ) → length (constant r n) ≤ 2
constant_length r n = by_tests (is_short n) (n % 4096 == 0)
  where
    by_tests : (short whole : Bool) → length (if short then Addi r 0 n ∷ [] else if whole then Lui r n ∷ [] else Lui r (upper_part n) ∷ Addi r r (lower_part n) ∷ []) ≤ 2
    by_tests true whole = omega arith
    by_tests false true = omega arith
    by_tests false false = omega arith

pub fetch_length : (known : Option ℕ) (v : ℕ) → length (fetch known v) ≤ 1
fetch_length None v = omega arith
fetch_length (Some held) v = by_test (held == v)
  where
    by_test : (b : Bool) → length (if b then [] else load 5 v ∷ []) ≤ 1
    by_test true = omega arith
    by_test false = omega arith

operation_length : (f : ArithOp) → length (operation f) ≤ 2
operation_length op.Equal = omega arith
operation_length op.Unequal = omega arith
operation_length op.AtMostSigned = omega arith
operation_length op.AtMostUnsigned = omega arith
operation_length f = omega arith

pub number_length : (to value : ℕ) → length (number_code to value) ≤ 3
number_length to value = by_test (value == 0)
  where
    by_test : (b : Bool) → length (if b then store 0 to ∷ [] else constant 5 value ++ store 5 to ∷ []) ≤ 3
    by_test true = omega arith
    by_test false = omega (arith, length-append (constant 5 value) (store 5 to ∷ []), constant_length 5 value)

pub same_length : (known : Option ℕ) (to from : ℕ) → length (same_code known to from) ≤ 2
same_length known to from = omega (arith, length-append (fetch known from) (store 5 to ∷ []), fetch_length known from)

pub arith_length : (known : Option ℕ) (to : ℕ) (f : ArithOp) (left right : ℕ) → length (arith_code known to f left right) ≤ 5
arith_length known to f left right =
    omega (
      arith,
      length-append (fetch known left ++ load 6 right ∷ [] ++ operation f) (store 5 to ∷ []),
      length-append (fetch known left ++ load 6 right ∷ []) (operation f),
      length-append (fetch known left) (load 6 right ∷ []),
      fetch_length known left,
      operation_length f,
    )

-- ---- A value in x5

pub changed_other : (f : ℕ → ℕ) (at value n : ℕ) → n ≢ at → changed f at value n ≡ f n
changed_other f at value n ne = ap (λ b. if b then value else f n) (ne_eqb n at ne)

pub changed_here : (f : ℕ → ℕ) (at value n : ℕ) → n ≡ at → changed f at value n ≡ value
changed_here f at value n e = ap (λ b. if b then value else f n) (eq-eqb n at e)

-- a value is stored in its cell
pub stored : (values : ℕ) (old : Words) (f : ℕ → ℕ) (to value v : ℕ) → values ≤ 255 → to < values → v < values → f (cell v) ≡ old v → changed f (cell to) value (cell v) ≡ put_word old to value v
stored values old f to value v few lt lv e = by_cases (cases_eq v to)
  where
    by_cases : (v ≡ to) ⊎ (v ≡ to → ⊥) → changed f (cell to) value (cell v) ≡ put_word old to value v
    by_cases (inl is) = changed_here f (cell to) value (cell v) (ap cell is) ∙ sym (changed_here old to value v is)
    by_cases (inr ne) =
        changed_other f (cell to) value (cell v) (λ same. ne (omega (arith, same, cell_is v (omega (arith, lv, few)), cell_is to (omega (arith, lt, few)))))
        ∙ e ∙ sym (changed_other old to value v ne)

-- what is fetched stands in x5, and nothing else has changed
pub record Fetched (values v : ℕ) (words : Words) (old new : Held) : Type 0 where
  pub stands : Stands values (Some v) words new
  pub keeps : KeepsRegisters values old new

pub fetched : (values : ℕ) (known : Option ℕ) (words : Words) (v : ℕ) (h : Held) → v < values → Stands values known words h → Fetched values v words h (does_all (fetch known v) h)
fetched values None words v h lt s = record {
  stands = record { cells = s.cells; five = s.cells v lt; zero = s.zero };
  keeps = record { registers = λ r n5 n6. changed_other h.register 5 (h.word (cell v)) r n5; others = λ o away. refl };
}
fetched values (Some held) words v h lt s = by_cases (cases_eq held v)
  where
    by_cases : (held ≡ v) ⊎ (held ≡ v → ⊥) → Fetched values v words h (does_all (if held == v then [] else load 5 v ∷ []) h)
    by_cases (inl is) = rw (eq-eqb held v is) (record {
      stands = record { cells = s.cells; five = s.five ∙ ap words is; zero = s.zero };
      keeps = record { registers = λ r n5 n6. refl; others = λ o away. refl };
    })
    by_cases (inr ne) = rw (ne_eqb held v ne) (record {
      stands = record { cells = s.cells; five = s.cells v lt; zero = s.zero };
      keeps = record { registers = λ r n5 n6. changed_other h.register 5 (h.word (cell v)) r n5; others = λ o away. refl };
    })
