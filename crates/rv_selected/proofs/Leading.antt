-- What the instructions of steps do to registers and to the words of the control frame.
use Rattle.std.proofs.Common.{◌≡◌, ◌≢◌, ◌==◌, ℕ, ◌+◌, ◌-◌, ◌*◌, ◌%◌, ◌^◌, ◌<◌, ◌≤◌, Bool, true, false, not, if◌then◌else◌, List, [], ◌∷◌, ◌++◌, Option, Some, None, ◌⊎◌, inl, inr, refl, sym, ap, ◌∙◌, arith}
use Rattle.std.specs.Prelude.{nat_lt, nat_le, int_lt, bit_xor}
use Rattle.std.proofs.lemmas.Bool.{lt-ltb, le-ltb, eq-eqb, ne_eqb, cases_eq, cases_lt, lt-leb, le-leb}
use Rattle.bb_words.specs.Numbers.{signed, sum, difference, signed_below, unsigned_below}
use Rattle.bb_words.specs.Steps.{arith as operated, flag}
use Rattle.bb_words.specs.declared.steps.ArithOp.{ArithOp}
use Rattle.bb_words.specs.declared.steps.ArithOp.TheVariants as op
use Rattle.flat_code.specs.Code.{FStep}
use Rattle.flat_code.specs.World.{Words, with_word as put_word}
use Rattle.rv_asm.specs.Text.{upper_part, lower_part}
use Rattle.rv_code.specs.declared.instr.Instr.{Instr}
use Rattle.rv_code.specs.declared.instr.Instr.TheVariants.{Lui, Addi}
use Rattle.rv_selected.specs.Registers.{cell, load, store, constant, is_short}
use Rattle.rv_selected.specs.Steps.{fetch, held_after, operation, number_code, same_code, arith_code}
use Rattle.rv_selected.specs.Straight.{Held, changed, with_register, with_word, does, does_all}
use Rattle.rv_selected.specs.Follows.{IsKnown, Stands, KeepsRegisters, Leads, StepsLead}

-- ---- Lists and places

does_append : (a b : List Instr) (h : Held) → does_all (a ++ b) h ≡ does_all b (does_all a h)
does_append [] b h = refl
does_append (i ∷ a) b h = does_append a b (does i h)

changed_here : (f : ℕ → ℕ) (at value n : ℕ) → n ≡ at → changed f at value n ≡ value
changed_here f at value n e = ap (λ b. if b then value else f n) (eq-eqb n at e)

changed_other : (f : ℕ → ℕ) (at value n : ℕ) → n ≢ at → changed f at value n ≡ f n
changed_other f at value n ne = ap (λ b. if b then value else f n) (ne_eqb n at ne)

-- values of one frame have cells of their own
cell_is : (v : ℕ) → v < 255 → cell v ≡ 4 * v
cell_is v lt = omega (arith, lt)

cells_apart : (v w : ℕ) → v < 255 → w < 255 → cell v ≡ cell w → v ≡ w
cells_apart v w lv lw e = omega (arith, cell_is v lv, cell_is w lw, e)

-- a value is stored in its cell
stored : (values : ℕ) (old : Words) (f : ℕ → ℕ) (to value v : ℕ) → values ≤ 255 → to < values → v < values → f (cell v) ≡ old v → changed f (cell to) value (cell v) ≡ put_word old to value v
stored values old f to value v few lt lv e = by_cases (cases_eq v to)
  where
    by_cases : (v ≡ to) ⊎ (v ≡ to → ⊥) → changed f (cell to) value (cell v) ≡ put_word old to value v
    by_cases (inl is) = changed_here f (cell to) value (cell v) (ap cell is) ∙ sym (changed_here old to value v is)
    by_cases (inr ne) =
        changed_other f (cell to) value (cell v) (λ same. ne (cells_apart v to (omega (arith, lv, few)) (omega (arith, lt, few)) same))
        ∙ e ∙ sym (changed_other old to value v ne)

-- ---- What pieces keep

-- only x5 and x6 change
pub record Quiet (old new : Held) : Type 0 where
  pub registers : (r : ℕ) → r ≢ 5 → r ≢ 6 → new.register r ≡ old.register r
  pub word : new.word ≡ old.word

quiet_none : (h : Held) → Quiet h h
quiet_none h = record { registers = λ r n5 n6. refl; word = refl }

quiet_five : (h : Held) (x : ℕ) → Quiet h (with_register 5 x h)
quiet_five h x = record { registers = λ r n5 n6. changed_other h.register 5 x r n5; word = refl }

quiet_six : (h : Held) (x : ℕ) → Quiet h (with_register 6 x h)
quiet_six h x = record { registers = λ r n5 n6. changed_other h.register 6 x r n6; word = refl }

quiet_then : (a b c : Held) → Quiet a b → Quiet b c → Quiet a c
quiet_then a b c p q = record { registers = λ r n5 n6. q.registers r n5 n6 ∙ p.registers r n5 n6; word = q.word ∙ p.word }

-- ---- Operands

pub record Fetched (old new : Held) (word : ℕ) : Type 0 where
  pub quiet : Quiet old new
  pub five : new.register 5 ≡ word

fetched : (values : ℕ) (known : Option ℕ) (words : Words) (v : ℕ) (h : Held) → v < values → Stands values known words h → Fetched h (does_all (fetch known v) h) (words v)
fetched values None words v h lt s = record { quiet = quiet_five h (h.word (cell v)); five = s.cells v lt }
fetched values (Some held) words v h lt s = by_cases (cases_eq held v)
  where
    loaded : (b : Bool) → held == v ≡ b → (b ≡ false) → Fetched h (does_all (if b then [] else load 5 v ∷ []) h) (words v)
    loaded true e n = absurd (let q : true ≡ false = n in cc)
    loaded false e n = record { quiet = quiet_five h (h.word (cell v)); five = s.cells v lt }

    by_cases : (held ≡ v) ⊎ (held ≡ v → ⊥) → Fetched h (does_all (fetch (Some held) v) h) (words v)
    by_cases (inl is) = rw (eq-eqb held v is) (record { quiet = quiet_none h; five = s.five ∙ ap words is })
    by_cases (inr ne) = rw (ne_eqb held v ne) (record { quiet = quiet_five h (h.word (cell v)); five = s.cells v lt })

-- ---- Operations

equal_is : (a b : ℕ) → a < 2 ^ 32 → b < 2 ^ 32 → unsigned_below (difference a b) 1 ≡ flag (a == b)
equal_is a b la lb = by_cases (cases_eq a b)
  where
    by_cases : (a ≡ b) ⊎ (a ≡ b → ⊥) → unsigned_below (difference a b) 1 ≡ flag (a == b)
    by_cases (inl is) = ap (λ t. if t then 1 else 0) (lt-ltb (difference a b) 1 (let e : difference a b ≡ 0 = omega (arith, is, la) in omega (arith, e)) ∙ sym (eq-eqb a b is))
    by_cases (inr ne) = ap (λ t. if t then 1 else 0) (le-ltb (difference a b) 1 (let e : 1 ≤ difference a b = omega (arith, ne, la, lb) in e) ∙ sym (ne_eqb a b ne))

unequal_is : (z a b : ℕ) → z ≡ 0 → a < 2 ^ 32 → b < 2 ^ 32 → unsigned_below z (difference a b) ≡ flag (not (a == b))
unequal_is z a b ez la lb = by_cases (cases_eq a b)
  where
    by_cases : (a ≡ b) ⊎ (a ≡ b → ⊥) → unsigned_below z (difference a b) ≡ flag (not (a == b))
    by_cases (inl is) = ap (λ t. if t then 1 else 0) (le-ltb z (difference a b) (let e : difference a b ≡ 0 = omega (arith, is, la) in omega (arith, e)) ∙ ap not (sym (eq-eqb a b is)))
    by_cases (inr ne) = ap (λ t. if t then 1 else 0) (lt-ltb z (difference a b) (let e : 1 ≤ difference a b = omega (arith, ne, la, lb) in omega (arith, e, ez)) ∙ ap not (sym (ne_eqb a b ne)))

flipped : (t : Bool) → bit_xor (if t then 1 else 0) 1 ≡ flag (not t)
flipped true = refl
flipped false = refl

at_most_signed : (a b : ℕ) → bit_xor (signed_below b a) 1 ≡ flag (not (int_lt (signed b) (signed a)))
unfolding signed_below
at_most_signed a b = flipped (int_lt (signed b) (signed a))

at_most_unsigned : (a b : ℕ) → bit_xor (unsigned_below b a) 1 ≡ flag (nat_le a b)
at_most_unsigned a b = flipped (nat_lt b a) ∙ ap (λ t. if t then 1 else 0) (same (cases_lt b a))
  where
    same : (b < a) ⊎ (a ≤ b) → not (nat_lt b a) ≡ nat_le a b
    same (inl lt) = ap not (lt-ltb b a lt) ∙ sym (lt-leb a b lt)
    same (inr le) = ap not (le-ltb b a le) ∙ sym (le-leb a b le)

pub record Operated (old new : Held) (word : ℕ) : Type 0 where
  pub quiet : Quiet old new
  pub five : new.register 5 ≡ word

one : (h : Held) (x word : ℕ) → x ≡ word → Operated h (with_register 5 x h) word
one h x word e = record { quiet = quiet_five h x; five = e }

two : (h : Held) (x y word : ℕ) → y ≡ word → Operated h (with_register 5 y (with_register 5 x h)) word
two h x y word e = record { quiet = quiet_then h (with_register 5 x h) (with_register 5 y (with_register 5 x h)) (quiet_five h x) (quiet_five (with_register 5 x h) y); five = e }

operates : (f : ArithOp) (h : Held) → h.register 0 ≡ 0 → h.register 5 < 2 ^ 32 → h.register 6 < 2 ^ 32 → Operated h (does_all (operation f) h) (operated f (h.register 5) (h.register 6))
operates op.Equal h z l5 l6 = two h _ _ _ (equal_is (h.register 5) (h.register 6) l5 l6)
operates op.Unequal h z l5 l6 = two h _ _ _ (unequal_is (h.register 0) (h.register 5) (h.register 6) z l5 l6)
operates op.AtMostSigned h z l5 l6 = two h _ _ _ (at_most_signed (h.register 5) (h.register 6))
operates op.AtMostUnsigned h z l5 l6 = two h _ _ _ (at_most_unsigned (h.register 5) (h.register 6))
operates op.Add h z l5 l6 = one h _ _ refl
operates op.Sub h z l5 l6 = one h _ _ refl
operates op.Mul h z l5 l6 = one h _ _ refl
operates op.Mulh h z l5 l6 = one h _ _ refl
operates op.Mulhsu h z l5 l6 = one h _ _ refl
operates op.Mulhu h z l5 l6 = one h _ _ refl
operates op.Div h z l5 l6 = one h _ _ refl
operates op.Divu h z l5 l6 = one h _ _ refl
operates op.Rem h z l5 l6 = one h _ _ refl
operates op.Remu h z l5 l6 = one h _ _ refl
operates op.Shl h z l5 l6 = one h _ _ refl
operates op.Shr h z l5 l6 = one h _ _ refl
operates op.Sar h z l5 l6 = one h _ _ refl
operates op.Lts h z l5 l6 = one h _ _ refl
operates op.Ltu h z l5 l6 = one h _ _ refl
operates op.And h z l5 l6 = one h _ _ refl
operates op.Or h z l5 l6 = one h _ _ refl
operates op.Xor h z l5 l6 = one h _ _ refl

-- ---- Constants

pub parts_sum : (n : ℕ) → n < 2 ^ 32 → sum (upper_part n) (lower_part n) ≡ n
parts_sum n lt = by_cases (cases_lt (n % 4096) 2048)
  where
    low : (b : Bool) → ℕ
    low b = if b then n % 4096 else n % 4096 + (2 ^ 32 - 2 ^ 12)

    by_cases : (n % 4096 < 2048) ⊎ (2048 ≤ n % 4096) → sum (upper_part n) (lower_part n) ≡ n
    by_cases (inl small) = ap (λ t. sum (upper_part n) (if t then n % 4096 else n % 4096 + (2 ^ 32 - 2 ^ 12))) (lt-ltb (n % 4096) 2048 small) ∙ omega (arith, small, lt)
    by_cases (inr large) = ap (λ t. sum (upper_part n) (if t then n % 4096 else n % 4096 + (2 ^ 32 - 2 ^ 12))) (le-ltb (n % 4096) 2048 large) ∙ omega (arith, large, lt)

made_constant : (h : Held) (n : ℕ) → h.register 0 ≡ 0 → n < 2 ^ 32 → Operated h (does_all (constant 5 n) h) n
made_constant h n z lt = by_tests (is_short n) (n % 4096 == 0)
  where
    by_tests : (a b : Bool) → Operated h (does_all (if a then Addi 5 0 n ∷ [] else if b then Lui 5 n ∷ [] else Lui 5 (upper_part n) ∷ Addi 5 5 (lower_part n) ∷ []) h) n
    by_tests true b = one h _ _ (let e : sum (h.register 0) n ≡ n = omega (arith, z, lt) in e)
    by_tests false true = one h _ _ refl
    by_tests false false = two h _ _ _ (parts_sum n lt)

-- ---- Steps

-- a register is stored in the cell of a value
finish : (values : ℕ) (known after : Option ℕ) (words : Words) (to value r : ℕ) (h g : Held) → values ≤ 255 → to < values → Stands values known words h → Quiet h g → g.register r ≡ value → IsKnown after (put_word words to value) g
    → Stands values after (put_word words to value) (with_word (cell to) (g.register r) g) × KeepsRegisters values h (with_word (cell to) (g.register r) g)
finish values known after words to value r h g few lt s q e k = (
  record {
    cells = λ v lv. ap (λ x. changed g.word (cell to) x (cell v)) e ∙ stored values words g.word to value v few lt lv (ap (λ w. w (cell v)) q.word ∙ s.cells v lv);
    five = kept after k;
    zero = q.registers 0 (omega arith) (omega arith) ∙ s.zero;
  },
  record {
    registers = q.registers;
    others = λ o no. changed_other g.word (cell to) (g.register r) o (no to lt) ∙ ap (λ w. w o) q.word;
  },
)
  where
    kept : (a : Option ℕ) → IsKnown a (put_word words to value) g → IsKnown a (put_word words to value) (with_word (cell to) (g.register r) g)
    kept None k = tt
    kept (Some v) k = k

five_known : (words : Words) (to value : ℕ) (g : Held) → g.register 5 ≡ value → IsKnown (Some to) (put_word words to value) g
five_known words to value g e = e ∙ sym (changed_here words to value to refl)

number_leads : (g values : ℕ) (known : Option ℕ) (words : Words) (to value : ℕ) → values ≤ 255 → to < values → value < 2 ^ 32 →
    Leads values known (held_after known (FStep.Number to value)) words (put_word words to value) (number_code to value)
number_leads g values known words to value few lt fits = λ h are s. by_cases h s (cases_eq value 0)
  where
    by_cases : (h : Held) → Stands values known words h → (value ≡ 0) ⊎ (value ≡ 0 → ⊥)
        → Stands values (if value == 0 then None else Some to) (put_word words to value) (does_all (if value == 0 then store 0 to ∷ [] else constant 5 value ++ store 5 to ∷ []) h) × KeepsRegisters values h (does_all (if value == 0 then store 0 to ∷ [] else constant 5 value ++ store 5 to ∷ []) h)
    by_cases h s (inl is) = rw (eq-eqb value 0 is) (finish values known None words to value 0 h h few lt s (quiet_none h) (s.zero ∙ sym is) tt)
    by_cases h s (inr ne) =
        let m = made_constant h value s.zero fits in
        rw (ne_eqb value 0 ne, does_append (constant 5 value) (store 5 to ∷ []) h)
        (finish values known (Some to) words to value 5 h (does_all (constant 5 value) h) few lt s m.quiet m.five (five_known words to value (does_all (constant 5 value) h) m.five))

same_leads : (values : ℕ) (known : Option ℕ) (words : Words) (to from : ℕ) → values ≤ 255 → to < values → from < values →
    Leads values known (Some to) words (put_word words to (words from)) (same_code known to from)
same_leads values known words to from few lt lf = λ h are s.
    let f = fetched values known words from h lf s in
    rw (does_append (fetch known from) (store 5 to ∷ []) h)
    (finish values known (Some to) words to (words from) 5 h (does_all (fetch known from) h) few lt s f.quiet f.five (five_known words to (words from) (does_all (fetch known from) h) f.five))

arith_leads : (values : ℕ) (known : Option ℕ) (words : Words) (to : ℕ) (f : ArithOp) (left right : ℕ) → values ≤ 255 → to < values → left < values → right < values →
    Leads values known (Some to) words (put_word words to (operated f (words left) (words right))) (arith_code known to f left right)
arith_leads values known words to f left right few lt ll lr = λ h are s.
    let a = fetched values known words left h ll s in
    let h1 = does_all (fetch known left) h in
    let h2 = with_register 6 (h1.word (cell right)) h1 in
    let six : h1.word (cell right) ≡ words right = ap (λ w. w (cell right)) a.quiet.word ∙ s.cells right lr in
    let q2 = quiet_then h h1 h2 a.quiet (quiet_six h1 (h1.word (cell right))) in
    let o = operates f h2 (q2.registers 0 (omega arith) (omega arith) ∙ s.zero) (let l : h1.register 5 < 2 ^ 32 = omega (arith, a.five, are left ll) in l) (let l : h1.word (cell right) < 2 ^ 32 = omega (arith, six, are right lr) in l) in
    let h3 = does_all (operation f) h2 in
    let five : h3.register 5 ≡ operated f (words left) (words right) = o.five ∙ ap (λ x. operated f x (h1.word (cell right))) a.five ∙ ap (λ x. operated f (words left) x) six in
    let e : does_all (arith_code known to f left right) h ≡ with_word (cell to) (h3.register 5) h3 =
    does_append (fetch known left ++ load 6 right ∷ [] ++ operation f) (store 5 to ∷ []) h
    ∙ ap (λ x. does_all (store 5 to ∷ []) x) (does_append (fetch known left ++ load 6 right ∷ []) (operation f) h ∙ ap (λ x. does_all (operation f) x) (does_append (fetch known left) (load 6 right ∷ []) h)) in
    rw e (finish values known (Some to) words to (operated f (words left) (words right)) 5 h h3 few lt s (quiet_then h h2 h3 q2 o.quiet) five (five_known words to (operated f (words left) (words right)) h3 five))

pub steps_lead : StepsLead
steps_lead = record {
  number = number_leads;
  same = λ g. same_leads;
  arith = λ g. arith_leads;
}
