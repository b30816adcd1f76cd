-- What the machine does at straight code: instruction by instruction.
use Rattle.std.proofs.Common.{◌≡◌, ◌==◌, ℕ, zero, suc, ◌+◌, ◌*◌, ◌%◌, ◌^◌, ◌<◌, ◌≤◌, ◌⊎◌, inl, inr, Bool, true, false, if◌then◌else◌, List, [], ◌∷◌, ◌++◌, length, map, None, refl, sym, ap, ◌∙◌, arith, append_assoc}
use Rattle.std.specs.Prelude.{slice_index, slice_set, bit_and, bit_or, bit_xor}
use Rattle.std.specs.Int.{to_le_bytes, w32}
use Rattle.std.proofs.lemmas.Bool.{le-ltb, lt-leb, eq-eqb, ne_eqb, cases_eq, cases_lt}
use Rattle.std.proofs.lemmas.List.{get_or-set_same, get_or-set_other, append-nil, map-append}
use Rattle.bb_words.specs.Numbers.{sum, difference, product, signed_high_product, mixed_high_product, unsigned_high_product, signed_quotient, unsigned_quotient, signed_remainder, unsigned_remainder, left_shift, right_shift, signed_right_shift, signed_below, unsigned_below}
use Rattle.bb_watch.specs.declared.event.Event.{Event}
use Rattle.bb_watch.specs.declared.event.Event.TheVariants.{Access}
use Rattle.bb_watch.specs.Told.{Happens}
use Rattle.rv_code.specs.declared.instr.Instr.{Instr}
use Rattle.rv_code.specs.declared.instr.Instr.TheVariants.{Lui, Addi, Sltiu, Xori, Andi, Slli, Srli, Add, Sub, Mul, Mulh, Mulhsu, Mulhu, Div, Divu, Rem, Remu, Sll, Srl, Sra, Slt, Sltu, And, Or, Xor, Lw, Sw}
use Rattle.size_table.specs.Memory.{word_at, written_at, Stand}
use Rattle.rv_machine.specs.State.{Core, register_of, set_register, next, gives, with_memory, with_core, memory_size}
use Rattle.rv_machine.specs.Instruction.{Act, Goes, access_trap, unless_trap, effect, event_of, core_step, core_events}
use Rattle.rv_machine.specs.Environment.{World}
use Rattle.rv_machine.specs.Formed.{IsCore}
use Rattle.rv_machine_laws.specs.Laws.{WordReadBack, OthersStay, CoreStays}
use Rattle.rv_machine.specs.Machine.{step, steps, acted}
use Rattle.rv_asm.specs.Runs.{IsCoreAt, gone}
use Rattle.rv_selected.specs.Straight.{Held, changed, with_register, does, IsSet, IsCell, IsStraight}
use Rattle.select_scope.specs.Frame.{IsFrameAt, HoldsAt, StaysBeside, IsOfFrame, AreOfFrame, StraightRuns}

-- ---- Registers

register_set : (c : Core) (rd value r : ℕ) → IsSet rd → length c.registers ≡ 32 → register_of (set_register rd value c) r ≡ changed (λ q. register_of c q) rd value r
register_set c rd value r s count = rw (ne_eqb rd 0 (omega (arith, s.some))) (by_cases (cases_eq r rd))
  where
    by_cases : (r ≡ rd) ⊎ (r ≡ rd → ⊥) → slice_index (slice_set c.registers rd value) r ≡ changed (λ q. register_of c q) rd value r
    by_cases (inl is) =
        ap (λ q. slice_index (slice_set c.registers rd value) q) is ∙ get_or-set_same c.registers rd value 0 (omega (arith, count, s.few))
        ∙ sym (ap (λ b. if b then value else register_of c r) (eq-eqb r rd is))
    by_cases (inr ne) = get_or-set_other c.registers rd r value 0 ne ∙ sym (ap (λ b. if b then value else register_of c r) (ne_eqb r rd ne))

changed_as : (f g : ℕ → ℕ) (at x y n : ℕ) → f n ≡ g n → x ≡ y → changed f at x n ≡ changed g at y n
changed_as f g at x y n e s = by_test (n == at)
  where
    by_test : (b : Bool) → (if b then x else f n) ≡ (if b then y else g n)
    by_test true = s
    by_test false = e

-- ---- One instruction

pub record Went (sp words : ℕ) (i : Instr) (h : Held) (c : Core) : Type 0 where
  pub core : Core
  pub goes : effect i c ≡ Goes core
  pub holds : HoldsAt sp words (does i h) core
  pub pc : core.pc ≡ c.pc + 4
  pub beside : StaysBeside sp words c core
  pub each : AreOfFrame sp words (event_of i c)

module _ (sp words : ℕ) where
  -- a register is set
  given : (rd x value : ℕ) (h : Held) (c : Core) → IsSet rd → length c.registers ≡ 32 → HoldsAt sp words h c → x ≡ value → HoldsAt sp words (with_register rd value h) (gives rd x c)
  given rd x value h c s count a e = record {
    registers = λ r lt. register_set c rd x r s count ∙ changed_as (λ q. register_of c q) h.register rd x value r (a.registers r lt) e;
    frame = a.frame;
    base = ap (λ b. if b then value else h.register 2) (ne_eqb 2 rd (λ is. s.other (sym is))) ∙ a.base;
  }

  sets : (i : Instr) (rd x value : ℕ) (h : Held) (c : Core) → IsSet rd → length c.registers ≡ 32 → HoldsAt sp words h c
      → effect i c ≡ Goes (gives rd x c) → does i h ≡ with_register rd value h → x ≡ value → AreOfFrame sp words (event_of i c) → Went sp words i h c
  sets i rd x value h c s count a goes is e each = record {
    core = gives rd x c;
    goes = goes;
    holds = rw is (given rd x value h c s count a e);
    pc = refl;
    beside = λ at o. refl;
    each = each;
  }

both : (f : ℕ → ℕ → ℕ) (a b x y : ℕ) → a ≡ x → b ≡ y → f a b ≡ f x y
both f a b x y e s = ap (λ z. f z b) e ∙ ap (λ z. f x z) s

-- ---- The control frame

-- an access to a word of the control stack is made
fits_access : (at : ℕ) → 0x60_0000 ≤ at → at < 0xA0_0000 → at % 4 ≡ 0 → access_trap at 4 ≡ None
fits_access at low high aligned =
    rw (le-ltb at 4096 (omega (arith, low)), lt-leb (2 ^ 31) at (omega (arith, high)), lt-leb 33554432 at (omega (arith, high)), le-ltb at 2097152 (omega (arith, low)), eq-eqb (at % 4) 0 aligned) refl

pub same_word : (old new : List ℕ) (at : ℕ) → ((k : ℕ) → at ≤ k → k < at + 4 → slice_index new k ≡ slice_index old k) → word_at new at ≡ word_at old at
same_word old new at same =
    let a = same at (omega arith) (omega arith) in
    let b = same (at + 1) (omega arith) (omega arith) in
    let c = same (at + 2) (omega arith) (omega arith) in
    let d = same (at + 3) (omega arith) (omega arith) in
    rw (a, b, c, d) refl

pub memory_long : (c : Core) → IsCore c → length c.memory ≡ 0x200_0000
unfolding memory_size
memory_long c form = form.memory

stands_still : (old new : List ℕ) (at end : ℕ) (text : List ℕ) → at + 4 * length text ≤ end → ((k : ℕ) → k < end → slice_index new k ≡ slice_index old k) → Stand old at text → Stand new at text
stands_still old new at end [] le same h = tt
stands_still old new at end (word ∷ words) le same h = (
  same_word old new at (λ k low high. same k (omega (arith, high, le))) ∙ h.0,
  stands_still old new (at + 4) end words (omega (arith, le)) same h.1,
)

-- ---- Each instruction

module _ (read_back : WordReadBack) (others : OthersStay) (sp words : ℕ) (frame : IsFrameAt sp words) where
  -- the address of a word of the frame
  place_of : (h : Held) (c : Core) (imm : ℕ) → HoldsAt sp words h c → (k : IsCell words imm) → sum (register_of c 2) imm ≡ sp + 4 * k.number
  place_of h c imm a k =
      let base : register_of c 2 ≡ sp = a.registers 2 (omega arith) ∙ a.base in
      ap (λ x. sum x imm) base ∙ omega (arith, k.is, k.few, frame.high)

  access_of : (k : ℕ) → k < words → access_trap (sp + 4 * k) 4 ≡ None
  access_of k lt = fits_access (sp + 4 * k) (omega (arith, frame.low)) (omega (arith, frame.high, lt)) (omega (arith, frame.aligned))

  of_frame : (h : Held) (c : Core) (imm : ℕ) (write : Bool) → HoldsAt sp words h c → (k : IsCell words imm) → IsOfFrame sp words (Access c.pc (sum (register_of c 2) imm) 4 write 2)
  of_frame h c imm write a k =
      let at = place_of h c imm a k in
      record { pc = c.pc; at = sum (register_of c 2) imm; write = write; is = refl; low = omega (arith, at); high = omega (arith, at, k.few) }

  loads_word : (rd imm : ℕ) (h : Held) (c : Core) → IsSet rd → IsCell words imm → IsCore c → HoldsAt sp words h c → Went sp words (Lw rd 2 imm) h c
  loads_word rd imm h c s k form a =
      let at = place_of h c imm a k in
      let value : word_at c.memory (sum (register_of c 2) imm) ≡ h.word imm = ap (word_at c.memory) at ∙ a.frame k.number k.few ∙ ap h.word (sym k.is) in
      sets sp words (Lw rd 2 imm) rd (word_at c.memory (sum (register_of c 2) imm)) (h.word imm) h c s form.registers a
      (ap (λ t. unless_trap t (gives rd (word_at c.memory (sum (register_of c 2) imm)) c)) (ap (λ p. access_trap p 4) at ∙ access_of k.number k.few))
      refl value (of_frame h c imm false a k, tt)

  stores_word : (rs2 imm : ℕ) (h : Held) (c : Core) → rs2 < 32 → IsCell words imm → IsCore c → HoldsAt sp words h c → Went sp words (Sw 2 rs2 imm) h c
  stores_word rs2 imm h c lt k form a =
      let at = place_of h c imm a k in
      let p = sum (register_of c 2) imm in
      let x = register_of c rs2 in
      let bytes = to_le_bytes w32 x in
      let new = written_at c.memory p bytes in
      record {
        core = next (with_memory new c);
        goes = ap (λ t. unless_trap t (next (with_memory new c))) (ap (λ q. access_trap q 4) at ∙ access_of k.number k.few);
        holds = record {
          registers = a.registers;
          frame = λ v few. by_cases v few (cases_eq (4 * v) imm);
          base = a.base;
        };
        pc = refl;
        beside = λ q o. stays q o;
        each = (of_frame h c imm true a k, tt);
      }
    where
      size : (x : ℕ) → length (to_le_bytes w32 x) ≡ 4
      size x = refl

      stays : (q : ℕ) → (q < sp) ⊎ (sp + 4 * words ≤ q) → slice_index (written_at c.memory (sum (register_of c 2) imm) (to_le_bytes w32 (register_of c rs2))) q ≡ slice_index c.memory q
      stays q (inl lt) = others c.memory (sum (register_of c 2) imm) (to_le_bytes w32 (register_of c rs2)) q (inl (omega (arith, lt, place_of h c imm a k)))
      stays q (inr le) = others c.memory (sum (register_of c 2) imm) (to_le_bytes w32 (register_of c rs2)) q (inr (omega (arith, le, place_of h c imm a k, size (register_of c rs2), k.few)))

      by_cases : (v : ℕ) → v < words → (4 * v ≡ imm) ⊎ (4 * v ≡ imm → ⊥) → word_at (written_at c.memory (sum (register_of c 2) imm) (to_le_bytes w32 (register_of c rs2))) (sp + 4 * v) ≡ changed h.word imm (h.register rs2) (4 * v)
      by_cases v few (inl is) =
          let at = place_of h c imm a k in
          let here : sp + 4 * v ≡ sum (register_of c 2) imm = omega (arith, at, is, k.is) in
          ap (word_at (written_at c.memory (sum (register_of c 2) imm) (to_le_bytes w32 (register_of c rs2)))) here
          ∙ read_back c.memory (sum (register_of c 2) imm) (register_of c rs2) (omega (arith, at, memory_long c form, frame.high, k.few)) (form.words rs2 0 (omega (arith, form.registers, lt)))
          ∙ a.registers rs2 lt ∙ sym (ap (λ b. if b then h.register rs2 else h.word (4 * v)) (eq-eqb (4 * v) imm is))
      by_cases v few (inr ne) =
          same_word c.memory (written_at c.memory (sum (register_of c 2) imm) (to_le_bytes w32 (register_of c rs2))) (sp + 4 * v) (λ q low high. others c.memory (sum (register_of c 2) imm) (to_le_bytes w32 (register_of c rs2)) q (apart q low high))
          ∙ a.frame v few ∙ sym (ap (λ b. if b then h.register rs2 else h.word (4 * v)) (ne_eqb (4 * v) imm ne))
        where
          apart : (q : ℕ) → sp + 4 * v ≤ q → q < sp + 4 * v + 4 → (q < sum (register_of c 2) imm) ⊎ (sum (register_of c 2) imm + length (to_le_bytes w32 (register_of c rs2)) ≤ q)
          apart q low high = by_order (cases_lt v k.number)
            where
              by_order : (v < k.number) ⊎ (k.number ≤ v) → (q < sum (register_of c 2) imm) ⊎ (sum (register_of c 2) imm + length (to_le_bytes w32 (register_of c rs2)) ≤ q)
              by_order (inl lt) = inl (omega (arith, lt, high, place_of h c imm a k))
              by_order (inr le) = inr (let d : k.number + 1 ≤ v = omega (arith, le, ne, k.is) in omega (arith, d, low, place_of h c imm a k, size (register_of c rs2)))

  went : (i : Instr) (h : Held) (c : Core) → IsStraight words i → IsCore c → HoldsAt sp words h c → Went sp words i h c
  went (Lui rd imm) h c q form a = sets sp words (Lui rd imm) rd imm imm h c q.0 form.registers a refl refl refl (rw (ne_eqb rd 0 (omega (arith, q.0.some))) tt)
  went (Addi rd rs1 imm) h c q form a = sets sp words (Addi rd rs1 imm) rd _ _ h c q.0 form.registers a refl refl (ap (λ x. sum x imm) (a.registers rs1 q.1)) tt
  went (Sltiu rd rs1 imm) h c q form a = sets sp words (Sltiu rd rs1 imm) rd _ _ h c q.0 form.registers a refl refl (ap (λ x. unsigned_below x imm) (a.registers rs1 q.1)) tt
  went (Xori rd rs1 imm) h c q form a = sets sp words (Xori rd rs1 imm) rd _ _ h c q.0 form.registers a refl refl (ap (λ x. bit_xor x imm) (a.registers rs1 q.1)) tt
  went (Andi rd rs1 imm) h c q form a = sets sp words (Andi rd rs1 imm) rd _ _ h c q.0 form.registers a refl refl (ap (λ x. bit_and x imm) (a.registers rs1 q.1)) tt
  went (Slli rd rs1 imm) h c q form a = sets sp words (Slli rd rs1 imm) rd _ _ h c q.0 form.registers a refl refl (ap (λ x. left_shift x imm) (a.registers rs1 q.1)) tt
  went (Srli rd rs1 imm) h c q form a = sets sp words (Srli rd rs1 imm) rd _ _ h c q.0 form.registers a refl refl (ap (λ x. right_shift x imm) (a.registers rs1 q.1)) tt
  went (Add rd rs1 rs2) h c q form a = sets sp words (Add rd rs1 rs2) rd _ _ h c q.0 form.registers a refl refl (both sum _ _ _ _ (a.registers rs1 q.1) (a.registers rs2 q.2)) (rw (ne_eqb rd 0 (omega (arith, q.0.some))) tt)
  went (Sub rd rs1 rs2) h c q form a = sets sp words (Sub rd rs1 rs2) rd _ _ h c q.0 form.registers a refl refl (both difference _ _ _ _ (a.registers rs1 q.1) (a.registers rs2 q.2)) tt
  went (Mul rd rs1 rs2) h c q form a = sets sp words (Mul rd rs1 rs2) rd _ _ h c q.0 form.registers a refl refl (both product _ _ _ _ (a.registers rs1 q.1) (a.registers rs2 q.2)) tt
  went (Mulh rd rs1 rs2) h c q form a = sets sp words (Mulh rd rs1 rs2) rd _ _ h c q.0 form.registers a refl refl (both signed_high_product _ _ _ _ (a.registers rs1 q.1) (a.registers rs2 q.2)) tt
  went (Mulhsu rd rs1 rs2) h c q form a = sets sp words (Mulhsu rd rs1 rs2) rd _ _ h c q.0 form.registers a refl refl (both mixed_high_product _ _ _ _ (a.registers rs1 q.1) (a.registers rs2 q.2)) tt
  went (Mulhu rd rs1 rs2) h c q form a = sets sp words (Mulhu rd rs1 rs2) rd _ _ h c q.0 form.registers a refl refl (both unsigned_high_product _ _ _ _ (a.registers rs1 q.1) (a.registers rs2 q.2)) tt
  went (Div rd rs1 rs2) h c q form a = sets sp words (Div rd rs1 rs2) rd _ _ h c q.0 form.registers a refl refl (both signed_quotient _ _ _ _ (a.registers rs1 q.1) (a.registers rs2 q.2)) tt
  went (Divu rd rs1 rs2) h c q form a = sets sp words (Divu rd rs1 rs2) rd _ _ h c q.0 form.registers a refl refl (both unsigned_quotient _ _ _ _ (a.registers rs1 q.1) (a.registers rs2 q.2)) tt
  went (Rem rd rs1 rs2) h c q form a = sets sp words (Rem rd rs1 rs2) rd _ _ h c q.0 form.registers a refl refl (both signed_remainder _ _ _ _ (a.registers rs1 q.1) (a.registers rs2 q.2)) tt
  went (Remu rd rs1 rs2) h c q form a = sets sp words (Remu rd rs1 rs2) rd _ _ h c q.0 form.registers a refl refl (both unsigned_remainder _ _ _ _ (a.registers rs1 q.1) (a.registers rs2 q.2)) tt
  went (Sll rd rs1 rs2) h c q form a = sets sp words (Sll rd rs1 rs2) rd _ _ h c q.0 form.registers a refl refl (both left_shift _ _ _ _ (a.registers rs1 q.1) (a.registers rs2 q.2)) tt
  went (Srl rd rs1 rs2) h c q form a = sets sp words (Srl rd rs1 rs2) rd _ _ h c q.0 form.registers a refl refl (both right_shift _ _ _ _ (a.registers rs1 q.1) (a.registers rs2 q.2)) tt
  went (Sra rd rs1 rs2) h c q form a = sets sp words (Sra rd rs1 rs2) rd _ _ h c q.0 form.registers a refl refl (both signed_right_shift _ _ _ _ (a.registers rs1 q.1) (a.registers rs2 q.2)) tt
  went (Slt rd rs1 rs2) h c q form a = sets sp words (Slt rd rs1 rs2) rd _ _ h c q.0 form.registers a refl refl (both signed_below _ _ _ _ (a.registers rs1 q.1) (a.registers rs2 q.2)) tt
  went (Sltu rd rs1 rs2) h c q form a = sets sp words (Sltu rd rs1 rs2) rd _ _ h c q.0 form.registers a refl refl (both unsigned_below _ _ _ _ (a.registers rs1 q.1) (a.registers rs2 q.2)) tt
  went (And rd rs1 rs2) h c q form a = sets sp words (And rd rs1 rs2) rd _ _ h c q.0 form.registers a refl refl (both bit_and _ _ _ _ (a.registers rs1 q.1) (a.registers rs2 q.2)) tt
  went (Or rd rs1 rs2) h c q form a = sets sp words (Or rd rs1 rs2) rd _ _ h c q.0 form.registers a refl refl (both bit_or _ _ _ _ (a.registers rs1 q.1) (a.registers rs2 q.2)) tt
  went (Xor rd rs1 rs2) h c q form a = sets sp words (Xor rd rs1 rs2) rd _ _ h c q.0 form.registers a refl refl (both bit_xor _ _ _ _ (a.registers rs1 q.1) (a.registers rs2 q.2)) tt
  went (Lw rd rs1 imm) h c q form a = rw q.1 (loads_word rd imm h c q.0 q.2 form a)
  went (Sw rs1 rs2 imm) h c q form a = rw q.0 (stores_word rs2 imm h c q.1 q.2 form a)
  went i h c q form a = absurd q

-- ---- Straight code

pub step_acts : (w : World) (act : Act) → w.machine.ending ≡ None → core_step w.machine.core ≡ act → step w ≡ acted act w
unfolding step
step_acts w act running is = rw (running, is) refl

step_first : (n : ℕ) (w : World) → steps (suc n) w ≡ steps n (step w)
unfolding steps
step_first zero w = refl
step_first (suc n) w = ap step (step_first n w)

no_steps : (w : World) → steps 0 w ≡ w
unfolding steps
no_steps w = refl

gone_none : (w : World) → gone [] w.machine.core w ≡ w
gone_none w = ap (λ t. record w { told = t }) (append-nil w.told)

gone_twice : (a b : List Event) (c d : Core) (w : World) → gone b d (gone a c w) ≡ gone (a ++ b) d w
gone_twice a b c d w = ap (λ t. record { machine = with_core d w.machine; left = w.left; told = t }) (append_assoc w.told (map Happens a) (map Happens b) ∙ ap (λ t. w.told ++ t) (sym (map-append Happens a b)))

all_append : (sp words : ℕ) (a b : List Event) → AreOfFrame sp words a → AreOfFrame sp words b → AreOfFrame sp words (a ++ b)
all_append sp words [] b p q = q
all_append sp words (x ∷ a) b p q = (p.0, all_append sp words a b p.1 q)

module _ (read_back : WordReadBack) (others : OthersStay) (stays : CoreStays) where
  pub straight : StraightRuns
  straight text all labels at behind sp words [] h w room frame parts is a code = record {
    core = w.machine.core;
    events = [];
    comes = no_steps w ∙ sym (gone_none w);
    place = record { here = is.core.here ∙ sym parts; stands = is.core.stands; form = is.core.form };
    holds = a;
    beside = λ q o. refl;
    each = tt;
  }
  straight text all labels at behind sp words (i ∷ is) h w room frame parts here a code =
      let c = w.machine.core in
      let one = went read_back others sp words frame i h c code.0 here.core.form a in
      let done = parts.1.0 in
      let acts : core_step c ≡ Goes one.core = done.step c here.core ∙ one.goes in
      let tells : core_events c ≡ event_of i c = done.events c here.core in
      let w1 = gone (event_of i c) one.core w in
      let first : step w ≡ w1 = step_acts w (Goes one.core) here.running acts ∙ ap (λ (es : List Event). gone es one.core w) tells in
      let place : IsCoreAt text parts.0 one.core = record {
        here = one.pc ∙ ap (λ p. p + 4) here.core.here ∙ sym parts.1.1;
        stands = stands_still c.memory one.core.memory 4096 2097152 text (omega (arith, room)) (λ k lt. one.beside k (inl (omega (arith, lt, frame.low)))) here.core.stands;
        form = stays c one.core here.core.form acts;
      } in
      let rest = straight text all labels parts.0 behind sp words is (does i h) w1 room frame parts.2 (record { core = place; running = here.running }) one.holds code.1 in
      record {
        core = rest.core;
        events = event_of i c ++ rest.events;
        comes = step_first (length is) w ∙ ap (steps (length is)) first ∙ rest.comes ∙ gone_twice (event_of i c) rest.events one.core rest.core w;
        place = rest.place;
        holds = rest.holds;
        beside = λ q o. rest.beside q o ∙ one.beside q o;
        each = all_append sp words (event_of i c) rest.events one.each rest.each;
      }
