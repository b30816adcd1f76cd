-- What jumps tell.
use Rattle.std.proofs.Common.{◌≡◌, ◌⊎◌, ℕ, ◌+◌, ◌*◌, ◌/◌, Bool, true, false, cond, eqb, List, [], ◌∷◌, Option, refl, sym, ap, subst, ◌∙◌, inl, inr}
use Rattle.std.proofs.lemmas.Bool.{ne_eqb}
use Rattle.bb_words.specs.Numbers.{sum}
use Rattle.bb_watch.specs.declared.event.Event.{Event}
use Rattle.bb_watch.specs.declared.event.Event.TheVariants.{Call, Return}
use Rattle.rv_code.specs.declared.instr.Instr.{Instr}
use Rattle.rv_code.specs.declared.instr.Instr.TheVariants.{Jal, Jalr}
use Rattle.rv_machine.specs.Events.{told_by}
use Rattle.rv_machine.specs.Instruction.{address, even, jumps, effect, event_of}
use Rattle.rv_machine.specs.State.{Core, set_register}

-- a jump to an address tells so that may leave its return address in rd
abbrev pub TellsCall : (told : Option (List Event)) (rd target : ℕ) → Core → Type 0
TellsCall told rd target c = (core : Core) → told ≡ told_by (jumps target core) (cond (eqb rd 1) (Call c.pc target ∷ []) [])

pub jal_told : (told : Option (List Event)) (i : Instr) (rd imm target : ℕ) (c : Core) → i ≡ Jal rd imm → target ≡ sum c.pc imm → TellsCall told rd target c → told ≡ told_by (effect i c) (event_of i c)
jal_told told i rd imm target c e t h =
    subst (λ (x : Instr). told ≡ told_by (effect x c) (event_of x c)) (sym e)
    (subst (λ (n : ℕ). told ≡ told_by (jumps n (set_register rd (c.pc + 4) c)) (cond (eqb rd 1) (Call c.pc n ∷ []) [])) t (h (set_register rd (c.pc + 4) c)))

-- no return
no_return : (rd rs1 : ℕ) (event : Event) → (rd ≡ 0 × (rs1 ≡ 1 → ⊥)) ⊎ (rd ≡ 0 → ⊥) → cond (eqb rd 0) (cond (eqb rs1 1) (event ∷ []) []) [] ≡ []
no_return rd rs1 event (inl h) = ap (λ (b : Bool). cond (eqb rd 0) (cond b (event ∷ []) []) []) (ne_eqb rs1 1 h.1) ∙ either (eqb rd 0)
  where
    either : (b : Bool) → cond {A = List Event} b [] [] ≡ []
    either true = refl
    either false = refl
no_return rd rs1 event (inr h) = ap (λ (b : Bool). cond b (cond (eqb rs1 1) (event ∷ []) []) []) (ne_eqb rd 0 h)

pub jalr_told : (told : Option (List Event)) (i : Instr) (rd rs1 imm at : ℕ) (c : Core) → i ≡ Jalr rd rs1 imm → at ≡ address c rs1 imm → (rd ≡ 0 × (rs1 ≡ 1 → ⊥)) ⊎ (rd ≡ 0 → ⊥) → TellsCall told rd (even at) c → told ≡ told_by (effect i c) (event_of i c)
jalr_told told i rd rs1 imm at c e t n h =
    let to = even (address c rs1 imm) in
    let one = subst (λ (a : ℕ). told ≡ told_by (jumps (even a) (set_register rd (c.pc + 4) c)) (cond (eqb rd 1) (Call c.pc (even a) ∷ []) [])) t (h (set_register rd (c.pc + 4) c)) in
    subst (λ (x : Instr). told ≡ told_by (effect x c) (event_of x c)) (sym e)
    (subst (λ (rest : List Event). told ≡ told_by (jumps to (set_register rd (c.pc + 4) c)) (cond (eqb rd 1) (Call c.pc to ∷ []) rest)) (sym (no_return rd rs1 (Return c.pc to) n)) one)
