-- The farther a label is, the longer is the form.
use Rattle.std.proofs.Common.{◌≡◌, ℕ, ◌+◌, ◌*◌, ◌<◌, ◌≤◌, Bool, true, false, if◌then◌else◌, length, refl, sym, subst, ◌∙◌, add-zero, arith}
use Rattle.std.proofs.lemmas.Bool.Decides.{nat_tests}
use Rattle.std.proofs.lemmas.Bool.{false≢true}
use Rattle.rv_asm.specs.declared.parts.BranchOp.{BranchOp}
use Rattle.rv_asm.specs.declared.parts.Part.{Part}
use Rattle.rv_asm.specs.declared.parts.Part.TheVariants.{Plain, Label, Branch, Jump}
use Rattle.rv_asm.specs.Parts.{long_size}
use Rattle.rv_asm.specs.Text.{in_reach, jump_code, branch_code, code_of}

-- the second distance is at least the first, in the same direction
pub data IsFarther (a t b u : ℕ) : Type 0 where
  Forward : a ≤ t → b ≤ u → t + b ≤ u + a → IsFarther a t b u
  Backward : t ≤ a → u ≤ b → a + u ≤ b + t → IsFarther a t b u

-- what is out of reach stays so
out_stays : (half skip a t b u : ℕ) → skip < half → IsFarther a t b u → in_reach half (a + skip) t ≡ false → in_reach half (b + skip) u ≡ false
out_stays half skip a t b u s (Forward p q r) e = grind (arith, nat_tests)
out_stays half skip a t b u s (Backward p q r) e = grind (arith, nat_tests)

jump_length : (rd at to : ℕ) (near : Bool) → in_reach 1048576 at to ≡ near → length (jump_code rd at to) ≡ (if near then 1 else 2)
jump_length rd at to true e = rw e refl
jump_length rd at to false e = rw e refl

branch_length : (op : BranchOp) (rs1 rs2 at to : ℕ) (near far : Bool) → in_reach 4096 at to ≡ near → in_reach 1048576 (at + 4) to ≡ far → length (branch_code op rs1 rs2 at to) ≡ (if near then 1 else if far then 2 else 3)
branch_length op rs1 rs2 at to true far e f = rw e refl
branch_length op rs1 rs2 at to false true e f = rw (e, f) refl
branch_length op rs1 rs2 at to false false e f = rw (e, f) refl

jump_longer : (rd a t b u : ℕ) → IsFarther a t b u → length (jump_code rd a t) ≤ length (jump_code rd b u)
jump_longer rd a t b u far = by (in_reach 1048576 a t) (in_reach 1048576 b u) refl refl
  where
    by : (p q : Bool) → in_reach 1048576 a t ≡ p → in_reach 1048576 b u ≡ q → length (jump_code rd a t) ≤ length (jump_code rd b u)
    by true true e f = omega (arith, jump_length rd a t true e, jump_length rd b u true f)
    by true false e f = omega (arith, jump_length rd a t true e, jump_length rd b u false f)
    by false false e f = omega (arith, jump_length rd a t false e, jump_length rd b u false f)
    by false true e f =
        let out = out_stays 1048576 0 a t b u (omega arith) far (subst (λ (n : ℕ). in_reach 1048576 n t ≡ false) (sym (add-zero a)) e) in
        absurd (false≢true (sym (subst (λ (n : ℕ). in_reach 1048576 n u ≡ false) (add-zero b) out) ∙ f))

branch_longer : (op : BranchOp) (rs1 rs2 a t b u : ℕ) → IsFarther a t b u → length (branch_code op rs1 rs2 a t) ≤ length (branch_code op rs1 rs2 b u)
branch_longer op rs1 rs2 a t b u far = by (in_reach 4096 a t) (in_reach 1048576 (a + 4) t) (in_reach 4096 b u) (in_reach 1048576 (b + 4) u) refl refl refl refl
  where
    by : (p q p' q' : Bool) → in_reach 4096 a t ≡ p → in_reach 1048576 (a + 4) t ≡ q → in_reach 4096 b u ≡ p' → in_reach 1048576 (b + 4) u ≡ q' → length (branch_code op rs1 rs2 a t) ≤ length (branch_code op rs1 rs2 b u)
    by true q true q' e f e' f' = omega (arith, branch_length op rs1 rs2 a t true q e f, branch_length op rs1 rs2 b u true q' e' f')
    by true q false true e f e' f' = omega (arith, branch_length op rs1 rs2 a t true q e f, branch_length op rs1 rs2 b u false true e' f')
    by true q false false e f e' f' = omega (arith, branch_length op rs1 rs2 a t true q e f, branch_length op rs1 rs2 b u false false e' f')
    by false q true q' e f e' f' =
        let out = out_stays 4096 0 a t b u (omega arith) far (subst (λ (n : ℕ). in_reach 4096 n t ≡ false) (sym (add-zero a)) e) in
        absurd (false≢true (sym (subst (λ (n : ℕ). in_reach 4096 n u ≡ false) (add-zero b) out) ∙ e'))
    by false true false true e f e' f' = omega (arith, branch_length op rs1 rs2 a t false true e f, branch_length op rs1 rs2 b u false true e' f')
    by false true false false e f e' f' = omega (arith, branch_length op rs1 rs2 a t false true e f, branch_length op rs1 rs2 b u false false e' f')
    by false false false true e f e' f' = absurd (false≢true (sym (out_stays 1048576 4 a t b u (omega arith) far f) ∙ f'))
    by false false false false e f e' f' = omega (arith, branch_length op rs1 rs2 a t false false e f, branch_length op rs1 rs2 b u false false e' f')

pub part_longer : (part : Part) (a t b u : ℕ) → IsFarther a t b u → length (code_of part a t) ≤ length (code_of part b u)
part_longer (Plain i) a t b u far = omega arith
part_longer (Label l) a t b u far = omega arith
part_longer (Branch op rs1 rs2 l) a t b u far = branch_longer op rs1 rs2 a t b u far
part_longer (Jump rd l) a t b u far = jump_longer rd a t b u far

jump_most : (rd at to : ℕ) (near : Bool) → in_reach 1048576 at to ≡ near → 4 * length (jump_code rd at to) ≤ 8
jump_most rd at to true e = omega (arith, jump_length rd at to true e)
jump_most rd at to false e = omega (arith, jump_length rd at to false e)

branch_most : (op : BranchOp) (rs1 rs2 at to : ℕ) (near far : Bool) → in_reach 4096 at to ≡ near → in_reach 1048576 (at + 4) to ≡ far → 4 * length (branch_code op rs1 rs2 at to) ≤ 12
branch_most op rs1 rs2 at to true far e f = omega (arith, branch_length op rs1 rs2 at to true far e f)
branch_most op rs1 rs2 at to false true e f = omega (arith, branch_length op rs1 rs2 at to false true e f)
branch_most op rs1 rs2 at to false false e f = omega (arith, branch_length op rs1 rs2 at to false false e f)

-- no form is longer than the longest
pub part_most : (part : Part) (at to : ℕ) → 4 * length (code_of part at to) ≤ long_size part
part_most (Plain i) at to = omega arith
part_most (Label l) at to = omega arith
part_most (Branch op rs1 rs2 l) at to = branch_most op rs1 rs2 at to (in_reach 4096 at to) (in_reach 1048576 (at + 4) to) refl refl
part_most (Jump rd l) at to = jump_most rd at to (in_reach 1048576 at to) refl
