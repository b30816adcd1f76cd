-- Texts whose branches and jumps go to their ends can be resolved.
use Rattle.std.proofs.Common.{◌≡◌, ℕ, zero, suc, ◌+◌, ◌*◌, ◌≤◌, List, [], ◌∷◌, ◌++◌, refl, sym, subst, arith, lit<}
use Rattle.std.specs.Prelude.{replicate}
use Rattle.std.specs.List.{AllByRecursion}
use Rattle.std.proofs.lemmas.List.Elements.{All-from_recursion}
use Rattle.rv_asm.specs.declared.parts.Part.{Part}
use Rattle.rv_asm.specs.declared.parts.Part.TheVariants.{Plain, Label, Branch, Jump}
use Rattle.rv_asm.specs.Parts.{is_label, times_in, FitsPart, GoesOnce, long_sizes, AreParts}
use Rattle.machine_tests.specs.Around.{pass, around, GoesToAnEnd}

pass_fits : FitsPart pass
pass_fits = ((lit< tt, lit< tt), lit< tt, lit< tt)

fits_on : (n : ℕ) (ps : List Part) → AllByRecursion FitsPart ps → AllByRecursion FitsPart (replicate n pass ++ ps)
fits_on zero ps h = h
fits_on (suc n) ps h = (pass_fits, fits_on n ps h)

once_on : (all : List Part) (n : ℕ) (ps : List Part) → AllByRecursion (GoesOnce all) ps → AllByRecursion (GoesOnce all) (replicate n pass ++ ps)
once_on all zero ps h = h
once_on all (suc n) ps h = (tt, once_on all n ps h)

times_on : (l n : ℕ) (ps : List Part) → times_in l (replicate n pass ++ ps) ≡ times_in l ps
times_on l zero ps = refl
times_on l (suc n) ps = omega (arith, times_on l n ps)

sizes_on : (n : ℕ) (ps : List Part) → long_sizes (replicate n pass ++ ps) ≡ 4 * n + long_sizes ps
sizes_on zero ps = omega arith
sizes_on (suc n) ps = omega (arith, sizes_on n ps)

part_fits : (p : Part) → GoesToAnEnd p → FitsPart p
part_fits (Plain i) h = subst FitsPart (sym h) pass_fits
part_fits (Label l) h = absurd h
part_fits (Branch op rs1 rs2 to) h = (h.0, h.1)
part_fits (Jump rd to) h = h.0

no_label : (l : ℕ) (p : Part) → GoesToAnEnd p → is_label l p ≡ 0
no_label l (Plain i) h = refl
no_label l (Label n) h = absurd h
no_label l (Branch op rs1 rs2 to) h = refl
no_label l (Jump rd to) h = refl

part_size : (p : Part) → GoesToAnEnd p → long_sizes (p ∷ []) ≤ 12
part_size (Plain i) h = omega arith
part_size (Label n) h = absurd h
part_size (Branch op rs1 rs2 to) h = omega arith
part_size (Jump rd to) h = omega arith

ends_once : (before : ℕ) (first second : Part) (behind to : ℕ) → GoesToAnEnd first → GoesToAnEnd second → to ≤ 1 → times_in to (around before first second behind) ≡ 1
ends_once before first second behind zero f s h =
    omega (arith, times_on 0 before (first ∷ second ∷ (replicate behind pass ++ Label 1 ∷ [])), no_label 0 first f, no_label 0 second s, times_on 0 behind (Label 1 ∷ []))
ends_once before first second behind (suc zero) f s h =
    omega (arith, times_on 1 before (first ∷ second ∷ (replicate behind pass ++ Label 1 ∷ [])), no_label 1 first f, no_label 1 second s, times_on 1 behind (Label 1 ∷ []))
ends_once before first second behind (suc (suc n)) f s h = absurd (omega (arith, h))

part_once : (before : ℕ) (first second : Part) (behind : ℕ) → GoesToAnEnd first → GoesToAnEnd second → (p : Part) → GoesToAnEnd p → GoesOnce (around before first second behind) p
part_once before first second behind f s (Plain i) h = tt
part_once before first second behind f s (Label l) h = absurd h
part_once before first second behind f s (Branch op rs1 rs2 to) h = ends_once before first second behind to f s h.2
part_once before first second behind f s (Jump rd to) h = ends_once before first second behind to f s h.1

pub are_parts : (before : ℕ) (first second : Part) (behind : ℕ) → GoesToAnEnd first → GoesToAnEnd second → before + behind ≤ 520000 → AreParts (around before first second behind)
are_parts before first second behind f s few =
    let all = around before first second behind in
    let end : List Part = replicate behind pass ++ Label 1 ∷ [] in
    let once = part_once before first second behind f s in
    record {
      fits = All-from_recursion FitsPart all (tt, fits_on before _ (part_fits first f, (part_fits second s, fits_on behind (Label 1 ∷ []) (tt, tt))));
      once = All-from_recursion (GoesOnce all) all (tt, once_on all before _ (once first f, (once second s, once_on all behind (Label 1 ∷ []) (tt, tt))));
      size = omega (arith, sizes_on before (first ∷ second ∷ end), sizes_on behind (Label 1 ∷ []), part_size first f, part_size second s);
    }
