-- The code that the call makes is that of the function on trees.
use Rattle.std.specs.Prelude.{All}
use Rattle.std.proofs.Common.{◌≡◌, ℕ, zero, suc, ◌+◌, ◌<◌, ◌≤◌, true, List, [], ◌∷◌, length, get_or, map, sym, ap, ◌∙◌, subst, arith}
use Rattle.std.proofs.lemmas.List.Elements.{All-nil, All-cons, All-head, All-tail}
use Rattle.mid_code.specs.Kinds.{Signature}
use Rattle.mid_code.specs.Formed.{AreFunctions, Formed}
use Rattle.mid_code.specs.Code.{Function, Program}
use Rattle.flat_code.specs.Code.{FFunction, FCode}
use Rattle.injection.specs.Laws.{FramesAreAlike}
use Rattle.bounds_instr_code.specs.Built.{is_built}
use Rattle.bounds_instr_code.specs.Code.{HasRoom, frameless_code, instrumented}
use Rattle.bounds_instr_code.proofs.Fits.{is_built_is, frameless}

-- a program's code of these functions
abbrev pub code_of : Program → List FFunction → FCode
code_of p z = record { functions = z; main = p.main; initial = [] }

pub coded : FramesAreAlike → (g : ℕ) (p : Program) → 2 ≤ g → g ≤ 24 → is_built p ≡ true → (fs : List FFunction) → fs ≡ map (frameless_code g) p.functions → code_of p fs ≡ instrumented g p
coded frames g p big small built fs e = ap (λ z. code_of p z) (e ∙ frameless frames g (omega (arith, big)) small p.functions (is_built_is p built).1)

-- what holds of all images holds of the image of an element
pub all_at : {X Y : Type 0} (P : Y → Type 0) (g : X → Y) (xs : List X) (i : ℕ) (x : X) → All P (map g xs) → i < length xs → x ≡ get_or xs i x → P (g x)
all_at P g [] i x all lt is = absurd (omega (arith, lt))
all_at P g (y ∷ ys) zero x all lt is = subst (λ z. P (g z)) (sym is) (All-head P (g y) (map g ys) all)
all_at P g (y ∷ ys) (suc i) x all lt is = all_at P g ys i x (All-tail P (g y) (map g ys) all) (omega (arith, lt)) is

-- the functions of a program that is well formed have room for their temporaries
pub formed_has_room : (p : Program) → Formed p → All HasRoom p.functions
formed_has_room p formed = of p.functions formed.signatures formed.functions
  where
    of : (fs : List Function) (ss : List Signature) → AreFunctions p formed.signatures fs ss → All HasRoom fs
    of [] ss h = All-nil HasRoom
    of (f ∷ fs) [] h = absurd h
    of (f ∷ fs) (s ∷ ss) h = All-cons HasRoom f fs h.0.values (of fs ss h.1)
