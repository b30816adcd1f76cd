-- What `lower` makes is code of the program, and each of its refusals is the one that comes first.
use Rattle.std.specs.Prelude.{All, Err}
use Rattle.std.proofs.Common.{◌≡◌, ◌≤◌, ◌*◌, true, List, [], ◌∷◌, length, sym, subst}
use Rattle.std.proofs.lemmas.List.Elements.{All-nil, All-cons, All-head, All-tail}
use Rattle.typed_tree.specs.Counts.{nodes_of_program}
use Rattle.typed_tree.specs.TypedTree.{CFunction, CProgram}
use Rattle.typed_tree.specs.Typed.{Typed, IsFunction, HasLines}
use Rattle.mid_code.specs.Code.{Program}
use Rattle.mid_code.specs.Formed.{Formed}
use Rattle.mid_code.specs.Weight.{weight}
use Rattle.lowering_counts.specs.declared.counts.ProgramCounts.{ProgramCounts}
use Rattle.lowering_counts.specs.declared.error.LowerError.{LowerError}
use Rattle.lowering_counts.specs.declared.error.LowerError.TheVariants.{TooManyNodes, TooManyValues, NotBuilt, Memory}
use Rattle.lowering_counts.specs.Built.{is_built}
use Rattle.lowering_keeps.specs.Keeps.{Keeps}
use Rattle.lowering_keeps.specs.Laws.{CodeKeeps, CodeIsLight, CodeIsFormed}
use Rattle.lowering_counts.specs.Limits.{HasRoom, IsWithin}
use Rattle.lowering_code.specs.Lower.{lowered}
use Rattle.lowering.specs.Lowers.{IsCode, IsLowered}

pub params_within : (p : CProgram) (fs : List CFunction) → All (IsFunction p) fs → All (λ f. f.params ≤ length f.locals) fs
params_within p [] all = All-nil (λ f. f.params ≤ length f.locals)
params_within p (f ∷ fs) all = All-cons (λ f. f.params ≤ length f.locals) f fs (All-head (IsFunction p) f fs all).params_within (params_within p fs (All-tail (IsFunction p) f fs all))

pub code_is : (p : CProgram) (code : Program) → CodeKeeps → CodeIsLight → CodeIsFormed → Typed p → HasLines p → is_built p ≡ true → HasRoom p → code ≡ lowered p → IsCode p code
code_is p code keeps light formed typed lines built room is = record {
  is = is;
  keeps = subst (Keeps p) (sym is) (keeps p typed built room);
  light = subst (λ z. weight z ≤ 504 * nodes_of_program p) (sym is) (light p typed built);
  formed = subst Formed (sym is) (formed p typed lines built room);
}

-- what passes a limit is refused
pub limit_refused : (p : CProgram) (e : LowerError) → IsWithin {A = ProgramCounts} p (Err e) → IsLowered p (Err e)
limit_refused p (TooManyNodes count) h = h
limit_refused p (TooManyValues name count) h = h
limit_refused p Memory h = tt
limit_refused p NotBuilt h = absurd h
