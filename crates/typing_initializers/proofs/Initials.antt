-- Parts of initializers.
use Rattle.std.proofs.Common.{◌≡◌, ℕ, suc, ◌<◌, List, [], ◌∷◌, ◌++◌, ◌-◌, length, drop, take, length-drop, arith, refl, sym, ◌∙◌, ap, Bool}
use Rattle.std.proofs.Math.Seq.{take-length}
use Rattle.std.specs.Prelude.{Option, None, Result}
use Rattle.syntax_tree.specs.Syntax.{InitializerTree, InitializerTrees}
use Rattle.syntax_tree.specs.SyntaxViews.{initializer_tree, initializer_trees}
use Rattle.syntax_tree.specs.declared.syntax.declarations.Initializer.{Initializer}
use Rattle.typed_tree.specs.Types.{CType}
use Rattle.typed_tree.specs.TypedTree.{CInitial}
use Rattle.typed_tree.specs.TypedRules.{part_type}
use Rattle.typing_operators.specs.declared.error.TypeError.{TypeError}
use Rattle.typing_operators.specs.Rule.{Rule, Runs, ◌>>=◌}
use Rattle.typing_expressions.specs.Scene.{CScene}
use Rattle.typing_expressions.specs.Initializers.{initial, initials, looked_at, all_looked_at, part_or_excess}
use Rattle.typing_initializers.specs.InitializerSteps.{excess}

module _ (is_global : Bool) (vs : List CInitial) (s : CScene) (line : ℕ) (t : CType) (i : ℕ) (x : InitializerTree) (xs : InitializerTrees) where
  pub too_many : None ≡ part_type s.structs t i → initials is_global vs s line t i (InitializerTrees.more x xs) ≡ excess s line (InitializerTrees.more x xs)
  too_many h =
      sym (ap (λ (o : Option CType). part_or_excess o (λ u. initial is_global s line u x) (λ v u. initials is_global (vs ++ v ∷ []) u line t (suc i) xs) (looked_at s line x >>= λ u. all_looked_at u line xs) line) h)

-- what is left of the parts is too many
pub over : (is_global : Bool) (vs : List CInitial) (s : CScene) (line : ℕ) (t : CType) (i : ℕ) (parts rest : List Initializer) (total : Rule (List CInitial × CScene))
    → i < length parts → rest ≡ drop i parts → None ≡ part_type s.structs t i
    → initials is_global vs s line t i (initializer_trees (drop i parts)) ≡ total → excess s line (initializer_trees rest) ≡ total
over is_global vs s line t i parts rest total less are none so_far =
    ap (λ (xs : List Initializer). let r : Rule (List CInitial × CScene) = excess s line (initializer_trees xs) in r) are ∙ by (drop i parts) refl ∙ so_far
  where
    by : (xs : List Initializer) → xs ≡ drop i parts → excess s line (initializer_trees xs) ≡ initials is_global vs s line t i (initializer_trees xs)
    by [] e = absurd (let n = length-drop i parts in let m : length (drop i parts) ≡ 0 = ap length (sym e) in omega (arith, less, n, m))
    by (x ∷ xs) e = sym (too_many is_global vs s line t i (initializer_tree x) (initializer_trees xs) none)

all_left : (parts : List Initializer) (i : ℕ) → take (length parts - i) (drop i parts) ≡ drop i parts
all_left parts i = ap (λ (n : ℕ). take n (drop i parts)) (sym (length-drop i parts)) ∙ take-length (drop i parts)

pub over_runs : (is_global : Bool) (vs : List CInitial) (s : CScene) (line : ℕ) (t : CType) (i : ℕ) (parts : List Initializer) (total : Rule (List CInitial × CScene)) {X : Type 0} (view : X → List CInitial) (new : CScene) (result : Result X TypeError)
    → i < length parts → None ≡ part_type s.structs t i → initials is_global vs s line t i (initializer_trees (drop i parts)) ≡ total
    → Runs view new result (excess s line (initializer_trees (take (length parts - i) (drop i parts)))) → Runs view new result total
over_runs is_global vs s line t i parts total view new result less none so_far h =
    rw (← (over is_global vs s line t i parts (take (length parts - i) (drop i parts)) total less (all_left parts i) none so_far)) h
