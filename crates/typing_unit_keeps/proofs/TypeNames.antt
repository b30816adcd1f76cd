-- A type name names a type that may be formed.
use Rattle.std.proofs.Common.{◌≡◌, ℕ, zero, suc, ◌≤◌, Bool, true, false, ◌&&◌, List, [], ◌∷◌, ◌++◌, refl, subst, arith}
use Rattle.std.specs.Prelude.{Ok, Option, Some, None, replicate, nat_le, if◌then◌else◌}
use Rattle.syntax_tree.specs.Syntax.{ExpressionTree, ExpressionTrees, TypeNameTree, TypeDeclaratorTree}
use Rattle.typed_tree.specs.Types.{CType}
use Rattle.typed_tree.specs.TypedTree.{CExpr, CStruct, type_of}
use Rattle.typed_tree.specs.Sizes.{IsType}
use Rattle.typing_operators.specs.Rule.{Rule}
use Rattle.typing_operators.specs.Constants.{constant}
use Rattle.typing_expressions.specs.Scene.{CScene}
use Rattle.typing_expressions.specs.Parts.{CPart, as_count, is_count, count_of, formed}
use Rattle.typing_expressions.specs.Expressions.{aside, counted_by, counted, pointed, based, typed, type_named, steps_of, sized}
use Rattle.syntax_in_range.specs.InRange.{ExpressionInRange, ExpressionsInRange, TypeNameInRange, TypeDeclaratorInRange}
use Rattle.typing_unit_keeps.proofs.Scenes.{AreNumbered, GrowsWithin}
use Rattle.typing_unit_keeps.proofs.Steps.{bound, same_ok}
use Rattle.typing_unit_keeps.proofs.Growth.{based_type}
use Rattle.typing_unit_keeps.proofs.TypedGrows.{steps_grow, count_grows}
use Rattle.typing_unit_keeps.proofs.Later.{tags_extend, type_later}
use Rattle.typing_unit_keeps.proofs.LaterStructs.{parts_later}
use Rattle.typing_unit_keeps.proofs.MadeTypes.{IsPart, AreParts, parts_behind, formed_is}

least_one : (n : ℕ) (b : Bool) → nat_le 1 n && b ≡ true → 1 ≤ n
least_one zero b h = absurd cc
least_one (suc n) b h = omega arith

count_part : (structs : List CStruct) (t : CType) (o : Option ℕ) → IsPart structs (CPart.Array (as_count t o))
count_part structs t None = tt
count_part structs t (Some n) = by (is_count t n) refl
  where
    by : (b : Bool) → is_count t n ≡ b → IsPart structs (CPart.Array (if b then Some n else None))
    by true h = least_one n _ h
    by false h = tt

count_of_part : (structs at : List CStruct) (e : CExpr) → IsPart structs (CPart.Array (count_of at e))
unfolding count_of
count_of_part structs at e = count_part structs (type_of e) (constant at e)

-- the size that an expression gives an array is one
pub counted_part : (structs : List CStruct) (s : CScene) (operand : Rule (CExpr × CScene)) (r : Option ℕ × CScene) → counted_by s operand ≡ Ok r → IsPart structs (CPart.Array r.0)
counted_part structs s operand r h =
    let x = bound operand _ r h in
    subst (λ (q : Option ℕ × CScene). IsPart structs (CPart.Array q.0)) (same_ok _ r x.2) (count_of_part structs x.0.1.structs x.0.0)

pub pointers_are : (structs : List CStruct) (n : ℕ) → AreParts structs (replicate n CPart.Pointer)
pointers_are structs zero = tt
pointers_are structs (suc n) = (tt, pointers_are structs n)

pub pointed_are : (structs : List CStruct) (ps : List CPart) (n : ℕ) → AreParts structs ps → AreParts structs (pointed ps n)
pointed_are structs ps n are = parts_behind structs ps (replicate n CPart.Pointer) are (pointers_are structs n)

-- parts of one scene are parts of a later one
pub parts_on : (s u : CScene) (ps : List CPart) → GrowsWithin s u → AreParts s.structs ps → AreParts u.structs ps
parts_on s u ps g are = parts_later s.structs u.structs (tags_extend s.structs u.structs g.grows.structs) ps are

-- one more array
pub one_more : (s : CScene) (e : ExpressionTree) (ps : List CPart) (x : Option ℕ × CScene) → ExpressionInRange e → AreParts s.structs ps → counted s e ≡ Ok x → AreParts x.1.structs (ps ++ CPart.Array x.0 ∷ [])
one_more s e ps x range are h =
    parts_behind x.1.structs ps (CPart.Array x.0 ∷ []) (parts_on s x.1 ps (count_grows s e range x h) are) (counted_part x.1.structs s (typed (aside s) e) x h, tt)

sizes_are : (ps : List CPart) (s : CScene) (es : ExpressionTrees) → ExpressionsInRange es → AreParts s.structs ps → (r : List CPart × CScene) → sized ps s es ≡ Ok r → AreParts r.1.structs r.0
sizes_are ps s ExpressionTrees.none range are r h = subst (λ (q : List CPart × CScene). AreParts q.1.structs q.0) (same_ok (ps, s) r h) are
sizes_are ps s (ExpressionTrees.more e es) range are r h =
    let x = bound (counted_by s (typed (aside s) e)) _ r h in
    sizes_are (ps ++ CPart.Array x.0.0 ∷ []) x.0.1 es range.1 (one_more s e ps x.0 range.0 are x.1) r x.2

pointed_end : (ps : List CPart) (u : CScene) (n : ℕ) (r : List CPart × CScene) → AreParts u.structs ps → (let q : Rule (List CPart × CScene) = Ok (pointed ps n, u) in q) ≡ Ok r → AreParts r.1.structs r.0
pointed_end ps u n r are h = subst (λ (q : List CPart × CScene). AreParts q.1.structs q.0) (same_ok (pointed ps n, u) r h) (pointed_are u.structs ps n are)

steps_are : (ps : List CPart) (s : CScene) (d : TypeDeclaratorTree) → TypeDeclaratorInRange d → AreParts s.structs ps → (r : List CPart × CScene) → steps_of ps s d ≡ Ok r → AreParts r.1.structs r.0
steps_are ps s (TypeDeclaratorTree.Direct at n es) range are r h =
    let x = bound (sized ps s es) _ r h in
    pointed_end x.0.0 x.0.1 n r (sizes_are ps s es range.1 are x.0 x.1) x.2
steps_are ps s (TypeDeclaratorTree.Nested at n inner es) range are r h =
    let x = bound (steps_of ps s inner) _ r h in
    let y = bound (sized x.0.0 x.0.1 es) _ r x.2 in
    pointed_end y.0.0 y.0.1 n r (sizes_are x.0.0 x.0.1 es range.2 (steps_are ps s inner range.1 are x.0 x.1) y.0 y.1) y.2

pub type_name_is : (s : CScene) (t : TypeNameTree) → TypeNameInRange t → AreNumbered s.structs s.tags → (r : CType × CScene) → type_named s t ≡ Ok r → IsType r.1.structs r.0
type_name_is s (TypeNameTree.type_name at specifier declarator) range numbered r h =
    let b = based s specifier in
    let ps = bound (steps_of [] b.1 declarator) _ r h in
    let u = bound (formed ps.0.1.structs at.line false b.0 ps.0.0) _ r ps.2 in
    let later = tags_extend b.1.structs ps.0.1.structs (steps_grow [] b.1 declarator range.2 ps.0 ps.1).grows.structs in
    let base = type_later b.1.structs ps.0.1.structs later b.0 (based_type s specifier numbered) in
    let is = formed_is ps.0.1.structs at.line false b.0 ps.0.0 u.0 base (steps_are [] b.1 declarator range.2 tt ps.0 ps.1) u.1 in
    subst (λ (q : CType × CScene). IsType q.1.structs q.0) (same_ok (u.0, ps.0.1) r u.2) is.type
