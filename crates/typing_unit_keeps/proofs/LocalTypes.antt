-- The declarations of a block.
use Rattle.std.proofs.Common.{◌≡◌, ℕ, false, List, [], ◌∷◌, ◌++◌, length, refl}
use Rattle.std.specs.Prelude.{Ok, Option, Some, None, IfSome, slice_get}
use Rattle.std.specs.List.{AllByRecursion}
use Rattle.c_words.specs.declared.place.At.{At}
use Rattle.syntax_tree.specs.Syntax.{InitializerTree, InitDeclaratorTree, DeclarationTree}
use Rattle.syntax_tree.specs.GrammarDeclarations.{declarator_at}
use Rattle.typed_tree.specs.Types.{CType}
use Rattle.typed_tree.specs.TypedTree.{CDeclaration}
use Rattle.typed_tree.specs.Sizes.{IsType}
use Rattle.typed_tree.specs.TypedBody.{Environment, IsDeclaration, AreDeclarations}
use Rattle.typing_operators.specs.Sound.{OperatorsAreSound}
use Rattle.typing_expressions.specs.Scene.{CScene}
use Rattle.typing_expressions.specs.Expressions.{based}
use Rattle.typing_declarations.specs.Declarators.{declarator_steps, declared_name, completed, object_type}
use Rattle.typing_expressions.specs.Initializers.{initialized}
use Rattle.typing_statements.specs.Statements.{with_local, initialized_local, local, locals, declaration}
use Rattle.syntax_in_range.specs.InRange.{InitializerInRange, InitDeclaratorInRange, DeclarationInRange}
use Rattle.typing_unit_keeps.proofs.Scenes.{at_structs, AreNumbered, IsDraft, draft_types, Formed}
use Rattle.typing_unit_keeps.proofs.Steps.{passes, bound}
use Rattle.typing_unit_keeps.proofs.Growth.{based_grows, based_type}
use Rattle.typing_unit_keeps.proofs.Later.{tags_extend, type_later}
use Rattle.typing_unit_keeps.proofs.LaterStructs.{fits_back}
use Rattle.typing_unit_keeps.proofs.LaterStatements.{declarations_later}
use Rattle.typing_unit_keeps.proofs.MadeTypes.{object_type_is}
use Rattle.typing_unit_keeps.proofs.DeclaratorParts.{declarator_parts, completed_parts}
use Rattle.typing_unit_keeps.proofs.InitialTypes.{initialized_grows, initialized_is}
use Rattle.typing_unit_keeps.proofs.Goes.{goes_same, goes_then, goes_within, extended, fits_goes, local_at, with_local_goes, local_type, Holds, holds_end, HoldsBehind, behind_same, behind_end, behind_then}

declared_behind : (names : Environment) (ds : List CDeclaration) (d : CDeclaration) → AreDeclarations names ds → IsDeclaration names d → AreDeclarations names (ds ++ d ∷ [])
declared_behind names [] d are is = (is, tt)
declared_behind names (x ∷ ds) d are is = (are.0, declared_behind names ds d are.1 is)

module _ (sound : OperatorsAreSound) (names : Environment) where
  -- a local that was declared, with its initializer
  initialized_local_is : (s : CScene) (at : At) (k : ℕ) (t : CType) (equals : At) (o : Option InitializerTree) → IfSome o InitializerInRange
      → slice_get (draft_types s.locals) k ≡ Some t → (Formed s → IsType s.structs t) → (r : CDeclaration × CScene) → initialized_local s at k t equals o ≡ Ok r → Holds names IsDeclaration s r
  initialized_local_is s at k t equals None range place type r h =
      holds_end names IsDeclaration s s (record { at = at; local = k; initializer = None }) r h
      (record { goes = goes_same s; is = λ formed fits. record { type = t; found = fits.locals k t place; initialized = tt } })
  initialized_local_is s at k t equals (Some i) range place type r h =
      let v = bound (initialized false s at.line t i) _ r h in
      let grows = initialized_grows false s at.line t i range v.0 v.1 in
      holds_end names IsDeclaration s v.0.1 _ r v.2
      (record {
        goes = goes_within s v.0.1 grows;
        is = λ formed fits. record {
          type = t;
          found = (fits_back names s v.0.1 grows fits).locals k t place;
          initialized = initialized_is sound names false s at.line t i range formed (type formed) v.0 v.1 fits;
        };
      })

  local_is : (s : CScene) (base : CType) (d : InitDeclaratorTree) → InitDeclaratorInRange d → IsType s.structs base → (r : CDeclaration × CScene) → local s base d ≡ Ok r
      → Holds names IsDeclaration s r
  local_is s base d range type r h =
      let at = declarator_at d.declarator in
      let x = declared_name d.declarator in
      let ps = bound (declarator_steps [] s d.declarator) _ r h in
      let t = bound (object_type ps.0.1.structs at.line base (completed base d.initializer ps.0.0)) _ r (passes _ _ _ r ps.2).1 in
      let has = declarator_parts [] s d.declarator range.1 ps.0 ps.1 in
      let later = tags_extend s.structs ps.0.1.structs has.grows.grows.structs in
      let draft : Formed s → IsDraft ps.0.1.structs (record { name = x; ty = t.0 }) =
      λ formed.
      let parts = completed_parts ps.0.1.structs base d.initializer ps.0.0 range.2 (has.parts formed.tags tt) in
      let is = object_type_is ps.0.1.structs at.line base (completed base d.initializer ps.0.0) t.0 (type_later s.structs ps.0.1.structs later base type) parts t.1 in
      record { type = is.type; complete = is.complete refl } in
      let w = with_local ps.0.1 x t.0 in
      let goes = with_local_goes s ps.0.1 x t.0 (goes_within s ps.0.1 has.grows) draft in
      let holds = initialized_local_is w at (length ps.0.1.locals) t.0 d.at d.initializer range.2 (local_at ps.0.1 x t.0) (local_type ps.0.1 x t.0) r t.2 in
      record { goes = goes_then s w r.1 goes holds.goes; is = λ formed fits. holds.is (goes.formed formed) fits }

  locals_are : (done : List CDeclaration) (s : CScene) (base : CType) (ds : List InitDeclaratorTree) → AllByRecursion InitDeclaratorInRange ds → IsType s.structs base
      → (r : List CDeclaration × CScene) → locals done s base ds ≡ Ok r → HoldsBehind names AreDeclarations s done r
  locals_are done s base [] range type r h = behind_end names AreDeclarations s s done done r h (behind_same names AreDeclarations s done)
  locals_are done s base (d ∷ ds) range type r h =
      let x = bound (local s base d) _ r h in
      let holds = local_is s base d range.0 type x.0 x.1 in
      let later = extended s x.0.1 holds.goes in
      behind_then names AreDeclarations s done (done ++ x.0.0 ∷ [], x.0.1) r
      (record {
        goes = holds.goes;
        is = λ formed before fits.
            declared_behind (at_structs names x.0.1.structs) done x.0.0
            (declarations_later s.structs x.0.1.structs later names done (before (fits_goes names s x.0.1 holds.goes fits))) (holds.is formed fits);
      })
      (locals_are (done ++ x.0.0 ∷ []) x.0.1 base ds range.1 (type_later s.structs x.0.1.structs later base type) r x.2)

  pub declaration_is : (s : CScene) (d : DeclarationTree) → DeclarationInRange d → AreNumbered s.structs s.tags → (r : List CDeclaration × CScene) → declaration s d ≡ Ok r
      → Holds names AreDeclarations s r
  declaration_is s d range numbered r h =
      let b = based s d.specifier in
      let goes = goes_within s b.1 (based_grows s d.specifier) in
      let are = locals_are [] b.1 b.0 d.declarators range.2 (based_type s d.specifier numbered) r h in
      record { goes = goes_then s b.1 r.1 goes are.goes; is = λ formed fits. are.is (goes.formed formed) (λ now. tt) fits }
