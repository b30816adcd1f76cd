-- The definition of a struct: the structs keep their layouts and their ranks.
use Rattle.std.proofs.Common.{◌≡◌, ℕ, ◌<◌, ◌≤◌, false, nat_lt, List, [], ◌∷◌, length, refl, sym, ◌∙◌, ap, subst, arith}
use Rattle.std.specs.Prelude.{Ok, All, slice_get, slice_set}
use Rattle.std.specs.List.{AllByRecursion}
use Rattle.std.proofs.lemmas.List.Elements.{All-nil, All-push, All-weaker}
use Rattle.std.proofs.lemmas.Option.{slice_get-get_or}
use Rattle.syntax_tree.specs.declared.syntax.specifiers.Specifier.TheVariants as words
use Rattle.syntax_tree.specs.Syntax.{DeclaratorTree, MemberDeclarationTree, StructDefinitionTree}
use Rattle.syntax_tree.specs.GrammarDeclarations.{declarator_at}
use Rattle.typed_tree.specs.Types.{CType}
use Rattle.typed_tree.specs.TypedTree.{CStruct}
use Rattle.typed_tree.specs.Sizes.{largest, has_members, IsType}
use Rattle.typed_tree.specs.Typed.{IsStruct}
use Rattle.typing_operators.specs.declared.error.TypeError.TheVariants.{Twice, TooLarge}
use Rattle.typing_operators.specs.Rule.{Rule}
use Rattle.typing_expressions.specs.Scene.{CScene, CDraft}
use Rattle.typing_expressions.specs.Expressions.{based, tagged}
use Rattle.typing_declarations.specs.Declarators.{declarator_steps, declared_name, object_type}
use Rattle.typing_declarations.specs.Structs.{is_member, member, members, member_lists, laid_out, defined, struct_defined}
use Rattle.syntax_in_range.specs.InRange.{DeclaratorInRange, MemberInRange, StructInRange}
use Rattle.typing_unit_keeps.proofs.Steps.{passes, bound, same_ok, not_less, front_kept}
use Rattle.typing_unit_keeps.proofs.Scenes.{AreStructs, AreNumbered, Extends, HasMoreTags, GrowsWithin, IsDraft}
use Rattle.typing_unit_keeps.proofs.Growth.{within_same, within_then, tagged_grows, based_grows, based_type}
use Rattle.typing_unit_keeps.proofs.Later.{type_later, tags_extend}
use Rattle.typing_unit_keeps.proofs.LaterStructs.{draft_later, more_structs}
use Rattle.typing_unit_keeps.proofs.MadeTypes.{object_type_is}
use Rattle.typing_unit_keeps.proofs.DeclaratorParts.{declarator_parts}
use Rattle.typing_unit_keeps.proofs.Laid.{AreOrdered, tags_ordered, set_size, defined_extends, defined_structs, defined_ordered, laid_out_is_struct}

-- Members behind those that are declared already, each of a complete type.
record HasMembers (s : CScene) (r : List CDraft × CScene) : Type 0 where
  grows : GrowsWithin s r.1
  all : All (IsDraft r.1.structs) r.0

same_members : (s : CScene) (ms : List CDraft) (r : List CDraft × CScene) → All (IsDraft s.structs) ms → (let q : Rule (List CDraft × CScene) = Ok (ms, s) in q) ≡ Ok r → HasMembers s r
same_members s ms r are h = subst (HasMembers s) (same_ok (ms, s) r h) (record { grows = within_same s; all = are })

members_then : (s u : CScene) (r : List CDraft × CScene) → GrowsWithin s u → HasMembers u r → HasMembers s r
members_then s u r first second = record { grows = within_then s u r.1 first second.grows; all = second.all }

extends : (s u : CScene) → GrowsWithin s u → Extends s.structs u.structs
extends s u grows = tags_extend s.structs u.structs grows.grows.structs

drafts_later : (s u : CScene) (ms : List CDraft) → GrowsWithin s u → All (IsDraft s.structs) ms → All (IsDraft u.structs) ms
drafts_later s u ms grows are = All-weaker (IsDraft s.structs) (IsDraft u.structs) (draft_later s.structs u.structs (extends s u grows)) ms are

one_member : (ms : List CDraft) (s : CScene) (base : CType) (d : DeclaratorTree) → DeclaratorInRange d → AreNumbered s.structs s.tags → IsType s.structs base → All (IsDraft s.structs) ms
    → (r : List CDraft × CScene) → member ms s base d ≡ Ok r → HasMembers s r
one_member ms s base d range numbered base_is are r h =
    let line = (declarator_at d).line in
    let ps = bound (declarator_steps [] s d) _ r h in
    let has = declarator_parts [] s d range ps.0 ps.1 in
    let passed = passes (is_member ms (declared_name d)) (Twice line (declared_name d)) _ r ps.2 in
    let t = bound (object_type ps.0.1.structs line base ps.0.0) _ r passed.1 in
    let is = object_type_is ps.0.1.structs line base ps.0.0 t.0 (type_later s.structs ps.0.1.structs (extends s ps.0.1 has.grows) base base_is) (has.parts numbered tt) t.1 in
    subst (HasMembers s) (same_ok _ r t.2) (record {
      grows = has.grows;
      all = All-push (IsDraft ps.0.1.structs) ms (record { name = declared_name d; ty = t.0 }) (drafts_later s ps.0.1 ms has.grows are)
          (record { type = is.type; complete = is.complete refl });
    })

more_members : (ms : List CDraft) (s : CScene) (base : CType) (ds : List DeclaratorTree) → AllByRecursion DeclaratorInRange ds → AreNumbered s.structs s.tags → IsType s.structs base → All (IsDraft s.structs) ms
    → (r : List CDraft × CScene) → members ms s base ds ≡ Ok r → HasMembers s r
more_members ms s base [] range numbered base_is are r h = same_members s ms r are h
more_members ms s base (d ∷ ds) range numbered base_is are r h =
    let x = bound (member ms s base d) _ r h in
    let first = one_member ms s base d range.0 numbered base_is are x.0 x.1 in
    members_then s x.0.1 r first.grows
    (more_members x.0.0 x.0.1 base ds range.1 (first.grows.grows.tags numbered) (type_later s.structs x.0.1.structs (extends s x.0.1 first.grows) base base_is) first.all r x.2)

lists_members : (ms : List CDraft) (s : CScene) (ds : List MemberDeclarationTree) → AllByRecursion MemberInRange ds → AreNumbered s.structs s.tags → All (IsDraft s.structs) ms
    → (r : List CDraft × CScene) → member_lists ms s ds ≡ Ok r → HasMembers s r
lists_members ms s [] range numbered are r h = same_members s ms r are h
lists_members ms s (d ∷ ds) range numbered are r h =
    let b = based s d.specifier in
    let grows : GrowsWithin s b.1 = based_grows s d.specifier in
    let x = bound (members ms b.1 b.0 d.declarators) _ r h in
    let first = more_members ms b.1 b.0 d.declarators range.0.2 (grows.grows.tags numbered) (based_type s d.specifier numbered) (drafts_later s b.1 ms grows are) x.0 x.1 in
    members_then s b.1 r grows
    (members_then b.1 x.0.1 r first.grows (lists_members x.0.0 x.0.1 ds range.1 (first.grows.grows.tags (grows.grows.tags numbered)) first.all r x.2))

-- What a definition makes of a scene: it grows, and then the struct is defined.
pub record DefinesStruct (s : CScene) (r : ℕ × CScene) : Type 0 where
  pub before : CScene
  pub grows : GrowsWithin s before
  pub structs : List CStruct
  pub after : r.1 ≡ record before { structs = structs }
  pub extends : Extends before.structs structs
  pub are_structs : AreStructs structs
  pub ordered : AreOrdered structs
  pub number : r.0 < length structs

put_in : (s : CScene) (m : CScene) (k : ℕ) (line : ℕ) (t : CStruct) (r : ℕ × CScene) → GrowsWithin s m → AreStructs m.structs → AreOrdered m.structs → k < length m.structs → has_members (slice_get m.structs k) ≡ false
    → (t.size ≤ largest → IsStruct m.structs t) → defined m line k t ≡ Ok r → DefinesStruct s r
put_in s m k line t r grows all ordered within is_open is h =
    let passed = passes (nat_lt largest t.size) (TooLarge line t.size) _ r h in
    let is_struct = is (not_less largest t.size passed.0) in
    subst (DefinesStruct s) (same_ok _ r passed.1) (record {
      before = m;
      grows = grows;
      structs = slice_set m.structs k t;
      after = refl;
      extends = defined_extends m.structs k t within is_open;
      are_structs = defined_structs m.structs k t within is_open is_struct all;
      ordered = defined_ordered m.structs k t within is_open is_struct all ordered;
      number = let size = set_size m.structs k t in omega arith;
    })

-- a struct that was there before more tags came
same_struct : (old new : List CStruct) (k : ℕ) → HasMoreTags old new → k < length old → slice_get new k ≡ slice_get old k
same_struct old new k more within =
    let here = slice_get-get_or old k (record { tag = []; members = []; size = 0; align = 1 }) within in
    ap (λ xs. slice_get xs k) more.structs ∙ front_kept old more.tags k _ here ∙ sym here

pub struct_defines : (s : CScene) (d : StructDefinitionTree) → StructInRange d → AreStructs s.structs → AreNumbered s.structs s.tags → AreOrdered s.structs → (r : ℕ × CScene) → struct_defined s d ≡ Ok r → DefinesStruct s r
struct_defines s d range all numbered ordered r h =
    let k = tagged s d.tag in
    let tag_grows : GrowsWithin s k.1 = tagged_grows s d.tag in
    let within : k.0 < length k.1.structs = based_type s (words.Struct d.at d.tag) numbered in
    let passed = passes (has_members (slice_get k.1.structs k.0)) (Twice d.at.line d.tag) _ r h in
    let ms = bound (member_lists [] k.1 d.members) _ r passed.1 in
    let has = lists_members [] k.1 d.members range.1 (tag_grows.grows.tags numbered) (All-nil (IsDraft k.1.structs)) ms.0 ms.1 in
    let grows = within_then s k.1 ms.0.1 tag_grows has.grows in
    let longer = (extends k.1 ms.0.1 has.grows).longer in
    put_in s ms.0.1 k.0 d.at.line (laid_out ms.0.1.structs d.tag ms.0.0) r grows
    (more_structs s.structs ms.0.1.structs grows.grows.structs all) (tags_ordered s.structs ms.0.1.structs grows.grows.structs ordered)
    (omega arith) (ap has_members (same_struct k.1.structs ms.0.1.structs k.0 has.grows.grows.structs within) ∙ passed.0)
    (laid_out_is_struct ms.0.1.structs d.tag ms.0.0 has.all) ms.2
