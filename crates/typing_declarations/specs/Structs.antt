-- The definitions of structs (C11 6.7.2.1).
use Rattle.std.specs.Prelude.{ℕ, ◌+◌, nat_lt, Bool, Ok, List, [], ◌∷◌, ◌++◌, map, slice_get, slice_set, is_some}
use Rattle.syntax_tree.specs.Syntax.{DeclaratorTree, MemberDeclarationTree, StructDefinitionTree}
use Rattle.syntax_tree.specs.GrammarDeclarations.{declarator_at}
use Rattle.typed_tree.specs.Types.{CType}
use Rattle.typed_tree.specs.TypedTree.{CMember, CStruct}
use Rattle.typed_tree.specs.Sizes.{largest, size_of, align_of, rounded_up, end_of, greatest_align, has_members}
use Rattle.typing_operators.specs.declared.error.TypeError.TheVariants.{Twice, TooLarge}
use Rattle.typing_operators.specs.Rule.{Rule, ◌>>=◌, refuse}
use Rattle.typing_expressions.specs.Names.{found}
use Rattle.typing_expressions.specs.Scene.{CScene, CDraft}
use Rattle.typing_expressions.specs.Expressions.{based, tagged}
use Rattle.typing_declarations.specs.Declarators.{declarator_steps, declared_name, object_type}

abbrev pub is_member : List CDraft → List ℕ → Bool
is_member ms x = is_some (found x (map (λ m. (m.name, m.ty)) ms))

-- one more member, behind those that are declared already
abbrev pub member : List CDraft → CScene → CType → DeclaratorTree → Rule (List CDraft × CScene)
member ms s base d =
    let line = (declarator_at d).line in
    declarator_steps [] s d >>= λ ps.
    refuse (is_member ms (declared_name d)) (Twice line (declared_name d))
    (object_type ps.1.structs line base ps.0 >>= λ t.
    Ok (ms ++ record { name = declared_name d; ty = t } ∷ [], ps.1))

abbrev pub members : List CDraft → CScene → CType → List DeclaratorTree → Rule (List CDraft × CScene)
members ms s base [] = Ok (ms, s)
members ms s base (d ∷ ds) = member ms s base d >>= λ x. members x.0 x.1 base ds

abbrev pub member_lists : List CDraft → CScene → List MemberDeclarationTree → Rule (List CDraft × CScene)
member_lists ms s [] = Ok (ms, s)
member_lists ms s (d ∷ ds) = members ms (based s d.specifier).1 (based s d.specifier).0 d.declarators >>= λ x. member_lists x.0 x.1 ds

-- 6.7.2.1 p14, p15: each member at the next multiple of its alignment behind the one before
abbrev pub placed : List CStruct → ℕ → List CDraft → List CMember
placed structs from [] = []
placed structs from (m ∷ ms) =
    record { name = m.name; ty = m.ty; offset = rounded_up from (align_of structs m.ty) }
    ∷ placed structs (rounded_up from (align_of structs m.ty) + size_of structs m.ty) ms

-- 6.7.2.1 p17: the struct of these members
abbrev pub laid_out : List CStruct → List ℕ → List CDraft → CStruct
laid_out structs tag ms = record {
  tag = tag;
  members = placed structs 0 ms;
  size = rounded_up (end_of structs 0 (placed structs 0 ms)) (greatest_align structs (placed structs 0 ms));
  align = greatest_align structs (placed structs 0 ms);
}

abbrev pub defined : CScene → ℕ → ℕ → CStruct → Rule (ℕ × CScene)
defined s line k t = refuse (nat_lt largest t.size) (TooLarge line t.size) (Ok (k, record s { structs = slice_set s.structs k t }))

-- The number of the struct that is defined. Within its members the struct is not complete yet.
abbrev pub struct_defined : CScene → StructDefinitionTree → Rule (ℕ × CScene)
struct_defined s d =
    let k = tagged s d.tag in
    refuse (has_members (slice_get k.1.structs k.0)) (Twice d.at.line d.tag)
    (member_lists [] k.1 d.members >>= λ ms. defined ms.1 d.at.line k.0 (laid_out ms.1.structs d.tag ms.0))
