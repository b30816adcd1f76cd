-- Parts of the definitions of structs, as the functions that do them say it.
use Rattle.std.specs.Prelude.{ℕ, ◌+◌, nat_lt, max, Bool, Ok, List, [], ◌∷◌, slice_get}
use Rattle.syntax_tree.specs.Syntax.{MemberDeclarationTree}
use Rattle.typed_tree.specs.TypedTree.{CStruct}
use Rattle.typed_tree.specs.Sizes.{largest, size_of, align_of, rounded_up, has_members}
use Rattle.typing_operators.specs.declared.error.TypeError.TheVariants.{TooLarge}
use Rattle.typing_operators.specs.Rule.{Rule, refuse}
use Rattle.typing_expressions.specs.Scene.{CScene, CDraft}
use Rattle.typing_expressions.specs.Expressions.{based}
use Rattle.typing_declarations.specs.Structs.{members, laid_out}

-- the members of one declaration
abbrev pub member_list : List CDraft → CScene → MemberDeclarationTree → Rule (List CDraft × CScene)
member_list ms s d = members ms (based s d.specifier).1 (based s d.specifier).0 d.declarators

-- where members end that begin there
abbrev pub end_of_drafts : List CStruct → ℕ → List CDraft → ℕ
end_of_drafts structs from [] = from
end_of_drafts structs from (m ∷ ms) = end_of_drafts structs (rounded_up from (align_of structs m.ty) + size_of structs m.ty) ms

-- the greatest alignment of members, and of those before
abbrev pub greatest_of_drafts : List CStruct → ℕ → List CDraft → ℕ
greatest_of_drafts structs greatest [] = greatest
greatest_of_drafts structs greatest (m ∷ ms) = greatest_of_drafts structs (max greatest (align_of structs m.ty)) ms

-- the struct of these members, if it has not too many bytes
abbrev pub sized : List CStruct → ℕ → List ℕ → List CDraft → Rule CStruct
sized structs line tag ms =
    refuse (nat_lt largest (laid_out structs tag ms).size) (TooLarge line (laid_out structs tag ms).size) (Ok (laid_out structs tag ms))

abbrev pub is_defined : List CStruct → ℕ → Bool
is_defined structs k = has_members (slice_get structs k)
