-- The grammar: which tokens derive which tree of a file.
use Rattle.std.specs.Prelude.{List, [], ◌∷◌, ◌++◌}
use Rattle.c_words.specs.declared.place.At.{At}
use Rattle.c_words.specs.declared.words.Punctuator.TheVariants as m
use Rattle.syntax_tree.specs.declared.syntax.specifiers.Specifier.{Specifier}
use Rattle.c_words.specs.Tokens.{Placed}
use Rattle.syntax_tree.specs.Syntax.{DeclaratorTree, InitDeclaratorTree, StructDefinitionTree, BlockTree, HeadTree, ExternalTree, UnitTree}
use Rattle.syntax_tree.specs.GrammarLimits.{Limits, Level, outermost}
use Rattle.syntax_tree.specs.GrammarTokens.{mark, first_at, Many, Commas}
use Rattle.syntax_tree.specs.GrammarExpressions.{IsSpecifier, specifier_at}
use Rattle.syntax_tree.specs.GrammarDeclarations.{IsDeclarator, IsInitDeclarator, IsStructDefinition}
use Rattle.syntax_tree.specs.GrammarStatements.{IsBlock}

-- where an empty file stands
abbrev pub start_of_file : At
start_of_file = record { token = 0; line = 1 }

module _ (limits : Limits) where
  -- specifier | struct_def; the place is that of the first word
  pub data IsHead : Level → At → List Placed → HeadTree → Type 0 where
    specifier : {d : Level} {ts : List Placed} {s : Specifier} → IsSpecifier ts s → IsHead d (specifier_at s) ts (HeadTree.Specifier s)
    structure : {d : Level} {at : At} {ts : List Placed} {x : StructDefinitionTree} → IsStructDefinition limits d at ts x
        → IsHead d at ts (HeadTree.Struct x)

  -- external = ( specifier | struct_def ) ( ";" | declarator block | init_decls ";" )  (6.9)
  pub data IsExternal : Level → List Placed → ExternalTree → Type 0 where
    nothing : {d : Level} {at : At} {hs : List Placed} {h : HeadTree} → IsHead d at hs h → (to : At)
        → IsExternal d (hs ++ (mark m.Semicolon to ∷ [])) (ExternalTree.Declaration at h [])
    function : {d : Level} {at : At} {hs : List Placed} {h : HeadTree} {ts : List Placed} {t : DeclaratorTree} {us : List Placed} {body : BlockTree}
        → IsHead d at hs h → IsDeclarator limits d ts t → IsBlock limits d us body
        → IsExternal d (hs ++ (ts ++ us)) (ExternalTree.Function at h t body)
    listed : {d : Level} {at : At} {hs : List Placed} {h : HeadTree} {ts : List Placed} {declarators : List InitDeclaratorTree}
        → IsHead d at hs h → Commas (IsInitDeclarator limits d) ts declarators → (to : At)
        → IsExternal d (hs ++ (ts ++ (mark m.Semicolon to ∷ []))) (ExternalTree.Declaration at h declarators)

  -- unit = { external }  (6.9)
  pub data Derives : List Placed → UnitTree → Type 0 where
    unit : {ts : List Placed} {externals : List ExternalTree} → Many (IsExternal outermost) ts externals
        → Derives ts (record { at = first_at ts start_of_file; externals = externals })
