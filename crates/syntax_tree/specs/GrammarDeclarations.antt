-- The grammar's rules for declarations.
use Rattle.std.specs.Prelude.{◌≡◌, ℕ, suc, Bool, true, false, List, [], ◌∷◌, ◌++◌, Option, Some, None}
use Rattle.c_words.specs.declared.place.At.{At}
use Rattle.c_words.specs.declared.words.Keyword.TheVariants as w
use Rattle.c_words.specs.declared.words.Punctuator.TheVariants as m
use Rattle.syntax_tree.specs.declared.syntax.specifiers.Specifier.{Specifier}
use Rattle.c_words.specs.Tokens.{Token, Placed}
use Rattle.syntax_tree.specs.Syntax.{ExpressionTree, ArrayTree, ParameterDeclaratorTree, ParameterTree, ParametersTree, SuffixTree, DeclaratorTree}
use Rattle.syntax_tree.specs.Syntax.{InitializerTree, InitializerTrees, InitDeclaratorTree, DeclarationTree, MemberDeclarationTree, StructDefinitionTree}
use Rattle.syntax_tree.specs.GrammarLimits.{Limits, Level, Opens}
use Rattle.syntax_tree.specs.GrammarTokens.{mark, word, identifier, Optional, Many, Commas}
use Rattle.syntax_tree.specs.GrammarExpressions.{IsSpecifier, specifier_at, AreStars, IsConditional, IsAssignment}

-- where a declarator stands: at its name
abbrev pub declarator_at : DeclaratorTree → At
declarator_at (DeclaratorTree.Named at n x suffixes) = at
declarator_at (DeclaratorTree.Nested at n inner suffixes) = at

-- where a parameter's declarator stands: at its name; where it has none, at the specifier
abbrev pub parameter_declarator_at : ParameterDeclaratorTree → At
parameter_declarator_at (ParameterDeclaratorTree.Unnamed at n arrays) = at
parameter_declarator_at (ParameterDeclaratorTree.Named at n x arrays) = at
parameter_declarator_at (ParameterDeclaratorTree.Nested at n inner arrays) = at

abbrev pub is_void : Token → Bool
is_void (Token.Keyword w.Void) = true
is_void _ = false

-- the one token `void`
abbrev pub is_lone_void : List Placed → Bool
is_lone_void [] = false
is_lone_void (t ∷ []) = is_void t.token
is_lone_void (t ∷ u ∷ ts) = false

module _ (limits : Limits) where
  -- array = "[" [ conditional ] "]"  (6.7.6.2)
  pub data IsArray : Level → List Placed → ArrayTree → Type 0 where
    array : {d : Level} {at : At} {ts : List Placed} {size : Option ExpressionTree}
        → Opens limits at d → Optional (IsConditional limits (suc d)) ts size → (to : At)
        → IsArray d (mark m.OpenBracket at ∷ (ts ++ (mark m.CloseBracket to ∷ []))) (record { at = at; size = size })

  -- adecl = { "*" } [ name | "(" adecl ")" ] { array }, where brackets hold something  (6.7.6, 6.7.7); the place is that of the specifier
  pub data IsParameterDeclarator : Level → At → List Placed → ParameterDeclaratorTree → Type 0 where
    unnamed : {d e : Level} {at : At} {ss : List Placed} {n : ℕ} {ts : List Placed} {arrays : List ArrayTree}
        → AreStars limits d e ss n → Many (IsArray e) ts arrays
        → IsParameterDeclarator d at (ss ++ ts) (ParameterDeclaratorTree.Unnamed at n arrays)
    named : {d e : Level} {at own : At} {ss : List Placed} {n : ℕ} {x : List ℕ} {ts : List Placed} {arrays : List ArrayTree}
        → AreStars limits d e ss n → Many (IsArray e) ts arrays
        → IsParameterDeclarator d at (ss ++ (identifier x own ∷ ts)) (ParameterDeclaratorTree.Named own n x arrays)
    nested : {d e : Level} {at : At} {ss : List Placed} {n : ℕ} {first : Placed} {us : List Placed} {inner : ParameterDeclaratorTree} {ts : List Placed}
        {arrays : List ArrayTree}
        → AreStars limits d e ss n → (from : At) → Opens limits from e → IsParameterDeclarator (suc e) at (first ∷ us) inner → (to : At)
        → Many (IsArray e) ts arrays
        → IsParameterDeclarator d at (ss ++ (mark m.OpenParen from ∷ first ∷ (us ++ (mark m.CloseParen to ∷ ts))))
        (ParameterDeclaratorTree.Nested (parameter_declarator_at inner) n inner arrays)

  -- param = specifier adecl  (6.7.6.3)
  pub data IsParameter : Level → List Placed → ParameterTree → Type 0 where
    parameter : {d : Level} {ss : List Placed} {s : Specifier} {ts : List Placed} {t : ParameterDeclaratorTree}
        → IsSpecifier ss s → IsParameterDeclarator d (specifier_at s) ts t
        → IsParameter d (ss ++ ts) (record { at = specifier_at s; specifier = s; declarator = t })

  -- params = "void" | param { "," param }; a lone `void` is the first
  pub data AreParameters : Level → List Placed → ParametersTree → Type 0 where
    void : {d : Level} {at : At} → AreParameters d (word w.Void at ∷ []) (ParametersTree.Void at)
    listed : {d : Level} {ts : List Placed} {first : ParameterTree} {rest : List ParameterTree}
        → Commas (IsParameter d) ts (first ∷ rest) → is_lone_void ts ≡ false
        → AreParameters d ts (ParametersTree.Listed first.at (first ∷ rest))

  -- array | "(" [ params ] ")"
  pub data IsSuffix : Level → List Placed → SuffixTree → Type 0 where
    array : {d : Level} {ts : List Placed} {a : ArrayTree} → IsArray d ts a → IsSuffix d ts (SuffixTree.Array a)
    function : {d : Level} {at : At} {ts : List Placed} {parameters : Option ParametersTree}
        → Opens limits at d → Optional (AreParameters (suc d)) ts parameters → (to : At)
        → IsSuffix d (mark m.OpenParen at ∷ (ts ++ (mark m.CloseParen to ∷ []))) (SuffixTree.Function at parameters)

  -- declarator = { "*" } ( name | "(" declarator ")" ) { array | "(" [ params ] ")" }  (6.7.6)
  pub data IsDeclarator : Level → List Placed → DeclaratorTree → Type 0 where
    named : {d e : Level} {at : At} {ss : List Placed} {n : ℕ} {x : List ℕ} {ts : List Placed} {suffixes : List SuffixTree}
        → AreStars limits d e ss n → Many (IsSuffix e) ts suffixes
        → IsDeclarator d (ss ++ (identifier x at ∷ ts)) (DeclaratorTree.Named at n x suffixes)
    nested : {d e : Level} {ss : List Placed} {n : ℕ} {us : List Placed} {inner : DeclaratorTree} {ts : List Placed} {suffixes : List SuffixTree}
        → AreStars limits d e ss n → (from : At) → Opens limits from e → IsDeclarator (suc e) us inner → (to : At) → Many (IsSuffix e) ts suffixes
        → IsDeclarator d (ss ++ (mark m.OpenParen from ∷ (us ++ (mark m.CloseParen to ∷ ts))))
        (DeclaratorTree.Nested (declarator_at inner) n inner suffixes)

  -- init = assignment | "{" init { "," init } [ "," ] "}"  (6.7.9)
  mutual
    pub data IsInitializer : Level → List Placed → InitializerTree → Type 0 where
      expression : {d : Level} {ts : List Placed} {a : ExpressionTree} → IsAssignment limits d ts a → IsInitializer d ts (InitializerTree.Expression a)
      braced : {d : Level} {at : At} {ts : List Placed} {parts : InitializerTrees}
          → Opens limits at d → AreParts (suc d) ts parts → (to : At)
          → IsInitializer d (mark m.OpenBrace at ∷ (ts ++ (mark m.CloseBrace to ∷ []))) (InitializerTree.Braced at parts)
      braced_comma : {d : Level} {at : At} {ts : List Placed} {parts : InitializerTrees}
          → Opens limits at d → AreParts (suc d) ts parts → (comma to : At)
          → IsInitializer d (mark m.OpenBrace at ∷ (ts ++ (mark m.Comma comma ∷ mark m.CloseBrace to ∷ []))) (InitializerTree.Braced at parts)

    -- init { "," init }
    pub data AreParts : Level → List Placed → InitializerTrees → Type 0 where
      last : {d : Level} {ts : List Placed} {i : InitializerTree} → IsInitializer d ts i → AreParts d ts (InitializerTrees.more i InitializerTrees.none)
      next : {d : Level} {ts : List Placed} {i : InitializerTree} {us : List Placed} {rest : InitializerTrees}
          → IsInitializer d ts i → (comma : At) → AreParts d us rest
          → AreParts d (ts ++ (mark m.Comma comma ∷ us)) (InitializerTrees.more i rest)

  -- init_decl = declarator [ "=" init ]  (6.7)
  pub data IsInitDeclarator : Level → List Placed → InitDeclaratorTree → Type 0 where
    bare : {d : Level} {ts : List Placed} {t : DeclaratorTree} → IsDeclarator d ts t
        → IsInitDeclarator d ts (record { at = declarator_at t; declarator = t; initializer = None })
    initialized : {d : Level} {ts : List Placed} {t : DeclaratorTree} {at : At} {us : List Placed} {i : InitializerTree}
        → IsDeclarator d ts t → IsInitializer d us i
        → IsInitDeclarator d (ts ++ (mark m.Equal at ∷ us)) (record { at = at; declarator = t; initializer = Some i })

  -- declaration = specifier ( ";" | init_decls ";" ), init_decls = init_decl { "," init_decl }  (6.7)
  pub data IsDeclaration : Level → List Placed → DeclarationTree → Type 0 where
    nothing : {d : Level} {ss : List Placed} {s : Specifier} → IsSpecifier ss s → (to : At)
        → IsDeclaration d (ss ++ (mark m.Semicolon to ∷ [])) (record { at = specifier_at s; specifier = s; declarators = [] })
    listed : {d : Level} {ss : List Placed} {s : Specifier} {ts : List Placed} {declarators : List InitDeclaratorTree}
        → IsSpecifier ss s → Commas (IsInitDeclarator d) ts declarators → (to : At)
        → IsDeclaration d (ss ++ (ts ++ (mark m.Semicolon to ∷ []))) (record { at = specifier_at s; specifier = s; declarators = declarators })

  -- member = specifier declarator { "," declarator } ";"  (6.7.2.1)
  pub data IsMember : Level → List Placed → MemberDeclarationTree → Type 0 where
    member : {d : Level} {ss : List Placed} {s : Specifier} {ts : List Placed} {declarators : List DeclaratorTree}
        → IsSpecifier ss s → Commas (IsDeclarator d) ts declarators → (to : At)
        → IsMember d (ss ++ (ts ++ (mark m.Semicolon to ∷ []))) (record { at = specifier_at s; specifier = s; declarators = declarators })

  -- struct_def = "struct" name "{" member { member } "}"  (6.7.2.1); the first place is that of `struct`
  pub data IsStructDefinition : Level → At → List Placed → StructDefinitionTree → Type 0 where
    structure : {d : Level} {first at open_at : At} {tag : List ℕ} {ts : List Placed} {one : MemberDeclarationTree} {members : List MemberDeclarationTree}
        → Opens limits open_at d → Many (IsMember (suc d)) ts (one ∷ members) → (to : At)
        → IsStructDefinition d first (word w.Struct first ∷ identifier tag at ∷ mark m.OpenBrace open_at ∷ (ts ++ (mark m.CloseBrace to ∷ [])))
        (record { at = at; tag = tag; members = one ∷ members })
