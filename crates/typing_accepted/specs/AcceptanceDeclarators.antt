-- What declarators declare where the language accepts them (C11 6.7.6), members of structs (6.7.2.1), and initializers
-- (6.7.9).
use Rattle.std.specs.Prelude.{ℕ, suc, ◌≡◌, ◌≤◌, Bool, true, false, IsTrue, ◌||◌, Option, Some}
use Rattle.std.specs.Prelude.{None, List, [], ◌∷◌, ◌++◌, reverse, slice_get, slice_set, is_some}
use Rattle.c_words.specs.declared.place.At.{At}
use Rattle.syntax_tree.specs.Syntax.{ExpressionTree, ArrayTree, ParameterDeclaratorTree, ParameterTree, ParametersTree, SuffixTree}
use Rattle.syntax_tree.specs.Syntax.{DeclaratorTree, InitializerTree, InitializerTrees, MemberDeclarationTree, StructDefinitionTree}
use Rattle.typed_tree.specs.Types.{CType, is_array, is_struct}
use Rattle.typed_tree.specs.TypedTree.{CExpr, CInitial, CStruct}
use Rattle.typed_tree.specs.TypedViews.{initials}
use Rattle.typed_tree.specs.Sizes.{IsComplete, has_members, largest}
use Rattle.typed_tree.specs.TypedOperands.{IsGiven}
use Rattle.typed_tree.specs.TypedRules.{IsCopied, IsFilled, part_type}
use Rattle.typing_expressions.specs.Scene.{CScene, CDraft}
use Rattle.typing_expressions.specs.Parts.{CParam, CPart, count_of}
use Rattle.typing_expressions.specs.Expressions.{joined, based, tagged, aside, back, pointed}
use Rattle.typing_declarations.specs.Declarators.{opened, closed, parameter_name, adjusted, name_is_taken, with_parameter, declared_name}
use Rattle.typing_declarations.specs.Structs.{is_member, laid_out}
use Rattle.typing_expressions.specs.Initializers.{value_bytes}
use Rattle.typing_accepted.specs.AcceptanceOperands.{Becomes, Makes}
use Rattle.typing_accepted.specs.AcceptanceExpressions.{Accepts}

-- 6.7 p7: the type of an object, which is complete
pub record MakesObject (structs : List CStruct) (base : CType) (ps : List CPart) (t : CType) : Type 0 where
  pub made : Makes structs base (reverse ps) t
  pub complete : IsComplete structs t

-- 6.7.6.2: an array of a declarator, with or without a size
pub data HasArray (s : CScene) (a : ArrayTree) : CPart → (behind : CScene) → Type 0 where
  unsized : a.size ≡ None → HasArray s a CPart.Unsized s
  sized : {e : ExpressionTree} {x : CExpr} {u : CScene}
      → a.size ≡ Some e → Accepts (aside s) e x u → HasArray s a (CPart.Array (count_of u.structs x)) (back s u)

pub data HaveArrays : (before : CScene) → List ArrayTree → List CPart → (behind : CScene) → Type 0 where
  nothing : {s : CScene} → HaveArrays s [] [] s
  next : {s m u : CScene} {a : ArrayTree} {more : List ArrayTree} {p : CPart} {ps : List CPart}
      → HasArray s a p m → HaveArrays m more ps u → HaveArrays s (a ∷ more) (p ∷ ps) u

-- the steps of a parameter's declarator
pub data HasParameterSteps : (before : CScene) → ParameterDeclaratorTree → List CPart → (behind : CScene) → Type 0 where
  unnamed : {s u : CScene} {at : At} {n : ℕ} {arrays : List ArrayTree} {ps : List CPart}
      → HaveArrays s arrays ps u → HasParameterSteps s (ParameterDeclaratorTree.Unnamed at n arrays) (pointed ps n) u
  named : {s u : CScene} {at : At} {n : ℕ} {x : List ℕ} {arrays : List ArrayTree} {ps : List CPart}
      → HaveArrays s arrays ps u → HasParameterSteps s (ParameterDeclaratorTree.Named at n x arrays) (pointed ps n) u
  nested : {s m u : CScene} {at : At} {n : ℕ} {inner : ParameterDeclaratorTree} {arrays : List ArrayTree} {ps qs : List CPart}
      → HasParameterSteps s inner ps m → HaveArrays m arrays qs u
      → HasParameterSteps s (ParameterDeclaratorTree.Nested at n inner arrays) (pointed (ps ++ qs) n) u

-- 6.7.6.3 p7: The type of a parameter. One that is an array is a pointer to its elements, and needs no size.
pub data IsParameterType (structs : List CStruct) (base : CType) : List CPart → CType → Type 0 where
  plain : {t : CType} → MakesObject structs base [] t → IsParameterType structs base [] t
  pointer : {ps : List CPart} {t : CType} → MakesObject structs base (CPart.Pointer ∷ ps) t → IsParameterType structs base (CPart.Pointer ∷ ps) t
  array : {n : Option ℕ} {ps : List CPart} {t : CType}
      → MakesObject structs base (CPart.Array n ∷ ps) t → IsParameterType structs base (CPart.Array n ∷ ps) (adjusted t)
  no_size : {ps : List CPart} {t : CType} → MakesObject structs base ps t → IsParameterType structs base (CPart.Unsized ∷ ps) (CType.Pointer t)

-- One parameter, of this number. Its name is free in the list (6.7 p3), and known in those behind it (6.2.1 p4).
pub data IsParameter (number : ℕ) (s : CScene) (p : ParameterTree) : CParam → (behind : CScene) → Type 0 where
  parameter : {u : CScene} {ps : List CPart} {t : CType}
      → HasParameterSteps (based s p.specifier).1 p.declarator ps u → name_is_taken u (parameter_name p.declarator) ≡ false
      → IsParameterType u.structs (based s p.specifier).0 ps t
      → IsParameter number s p (record { name = parameter_name p.declarator; ty = t; line = p.at.line })
      (with_parameter u number (parameter_name p.declarator) t)

-- parameters, the first of which has this number
pub data AreParameters : (number : ℕ) → (before : CScene) → List ParameterTree → List CParam → (behind : CScene) → Type 0 where
  nothing : {n : ℕ} {s : CScene} → AreParameters n s [] [] s
  next : {n : ℕ} {s m u : CScene} {p : ParameterTree} {ps : List ParameterTree} {x : CParam} {xs : List CParam}
      → IsParameter n s p x m → AreParameters (suc n) m ps xs u → AreParameters n s (p ∷ ps) (x ∷ xs) u

-- 6.7.6.3 p10, p14: `( )` and `(void)` have no parameters. Parameters have a scope of their own.
pub data HasParameters : (before : CScene) → Option ParametersTree → List CParam → (behind : CScene) → Type 0 where
  empty : {s : CScene} → HasParameters s None [] s
  void : {s : CScene} {at : At} → HasParameters s (Some (ParametersTree.Void at)) [] s
  listed : {s u : CScene} {at : At} {ps : List ParameterTree} {xs : List CParam}
      → AreParameters 0 (opened s) ps xs u → HasParameters s (Some (ParametersTree.Listed at ps)) xs (closed u)

-- what stands behind a declared name
pub data HasSuffix : (before : CScene) → SuffixTree → CPart → (behind : CScene) → Type 0 where
  array : {s u : CScene} {a : ArrayTree} {p : CPart} → HasArray s a p u → HasSuffix s (SuffixTree.Array a) p u
  function : {s u : CScene} {at : At} {params : Option ParametersTree} {xs : List CParam}
      → HasParameters s params xs u → HasSuffix s (SuffixTree.Function at params) (CPart.Function xs) u

pub data HaveSuffixes : (before : CScene) → List SuffixTree → List CPart → (behind : CScene) → Type 0 where
  nothing : {s : CScene} → HaveSuffixes s [] [] s
  next : {s m u : CScene} {x : SuffixTree} {xs : List SuffixTree} {p : CPart} {ps : List CPart}
      → HasSuffix s x p m → HaveSuffixes m xs ps u → HaveSuffixes s (x ∷ xs) (p ∷ ps) u

-- the steps of a declarator, from its name outwards
pub data HasDeclarator : (before : CScene) → DeclaratorTree → List CPart → (behind : CScene) → Type 0 where
  named : {s u : CScene} {at : At} {n : ℕ} {x : List ℕ} {suffixes : List SuffixTree} {ps : List CPart}
      → HaveSuffixes s suffixes ps u → HasDeclarator s (DeclaratorTree.Named at n x suffixes) (pointed ps n) u
  nested : {s m u : CScene} {at : At} {n : ℕ} {inner : DeclaratorTree} {suffixes : List SuffixTree} {ps qs : List CPart}
      → HasDeclarator s inner ps m → HaveSuffixes m suffixes qs u
      → HasDeclarator s (DeclaratorTree.Nested at n inner suffixes) (pointed (ps ++ qs) n) u

-- The members that declarators declare, with those before them: each has a name of its own (6.7 p3) and a complete type
-- (6.7.2.1 p3).
pub data HaveMembers (base : CType) : (done : List CDraft) → (before : CScene) → List DeclaratorTree → (all : List CDraft) → (behind : CScene)
    → Type 0 where
  nothing : {ms : List CDraft} {s : CScene} → HaveMembers base ms s [] ms s
  next : {ms all : List CDraft} {s m u : CScene} {d : DeclaratorTree} {ds : List DeclaratorTree} {ps : List CPart} {t : CType}
      → HasDeclarator s d ps m → is_member ms (declared_name d) ≡ false → MakesObject m.structs base ps t
      → HaveMembers base (ms ++ record { name = declared_name d; ty = t } ∷ []) m ds all u
      → HaveMembers base ms s (d ∷ ds) all u

pub data HaveMemberLists : (done : List CDraft) → (before : CScene) → List MemberDeclarationTree → (all : List CDraft) → (behind : CScene)
    → Type 0 where
  nothing : {ms : List CDraft} {s : CScene} → HaveMemberLists ms s [] ms s
  next : {ms some all : List CDraft} {s m u : CScene} {d : MemberDeclarationTree} {ds : List MemberDeclarationTree}
      → HaveMembers (based s d.specifier).0 ms (based s d.specifier).1 d.declarators some m → HaveMemberLists some m ds all u
      → HaveMemberLists ms s (d ∷ ds) all u

-- 6.7.2.1, 6.7.2.3 p1: a struct is defined once, with this number; it has not too many bytes
pub data DefinesStruct (s : CScene) (d : StructDefinitionTree) : ℕ → (behind : CScene) → Type 0 where
  struct : {ms : List CDraft} {u : CScene}
      → has_members (slice_get (tagged s d.tag).1.structs (tagged s d.tag).0) ≡ false
      → HaveMemberLists [] (tagged s d.tag).1 d.members ms u → (laid_out u.structs d.tag ms).size ≤ largest
      → DefinesStruct s d (tagged s d.tag).0 (record u { structs = slice_set u.structs (tagged s d.tag).0 (laid_out u.structs d.tag ms) })

-- 6.7.9 p4: in the initializer of a global a value is constant
abbrev pub IsAllowed : (is_global : Bool) → List CStruct → CExpr → Type 0
IsAllowed is_global structs v = is_global ≡ true → IsTrue (is_some (value_bytes structs v))

module _ (is_global : Bool) where
  mutual
    -- An initializer of the type: a value is given to a scalar (6.7.9 p11), a string fills an array of char (p14), and
    -- braces have parts for elements or members, in their order (p16, p17) and no more than there are (p2).
    pub data Initializes : (before : CScene) → CType → InitializerTree → CInitial → (behind : CScene) → Type 0 where
      value : {s u : CScene} {t : CType} {e : ExpressionTree} {x v : CExpr}
          → Accepts s e x u → Becomes x v → IsGiven t v → IsAllowed is_global u.structs v
          → Initializes s t (InitializerTree.Expression e) (CInitial.Value v) u
      string : {s : CScene} {t : CType} {at : At} {pieces : List (List ℕ)}
          → IsFilled t (joined pieces)
          → Initializes s t (InitializerTree.Expression (ExpressionTree.Text at pieces)) (CInitial.Text at (joined pieces)) s
      braces : {s u : CScene} {t : CType} {at : At} {parts : InitializerTrees} {vs : List CInitial}
          → IsTrue (is_array t || is_struct t) → InitializesParts s t 0 parts vs u
          → Initializes s t (InitializerTree.Braced at parts) (CInitial.Braces at (initials vs)) u

    -- the parts from part i on
    pub data InitializesParts : (before : CScene) → CType → ℕ → InitializerTrees → List CInitial → (behind : CScene) → Type 0 where
      no_part : {s : CScene} {t : CType} {i : ℕ} → InitializesParts s t i InitializerTrees.none [] s
      part : {s m u : CScene} {t w : CType} {i : ℕ} {x : InitializerTree} {xs : InitializerTrees} {v : CInitial} {vs : List CInitial}
          → part_type s.structs t i ≡ Some w → Initializes s w x v m → InitializesParts m t (suc i) xs vs u
          → InitializesParts s t i (InitializerTrees.more x xs) (v ∷ vs) u

  -- 6.7.9 p13: a declared struct as a whole may also be copied from a place
  pub data IsInitializedBy : (before : CScene) → CType → InitializerTree → CInitial → (behind : CScene) → Type 0 where
    parts : {s u : CScene} {t : CType} {x : InitializerTree} {v : CInitial} → Initializes s t x v u → IsInitializedBy s t x v u
    copy : {s u : CScene} {t : CType} {e : ExpressionTree} {x : CExpr}
        → Accepts s e x u → IsCopied t x → IsAllowed is_global u.structs x
        → IsInitializedBy s t (InitializerTree.Expression e) (CInitial.Value x) u
