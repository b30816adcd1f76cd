-- What a declarator declares, and the type that it gives its name (C11 6.7.6). Sizes and parameters come in the order of
-- the text; then, at the declared name, whether the name is taken, how many parameters there are, and the rules by number.
use Rattle.std.specs.Prelude.{ℕ, suc, ◌+◌, nat_lt, Bool, true, false, ◌||◌, Option, Some, None, Ok, List, [], ◌∷◌, ◌++◌, length, is_some}
use Rattle.syntax_tree.specs.Syntax.{ExpressionTree, ArrayTree, ParameterDeclaratorTree, ParameterTree}
use Rattle.syntax_tree.specs.Syntax.{ParametersTree, SuffixTree, DeclaratorTree, InitializerTree, InitializerTrees}
use Rattle.syntax_tree.specs.GrammarDeclarations.{parameter_declarator_at}
use Rattle.typed_tree.specs.Types.{CType}
use Rattle.typed_tree.specs.TypedTree.{CStruct}
use Rattle.typing_operators.specs.declared.error.TypeError.TheVariants.{Twice, TooManyParams}
use Rattle.typing_operators.specs.Rule.{Rule, ◌>>=◌, refuse}
use Rattle.typing_expressions.specs.Names.{found}
use Rattle.typing_expressions.specs.Scene.{CScene, CLocalName}
use Rattle.typing_expressions.specs.Parts.{CParam, CPart, formed}
use Rattle.typing_expressions.specs.Expressions.{based, counted, joined, pointed}

abbrev pub CScopes : Type 0
CScopes = List (List (List ℕ × CLocalName))

abbrev pub innermost : CScopes → List (List ℕ × CLocalName)
innermost [] = []
innermost (s ∷ []) = s
innermost (s ∷ t ∷ ts) = innermost (t ∷ ts)

abbrev pub outer : CScopes → CScopes
outer [] = []
outer (s ∷ []) = []
outer (s ∷ t ∷ ts) = s ∷ outer (t ∷ ts)

-- 6.2.1 p4: a scope begins and ends
abbrev pub opened : CScene → CScene
opened s = record s { scopes = s.scopes ++ [] ∷ [] }

abbrev pub closed : CScene → CScene
closed s = record s { scopes = outer s.scopes }

-- whether the innermost scope has the name
abbrev pub is_taken : CScene → List ℕ → Bool
is_taken s x = is_some (found x (innermost s.scopes))

-- the name in the innermost scope
abbrev pub named : CScene → List ℕ → CLocalName → CScene
named s x l = record s { scopes = outer s.scopes ++ (innermost s.scopes ++ (x, l) ∷ []) ∷ [] }

-- arrays, behind the steps that are read already
abbrev pub array_step : List CPart → CScene → ArrayTree → Rule (List CPart × CScene)
array_step ps s a = by a.size
  where
    by : Option ExpressionTree → Rule (List CPart × CScene)
    by None = Ok (ps ++ CPart.Unsized ∷ [], s)
    by (Some e) = counted s e >>= λ n. Ok (ps ++ CPart.Array n.0 ∷ [], n.1)

abbrev pub array_steps : List CPart → CScene → List ArrayTree → Rule (List CPart × CScene)
array_steps ps s [] = Ok (ps, s)
array_steps ps s (a ∷ more) = array_step ps s a >>= λ x. array_steps x.0 x.1 more

abbrev pub parameter_steps : List CPart → CScene → ParameterDeclaratorTree → Rule (List CPart × CScene)
parameter_steps ps s (ParameterDeclaratorTree.Unnamed at n arrays) = array_steps ps s arrays >>= λ x. Ok (pointed x.0 n, x.1)
parameter_steps ps s (ParameterDeclaratorTree.Named at n x arrays) = array_steps ps s arrays >>= λ x. Ok (pointed x.0 n, x.1)
parameter_steps ps s (ParameterDeclaratorTree.Nested at n inner arrays) = do
  x ← parameter_steps ps s inner
  y ← array_steps x.0 x.1 arrays
  Ok (pointed y.0 n, y.1)

abbrev pub parameter_name : ParameterDeclaratorTree → Option (List ℕ)
parameter_name (ParameterDeclaratorTree.Unnamed at n arrays) = None
parameter_name (ParameterDeclaratorTree.Named at n x arrays) = Some x
parameter_name (ParameterDeclaratorTree.Nested at n inner arrays) = parameter_name inner

-- 6.7.6.3 p7: a parameter that is an array is a pointer to an element
abbrev pub adjusted : CType → CType
adjusted (CType.Array t n) = CType.Pointer t
adjusted CType.Void = CType.Void
adjusted CType.Char = CType.Char
adjusted CType.Int = CType.Int
adjusted CType.Unsigned = CType.Unsigned
adjusted (CType.Struct k) = CType.Struct k
adjusted (CType.Pointer t) = CType.Pointer t

-- The outermost size of a parameter may be missing. One that is there makes an array, which is then a pointer.
abbrev pub parameter_type : List CStruct → ℕ → CType → List CPart → Rule CType
parameter_type structs line base (CPart.Unsized ∷ ps) = formed structs line true base ps >>= λ t. Ok (CType.Pointer t)
parameter_type structs line base [] = formed structs line true base []
parameter_type structs line base (CPart.Pointer ∷ ps) = formed structs line true base (CPart.Pointer ∷ ps)
parameter_type structs line base (CPart.Function ts ∷ ps) = formed structs line true base (CPart.Function ts ∷ ps)
parameter_type structs line base (CPart.Array n ∷ ps) = formed structs line true base (CPart.Array n ∷ ps) >>= λ t. Ok (adjusted t)

abbrev pub name_is_taken : CScene → Option (List ℕ) → Bool
name_is_taken s None = false
name_is_taken s (Some x) = is_taken s x

abbrev pub name_or_none : Option (List ℕ) → List ℕ
name_or_none None = []
name_or_none (Some x) = x

abbrev pub with_parameter : CScene → ℕ → Option (List ℕ) → CType → CScene
with_parameter s k None t = s
with_parameter s k (Some x) t = named s x (record { number = k; ty = t })

-- 6.7.6.3: One more parameter. Its name is known in those behind it (6.2.1 p4).
abbrev pub parameter : List CParam → CScene → ParameterTree → Rule (List CParam × CScene)
parameter params s p =
    let b = based s p.specifier in
    let x = parameter_name p.declarator in
    let line = (parameter_declarator_at p.declarator).line in
    parameter_steps [] b.1 p.declarator >>= λ ps.
    refuse (name_is_taken ps.1 x) (Twice line (name_or_none x))
    (parameter_type ps.1.structs line b.0 ps.0 >>= λ t.
    Ok (params ++ record { name = x; ty = t; line = p.at.line } ∷ [], with_parameter ps.1 (length params) x t))

abbrev pub parameters : List CParam → CScene → List ParameterTree → Rule (List CParam × CScene)
parameters params s [] = Ok (params, s)
parameters params s (p ∷ ps) = parameter params s p >>= λ x. parameters x.0 x.1 ps

-- `( )` and `(void)` have no parameters. Parameters have a scope of their own.
abbrev pub parameters_of : CScene → Option ParametersTree → Rule (List CParam × CScene)
parameters_of s None = Ok ([], s)
parameters_of s (Some (ParametersTree.Void at)) = Ok ([], s)
parameters_of s (Some (ParametersTree.Listed at ps)) = parameters [] (opened s) ps >>= λ x. Ok (x.0, closed x.1)

abbrev pub suffix_step : List CPart → CScene → SuffixTree → Rule (List CPart × CScene)
suffix_step ps s (SuffixTree.Array a) = array_step ps s a
suffix_step ps s (SuffixTree.Function at params) = parameters_of s params >>= λ x. Ok (ps ++ CPart.Function x.0 ∷ [], x.1)

abbrev pub suffix_steps : List CPart → CScene → List SuffixTree → Rule (List CPart × CScene)
suffix_steps ps s [] = Ok (ps, s)
suffix_steps ps s (x ∷ xs) = suffix_step ps s x >>= λ y. suffix_steps y.0 y.1 xs

-- the steps of a declarator
abbrev pub declarator_steps : List CPart → CScene → DeclaratorTree → Rule (List CPart × CScene)
declarator_steps ps s (DeclaratorTree.Named at n x suffixes) = suffix_steps ps s suffixes >>= λ y. Ok (pointed y.0 n, y.1)
declarator_steps ps s (DeclaratorTree.Nested at n inner suffixes) = do
  x ← declarator_steps ps s inner
  y ← suffix_steps x.0 x.1 suffixes
  Ok (pointed y.0 n, y.1)

abbrev pub declared_name : DeclaratorTree → List ℕ
declared_name (DeclaratorTree.Named at n x suffixes) = x
declared_name (DeclaratorTree.Nested at n inner suffixes) = declared_name inner

-- whether a function has more than 8 parameters
abbrev pub has_many_params : List CPart → Bool
has_many_params [] = false
has_many_params (CPart.Pointer ∷ ps) = has_many_params ps
has_many_params (CPart.Array n ∷ ps) = has_many_params ps
has_many_params (CPart.Unsized ∷ ps) = has_many_params ps
has_many_params (CPart.Function params ∷ ps) = nat_lt 8 (length params) || has_many_params ps

-- how many parts are between braces
abbrev pub part_count : InitializerTrees → ℕ
part_count InitializerTrees.none = 0
part_count (InitializerTrees.more x xs) = suc (part_count xs)

-- 6.7.9 p22: the size that an initializer gives an array of an unknown size: the number of its parts; or the bytes of a
-- string and its zero, if the elements are char
abbrev pub given_count : CType → List CPart → Option InitializerTree → Option ℕ
given_count base ps (Some (InitializerTree.Braced at parts)) = Some (part_count parts)
given_count CType.Char [] (Some (InitializerTree.Expression (ExpressionTree.Text at pieces))) = Some (length (joined pieces) + 1)
given_count base ps _ = None

abbrev pub unsized_or : Option ℕ → List CPart → List CPart
unsized_or None ps = CPart.Unsized ∷ ps
unsized_or (Some n) ps = CPart.Array (Some n) ∷ ps

abbrev pub completed : CType → Option InitializerTree → List CPart → List CPart
completed base init [] = []
completed base init (CPart.Unsized ∷ ps) = unsized_or (given_count base ps init) ps
completed base init (CPart.Pointer ∷ ps) = CPart.Pointer ∷ ps
completed base init (CPart.Array n ∷ ps) = CPart.Array n ∷ ps
completed base init (CPart.Function params ∷ ps) = CPart.Function params ∷ ps

-- The type of an object or a member, once its name is known to be free (6.7 p7, 6.7.6.2, 6.7.6.3).
abbrev pub object_type : List CStruct → ℕ → CType → List CPart → Rule CType
object_type structs line base ps =
    refuse (has_many_params ps) (TooManyParams line) (formed structs line true base ps)
