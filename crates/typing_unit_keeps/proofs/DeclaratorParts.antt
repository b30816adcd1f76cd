-- The steps of declarators: the scene that they leave, and what their parts are.
use Rattle.std.proofs.Common.{◌≡◌, ℕ, false, List, [], ◌∷◌, ◌++◌, length, refl, sym, ◌∙◌, ap, subst, arith}
use Rattle.std.specs.Prelude.{Option, Some, None, Ok, IfSome}
use Rattle.std.specs.List.{AllByRecursion}
use Rattle.c_words.specs.declared.place.At.{At}
use Rattle.syntax_tree.specs.declared.syntax.specifiers.Specifier.{Specifier as SpecifierTree}
use Rattle.syntax_tree.specs.declared.syntax.specifiers.Specifier.TheVariants as words
use Rattle.syntax_tree.specs.Syntax.{ExpressionTree, ArrayTree, ParameterDeclaratorTree, ParameterTree, ParametersTree, SuffixTree, DeclaratorTree, InitializerTree, InitializerTrees}
use Rattle.syntax_tree.specs.GrammarDeclarations.{parameter_declarator_at}
use Rattle.typed_tree.specs.Types.{CType, is_array}
use Rattle.typed_tree.specs.TypedTree.{CStruct}
use Rattle.typing_operators.specs.declared.error.TypeError.TheVariants.{Twice}
use Rattle.typing_operators.specs.Rule.{Rule}
use Rattle.typing_expressions.specs.Scene.{CScene, CLocalName}
use Rattle.typing_expressions.specs.Parts.{CParam, CPart}
use Rattle.typing_expressions.specs.Expressions.{based, counted, pointed, typed, aside}
use Rattle.typing_declarations.specs.Declarators.{CScopes, outer, opened, closed, named, array_step, array_steps, parameter_steps, parameter_name, parameter_type, name_is_taken, name_or_none, with_parameter, parameter, parameters, parameters_of, suffix_step, suffix_steps, declarator_steps, given_count, unsized_or, completed}
use Rattle.syntax_in_range.specs.InRange.{ArrayInRange, ParameterDeclaratorInRange, ParameterInRange, ParametersInRange, SuffixInRange, DeclaratorInRange, InitializerInRange, ExpressionInRange}
use Rattle.typing_unit_keeps.proofs.Steps.{passes, bound, same_ok}
use Rattle.typing_unit_keeps.proofs.Scenes.{AreNumbered, Grows, GrowsWithin}
use Rattle.typing_unit_keeps.proofs.Growth.{within_same, within_then, grows_same, grows_then, based_grows, based_type}
use Rattle.typing_unit_keeps.proofs.TypedGrows.{count_grows}
use Rattle.typing_unit_keeps.proofs.Later.{tags_extend, type_later}
use Rattle.typing_unit_keeps.proofs.LaterStructs.{params_later}
use Rattle.typing_unit_keeps.proofs.TypeNames.{counted_part, pointed_are, parts_on}
use Rattle.typing_unit_keeps.proofs.MadeTypes.{AreParams, IsPart, AreParts, parts_behind, parameter_type_is}

-- The parts behind those that were read already.
pub record HasParts (s : CScene) (ps : List CPart) (r : List CPart × CScene) : Type 0 where
  pub grows : GrowsWithin s r.1
  pub parts : AreNumbered s.structs s.tags → AreParts s.structs ps → AreParts r.1.structs r.0

no_parts : (s : CScene) (ps : List CPart) → HasParts s ps (ps, s)
no_parts s ps = record { grows = within_same s; parts = λ numbered are. are }

parts_then : (s : CScene) (ps : List CPart) (r q : List CPart × CScene) → HasParts s ps r → HasParts r.1 r.0 q → HasParts s ps q
parts_then s ps r q first second = record {
  grows = within_then s r.1 q.1 first.grows second.grows;
  parts = λ numbered are. second.parts (first.grows.grows.tags numbered) (first.parts numbered are);
}

-- one more part
one_part : (s u : CScene) (ps : List CPart) (p : CPart) → GrowsWithin s u → (AreNumbered s.structs s.tags → IsPart u.structs p) → HasParts s ps (ps ++ p ∷ [], u)
one_part s u ps p grows is = record {
  grows = grows;
  parts = λ numbered are. parts_behind u.structs ps (p ∷ []) (parts_on s u ps grows are) (is numbered, tt);
}

-- pointers behind
with_pointers : (s : CScene) (ps : List CPart) (n : ℕ) (r q : List CPart × CScene) → HasParts s ps r → (let x : Rule (List CPart × CScene) = Ok (pointed r.0 n, r.1) in x) ≡ Ok q → HasParts s ps q
with_pointers s ps n r q has h = subst (HasParts s ps) (same_ok (pointed r.0 n, r.1) q h) (record { grows = has.grows; parts = λ numbered are. pointed_are r.1.structs r.0 n (has.parts numbered are) })

ended : (s : CScene) (ps : List CPart) (r q : List CPart × CScene) → HasParts s ps r → (let x : Rule (List CPart × CScene) = Ok r in x) ≡ Ok q → HasParts s ps q
ended s ps r q has h = subst (HasParts s ps) (same_ok r q h) has

-- arrays

size_parts : (ps : List CPart) (s : CScene) (at : At) (o : Option ExpressionTree) → IfSome o ExpressionInRange → (r : List CPart × CScene)
    → array_step ps s (record { at = at; size = o }) ≡ Ok r → HasParts s ps r
size_parts ps s at None range r h = ended s ps _ r (one_part s s ps CPart.Unsized (within_same s) (λ numbered. tt)) h
size_parts ps s at (Some e) range r h =
    let x = bound (counted s e) _ r h in
    ended s ps _ r (one_part s x.0.1 ps (CPart.Array x.0.0) (count_grows s e range x.0 x.1) (λ numbered. counted_part x.0.1.structs s (typed (aside s) e) x.0 x.1)) x.2

array_parts : (ps : List CPart) (s : CScene) (a : ArrayTree) → ArrayInRange a → (r : List CPart × CScene) → array_step ps s a ≡ Ok r → HasParts s ps r
array_parts ps s a range r h = size_parts ps s a.at a.size range.1 r h

arrays_parts : (ps : List CPart) (s : CScene) (arrays : List ArrayTree) → AllByRecursion ArrayInRange arrays → (r : List CPart × CScene) → array_steps ps s arrays ≡ Ok r → HasParts s ps r
arrays_parts ps s [] range r h = ended s ps _ r (no_parts s ps) h
arrays_parts ps s (a ∷ more) range r h =
    let x = bound (array_step ps s a) _ r h in
    parts_then s ps x.0 r (array_parts ps s a range.0 x.0 x.1) (arrays_parts x.0.0 x.0.1 more range.1 r x.2)

-- parameters

parameter_parts : (ps : List CPart) (s : CScene) (d : ParameterDeclaratorTree) → ParameterDeclaratorInRange d → (r : List CPart × CScene) → parameter_steps ps s d ≡ Ok r → HasParts s ps r
parameter_parts ps s (ParameterDeclaratorTree.Unnamed at n arrays) range r h =
    let x = bound (array_steps ps s arrays) _ r h in
    with_pointers s ps n x.0 r (arrays_parts ps s arrays range.1 x.0 x.1) x.2
parameter_parts ps s (ParameterDeclaratorTree.Named at n name arrays) range r h =
    let x = bound (array_steps ps s arrays) _ r h in
    with_pointers s ps n x.0 r (arrays_parts ps s arrays range.1 x.0 x.1) x.2
parameter_parts ps s (ParameterDeclaratorTree.Nested at n inner arrays) range r h =
    let x = bound (parameter_steps ps s inner) _ r h in
    let y = bound (array_steps x.0.0 x.0.1 arrays) _ r x.2 in
    with_pointers s ps n y.0 r (parts_then s ps x.0 y.0 (parameter_parts ps s inner range.1 x.0 x.1) (arrays_parts x.0.0 x.0.1 arrays range.2 y.0 y.1)) y.2

pub based_no_array : (s : CScene) (specifier : SpecifierTree) → is_array (based s specifier).0 ≡ false
based_no_array s (words.Void at) = refl
based_no_array s (words.Char at) = refl
based_no_array s (words.Int at) = refl
based_no_array s (words.Signed at) = refl
based_no_array s (words.SignedInt at) = refl
based_no_array s (words.Unsigned at) = refl
based_no_array s (words.UnsignedInt at) = refl
based_no_array s (words.UnsignedChar at) = refl
based_no_array s (words.Struct at x) = refl

outer_pushed : (ss : CScopes) (t : List (List ℕ × CLocalName)) → outer (ss ++ t ∷ []) ≡ ss
outer_pushed [] t = refl
outer_pushed (s ∷ []) t = refl
outer_pushed (s ∷ r ∷ ss) t = ap (λ rest. s ∷ rest) (outer_pushed (r ∷ ss) t)

-- What parameters make of a scene: the names are in the innermost scope.
record GrowsInside (s u : CScene) : Type 0 where
  grows : Grows s u
  locals : u.locals ≡ s.locals
  scopes : outer u.scopes ≡ outer s.scopes

inside_same : (s : CScene) → GrowsInside s s
inside_same s = record { grows = grows_same s; locals = refl; scopes = refl }

inside_then : (s u w : CScene) → GrowsInside s u → GrowsInside u w → GrowsInside s w
inside_then s u w a b = record { grows = grows_then s u w a.grows b.grows; locals = b.locals ∙ a.locals; scopes = b.scopes ∙ a.scopes }

from_within : (s u : CScene) → GrowsWithin s u → GrowsInside s u
from_within s u a = record { grows = a.grows; locals = a.locals; scopes = ap outer a.scopes }

named_inside : (s : CScene) (k : ℕ) (x : Option (List ℕ)) (t : CType) → GrowsInside s (with_parameter s k x t)
named_inside s k None t = inside_same s
named_inside s k (Some x) t = record { grows = same_parts (grows_same s); locals = refl; scopes = outer_pushed (outer s.scopes) _ }
  where
    same_parts : Grows s s → Grows s (named s x (record { number = k; ty = t }))
    same_parts g = record { structs = g.structs; tags = g.tags; names = g.names; functions = g.functions; texts = g.texts; called = g.called }

structs_of_parameter : (s : CScene) (k : ℕ) (x : Option (List ℕ)) (t : CType) → (with_parameter s k x t).structs ≡ s.structs
structs_of_parameter s k None t = refl
structs_of_parameter s k (Some x) t = refl

-- parameters behind those that are there
record HasParams (s : CScene) (params : List CParam) (r : List CParam × CScene) : Type 0 where
  grows : GrowsInside s r.1
  all : AreNumbered s.structs s.tags → AreParams s.structs params → AreParams r.1.structs r.0

params_behind : (structs : List CStruct) (ps qs : List CParam) → AreParams structs ps → AreParams structs qs → AreParams structs (ps ++ qs)
params_behind structs [] qs first second = second
params_behind structs (p ∷ ps) qs first second = (first.0, params_behind structs ps qs first.1 second)

one_parameter : (params : List CParam) (s : CScene) (p : ParameterTree) → ParameterInRange p → (r : List CParam × CScene) → parameter params s p ≡ Ok r → HasParams s params r
one_parameter params s p range r h =
    let b = based s p.specifier in
    let x = parameter_name p.declarator in
    let line = (parameter_declarator_at p.declarator).line in
    let b_grows : GrowsWithin s b.1 = based_grows s p.specifier in
    let ps = bound (parameter_steps [] b.1 p.declarator) _ r h in
    let has = parameter_parts [] b.1 p.declarator range.2 ps.0 ps.1 in
    let passed = passes (name_is_taken ps.0.1 x) (Twice line (name_or_none x)) _ r ps.2 in
    let t = bound (parameter_type ps.0.1.structs line b.0 ps.0.0) _ r passed.1 in
    let whole : GrowsWithin s ps.0.1 = within_then s b.1 ps.0.1 b_grows has.grows in
    subst (HasParams s params) (same_ok _ r t.2) (record {
      grows = inside_then s ps.0.1 _ (from_within s ps.0.1 whole) (named_inside ps.0.1 (length params) x t.0);
      all = λ numbered are. subst (λ structs. AreParams structs (params ++ record { name = x; ty = t.0; line = p.at.line } ∷ [])) (sym (structs_of_parameter ps.0.1 (length params) x t.0)) (
          let is = parameter_type_is ps.0.1.structs line b.0 ps.0.0 t.0
          (type_later b.1.structs ps.0.1.structs (tags_extend b.1.structs ps.0.1.structs has.grows.grows.structs) b.0 (based_type s p.specifier numbered))
          (based_no_array s p.specifier)
          (has.parts (b_grows.grows.tags numbered) tt)
          t.1 in
          params_behind ps.0.1.structs params (record { name = x; ty = t.0; line = p.at.line } ∷ [])
          (params_later s.structs ps.0.1.structs (tags_extend s.structs ps.0.1.structs whole.grows.structs) params are)
          (record { type = is.type; complete = is.complete; no_array = is.no_array }, tt));
    })

more_parameters : (params : List CParam) (s : CScene) (ps : List ParameterTree) → AllByRecursion ParameterInRange ps → (r : List CParam × CScene) → parameters params s ps ≡ Ok r → HasParams s params r
more_parameters params s [] range r h = subst (HasParams s params) (same_ok (params, s) r h) (record { grows = inside_same s; all = λ numbered are. are })
more_parameters params s (p ∷ ps) range r h =
    let x = bound (parameter params s p) _ r h in
    let first = one_parameter params s p range.0 x.0 x.1 in
    let rest = more_parameters x.0.0 x.0.1 ps range.1 r x.2 in
    record {
      grows = inside_then s x.0.1 r.1 first.grows rest.grows;
      all = λ numbered are. rest.all (first.grows.grows.tags numbered) (first.all numbered are);
    }

-- the scope of the parameters has ended
list_parameters : (s : CScene) (o : Option ParametersTree) → IfSome o ParametersInRange → (r : List CParam × CScene) → parameters_of s o ≡ Ok r
    → GrowsWithin s r.1 × (AreNumbered s.structs s.tags → AreParams r.1.structs r.0)
list_parameters s None range r h = subst (λ (q : List CParam × CScene). GrowsWithin s q.1 × (AreNumbered s.structs s.tags → AreParams q.1.structs q.0)) (same_ok ([], s) r h) (within_same s, λ numbered. tt)
list_parameters s (Some (ParametersTree.Void at)) range r h = subst (λ (q : List CParam × CScene). GrowsWithin s q.1 × (AreNumbered s.structs s.tags → AreParams q.1.structs q.0)) (same_ok ([], s) r h) (within_same s, λ numbered. tt)
list_parameters s (Some (ParametersTree.Listed at ps)) range r h =
    let x = bound (parameters [] (opened s) ps) _ r h in
    let has = more_parameters [] (opened s) ps range.1 x.0 x.1 in
    let inner = has.grows.grows in
    subst (λ (q : List CParam × CScene). GrowsWithin s q.1 × (AreNumbered s.structs s.tags → AreParams q.1.structs q.0)) (same_ok (x.0.0, closed x.0.1) r x.2) (
      record {
        grows = record { structs = inner.structs; tags = inner.tags; names = inner.names; functions = inner.functions; texts = inner.texts; called = inner.called };
        locals = has.grows.locals;
        scopes = has.grows.scopes ∙ outer_pushed s.scopes [];
      },
      λ numbered. has.all numbered tt,
    )

-- declarators

suffix_parts : (ps : List CPart) (s : CScene) (x : SuffixTree) → SuffixInRange x → (r : List CPart × CScene) → suffix_step ps s x ≡ Ok r → HasParts s ps r
suffix_parts ps s (SuffixTree.Array a) range r h = array_parts ps s a range r h
suffix_parts ps s (SuffixTree.Function at params) range r h =
    let x = bound (parameters_of s params) _ r h in
    let has = list_parameters s params range.1 x.0 x.1 in
    ended s ps _ r (one_part s x.0.1 ps (CPart.Function x.0.0) has.0 has.1) x.2

suffixes_parts : (ps : List CPart) (s : CScene) (xs : List SuffixTree) → AllByRecursion SuffixInRange xs → (r : List CPart × CScene) → suffix_steps ps s xs ≡ Ok r → HasParts s ps r
suffixes_parts ps s [] range r h = ended s ps _ r (no_parts s ps) h
suffixes_parts ps s (x ∷ xs) range r h =
    let y = bound (suffix_step ps s x) _ r h in
    parts_then s ps y.0 r (suffix_parts ps s x range.0 y.0 y.1) (suffixes_parts y.0.0 y.0.1 xs range.1 r y.2)

pub declarator_parts : (ps : List CPart) (s : CScene) (d : DeclaratorTree) → DeclaratorInRange d → (r : List CPart × CScene) → declarator_steps ps s d ≡ Ok r → HasParts s ps r
declarator_parts ps s (DeclaratorTree.Named at n name suffixes) range r h =
    let x = bound (suffix_steps ps s suffixes) _ r h in
    with_pointers s ps n x.0 r (suffixes_parts ps s suffixes range.1 x.0 x.1) x.2
declarator_parts ps s (DeclaratorTree.Nested at n inner suffixes) range r h =
    let x = bound (declarator_steps ps s inner) _ r h in
    let y = bound (suffix_steps x.0.0 x.0.1 suffixes) _ r x.2 in
    with_pointers s ps n y.0 r (parts_then s ps x.0 y.0 (declarator_parts ps s inner range.1 x.0 x.1) (suffixes_parts x.0.0 x.0.1 suffixes range.2 y.0 y.1)) y.2

-- the size that an initializer gives an array is at least 1

given_part : (structs : List CStruct) (base : CType) (ps : List CPart) (init : Option InitializerTree) → IfSome init InitializerInRange → IsPart structs (CPart.Array (given_count base ps init))
given_part structs base ps None range = tt
given_part structs base ps (Some (InitializerTree.Braced at InitializerTrees.none)) range = absurd range.1
given_part structs base ps (Some (InitializerTree.Braced at (InitializerTrees.more x xs))) range = omega arith
given_part structs base ps (Some (InitializerTree.Expression e)) range = by base ps e
  where
    by : (base : CType) (ps : List CPart) (e : ExpressionTree) → IsPart structs (CPart.Array (given_count base ps (Some (InitializerTree.Expression e))))
    by CType.Char [] (ExpressionTree.Text at pieces) = omega arith
    by CType.Char [] e = tt
    by CType.Char (p ∷ ps) e = tt
    by base ps e = tt

pub completed_parts : (structs : List CStruct) (base : CType) (init : Option InitializerTree) (ps : List CPart) → IfSome init InitializerInRange → AreParts structs ps → AreParts structs (completed base init ps)
completed_parts structs base init [] range are = tt
completed_parts structs base init (CPart.Unsized ∷ ps) range are = by (given_count base ps init) (given_part structs base ps init range)
  where
    by : (o : Option ℕ) → IsPart structs (CPart.Array o) → AreParts structs (unsized_or o ps)
    by None is = (tt, are.1)
    by (Some n) is = (is, are.1)
completed_parts structs base init (CPart.Pointer ∷ ps) range are = are
completed_parts structs base init (CPart.Array n ∷ ps) range are = are
completed_parts structs base init (CPart.Function params ∷ ps) range are = are
