-- What typing gives for declarators is accepted.
use Rattle.std.proofs.Common.{◌≡◌, ℕ, suc, true, List, [], ◌∷◌, ◌++◌, length, refl, sym, ap, ◌∙◌, subst}
use Rattle.std.specs.Prelude.{Option, Some, None, Ok, Err, slice_get, slice_set, nat_lt}
use Rattle.std.proofs.lemmas.List.{append-nil}
use Rattle.syntax_tree.specs.Syntax.{ExpressionTree, ArrayTree, ParameterDeclaratorTree, ParameterTree, ParametersTree, SuffixTree, DeclaratorTree, MemberDeclarationTree, StructDefinitionTree}
use Rattle.syntax_tree.specs.GrammarDeclarations.{declarator_at, parameter_declarator_at}
use Rattle.typed_tree.specs.Types.{CType}
use Rattle.typed_tree.specs.TypedTree.{CStruct}
use Rattle.typed_tree.specs.Sizes.{largest, has_members}
use Rattle.typing_operators.specs.declared.error.TypeError.TheVariants.{BadType, TooLarge}
use Rattle.typing_operators.specs.Rule.{Rule}
use Rattle.typing_expressions.specs.Scene.{CScene, CDraft}
use Rattle.typing_expressions.specs.Parts.{CParam, CPart, count_of, is_incomplete, formed}
use Rattle.typing_expressions.specs.Expressions.{typed, based, tagged, aside, back, counted, pointed}
use Rattle.typing_declarations.specs.Declarators.{opened, closed, array_step, array_steps, parameter_steps, parameter_type, parameter_name, name_is_taken, with_parameter, adjusted, parameter, parameters, parameters_of, suffix_step, suffix_steps, declarator_steps, declared_name, object_type}
use Rattle.typing_declarations.specs.Structs.{is_member, member, members, member_lists, laid_out, struct_defined}
use Rattle.typing_accepted.specs.AcceptanceDeclarators.{HasArray, HaveArrays, HasParameterSteps, IsParameterType, IsParameter, AreParameters, HasParameters, HasSuffix, HaveSuffixes, HasDeclarator, HaveMembers, HaveMemberLists, DefinesStruct}
use Rattle.typing_accepted.proofs.Steps.{passes, bound, same_ok, not_less}
use Rattle.typing_accepted.proofs.MadeTypes.{formed_object, object_is}
use Rattle.typing_accepted.proofs.ToTyped.{past_one, past_pointers, past_both}
use Rattle.typing_accepted.proofs.FromTyped.{from_typed}
use Rattle.typing_accepted.proofs.ToDeclarators.{longer}

-- a step behind others, and steps behind others
record StepIs (Has : CPart → CScene → Type 0) (ps : List CPart) (r : List CPart × CScene) : Type 0 where
  this : CPart
  is : r.0 ≡ ps ++ this ∷ []
  has : Has this r.1

pub record StepsAre (Have : List CPart → CScene → Type 0) (ps : List CPart) (r : List CPart × CScene) : Type 0 where
  pub these : List CPart
  pub is : r.0 ≡ ps ++ these
  pub have : Have these r.1

none_behind : (Have : List CPart → CScene → Type 0) (ps : List CPart) (s : CScene) (r : List CPart × CScene) → (let o : Rule (List CPart × CScene) = Ok (ps, s) in o) ≡ Ok r → Have [] s → StepsAre Have ps r
none_behind Have ps s r is have = subst (StepsAre Have ps) (same_ok (ps, s) r is) (record { these = []; is = sym (append-nil ps); have = have })

with_pointers : (Have : List CPart → CScene → Type 0) (ps qs these : List CPart) (n : ℕ) (u : CScene) (r : List CPart × CScene) → (let o : Rule (List CPart × CScene) = Ok (pointed qs n, u) in o) ≡ Ok r
    → pointed qs n ≡ ps ++ these → Have these u → StepsAre Have ps r
with_pointers Have ps qs these n u r is all have = subst (StepsAre Have ps) (same_ok (pointed qs n, u) r is) (record { these = these; is = all; have = have })

from_array : (ps : List CPart) (s : CScene) (a : ArrayTree) (r : List CPart × CScene) → array_step ps s a ≡ Ok r → StepIs (HasArray s a) ps r
from_array ps s a r is = by a.size refl is
  where
    by : (o : Option ExpressionTree) → a.size ≡ o → array_step ps s (record a { size = o }) ≡ Ok r → StepIs (HasArray s a) ps r
    by None size is = subst (StepIs (HasArray s a) ps) (same_ok (ps ++ CPart.Unsized ∷ [], s) r is) (record { this = CPart.Unsized; is = refl; has = HasArray.unsized size })
    by (Some e) size is =
        let n = bound (counted s e) _ r is in
        let x = bound (typed (aside s) e) _ n.0 n.1 in
        let one : (count_of x.0.1.structs x.0.0, back s x.0.1) ≡ n.0 = same_ok (count_of x.0.1.structs x.0.0, back s x.0.1) n.0 x.2 in
        let accepts = from_typed (aside s) e x.0 x.1 in
        let all : (ps ++ CPart.Array (count_of x.0.1.structs x.0.0) ∷ [], back s x.0.1) ≡ r = ap (λ q. (ps ++ CPart.Array q.0 ∷ [], q.1)) one ∙ same_ok (ps ++ CPart.Array n.0.0 ∷ [], n.0.1) r n.2 in
        subst (StepIs (HasArray s a) ps) all (record { this = CPart.Array (count_of x.0.1.structs x.0.0); is = refl; has = HasArray.sized size accepts })

from_arrays : (ps : List CPart) (s : CScene) (arrays : List ArrayTree) (r : List CPart × CScene) → array_steps ps s arrays ≡ Ok r → StepsAre (HaveArrays s arrays) ps r
from_arrays ps s [] r is = none_behind (HaveArrays s []) ps s r is HaveArrays.nothing
from_arrays ps s (a ∷ more) r is =
    let x = bound (array_step ps s a) _ r is in
    let first = from_array ps s a x.0 x.1 in
    let rest = from_arrays x.0.0 x.0.1 more r x.2 in
    record { these = first.this ∷ rest.these; is = rest.is ∙ ap (λ l. l ++ rest.these) first.is ∙ past_one ps first.this rest.these; have = HaveArrays.next first.has rest.have }

from_parameter_steps : (ps : List CPart) (s : CScene) (d : ParameterDeclaratorTree) (r : List CPart × CScene) → parameter_steps ps s d ≡ Ok r → StepsAre (HasParameterSteps s d) ps r
from_parameter_steps ps s (ParameterDeclaratorTree.Unnamed at n arrays) r is =
    let x = bound (array_steps ps s arrays) _ r is in
    let some = from_arrays ps s arrays x.0 x.1 in
    with_pointers _ ps x.0.0 (pointed some.these n) n x.0.1 r x.2 (ap (λ l. pointed l n) some.is ∙ past_pointers ps some.these n) (HasParameterSteps.unnamed some.have)
from_parameter_steps ps s (ParameterDeclaratorTree.Named at n name arrays) r is =
    let x = bound (array_steps ps s arrays) _ r is in
    let some = from_arrays ps s arrays x.0 x.1 in
    with_pointers _ ps x.0.0 (pointed some.these n) n x.0.1 r x.2 (ap (λ l. pointed l n) some.is ∙ past_pointers ps some.these n) (HasParameterSteps.named some.have)
from_parameter_steps ps s (ParameterDeclaratorTree.Nested at n inner arrays) r is =
    let x = bound (parameter_steps ps s inner) _ r is in
    let y = bound (array_steps x.0.0 x.0.1 arrays) _ r x.2 in
    let first = from_parameter_steps ps s inner x.0 x.1 in
    let some = from_arrays x.0.0 x.0.1 arrays y.0 y.1 in
    with_pointers _ ps y.0.0 (pointed (first.these ++ some.these) n) n y.0.1 r y.2
    (ap (λ l. pointed l n) (some.is ∙ ap (λ l. l ++ some.these) first.is) ∙ past_both ps first.these some.these n) (HasParameterSteps.nested first.have some.have)

-- a parameter is no function
no_function : (structs : List CStruct) (line : ℕ) (base t : CType) (params : List CParam) (ps : List CPart) → parameter_type structs line base (CPart.Function params ∷ ps) ≡ Ok t → ⊥
unfolding formed
no_function structs line base t params ps is =
    let a = passes (is_incomplete structs true base (CPart.Function params ∷ ps)) (BadType line 1) _ t is in
    let no : (let r : Rule CType = Err (BadType line 2) in r) ≡ Ok t = a.1 in cc

from_parameter_type : (structs : List CStruct) (line : ℕ) (base : CType) (ps : List CPart) (t : CType) → parameter_type structs line base ps ≡ Ok t → IsParameterType structs base ps t
from_parameter_type structs line base [] t is = IsParameterType.plain (formed_object structs line base t [] is)
from_parameter_type structs line base (CPart.Pointer ∷ ps) t is = IsParameterType.pointer (formed_object structs line base t (CPart.Pointer ∷ ps) is)
from_parameter_type structs line base (CPart.Array n ∷ ps) t is =
    let v = bound (formed structs line true base (CPart.Array n ∷ ps)) _ t is in
    subst (IsParameterType structs base (CPart.Array n ∷ ps)) (same_ok (adjusted v.0) t v.2) (IsParameterType.array (formed_object structs line base v.0 (CPart.Array n ∷ ps) v.1))
from_parameter_type structs line base (CPart.Unsized ∷ ps) t is =
    let v = bound (formed structs line true base ps) _ t is in
    subst (IsParameterType structs base (CPart.Unsized ∷ ps)) (same_ok (CType.Pointer v.0) t v.2) (IsParameterType.no_size (formed_object structs line base v.0 ps v.1))
from_parameter_type structs line base (CPart.Function params ∷ ps) t is = absurd (no_function structs line base t params ps is)

-- parameters

record ParameterIs (number : ℕ) (s : CScene) (p : ParameterTree) (params : List CParam) (r : List CParam × CScene) : Type 0 where
  this : CParam
  is : r.0 ≡ params ++ this ∷ []
  has : IsParameter number s p this r.1

record ParametersAre (number : ℕ) (s : CScene) (ps : List ParameterTree) (params : List CParam) (r : List CParam × CScene) : Type 0 where
  these : List CParam
  is : r.0 ≡ params ++ these
  have : AreParameters number s ps these r.1

from_parameter : (params : List CParam) (s : CScene) (p : ParameterTree) (r : List CParam × CScene) → parameter params s p ≡ Ok r → ParameterIs (length params) s p params r
from_parameter params s p r is =
    let b = based s p.specifier in
    let name = parameter_name p.declarator in
    let ps = bound (parameter_steps [] (based s p.specifier).1 p.declarator) _ r is in
    let free = passes (name_is_taken ps.0.1 (parameter_name p.declarator)) _ _ r ps.2 in
    let t = bound (parameter_type ps.0.1.structs (parameter_declarator_at p.declarator).line (based s p.specifier).0 ps.0.0) _ r free.1 in
    let steps = from_parameter_steps [] (based s p.specifier).1 p.declarator ps.0 ps.1 in
    let type = from_parameter_type ps.0.1.structs _ (based s p.specifier).0 ps.0.0 t.0 t.1 in
    subst (ParameterIs (length params) s p params)
    (same_ok (params ++ record { name = parameter_name p.declarator; ty = t.0; line = p.at.line } ∷ [], with_parameter ps.0.1 (length params) (parameter_name p.declarator) t.0) r t.2)
    (record {
      this = record { name = parameter_name p.declarator; ty = t.0; line = p.at.line };
      is = refl;
      has = IsParameter.parameter steps.have free.0 (subst (λ l. IsParameterType ps.0.1.structs (based s p.specifier).0 l t.0) steps.is type);
    })

from_parameters : (params : List CParam) (s : CScene) (ps : List ParameterTree) (r : List CParam × CScene) → parameters params s ps ≡ Ok r → ParametersAre (length params) s ps params r
from_parameters params s [] r is = subst (ParametersAre (length params) s [] params) (same_ok (params, s) r is) (record { these = []; is = sym (append-nil params); have = AreParameters.nothing })
from_parameters params s (p ∷ ps) r is =
    let x = bound (parameter params s p) _ r is in
    let first = from_parameter params s p x.0 x.1 in
    let rest = from_parameters x.0.0 x.0.1 ps r x.2 in
    let count : length x.0.0 ≡ suc (length params) = ap length first.is ∙ longer params first.this in
    record {
      these = first.this ∷ rest.these;
      is = rest.is ∙ ap (λ l. l ++ rest.these) first.is ∙ past_one params first.this rest.these;
      have = AreParameters.next first.has (subst (λ n. AreParameters n x.0.1 ps rest.these r.1) count rest.have);
    }

from_parameter_list : (s : CScene) (o : Option ParametersTree) (r : List CParam × CScene) → parameters_of s o ≡ Ok r → HasParameters s o r.0 r.1
from_parameter_list s None r is = subst (λ q. HasParameters s None q.0 q.1) (same_ok ([], s) r is) HasParameters.empty
from_parameter_list s (Some (ParametersTree.Void at)) r is = subst (λ q. HasParameters s (Some (ParametersTree.Void at)) q.0 q.1) (same_ok ([], s) r is) HasParameters.void
from_parameter_list s (Some (ParametersTree.Listed at ps)) r is =
    let x = bound (parameters [] (opened s) ps) _ r is in
    let all = from_parameters [] (opened s) ps x.0 x.1 in
    subst (λ q. HasParameters s (Some (ParametersTree.Listed at ps)) q.0 q.1) (same_ok (x.0.0, closed x.0.1) r x.2)
    (HasParameters.listed (subst (λ l. AreParameters 0 (opened s) ps l x.0.1) (sym all.is) all.have))

from_suffix : (ps : List CPart) (s : CScene) (x : SuffixTree) (r : List CPart × CScene) → suffix_step ps s x ≡ Ok r → StepIs (HasSuffix s x) ps r
from_suffix ps s (SuffixTree.Array a) r is = let h = from_array ps s a r is in record { this = h.this; is = h.is; has = HasSuffix.array h.has }
from_suffix ps s (SuffixTree.Function at params) r is =
    let x = bound (parameters_of s params) _ r is in
    subst (StepIs (HasSuffix s (SuffixTree.Function at params)) ps) (same_ok (ps ++ CPart.Function x.0.0 ∷ [], x.0.1) r x.2)
    (record { this = CPart.Function x.0.0; is = refl; has = HasSuffix.function (from_parameter_list s params x.0 x.1) })

from_suffixes : (ps : List CPart) (s : CScene) (xs : List SuffixTree) (r : List CPart × CScene) → suffix_steps ps s xs ≡ Ok r → StepsAre (HaveSuffixes s xs) ps r
from_suffixes ps s [] r is = none_behind (HaveSuffixes s []) ps s r is HaveSuffixes.nothing
from_suffixes ps s (y ∷ more) r is =
    let x = bound (suffix_step ps s y) _ r is in
    let first = from_suffix ps s y x.0 x.1 in
    let rest = from_suffixes x.0.0 x.0.1 more r x.2 in
    record { these = first.this ∷ rest.these; is = rest.is ∙ ap (λ l. l ++ rest.these) first.is ∙ past_one ps first.this rest.these; have = HaveSuffixes.next first.has rest.have }

pub from_declarator : (ps : List CPart) (s : CScene) (d : DeclaratorTree) (r : List CPart × CScene) → declarator_steps ps s d ≡ Ok r → StepsAre (HasDeclarator s d) ps r
from_declarator ps s (DeclaratorTree.Named at n name suffixes) r is =
    let x = bound (suffix_steps ps s suffixes) _ r is in
    let some = from_suffixes ps s suffixes x.0 x.1 in
    with_pointers _ ps x.0.0 (pointed some.these n) n x.0.1 r x.2 (ap (λ l. pointed l n) some.is ∙ past_pointers ps some.these n) (HasDeclarator.named some.have)
from_declarator ps s (DeclaratorTree.Nested at n inner suffixes) r is =
    let x = bound (declarator_steps ps s inner) _ r is in
    let y = bound (suffix_steps x.0.0 x.0.1 suffixes) _ r x.2 in
    let first = from_declarator ps s inner x.0 x.1 in
    let some = from_suffixes x.0.0 x.0.1 suffixes y.0 y.1 in
    with_pointers _ ps y.0.0 (pointed (first.these ++ some.these) n) n y.0.1 r y.2
    (ap (λ l. pointed l n) (some.is ∙ ap (λ l. l ++ some.these) first.is) ∙ past_both ps first.these some.these n) (HasDeclarator.nested first.have some.have)

-- the steps that a whole declarator has
pub from_whole : (s : CScene) (d : DeclaratorTree) (r : List CPart × CScene) → declarator_steps [] s d ≡ Ok r → HasDeclarator s d r.0 r.1
from_whole s d r is = let all = from_declarator [] s d r is in subst (λ l. HasDeclarator s d l r.1) (sym all.is) all.have

-- structs

from_members : (base : CType) (ms : List CDraft) (s : CScene) (ds : List DeclaratorTree) (r : List CDraft × CScene) → members ms s base ds ≡ Ok r → HaveMembers base ms s ds r.0 r.1
from_members base ms s [] r is = subst (λ q. HaveMembers base ms s [] q.0 q.1) (same_ok (ms, s) r is) HaveMembers.nothing
from_members base ms s (d ∷ ds) r is =
    let x = bound (member ms s base d) _ r is in
    let ps = bound (declarator_steps [] s d) _ x.0 x.1 in
    let free = passes (is_member ms (declared_name d)) _ _ x.0 ps.2 in
    let t = bound (object_type ps.0.1.structs (declarator_at d).line base ps.0.0) _ x.0 free.1 in
    let one : (ms ++ record { name = declared_name d; ty = t.0 } ∷ [], ps.0.1) ≡ x.0 = same_ok (ms ++ record { name = declared_name d; ty = t.0 } ∷ [], ps.0.1) x.0 t.2 in
    let rest = from_members base (ms ++ record { name = declared_name d; ty = t.0 } ∷ []) ps.0.1 ds r (subst (λ q. members q.0 q.1 base ds ≡ Ok r) (sym one) x.2) in
    HaveMembers.next (from_whole s d ps.0 ps.1) free.0 (object_is ps.0.1.structs (declarator_at d).line base t.0 ps.0.0 t.1) rest

from_member_lists : (ms : List CDraft) (s : CScene) (ds : List MemberDeclarationTree) (r : List CDraft × CScene) → member_lists ms s ds ≡ Ok r → HaveMemberLists ms s ds r.0 r.1
from_member_lists ms s [] r is = subst (λ q. HaveMemberLists ms s [] q.0 q.1) (same_ok (ms, s) r is) HaveMemberLists.nothing
from_member_lists ms s (d ∷ ds) r is =
    let x = bound (members ms (based s d.specifier).1 (based s d.specifier).0 d.declarators) _ r is in
    HaveMemberLists.next (from_members (based s d.specifier).0 ms (based s d.specifier).1 d.declarators x.0 x.1) (from_member_lists x.0.0 x.0.1 ds r x.2)

pub from_struct : (s : CScene) (d : StructDefinitionTree) (r : ℕ × CScene) → struct_defined s d ≡ Ok r → DefinesStruct s d r.0 r.1
from_struct s d r is =
    let new = passes (has_members (slice_get (tagged s d.tag).1.structs (tagged s d.tag).0)) _ _ r is in
    let ms = bound (member_lists [] (tagged s d.tag).1 d.members) _ r new.1 in
    let small = passes (nat_lt largest (laid_out ms.0.1.structs d.tag ms.0.0).size) (TooLarge d.at.line (laid_out ms.0.1.structs d.tag ms.0.0).size) _ r ms.2 in
    subst (λ q. DefinesStruct s d q.0 q.1)
    (same_ok ((tagged s d.tag).0, record ms.0.1 { structs = slice_set ms.0.1.structs (tagged s d.tag).0 (laid_out ms.0.1.structs d.tag ms.0.0) }) r small.1)
    (DefinesStruct.struct new.0 (from_member_lists [] (tagged s d.tag).1 d.members ms.0 ms.1) (not_less _ _ small.0))
