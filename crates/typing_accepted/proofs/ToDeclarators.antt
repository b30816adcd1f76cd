-- What declarators declare, where they are accepted, is what typing gives.
use Rattle.std.proofs.Common.{◌≡◌, ℕ, suc, List, [], ◌∷◌, ◌++◌, length, refl, sym, ap, ◌∙◌, subst}
use Rattle.std.specs.Prelude.{Option, Ok}
use Rattle.std.proofs.lemmas.List.{append-nil}
use Rattle.syntax_tree.specs.Syntax.{ArrayTree, ParameterDeclaratorTree, ParameterTree, ParametersTree, SuffixTree, DeclaratorTree, MemberDeclarationTree, StructDefinitionTree}
use Rattle.syntax_tree.specs.GrammarDeclarations.{declarator_at, parameter_declarator_at}
use Rattle.typed_tree.specs.Types.{CType}
use Rattle.typed_tree.specs.TypedTree.{CStruct}
use Rattle.typing_expressions.specs.Scene.{CScene, CDraft}
use Rattle.typing_expressions.specs.Parts.{CParam, CPart}
use Rattle.typing_declarations.specs.Declarators.{array_step, array_steps, parameter_steps, parameter_type, parameter, parameters, parameters_of, suffix_step, suffix_steps, declarator_steps}
use Rattle.typing_declarations.specs.Structs.{members, member_lists, struct_defined}
use Rattle.typing_accepted.specs.AcceptanceDeclarators.{HasArray, HaveArrays, HasParameterSteps, IsParameterType, IsParameter, AreParameters, HasParameters, HasSuffix, HaveSuffixes, HasDeclarator, HaveMembers, HaveMemberLists, DefinesStruct}
use Rattle.typing_accepted.proofs.Steps.{onward, passed, no_less}
use Rattle.typing_accepted.proofs.MadeTypes.{object_formed, object_to}
use Rattle.typing_accepted.proofs.ToTyped.{to_typed, past_one, past_pointers, past_both, pair_is}

to_array : (s : CScene) (a : ArrayTree) (p : CPart) (u : CScene) (ps : List CPart) → HasArray s a p u → array_step ps s a ≡ Ok (ps ++ p ∷ [], u)
to_array s a p u ps (HasArray.unsized is) = rw is refl
to_array s a p u ps (HasArray.sized is accepts) = rw is (onward _ _ _ _ (onward _ _ _ _ (to_typed _ _ _ _ accepts) refl) refl)

to_arrays : (s : CScene) (arrays : List ArrayTree) (qs : List CPart) (u : CScene) (ps : List CPart) → HaveArrays s arrays qs u → array_steps ps s arrays ≡ Ok (ps ++ qs, u)
to_arrays s arrays qs u ps HaveArrays.nothing = pair_is ps (ps ++ []) s (sym (append-nil ps))
to_arrays s arrays qs u ps (HaveArrays.next a more) = onward _ _ _ _ (to_array _ _ _ _ ps a) (to_arrays _ _ _ _ (ps ++ _ ∷ []) more ∙ pair_is _ _ u (past_one ps _ _))

to_parameter_steps : (s : CScene) (d : ParameterDeclaratorTree) (qs : List CPart) (u : CScene) (ps : List CPart) → HasParameterSteps s d qs u → parameter_steps ps s d ≡ Ok (ps ++ qs, u)
to_parameter_steps s d qs u ps (HasParameterSteps.unnamed arrays) = onward _ _ _ _ (to_arrays _ _ _ _ ps arrays) (pair_is _ _ u (past_pointers ps _ _))
to_parameter_steps s d qs u ps (HasParameterSteps.named arrays) = onward _ _ _ _ (to_arrays _ _ _ _ ps arrays) (pair_is _ _ u (past_pointers ps _ _))
to_parameter_steps s d qs u ps (HasParameterSteps.nested inner arrays) =
    onward _ _ _ _ (to_parameter_steps _ _ _ _ ps inner) (onward _ _ _ _ (to_arrays _ _ _ _ (ps ++ _) arrays) (pair_is _ _ u (past_both ps _ _ _)))

to_parameter_type : (structs : List CStruct) (line : ℕ) (base : CType) (ps : List CPart) (t : CType) → IsParameterType structs base ps t → parameter_type structs line base ps ≡ Ok t
to_parameter_type structs line base ps t (IsParameterType.plain is) = object_formed structs line base t [] is
to_parameter_type structs line base ps t (IsParameterType.pointer is) = object_formed structs line base t _ is
to_parameter_type structs line base ps t (IsParameterType.array is) = onward _ _ _ _ (object_formed structs line base _ _ is) refl
to_parameter_type structs line base ps t (IsParameterType.no_size is) = onward _ _ _ _ (object_formed structs line base _ _ is) refl

to_parameter : (params : List CParam) (s : CScene) (p : ParameterTree) (x : CParam) (u : CScene) → IsParameter (length params) s p x u → parameter params s p ≡ Ok (params ++ x ∷ [], u)
to_parameter params s p x u (IsParameter.parameter steps free type) =
    onward _ _ _ _ (to_parameter_steps _ _ _ _ [] steps) (passed _ _ _ _ free (onward _ _ _ _ (to_parameter_type _ (parameter_declarator_at p.declarator).line _ _ _ type) refl))

pub longer : (params : List CParam) (x : CParam) → length (params ++ x ∷ []) ≡ suc (length params)
longer [] x = refl
longer (p ∷ params) x = ap suc (longer params x)

numbered : (n k : ℕ) (s : CScene) (p : ParameterTree) (x : CParam) (u : CScene) → n ≡ k → IsParameter n s p x u → IsParameter k s p x u
numbered n k s p x u same is = subst (λ j. IsParameter j s p x u) same is

to_parameters : (n : ℕ) (s : CScene) (ps : List ParameterTree) (xs : List CParam) (u : CScene) (params : List CParam) → n ≡ length params → AreParameters n s ps xs u → parameters params s ps ≡ Ok (params ++ xs, u)
to_parameters n s ps xs u params count AreParameters.nothing = pair_is params (params ++ []) s (sym (append-nil params))
to_parameters n s ps xs u params count (AreParameters.next one more) =
    onward _ _ _ _ (to_parameter params _ _ _ _ (numbered _ _ _ _ _ _ count one))
    (to_parameters _ _ _ _ _ (params ++ _ ∷ []) (ap suc count ∙ sym (longer params _)) more ∙ pair_is _ _ u (past_one params _ _))

to_parameter_list : (s : CScene) (o : Option ParametersTree) (xs : List CParam) (u : CScene) → HasParameters s o xs u → parameters_of s o ≡ Ok (xs, u)
to_parameter_list s o xs u HasParameters.empty = refl
to_parameter_list s o xs u HasParameters.void = refl
to_parameter_list s o xs u (HasParameters.listed are) = onward _ _ _ _ (to_parameters _ _ _ _ _ [] refl are) refl

to_suffix : (s : CScene) (x : SuffixTree) (p : CPart) (u : CScene) (ps : List CPart) → HasSuffix s x p u → suffix_step ps s x ≡ Ok (ps ++ p ∷ [], u)
to_suffix s x p u ps (HasSuffix.array a) = to_array _ _ _ _ ps a
to_suffix s x p u ps (HasSuffix.function params) = onward _ _ _ _ (to_parameter_list _ _ _ _ params) refl

to_suffixes : (s : CScene) (xs : List SuffixTree) (qs : List CPart) (u : CScene) (ps : List CPart) → HaveSuffixes s xs qs u → suffix_steps ps s xs ≡ Ok (ps ++ qs, u)
to_suffixes s xs qs u ps HaveSuffixes.nothing = pair_is ps (ps ++ []) s (sym (append-nil ps))
to_suffixes s xs qs u ps (HaveSuffixes.next x more) = onward _ _ _ _ (to_suffix _ _ _ _ ps x) (to_suffixes _ _ _ _ (ps ++ _ ∷ []) more ∙ pair_is _ _ u (past_one ps _ _))

pub to_declarator : (s : CScene) (d : DeclaratorTree) (qs : List CPart) (u : CScene) (ps : List CPart) → HasDeclarator s d qs u → declarator_steps ps s d ≡ Ok (ps ++ qs, u)
to_declarator s d qs u ps (HasDeclarator.named suffixes) = onward _ _ _ _ (to_suffixes _ _ _ _ ps suffixes) (pair_is _ _ u (past_pointers ps _ _))
to_declarator s d qs u ps (HasDeclarator.nested inner suffixes) =
    onward _ _ _ _ (to_declarator _ _ _ _ ps inner) (onward _ _ _ _ (to_suffixes _ _ _ _ (ps ++ _) suffixes) (pair_is _ _ u (past_both ps _ _ _)))

-- structs

to_members : (base : CType) (ms : List CDraft) (s : CScene) (ds : List DeclaratorTree) (all : List CDraft) (u : CScene) → HaveMembers base ms s ds all u → members ms s base ds ≡ Ok (all, u)
to_members base ms s ds all u HaveMembers.nothing = refl
to_members base ms s (d ∷ ds) all u (HaveMembers.next steps free type more) =
    onward _ _ _ _ (onward _ _ _ _ (to_declarator _ _ _ _ [] steps) (passed _ _ _ _ free (onward _ _ _ _ (object_to _ (declarator_at d).line base _ _ type) refl)))
    (to_members base _ _ _ _ _ more)

to_member_lists : (ms : List CDraft) (s : CScene) (ds : List MemberDeclarationTree) (all : List CDraft) (u : CScene) → HaveMemberLists ms s ds all u → member_lists ms s ds ≡ Ok (all, u)
to_member_lists ms s ds all u HaveMemberLists.nothing = refl
to_member_lists ms s ds all u (HaveMemberLists.next some more) = onward _ _ _ _ (to_members _ _ _ _ _ _ some) (to_member_lists _ _ _ _ _ more)

pub to_struct : (s : CScene) (d : StructDefinitionTree) (k : ℕ) (u : CScene) → DefinesStruct s d k u → struct_defined s d ≡ Ok (k, u)
to_struct s d k u (DefinesStruct.struct new members small) =
    passed _ _ _ _ new (onward _ _ _ _ (to_member_lists _ _ _ _ _ members) (passed _ _ _ _ (no_less _ _ small) refl))
