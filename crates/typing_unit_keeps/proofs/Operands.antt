-- Names, strings and calls as operands.
use Rattle.std.proofs.Common.{◌≡◌, ℕ, ◌+◌, ◌*◌, ◌<◌, ◌≤◌, ◌^◌, Bool, true, false, List, [], ◌∷◌, ◌++◌, length, refl, sym, ◌∙◌, subst, arith}
use Rattle.std.specs.Prelude.{Ok, Option, Some, None, All, slice_get, slice_set, if◌then◌else◌}
use Rattle.std.specs.Option.{option_map}
use Rattle.std.proofs.lemmas.Option.{slice_get-map, slice_get_within}
use Rattle.std.proofs.lemmas.List.Elements.{All-nil, All-head, All-tail, All-cons}
use Rattle.c_words.specs.declared.place.At.{At}
use Rattle.typed_tree.specs.declared.typed_expr.LibCall.{LibCall}
use Rattle.typed_tree.specs.declared.typed_expr.LibCall.TheVariants.{Putchar, Getchar, Exit, Malloc, Calloc, Free, Memcpy, Memset}
use Rattle.typed_tree.specs.declared.typed_expr.Called.{Called}
use Rattle.typed_tree.specs.declared.typed_expr.Called.TheVariants.{Defined, Library}
use Rattle.typed_tree.specs.Types.{CType}
use Rattle.typed_tree.specs.TypedTree.{CExpr, CForm, CExprs, CStruct}
use Rattle.typed_tree.specs.TypedViews.{exprs}
use Rattle.typed_tree.specs.Sizes.{largest, IsType}
use Rattle.typed_tree.specs.TypedRules.{Prototype, prototype_in_library, called_prototype, AreGiven}
use Rattle.typed_tree.specs.TypedBody.{Environment, IsLiteral, AreExprs}
use Rattle.typing_operators.specs.Rule.{Rule, ◌>>=◌}
use Rattle.typing_operators.specs.Conversions.{given}
use Rattle.typing_operators.specs.Operators.{passed, call_rule}
use Rattle.typing_operators.specs.Sound.{IsOperand, Keeps, OperatorsKeep, OperatorsAreSound}
use Rattle.typing_expressions.specs.declared.calls.Callee.{Callee}
use Rattle.typing_expressions.specs.declared.calls.Callee.TheVariants as callee
use Rattle.typing_expressions.specs.Names.{found, or_else}
use Rattle.typing_expressions.specs.Scene.{CScene, CLocalName, CEntry, CDeclared, CDraft, local_in}
use Rattle.typing_expressions.specs.Expressions.{object_by, object, in_library, text, function_called, called_if_named}
use Rattle.typing_unit_keeps.proofs.Scenes.{at_structs, IsDraft, IsNamed, IsEntry, StandsAs, draft_types, Formed, Fits, IsDeclared, prototype_by, GrowsWithin}
use Rattle.typing_unit_keeps.proofs.Steps.{passes, bound, same_ok, not_less, All-slice_get, All-found, at_end, flag_set}
use Rattle.typing_unit_keeps.proofs.Growth.{called_grows}
use Rattle.typing_unit_keeps.proofs.Later.{operand_later, tags_extend}
use Rattle.typing_unit_keeps.proofs.LaterStructs.{fits_back}

-- what was typed is an operand in the scene that it leaves, if its names stand in the environment
abbrev pub IsSound : Environment → CExpr × CScene → Type 0
IsSound names r = Fits names r.1 → IsOperand (at_structs names r.1.structs) r.0

pub kept_sound : (names : Environment) (u : CScene) (v : CExpr) (r : CExpr × CScene) → (let q : Rule (CExpr × CScene) = Ok (v, u) in q) ≡ Ok r
    → IsSound names (v, u) → IsSound names r
kept_sound names u v r h is = subst (IsSound names) (same_ok (v, u) r h) is

pub ruled_sound : (names : Environment) (u : CScene) (rule : Rule CExpr) (r : CExpr × CScene) → (rule >>= λ v. Ok (v, u)) ≡ Ok r
    → (Fits names u → Keeps (at_structs names u.structs) rule) → IsSound names r
ruled_sound names u rule r h keeps =
    let v = bound rule _ r h in
    kept_sound names u v.0 r v.2 (λ fits. keeps fits v.0 v.1)

-- an operand of one scene is one of a later scene
pub carried : (names : Environment) (s u : CScene) (e : CExpr) → GrowsWithin s u → IsOperand (at_structs names s.structs) e → IsOperand (at_structs names u.structs) e
carried names s u e g is = operand_later s.structs u.structs (tags_extend s.structs u.structs g.grows.structs) names e is

abbrev pub AreOperands : Environment → List CExpr → Type 0
AreOperands names [] = Unit {0}
AreOperands names (e ∷ es) = IsOperand names e × AreOperands names es

pub all_carried : (names : Environment) (s u : CScene) (es : List CExpr) → GrowsWithin s u → AreOperands (at_structs names s.structs) es → AreOperands (at_structs names u.structs) es
all_carried names s u [] g are = tt
all_carried names s u (e ∷ es) g are = (carried names s u e g are.0, all_carried names s u es g are.1)

pub one_behind : (names : Environment) (es : List CExpr) (e : CExpr) → AreOperands names es → IsOperand names e → AreOperands names (es ++ e ∷ [])
one_behind names [] e are is = (is, tt)
one_behind names (x ∷ es) e are is = (are.0, one_behind names es e are.1 is)

-- names

draft_is : (structs : List CStruct) (locals : List CDraft) (k : ℕ) (t : CType) → All (IsDraft structs) locals → slice_get (draft_types locals) k ≡ Some t → IsType structs t
draft_is structs locals k t all h = by (slice_get locals k) refl (sym (slice_get-map (λ (l : CDraft). l.ty) locals k) ∙ h)
  where
    by : (o : Option CDraft) → slice_get locals k ≡ o → option_map (λ (l : CDraft). l.ty) o ≡ Some t → IsType structs t
    by None is h = absurd cc
    by (Some l) is h =
        let same : l.ty ≡ t = cc in
        subst (IsType structs) same (All-slice_get (IsDraft structs) locals k l all is).type

innermost_named : (locals : List CDraft) (ss : List (List (List ℕ × CLocalName))) (x : List ℕ) (l : CLocalName) → All (λ names. All (IsNamed locals) names) ss
    → local_in ss x ≡ Some l → slice_get (draft_types locals) l.number ≡ Some l.ty
innermost_named locals [] x l all h = absurd cc
innermost_named locals (s ∷ ss) x l all h =
    by (local_in ss x) refl (innermost_named locals ss x l (All-tail (λ names. All (IsNamed locals) names) s ss all)) h
  where
    by : (o : Option CLocalName) → local_in ss x ≡ o → (local_in ss x ≡ Some l → slice_get (draft_types locals) l.number ≡ Some l.ty) → or_else o (found x s) ≡ Some l → slice_get (draft_types locals) l.number ≡ Some l.ty
    by None is inner h =
        All-found (λ (l : CLocalName). slice_get (draft_types locals) l.number ≡ Some l.ty) s x l (All-head (λ names. All (IsNamed locals) names) s ss all) h
    by (Some m) is inner h = inner (is ∙ h)

object_is : (names : Environment) (s : CScene) (at : At) (x : List ℕ) (l : Option CLocalName) (e : Option CEntry) (f : Option LibCall) (v : CExpr) → Formed s → Fits names s
    → local_in s.scopes x ≡ l → found x s.names ≡ e → object_by at x l e f ≡ Ok v → IsOperand (at_structs names s.structs) v
object_is names s at x (Some l) e f v formed fits local global h =
    let place = innermost_named s.locals s.scopes x l formed.scopes local in
    subst (IsOperand (at_structs names s.structs)) (same_ok (CExpr.expr at l.ty (CForm.Local l.number)) v h)
    (record { typed = (draft_is s.structs s.locals l.number l.ty formed.locals place, fits.locals l.number l.ty place); written = refl })
object_is names s at x None (Some (CEntry.Object n t)) f v formed fits local global h =
    subst (IsOperand (at_structs names s.structs)) (same_ok (CExpr.expr at t (CForm.Global n)) v h)
    (record {
      typed = (
        All-found (IsEntry s.structs) s.names x (CEntry.Object n t) formed.names global,
        All-found (StandsAs names.globals) s.names x (CEntry.Object n t) fits.objects global,
      );
      written = refl;
    })
object_is names s at x None (Some (CEntry.Function k)) f v formed fits local global h = absurd cc
object_is names s at x None None (Some f) v formed fits local global h = absurd cc
object_is names s at x None None None v formed fits local global h = absurd cc

pub name_is : (names : Environment) (s : CScene) (at : At) (x : List ℕ) → Formed s → Fits names s → Keeps (at_structs names s.structs) (object s at x)
unfolding object
name_is names s at x formed fits v h = object_is names s at x (local_in s.scopes x) (found x s.names) (in_library x) v formed fits refl refl h

-- literals

pub number_is : (names : Environment) (at : At) (n : ℕ) (u : Bool) → n < 2 ^ 32 → IsOperand names (CExpr.expr at (if u then CType.Unsigned else CType.Int) (CForm.Number n))
number_is names at n true small = record { typed = (tt, (IsLiteral.unsigned refl, small)); written = refl }
number_is names at n false small = record { typed = (tt, (IsLiteral.int refl, small)); written = refl }

text_type : (n : ℕ) → n + 1 ≤ largest → 1 * (n + 1) ≤ largest
text_type n h = omega arith

pub text_is : (names : Environment) (s : CScene) (at : At) (bytes : List ℕ) (r : CExpr × CScene) → text s at bytes ≡ Ok r → IsSound names r
unfolding text
text_is names s at bytes r h =
    let passed = passes _ _ _ r h in
    let small : length bytes + 1 ≤ largest = not_less _ _ passed.0 in
    kept_sound names _ _ r passed.1 (λ fits. record {
      typed = (
        (tt, refl, omega arith, text_type (length bytes) small),
        record { bytes = bytes; found = fits.texts (length s.texts) bytes (at_end s.texts [] bytes); type = refl },
      );
      written = refl;
    })

-- calls

-- the functions of the library have types that may be formed
abbrev IsPrototype : List CStruct → Prototype → Type 0
IsPrototype structs p = IsType structs p.result × All (IsType structs) p.params

one_type : (structs : List CStruct) (t : CType) → IsType structs t → All (IsType structs) (t ∷ [])
one_type structs t is = All-cons (IsType structs) t [] is (All-nil (IsType structs))

two_types : (structs : List CStruct) (t u : CType) → IsType structs t → IsType structs u → All (IsType structs) (t ∷ u ∷ [])
two_types structs t u is are = All-cons (IsType structs) t (u ∷ []) is (one_type structs u are)

three_types : (structs : List CStruct) (t u w : CType) → IsType structs t → IsType structs u → IsType structs w → All (IsType structs) (t ∷ u ∷ w ∷ [])
three_types structs t u w is are all = All-cons (IsType structs) t (u ∷ w ∷ []) is (two_types structs u w are all)

library_types : (structs : List CStruct) (f : LibCall) → IsPrototype structs (prototype_in_library f)
library_types structs Putchar = (tt, one_type structs CType.Int tt)
library_types structs Getchar = (tt, All-nil (IsType structs))
library_types structs Exit = (tt, one_type structs CType.Int tt)
library_types structs Malloc = (tt, one_type structs CType.Unsigned tt)
library_types structs Calloc = (tt, two_types structs CType.Unsigned CType.Unsigned tt tt)
library_types structs Free = (tt, one_type structs (CType.Pointer CType.Void) tt)
library_types structs Memcpy = (tt, three_types structs (CType.Pointer CType.Void) (CType.Pointer CType.Void) CType.Unsigned tt tt tt)
library_types structs Memset = (tt, three_types structs (CType.Pointer CType.Void) CType.Int CType.Unsigned tt tt tt)

module _ (sound : OperatorsAreSound) (names : Environment) where
  module _ (s : CScene) (formed : Formed s) where
    -- the rules keep what is an operand in the scene
    pub keeps : OperatorsKeep (at_structs names s.structs)
    keeps = sound (at_structs names s.structs) formed.structs

    passed_are : (line : ℕ) (ts : List CType) (es : List CExpr) (vs : CExprs) → All (IsType s.structs) ts → AreOperands (at_structs names s.structs) es
        → passed line ts (exprs es) ≡ Ok vs → AreExprs (at_structs names s.structs) vs × AreGiven ts vs
    passed_are line [] [] vs types are h = subst (λ (vs : CExprs). AreExprs (at_structs names s.structs) vs × AreGiven [] vs) (same_ok CExprs.none vs h) (tt, tt)
    passed_are line [] (e ∷ es) vs types are h = absurd cc
    passed_are line (t ∷ ts) [] vs types are h = absurd cc
    passed_are line (t ∷ ts) (e ∷ es) vs types are h =
        let v = bound (given line t e) _ vs h in
        let rest = bound (passed line ts (exprs es)) _ vs v.2 in
        let first = keeps.given line t e (All-head (IsType s.structs) t ts types) are.0 v.0 v.1 in
        let others = passed_are line ts es rest.0 (All-tail (IsType s.structs) t ts types) are.1 rest.1 in
        subst (λ (vs : CExprs). AreExprs (at_structs names s.structs) vs × AreGiven (t ∷ ts) vs) (same_ok (CExprs.more v.0 rest.0) vs rest.2)
        ((first.0, others.0), (first.1, others.1))

    call_is : (at : At) (called : Called) (p : Prototype) (es : List CExpr) → IsType s.structs p.result → All (IsType s.structs) p.params → AreOperands (at_structs names s.structs) es
        → called_prototype names.functions called ≡ Some p → Keeps (at_structs names s.structs) (call_rule at called p.result p.params (exprs es))
    unfolding call_rule
    call_is at called p es result params are is v h =
        let vs = bound (passed at.line p.params (exprs es)) _ v h in
        let passed = passed_are at.line p.params es vs.0 params are vs.1 in
        subst (IsOperand (at_structs names s.structs)) (same_ok (CExpr.expr at p.result (CForm.Call called vs.0)) v vs.2)
        (record { typed = (result, (passed.0, record { prototype = p; found = is; given = passed.1; result = refl })); written = refl })

  function_sound : (s : CScene) (at : At) (k : ℕ) (es : List CExpr) (o : Option CDeclared) (r : CExpr × CScene) → Formed s → (Fits names s → AreOperands (at_structs names s.structs) es)
      → slice_get s.functions k ≡ o → function_called s at k es o ≡ Ok r → IsSound names r
  function_sound s at k es None r formed are is h = absurd cc
  function_sound s at k es (Some f) r formed are is h =
      let u : CScene = record s { called = slice_set s.called k true } in
      let is_declared = All-slice_get (IsDeclared s.structs) s.functions k f formed.functions is in
      let there : k < length s.functions = slice_get_within s.functions k f is in
      ruled_sound names u (call_rule at (Defined f.number) f.result f.params (exprs es)) r h
      (λ fits. call_is s formed at (Defined f.number) (prototype_by f) es is_declared.result is_declared.params (are (fits_back names s u (called_grows s k) fits))
      (fits.functions k f is (flag_set s.called k (subst (λ n. k < n) (sym formed.called) there))))

  pub called_sound : (s : CScene) (at : At) (c : Option Callee) (es : List CExpr) (r : CExpr × CScene) → Formed s → (Fits names s → AreOperands (at_structs names s.structs) es)
      → called_if_named s at c es ≡ Ok r → IsSound names r
  called_sound s at None es r formed are h = absurd cc
  called_sound s at (Some (callee.Function k)) es r formed are h = function_sound s at k es (slice_get s.functions k) r formed are refl h
  called_sound s at (Some (callee.Library f)) es r formed are h =
      let types = library_types s.structs f in
      ruled_sound names s (call_rule at (Library f) (prototype_in_library f).result (prototype_in_library f).params (exprs es)) r h
      (λ fits. call_is s formed at (Library f) (prototype_in_library f) es types.0 types.1 (are fits) refl)
  called_sound s at (Some callee.Object) es r formed are h = absurd cc
