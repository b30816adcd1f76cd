-- The locals of a function, and its prototype.
use Rattle.std.proofs.Common.{◌≡◌, ℕ, zero, suc, ◌+◌, ◌≤◌, false, ◌||◌, List, [], ◌∷◌, ◌++◌, length, refl, sym, ◌∙◌, ap, subst, arith}
use Rattle.std.specs.Prelude.{Some, All, map, take, slice_get}
use Rattle.std.proofs.lemmas.List.{append_assoc, append-nil, map-append, take-map, length-map, length-append}
use Rattle.std.proofs.lemmas.List.Elements.{All-nil, All-cons, All-head, All-tail}
use Rattle.typed_tree.specs.Types.{CType, is_array, is_struct, IsScalar}
use Rattle.typed_tree.specs.TypedTree.{CStmt, CStruct, CLocal, CFunction, CProgram}
use Rattle.typed_tree.specs.Sizes.{size_of, IsType, IsComplete}
use Rattle.typed_tree.specs.Typed.{stmt_refers, IsLocalObject}
use Rattle.typing_expressions.specs.Scene.{CScene, CDraft}
use Rattle.typing_expressions.specs.Parts.{CParam}
use Rattle.typing_declarations.specs.Declarators.{name_or_none}
use Rattle.typing_statements.specs.Statements.{with_local}
use Rattle.typing_unit_keeps.specs.Units.{takes_struct, param_types, with_params, begun, ended, finished}
use Rattle.typing_unit_keeps.proofs.Steps.{All-slice_get}
use Rattle.typing_unit_keeps.proofs.Accepted.{or_left, or_right}
use Rattle.typing_unit_keeps.proofs.Scenes.{draft_types, Extends, IsDraft, IsNamed, Formed}
use Rattle.typing_unit_keeps.proofs.Later.{type_later, complete_later, size_later}
use Rattle.typing_unit_keeps.proofs.MadeTypes.{AreParams, param_is_scalar}
use Rattle.typing_unit_keeps.proofs.Goes.{Goes, goes_same, goes_then, with_local_goes}

-- parameters as locals
abbrev pub param_drafts : List CParam → List CDraft
param_drafts [] = []
param_drafts (p ∷ ps) = record { name = name_or_none p.name; ty = p.ty } ∷ param_drafts ps

pub drafts_have : (ps : List CParam) → draft_types (param_drafts ps) ≡ param_types ps
drafts_have [] = refl
drafts_have (p ∷ ps) = ap (λ ts. p.ty ∷ ts) (drafts_have ps)

pub params_scalar : (structs : List CStruct) (ps : List CParam) → AreParams structs ps → takes_struct ps ≡ false → All IsScalar (param_types ps)
params_scalar structs [] are h = All-nil IsScalar
params_scalar structs (p ∷ ps) are h =
    All-cons IsScalar p.ty (param_types ps) (param_is_scalar structs p.ty are.0.complete are.0.no_array (or_left (is_struct p.ty) _ h)) (params_scalar structs ps are.1 (or_right (is_struct p.ty) _ h))

pub params_types : (structs : List CStruct) (ps : List CParam) → AreParams structs ps → All (IsType structs) (param_types ps)
params_types structs [] are = All-nil (IsType structs)
params_types structs (p ∷ ps) are = All-cons (IsType structs) p.ty (param_types ps) are.0.type (params_types structs ps are.1)

-- a scene with parameters as locals
record HasParams (s u : CScene) (ps : List CParam) : Type 0 where
  goes : Goes s u
  locals : u.locals ≡ s.locals ++ param_drafts ps

with_params_is : (s : CScene) (ps : List CParam) → AreParams s.structs ps → HasParams s (with_params s ps) ps
with_params_is s [] are = record { goes = goes_same s; locals = sym (append-nil s.locals) }
with_params_is s (p ∷ ps) are =
    let t = p.ty in
    let name = name_or_none p.name in
    let u = with_local s name t in
    let first : Goes s u = with_local_goes s s name t (goes_same s) (λ formed. record { type = are.0.type; complete = are.0.complete }) in
    let rest = with_params_is u ps are.1 in
    record {
      goes = goes_then s u (with_params u ps) first rest.goes;
      locals = rest.locals ∙ append_assoc s.locals (record { name = name; ty = t } ∷ []) (param_drafts ps);
    }

-- the scene in which the body of a function begins
pub record Begins (s : CScene) (ps : List CParam) (u : CScene) : Type 0 where
  pub formed : Formed u
  pub goes : Goes (record s { locals = []; scopes = [] ∷ [] }) u
  pub locals : u.locals ≡ param_drafts ps

pub begun_is : (s : CScene) (ps : List CParam) → Formed s → AreParams s.structs ps → Begins s ps (begun s ps)
begun_is s ps formed are =
    let has = with_params_is empty ps are in
    record { formed = has.goes.formed empty_formed; goes = has.goes; locals = has.locals }
  where
    empty : CScene
    empty = record s { locals = []; scopes = [] ∷ [] }

    none : All (IsNamed []) []
    none = All-nil (IsNamed [])

    empty_formed : Formed empty
    empty_formed = record {
      structs = formed.structs;
      tags = formed.tags;
      names = formed.names;
      functions = formed.functions;
      called = formed.called;
      locals = All-nil (IsDraft s.structs);
      scopes = All-cons (λ names. All (IsNamed []) names) [] [] none (All-nil (λ names. All (IsNamed []) names));
    }

pub ended_formed : (s : CScene) → Formed s → Formed (ended s)
ended_formed s formed = record {
  structs = formed.structs;
  tags = formed.tags;
  names = formed.names;
  functions = formed.functions;
  called = formed.called;
  locals = All-nil (IsDraft s.structs);
  scopes = All-nil (λ names. All (IsNamed []) names);
}

-- ---- the finished locals

abbrev pub local_types : List CLocal → List CType
local_types locals = map (λ l. l.ty) locals

pub finished_types : (structs : List CStruct) (body : CStmt) (k : ℕ) (ls : List CDraft) → local_types (finished structs body k ls) ≡ draft_types ls
finished_types structs body k [] = refl
finished_types structs body k (l ∷ ls) = ap (λ ts. l.ty ∷ ts) (finished_types structs body (k + 1) ls)

-- local k is a draft with its size
finished_at : (structs : List CStruct) (body : CStmt) (from k : ℕ) (ls : List CDraft) (l : CLocal) → slice_get (finished structs body from ls) k ≡ Some l
    → (d : CDraft) × (slice_get ls k ≡ Some d) × (l.ty ≡ d.ty) × (l.size ≡ size_of structs d.ty) × (l.is_block ≡ (is_array d.ty || is_struct d.ty || stmt_refers (from + k) body))
finished_at structs body from k [] l h = absurd cc
finished_at structs body from zero (d ∷ ls) l h =
    let same = same_local _ l h in (
      d,
      refl,
      ap (λ (x : CLocal). x.ty) (sym same),
      ap (λ (x : CLocal). x.size) (sym same),
      ap (λ (x : CLocal). x.is_block) (sym same) ∙ ap (λ n. is_array d.ty || is_struct d.ty || stmt_refers n body) (from_zero from),
    )
  where
    same_local : (x y : CLocal) → Some x ≡ Some y → x ≡ y
    same_local x y h = cc

    from_zero : (n : ℕ) → n ≡ n + 0
    from_zero n = omega arith
finished_at structs body from (suc k) (d ∷ ls) l h =
    let there = finished_at structs body (from + 1) k ls l h in
    (there.0, there.1, there.2, there.3, there.4 ∙ ap (λ n. is_array there.0.ty || is_struct there.0.ty || stmt_refers n body) (one_more from k))
  where
    one_more : (n k : ℕ) → n + 1 + k ≡ n + suc k
    one_more n k = omega arith

-- each is an object of the function
pub finished_objects : (p : CProgram) (f : CFunction) (structs : List CStruct) (ls : List CDraft) → Extends structs p.structs → All (IsDraft structs) ls → f.locals ≡ finished structs f.body 0 ls
    → (k : ℕ) (l : CLocal) → slice_get f.locals k ≡ Some l → IsLocalObject p f k l
finished_objects p f structs ls extends all locals k l found =
    let there = finished_at structs f.body 0 k ls l (ap (λ ls. slice_get ls k) (sym locals) ∙ found) in
    let is = All-slice_get (IsDraft structs) ls k there.0 all there.1 in
    record {
      type = subst (IsType p.structs) (sym there.2) (type_later structs p.structs extends there.0.ty is.type);
      complete = subst (IsComplete p.structs) (sym there.2) (complete_later structs p.structs extends there.0.ty is.complete);
      size = there.3 ∙ sym (size_later structs p.structs extends there.0.ty is.complete) ∙ ap (size_of p.structs) (sym there.2);
      is_block = there.4 ∙ ap (λ n. is_array there.0.ty || is_struct there.0.ty || stmt_refers n f.body) (from_nothing k) ∙ ap (λ t. is_array t || is_struct t || stmt_refers k f.body) (sym there.2);
    }
  where
    from_nothing : (n : ℕ) → 0 + n ≡ n
    from_nothing n = omega arith

-- ---- the first of them

taken_front : (ts us : List CType) → take (length ts) (ts ++ us) ≡ ts
taken_front [] us = refl
taken_front (t ∷ ts) us = ap (λ rest. t ∷ rest) (taken_front ts us)

pub All-types : (P : CType → Type 0) (ls : List CLocal) → All P (local_types ls) → All (λ l. P l.ty) ls
All-types P [] all = All-nil (λ l. P l.ty)
All-types P (l ∷ ls) all = All-cons (λ l. P l.ty) l ls (All-head P l.ty (local_types ls) all) (All-types P ls (All-tail P l.ty (local_types ls) all))

-- the first locals of a function are its parameters
pub taken_params : (structs : List CStruct) (body : CStmt) (ps : List CParam) (ls more : List CDraft) → ls ≡ param_drafts ps ++ more → local_types (take (length ps) (finished structs body 0 ls)) ≡ param_types ps
taken_params structs body ps ls more is =
    sym (take-map (λ (l : CLocal). l.ty) (length ps) (finished structs body 0 ls))
    ∙ ap (take (length ps)) (finished_types structs body 0 ls ∙ ap draft_types is ∙ map-append (λ (l : CDraft). l.ty) (param_drafts ps) more ∙ ap (λ ts. ts ++ draft_types more) (drafts_have ps))
    ∙ ap (λ n. take n (param_types ps ++ draft_types more)) (sym (length-map ps (λ (p : CParam). p.ty)))
    ∙ taken_front (param_types ps) (draft_types more)

pub enough_locals : (structs : List CStruct) (body : CStmt) (ps : List CParam) (ls more : List CDraft) → ls ≡ param_drafts ps ++ more → length ps ≤ length (finished structs body 0 ls)
enough_locals structs body ps ls more is =
    let types : length (local_types (finished structs body 0 ls)) ≡ length (finished structs body 0 ls) = length-map (finished structs body 0 ls) (λ (l : CLocal). l.ty) in
    let same : length (local_types (finished structs body 0 ls)) ≡ length (draft_types ls) = ap length (finished_types structs body 0 ls) in
    let drafts : length (draft_types ls) ≡ length ls = length-map ls (λ (l : CDraft). l.ty) in
    let whole : length ls ≡ length (param_drafts ps) + length more = ap length is ∙ length-append (param_drafts ps) more in
    let own : length (draft_types (param_drafts ps)) ≡ length (param_drafts ps) = length-map (param_drafts ps) (λ (l : CDraft). l.ty) in
    let params : length (draft_types (param_drafts ps)) ≡ length (param_types ps) = ap length (drafts_have ps) in
    let count : length (param_types ps) ≡ length ps = length-map ps (λ (p : CParam). p.ty) in
    omega arith
