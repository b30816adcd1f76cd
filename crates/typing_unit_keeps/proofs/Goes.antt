-- What statements make of a scene, and what is known of what they make.
use Rattle.std.proofs.Common.{◌≡◌, ℕ, List, [], ◌∷◌, ◌++◌, length, sym, ◌∙◌, ap, subst}
use Rattle.std.specs.Prelude.{Ok, All, Some, slice_get}
use Rattle.std.proofs.lemmas.List.{append_assoc, append-nil, map-append, length-map}
use Rattle.std.proofs.lemmas.List.Elements.{All-nil, All-push, All-weaker, All-head, All-tail, All-cons}
use Rattle.typed_tree.specs.Types.{CType}
use Rattle.typed_tree.specs.Sizes.{IsType}
use Rattle.typed_tree.specs.TypedBody.{Environment}
use Rattle.typing_operators.specs.Rule.{Rule}
use Rattle.typing_expressions.specs.Scene.{CScene, CDraft, CLocalName}
use Rattle.typing_declarations.specs.Declarators.{CScopes, innermost, outer, opened, closed}
use Rattle.typing_statements.specs.Statements.{with_local}
use Rattle.typing_unit_keeps.proofs.Scenes.{at_structs, IsFront, Extends, Grows, GrowsWithin, draft_types, IsDraft, IsNamed, Formed, Fits}
use Rattle.typing_unit_keeps.proofs.Steps.{same_ok, All-slice_get, front_kept, at_end}
use Rattle.typing_unit_keeps.proofs.Growth.{grows_same, grows_then}
use Rattle.typing_unit_keeps.proofs.Later.{tags_extend}
use Rattle.typing_unit_keeps.proofs.LaterStructs.{formed_on, fits_before}

-- A scene after statements: it has grown, and has more locals; what was well formed still is.
pub record Goes (s u : CScene) : Type 0 where
  pub grows : Grows s u
  pub more : List CDraft
  pub locals : u.locals ≡ s.locals ++ more
  pub formed : Formed s → Formed u

pub goes_same : (s : CScene) → Goes s s
goes_same s = record { grows = grows_same s; more = []; locals = sym (append-nil s.locals); formed = λ h. h }

pub goes_then : (s u w : CScene) → Goes s u → Goes u w → Goes s w
goes_then s u w a b = record {
  grows = grows_then s u w a.grows b.grows;
  more = a.more ++ b.more;
  locals = b.locals ∙ ap (λ l. l ++ b.more) a.locals ∙ append_assoc s.locals a.more b.more;
  formed = λ h. b.formed (a.formed h);
}

pub goes_within : (s u : CScene) → GrowsWithin s u → Goes s u
goes_within s u g = record { grows = g.grows; more = []; locals = g.locals ∙ sym (append-nil s.locals); formed = formed_on s u g }

pub extended : (s u : CScene) → Goes s u → Extends s.structs u.structs
extended s u g = tags_extend s.structs u.structs g.grows.structs

types_kept : (locals more : List CDraft) → IsFront (draft_types locals) (draft_types (locals ++ more))
types_kept locals more k t h =
    ap (λ (ts : List CType). slice_get ts k) (map-append (λ (l : CDraft). l.ty) locals more) ∙ front_kept (draft_types locals) (draft_types more) k t h

pub fits_goes : (names : Environment) (s u : CScene) → Goes s u → Fits names u → Fits names s
fits_goes names s u g fits =
    fits_before names s u g.grows
    (λ k t h. ap (λ (locals : List CDraft). slice_get (draft_types locals) k) g.locals ∙ types_kept s.locals g.more k t h) fits

-- scopes

other_names : (s : CScene) (locals : List CDraft) (scopes : CScopes) → Grows s (record s { locals = locals; scopes = scopes })
other_names s locals scopes =
    let g = grows_same s in
    record { structs = g.structs; tags = g.tags; names = g.names; functions = g.functions; texts = g.texts; called = g.called }

all_outer : (P : List (List ℕ × CLocalName) → Type 0) (ss : CScopes) → All P ss → All P (outer ss)
all_outer P [] all = all
all_outer P (s ∷ []) all = All-nil P
all_outer P (s ∷ t ∷ ss) all = All-cons P s (outer (t ∷ ss)) (All-head P s (t ∷ ss) all) (all_outer P (t ∷ ss) (All-tail P s (t ∷ ss) all))

of_innermost : (P : List (List ℕ × CLocalName) → Type 0) (ss : CScopes) → P [] → All P ss → P (innermost ss)
of_innermost P [] none all = none
of_innermost P (s ∷ []) none all = All-head P s [] all
of_innermost P (s ∷ t ∷ ss) none all = of_innermost P (t ∷ ss) none (All-tail P s (t ∷ ss) all)

pub opened_goes : (s : CScene) → Goes s (opened s)
opened_goes s = record {
  grows = other_names s s.locals _;
  more = [];
  locals = sym (append-nil s.locals);
  formed = λ h. record {
    structs = h.structs;
    tags = h.tags;
    names = h.names;
    functions = h.functions;
    called = h.called;
    locals = h.locals;
    scopes = All-push (λ names. All (IsNamed s.locals) names) s.scopes [] h.scopes (All-nil (IsNamed s.locals));
  };
}

pub closed_goes : (s : CScene) → Goes s (closed s)
closed_goes s = record {
  grows = other_names s s.locals _;
  more = [];
  locals = sym (append-nil s.locals);
  formed = λ h. record {
    structs = h.structs;
    tags = h.tags;
    names = h.names;
    functions = h.functions;
    called = h.called;
    locals = h.locals;
    scopes = all_outer (λ names. All (IsNamed s.locals) names) s.scopes h.scopes;
  };
}

-- one more local

pub local_at : (s : CScene) (x : List ℕ) (t : CType) → slice_get (draft_types (with_local s x t).locals) (length s.locals) ≡ Some t
local_at s x t =
    ap (λ (ts : List CType). slice_get ts (length s.locals)) (map-append (λ (l : CDraft). l.ty) s.locals (record { name = x; ty = t } ∷ []))
    ∙ ap (slice_get (draft_types s.locals ++ t ∷ [])) (sym (length-map s.locals (λ (l : CDraft). l.ty)))
    ∙ at_end (draft_types s.locals) [] t

pub with_local_formed : (s : CScene) (x : List ℕ) (t : CType) → IsDraft s.structs (record { name = x; ty = t }) → Formed s → Formed (with_local s x t)
with_local_formed s x t draft h = record {
  structs = h.structs;
  tags = h.tags;
  names = h.names;
  functions = h.functions;
  called = h.called;
  locals = All-push (IsDraft s.structs) s.locals (record { name = x; ty = t }) h.locals draft;
  scopes = All-push P (outer s.scopes) _ (all_outer P s.scopes before)
      (All-push (IsNamed locals) (innermost s.scopes) (x, record { number = length s.locals; ty = t }) (of_innermost P s.scopes (All-nil (IsNamed locals)) before) (local_at s x t));
}
  where
    locals : List CDraft
    locals = (with_local s x t).locals

    P : List (List ℕ × CLocalName) → Type 0
    P names = All (IsNamed locals) names

    before : All P s.scopes
    before =
        All-weaker (λ names. All (IsNamed s.locals) names) P
        (λ names. All-weaker (IsNamed s.locals) (IsNamed locals) (λ e. types_kept s.locals (record { name = x; ty = t } ∷ []) e.1.number e.1.ty) names) s.scopes h.scopes

pub with_local_goes : (s u : CScene) (x : List ℕ) (t : CType) → Goes s u → (Formed s → IsDraft u.structs (record { name = x; ty = t })) → Goes s (with_local u x t)
with_local_goes s u x t goes draft = record {
  grows = grows_then s u (with_local u x t) goes.grows (other_names u _ _);
  more = goes.more ++ record { name = x; ty = t } ∷ [];
  locals = ap (λ l. l ++ record { name = x; ty = t } ∷ []) goes.locals ∙ append_assoc s.locals goes.more (record { name = x; ty = t } ∷ []);
  formed = λ h. with_local_formed u x t (draft h) (goes.formed h);
}

pub local_type : (s : CScene) (x : List ℕ) (t : CType) → Formed (with_local s x t) → IsType s.structs t
local_type s x t formed =
    (All-slice_get (IsDraft s.structs) (s.locals ++ record { name = x; ty = t } ∷ []) (length s.locals) (record { name = x; ty = t }) formed.locals (at_end s.locals [] (record { name = x; ty = t }))).type

module _ (names : Environment) {A : Type 0} (P : Environment → A → Type 0) where
  -- What was typed is as it should be, in a scene that is well formed, if the names of the scene behind it stand in the environment.
  pub record Holds (s : CScene) (r : A × CScene) : Type 0 where
    pub goes : Goes s r.1
    pub is : Formed s → Fits names r.1 → P (at_structs names r.1.structs) r.0

  pub holds_end : (s u : CScene) (v : A) (r : A × CScene) → (let q : Rule (A × CScene) = Ok (v, u) in q) ≡ Ok r → Holds s (v, u) → Holds s r
  holds_end s u v r h holds = subst (Holds s) (same_ok (v, u) r h) holds

  -- The same of what is behind something that is typed already.
  pub record HoldsBehind (s : CScene) (done : A) (r : A × CScene) : Type 0 where
    pub goes : Goes s r.1
    pub is : Formed s → (Fits names s → P (at_structs names s.structs) done) → Fits names r.1 → P (at_structs names r.1.structs) r.0

  pub behind_end : (s u : CScene) (done v : A) (r : A × CScene) → (let q : Rule (A × CScene) = Ok (v, u) in q) ≡ Ok r → HoldsBehind s done (v, u) → HoldsBehind s done r
  behind_end s u done v r h holds = subst (HoldsBehind s done) (same_ok (v, u) r h) holds

  pub behind_same : (s : CScene) (done : A) → HoldsBehind s done (done, s)
  behind_same s done = record { goes = goes_same s; is = λ formed before fits. before fits }

  pub behind_then : (s : CScene) (done : A) (r q : A × CScene) → HoldsBehind s done r → HoldsBehind r.1 r.0 q → HoldsBehind s done q
  behind_then s done r q a b = record {
    goes = goes_then s r.1 q.1 a.goes b.goes;
    is = λ formed before fits. b.is (a.goes.formed formed) (λ now. a.is formed before now) fits;
  }
