-- Structs have their layout when more structs are known, and what is declared in a scene stays well formed as it grows.
use Rattle.std.proofs.Common.{◌≡◌, ℕ, ◌+◌, max, List, [], ◌∷◌, length, refl, sym, ◌∙◌, ap, subst, arith}
use Rattle.std.specs.Prelude.{Some, None, All, slice_get}
use Rattle.std.proofs.lemmas.List.Elements.{All-nil, All-append, All-weaker, All-head, All-tail}
use Rattle.typed_tree.specs.Types.{CType}
use Rattle.typed_tree.specs.TypedTree.{CMember, CStruct}
use Rattle.typed_tree.specs.Sizes.{struct_align, size_of, align_of, IsComplete, IsType, rounded_up, AreInOrder, end_of, greatest_align}
use Rattle.typed_tree.specs.Typed.{IsStruct}
use Rattle.typed_tree.specs.TypedBody.{Environment}
use Rattle.typing_expressions.specs.Scene.{CScene, CEntry, CDeclared, CDraft}
use Rattle.typing_expressions.specs.Parts.{CParam, CPart}
use Rattle.typing_unit_keeps.proofs.Scenes.{AreStructs, IsTag, IsFront, Extends, HasMoreTags, Grows, GrowsWithin, IsEntry, IsDeclared, IsDraft, IsNamed, Formed, StandsAs, Fits, draft_types}
use Rattle.typing_unit_keeps.proofs.Steps.{front_kept}
use Rattle.typing_unit_keeps.proofs.Later.{struct_later, complete_later, size_later, type_later, tags_extend}
use Rattle.typing_unit_keeps.proofs.MadeTypes.{AreParams, IsPart, AreParts}

module _ (old new : List CStruct) (later : Extends old new) where
  pub align_later : (t : CType) → IsComplete old t → align_of new t ≡ align_of old t
  align_later CType.Void h = refl
  align_later CType.Char h = refl
  align_later CType.Int h = refl
  align_later CType.Unsigned h = refl
  align_later (CType.Struct k) h = ap struct_align (struct_later old new later k h)
  align_later (CType.Pointer t) h = refl
  align_later (CType.Array t n) h = align_later t h

  abbrev Complete : CMember → Type 0
  Complete m = IsComplete old m.ty

  pub in_order_later : (from : ℕ) (ms : List CMember) → All Complete ms → AreInOrder old from ms → AreInOrder new from ms
  in_order_later from [] complete h = tt
  in_order_later from (m ∷ ms) complete h =
      let whole = All-head Complete m ms complete in (
        h.0 ∙ ap (rounded_up from) (sym (align_later m.ty whole)),
        subst (λ size. AreInOrder new (m.offset + size) ms) (sym (size_later old new later m.ty whole))
            (in_order_later (m.offset + size_of old m.ty) ms (All-tail Complete m ms complete) h.1),
      )

  pub end_later : (from : ℕ) (ms : List CMember) → All Complete ms → end_of new from ms ≡ end_of old from ms
  end_later from [] complete = refl
  end_later from (m ∷ ms) complete =
      ap (λ size. end_of new (m.offset + size) ms) (size_later old new later m.ty (All-head Complete m ms complete))
      ∙ end_later (m.offset + size_of old m.ty) ms (All-tail Complete m ms complete)

  pub greatest_later : (ms : List CMember) → All Complete ms → greatest_align new ms ≡ greatest_align old ms
  greatest_later [] complete = refl
  greatest_later (m ∷ ms) complete =
      ap (λ a. max a (greatest_align new ms)) (align_later m.ty (All-head Complete m ms complete))
      ∙ ap (max (align_of old m.ty)) (greatest_later ms (All-tail Complete m ms complete))

  pub is_struct_later : (s : CStruct) → IsStruct old s → IsStruct new s
  is_struct_later s h = record {
    types = All-weaker (λ m. IsType old m.ty) (λ m. IsType new m.ty) (λ m. type_later old new later m.ty) s.members h.types;
    complete = All-weaker Complete (λ m. IsComplete new m.ty) (λ m. complete_later old new later m.ty) s.members h.complete;
    in_order = in_order_later 0 s.members h.complete h.in_order;
    align = h.align ∙ sym (greatest_later s.members h.complete);
    size = h.size ∙ ap (λ end. rounded_up end s.align) (sym (end_later 0 s.members h.complete));
    fits = h.fits;
  }

  pub entry_later : (e : CEntry) → IsEntry old e → IsEntry new e
  entry_later (CEntry.Object n t) h = type_later old new later t h
  entry_later (CEntry.Function k) h = tt

  pub declared_later : (f : CDeclared) → IsDeclared old f → IsDeclared new f
  declared_later f h = record {
    result = type_later old new later f.result h.result;
    params = All-weaker (IsType old) (IsType new) (type_later old new later) f.params h.params;
  }

  pub draft_later : (l : CDraft) → IsDraft old l → IsDraft new l
  draft_later l h = record { type = type_later old new later l.ty h.type; complete = complete_later old new later l.ty h.complete }

  pub params_later : (ps : List CParam) → AreParams old ps → AreParams new ps
  params_later [] h = tt
  params_later (p ∷ ps) h = (
    record { type = type_later old new later p.ty h.0.type; complete = complete_later old new later p.ty h.0.complete; no_array = h.0.no_array },
    params_later ps h.1,
  )

  pub part_is_later : (p : CPart) → IsPart old p → IsPart new p
  part_is_later CPart.Pointer h = tt
  part_is_later (CPart.Array None) h = tt
  part_is_later (CPart.Array (Some n)) h = h
  part_is_later CPart.Unsized h = tt
  part_is_later (CPart.Function params) h = params_later params h

  pub parts_later : (ps : List CPart) → AreParts old ps → AreParts new ps
  parts_later [] h = tt
  parts_later (p ∷ ps) h = (part_is_later p h.0, parts_later ps h.1)

-- a tag that is not defined has its layout
pub tag_is_struct : (structs : List CStruct) (s : CStruct) → IsTag s → IsStruct structs s
tag_is_struct structs s h = record {
  types = subst (All (λ m. IsType structs m.ty)) (sym h.members) (All-nil (λ m. IsType structs m.ty));
  complete = subst (All (λ m. IsComplete structs m.ty)) (sym h.members) (All-nil (λ m. IsComplete structs m.ty));
  in_order = subst (AreInOrder structs 0) (sym h.members) tt;
  align = h.align ∙ ap (greatest_align structs) (sym h.members);
  size = h.size ∙ ap (rounded_up 0) (sym h.align) ∙ ap (λ ms. rounded_up (end_of structs 0 ms) s.align) (sym h.members);
  fits = let none = h.size in omega arith;
}

pub more_structs : (old new : List CStruct) → HasMoreTags old new → AreStructs old → AreStructs new
more_structs old new more are =
    subst (All (IsStruct new)) (sym more.structs)
    (All-append (IsStruct new) old more.tags
    (All-weaker (IsStruct old) (IsStruct new) (is_struct_later old new (tags_extend old new more)) old are)
    (All-weaker IsTag (IsStruct new) (tag_is_struct new) more.tags more.are_tags))

pub formed_on : (s u : CScene) → GrowsWithin s u → Formed s → Formed u
formed_on s u g formed =
    let later = tags_extend s.structs u.structs g.grows.structs in
    record {
      structs = more_structs s.structs u.structs g.grows.structs formed.structs;
      tags = g.grows.tags formed.tags;
      names =
          subst (All (λ e. IsEntry u.structs e.1)) (sym g.grows.names)
          (All-weaker (λ e. IsEntry s.structs e.1) (λ e. IsEntry u.structs e.1) (λ e. entry_later s.structs u.structs later e.1) s.names formed.names);
      functions =
          subst (All (IsDeclared u.structs)) (sym g.grows.functions)
          (All-weaker (IsDeclared s.structs) (IsDeclared u.structs) (declared_later s.structs u.structs later) s.functions formed.functions);
      called = g.grows.called.same_length ∙ formed.called ∙ ap length (sym g.grows.functions);
      locals =
          subst (All (IsDraft u.structs)) (sym g.locals)
          (All-weaker (IsDraft s.structs) (IsDraft u.structs) (draft_later s.structs u.structs later) s.locals formed.locals);
      scopes =
          subst (λ scopes. All (λ names. All (IsNamed u.locals) names) scopes) (sym g.scopes)
          (subst (λ locals. All (λ names. All (IsNamed locals) names) s.scopes) (sym g.locals) formed.scopes);
    }

-- what stands in the environment does so before, as long as the names are the same
pub fits_before : (names : Environment) (s u : CScene) → Grows s u → IsFront (draft_types s.locals) (draft_types u.locals) → Fits names u → Fits names s
fits_before names s u g front fits = record {
  locals = λ k t h. fits.locals k t (front k t h);
  objects = subst (All (λ e. StandsAs names.globals e.1)) g.names fits.objects;
  texts = λ k x h. fits.texts k x (ap (λ (texts : List (List ℕ)). slice_get texts k) g.texts.texts ∙ front_kept s.texts g.texts.more k x h);
  functions = λ k f found flag. fits.functions k f (ap (λ (fs : List CDeclared). slice_get fs k) g.functions ∙ found) (g.called.kept k flag);
}

pub fits_back : (names : Environment) (s u : CScene) → GrowsWithin s u → Fits names u → Fits names s
fits_back names s u g fits =
    fits_before names s u g.grows (λ k t h. ap (λ (locals : List CDraft). slice_get (draft_types locals) k) g.locals ∙ h) fits
