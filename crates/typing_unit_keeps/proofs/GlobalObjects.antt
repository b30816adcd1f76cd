-- The objects of a file.
use Rattle.std.proofs.Common.{◌≡◌, ℕ, Bool, true, List, [], ◌∷◌, ◌++◌, length, refl, sym, ◌∙◌, ap, subst, arith, append-nil}
use Rattle.std.specs.Prelude.{Option, Some, None, Ok, All, IfSome, slice_get}
use Rattle.std.proofs.lemmas.List.{length-map, map_push}
use Rattle.std.proofs.lemmas.List.Elements.{All-nil, All-cons, All-head, All-tail, All-push, All-weaker}
use Rattle.c_words.specs.declared.place.At.{At}
use Rattle.syntax_tree.specs.Syntax.{InitializerTree}
use Rattle.typed_tree.specs.Types.{CType}
use Rattle.typed_tree.specs.TypedTree.{CStruct, CInitial, CGlobal, CFunction, CProgram}
use Rattle.typed_tree.specs.Sizes.{size_of, IsType, IsComplete}
use Rattle.typed_tree.specs.SizeLaws.{MembersLieWithin, MembersLieApart}
use Rattle.typed_tree.specs.TypedBody.{Environment}
use Rattle.typed_tree.specs.Typed.{IsInitialByte, IsGlobalObject}
use Rattle.typing_operators.specs.declared.error.TypeError.TheVariants.{Twice, BadType, TooManyParams}
use Rattle.typing_operators.specs.Rule.{Rule}
use Rattle.typing_operators.specs.Sound.{OperatorsAreSound}
use Rattle.typing_expressions.specs.Names.{found}
use Rattle.typing_expressions.specs.Scene.{CScene, CEntry, CDeclared}
use Rattle.typing_expressions.specs.Parts.{CPart, is_incomplete, has_function, lacks_size}
use Rattle.typing_declarations.specs.Declarators.{has_many_params, completed}
use Rattle.typing_expressions.specs.Initializers.{initialized, initial_bytes}
use Rattle.typing_unit_keeps.specs.Units.{CFile, CDefinitions, object_is_taken, is_main, file_type, with_object, initialized_global, declared_object}
use Rattle.syntax_in_range.specs.InRange.{InitializerInRange}
use Rattle.typing_unit_keeps.proofs.Steps.{passes, bound, same_ok, front_kept, at_end}
use Rattle.typing_unit_keeps.proofs.Scenes.{at_structs, GrowsWithin, IsEntry, Formed, StandsAs, Fits, draft_types}
use Rattle.typing_unit_keeps.proofs.Growth.{within_same}
use Rattle.typing_unit_keeps.proofs.Later.{tags_extend, type_later, complete_later, size_later}
use Rattle.typing_unit_keeps.proofs.LaterStructs.{formed_on}
use Rattle.typing_unit_keeps.proofs.MadeTypes.{AreParts, IsMade, made_is}
use Rattle.typing_unit_keeps.proofs.DeclaratorParts.{completed_parts}
use Rattle.typing_unit_keeps.proofs.Laid.{are_ranked, tags_ordered}
use Rattle.typing_unit_keeps.proofs.InitialTypes.{initialized_grows, initialized_is}
use Rattle.typing_unit_keeps.proofs.InitialBytes.{initialized_held}
use Rattle.typing_unit_keeps.proofs.FoundNames.{found_front}
use Rattle.typing_unit_keeps.proofs.Files.{global_types, prototypes, HasNumber, IsThere, IsKnown, IsFile, EndsIn, IsDefinition, Advances, ends_before, texts_grow}

-- the laws of the layers below
pub record Laws : Type 0 where
  pub operators : OperatorsAreSound
  pub within : MembersLieWithin
  pub apart : MembersLieApart

pub All-front : {A : Type 0} (P : A → Type 0) (xs ys : List A) → All P (xs ++ ys) → All P xs
All-front P [] ys all = All-nil P
All-front P (x ∷ xs) ys all = All-cons P x xs (All-head P x (xs ++ ys) all) (All-front P xs ys (All-tail P x (xs ++ ys) all))

-- the type of an object at file scope
file_type_is : (structs : List CStruct) (line : ℕ) (main : Bool) (base : CType) (ps : List CPart) (t : CType) → IsType structs base → AreParts structs ps → file_type structs line main base ps ≡ Ok t → IsMade structs line true t
file_type_is structs line main base ps t base_is are h =
    let few = passes (has_many_params ps) (TooManyParams line) _ t h in
    let complete = passes (is_incomplete structs true base ps) (BadType line 1) _ t few.1 in
    let no_function = passes (has_function ps) (BadType line 2) _ t complete.1 in
    let sized = passes (lacks_size ps) (BadType line 3) _ t no_function.1 in
    let other = passes main (BadType line 5) _ t sized.1 in
    made_is structs line true base ps t base_is complete.0 are other.1

-- the environment of a program outside of functions, with these locals
abbrev pub outside : CProgram → List CType → Environment
outside p locals = record {
  structs = p.structs;
  globals = global_types p.globals;
  texts = p.texts;
  functions = prototypes p.functions;
  locals = locals;
  result = CType.Void;
}

pub fits_outside : (p : CProgram) (s : CScene) → EndsIn p s → Fits (outside p (draft_types s.locals)) s
fits_outside p s ends = record { locals = λ k t h. h; objects = ends.objects; texts = ends.texts; functions = ends.functions }

-- one more global

there_later : (globals : List CGlobal) (g : CGlobal) (functions : List CDeclared) (e : List ℕ × CEntry) → IsThere globals functions e → IsThere (globals ++ g ∷ []) functions e
there_later globals g functions (x, CEntry.Object n t) is =
    ap (λ ts. slice_get ts n) (map_push (λ (g : CGlobal). g.ty) globals g) ∙ front_kept (global_types globals) (g.ty ∷ []) n t is
there_later globals g functions (x, CEntry.Function k) is = is

last_there : (globals : List CGlobal) (g : CGlobal) → slice_get (global_types (globals ++ g ∷ [])) (length globals) ≡ Some g.ty
last_there globals g =
    ap (λ ts. slice_get ts (length globals)) (map_push (λ (g : CGlobal). g.ty) globals g)
    ∙ ap (slice_get (global_types globals ++ g.ty ∷ [])) (sym (length-map globals (λ (g : CGlobal). g.ty)))
    ∙ at_end (global_types globals) [] g.ty

module _ (numbers : CDefinitions) (f : CFile) (x : List ℕ) (t : CType) (is : IsFile numbers f) (formed : IsType f.scene.structs t) (complete : IsComplete f.scene.structs t) where
  -- the scene with its name
  abbrev named_scene : CScene
  named_scene = with_object f x t

  formed_named : Formed named_scene
  formed_named = record {
    structs = is.scene.structs;
    tags = is.scene.tags;
    names = All-push (λ e. IsEntry f.scene.structs e.1) f.scene.names (x, CEntry.Object (length f.globals) t) is.scene.names formed;
    functions = is.scene.functions;
    called = is.scene.called;
    locals = is.scene.locals;
    scopes = is.scene.scopes;
  }

  global_advances : (u : CScene) (g : CGlobal) → GrowsWithin named_scene u → g.ty ≡ t → ((p : CProgram) → EndsIn p u → IsGlobalObject p g) → Advances numbers [] f (record f { scene = u; globals = f.globals ++ g ∷ [] })
  global_advances u g grows type is_global = record {
    is_file = record {
      scene = formed_on named_scene u grows formed_named;
      ordered = tags_ordered f.scene.structs u.structs grows.grows.structs is.ordered;
      entries =
          subst (λ fs. All (IsThere (f.globals ++ g ∷ []) fs) u.names) (sym grows.grows.functions)
          (subst (All (IsThere (f.globals ++ g ∷ []) f.scene.functions)) (sym grows.grows.names)
          (All-push (IsThere (f.globals ++ g ∷ []) f.scene.functions) f.scene.names (x, CEntry.Object (length f.globals) t)
          (All-weaker (IsThere f.globals f.scene.functions) (IsThere (f.globals ++ g ∷ []) f.scene.functions) (there_later f.globals g f.scene.functions) f.scene.names is.entries)
          (last_there f.globals g ∙ ap Some type)));
      numbered = subst (All (HasNumber numbers)) (sym grows.grows.functions) is.numbered;
      defined = λ k d there. is.defined k d (ap (λ (fs : List CDeclared). slice_get fs k) (sym grows.grows.functions) ∙ there);
      known = All-weaker (λ (fn : CFunction). IsKnown f.scene fn.name) (λ (fn : CFunction). IsKnown u fn.name) (λ fn known. record {
        place = known.place;
        found_there = ap (found fn.name) grows.grows.names ∙ found_front fn.name f.scene.names _ (CEntry.Function known.place) known.found_there;
        declared = known.declared;
        there = ap (λ (fs : List CDeclared). slice_get fs known.place) grows.grows.functions ∙ known.there;
        is_defined = known.is_defined;
      }) f.functions is.known;
      texts = texts_grow named_scene u grows.grows is.texts;
      few = is.few;
    };
    globals = g ∷ [];
    all_globals = refl;
    functions = [];
    all_functions = sym (append-nil f.functions);
    names_are = refl;
    extends = tags_extend f.scene.structs u.structs grows.grows.structs;
    back = λ p ends.
        let before = ends_before p named_scene u grows.grows ends in
        record {
          extends = before.extends;
          objects = All-front (λ e. StandsAs (global_types p.globals) e.1) f.scene.names ((x, CEntry.Object (length f.globals) t) ∷ []) before.objects;
          texts = before.texts;
          functions = before.functions;
        };
    are_globals = λ p ends. All-cons (IsGlobalObject p) g [] (is_global p ends) (All-nil (IsGlobalObject p));
    are_functions = λ p ends. All-nil (IsDefinition p);
  }

  -- without an initializer all is zero
  zero_advances : (g : CFile) → (let r : Rule CFile = Ok (record f { scene = named_scene; globals = f.globals ++ record { name = x; ty = t; size = size_of f.scene.structs t; initial = [] } ∷ [] }) in r) ≡ Ok g → Advances numbers [] f g
  zero_advances g h =
      subst (Advances numbers [] f) (same_ok _ g h)
      (global_advances named_scene (record { name = x; ty = t; size = size_of f.scene.structs t; initial = [] }) (within_same named_scene) refl
      (λ p ends. record {
        type = type_later f.scene.structs p.structs ends.extends t formed;
        complete = complete_later f.scene.structs p.structs ends.extends t complete;
        size = sym (size_later f.scene.structs p.structs ends.extends t complete);
        initial_fits = omega arith;
        initial = All-nil (IsInitialByte p);
      }))

  module _ (laws : Laws) where
    bytes_advance : (line : ℕ) (i : InitializerTree) (v : CInitial × CScene) → InitializerInRange i → initialized true named_scene line t i ≡ Ok v
        → Advances numbers [] f (record f { scene = v.1; globals = f.globals ++ record { name = x; ty = t; size = size_of v.1.structs t; initial = initial_bytes v.1.structs t v.0 } ∷ [] })
    bytes_advance line i v range h =
        let grows = initialized_grows true named_scene line t i range v h in
        let u = v.1 in
        let later = tags_extend f.scene.structs u.structs grows.grows.structs in
        let type_there = type_later f.scene.structs u.structs later t formed in
        let complete_there = complete_later f.scene.structs u.structs later t complete in
        let formed_there = formed_on named_scene u grows formed_named in
        global_advances u (record { name = x; ty = t; size = size_of u.structs t; initial = initial_bytes u.structs t v.0 }) grows refl
        (λ p ends.
        let names = outside p (draft_types u.locals) in
        let is_initialized = initialized_is laws.operators names true named_scene line t i range formed_named formed v h (fits_outside p u ends) in
        let held = initialized_held p (at_structs names u.structs) (length-map p.globals (λ (g : CGlobal). g.ty)) refl laws.within laws.apart formed_there.structs
        (are_ranked u.structs (tags_ordered f.scene.structs u.structs grows.grows.structs is.ordered)) t v.0 type_there is_initialized in
        record {
          type = type_later u.structs p.structs ends.extends t type_there;
          complete = complete_later u.structs p.structs ends.extends t complete_there;
          size = sym (size_later u.structs p.structs ends.extends t complete_there);
          initial_fits = held.fits;
          initial = held.all;
        })

    initialized_advances : (line : ℕ) (init : Option InitializerTree) (g : CFile) → IfSome init InitializerInRange → initialized_global f named_scene line x t init ≡ Ok g → Advances numbers [] f g
    initialized_advances line None g range h = zero_advances g h
    initialized_advances line (Some i) g range h =
        let v = bound (initialized true named_scene line t i) _ g h in
        subst (Advances numbers [] f) (same_ok _ g v.2) (bytes_advance line i v.0 range v.1)

pub object_advances : (laws : Laws) (numbers : CDefinitions) (f : CFile) (at : At) (x : List ℕ) (base : CType) (ps : List CPart) (init : Option InitializerTree) (g : CFile) → IsFile numbers f → IsType f.scene.structs base → AreParts f.scene.structs ps
    → IfSome init InitializerInRange → declared_object f at x base ps init ≡ Ok g → Advances numbers [] f g
object_advances laws numbers f at x base ps init g is base_is are range h =
    let is_free = passes (object_is_taken f.scene x) (Twice at.line x) _ g h in
    let t = bound (file_type f.scene.structs at.line (is_main x) base (completed base init ps)) _ g is_free.1 in
    let made_type = file_type_is f.scene.structs at.line (is_main x) base (completed base init ps) t.0 base_is (completed_parts f.scene.structs base init ps range are) t.1 in
    initialized_advances numbers f x t.0 is made_type.type (made_type.complete refl) laws at.line init g range t.2
