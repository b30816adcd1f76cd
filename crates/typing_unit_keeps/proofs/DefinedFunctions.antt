-- The functions of a file.
use Rattle.std.proofs.Common.{◌≡◌, ℕ, ◌+◌, Bool, true, false, ◌⊎◌, inl, inr, List, [], ◌∷◌, ◌++◌, length, refl, sym, ◌∙◌, ap, subst, arith, append-nil}
use Rattle.std.specs.Prelude.{Some, Ok, All, take, slice_get, is_some}
use Rattle.std.proofs.lemmas.List.{length-map, length-append, map_push}
use Rattle.std.proofs.lemmas.List.Elements.{All-nil, All-cons, All-push, All-weaker}
use Rattle.c_words.specs.declared.place.At.{At}
use Rattle.syntax_tree.specs.Syntax.{BlockTree}
use Rattle.typed_tree.specs.Types.{CType, is_array, IsScalar}
use Rattle.typed_tree.specs.TypedTree.{CStmt, CFunction, CProgram}
use Rattle.typed_tree.specs.Sizes.{IsType}
use Rattle.typed_tree.specs.TypedRules.{prototype_of}
use Rattle.typed_tree.specs.TypedBody.{Environment}
use Rattle.typed_tree.specs.Typed.{IsString, IsFunction, IsGlobalObject, environment_of}
use Rattle.typing_operators.specs.declared.error.TypeError.TheVariants.{Twice}
use Rattle.typing_expressions.specs.Names.{found}
use Rattle.typing_expressions.specs.Scene.{CScene, CDeclared}
use Rattle.typing_expressions.specs.Parts.{CParam, CPart}
use Rattle.typing_expressions.specs.Expressions.{in_library}
use Rattle.typing_statements.specs.Statements.{CAround, block}
use Rattle.typing_unit_keeps.specs.Units.{CFile, CDefinitions, number_or_zero, function_is_taken, function_type, param_types, with_function, begun, ended, finished, declared_function, defined_function}
use Rattle.syntax_in_range.specs.InRange.{BlockInRange}
use Rattle.typing_unit_keeps.proofs.Steps.{passes, bound, same_ok, All-slice_get, front_kept, at_end}
use Rattle.typing_unit_keeps.proofs.Scenes.{Formed, Fits, Extends, prototype_by}
use Rattle.typing_unit_keeps.proofs.Later.{type_later, extends_same, extends_then}
use Rattle.typing_unit_keeps.proofs.LaterStatements.{stmt_later}
use Rattle.typing_unit_keeps.proofs.MadeTypes.{AreParams, AreParts}
use Rattle.typing_unit_keeps.proofs.Laid.{AreOrdered, tags_ordered}
use Rattle.typing_unit_keeps.proofs.Goes.{Goes, extended}
use Rattle.typing_unit_keeps.proofs.StatementTypes.{block_is, block_is_block}
use Rattle.typing_unit_keeps.proofs.Files.{prototypes, HasNumber, IsThere, IsKnown, IsFile, EndsIn, IsDefinition, Advances, advances_scene, ends_before, texts_grow}
use Rattle.typing_unit_keeps.proofs.GlobalObjects.{Laws}
use Rattle.typing_unit_keeps.proofs.FunctionTypes.{IsFunctionType, function_type_is}
use Rattle.typing_unit_keeps.proofs.DeclaredFunctions.{IsSame, Declares, declares, same_prototype}
use Rattle.typing_unit_keeps.proofs.FunctionBodies.{param_drafts, params_scalar, params_types, Begins, begun_is, ended_formed, local_types, finished_types, finished_objects, All-types, taken_params, enough_locals}

-- what a function's declarator was found to be, and the scene in which it is declared
record IsDeclaredFunction (numbers : CDefinitions) (f : CFile) (x : List ℕ) (params : List CParam) (defines : Bool) (r : CType × CFile) : Type 0 where
  type : IsFunctionType f x params defines r.0
  scene : CScene
  declares_it : Declares numbers f x r.0 (param_types params) defines scene
  file : r.1 ≡ record f { scene = scene }

declared_is : (numbers : CDefinitions) (f : CFile) (at : At) (x : List ℕ) (base : CType) (params : List CParam) (ps : List CPart) (defines has_initializer : Bool) (r : CType × CFile) → IsFile numbers f
    → IsType f.scene.structs base → is_array base ≡ false → AreParts f.scene.structs ps → AreParams f.scene.structs params
    → declared_function numbers f at x base params ps defines has_initializer ≡ Ok r → IsDeclaredFunction numbers f x params defines r
declared_is numbers f at x base params ps defines has_initializer r is base_is no_array are are_params h =
    let is_free = passes (function_is_taken f.scene defines (found x f.scene.names) (is_some (in_library x))) (Twice at.line x) _ r h in
    let t = bound (function_type f at.line x base params ps defines has_initializer) _ r is_free.1 in
    let type = function_type_is f at.line x base params ps defines has_initializer t.0 base_is no_array are t.1 in
    subst (IsDeclaredFunction numbers f x params defines) (same_ok _ r t.2) (record {
      type = type;
      scene = with_function numbers f.scene at.line x t.0 (param_types params) defines (found x f.scene.names);
      declares_it = declares numbers f is at.line x t.0 (param_types params) defines is_free.0 type.again type.type (params_types f.scene.structs params are_params);
      file = refl;
    })

-- ---- a declaration

module _ (numbers : CDefinitions) (f : CFile) (is : IsFile numbers f) (x : List ℕ) (t : CType) (params : List CType) where
  defined_before : (u : CScene) → Declares numbers f x t params false u → (k : ℕ) (d : CDeclared) → slice_get u.functions k ≡ Some d → d.is_defined ≡ true → slice_get (prototypes f.functions) d.number ≡ Some (prototype_by d)
  defined_before u declared k d there is_defined = by (declared.others k d there is_defined)
    where
      by : ((k ≡ declared.place) × (false ≡ true)) ⊎ (e : CDeclared) × (slice_get f.scene.functions k ≡ Some e) × (e.is_defined ≡ true) × IsSame e d → slice_get (prototypes f.functions) d.number ≡ Some (prototype_by d)
      by (inl h) = absurd (apart h.1)
        where
          apart : false ≡ true → ⊥
          apart h = cc
      by (inr h) = ap (slice_get (prototypes f.functions)) h.3.number ∙ is.defined k h.0 h.1 h.2 ∙ ap Some (sym (same_prototype h.0 d h.3))

  prototype_advances : (u : CScene) → Declares numbers f x t params false u → Advances numbers [] f (record f { scene = u })
  prototype_advances u declared =
      advances_scene numbers f u (record {
        scene = declared.formed;
        ordered = subst AreOrdered (sym declared.structs) is.ordered;
        entries = declared.entries;
        numbered = declared.numbered;
        defined = defined_before u declared;
        known = All-weaker (λ (fn : CFunction). IsKnown f.scene fn.name) (λ (fn : CFunction). IsKnown u fn.name) (λ fn known. declared.known fn.name known) f.functions is.known;
        texts = subst (All IsString) (sym declared.texts) is.texts;
        few = is.few;
      }) (subst (Extends f.scene.structs) (sym declared.structs) (extends_same f.scene.structs)) declared.back

pub declaration_advances : (numbers : CDefinitions) (f : CFile) (at : At) (x : List ℕ) (base : CType) (params : List CParam) (ps : List CPart) (has_initializer : Bool) (r : CType × CFile) → IsFile numbers f
    → IsType f.scene.structs base → is_array base ≡ false → AreParts f.scene.structs ps → AreParams f.scene.structs params
    → declared_function numbers f at x base params ps false has_initializer ≡ Ok r → Advances numbers [] f r.1
declaration_advances numbers f at x base params ps has_initializer r is base_is no_array are are_params h =
    let d = declared_is numbers f at x base params ps false has_initializer r is base_is no_array are are_params h in
    subst (Advances numbers [] f) (sym d.file) (prototype_advances numbers f is x r.0 (param_types params) d.scene d.declares_it)

-- ---- a definition

-- the function of a body and its locals
abbrev function_by : At → List ℕ → CType → List CParam → CStmt × CScene → CFunction
function_by at x t params y = record {
  name = x;
  line = at.line;
  result = t;
  params = length params;
  locals = finished y.1.structs y.0 0 y.1.locals;
  body = y.0;
}

module _ (laws : Laws) (numbers : CDefinitions) (f : CFile) (is : IsFile numbers f) (at : At) (x : List ℕ) (t : CType) (params : List CParam)
    (type : IsFunctionType f x params true t) (are_params : AreParams f.scene.structs params)
    (u : CScene) (declared : Declares numbers f x t (param_types params) true u)
    (next : found x numbers ≡ Some (length f.functions))
    (body : BlockTree) (range : BlockInRange body) (y : CStmt × CScene) (is_body : block (record { result = t; in_loop = false }) (begun u params) body ≡ Ok y) where
  abbrev around : CAround
  around = record { result = t; in_loop = false }

  abbrev function : CFunction
  function = function_by at x t params y

  begins : Begins u params (begun u params)
  begins = begun_is u params declared.formed (subst (λ structs. AreParams structs params) (sym declared.structs) are_params)

  result_there : IsType (begun u params).structs t
  result_there =
      type_later u.structs (begun u params).structs (extended (record u { locals = []; scopes = [] ∷ [] }) (begun u params) begins.goes) t
      (subst (λ structs. IsType structs t) (sym declared.structs) type.type)

  goes : Goes (begun u params) y.1
  goes = (block_is laws.operators (outside_with t) around (begun u params) body range begins.formed (record { result = refl; type = result_there }) y is_body).goes
    where
      outside_with : CType → Environment
      outside_with t = record { structs = []; globals = []; texts = []; functions = []; locals = []; result = t }

  formed_after : Formed y.1
  formed_after = goes.formed begins.formed

  names_after : y.1.names ≡ u.names
  names_after = goes.grows.names ∙ begins.goes.grows.names

  functions_after : y.1.functions ≡ u.functions
  functions_after = goes.grows.functions ∙ begins.goes.grows.functions

  locals_after : y.1.locals ≡ param_drafts params ++ goes.more
  locals_after = goes.locals ∙ ap (λ ls. ls ++ goes.more) begins.locals

  -- the function's prototype is the declared one
  param_types_are : local_types (take (length params) function.locals) ≡ param_types params
  param_types_are = taken_params y.1.structs y.0 params y.1.locals goes.more locals_after

  prototype_is : prototype_of function ≡ prototype_by declared.declared
  prototype_is =
      ap (λ ts. record { result = t; params = ts }) (param_types_are ∙ sym declared.params_are)
      ∙ ap (λ r. record { result = r; params = declared.declared.params }) (sym declared.result)

  number_is : declared.declared.number ≡ length f.functions
  number_is =
      All-slice_get (HasNumber numbers) u.functions declared.place declared.declared declared.numbered declared.there
      ∙ ap (λ name. number_or_zero (found name numbers)) declared.name ∙ ap number_or_zero next

  prototypes_after : prototypes (f.functions ++ function ∷ []) ≡ prototypes f.functions ++ prototype_of function ∷ []
  prototypes_after = map_push prototype_of f.functions function

  -- each function that is defined by now is among those of the file
  defined_after : (k : ℕ) (d : CDeclared) → slice_get y.1.functions k ≡ Some d → d.is_defined ≡ true → slice_get (prototypes (f.functions ++ function ∷ [])) d.number ≡ Some (prototype_by d)
  defined_after k d there is_defined = by (declared.others k d here is_defined)
    where
      here : slice_get u.functions k ≡ Some d
      here = ap (λ (fs : List CDeclared). slice_get fs k) (sym functions_after) ∙ there

      same : (e : CDeclared) → Some declared.declared ≡ Some e → declared.declared ≡ e
      same e h = cc

      last : slice_get (prototypes (f.functions ++ function ∷ [])) (length f.functions) ≡ Some (prototype_of function)
      last =
          ap (λ ps. slice_get ps (length f.functions)) prototypes_after
          ∙ ap (slice_get (prototypes f.functions ++ prototype_of function ∷ [])) (sym (length-map f.functions prototype_of))
          ∙ at_end (prototypes f.functions) [] (prototype_of function)

      by : ((k ≡ declared.place) × (true ≡ true)) ⊎ (e : CDeclared) × (slice_get f.scene.functions k ≡ Some e) × (e.is_defined ≡ true) × IsSame e d
          → slice_get (prototypes (f.functions ++ function ∷ [])) d.number ≡ Some (prototype_by d)
      by (inl h) =
          let it = same d (sym declared.there ∙ ap (slice_get u.functions) (sym h.0) ∙ here) in
          subst (λ (e : CDeclared). slice_get (prototypes (f.functions ++ function ∷ [])) e.number ≡ Some (prototype_by e)) it
          (ap (slice_get (prototypes (f.functions ++ function ∷ []))) number_is ∙ last ∙ ap Some prototype_is)
      by (inr h) =
          ap (λ ps. slice_get ps d.number) prototypes_after
          ∙ front_kept (prototypes f.functions) (prototype_of function ∷ []) d.number (prototype_by d)
          (ap (slice_get (prototypes f.functions)) h.3.number ∙ is.defined k h.0 h.1 h.2 ∙ ap Some (sym (same_prototype h.0 d h.3)))

  known_after : (name : List ℕ) → IsKnown u name → IsKnown (ended y.1) name
  known_after name known = record {
    place = known.place;
    found_there = ap (found name) names_after ∙ known.found_there;
    declared = known.declared;
    there = ap (λ (fs : List CDeclared). slice_get fs known.place) functions_after ∙ known.there;
    is_defined = known.is_defined;
  }

  own_known : IsKnown u x
  own_known = record { place = declared.place; found_there = declared.found_there; declared = declared.declared; there = declared.there; is_defined = declared.is_defined refl }

  ordered_after : AreOrdered y.1.structs
  ordered_after =
      tags_ordered (begun u params).structs y.1.structs goes.grows.structs
      (tags_ordered u.structs (begun u params).structs begins.goes.grows.structs (subst AreOrdered (sym declared.structs) is.ordered))

  texts_after : All IsString y.1.texts
  texts_after = texts_grow (begun u params) y.1 goes.grows (texts_grow (record u { locals = []; scopes = [] ∷ [] }) (begun u params) begins.goes.grows (subst (All IsString) (sym declared.texts) is.texts))

  abbrev file_after : CFile
  file_after = record f { scene = ended y.1; functions = f.functions ++ function ∷ [] }

  is_file_after : IsFile numbers file_after
  is_file_after = record {
    scene = ended_formed y.1 formed_after;
    ordered = ordered_after;
    entries =
        subst (λ fs. All (IsThere f.globals fs) y.1.names) (sym functions_after)
        (subst (All (IsThere f.globals u.functions)) (sym names_after) declared.entries);
    numbered = subst (All (HasNumber numbers)) (sym functions_after) declared.numbered;
    defined = defined_after;
    known = All-push (λ (fn : CFunction). IsKnown (ended y.1) fn.name) f.functions function
        (All-weaker (λ (fn : CFunction). IsKnown f.scene fn.name) (λ (fn : CFunction). IsKnown (ended y.1) fn.name) (λ fn known. known_after fn.name (declared.known fn.name known)) f.functions is.known)
        (known_after x own_known);
    texts = texts_after;
    few =
        let room = type.room refl in
        let more : length (f.functions ++ function ∷ []) ≡ length f.functions + 1 = length-append f.functions (function ∷ []) in
        omega arith;
  }

  -- the whole program, at the end of the body
  ends_body : (p : CProgram) → EndsIn p (ended y.1) → EndsIn p y.1
  ends_body p ends = record { extends = ends.extends; objects = ends.objects; texts = ends.texts; functions = ends.functions }

  back_after : (p : CProgram) → EndsIn p (ended y.1) → EndsIn p f.scene
  back_after p ends =
      let started = ends_before p (begun u params) y.1 goes.grows (ends_body p ends) in
      let empty = ends_before p (record u { locals = []; scopes = [] ∷ [] }) (begun u params) begins.goes.grows started in
      declared.back p (record { extends = empty.extends; objects = empty.objects; texts = empty.texts; functions = empty.functions })

  fits_body : (p : CProgram) → EndsIn p (ended y.1) → Fits (environment_of p function) y.1
  fits_body p ends = record {
    locals = λ k t h. ap (λ ts. slice_get ts k) (finished_types y.1.structs y.0 0 y.1.locals) ∙ h;
    objects = ends.objects;
    texts = ends.texts;
    functions = ends.functions;
  }

  function_is : (p : CProgram) → EndsIn p (ended y.1) → IsFunction p function
  function_is p ends =
      let names = environment_of p function in
      let typed = (block_is laws.operators names around (begun u params) body range begins.formed (record { result = refl; type = result_there }) y is_body).is begins.formed (fits_body p ends) in
      record {
        result_type = type_later f.scene.structs p.structs (back_after p ends).extends t type.type;
        result = type.result;
        params_few = type.few;
        params_within = enough_locals y.1.structs y.0 params y.1.locals goes.more locals_after;
        params = All-types IsScalar (take (length params) function.locals) (subst (All IsScalar) (sym param_types_are) (params_scalar f.scene.structs params are_params type.no_struct));
        locals = finished_objects p function y.1.structs y.1.locals ends.extends formed_after.locals refl;
        block = block_is_block around (begun u params) body y is_body;
        body = stmt_later y.1.structs p.structs ends.extends names false y.0 typed;
      }

  extends_body : Extends f.scene.structs y.1.structs
  extends_body =
      subst (λ structs. Extends structs y.1.structs) declared.structs
      (extends_then u.structs (begun u params).structs y.1.structs (extended (record u { locals = []; scopes = [] ∷ [] }) (begun u params) begins.goes) (extended (begun u params) y.1 goes))

  function_advances : Advances numbers (x ∷ []) f file_after
  function_advances = record {
    is_file = is_file_after;
    globals = [];
    all_globals = sym (append-nil f.globals);
    functions = function ∷ [];
    all_functions = refl;
    names_are = refl;
    extends = extends_body;
    back = back_after;
    are_globals = λ p ends. All-nil (IsGlobalObject p);
    are_functions = λ p ends. All-cons (IsDefinition p) function [] (record {
      function = function_is p ends;
      main = λ h. let main = type.main h in (main.0, ap length main.1);
    }) (All-nil (IsDefinition p));
  }

pub body_advances : (laws : Laws) (numbers : CDefinitions) (f : CFile) (at : At) (x : List ℕ) (base : CType) (params : List CParam) (ps : List CPart) (body : BlockTree) (r : CType × CFile) (g : CFile) → IsFile numbers f
    → IsType f.scene.structs base → is_array base ≡ false → AreParts f.scene.structs ps → AreParams f.scene.structs params → found x numbers ≡ Some (length f.functions) → BlockInRange body
    → declared_function numbers f at x base params ps true false ≡ Ok r → defined_function r.1 at x r.0 params body ≡ Ok g → Advances numbers (x ∷ []) f g
body_advances laws numbers f at x base params ps body r g is base_is no_array are are_params next range h i =
    let d = declared_is numbers f at x base params ps true false r is base_is no_array are are_params h in
    let j : defined_function (record f { scene = d.scene }) at x r.0 params body ≡ Ok g = subst (λ h. defined_function h at x r.0 params body ≡ Ok g) d.file i in
    let y = bound (block (record { result = r.0; in_loop = false }) (begun d.scene params) body) _ g j in
    subst (Advances numbers (x ∷ []) f) (same_ok _ g y.2) (function_advances laws numbers f is at x r.0 params d.type are_params d.scene d.declares_it next body range y.0 y.1)
