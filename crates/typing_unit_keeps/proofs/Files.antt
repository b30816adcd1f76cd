-- What is known of a file so far, and how it goes on.
use Rattle.std.proofs.Common.{◌≡◌, ℕ, ◌<◌, ◌≤◌, true, List, [], ◌∷◌, ◌++◌, length, refl, sym, ◌∙◌, ap, subst, arith, append_assoc, append-nil}
use Rattle.std.specs.Prelude.{Some, All, map, slice_get}
use Rattle.std.proofs.lemmas.List.Elements.{All-nil, All-append, All-weaker}
use Rattle.typed_tree.specs.Types.{CType}
use Rattle.typed_tree.specs.TypedTree.{CStruct, CGlobal, CFunction, CProgram}
use Rattle.typed_tree.specs.TypedRules.{Prototype, prototype_of}
use Rattle.typed_tree.specs.Typed.{IsGlobalObject, IsFunction, IsString}
use Rattle.typing_expressions.specs.Names.{found}
use Rattle.typing_expressions.specs.Scene.{CScene, CEntry, CDeclared}
use Rattle.typing_unit_keeps.specs.Units.{CFile, CDefinitions, number_or_zero, is_main}
use Rattle.typing_unit_keeps.proofs.Steps.{front_kept}
use Rattle.typing_unit_keeps.proofs.Scenes.{AreStructs, IsFront, Extends, Grows, GrowsWithin, IsEntry, IsDeclared, IsDraft, Formed, StandsAs, prototype_by}
use Rattle.typing_unit_keeps.proofs.Later.{tags_extend, extends_then}
use Rattle.typing_unit_keeps.proofs.LaterStructs.{entry_later, declared_later, draft_later, formed_on}
use Rattle.typing_unit_keeps.proofs.Laid.{AreOrdered, tags_ordered}
use Rattle.typing_unit_keeps.proofs.StructDefinitions.{DefinesStruct}

abbrev pub global_types : List CGlobal → List CType
global_types globals = map (λ g. g.ty) globals

abbrev pub prototypes : List CFunction → List Prototype
prototypes functions = map prototype_of functions

abbrev pub function_names : List CFunction → List (List ℕ)
function_names functions = map (λ f. f.name) functions

-- a function that is declared by the name
pub record IsDeclaredAs (functions : List CDeclared) (place : ℕ) (x : List ℕ) : Type 0 where
  pub declared : CDeclared
  pub there : slice_get functions place ≡ Some declared
  pub name : declared.name ≡ x

-- what a name stands for is there: a global of the type, or a function of the name
abbrev pub IsThere : List CGlobal → List CDeclared → List ℕ × CEntry → Type 0
IsThere globals functions e = by e.1
  where
    by : CEntry → Type 0
    by (CEntry.Object n t) = slice_get (global_types globals) n ≡ Some t
    by (CEntry.Function k) = IsDeclaredAs functions k e.0

-- a declared function has the number of its name among the functions that the file defines
abbrev pub HasNumber : CDefinitions → CDeclared → Type 0
HasNumber numbers d = d.number ≡ number_or_zero (found d.name numbers)

-- a function that is defined is known by its name
pub record IsKnown (s : CScene) (x : List ℕ) : Type 0 where
  pub place : ℕ
  pub found_there : found x s.names ≡ Some (CEntry.Function place)
  pub declared : CDeclared
  pub there : slice_get s.functions place ≡ Some declared
  pub is_defined : declared.is_defined ≡ true

-- What is known of a file so far, where the functions that it defines have these numbers.
pub record IsFile (numbers : CDefinitions) (f : CFile) : Type 0 where
  pub scene : Formed f.scene
  pub ordered : AreOrdered f.scene.structs
  pub entries : All (IsThere f.globals f.scene.functions) f.scene.names
  pub numbered : All (HasNumber numbers) f.scene.functions
  pub defined : (k : ℕ) (d : CDeclared) → slice_get f.scene.functions k ≡ Some d → d.is_defined ≡ true → slice_get (prototypes f.functions) d.number ≡ Some (prototype_by d)
  pub known : All (λ (fn : CFunction). IsKnown f.scene fn.name) f.functions
  pub texts : All IsString f.scene.texts
  pub few : length f.functions ≤ 1000

-- A scene that the whole program ends: its structs are there, its objects, its strings, and the functions that are called.
pub record EndsIn (p : CProgram) (s : CScene) : Type 0 where
  pub extends : Extends s.structs p.structs
  pub objects : All (λ e. StandsAs (global_types p.globals) e.1) s.names
  pub texts : IsFront s.texts p.texts
  pub functions : (k : ℕ) (d : CDeclared) → slice_get s.functions k ≡ Some d → slice_get s.called k ≡ Some true → slice_get (prototypes p.functions) d.number ≡ Some (prototype_by d)

-- a function of the program; the one named main is `int main(void)`
pub record IsDefinition (p : CProgram) (f : CFunction) : Type 0 where
  pub function : IsFunction p f
  pub main : is_main f.name ≡ true → (f.result ≡ CType.Int) × (f.params ≡ 0)

-- What a part of the text adds to a file, which defines functions of these names.
pub record Advances (numbers : CDefinitions) (names : List (List ℕ)) (f g : CFile) : Type 0 where
  pub is_file : IsFile numbers g
  pub globals : List CGlobal
  pub all_globals : g.globals ≡ f.globals ++ globals
  pub functions : List CFunction
  pub all_functions : g.functions ≡ f.functions ++ functions
  pub names_are : function_names functions ≡ names
  pub extends : Extends f.scene.structs g.scene.structs
  pub back : (p : CProgram) → EndsIn p g.scene → EndsIn p f.scene
  pub are_globals : (p : CProgram) → EndsIn p g.scene → All (IsGlobalObject p) globals
  pub are_functions : (p : CProgram) → EndsIn p g.scene → All (IsDefinition p) functions

names_append : (xs ys : List CFunction) → function_names (xs ++ ys) ≡ function_names xs ++ function_names ys
names_append [] ys = refl
names_append (x ∷ xs) ys = ap (λ names. x.name ∷ names) (names_append xs ys)

pub advances_then : (numbers : CDefinitions) (xs ys : List (List ℕ)) (f g h : CFile) → Advances numbers xs f g → Advances numbers ys g h → Advances numbers (xs ++ ys) f h
advances_then numbers xs ys f g h a b = record {
  is_file = b.is_file;
  globals = a.globals ++ b.globals;
  all_globals = b.all_globals ∙ ap (λ gs. gs ++ b.globals) a.all_globals ∙ append_assoc f.globals a.globals b.globals;
  functions = a.functions ++ b.functions;
  all_functions = b.all_functions ∙ ap (λ fs. fs ++ b.functions) a.all_functions ∙ append_assoc f.functions a.functions b.functions;
  names_are = names_append a.functions b.functions ∙ ap (λ names. names ++ function_names b.functions) a.names_are ∙ ap (λ names. xs ++ names) b.names_are;
  extends = extends_then f.scene.structs g.scene.structs h.scene.structs a.extends b.extends;
  back = λ p ends. a.back p (b.back p ends);
  are_globals = λ p ends. All-append (IsGlobalObject p) a.globals b.globals (a.are_globals p (b.back p ends)) (b.are_globals p ends);
  are_functions = λ p ends. All-append (IsDefinition p) a.functions b.functions (a.are_functions p (b.back p ends)) (b.are_functions p ends);
}

-- a part that defines nothing and declares no object
pub advances_scene : (numbers : CDefinitions) (f : CFile) (u : CScene) → IsFile numbers (record f { scene = u }) → Extends f.scene.structs u.structs → ((p : CProgram) → EndsIn p u → EndsIn p f.scene)
    → Advances numbers [] f (record f { scene = u })
advances_scene numbers f u is extends back = record {
  is_file = is;
  globals = [];
  all_globals = sym (append-nil f.globals);
  functions = [];
  all_functions = sym (append-nil f.functions);
  names_are = refl;
  extends = extends;
  back = back;
  are_globals = λ p ends. All-nil (IsGlobalObject p);
  are_functions = λ p ends. All-nil (IsDefinition p);
}

pub ends_before : (p : CProgram) (s u : CScene) → Grows s u → EndsIn p u → EndsIn p s
ends_before p s u g ends = record {
  extends = extends_then s.structs u.structs p.structs (tags_extend s.structs u.structs g.structs) ends.extends;
  objects = subst (All (λ e. StandsAs (global_types p.globals) e.1)) g.names ends.objects;
  texts = λ k x h. ends.texts k x (ap (λ (texts : List (List ℕ)). slice_get texts k) g.texts.texts ∙ front_kept s.texts g.texts.more k x h);
  functions = λ k d there flag. ends.functions k d (ap (λ (fs : List CDeclared). slice_get fs k) g.functions ∙ there) (g.called.kept k flag);
}

known_later : (s u : CScene) (x : List ℕ) → u.names ≡ s.names → u.functions ≡ s.functions → IsKnown s x → IsKnown u x
known_later s u x names functions is = record {
  place = is.place;
  found_there = ap (found x) names ∙ is.found_there;
  declared = is.declared;
  there = ap (λ (fs : List CDeclared). slice_get fs is.place) functions ∙ is.there;
  is_defined = is.is_defined;
}

-- what names stand for stays there, if names and functions are the same
pub file_kept : (numbers : CDefinitions) (f : CFile) (u : CScene) → IsFile numbers f → Formed u → AreOrdered u.structs → u.names ≡ f.scene.names → u.functions ≡ f.scene.functions → All IsString u.texts → IsFile numbers (record f { scene = u })
file_kept numbers f u is formed ordered names functions texts = record {
  scene = formed;
  ordered = ordered;
  entries =
      subst (λ fs. All (IsThere f.globals fs) u.names) (sym functions)
      (subst (All (IsThere f.globals f.scene.functions)) (sym names) is.entries);
  numbered = subst (All (HasNumber numbers)) (sym functions) is.numbered;
  defined = λ k d there. is.defined k d (ap (λ (fs : List CDeclared). slice_get fs k) (sym functions) ∙ there);
  known = All-weaker (λ (fn : CFunction). IsKnown f.scene fn.name) (λ (fn : CFunction). IsKnown u fn.name) (λ fn. known_later f.scene u fn.name names functions) f.functions is.known;
  texts = texts;
  few = is.few;
}

pub texts_grow : (s u : CScene) → Grows s u → All IsString s.texts → All IsString u.texts
texts_grow s u g all = subst (All IsString) (sym g.texts.texts) (All-append IsString s.texts g.texts.more all g.texts.are_strings)

-- an expression, a specifier, a declarator
pub grown_advances : (numbers : CDefinitions) (f : CFile) (u : CScene) → IsFile numbers f → GrowsWithin f.scene u → Advances numbers [] f (record f { scene = u })
grown_advances numbers f u is g =
    advances_scene numbers f u
    (file_kept numbers f u is (formed_on f.scene u g is.scene) (tags_ordered f.scene.structs u.structs g.grows.structs is.ordered) g.grows.names g.grows.functions
    (texts_grow f.scene u g.grows is.texts))
    (tags_extend f.scene.structs u.structs g.grows.structs) (λ p ends. ends_before p f.scene u g.grows ends)

-- a scene with later structs
formed_with : (s : CScene) (structs : List CStruct) → Extends s.structs structs → AreStructs structs → Formed s → Formed (record s { structs = structs })
formed_with s structs later all formed = record {
  structs = all;
  tags = All-weaker (λ e. e.1 < length s.structs) (λ e. e.1 < length structs) (λ e h. let longer = later.longer in omega arith) s.tags formed.tags;
  names = All-weaker (λ e. IsEntry s.structs e.1) (λ e. IsEntry structs e.1) (λ e. entry_later s.structs structs later e.1) s.names formed.names;
  functions = All-weaker (IsDeclared s.structs) (IsDeclared structs) (declared_later s.structs structs later) s.functions formed.functions;
  called = formed.called;
  locals = All-weaker (IsDraft s.structs) (IsDraft structs) (draft_later s.structs structs later) s.locals formed.locals;
  scopes = formed.scopes;
}

-- a struct is defined
structs_advance : (numbers : CDefinitions) (f : CFile) (structs : List CStruct) → IsFile numbers f → Extends f.scene.structs structs → AreStructs structs → AreOrdered structs
    → Advances numbers [] f (record f { scene = record f.scene { structs = structs } })
structs_advance numbers f structs is later all ordered =
    advances_scene numbers f (record f.scene { structs = structs })
    (file_kept numbers f (record f.scene { structs = structs }) is (formed_with f.scene structs later all is.scene) ordered refl refl is.texts)
    later (λ p ends. record { extends = extends_then f.scene.structs structs p.structs later ends.extends; objects = ends.objects; texts = ends.texts; functions = ends.functions })

pub definition_advances : (numbers : CDefinitions) (f : CFile) (r : ℕ × CScene) → IsFile numbers f → DefinesStruct f.scene r → Advances numbers [] f (record f { scene = r.1 })
definition_advances numbers f r is d =
    let first = grown_advances numbers f d.before is d.grows in
    let middle : CFile = record f { scene = d.before } in
    let second = structs_advance numbers middle d.structs first.is_file d.extends d.are_structs d.ordered in
    subst (λ u. Advances numbers [] f (record f { scene = u })) (sym d.after)
    (advances_then numbers [] [] f middle (record f { scene = record d.before { structs = d.structs } }) first second)
