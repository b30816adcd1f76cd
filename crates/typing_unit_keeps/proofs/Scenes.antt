-- How a scene grows along the text, what is known of it, and when its names stand in the environment of the whole program.
use Rattle.std.specs.Prelude.{◌≡◌, ℕ, ◌<◌, ◌≤◌, true, Bool, All, Some, List, [], ◌++◌, length, map, slice_get}
use Rattle.typed_tree.specs.Types.{CType}
use Rattle.typed_tree.specs.TypedTree.{CStruct}
use Rattle.typed_tree.specs.Sizes.{IsType, IsComplete, has_members}
use Rattle.typed_tree.specs.Typed.{IsStruct, IsString}
use Rattle.typed_tree.specs.TypedRules.{Prototype}
use Rattle.typed_tree.specs.TypedBody.{Environment}
use Rattle.typing_expressions.specs.Scene.{CScene, CEntry, CDeclared, CDraft, CLocalName}

-- the environment at these structs
abbrev pub at_structs : Environment → List CStruct → Environment
at_structs names structs = record names { structs = structs }

-- each struct has the layout that its members give it
abbrev pub AreStructs : List CStruct → Type 0
AreStructs structs = All (IsStruct structs) structs

-- a tag that is mentioned and not defined
pub record IsTag (s : CStruct) : Type 0 where
  pub members : s.members ≡ []
  pub size : s.size ≡ 0
  pub align : s.align ≡ 1

-- what stands at a place of one list stands there in the other
abbrev pub IsFront : {A : Type 0} → List A → List A → Type 0
IsFront {A} xs ys = (k : ℕ) (x : A) → slice_get xs k ≡ Some x → slice_get ys k ≡ Some x

-- Later structs: there may be more, and those that are defined already are the same.
pub record Extends (old new : List CStruct) : Type 0 where
  pub longer : length old ≤ length new
  pub kept : (k : ℕ) (s : CStruct) → slice_get old k ≡ Some s → has_members (Some s) ≡ true → slice_get new k ≡ Some s

-- Later structs that have more tags alone.
pub record HasMoreTags (old new : List CStruct) : Type 0 where
  pub tags : List CStruct
  pub structs : new ≡ old ++ tags
  pub are_tags : All IsTag tags

-- the numbers of tags are those of structs
abbrev pub AreNumbered : List CStruct → List (List ℕ × ℕ) → Type 0
AreNumbered structs tags = All (λ e. e.1 < length structs) tags

-- more of the functions are called
pub record AreCalled (old new : List Bool) : Type 0 where
  pub same_length : length new ≡ length old
  pub kept : (k : ℕ) → slice_get old k ≡ Some true → slice_get new k ≡ Some true

-- more strings
pub record HasMoreTexts (old new : List (List ℕ)) : Type 0 where
  pub more : List (List ℕ)
  pub texts : new ≡ old ++ more
  pub are_strings : All IsString more

-- What an expression makes of a scene, but for its scopes and its locals: it may have more tags and strings, and more
-- functions are called.
pub record Grows (s u : CScene) : Type 0 where
  pub structs : HasMoreTags s.structs u.structs
  pub tags : AreNumbered s.structs s.tags → AreNumbered u.structs u.tags
  pub names : u.names ≡ s.names
  pub functions : u.functions ≡ s.functions
  pub texts : HasMoreTexts s.texts u.texts
  pub called : AreCalled s.called u.called

-- what an expression makes of a scene
pub record GrowsWithin (s u : CScene) : Type 0 where
  pub grows : Grows s u
  pub locals : u.locals ≡ s.locals
  pub scopes : u.scopes ≡ s.scopes

abbrev pub draft_types : List CDraft → List CType
draft_types locals = map (λ l. l.ty) locals

-- the type of an object at file scope may be formed
abbrev pub IsEntry : List CStruct → CEntry → Type 0
IsEntry structs (CEntry.Object n t) = IsType structs t
IsEntry structs (CEntry.Function k) = Unit {0}

-- the types of a declared function may be formed
pub record IsDeclared (structs : List CStruct) (f : CDeclared) : Type 0 where
  pub result : IsType structs f.result
  pub params : All (IsType structs) f.params

-- a local has a complete type
pub record IsDraft (structs : List CStruct) (l : CDraft) : Type 0 where
  pub type : IsType structs l.ty
  pub complete : IsComplete structs l.ty

-- a name of a scope stands for a local
abbrev pub IsNamed : List CDraft → List ℕ × CLocalName → Type 0
IsNamed locals e = slice_get (draft_types locals) e.1.number ≡ Some e.1.ty

-- A scene in which all that is declared is well formed.
pub record Formed (s : CScene) : Type 0 where
  pub structs : AreStructs s.structs
  pub tags : AreNumbered s.structs s.tags
  pub names : All (λ e. IsEntry s.structs e.1) s.names
  pub functions : All (IsDeclared s.structs) s.functions
  pub called : length s.called ≡ length s.functions
  pub locals : All (IsDraft s.structs) s.locals
  pub scopes : All (λ names. All (IsNamed s.locals) names) s.scopes

-- an object at file scope is a global of the environment
abbrev pub StandsAs : List CType → CEntry → Type 0
StandsAs globals (CEntry.Object n t) = slice_get globals n ≡ Some t
StandsAs globals (CEntry.Function k) = Unit {0}

abbrev pub prototype_by : CDeclared → Prototype
prototype_by f = record { result = f.result; params = f.params }

-- The names of a scene stand in the environment: its locals are the first ones, its strings too, its objects are globals,
-- and the functions that are called by now have their prototypes.
pub record Fits (names : Environment) (s : CScene) : Type 0 where
  pub locals : IsFront (draft_types s.locals) names.locals
  pub objects : All (λ e. StandsAs names.globals e.1) s.names
  pub texts : IsFront s.texts names.texts
  pub functions : (k : ℕ) (f : CDeclared) → slice_get s.functions k ≡ Some f → slice_get s.called k ≡ Some true → slice_get names.functions f.number ≡ Some (prototype_by f)
