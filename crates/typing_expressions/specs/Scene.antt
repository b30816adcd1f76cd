-- What typing carries through the text: what is declared so far (C11 6.2.1, 6.2.3).
use Rattle.std.specs.Prelude.{ℕ, Bool, List, [], ◌∷◌, map, Option, None}
use Rattle.typed_tree.specs.Types.{CType}
use Rattle.typed_tree.specs.TypesViewed.{ty_of}
use Rattle.typed_tree.specs.TypedTree.{CStruct}
use Rattle.typed_tree.specs.TypedViews.{struct_of}
use Rattle.typing_expressions.specs.Names.{found, or_else}
use Rattle.typing_expressions.specs.declared.scene.LocalName.{LocalName}
use Rattle.typing_expressions.specs.declared.scene.Entry.{Entry}
use Rattle.typing_expressions.specs.declared.scene.Entry.TheVariants as entries
use Rattle.typing_expressions.specs.declared.scene.Declared.{Declared}
use Rattle.typing_expressions.specs.declared.scene.Draft.{Draft}
use Rattle.typing_expressions.specs.declared.scene.Scene.{Scene}

-- a local, as a name of a scope
pub record CLocalName : Type 0 where
  pub number : ℕ
  pub ty : CType

-- what a name stands for at file scope: a global object, or a function by its place among those that are declared
pub data CEntry : Type 0 where
  Object : (number : ℕ) (ty : CType) → CEntry
  Function : (place : ℕ) → CEntry

-- A function that is declared: the line of its first declaration, its number among the functions that the file defines,
-- and its type.
pub record CDeclared : Type 0 where
  pub name : List ℕ
  pub line : ℕ
  pub number : ℕ
  pub result : CType
  pub params : List CType
  pub is_defined : Bool

-- a local of the function that is being typed
pub record CDraft : Type 0 where
  pub name : List ℕ
  pub ty : CType

-- What is declared so far. Tags have file scope (here), in order of their first mention, and each has its number in the
-- list of structs. `functions` are in order of declaration, and `called` tells which of them a call names. `scopes` are
-- those of the blocks around, the outermost first; `locals` are all of the function, also those whose scope has ended.
pub record CScene : Type 0 where
  pub structs : List CStruct
  pub tags : List (List ℕ × ℕ)
  pub texts : List (List ℕ)
  pub names : List (List ℕ × CEntry)
  pub functions : List CDeclared
  pub called : List Bool
  pub locals : List CDraft
  pub scopes : List (List (List ℕ × CLocalName))

-- what the program's own records stand for

abbrev pub local_of : LocalName → CLocalName
local_of l = record { number = l.number; ty = ty_of l.ty }

abbrev pub entry_of : Entry → CEntry
entry_of (entries.Object n t) = CEntry.Object n (ty_of t)
entry_of (entries.Function k) = CEntry.Function k

abbrev pub declared_of : Declared → CDeclared
declared_of f = record {
  name = f.name;
  line = f.line;
  number = f.number;
  result = ty_of f.result;
  params = map ty_of f.params.items;
  is_defined =
      f.is_defined;
}

abbrev pub draft_of : Draft → CDraft
draft_of l = record { name = l.name; ty = ty_of l.ty }

abbrev pub named_by : {A B : Type 0} → (A → B) → List ℕ × A → List ℕ × B
named_by f e = (e.0, f e.1)

abbrev pub names_of : List (List ℕ × Entry) → List (List ℕ × CEntry)
names_of es = map (named_by entry_of) es

abbrev pub scope_of : List (List ℕ × LocalName) → List (List ℕ × CLocalName)
scope_of es = map (named_by local_of) es

abbrev pub scopes_of : List (List (List ℕ × LocalName)) → List (List (List ℕ × CLocalName))
scopes_of ss = map scope_of ss

abbrev pub scene_of : Scene → CScene
scene_of s = record {
  structs = map struct_of s.structs.items;
  tags = s.tags;
  texts = s.texts.items;
  names = names_of s.names;
  functions = map declared_of s.functions.items;
  called = s.called.items;
  locals = map draft_of s.locals.items;
  scopes = scopes_of s.scopes.items;
}

-- 6.2.1 p4: the local that a name stands for is that of the innermost scope that has the name
abbrev pub local_in : List (List (List ℕ × CLocalName)) → List ℕ → Option CLocalName
local_in [] x = None
local_in (s ∷ ss) x = or_else (local_in ss x) (found x s)
