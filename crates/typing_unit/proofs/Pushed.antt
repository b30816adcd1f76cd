-- Lists that grow at their end, and what they stand for.
use Rattle.std.proofs.Common.{◌≡◌, List, [], ◌∷◌, ◌++◌}
use Rattle.std.specs.Prelude.{map}
use Rattle.std.proofs.lemmas.List.{map_push}
use Rattle.typed_tree.specs.declared.types.Ty.{Ty}
use Rattle.typed_tree.specs.declared.typed.Function.{Function}
use Rattle.typed_tree.specs.declared.typed.Local.{Local}
use Rattle.typed_tree.specs.TypesViewed.{ty_of}
use Rattle.typed_tree.specs.TypedViews.{function_of, local_of}
use Rattle.typing_expressions.specs.declared.scene.Declared.{Declared}
use Rattle.typing_expressions.specs.Scene.{declared_of}

pub locals_pushed : (ls : List Local) (l : Local) → map local_of (ls ++ l ∷ []) ≡ map local_of ls ++ local_of l ∷ []
locals_pushed ls l = map_push local_of ls l

pub functions_pushed : (fs : List Function) (f : Function) → map function_of (fs ++ f ∷ []) ≡ map function_of fs ++ function_of f ∷ []
functions_pushed fs f = map_push function_of fs f

pub types_pushed : (ts : List Ty) (t : Ty) → map ty_of (ts ++ t ∷ []) ≡ map ty_of ts ++ ty_of t ∷ []
types_pushed ts t = map_push ty_of ts t

pub declared_pushed : (fs : List Declared) (f : Declared) → map declared_of (fs ++ f ∷ []) ≡ map declared_of fs ++ declared_of f ∷ []
declared_pushed fs f = map_push declared_of fs f
