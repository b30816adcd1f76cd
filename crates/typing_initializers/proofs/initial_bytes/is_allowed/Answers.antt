use Rattle.std.proofs.Common.{sym, ◌∙◌, ap}
use Rattle.std.specs.Prelude.{map, is_some}
use Rattle.typed_tree.specs.TypedViews.{struct_of}
use Rattle.typing_initializers.proofs.Forms.{array_form}
use Rattle.typing_initializers.proofs.initial_bytes.is_allowed.Goals as goal

pub returns-in-Array : goal.returns-in-Array
returns-in-Array c =
    c.is_some.ensures ∙ ap is_some c.pointed_array.ensures ∙ sym (array_form (map struct_of c.args.structs.now) c.args.e.now _ _ c.in-Array.is)
