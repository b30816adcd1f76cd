use Rattle.std.specs.Prelude.{map}
use Rattle.typed_tree.specs.TypedViews.{struct_of, member_of}
use Rattle.typing_expressions.specs.Scene.{draft_of}
use Rattle.typing_declarations.proofs.Layouts.{too_large, fits, same_value}
use Rattle.typing_declarations.proofs.structs.laid_out.Goals as goal

pub returns-then-size-gt1048576 : goal.returns-then-size-gt1048576
returns-then-size-gt1048576 c =
    too_large (map struct_of c.args.structs.now) c.args.line c.args.tag.now (map draft_of c.args.members.now) c.greatest_align-align.result c.in_ok-end.end c.in_ok-size.size c.greatest_align-align.ensures (same_value _ _ c.in_ok-end.ensures) (same_value _ _ c.in_ok-size.ensures) c.if-size-gt1048576.true

pub returns : goal.returns
returns c =
    rw (c.in_ok-tag.ensures, c.from_vec-members.ensures) (fits (map struct_of c.args.structs.now) c.args.line c.args.tag.now (map draft_of c.args.members.now) c.greatest_align-align.result c.in_ok-end.end c.in_ok-size.size c.greatest_align-align.ensures (same_value _ _ c.in_ok-end.ensures) (same_value _ _ c.in_ok-size.ensures) c.if-size-gt1048576.false (map member_of c.in_ok-placed.field-0.items) (same_value _ _ c.in_ok-placed.ensures))
