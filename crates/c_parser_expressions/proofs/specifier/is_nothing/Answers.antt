use Rattle.std.proofs.Common.{◌≤◌, ◌<◌, length}
use Rattle.syntax_tree.proofs.SyntaxViews.{expression_views}
use Rattle.c_parser_expressions.proofs.Next.{no_sizes, some_sizes}
use Rattle.c_parser_expressions.proofs.specifier.is_nothing.Goals as goal

pub returns-in-None : goal.returns-in-None
returns-in-None c =
    let h : length c.in-Direct.sizes.items ≤ 0 = rw c.deref.ensures.value at c.in-None.ensures.item.3 in
    rw c.in-Direct.is (simp expression_views (no_sizes c.in-Direct.at c.in-Direct.stars c.in-Direct.sizes.items h))

pub returns-in-Some : goal.returns-in-Some
returns-in-Some c =
    let h : 0 < length c.in-Direct.sizes.items = rw c.deref.ensures.value at c.in-Some.ensures.item.3.0 in
    rw c.in-Direct.is (simp expression_views (some_sizes c.in-Direct.at c.in-Direct.stars c.in-Direct.sizes.items h))
