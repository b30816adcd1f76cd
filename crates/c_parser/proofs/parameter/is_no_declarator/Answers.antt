use Rattle.std.proofs.Common.{length, ◌≤◌, ◌<◌}
use Rattle.syntax_tree.proofs.SyntaxViews.{declaration_views}
use Rattle.c_parser_expressions.proofs.Further.{no_arrays, some_arrays}
use Rattle.c_parser.proofs.parameter.is_no_declarator.Goals as goal

pub returns-in-None : goal.returns-in-None
returns-in-None c =
    let h : length c.in-Unnamed.arrays.items ≤ 0 = rw c.deref.ensures.value at c.in-None.ensures.item.3 in
    rw c.in-Unnamed.is (simp declaration_views (no_arrays c.in-Unnamed.at c.in-Unnamed.stars c.in-Unnamed.arrays.items h))

pub returns-in-Some : goal.returns-in-Some
returns-in-Some c =
    let h : 0 < length c.in-Unnamed.arrays.items = rw c.deref.ensures.value at c.in-Some.ensures.item.3.0 in
    rw c.in-Unnamed.is (simp declaration_views (some_arrays c.in-Unnamed.at c.in-Unnamed.stars c.in-Unnamed.arrays.items h))
