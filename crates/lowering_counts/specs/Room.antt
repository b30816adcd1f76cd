-- The sums over the parts of statements by which a typed tree is judged before its code is made.
use Rattle.std.specs.Prelude.{ℕ, ◌+◌, max, Bool, true, ◌&&◌}
use Rattle.typed_tree.specs.Counts.{nodes_of, nodes_of_string, temps_of, temps_of_string}
use Rattle.typed_tree.specs.Walk.{Sum, every_expr}
use Rattle.lowering_counts.specs.Built.{is_built_expr}

-- the nodes, the greatest temporaries, and whether all is built
abbrev pub nodes : Sum ℕ
nodes = record {
  nothing = 0;
  both = λ m n. m + n;
  expr = nodes_of;
  initial = nodes_of_string;
  declaration = λ d. 1;
  statement = λ s. 1;
}

abbrev pub temps : Sum ℕ
temps = record {
  nothing = 0;
  both = max;
  expr = temps_of;
  initial = temps_of_string;
  declaration = λ d. 0;
  statement = λ s. 0;
}

abbrev pub built : Sum Bool
built = record {
  nothing = true;
  both = λ a b. a && b;
  expr = every_expr is_built_expr;
  initial = λ i. true;
  declaration = λ d. true;
  statement = λ s. true;
}
