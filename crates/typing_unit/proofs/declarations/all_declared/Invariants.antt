use Rattle.std.proofs.Common.{◌≡◌, drop}
use Rattle.std.specs.Prelude.{map}
use Rattle.syntax_tree.specs.SyntaxViews.{init_declarator_tree}
use Rattle.typed_tree.specs.TypesViewed.{ty_of}
use Rattle.typing_unit_keeps.specs.Units.{all_declared}
use Rattle.typing_unit.specs.UnitSteps.{file_of}
use Rattle.typing_unit.proofs.declarations.all_declared.Given as goal

abbrev pub invariant-loop-declarator : goal.invariant-loop-declarator
invariant-loop-declarator l = all_declared l.numbers (file_of l.file) (ty_of l.base) (map init_declarator_tree (drop l.declarator-index l.declarators)) ≡ all_declared l.fn.numbers (file_of l.fn.file) (ty_of l.fn.base) (map init_declarator_tree l.fn.declarators)
