use Rattle.std.specs.Prelude.{map, drop}
use Rattle.flat_code.specs.CodeViews.{function_of}
use Rattle.flat_verify.specs.Views.{block_of}
use Rattle.flat_verify.proofs.FirstIn.{Drawn}
use Rattle.flat_verify.proofs.program.sheets_of.Given as goal

abbrev pub invariant-loop-f : goal.invariant-loop-f
invariant-loop-f l = Drawn l.g (map block_of l.globals) (map function_of l.functions) l.total l.f (drop l.f l.functions) l.functions l.each.items
