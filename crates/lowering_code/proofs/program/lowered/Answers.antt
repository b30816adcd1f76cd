use Rattle.std.proofs.Common.{refl, sym, ap, ◌∙◌}
use Rattle.std.specs.Prelude.{map}
use Rattle.typed_tree.specs.TypedViews.{struct_of, function_of, program_of}
use Rattle.mid_code.specs.Views.{global_of, program_of as mid_program}
use Rattle.lowering_counts.specs.Counting.{counted_values}
use Rattle.lowering_code.specs.Lower.{function_code}
use Rattle.lowering_code.proofs.Readied.{slice_ready, lowered_is}
use Rattle.lowering_code.proofs.program.lowered.Goals as goal

pub code_functions-requires-clause-ready : goal.code_functions-requires-clause-ready
code_functions-requires-clause-ready c =
    slice_ready (program_of c.args.program.now) (map function_of c.as_slice-functions.result.now) (ap (map function_of) c.as_slice-functions.ensures) c.requires.built c.requires.room c.requires.params

pub code_functions-requires-clause-values : goal.code_functions-requires-clause-values
code_functions-requires-clause-values c = c.requires.values ∙ ap (λ z. counted_values (map function_of z)) (sym c.as_slice-functions.ensures)

pub returns : goal.returns
returns c =
    let p = program_of c.args.program.now in
    lowered_is p (mid_program (record { named = 0; globals = c.new.result; functions = c.in_ok-functions.functions; main = c.args.program.now.main })) c.requires.built refl (ap (map global_of) c.new.ensures)
    (c.in_ok-functions.ensures ∙ ap (λ z. map (function_code (map struct_of z)) (map function_of c.as_slice-functions.result.now)) c.as_slice-structs.ensures ∙ ap (λ z. map (function_code p.structs) (map function_of z)) c.as_slice-functions.ensures) refl
