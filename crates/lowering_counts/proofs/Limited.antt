-- What the counts of a program say, and what the test of the limits answers.
use Rattle.std.specs.Prelude.{Err, ◌&&◌}
use Rattle.std.proofs.Common.{◌≡◌, ◌<◌, ◌≤◌, Bool, List, ap, ◌∙◌, subst, arith}
use Rattle.typed_tree.specs.Counts.{nodes_of_functions, nodes_of_program}
use Rattle.typed_tree.specs.TypedTree.{CFunction, CProgram}
use Rattle.lowering_counts.specs.declared.counts.ProgramCounts.{ProgramCounts}
use Rattle.lowering_counts.specs.declared.error.LowerError.{LowerError}
use Rattle.lowering_counts.specs.declared.error.LowerError.TheVariants.{TooManyNodes, TooManyValues, NotBuilt, Memory}
use Rattle.lowering_counts.specs.Built.{is_empty, are_built_structs, are_built_functions}
use Rattle.lowering_counts.specs.Counting.{counted_values, IsCounted}
use Rattle.lowering_counts.specs.Limits.{counted, most_nodes, Fit, PassesLimit, IsWithin}

-- the counts of all functions are those of the program
pub counts_are : (p : CProgram) (fs : List CFunction) (counts : ProgramCounts) (built : Bool) → fs ≡ p.functions → counts.nodes ≡ counted (nodes_of_functions fs) → counts.values ≡ counted_values fs → built ≡ are_built_functions fs → counts.built ≡ (is_empty p.globals && is_empty p.texts && are_built_structs p.structs && built) → IsCounted p counts
counts_are p fs counts built e nodes values functions all = record {
  nodes = nodes ∙ ap (λ z. counted (nodes_of_functions z)) e;
  values = values ∙ ap counted_values e;
  built = all ∙ ap (λ z. is_empty p.globals && is_empty p.texts && are_built_structs p.structs && z) (functions ∙ ap are_built_functions e);
}

pub few_nodes : (p : CProgram) (counts : ProgramCounts) → IsCounted p counts → counts.nodes ≤ most_nodes → nodes_of_program p ≤ most_nodes
few_nodes p counts is le = omega (arith, is.nodes, le)

pub many_nodes : (p : CProgram) (counts : ProgramCounts) → IsCounted p counts → most_nodes < counts.nodes → PassesLimit p (TooManyNodes counts.nodes)
many_nodes p counts is lt = (omega (arith, is.nodes, lt), is.nodes)

-- what the look at the values refuses
pub values_refused : (p : CProgram) (fs : List CFunction) → fs ≡ p.functions → nodes_of_program p ≤ most_nodes → (x : LowerError) → Fit {A = Unit {0}} fs (Err x) → IsWithin {A = ProgramCounts} p (Err x)
values_refused p fs e few x h = refused x (subst (λ z. Fit {A = Unit {0}} z (Err x)) e h)
  where
    refused : (x : LowerError) → Fit {A = Unit {0}} p.functions (Err x) → IsWithin {A = ProgramCounts} p (Err x)
    refused (TooManyValues name count) h = (few, h)
    refused Memory h = tt
    refused (TooManyNodes count) h = absurd h
    refused NotBuilt h = absurd h
