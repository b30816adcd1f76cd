use Rattle.std.proofs.Common.{arith}
use Rattle.typed_tree.proofs.TypedViewed.{typed_views}
use Rattle.typing_initializers.proofs.initial_bytes.+initial_bytes.Goals as goal

pub add_initial-returns-in_err-add_text-in-Text : goal.add_initial-returns-in_err-add_text-in-Text
add_initial-returns-in_err-add_text-in-Text t c = grind (arith, typed_views)

pub add_initial-returns-in_err-extend_from_slice-in-Braces : goal.add_initial-returns-in_err-extend_from_slice-in-Braces
add_initial-returns-in_err-extend_from_slice-in-Braces t c = grind (arith, typed_views)

pub add_initial-returns-in_err-extend_from_slice-in-Value : goal.add_initial-returns-in_err-extend_from_slice-in-Value
add_initial-returns-in_err-extend_from_slice-in-Value t c = grind (arith, typed_views)

pub add_initial-returns-in_err-given-in-Braces : goal.add_initial-returns-in_err-given-in-Braces
add_initial-returns-in_err-given-in-Braces t c = grind (arith, typed_views)

pub add_initial-returns-in_err-value-in-Value : goal.add_initial-returns-in_err-value-in-Value
add_initial-returns-in_err-value-in-Value t c = grind (arith, typed_views)

pub add_initial-returns-in_ok-add_text-in-Text : goal.add_initial-returns-in_ok-add_text-in-Text
add_initial-returns-in_ok-add_text-in-Text t c = grind (arith, typed_views)

pub add_initial-returns-in_ok-extend_from_slice-in-Braces : goal.add_initial-returns-in_ok-extend_from_slice-in-Braces
add_initial-returns-in_ok-extend_from_slice-in-Braces t c = grind (arith, typed_views)

pub add_initial-returns-in_ok-extend_from_slice-in-Value : goal.add_initial-returns-in_ok-extend_from_slice-in-Value
add_initial-returns-in_ok-extend_from_slice-in-Value t c = grind (arith, typed_views)
