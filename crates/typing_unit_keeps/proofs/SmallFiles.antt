-- What typing answers for small files.
use Rattle.std.proofs.Common.{refl}
use Rattle.typing_operators.specs.Conversions.{decayed, as_number, as_promoted, as_pointer, given}
use Rattle.typing_operators.specs.Operators.{product, shifted, added, subtracted, ordered, equated, logical, binary_rule, referred, element_of, followed, signed, tested, alternatives, conditional_rule, comma_rule, cast_rule, index_rule, member_rule, arrow_rule, measured_rule, measured_type, copied_from, reckoned, shifted_in, changed, assign_rule, call_rule}
use Rattle.typing_expressions.specs.Parts.{count_of, array_of, formed}
use Rattle.typing_expressions.specs.Expressions.{in_library, object, callee_named, text}
use Rattle.typing_expressions.specs.Initializers.{value_bytes}
use Rattle.typing_unit_keeps.specs.Units.{is_main}
use Rattle.typing_unit_keeps.specs.Examples.{SmallFiles, BrokenRules, AcceptedFiles}

pub small_files : SmallFiles
unfolding decayed as_number as_promoted as_pointer given product shifted added subtracted ordered equated logical binary_rule referred element_of followed signed tested alternatives conditional_rule comma_rule cast_rule index_rule member_rule arrow_rule measured_rule measured_type copied_from reckoned shifted_in changed assign_rule call_rule count_of array_of formed in_library object callee_named text value_bytes is_main
small_files = record {
  nothing = refl;
  unknown = refl;
  twice = refl;
  large = refl;
  in_library = refl;
  object_main = refl;
  pointer = refl;
  breaks = refl;
  undefined = refl;
  aside = refl;
  own_size = refl;
  params = refl;
  in_itself = refl;
  defined_twice = refl;
  many_params = refl;
  string_copied = refl;
  void_excess = refl;
  void_in_braces = refl;
}

pub broken_rules : BrokenRules
unfolding decayed as_number as_promoted as_pointer given product shifted added subtracted ordered equated logical binary_rule referred element_of followed signed tested alternatives conditional_rule comma_rule cast_rule index_rule member_rule arrow_rule measured_rule measured_type copied_from reckoned shifted_in changed assign_rule call_rule count_of array_of formed in_library object callee_named text value_bytes is_main
broken_rules = record {
  rule1 = refl;
  rule2 = refl;
  rule3 = refl;
  rule3_missing = refl;
  rule4 = refl;
  rule4_initializer = refl;
  rule5 = refl;
  rule6_address = refl;
  rule6_step = refl;
  rule6_assignment = refl;
  rule7 = refl;
  rule8 = refl;
  rule9 = refl;
  rule10 = refl;
  rule11 = refl;
  rule12 = refl;
  rule12_index = refl;
  rule13 = refl;
  rule14 = refl;
  rule15 = refl;
  rule16_value = refl;
  rule16_object = refl;
  rule16_arguments = refl;
  rule17 = refl;
  rule18 = refl;
  rule19 = refl;
  rule20 = refl;
  rule21 = refl;
  rule22 = refl;
  rule23 = refl;
}

pub accepted_files : AcceptedFiles
unfolding decayed as_number as_promoted as_pointer given product shifted added subtracted ordered equated logical binary_rule referred element_of followed signed tested alternatives conditional_rule comma_rule cast_rule index_rule member_rule arrow_rule measured_rule measured_type copied_from reckoned shifted_in changed assign_rule call_rule count_of array_of formed in_library object callee_named text value_bytes is_main
accepted_files = record {
  forty_two = refl;
  many = refl;
  minus_two = refl;
  padded = refl;
  in_memory = refl;
  objects = refl;
}
