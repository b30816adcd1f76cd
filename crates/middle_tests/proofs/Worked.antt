-- The examples, by evaluation.
use Rattle.std.proofs.Common.{[], refl, arith, lit<}
use Rattle.std.proofs.lemmas.List.Elements.{All-nil, All-cons}
use Rattle.std.specs.Prelude.{◌≡◌, ◌≤◌}
use Rattle.bb_words.specs.Answers.{and_then}
use Rattle.bb_words.specs.Numbers.{signed_below, signed_quotient, signed_remainder, signed_right_shift}
use Rattle.block_layout.specs.Layout.{layout}
use Rattle.size_table.specs.Pads.{exponent_of}
use Rattle.typed_tree.specs.Counts.{values_of}
use Rattle.typed_tree.specs.TypedLaws.{many_locals}
use Rattle.flat_code.specs.Run.{inner_turns}
use Rattle.middle_tests.specs.Examples.{Examples, Limits}

pub examples : Examples
unfolding and_then layout exponent_of signed_below signed_quotient signed_remainder signed_right_shift inner_turns
examples = record {
  forty_two_exits = record { lowers = refl; code = refl; instruments = refl; flat_code = refl };
  jumps_run = record { lowers = refl; code = refl; instruments = refl; flat_code = refl };
  nested_runs = record { lowers = refl; code = refl; instruments = refl; flat_code = refl };
  selected_runs = record { lowers = refl; code = refl; instruments = refl; flat_code = refl };
  narrow_runs = record { lowers = refl; code = refl; instruments = refl; flat_code = refl };
  conversions_run = record { lowers = refl; code = refl; instruments = refl; flat_code = refl };
  quotients_run = record { lowers = refl; code = refl; instruments = refl; flat_code = refl };
  divides_by_zero = record { lowers = refl; code = refl; instruments = refl; flat_code = refl };
  echo_runs = record { lowers = refl; code = refl; instruments = refl; flat_code = refl };
  loop_is_cut = record { lowers = refl; code = refl; instruments = refl; flat_code = refl };
  call_is_cut = record { lowers = refl; code = refl; instruments = refl; flat_code = refl };
}

pub limits : Limits
limits =
    let full : values_of (many_locals 246) ≡ 250 = refl in
    record {
      most_nodes = refl;
      one_node_more = refl;
      values = record {
        number = 1;
        function = many_locals 247;
        found = refl;
        full = lit< tt;
        before = All-cons (λ f. values_of f ≤ 250) (many_locals 246) [] (omega (arith, full)) (All-nil _);
        named = refl;
        counts = refl;
      };
    }
