use Rattle.std.proofs.Common.{◌≡◌, ap, ◌∙◌, arith, length}
use Rattle.std.specs.Prelude.{map}
use Rattle.typed_tree.specs.TypedViews.{global_of, program_of}
use Rattle.std.proofs.lemmas.List.{length-map}
use Rattle.size_table.specs.declared.memory_map.TheConstants.{SLOT_EXPONENT, GLOBALS_START}
use Rattle.block_layout.specs.Layout.{declining, placed_from, layout, total_of}
use Rattle.block_layout.specs.Objects.{global_items}
use Rattle.block_layout.specs.Answers.{global_at, global_bytes}
use Rattle.block_layout.specs.Views.{item_of, placed_of, global_of_spot}
use Rattle.block_layout.proofs.Spots.{few_named, globals_laid}
use Rattle.block_layout.proofs.globals.globals.Goals as goal

pub at_spots-requires : goal.at_spots-requires
at_spots-requires c =
    let p = program_of c.args.program.now in
    let total : total_of SLOT_EXPONENT (map item_of c.deref.result.now) ≡ global_bytes p =
    ap (λ os. total_of SLOT_EXPONENT (map item_of os)) c.deref.ensures.value ∙ ap (total_of SLOT_EXPONENT) c.in_ok-objects.ensures in
    omega (arith, c.len.ensures, few_named c.args.program.now.globals c.args.program.now.texts, total, c.total_of-total.ensures, c.if-total-gt-MOST_GLOBAL_BYTES.false)

pub returns : goal.returns
returns c =
    let p = program_of c.args.program.now in
    let total : total_of SLOT_EXPONENT (map item_of c.deref.result.now) ≡ global_bytes p =
    ap (λ os. total_of SLOT_EXPONENT (map item_of os)) c.deref.ensures.value ∙ ap (total_of SLOT_EXPONENT) c.in_ok-objects.ensures in
    let laid : map placed_of c.in_ok-spots.spots.items ≡ placed_from SLOT_EXPONENT GLOBALS_START (declining SLOT_EXPONENT 21 (global_items p)) =
    c.in_ok-spots.ensures ∙ ap (λ is. placed_from SLOT_EXPONENT GLOBALS_START (declining SLOT_EXPONENT 21 is)) (ap (map item_of) c.deref-2.ensures.value ∙ c.in_ok-objects.ensures) in
    let named : c.len.result ≡ length (map global_of c.args.program.now.globals) = omega (arith, c.len.ensures, length-map c.args.program.now.globals global_of) in (
      omega (arith, c.total_of-total.ensures, total, c.if-total-gt-MOST_GLOBAL_BYTES.false),
      record {
        placed =
            c.in_ok-placed.ensures
            ∙ globals_laid c.len.result c.deref-3.result.now (global_items p) (ap (map placed_of) c.deref-3.ensures.value ∙ laid)
            ∙ ap (λ n. map (global_at n) (layout SLOT_EXPONENT (global_items p))) named;
        total = omega (arith, c.total_of-total.ensures, total, c.if-total-gt-MOST_GLOBAL_BYTES.false);
      },
    )
