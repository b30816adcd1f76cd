use Rattle.std.proofs.Common.{◌≡◌, ap, ◌∙◌, arith}
use Rattle.std.specs.Prelude.{map}
use Rattle.typed_tree.specs.TypedViews.{local_of, function_of}
use Rattle.size_table.specs.declared.memory_map.TheConstants.{SLOT_EXPONENT}
use Rattle.block_layout.specs.Layout.{declining, placed_from, total_of, alignment_of}
use Rattle.block_layout.specs.Objects.{block_items, block_items_from}
use Rattle.block_layout.specs.Answers.{frame_bytes}
use Rattle.block_layout.specs.Views.{item_of, placed_of}
use Rattle.block_layout.proofs.Spots.{frame_laid, layout_is}
use Rattle.block_layout.proofs.frame.frame.Goals as goal

pub returns : goal.returns
returns c =
    let f = function_of c.args.function.now in
    let objects : map item_of c.in_ok-objects.objects.items ≡ block_items f =
    c.in_ok-objects.ensures ∙ ap (λ ls. block_items_from 0 (map local_of ls)) c.as_slice.ensures in
    let total : total_of SLOT_EXPONENT (map item_of c.deref.result.now) ≡ frame_bytes f =
    ap (λ os. total_of SLOT_EXPONENT (map item_of os)) c.deref.ensures.value ∙ ap (total_of SLOT_EXPONENT) objects in
    let laid : map placed_of c.in_ok-spots.spots.items ≡ placed_from SLOT_EXPONENT 0 (declining SLOT_EXPONENT 21 (block_items f)) =
    c.in_ok-spots.ensures ∙ ap (λ is. placed_from SLOT_EXPONENT 0 (declining SLOT_EXPONENT 21 is)) (ap (map item_of) c.deref-2.ensures.value ∙ objects) in (
      omega (arith, c.total_of-total.ensures, total, c.if-total-gt-MOST_FRAME_BYTES.false),
      record {
        blocks = c.in_ok-blocks.ensures ∙ frame_laid c.deref-3.result.now (block_items f) (ap (map placed_of) c.deref-3.ensures.value ∙ laid);
        total = omega (arith, c.total_of-total.ensures, total, c.if-total-gt-MOST_FRAME_BYTES.false);
        align = c.align.ensures ∙ ap (alignment_of SLOT_EXPONENT) (ap (map placed_of) c.deref-4.ensures.value ∙ laid ∙ layout_is (block_items f));
      },
    )
