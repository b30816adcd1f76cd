use Rattle.std.proofs.Common.{ap, refl, ◌∙◌, map, subst}
use Rattle.flat_code.specs.CodeViews.{function_of}
use Rattle.flat_discipline.specs.Discipline.{setting_in}
use Rattle.std.specs.Prelude.{Some}
use Rattle.flat_verify.specs.ItemViews.{as_items}
use Rattle.flat_verify.specs.Links.{OfEach, body_links}
use Rattle.flat_verify.specs.Outline.{HasRange}
use Rattle.flat_verify.specs.Sheets.{InPlaces}
use Rattle.flat_verify.specs.SheetViews.{range_of}
use Rattle.flat_verify.specs.Views.{block_of, link_of}
use Rattle.flat_verify.proofs.FirstIn.{is_sheet}
use Rattle.flat_verify.proofs.ItemWalk.{body_at}
use Rattle.flat_verify.proofs.program.sheet_at.Goals as goal

pub returns-clause-is : goal.returns-clause-is
returns-clause-is c = λ fn at.
    is_sheet c.args.g (map block_of c.args.globals.now) c.args.functions.now c.args.f c.index-functions-f.result fn _ at c.requires.function c.index-functions-f.is refl refl
    (c.in_ok-links.ensures ∙ ap (body_links c.args.g (setting_in (map block_of c.args.globals.now) (map function_of c.args.functions.now) (Some (function_of c.index-functions-f.result))))
    (ap as_items c.deref.ensures.value ∙ body_at c.args.g c.args.bodies.now c.args.functions.now c.args.f c.index-bodies-f.result c.index-functions-f.result c.requires.bodies c.requires.function c.index-bodies-f.is c.index-functions-f.is))
    c.places_in.ensures.some
    (subst (λ ls. OfEach (InPlaces c.places_in.result) (map link_of ls)) c.deref-3.ensures.value c.places_in.ensures.placed)
    (subst (λ ls. OfEach (HasRange (map range_of c.in_ok-ranges.ranges.items)) (map link_of ls)) c.deref-2.ensures.value c.in_ok-ranges.ensures)
