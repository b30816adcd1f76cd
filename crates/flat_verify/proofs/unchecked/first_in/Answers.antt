use Rattle.std.proofs.Common.{ap, refl, ◌∙◌, get_or, map}
use Rattle.flat_code.specs.CodeViews.{function_of}
use Rattle.flat_verify.specs.ItemViews.{as_items}
use Rattle.flat_verify.specs.Sheets.{known}
use Rattle.flat_verify.specs.SheetViews.{sheet_of}
use Rattle.flat_discipline.specs.Discipline.{setting_in}
use Rattle.std.specs.Prelude.{Some}
use Rattle.flat_verify.specs.Verdict.{function_demands}
use Rattle.flat_verify.specs.Views.{block_of, demand_of}
use Rattle.flat_verify.proofs.FirstIn.{mapped_at, first_same}
use Rattle.flat_verify.proofs.ItemWalk.{body_at}
use Rattle.flat_verify.proofs.unchecked.first_in.Goals as goal

pub function_demands-requires : goal.function_demands-requires
function_demands-requires c =
    ap as_items c.deref.ensures.value
    ∙ body_at c.args.g c.args.bodies.now c.args.code.now.functions c.args.f c.index-bodies-f.result c.index-functions-f.result c.requires.bodies c.requires.function c.index-bodies-f.is
    (c.index-functions-f.is ∙ ap (λ z. get_or z c.args.f c.index-functions-f.result) c.as_slice-functions.ensures)

pub returns-clause-first : goal.returns-clause-first
returns-clause-first c = λ fn at.
    first_same c.args.g (map block_of c.args.globals.now) (map function_of c.args.code.now.functions) c.args.f _ c.args.code.now.main fn (function_of c.index-functions-f.result) (known (map sheet_of c.args.sheets.now) c.args.marks.now c.args.f) c.in_ok-first.first (map demand_of c.deref-2.result.now)
    (mapped_at c.args.code.now.functions c.args.f c.index-functions-f.result c.requires.function (c.index-functions-f.is ∙ ap (λ z. get_or z c.args.f c.index-functions-f.result) c.as_slice-functions.ensures)) refl
    (ap (map demand_of) c.deref-2.ensures.value ∙ c.in_ok-demands.ensures
    ∙ ap (λ fs. function_demands c.args.g (setting_in (map block_of c.args.globals.now) (map function_of fs) (Some (function_of c.index-functions-f.result))) c.args.code.now.main c.args.f (function_of c.index-functions-f.result)) c.as_slice-functions.ensures) c.in_ok-first.ensures at
