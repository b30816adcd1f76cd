use Rattle.std.proofs.Common.{map, subst}
use Rattle.std.specs.Option.{option_map}
use Rattle.flat_code.specs.CodeViews.{code_of}
use Rattle.flat_discipline.specs.Discipline.{BreaksAt, IsDisciplined, FirstBreak}
use Rattle.flat_verify.specs.Places.{place_of}
use Rattle.flat_verify.specs.Views.{block_of, blocks_of}
use Rattle.flat_verify.proofs.verify.verify.Goals as goal

pub returns-clause-safe : goal.returns-clause-safe
returns-clause-safe c =
    let code = code_of c.args.code.now in
    let none = subst (λ o. FirstBreak c.args.g (map block_of c.as_slice-globals.result.now) code (option_map place_of o)) c.in-None.is c.in_ok-first.ensures in
    let disciplined = subst (λ xs. IsDisciplined c.args.g (map block_of xs) code) c.as_slice-globals.ensures none in
    λ frames input m globals placed. c.disciplined_is_safe.ensures c.args.g code (blocks_of c.args.layout.now) frames input m c.requires.least c.requires.most globals placed disciplined

pub returns-in-Some-clause-accepts : goal.returns-in-Some-clause-accepts
returns-in-Some-clause-accepts c = λ keeps.
    let code = code_of c.args.code.now in
    let bad = subst (λ o. FirstBreak c.args.g (map block_of c.as_slice-globals.result.now) code (option_map place_of o)) c.in-Some.is c.in_ok-first.ensures in
    let here = subst (λ xs. BreaksAt c.args.g (map block_of xs) code c.in-Some.first.function c.in-Some.first.place) c.as_slice-globals.ensures bad.0 in
    keeps c.in-Some.first.function c.in-Some.first.place here
