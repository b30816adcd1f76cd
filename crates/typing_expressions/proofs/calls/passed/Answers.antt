use Rattle.std.proofs.Common.{◌≡◌, [], sym, ◌∙◌}
use Rattle.std.specs.Vec.Iter.{into_iter_items}
use Rattle.typing_expressions.proofs.Arguments.{goes_on, is_passed, none_left}
use Rattle.typing_expressions.proofs.calls.passed.Goals as goal

pub loop-ty-preserved : goal.loop-ty-preserved
loop-ty-preserved c =
    rw c.in_ok-push-in-Some.ensures.items
    (goes_on c.args.line c.loop-ty.given_to.items c.args.params.now c.loop-ty.ty-index (into_iter_items c.loop-ty.rest) _ c.loop-ty.invariant
    c.ty-item.result c.in-Some.argument (into_iter_items c.next.new.self) c.in_ok-value-in-Some.value
    c.loop-ty-test.true c.ty-item.is c.in-Some.ensures.items c.in_ok-value-in-Some.ensures)

pub returns-in-None-next : goal.returns-in-None-next
returns-in-None-next c =
    let none : into_iter_items c.loop-ty.rest ≡ [] = none_left (into_iter_items c.loop-ty.rest) (sym c.loop-ty.rest.rest.ok.0 ∙ c.in-None-next.ensures.cases.0) in
    is_passed c.args.line c.loop-ty.given_to.items c.args.params.now c.loop-ty.ty-index (into_iter_items c.loop-ty.rest) _ c.loop-ty.invariant c.loop-ty-test.false none
