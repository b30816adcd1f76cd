use Rattle.std.proofs.Common.{◌<◌, ◌≤◌, Ok, length, drop, sym, ap, subst, arith, ◌∙◌, length-drop}
use Rattle.std.proofs.lemmas.List.{take_rest}
use Rattle.std.specs.Prelude.{IfSome}
use Rattle.c_lexer.specs.Reading.{Step}
use Rattle.c_lexer.proofs.QuoteLemmas.{one_closes, none_moves}
use Rattle.c_lexer.proofs.quote.single_at.Goals as goal

pub returns-in-None : goal.returns-in-None
returns-in-None c =
    let text = c.args.text.now in
    let n = c.in-Some.len in
    let read = rw (take_rest text 1) at (sym c.in-Ok.ensures.value ∙ ap {B = Step} (λ o. Ok o) c.in-Some.is) in
    let bounds = subst (λ o. IfSome o (λ item. (0 < item.1) × (item.1 ≤ length (drop 1 text)))) c.in-Some.is (rw (take_rest text 1) at c.in-Ok.ensures.len) in
    let close = rw (take_rest text 1, take_rest (drop 1 text) n) at (sym c.in-Ok-element_at.ensures.value ∙ ap {B = Step} (λ o. Ok o) c.in-None.is) in
    record {
      value = one_closes c.args.quote text c.in-Some.value n c.requires read bounds.0 bounds.1 close;
      within = (omega arith, omega (arith, none_moves c.args.quote (drop n (drop 1 text)) close, length-drop n (drop 1 text), length-drop 1 text));
    }
