use Rattle.std.proofs.Common.{refl}
use Rattle.c_parser_rules.specs.Bodies.{unsigned_by}
use Rattle.c_parser_expressions.proofs.CodeSteps.{looked, seen_as, took_next, gave, saw_yes, saw_no}
use Rattle.c_parser_expressions.proofs.Next.{no_unsigned}
use Rattle.c_parser_expressions.proofs.specifier.unsigned.Goals as goal

pub returns-then-sees_word : goal.returns-then-sees_word
returns-then-sees_word c =
    let h = saw_yes c.sees_word.ensures c.if-sees_word.true in
    seen_as (unsigned_by c.args.at) _ h (took_next h c.in_ok-take_next.ensures (gave refl))

pub returns-then-sees_word-2 : goal.returns-then-sees_word-2
returns-then-sees_word-2 c =
    let h = saw_yes c.sees_word-2.ensures c.if-sees_word-2.true in
    seen_as (unsigned_by c.args.at) _ h (took_next h c.in_ok-take_next-2.ensures (gave refl))

pub returns : goal.returns
returns c = looked (unsigned_by c.args.at) _ (no_unsigned c.args.at _ (saw_no c.sees_word.ensures c.if-sees_word.false) (saw_no c.sees_word-2.ensures c.if-sees_word-2.false)) (gave refl)
