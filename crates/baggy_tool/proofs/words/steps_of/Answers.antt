use Rattle.std.proofs.Common.{◌≡◌, ◌≢◌, true, length, sym, ap, ◌∙◌, arith}
use Rattle.std.specs.List.{list_all}
use Rattle.std.specs.Char.{is_ascii_digit}
use Rattle.baggy_tool.specs.Decimal.{number_within}
use Rattle.baggy_tool.proofs.Numbers.{steps_digits}
use Rattle.baggy_tool.proofs.words.steps_of.Goals as goal

pub returns : goal.returns
returns c =
    let word = c.as_bytes-digits.ensures.value in
    let some : length c.args.word.now ≢ 0 = let e = ap length word in grind (arith, c.if-is_empty.false, c.is_empty.ensures) in
    let all : list_all is_ascii_digit c.args.word.now ≡ true = ap (list_all is_ascii_digit) (sym word) ∙ sym c.are_digits.ensures ∙ c.if-not-are_digits.false in
    c.number_within.ensures ∙ ap (number_within 1000000000000) word ∙ steps_digits c.args.word.now some all
