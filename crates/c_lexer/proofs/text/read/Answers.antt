use Rattle.std.proofs.Common.{◌≡◌, ◌<◌, ◌+◌, ℕ, length, option_map, arith, ap, length-take, length-drop}
use Rattle.std.proofs.lemmas.Bool.Decides.{nat_tests}
use Rattle.std.proofs.lemmas.List.{take_rest}
use Rattle.std.proofs.lemmas.Result.{err_from_is_err_and}
use Rattle.c_lexer.specs.Views.{lexemes, token_of}
use Rattle.c_lexer.proofs.TextLemmas.{begins_at, begun_line, piece_moves, goes_on, ends}
use Rattle.c_lexer.proofs.ReadLemmas.{refused}
use Rattle.c_lexer.proofs.text.read.Goals as goal

pub loop-rest-init : goal.loop-rest-init
loop-rest-init c = rw c.new-tokens.ensures (begins_at c.args.text.now)

pub returns-in_err-token : goal.returns-in_err-token
returns-in_err-token c =
    let p = err_from_is_err_and c.from_residual.result c.from_residual.ensures.1 in
    let test = c.loop-rest-test.true in
    let empty = c.is_empty.ensures in
    let some : 0 < length c.loop-rest.rest.now = grind (arith, nat_tests) in
    rw (p.1, p.2) (refused c.args.text.now c.loop-rest.rest.now (lexemes c.loop-rest.tokens) c.loop-rest.line c.in_err-token.field-0.0 c.requires c.loop-rest.invariant some c.in_err-token.ensures.value)

pub overflow_add-line : goal.overflow_add-line
overflow_add-line c =
    let rest = c.loop-rest.rest.now in
    let line = begun_line c.args.text.now rest (lexemes c.loop-rest.tokens) c.loop-rest.line c.loop-rest.invariant in
    omega (arith, line, c.line_feeds.ensures.within, c.in_ok-token.ensures.within, length-take c.in_ok-token.field-0.len rest, c.requires)

pub loop-rest-smaller : goal.loop-rest-smaller
loop-rest-smaller c =
    let moves = piece_moves c.loop-rest.rest.now _ _ c.in_ok-token.ensures.value in
    omega (arith, moves.0, moves.1, length-take {A = ℕ}, length-drop {A = ℕ})

pub loop-rest-preserved : goal.loop-rest-preserved
loop-rest-preserved c =
    let len = c.in_ok-token.field-0.len in
    let rest = c.loop-rest.rest.now in
    goes_on c.args.text.now rest _ (lexemes c.loop-rest.tokens) (lexemes c.push_token.new.tokens) c.loop-rest.line _ (option_map token_of c.in_ok-token.field-0.token) len c.loop-rest.invariant
    c.in_ok-token.ensures.value c.in_ok-push_token.ensures (take_rest rest len) (ap (λ n. c.loop-rest.line + n) c.line_feeds.ensures.value)

pub returns : goal.returns
returns c =
    let test = c.loop-rest-test.false in
    let empty = c.is_empty.ensures in
    let none : length c.loop-rest.rest.now ≡ 0 = grind (arith, nat_tests) in
    ends c.args.text.now c.loop-rest.rest.now (lexemes c.loop-rest.tokens) c.loop-rest.line c.requires c.loop-rest.invariant none
