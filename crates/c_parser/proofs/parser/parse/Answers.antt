use Rattle.c_lexer.specs.Text.{placed}
use Rattle.c_lexer.specs.Views.{lexemes}
use Rattle.syntax_tree.specs.GrammarRefusals.{Refusal}
use Rattle.c_parser.proofs.Stopping.{numbered, read_all, read_derived, refused_here, derived_not_refused}
use Rattle.c_parser.proofs.parser.parse.Goals as goal

pub returns-in-Ok-clause-answer : goal.returns-in-Ok-clause-answer
returns-in-Ok-clause-answer c =
    let reads = rw (c.new-cursor.ensures, c.as_slice-tokens.ensures) at c.in-Ok.ensures.reads in
    read_all (placed (lexemes c.args.tokens.now)) _ c.in-Ok.unit reads c.in-Ok.ensures.all

pub returns-in-Ok-clause-complete : goal.returns-in-Ok-clause-complete
returns-in-Ok-clause-complete c =
    let reads = rw (c.new-cursor.ensures, c.as_slice-tokens.ensures) at c.in-Ok.ensures.reads in
    λ tree derives. read_derived (placed (lexemes c.args.tokens.now)) _ c.in-Ok.unit tree reads derives

pub returns-in-Err-Syntax-clause-answer : goal.returns-in-Err-Syntax-clause-answer
returns-in-Err-Syntax-clause-answer c =
    let reads = rw (c.new-cursor.ensures, c.as_slice-tokens.ensures, c.in-Err-Syntax.field-0-is) at c.in-Err-Syntax.ensures.reads in
    refused_here (placed (lexemes c.args.tokens.now)) _ Refusal.Syntax _ (numbered c.args.tokens.now) reads.answer (rw c.as_slice-tokens.ensures at c.stopped-token.ensures)

pub returns-in-Err-Syntax-clause-complete : goal.returns-in-Err-Syntax-clause-complete
returns-in-Err-Syntax-clause-complete c =
    let reads = rw (c.new-cursor.ensures, c.as_slice-tokens.ensures, c.in-Err-Syntax.field-0-is) at c.in-Err-Syntax.ensures.reads in
    λ tree derives. derived_not_refused (placed (lexemes c.args.tokens.now)) _ Refusal.Syntax tree reads.answer derives

pub returns-in-Err-TooDeep-clause-answer : goal.returns-in-Err-TooDeep-clause-answer
returns-in-Err-TooDeep-clause-answer c =
    let reads = rw (c.new-cursor.ensures, c.as_slice-tokens.ensures, c.in-Err-TooDeep.field-0-is) at c.in-Err-TooDeep.ensures.reads in
    refused_here (placed (lexemes c.args.tokens.now)) _ Refusal.TooDeep _ (numbered c.args.tokens.now) reads.answer (rw c.as_slice-tokens.ensures at c.stopped-token-in-Err-TooDeep.ensures)

pub returns-in-Err-TooDeep-clause-complete : goal.returns-in-Err-TooDeep-clause-complete
returns-in-Err-TooDeep-clause-complete c =
    let reads = rw (c.new-cursor.ensures, c.as_slice-tokens.ensures, c.in-Err-TooDeep.field-0-is) at c.in-Err-TooDeep.ensures.reads in
    λ tree derives. derived_not_refused (placed (lexemes c.args.tokens.now)) _ Refusal.TooDeep tree reads.answer derives
