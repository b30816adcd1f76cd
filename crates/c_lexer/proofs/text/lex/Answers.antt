use Rattle.c_lexer.specs.Text.{too_long}
use Rattle.c_lexer.proofs.ReadLemmas.{answers}
use Rattle.c_lexer.proofs.text.lex.Goals as goal

pub returns-then-text-gt-MAX_LEN-clause-refusal : goal.returns-then-text-gt-MAX_LEN-clause-refusal
returns-then-text-gt-MAX_LEN-clause-refusal c = too_long c.args.text.now c.if-text-gt-MAX_LEN.true

pub returns-clause-exact : goal.returns-clause-exact
returns-clause-exact c = answers c.args.text.now c.read.result c.read.ensures
