use Rattle.std.proofs.Common.{sym, ◌∙◌}
use Rattle.c_lexer.proofs.TableLemmas.{begins_is}
use Rattle.c_lexer.proofs.words.begins.Goals as goal

pub returns-clause-value : goal.returns-clause-value
returns-clause-value c = c.starts_with.ensures.value ∙ sym (begins_is c.args.spelling.now c.args.text.now)
