use Rattle.std.proofs.Common.{sym}
use Rattle.c_lexer.specs.Words.{punctuators}
use Rattle.c_lexer.specs.Reading.{mark_at}
use Rattle.c_lexer.proofs.TableLemmas.{at_mark}
use Rattle.c_lexer.proofs.words.mark_at.Goals as goal

pub returns-in-None-clause-value : goal.returns-in-None-clause-value
unfolding mark_at punctuators
returns-in-None-clause-value c = sym (at_mark _ _ c.in-None.ensures.value)

pub returns-in-Some-clause-value : goal.returns-in-Some-clause-value
unfolding mark_at punctuators
returns-in-Some-clause-value c = sym (at_mark _ _ c.in-Some.ensures.value)
