use Rattle.std.proofs.Common.{sym, ap, ◌∙◌}
use Rattle.c_words.specs.Tokens.{Token}
use Rattle.c_lexer.specs.Words.{keywords}
use Rattle.c_lexer.specs.Reading.{identifier}
use Rattle.c_lexer.proofs.TableLemmas.{at_word}
use Rattle.c_lexer.proofs.words.identifier.Goals as goal

pub returns-in-Some : goal.returns-in-Some
unfolding identifier keywords
returns-in-Some c = sym (at_word _ _ _ c.in-Some.ensures)

pub returns-in_ok-from_slice-in-None : goal.returns-in_ok-from_slice-in-None
unfolding identifier keywords
returns-in_ok-from_slice-in-None c = ap Token.Name (c.from_vec.ensures ∙ c.in_ok-from_slice-in-None.ensures.items) ∙ sym (at_word _ _ _ c.in-None.ensures)
