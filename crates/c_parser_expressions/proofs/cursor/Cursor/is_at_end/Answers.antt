use Rattle.std.proofs.Common.{◌≡◌, true, false, List, [], ◌∷◌, Some, None, refl, sym, ◌∙◌}
use Rattle.c_words.specs.Tokens.{Placed}
use Rattle.c_words.specs.declared.place.At.{At}
use Rattle.c_parser_rules.specs.Tests.{first, is_end}
use Rattle.c_parser_expressions.specs.Reads.{place_of}
use Rattle.c_parser_expressions.proofs.cursor.Cursor.is_at_end.Goals as goal

nowhere : (ts : List Placed) → place_of ts ≡ None → true ≡ is_end (first ts)
nowhere [] h = refl
nowhere (t ∷ ts) h = absurd (cc)

somewhere : (ts : List Placed) (at : At) → place_of ts ≡ Some at → false ≡ is_end (first ts)
somewhere [] at h = absurd (cc)
somewhere (t ∷ ts) at h = refl

pub returns-in-None : goal.returns-in-None
returns-in-None c = nowhere _ (sym c.next_at.ensures ∙ c.in-None.is)

pub returns-in-Some : goal.returns-in-Some
returns-in-Some c = somewhere _ _ (sym c.next_at.ensures ∙ c.in-Some.is)
