use Rattle.std.proofs.Common.{refl, sym, ◌∙◌}
use Rattle.c_parser_rules.specs.Programs.{Program}
use Rattle.c_parser_rules.specs.Bodies.{identifier_by}
use Rattle.c_parser_expressions.proofs.CodeSteps.{looked, seen_as, refused, took_next, gave}
use Rattle.c_parser_expressions.proofs.Next.{name_is, no_name}
use Rattle.c_parser_expressions.proofs.leaf.identifier.Goals as goal

pub returns-in_ok-at-in-Some : goal.returns-in_ok-at-in-Some
returns-in_ok-at-in-Some c =
    let h = name_is _ _ (sym c.in_ok-name.ensures ∙ c.in-Some.is) in
    seen_as identifier_by _ h (took_next h c.in_ok-at-in-Some.ensures (gave refl))

pub returns-in-None : goal.returns-in-None
returns-in-None c = looked identifier_by Program.refuse (no_name _ (sym c.in_ok-name.ensures ∙ c.in-None.is)) refused
