-- Acceptance and typing say the same.
use Rattle.std.proofs.Common.{[], sym, ◌∙◌, subst}
use Rattle.typing_unit_keeps.specs.Laws.{FilesAreTyped}
use Rattle.typing_accepted.specs.AcceptanceExpressions.{AcceptsAll}
use Rattle.typing_accepted.specs.AcceptanceLaws.{ExpressionsAreTyped, ArgumentsAreTyped, TypeNamesAreTyped, StructsAreTyped, InitializersAreTyped, StatementsAreTyped, ExternalsAreTyped, AcceptedIsTyped, AcceptedAsOne, AcceptedKeepsRules}
use Rattle.typing_accepted.proofs.Steps.{same_ok}
use Rattle.typing_accepted.proofs.ToTyped.{to_typed, to_typed_all, to_type_named}
use Rattle.typing_accepted.proofs.FromTyped.{from_typed, from_typed_all, from_type_named}
use Rattle.typing_accepted.proofs.ToDeclarators.{to_struct}
use Rattle.typing_accepted.proofs.FromDeclarators.{from_struct}
use Rattle.typing_accepted.proofs.ToInitials.{to_initialized}
use Rattle.typing_accepted.proofs.FromInitials.{from_initialized}
use Rattle.typing_accepted.proofs.ToStatements.{to_statement}
use Rattle.typing_accepted.proofs.FromStatements.{from_statement}
use Rattle.typing_accepted.proofs.ToFiles.{to_external, to_unit}
use Rattle.typing_accepted.proofs.FromFiles.{from_external, from_unit}

pub expressions_are_typed : ExpressionsAreTyped
expressions_are_typed s e v u = record { forward = λ a. to_typed s e v u a; backward = λ is. from_typed s e (v, u) is }

pub arguments_are_typed : ArgumentsAreTyped
arguments_are_typed s es vs u = record {
  forward = λ a. to_typed_all s es vs u [] a;
  backward = λ is. let all = from_typed_all [] s es (vs, u) is in subst (λ l. AcceptsAll s es l u) (sym all.is) all.accepts;
}

pub type_names_are_typed : TypeNamesAreTyped
type_names_are_typed s n t u = record { forward = λ a. to_type_named s n t u a; backward = λ is. from_type_named s n (t, u) is }

pub structs_are_typed : StructsAreTyped
structs_are_typed s d k u = record { forward = λ a. to_struct s d k u a; backward = λ is. from_struct s d (k, u) is }

pub initializers_are_typed : InitializersAreTyped
initializers_are_typed is_global s line t i v u = record { forward = λ a. to_initialized is_global s line t i v u a; backward = λ is. from_initialized is_global s line t i (v, u) is }

pub statements_are_typed : StatementsAreTyped
statements_are_typed a s x y u = record { forward = λ h. to_statement a s x y u h; backward = λ is. from_statement a s x (y, u) is }

pub externals_are_typed : ExternalsAreTyped
externals_are_typed numbers f e g = record { forward = λ a. to_external numbers f e g a; backward = λ is. from_external numbers f e g is }

pub accepted_is_typed : AcceptedIsTyped
accepted_is_typed u p = record { forward = λ a. to_unit u p a; backward = λ is. from_unit u p is }

pub accepted_as_one : AcceptedAsOne
accepted_as_one u p q first second = same_ok p q (sym (to_unit u p first) ∙ to_unit u q second)

pub accepted_keeps_rules : FilesAreTyped → AcceptedKeepsRules
accepted_keeps_rules typed u p range accepted = typed u p range (to_unit u p accepted)
