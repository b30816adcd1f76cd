use Rattle.std.proofs.Common.{sym, ◌∙◌}
use Rattle.typing_declarations.proofs.InScopes.{taken_in}
use Rattle.typing_declarations.proofs.scopes.is_taken.Goals as goal

pub returns-in-Some : goal.returns-in-Some
returns-in-Some c =
    c.is_some.ensures
    ∙ taken_in c.args.scene.now.scopes.items c.in-Some.scope.now c.args.name.now c.get.result (rw c.deref.ensures.value at (sym c.in-Some.ensures.value)) c.get.ensures
