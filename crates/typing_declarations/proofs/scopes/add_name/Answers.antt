use Rattle.std.proofs.Common.{ap}
use Rattle.typing_expressions.specs.Scene.{scene_of}
use Rattle.typing_declarations.specs.Declarators.{CScopes}
use Rattle.typing_declarations.proofs.InScopes.{not_there, renamed}
use Rattle.typing_declarations.proofs.scopes.add_name.Goals as goal

pub insert-requires-in-Some : goal.insert-requires-in-Some
insert-requires-in-Some c = not_there c.args.scene.now.scopes.items c.pop.new.self.items c.in-Some.found c.args.name.now c.in-Some.ensures.items c.requires

pub returns-in_ok-push-in-Some : goal.returns-in_ok-push-in-Some
returns-in_ok-push-in-Some c =
    let s = c.args.scene.now in
    ap (λ (ss : CScopes). record (scene_of s) { scopes = ss })
    (renamed s.scopes.items c.pop.new.self.items c.push-in-Some.new.self.items c.in-Some.found c.insert-in-Some.new.self c.args.name.now c.args.local
    c.in-Some.ensures.items c.in_ok-insert-in-Some.ensures c.in_ok-push-in-Some.ensures.items)
