use Rattle.std.proofs.Common.{ap, arith}
use Rattle.typing_expressions.specs.Scene.{scene_of}
use Rattle.typing_declarations.specs.Declarators.{CScopes}
use Rattle.typing_declarations.proofs.InScopes.{closed_by}
use Rattle.typing_declarations.proofs.scopes.close.Goals as goal

pub returns : goal.returns
returns c =
    let s = c.args.scene.now in
    ap (λ (ss : CScopes). record (scene_of s) { scopes = ss }) (closed_by s.scopes.items c.pop.new.self.items _ (omega (arith, s.scopes.ok.0)) c.pop.ensures.rest)
