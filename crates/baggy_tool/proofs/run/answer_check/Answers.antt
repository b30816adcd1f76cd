use Rattle.std.proofs.Common.{ℕ, List, None, subst}
use Rattle.baggy_tool.specs.Calls.{Files, files, AnswersCheck}
use Rattle.baggy_tool.proofs.Answering.{file_checks}
use Rattle.baggy_tool.proofs.run.answer_check.Goals as goal

pub returns-in-Ok-clause-answers : goal.returns-in-Ok-clause-answers
returns-in-Ok-clause-answers g c = λ old.
    let before : Files = files (g.F.Shelf.file c.args.shelf.now) (g.F.Shelf.faults c.args.shelf.now) (g.F.Shelf.misses c.args.shelf.now) in
    let after : Files = files (g.F.Shelf.file c.read_file.new.shelf) (g.F.Shelf.faults c.read_file.new.shelf) (g.F.Shelf.misses c.read_file.new.shelf) in
    let text : List ℕ = c.in-Ok.text.items in
    let answers = subst (λ (t : List ℕ). AnswersCheck t None c.check_text.result) c.deref.ensures.value c.check_text.ensures in
    rw c.without_image-in-Ok.ensures (file_checks c.args.file.now before after old text c.check_text.result c.in-Ok.ensures.text answers)
