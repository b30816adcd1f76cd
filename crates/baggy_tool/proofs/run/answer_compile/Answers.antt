use Rattle.std.proofs.Common.{ℕ, List, subst}
use Rattle.bb_outside.specs.Files.{Told}
use Rattle.baggy_tool.specs.Calls.{Files, files, AnswersCompile}
use Rattle.baggy_tool.proofs.Answering.{file_compiles}
use Rattle.baggy_tool.proofs.run.answer_compile.Goals as goal

pub returns-in-Ok-clause-answers : goal.returns-in-Ok-clause-answers
returns-in-Ok-clause-answers g c = λ old.
    let before : Files = files (g.F.Shelf.file c.args.shelf.now) (g.F.Shelf.faults c.args.shelf.now) (g.F.Shelf.misses c.args.shelf.now) in
    let after : Files = files (g.F.Shelf.file c.write_text.new.shelf) (g.F.Shelf.faults c.write_text.new.shelf) (g.F.Shelf.misses c.write_text.new.shelf) in
    let path : List ℕ = c.args.path.now in
    let mid : Told = g.F.Shelf.file c.read_file.new.shelf path in
    let faults : ℕ = g.F.Shelf.faults c.read_file.new.shelf in
    let text : List ℕ = c.in-Ok.text.items in
    let answers = subst (λ (t : List ℕ). AnswersCompile t mid (after.file path) faults after.faults c.write_text.result.image c.write_text.result.ending) c.deref.ensures.value c.write_text.ensures.written in
    file_compiles c.args.file.now path before after mid faults old text c.write_text.result.image c.write_text.result.ending c.in-Ok.ensures.text (c.read_file.ensures.files path) c.in-Ok.ensures.cause answers
