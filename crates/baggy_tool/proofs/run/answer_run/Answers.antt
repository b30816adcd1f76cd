use Rattle.std.proofs.Common.{ℕ, List, subst}
use Rattle.baggy_tool.specs.Calls.{Files, Streams, files, streams, AnswersRun}
use Rattle.baggy_tool.proofs.Answering.{file_runs}
use Rattle.baggy_tool.proofs.run.answer_run.Goals as goal

pub returns-in-Ok-clause-answers : goal.returns-in-Ok-clause-answers
returns-in-Ok-clause-answers g c =
    let before : Files = files (g.F.Shelf.file c.args.shelf.now) (g.F.Shelf.faults c.args.shelf.now) (g.F.Shelf.misses c.args.shelf.now) in
    let after : Files = files (g.F.Shelf.file c.read_file.new.shelf) (g.F.Shelf.faults c.read_file.new.shelf) (g.F.Shelf.misses c.read_file.new.shelf) in
    let old : Streams = streams (g.I.Source.left c.args.input.now) (g.I.Source.is_over c.args.input.now) (g.I.Source.faults c.args.input.now) (g.O.Sink.written c.args.output.now) (g.O.Sink.faults c.args.output.now) in
    let new : Streams = streams (g.I.Source.left c.run_text.new.input) (g.I.Source.is_over c.run_text.new.input) (g.I.Source.faults c.run_text.new.input) (g.O.Sink.written c.run_text.new.output) (g.O.Sink.faults c.run_text.new.output) in
    let text : List ℕ = c.in-Ok.text.items in
    let answers = subst (λ (t : List ℕ). AnswersRun t c.args.steps old new c.run_text.result.image c.run_text.result.ending) c.deref.ensures.value c.run_text.ensures in
    file_runs c.args.file.now c.args.steps before after old new text c.run_text.result.image c.run_text.result.ending c.in-Ok.ensures.text answers
