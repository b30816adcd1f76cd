use Rattle.std.proofs.Common.{ℕ, List, subst}
use Rattle.baggy_tool.specs.Calls.{Files, Streams, files, streams, AnswersExec}
use Rattle.baggy_tool.proofs.Answering.{file_execs}
use Rattle.baggy_tool.proofs.run.answer_exec.Goals as goal

pub returns-in-Ok-clause-answers : goal.returns-in-Ok-clause-answers
returns-in-Ok-clause-answers g c =
    let before : Files = files (g.F.Shelf.file c.args.shelf.now) (g.F.Shelf.faults c.args.shelf.now) (g.F.Shelf.misses c.args.shelf.now) in
    let after : Files = files (g.F.Shelf.file c.read_file.new.shelf) (g.F.Shelf.faults c.read_file.new.shelf) (g.F.Shelf.misses c.read_file.new.shelf) in
    let old : Streams = streams (g.I.Source.left c.args.input.now) (g.I.Source.is_over c.args.input.now) (g.I.Source.faults c.args.input.now) (g.O.Sink.written c.args.output.now) (g.O.Sink.faults c.args.output.now) in
    let new : Streams = streams (g.I.Source.left c.exec_bytes.new.input) (g.I.Source.is_over c.exec_bytes.new.input) (g.I.Source.faults c.exec_bytes.new.input) (g.O.Sink.written c.exec_bytes.new.output) (g.O.Sink.faults c.exec_bytes.new.output) in
    let text : List ℕ = c.in-Ok.bytes.items in
    let answers = subst (λ (t : List ℕ). AnswersExec t c.args.steps old new c.exec_bytes.result.image c.exec_bytes.result.ending) c.deref.ensures.value c.exec_bytes.ensures in
    file_execs c.args.file.now c.args.steps before after old new text c.exec_bytes.result.image c.exec_bytes.result.ending c.in-Ok.ensures.text answers
