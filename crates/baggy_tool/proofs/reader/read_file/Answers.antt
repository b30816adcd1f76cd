use Rattle.std.proofs.Common.{arith, rules}
use Rattle.baggy_tool.proofs.Files.{front_more, front_end, front_full}
use Rattle.baggy_tool.proofs.reader.read_file.Goals as goal

pub returns-in-Ok-eq0-clause-text : goal.returns-in-Ok-eq0-clause-text
returns-in-Ok-eq0-clause-text g c =
    let i = c.loop-shelf.invariant in
    front_end c.args.most (g.F.Shelf.file c.args.shelf.now c.args.name.now) (g.F.Shelf.file c.loop-shelf.shelf c.args.name.now) c.loop-shelf.text.items c.read_piece.new.text.items c.in-Ok-eq0.field-0 i.front (i.same c.args.name.now) (omega (arith, i.most, c.loop-shelf.text.ok.0)) (let m = c.read_piece.ensures.most in let k = c.read_piece.new.text.ok.0 in omega (arith, m, k)) (omega arith) c.in-Ok-eq0.ensures.text

pub loop-shelf-preserved : goal.loop-shelf-preserved
loop-shelf-preserved g c =
    let i = c.loop-shelf.invariant in
    record {
      front = front_more (g.F.Shelf.file c.args.shelf.now c.args.name.now) (g.F.Shelf.file c.loop-shelf.shelf c.args.name.now) c.loop-shelf.text.items c.read_piece.new.text.items c.in-Ok-read_piece.field-0 i.front (i.same c.args.name.now) c.in-Ok-read_piece.ensures.text;
      most = search rules;
      buffer = search rules;
      same = grind arith;
      faults = omega (arith, c.in-Ok-read_piece.ensures.cause.0);
      misses = omega (arith, c.in-Ok-read_piece.ensures.cause.1);
    }

pub returns-clause-text : goal.returns-clause-text
returns-clause-text g c =
    let i = c.loop-shelf.invariant in
    front_full c.args.most (g.F.Shelf.file c.args.shelf.now c.args.name.now) c.loop-shelf.text.items i.front (omega (arith, i.most, c.loop-shelf.text.ok.0))
