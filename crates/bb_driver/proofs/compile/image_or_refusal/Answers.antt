use Rattle.bounds_instr_code.specs.Code.{global_blocks}
use Rattle.std.specs.Prelude.{map}
use Rattle.std.proofs.Common.{◌≡◌, true, sym, subst, [], arith}
use Rattle.std.proofs.lemmas.Result.{err_from_is_err_and}
use Rattle.typed_tree.specs.TypedViews.{program_of}
use Rattle.mid_code.specs.Formed.{Formed}
use Rattle.mid_code.specs.Safe.{Safe, site_of}
use Rattle.mid_code.specs.Views as mid
use Rattle.lowering_keeps.specs.Keeps.{Keeps}
use Rattle.bounds_instr_code.specs.Built as instr
use Rattle.bb_driver.specs.Compiles.{IsMade}
use Rattle.bb_driver.proofs.Made.{MadeLaws, none_safe, right}
use Rattle.bb_driver.proofs.Reading.{room_compiles, coded, lower_compiles}
use Rattle.bb_driver.proofs.compile.image_or_refusal.Goals as goal

pub returns-in_err-layout : goal.returns-in_err-layout
returns-in_err-layout c =
    let q = err_from_is_err_and c.from_residual-in_err-layout.result c.from_residual-in_err-layout.ensures.1 in
    rw (q.1, q.2) (room_compiles c.args.text.now (program_of c.in_ok-program.program) c.in_err-layout.field-0.0 c.in_ok-program.ensures.0 c.in_err-layout.ensures)

pub returns-in_err-mid : goal.returns-in_err-mid
returns-in_err-mid c =
    let q = err_from_is_err_and c.from_residual-in_err-mid.result c.from_residual-in_err-mid.ensures.1 in
    rw (q.1, q.2) (lower_compiles c.args.text.now (program_of c.in_ok-program.program) c.in_err-mid.field-0.0 c.in_ok-program.ensures.0 c.in_ok-layout.ensures.0 c.in_err-mid.ensures)

pub image_of-requires-clause-built : goal.image_of-requires-clause-built
image_of-requires-clause-built c =
    let p = program_of c.in_ok-program.program in
    let code = c.in_ok-mid.ensures.3 in
    subst (λ q. instr.is_built q ≡ true) (sym code.is) (c.code_is_built.ensures p c.in_ok-mid.ensures.2).0

pub image_of-requires-clause-plain : goal.image_of-requires-clause-plain
image_of-requires-clause-plain c =
    let p = program_of c.in_ok-program.program in
    let code = c.in_ok-mid.ensures.3 in
    subst (λ q. global_blocks 4 q ≡ []) (sym code.is) (c.no_frames.ensures 4 p c.in_ok-mid.ensures.2).globals

pub returns : goal.returns
returns c =
    let p = program_of c.in_ok-program.program in
    let read = c.in_ok-program.ensures in
    let code = c.in_ok-mid.ensures.3 in
    let laws : MadeLaws = record { right = c.layers_make_right.ensures; runs = c.selection_runs.ensures; fits = c.code_fits.ensures; calm = c.code_is_calm.ensures; in_reach = c.calm_is_in_reach.ensures; main = c.main_fits.ensures; frameless = c.no_frames.ensures } in
    let image = c.in_ok-image.image in
    record {
      image = record {
        program = p;
        accepted = coded c.args.text.now p c.in_ok-mid.mid read.0 c.in_ok-layout.ensures.0 c.in_ok-mid.ensures;
        built = c.in_ok-mid.ensures.2;
        right = right laws p image read.1 c.in_ok-mid.ensures.2 (subst Formed code.is code.formed) (subst (λ q. IsMade q image) code.is c.in_ok-image.ensures) (subst (Keeps p) code.is code.keeps);
        shape = c.in_ok-image.ensures.shape;
      };
      layout = c.in_ok-layout.ensures.1;
      code = code;
      safe = subst (λ sites. Safe (mid.program_of c.in_ok-mid.mid) (map site_of sites)) (sym c.new.ensures) (none_safe p (mid.program_of c.in_ok-mid.mid) code.keeps);
      unchecked = c.new.ensures;
      nodes = omega (arith, c.in_ok-counts.ensures.nodes, c.in_ok-mid.ensures.0);
    }
