use Rattle.std.proofs.Common.{sym, ◌∙◌}
use Rattle.std.proofs.lemmas.Result.{err_from_is_err_and}
use Rattle.typed_tree.specs.TypedViews.{program_of}
use Rattle.mid_code.specs.Views.{program_of as mid_program}
use Rattle.lowering.proofs.Lowered.{params_within, code_is, limit_refused}
use Rattle.lowering.proofs.lower.lower.Goals as goal

pub returns-in_err-counts : goal.returns-in_err-counts
returns-in_err-counts c =
    let e = err_from_is_err_and c.from_residual.result c.from_residual.ensures.1 in
    rw (e.1, e.2) (limit_refused (program_of c.args.program.now) c.in_err-counts.field-0.0 c.in_err-counts.ensures.limits)

pub returns-then-not-counts : goal.returns-then-not-counts
returns-then-not-counts c =
    let within = c.in_ok-counts.ensures in (
      within.limits.0,
      within.limits.1,
      sym within.counts.built ∙ c.if-not-counts.true,
    )

pub lowered-requires-clause-built : goal.lowered-requires-clause-built
lowered-requires-clause-built c = sym c.in_ok-counts.ensures.counts.built ∙ c.if-not-counts.false

pub lowered-requires-clause-room : goal.lowered-requires-clause-room
lowered-requires-clause-room c = c.in_ok-counts.ensures.limits.1

pub lowered-requires-clause-params : goal.lowered-requires-clause-params
lowered-requires-clause-params c = let p = program_of c.args.program.now in params_within p p.functions c.requires.typed.functions

pub lowered-requires-clause-values : goal.lowered-requires-clause-values
lowered-requires-clause-values c = c.as_slice.ensures ∙ c.in_ok-counts.ensures.counts.values

pub returns : goal.returns
returns c =
    let p = program_of c.args.program.now in
    let within = c.in_ok-counts.ensures in
    let built = sym within.counts.built ∙ c.if-not-counts.false in (
      within.limits.0,
      within.limits.1,
      built,
      code_is p (mid_program c.in_ok-mid.mid) c.code_keeps.ensures c.code_is_light.ensures c.code_is_formed.ensures c.requires.typed c.requires.lines built within.limits.1 c.in_ok-mid.ensures,
    )
