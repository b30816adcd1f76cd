use Rattle.std.proofs.Common.{◌≡◌, ◌++◌, OnOk, subst, sym}
use Rattle.flat_verify.specs.SheetViews.{sheet_of}
use Rattle.flat_verify.specs.Reach.{rules_of}
use Rattle.flat_verify.proofs.Pushed.{no_callee, callee}
use Rattle.flat_verify.proofs.rules.push_passes_to.Goals as goal

pub returns-then-g-sheets-clause-rules : goal.returns-then-g-sheets-clause-rules
returns-then-g-sheets-clause-rules c =
    no_callee (sheet_of c.args.from.now) c.args.sheets.now c.args.function c.args.place c.args.args.now (rules_of c.args.stretches.now.items) c.if-g-sheets.true

pub returns-clause-rules : goal.returns-clause-rules
returns-clause-rules c =
    subst (λ x. OnOk c.push_passes_rules.result (rules_of c.push_passes_rules.new.stretches.items ≡ rules_of c.args.stretches.now.items ++ x))
    (sym (callee (sheet_of c.args.from.now) c.args.sheets.now c.args.function c.args.place c.index-sheets-g.result c.args.args.now c.if-g-sheets.false c.index-sheets-g.is)) c.push_passes_rules.ensures.rules
