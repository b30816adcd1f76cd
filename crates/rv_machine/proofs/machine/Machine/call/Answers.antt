use Rattle.std.proofs.Common.{◌≡◌, refl, sym, ap, ◌∙◌, arith}
use Rattle.rv_machine.specs.State.{State, register_of}
use Rattle.rv_machine.specs.Environment.{calls}
use Rattle.rv_machine.proofs.Outside.{ran_at}
use Rattle.rv_machine.proofs.Calls.{IsNoCall, call_exits, call_gets, call_puts, call_mallocs, call_frees, call_reports, call_enters, call_leaves, call_traps, call_failed}
use Rattle.rv_machine.proofs.machine.Machine.call.Goals as goal

pub returns-in-1-clause-stepped : goal.returns-in-1-clause-stepped
returns-in-1-clause-stepped g c =
    let is = ap (λ (x : State). register_of x.core 17) (sym c.self.view_is) ∙ sym c.register.ensures ∙ c.in-1.is in
    ran_at calls _ _ _ _ _ _ refl (sym c.exit.ensures) (call_exits c.args.self.now _ is)

pub returns-in-Ok-clause-stepped : goal.returns-in-Ok-clause-stepped
returns-in-Ok-clause-stepped g c =
    let is = ap (λ (x : State). register_of x.core 17) (sym c.self.view_is) ∙ sym c.register.ensures ∙ c.in-2.is in
    call_gets _ _ _ _ is (c.in-Ok.ensures.answered (g.O.Sink.written c.args.output.now))

pub returns-in-Err-clause-stepped : goal.returns-in-Err-clause-stepped
returns-in-Err-clause-stepped g c =
    let is = ap (λ (x : State). register_of x.core 17) (sym c.self.view_is) ∙ sym c.register.ensures ∙ c.in-2.is in
    call_failed 2 _ _ _ _ c.requires.running c.requires.asks is (c.in-Err.ensures.answered (g.O.Sink.written c.args.output.now))

pub returns-in-Ok-putchar-clause-stepped : goal.returns-in-Ok-putchar-clause-stepped
returns-in-Ok-putchar-clause-stepped g c =
    let is = ap (λ (x : State). register_of x.core 17) (sym c.self.view_is) ∙ sym c.register.ensures ∙ c.in-3.is in
    call_puts _ _ _ _ is (c.in-Ok-putchar.ensures.answered (g.I.Source.left c.args.input.now) (g.I.Source.is_over c.args.input.now))

pub returns-in-Err-putchar-clause-stepped : goal.returns-in-Err-putchar-clause-stepped
returns-in-Err-putchar-clause-stepped g c =
    let is = ap (λ (x : State). register_of x.core 17) (sym c.self.view_is) ∙ sym c.register.ensures ∙ c.in-3.is in
    call_failed 3 _ _ _ _ c.requires.running c.requires.asks is (c.in-Err-putchar.ensures.answered (g.I.Source.left c.args.input.now) (g.I.Source.is_over c.args.input.now))

pub returns-in-4-clause-stepped : goal.returns-in-4-clause-stepped
returns-in-4-clause-stepped g c =
    let is = ap (λ (x : State). register_of x.core 17) (sym c.self.view_is) ∙ sym c.register.ensures ∙ c.in-4.is in
    ran_at calls _ _ _ _ _ _ refl (sym c.malloc.ensures) (call_mallocs c.args.self.now _ is)

pub returns-in-5-clause-stepped : goal.returns-in-5-clause-stepped
returns-in-5-clause-stepped g c =
    let is = ap (λ (x : State). register_of x.core 17) (sym c.self.view_is) ∙ sym c.register.ensures ∙ c.in-5.is in
    ran_at calls _ _ _ _ _ _ refl (sym c.free.ensures) (call_frees c.args.self.now _ is)

pub returns-in-6-clause-stepped : goal.returns-in-6-clause-stepped
returns-in-6-clause-stepped g c =
    let is = ap (λ (x : State). register_of x.core 17) (sym c.self.view_is) ∙ sym c.register.ensures ∙ c.in-6.is in
    ran_at calls _ _ _ _ _ _ refl (sym c.report.ensures) (call_reports c.args.self.now _ is)

pub returns-in-7-clause-stepped : goal.returns-in-7-clause-stepped
returns-in-7-clause-stepped g c =
    let is = ap (λ (x : State). register_of x.core 17) (sym c.self.view_is) ∙ sym c.register.ensures ∙ c.in-7.is in
    ran_at calls _ _ _ _ _ _ refl (sym c.enter.ensures) (call_enters c.args.self.now _ is)

pub returns-in-8-clause-stepped : goal.returns-in-8-clause-stepped
returns-in-8-clause-stepped g c =
    let is = ap (λ (x : State). register_of x.core 17) (sym c.self.view_is) ∙ sym c.register.ensures ∙ c.in-8.is in
    ran_at calls _ _ _ _ _ _ refl (sym c.leave.ensures) (call_leaves c.args.self.now _ is)

pub returns-in_default-clause-stepped : goal.returns-in_default-clause-stepped
returns-in_default-clause-stepped g c =
    let is : register_of c.args.self.now.core 17 ≡ c.register.result = ap (λ (x : State). register_of x.core 17) (sym c.self.view_is) ∙ sym c.register.ensures in
    let none : IsNoCall (register_of c.args.self.now.core 17) = record {
      not_1 = grind (arith, is, c.in_default);
      not_2 = grind (arith, is, c.in_default);
      not_3 = grind (arith, is, c.in_default);
      not_4 = grind (arith, is, c.in_default);
      not_5 = grind (arith, is, c.in_default);
      not_6 = grind (arith, is, c.in_default);
      not_7 = grind (arith, is, c.in_default);
      not_8 = grind (arith, is, c.in_default);
    } in
    ran_at calls _ _ _ _ _ _ refl (sym c.trap.ensures) (call_traps c.args.self.now _ none)
