use Rattle.std.proofs.Common.{◌≡◌, ℕ, ◌∷◌, Bool, true, List, Option, Some, sym, ap, subst, ◌∙◌}
use Rattle.std.specs.Prelude.{slice_get, drop}
use Rattle.bb_watch.specs.declared.event.Event.{Event}
use Rattle.rv_machine.specs.Events.{events_in}
use Rattle.rv_machine.proofs.EventLists.{last_read, lie_ending, ends_alone}
use Rattle.rv_machine.proofs.events.Events.next.Goals as goal

pub overflow_sub-self : goal.overflow_sub-self
overflow_sub-self c = (last_read c.self.inside.ends c.self.inside.at c.self.inside.exponents.now c.if-self.true c.in-len1-up.len_at_least c.self.invariant).fits

pub invariant_of-self-then-self : goal.invariant_of-self-then-self
invariant_of-self-then-self c =
    let last = last_read c.self.inside.ends c.self.inside.at c.self.inside.exponents.now c.if-self.true c.in-len1-up.len_at_least c.self.invariant in
    lie_ending c.self.inside.ends _ _ c.if-self.true last.invariant

pub returns-in-len1-up-clause-first : goal.returns-in-len1-up-clause-first
returns-in-len1-up-clause-first c =
    let last = last_read c.self.inside.ends c.self.inside.at c.self.inside.exponents.now c.if-self.true c.in-len1-up.len_at_least c.self.invariant in
    sym (ap (λ (l : List Event). slice_get l 0) (sym c.self.view_is ∙ ends_alone c.self.inside.event c.self.inside.ends c.self.inside.at c.self.inside.exponents.now c.in_default.is c.if-self.true ∙ last.told))

pub returns-in-len1-up-clause-rest : goal.returns-in-len1-up-clause-rest
returns-in-len1-up-clause-rest c =
    let last = last_read c.self.inside.ends c.self.inside.at c.self.inside.exponents.now c.if-self.true c.in-len1-up.len_at_least c.self.invariant in
    ends_alone c.self.inside.event c.self.inside.ends _ _ c.in_default.is c.if-self.true
    ∙ sym (ap (λ (l : List Event). drop 1 l) (sym c.self.view_is ∙ ends_alone c.self.inside.event c.self.inside.ends c.self.inside.at c.self.inside.exponents.now c.in_default.is c.if-self.true ∙ last.told))
