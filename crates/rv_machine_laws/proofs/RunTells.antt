-- What runs tell that are put together outside.
use Rattle.std.proofs.Common.{◌≡◌, [], ◌++◌, refl, sym, ap, ◌∙◌}
use Rattle.rv_machine.specs.Environment.{World}
use Rattle.rv_machine_laws.specs.Laws.{StepRunTells, RunBegins, RunGoesOn}
use Rattle.rv_machine.proofs.Outside.{ran_quiet, ran_same}
use Rattle.rv_machine.proofs.Runs.{ran_none, ran_then, ran_more}
use Rattle.rv_machine_laws.proofs.Tells.{step_told}

pub step_run_tells : StepRunTells
step_run_tells s o s' o' p =
    let w : World = record { machine = s; left = p.taken ++ []; told = [] } in
    sym (ap (λ (v : World). v.told) (p.does [] [] (λ over. refl))) ∙ step_told w

pub run_begins : RunBegins
unfolding ran_none ran_quiet
run_begins s o = (ran_none s o, refl)

pub run_goes_on : RunGoesOn
unfolding ran_more ran_same ran_then
run_goes_on k s o s1 o1 s2 o2 p q = (ran_more k s o s1 o1 s2 o2 p q, refl)
