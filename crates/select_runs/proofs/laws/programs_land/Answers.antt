use Rattle.select_scope.proofs.Agree.{Laws}
use Rattle.select_runs.proofs.Whole as whole
use Rattle.select_runs.proofs.laws.programs_land.Goals as goal

pub returns : goal.returns
returns c =
    let laws : Laws = record {
      straight = c.straight_runs.ensures;
      steps_add = c.steps_add.ensures;
      core_stays = c.core_stays.ensures;
      others = c.others_stay.ensures;
      leads = c.steps_lead.ensures;
      kept_more = c.kept_more.ensures;
      events_append = c.events_append.ensures;
      events_happen = c.events_happen.ensures;
      each_appends = c.each_appends.ensures.control;
      open_appends = c.open_appends.ensures;
      shared_appends = c.shared_appends.ensures;
      tells_append = c.tells_append.ensures;
      live_appends = c.live_appends.ensures;
    } in
    whole.programs_land laws (λ steps. c.items_are_steps.ensures 4 steps)
