-- The law over runs, from no entries on.
use Rattle.fresh_runs.proofs.FreshRuns.{fresh_run}
use Rattle.fresh_runs.proofs.fresh.work_fresh.Goals as goal

pub returns-clause-worked : goal.returns-clause-worked
returns-clause-worked g c = record {
  number = c.work.ensures.worked;
  others = c.work.ensures.others;
  fresh_run = fresh_run _ _ _ _ _ _ _ _ _ _ _ c.requires c.work.ensures.run c.work.ensures.logs;
}
