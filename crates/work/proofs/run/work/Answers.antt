-- The laws of the summary's type at the start and the end, and one call more in between.
use Rattle.std.proofs.Common.{refl, ◌∙◌, arith}
use Rattle.work.proofs.Turning.{begun, turned, ended}
use Rattle.work.proofs.ShorterLogs.{neighbours_by_logs}
use Rattle.work.proofs.run.work.Goals as goal

pub loop-i-init : goal.loop-i-init
loop-i-init g c = record {
  same = (refl, refl, refl);
  plan = refl;
  stays = g.met.S.Summary.stays_same c.args.summary.now;
  so_far = begun _ _ _ _ _ _ _ _ _ refl refl refl;
}

pub loop-i-preserved : goal.loop-i-preserved
loop-i-preserved g c = record {
  same = (
    c.step-answer.ensures.same.0 ∙ c.loop-i.invariant.same.0,
    c.step-answer.ensures.same.1 ∙ c.loop-i.invariant.same.1,
    c.step-answer.ensures.same.2 ∙ c.loop-i.invariant.same.2,
  );
  plan = c.step-answer.ensures.plan ∙ c.loop-i.invariant.plan;
  stays = g.met.S.Summary.stays_on c.args.summary.now c.loop-i.summary c.step-answer.new.summary c.loop-i.invariant.stays c.step-answer.ensures.stays;
  so_far = turned _ _ _ _ _ c.args.calls.now _ _ c.min-worked.result c.loop-i.i _ _ c.loop-i.answers _ _ c.loop-i.invariant.so_far _ c.loop-i.invariant.plan _ c.index-calls-i.is
      c.loop-i-test.true (omega arith) (omega arith) _ c.step-answer.ensures.ends _ _ _ _ c.step-answer.ensures.step _ c.record.ensures;
}

pub returns-clause-run : goal.returns-clause-run
returns-clause-run g c =
    ended _ _ _ _ _ c.args.calls.now _ _ c.min-worked.result c.loop-i.i _ _ _ _ _ c.loop-i.invariant.so_far c.loop-i-test.false
    g.met.S.Key.Kind.order (g.met.S.Summary.lawful c.args.summary.now) (omega arith)

pub returns-clause-logs : goal.returns-clause-logs
returns-clause-logs g c = neighbours_by_logs _ g.met.S.Key.Kind.order _ (g.met.S.Summary.lawful c.args.summary.now)
