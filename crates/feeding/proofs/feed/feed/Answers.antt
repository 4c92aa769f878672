-- Before the first record nothing has changed; after each, what stays does so over one call more, which no search finds.
use Rattle.std.proofs.Common.{rules, refl, arith}
use Rattle.feeding.proofs.Feeding.{all_content, all_answer, whole_log}
use Rattle.feeding.proofs.feed.feed.Goals as goal

pub loop-item-init : goal.loop-item-init
loop-item-init g c = record {
  can = tt;
  ends = tt;
  few = search rules;
  parts = refl;
  grown = omega arith;
  plan = refl;
  stays = g.met.S.Summary.stays_same c.args.summary.now;
  content = search (rules, all_content);
  answer = search (rules, all_answer);
  whole = search (rules, whole_log);
}

pub loop-item-preserved : goal.loop-item-preserved
loop-item-preserved g c = record {
  can = search rules;
  ends = search rules;
  few = search rules;
  parts = search rules;
  grown = search rules;
  plan = search rules;
  stays = g.met.S.Summary.stays_on _ _ _ c.loop-item.invariant.stays c.step.ensures.stays;
  content = search rules;
  answer = search rules;
  whole = search rules;
}
