-- What the items that are left make of the summary and of what was found so far is what the whole log makes of them.
use Rattle.std.proofs.Common.{OnOk, ◌≡◌, ◌+◌, ◌≤◌, length}
use Rattle.records.specs.Logs.{log_of, encode_all}
use Rattle.model.specs.Plans.{after_from}
use Rattle.feeding.specs.Feeding.{added, fed_answer}
use Rattle.feeding.proofs.Feeding.{content_from, answer_from}
use Rattle.feeding.proofs.feed.feed.Given as goal

abbrev pub invariant-loop-item : goal.invariant-loop-item
invariant-loop-item g l = record {
  can : (goal.iterator-loop-item g).can_next l.item-iterator;
  ends : (goal.iterator-loop-item g).is_finite l.item-iterator;
  few : l.fed.read + length l.item-iterator ≤ length l.log;
  parts : l.fed.read ≡ l.fed.absent + l.fed.passed_over + l.fed.taken;
  grown : (g.S.Summary.content l.summary).n ≡ (g.S.Summary.content l.initial.summary).n + l.fed.taken;
  plan : g.S.Summary.plan l.summary ≡ g.S.Summary.plan l.initial.summary;
  stays : g.S.Summary.stays l.initial.summary l.summary;
  content : content_from g.S.Key.Kind.less (g.S.Summary.plan l.initial.summary) (g.L.Lens.gives l.lens) (g.S.Summary.content l.summary) l.item-iterator
      ≡ after_from (g.S.Summary.plan l.initial.summary) (g.S.Summary.content l.initial.summary)
      (added (g.S.Summary.plan l.initial.summary) (g.S.Summary.content l.initial.summary) (g.L.Lens.gives l.lens) (log_of l.log).records);
  answer : answer_from g.S.Key.Kind.less (g.S.Summary.plan l.initial.summary) (g.L.Lens.gives l.lens) (g.S.Summary.content l.summary) l.fed l.item-iterator
      ≡ fed_answer (g.S.Summary.plan l.initial.summary) (g.S.Summary.content l.initial.summary) (g.L.Lens.gives l.lens) (log_of l.log);
  whole : OnOk (fed_answer (g.S.Summary.plan l.initial.summary) (g.S.Summary.content l.initial.summary) (g.L.Lens.gives l.lens) (log_of l.log))
      (l.log ≡ encode_all (log_of l.log).records);
}
