-- What the keys that are left make of the summary is what all of them make of it.
use Rattle.std.proofs.Common.{◌≡◌, drop}
use Rattle.console.proofs.Numbers.{one_by_one}
use Rattle.console.proofs.number_page.take_all.Given as goal

abbrev pub invariant-loop-key : goal.invariant-loop-key
invariant-loop-key g l = record {
  plan : g.S.Summary.plan l.summary ≡ g.S.Summary.plan l.initial.summary;
  left : one_by_one (g.S.Summary.plan l.initial.summary) (g.S.Summary.content l.summary) (drop l.key-index l.keys)
      ≡ one_by_one (g.S.Summary.plan l.initial.summary) (g.S.Summary.content l.initial.summary) l.keys;
}
