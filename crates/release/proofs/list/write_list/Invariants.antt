-- After j turns the output begins with the entries of the first j held keys.
use Rattle.std.proofs.Common.{◌≤◌}
use Rattle.release.proofs.Listed.{SoFar}
use Rattle.release.proofs.list.write_list.Given as goal

abbrev pub invariant-loop-j : goal.invariant-loop-j
invariant-loop-j g l = record {
  few : l.written ≤ l.j;
  so_far : SoFar (g.S.Summary.content l.summary) l.shared l.draws l.threshold l.initial.output l.output l.j l.written;
}
