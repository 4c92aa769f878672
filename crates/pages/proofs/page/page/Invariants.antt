-- After j turns the output begins with the lines of the first j held keys.
use Rattle.std.proofs.Common.{◌≤◌}
use Rattle.pages.proofs.Written.{SoFar}
use Rattle.pages.proofs.page.page.Given as goal

abbrev pub invariant-loop-j : goal.invariant-loop-j
invariant-loop-j g l = record {
  few : l.written ≤ l.j;
  so_far : SoFar l.facts.l l.limit (g.S.Summary.content l.summary).held l.initial.output l.output l.j l.written;
}
