-- After i turns the first i of the calls that are worked have been made.
use Rattle.std.proofs.Common.{◌≡◌, take}
use Rattle.work.specs.Memories.{memory_of, SameBuffers}
use Rattle.work.proofs.Turning.{SoFar}
use Rattle.work.proofs.run.work.Given as goal

abbrev pub invariant-loop-i : goal.invariant-loop-i
invariant-loop-i g l = record {
  same : SameBuffers l.initial.buffers l.buffers;
  plan : g.S.Summary.plan l.summary ≡ g.S.Summary.plan l.initial.summary;
  stays : g.S.Summary.stays l.initial.summary l.summary;
  so_far : SoFar g.L.Lens.gives (g.S.Summary.plan l.initial.summary) g.S.Key.Kind.less (g.S.Summary.content l.initial.summary) l.initial.books (take l.worked l.calls)
      l.initial.answers (memory_of l.initial.buffers) l.i (g.S.Summary.content l.summary) l.books l.answers (memory_of l.buffers) l.from;
}
