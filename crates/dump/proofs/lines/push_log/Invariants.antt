-- So far the lines of the items that came are added.
use Rattle.std.proofs.Common.{string_bytes}
use Rattle.dump.proofs.Walking.{SoFar}
use Rattle.dump.proofs.lines.push_log.Given as goal

abbrev pub invariant-loop-item : goal.invariant-loop-item
invariant-loop-item l = record {
  can : (goal.iterator-loop-item).can_next l.item-iterator;
  ends : (goal.iterator-loop-item).is_finite l.item-iterator;
  so_far : SoFar (string_bytes l.initial.text) (string_bytes l.text) l.log l.count l.item-iterator;
}
