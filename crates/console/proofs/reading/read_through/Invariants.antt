-- What the items that are left come to is what the whole log does.
use Rattle.std.proofs.Common.{◌≡◌, ◌+◌, ◌≤◌, length}
use Rattle.console.specs.Readings.{checked}
use Rattle.console.proofs.Readings.{read_from}
use Rattle.console.proofs.reading.read_through.Given as goal

abbrev pub invariant-loop-item : goal.invariant-loop-item
invariant-loop-item l = record {
  can : (goal.iterator-loop-item).can_next l.item-iterator;
  ends : (goal.iterator-loop-item).is_finite l.item-iterator;
  few : l.records + length l.item-iterator ≤ length l.log;
  same : read_from (length l.log) l.records l.item-iterator ≡ checked l.log;
}
