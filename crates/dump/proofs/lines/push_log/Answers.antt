-- A record's turn is a step of `Walking`.
use Rattle.std.proofs.Common.{string_bytes}
use Rattle.records.specs.Values.{value_of}
use Rattle.dump.proofs.Walking.{more, next_fits}
use Rattle.dump.proofs.lines.push_log.Goals as goal

pub invariant_of-line : goal.invariant_of-line
invariant_of-line c = record {
  fits =
      next_fits (string_bytes c.args.text.now) (string_bytes c.loop-item.text) c.args.log.now c.loop-item.count c.loop-item.item-iterator c.next.new.self
      c.in-Ok.field-0-0 (value_of c.in-Ok.given) c.loop-item.invariant.so_far (rw c.in-Ok.is at c.in-Some.ensures.steps);
}

pub loop-item-preserved : goal.loop-item-preserved
loop-item-preserved c = record {
  can = tt;
  ends = tt;
  so_far =
      more (string_bytes c.args.text.now) (string_bytes c.loop-item.text) c.args.log.now c.loop-item.count c.loop-item.item-iterator c.next.new.self
      c.in-Ok.field-0-0 (value_of c.in-Ok.given) c.loop-item.invariant.so_far (rw c.in-Ok.is at c.in-Some.ensures.steps) (string_bytes c.write.new.self)
      c.in_ok-write-in-Ok.ensures.bytes;
}
