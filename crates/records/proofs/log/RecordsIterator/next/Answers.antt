-- No bytes are left, so no items are. The other goals need the reader's answer as well, and are left to the search.
use Rattle.std.proofs.Common.{arith}
use Rattle.records.proofs.Logging.{log_over}
use Rattle.records.proofs.log.RecordsIterator.next.Goals as goal

pub returns-then-is_empty-clause-steps : goal.returns-then-is_empty-clause-steps
returns-then-is_empty-clause-steps c = grind (arith, log_over)
