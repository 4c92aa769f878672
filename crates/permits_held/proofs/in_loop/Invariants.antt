-- After each round the book is as it was, and it had a permit left if there was a round.
use Rattle.std.proofs.Common.{◌≡◌, ◌<◌, true}
use Rattle.release.specs.Books.{has_left}
use Rattle.permits_held.proofs.in_loop.Given as goal

abbrev pub invariant-loop : goal.invariant-loop
invariant-loop l = record { same : l.book ≡ l.initial.book; left : 0 < l.counter → has_left l.initial.book ≡ true }
