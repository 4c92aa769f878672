-- A kind below k is held, with the count at its number; no other is.
use Rattle.std.proofs.Common.{sym, ◌∙◌}
use Rattle.tally.proofs.Tallying.{count_is}
use Rattle.tally.proofs.tally.TallySummary.count.Goals as goal

pub returns : goal.returns
returns c = let tally = c.args.self.now in c.count_of.ensures ∙ sym (count_is tally.k tally.few tally.counts tally.long tally.n _)
