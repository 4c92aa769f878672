-- The kinds are k and rise, and their counts sum up to n.
use Rattle.tally.proofs.Tallying.{counted_stands}
use Rattle.tally.proofs.tally.TallySummary.facts.Goals as goal

pub returns-clause-stands : goal.returns-clause-stands
returns-clause-stands c = counted_stands _ c.args.self.now.few _ c.args.self.now.long _ c.args.self.now.all
