-- The sketch is fresh by its own k, and keeps it.
use Rattle.console.proofs.FedSketches.{fresh_own, k_after}
use Rattle.console.proofs.fed.feed_sketch.Goals as goal

pub feed_fresh-requires : goal.feed_fresh-requires
feed_fresh-requires g c = fresh_own g.K.Kind.less c.args.k c.args.made.now c.args.made.now c.requires

pub returns-clause-k : goal.returns-clause-k
returns-clause-k g c = k_after g.K.Kind.less c.args.k c.args.made.now c.feed_fresh.new.summary c.requires c.feed_fresh.ensures.plan
