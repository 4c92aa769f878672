-- The sketch is fresh by its own k, and keeps it.
use Rattle.std.specs.Prelude.{nat_lt}
use Rattle.console.proofs.FedSketches.{k_after, keys_taken}
use Rattle.console.proofs.number_page.take_numbers.Goals as goal

pub returns-clause-k : goal.returns-clause-k
returns-clause-k c = k_after nat_lt c.args.k c.args.made.now c.take_all.new.summary c.requires c.take_all.ensures.plan

pub returns-clause-content : goal.returns-clause-content
returns-clause-content c = keys_taken nat_lt c.args.k c.args.made.now c.take_all.new.summary c.requires c.args.entries.now c.take_all.ensures.content
