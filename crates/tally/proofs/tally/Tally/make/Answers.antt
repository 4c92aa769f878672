-- All counts are 0: those from k on too, and the sum of the first k.
use Rattle.std.proofs.lemmas.List.{drop-replicate}
use Rattle.tally.proofs.Beside.{sum_zeros}
use Rattle.tally.proofs.tally.Tally.make.Goals as goal

pub invariant_of-result-clause-rest : goal.invariant_of-result-clause-rest
invariant_of-result-clause-rest c = drop-replicate c.args.k 64 0

pub invariant_of-result-clause-all : goal.invariant_of-result-clause-all
invariant_of-result-clause-all c = sum_zeros c.args.k 64
