-- The laws of a log, of the log that is read.
use Rattle.records.proofs.Items.{slice_laws}
use Rattle.records.proofs.log.Records.new.Goals as goal

pub returns-clause-splits : goal.returns-clause-splits
returns-clause-splits c = slice_laws c.args.log.now c.type_inv.log
