-- The laws hold of any bytes.
use Rattle.records.proofs.Items.{slice_laws}
use Rattle.dump.proofs.dump.Goals as goal

pub returns-clause-laws : goal.returns-clause-laws
returns-clause-laws c = slice_laws c.args.log.now c.type_inv.log

pub returns-in_err-push_log-clause-laws : goal.returns-in_err-push_log-clause-laws
returns-in_err-push_log-clause-laws c = slice_laws c.args.log.now c.type_inv.log

pub returns-then-log-gt-MOST-clause-laws : goal.returns-then-log-gt-MOST-clause-laws
returns-then-log-gt-MOST-clause-laws c = slice_laws c.args.log.now c.type_inv.log
