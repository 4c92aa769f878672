-- What feeding says of a log, and of that log without one record.
use Rattle.std.specs.Prelude.{◌≡◌, ℕ, Bool, ◌⊎◌, List, Option, IsOk}
use Rattle.records.specs.Laws.{Bytes}
use Rattle.records.specs.Values.{RecordValue}
use Rattle.records.specs.Logs.{log_of, encode_all}
use Rattle.model.specs.Contents.{Content}
use Rattle.model.specs.Plans.{Plan, after_from}
use Rattle.feeding.specs.Feeding.{added, fed_answer}
use Rattle.work.specs.Runs.{OneFewer, Near}

-- two logs of which the second has the bytes of the first's records without one
pub record OneRecordFewer (log shorter : List ℕ) : Type 0 where
  pub bytes : Bytes log
  pub others : List RecordValue
  pub one_fewer : OneFewer (log_of log).records others
  pub encoded : shorter ≡ encode_all others

module _ {K : Type 0} (plan : Plan K) (gives : RecordValue → Option K) where
  -- a fresh summary takes a log to its end: no fault comes
  abbrev pub FedToEnd : List ℕ → Type 0
  FedToEnd log = IsOk (fed_answer plan plan.fresh gives (log_of log))

  -- the content after a log was fed to a fresh summary
  abbrev pub fed_fresh : List ℕ → Content K
  fed_fresh log = after_from plan plan.fresh (added plan plan.fresh gives (log_of log).records)

-- Through any lens, alike fresh summaries that take a log and that log without any one record, both to the end, come to
-- contents that are equal, or to neighbours of which a list of either, on the premise, also comes from the other.
abbrev pub NeighboursByLogs : {K : Type 0} → (K → K → Bool) → Plan K → Type 0
NeighboursByLogs {K} less plan =
    (gives : RecordValue → Option K) (log shorter : List ℕ) → OneRecordFewer log shorter → FedToEnd plan gives log → FedToEnd plan gives shorter →
    (fed_fresh plan gives log ≡ fed_fresh plan gives shorter) ⊎ Near less (fed_fresh plan gives log) (fed_fresh plan gives shorter)
