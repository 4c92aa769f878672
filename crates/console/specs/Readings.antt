-- What becomes of reading a log, as numbers.
use Rattle.std.specs.Prelude.{ℕ, List, length, Option, Some, None}
use Rattle.keys.specs.Refusals.{number_of}
use Rattle.records.specs.Faults.{refusal_of}
use Rattle.records.specs.Logs.{LogFault, log_of}
use Rattle.console.specs.declared.reading.Reading.{Reading}

-- so many records were read of a log of this length, to its end or to the reader's fault
abbrev pub read_by : (long : ℕ) → Option LogFault → (records : ℕ) → Reading
read_by long None n = record { records = n; offset = long; fault = 0 }
read_by long (Some f) n = record { records = f.index; offset = f.offset; fault = number_of (refusal_of f.fault) }

-- what becomes of reading these bytes
abbrev pub checked : List ℕ → Reading
checked bs = read_by (length bs) (log_of bs).fault (length (log_of bs).records)
