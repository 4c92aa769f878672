-- What becomes of a log that is fed to a summary which has taken no entries.
use Rattle.std.specs.Prelude.{ℕ, List, length, Option, Result, Ok, Err}
use Rattle.records.specs.Values.{RecordValue}
use Rattle.records.specs.Logs.{log_of}
use Rattle.model.specs.Contents.{Content}
use Rattle.model.specs.Plans.{Plan, after}
use Rattle.feeding.specs.declared.fault.FeedFault.{FeedFault}
use Rattle.feeding.specs.declared.feed.Fed.{Fed}
use Rattle.feeding.specs.Faults.{number_in}
use Rattle.feeding.specs.Feeding.{added, fed_answer}
use Rattle.console.specs.declared.reading.Reading.{Reading}

-- so much was read of a log of this length, by what feeding answers
abbrev pub fed_by : (long : ℕ) → Result Fed FeedFault → Reading
fed_by long (Ok fed) = record { records = fed.read; offset = long; fault = 0 }
fed_by long (Err f) = record { records = f.index; offset = f.offset; fault = number_in f.cause }

module _ {K : Type 0} (plan : Plan K) (gives : RecordValue → Option K) where
  -- the content after the keys of these records, as many as there is room for
  unfoldable pub content_after : List RecordValue → Content K
  content_after rs = after plan (added plan plan.fresh gives rs)

  -- what became of reading these bytes
  abbrev pub reading_after : List ℕ → Reading
  reading_after bs = fed_by (length bs) (fed_answer plan plan.fresh gives (log_of bs))
