-- A fault of feeding by its parts: whose it is, and its number.
use Rattle.std.specs.Prelude.{ℕ}
use Rattle.keys.specs.Refusals.{number_of}
use Rattle.records.specs.declared.fault.ReadFault.{ReadFault}
use Rattle.records.specs.Faults.{refusal_of}
use Rattle.feeding.specs.declared.fault.Cause.{Cause}
use Rattle.feeding.specs.declared.fault.Cause.TheVariants.{Reader, Summary}
use Rattle.feeding.specs.declared.fault.FeedFault.{FeedFault}

-- 1 for the reader, 2 for the summary
abbrev pub layer_of : Cause → ℕ
layer_of (Reader f) = 1
layer_of (Summary r) = 2

-- the number of the refusal
abbrev pub number_in : Cause → ℕ
number_in (Reader f) = number_of (refusal_of f)
number_in (Summary r) = number_of r

-- the reader's fault, with its record's index and its offset
abbrev pub reader_fault : ReadFault → (index offset : ℕ) → FeedFault
reader_fault f index offset = record { cause = Reader f; index = index; offset = offset }
