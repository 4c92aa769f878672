-- A record by its values alone: a flight word by its bytes, wherever they lie.
use Rattle.std.specs.Prelude.{ℕ, List, Some, None, Ok, Err, Option, Result}
use Rattle.std.specs.Borrow.{Bor}
use Rattle.records.specs.declared.fault.ReadFault.{ReadFault}
use Rattle.records.specs.declared.record.Record.{Record}
use Rattle.records.specs.Fields.{Got}

-- each field, if it is present
pub record RecordValue : Type 0 where
  pub time : Option ℕ
  pub kind : Option ℕ
  pub console : Option ℕ
  pub source : Option ℕ
  pub flight : Option (List ℕ)

-- the bytes of a flight word, if there is one
abbrev pub bytes_of : Option (Bor (List ℕ)) → Option (List ℕ)
bytes_of (Some w) = Some w.now
bytes_of None = None

-- a record by its values
abbrev pub value_of : Record → RecordValue
value_of r = record { time = r.time; kind = r.kind; console = r.console; source = r.source; flight = bytes_of r.flight }

-- what the reader answered, by values
abbrev pub valued : Result (Record × ℕ) ReadFault → Result (RecordValue × ℕ) ReadFault
valued (Ok p) = Ok (value_of p.0, p.1)
valued (Err e) = Err e

-- a flight word's answer, by its bytes
abbrev pub word_read : Result (Option (Bor (List ℕ))) ReadFault → Result (Option (List ℕ)) ReadFault
word_read (Ok f) = Ok (bytes_of f)
word_read (Err e) = Err e

-- a field's answer, and the place after it
abbrev pub placed : {A : Type 0} → Result (Option A) ReadFault → ℕ → Got A
placed (Ok f) at = Ok (f, at)
placed (Err e) at = Err e
