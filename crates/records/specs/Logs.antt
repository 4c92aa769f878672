-- A log read record by record: the records before the first fault, and that fault if one came.
use Rattle.std.specs.Prelude.{◌≡◌, ℕ, zero, suc, ◌+◌, ◌≤◌, Bool, true, ◌&&◌, List, [], ◌∷◌, ◌++◌, length, drop, Some, None, Ok, Err, Option, Result}
use Rattle.records.specs.declared.fault.ReadFault.{ReadFault}
use Rattle.records.specs.Faults.{place_of}
use Rattle.records.specs.Values.{RecordValue}
use Rattle.records.specs.Reading.{reading}
use Rattle.records.specs.Writing.{is_record, encode}

-- the reader's fault, the record's index from 0, and the fault's place from the log's start
pub record LogFault : Type 0 where
  pub fault : ReadFault
  pub index : ℕ
  pub offset : ℕ

-- what a log holds: the records before the first fault, and that fault if one came
pub record Log : Type 0 where
  pub records : List RecordValue
  pub fault : Option LogFault

-- nothing is left
abbrev pub ended : Log
ended = record { records = []; fault = None }

-- a fault in the record of this index that begins at this offset
abbrev pub stopped : ReadFault → (index offset : ℕ) → Log
stopped f index offset = record { records = []; fault = Some (record { fault = f; index = index; offset = offset + place_of f }) }

-- a record before what follows
abbrev pub more : RecordValue → Log → Log
more r log = record { records = r ∷ log.records; fault = log.fault }

-- by the reader's answer: go on, or stop
abbrev pub on_read : Result (RecordValue × ℕ) ReadFault → (RecordValue → ℕ → Log) → (ReadFault → Log) → Log
on_read (Ok p) go stop = go p.0 p.1
on_read (Err f) go stop = stop f

-- at most `turns` records; a record has at least one byte, so as many turns as bytes are enough
unfoldable pub read_turns : (turns index offset : ℕ) → List ℕ → Log
read_turns turns index offset [] = ended
read_turns zero index offset (b ∷ bs) = ended
read_turns (suc turns) index offset (b ∷ bs) =
    on_read (reading (b ∷ bs)) (λ r n. more r (read_turns turns (index + 1) (offset + n) (drop n (b ∷ bs)))) (λ f. stopped f index offset)

-- what the bytes hold, where their first record has this index and begins at this offset
abbrev pub log_from : (index offset : ℕ) → List ℕ → Log
log_from index offset bs = read_turns (length bs) index offset bs

-- what a log holds
abbrev pub log_of : List ℕ → Log
log_of bs = log_from 0 0 bs

-- each can be written
abbrev pub all_records : List RecordValue → Bool
all_records [] = true
all_records (r ∷ rs) = is_record r && all_records rs

-- the bytes of records, one after another
abbrev pub encode_all : List RecordValue → List ℕ
encode_all [] = []
encode_all (r ∷ rs) = encode r ++ encode_all rs

-- how it ends after the records: nothing is left; or the reader refuses what is left, which is the fault
abbrev pub EndsAs : (index offset : ℕ) → List RecordValue → List ℕ → Option LogFault → Type 0
EndsAs index offset rs rest None = rest ≡ []
EndsAs index offset rs rest (Some f) =
    (1 ≤ length rest) × (reading rest ≡ Err f.fault) × (f.index ≡ index + length rs) × (f.offset ≡ offset + length (encode_all rs) + place_of f.fault)

-- the bytes are those of the log's records, one after another, and then end as it says
pub record Splits (index offset : ℕ) (bs : List ℕ) (log : Log) : Type 0 where
  pub records : all_records log.records ≡ true
  pub rest : List ℕ
  pub joined : bs ≡ encode_all log.records ++ rest
  pub end : EndsAs index offset log.records rest log.fault

-- a log's bytes split so in one way only, and that is how it is read
pub record LogLaws (bs : List ℕ) : Type 0 where
  pub splits : Splits 0 0 bs (log_of bs)
  pub only : (log : Log) → Splits 0 0 bs log → log ≡ log_of bs
