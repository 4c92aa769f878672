-- A log's items, in order: each record with its offset, then the fault if one came; and those that an iterator over
-- them has left.
use Rattle.std.specs.Prelude.{◌≡◌, ℕ, ◌+◌, ◌^◌, ◌<◌, ◌≤◌, true, List, [], ◌∷◌, length, take, slice_get, Some, None, Ok, Err, Option, Result, IfOk}
use Rattle.records.specs.declared.log.LogFault as declared
use Rattle.records.specs.declared.log.Records.TheInside.{Inside}
use Rattle.records.specs.declared.record.Record.{Record}
use Rattle.records.specs.Values.{RecordValue, value_of}
use Rattle.records.specs.Writing.{is_record, encode}
use Rattle.records.specs.Laws.{Bytes}
use Rattle.records.specs.Logs.{LogFault, Log, log_from, encode_all}

-- a record with the offset of its first byte from the log's start, or the fault after the last record
abbrev pub Item : Type 0
Item = Result (ℕ × RecordValue) LogFault

-- a record that can be written, or a fault
abbrev pub IsWritable : Item → Type 0
IsWritable item = IfOk item (λ p. is_record p.1 ≡ true)

-- the items of these records, of which the first begins at this offset
abbrev pub items_from : (offset : ℕ) → List RecordValue → Option LogFault → List Item
items_from offset [] None = []
items_from offset [] (Some f) = Err f ∷ []
items_from offset (r ∷ rs) fault = Ok (offset, r) ∷ items_from (offset + length (encode r)) rs fault

-- what a log holds, item by item
abbrev pub items_of : Log → List Item
items_of log = items_from 0 log.records log.fault

-- so each record begins where those before it end
unfoldable pub BeginAfter : Log → List Item → Type 0
BeginAfter log items =
    (i : ℕ) (r : RecordValue) → slice_get log.records i ≡ Some r → slice_get items i ≡ Some (Ok (length (encode_all (take i log.records)), r))

-- a log's fault by its parts
abbrev pub fault_of : declared.LogFault → LogFault
fault_of f = record { fault = f.fault; index = f.index; offset = f.offset }

-- an item by its values alone
abbrev pub item_of : Result (ℕ × Record) declared.LogFault → Item
item_of (Ok p) = Ok (p.0, value_of p.1)
item_of (Err f) = Err (fault_of f)

-- the items of these bytes, of which the first record has this index and begins at this offset
abbrev pub items_at : (index offset : ℕ) → List ℕ → List Item
items_at index offset bs = items_from offset (log_from index offset bs).records (log_from index offset bs).fault

-- the items that an iterator has left: those of the bytes from the next record on
abbrev pub left : Inside → List Item
left it = items_at it.index it.offset it.rest.now

-- no more records than bytes were read, and the log is a slice of bytes
pub record IsWithinLog (it : Inside) : Type 0 where
  pub few : it.index ≤ it.offset
  pub fits : it.offset + length it.rest.now < 2 ^ 64
  pub bytes : Bytes it.rest.now
