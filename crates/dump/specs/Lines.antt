-- The text of a log: a line for each record, then the number of records, or the fault.
use Rattle.std.specs.Prelude.{ℕ, ◌+◌, ◌/◌, ◌%◌, cond, List, [], ◌∷◌, ◌++◌, length, Some, None, codes, decimal, Option, option_map, nat_le}
use Rattle.keys.specs.Refusals.{number_of}
use Rattle.records.specs.Faults.{refusal_of}
use Rattle.records.specs.Values.{RecordValue}
use Rattle.records.specs.Logs.{LogFault, Log, log_of}

-- a blank, the field's name, a blank and its number; nothing where it is missing
abbrev pub number_part : (name : List ℕ) → Option ℕ → List ℕ
number_part name (Some v) = codes " " ++ (name ++ (codes " " ++ decimal v))
number_part name None = []

-- an address as its four bytes, the highest first, with dots between
abbrev pub dotted : ℕ → List ℕ
dotted v = decimal (v / 16_777_216) ++ (codes "." ++ (decimal (v / 65_536 % 256) ++ (codes "." ++ (decimal (v / 256 % 256) ++ (codes "." ++ decimal (v % 256))))))

-- the address with its name; nothing where it is missing
abbrev pub source_part : Option ℕ → List ℕ
source_part (Some v) = codes " source " ++ dotted v
source_part None = []

-- a flight word in quotes; the last field, so its closing quote is the last byte before the line's end
abbrev pub flight_part : Option (List ℕ) → List ℕ
flight_part (Some w) = codes " flight \"" ++ (w ++ codes "\"")
flight_part None = []

-- a field with its name, whose value prints what `output` says; nothing where it is missing
abbrev pub field_output : {T : Type 0} → (T → Option (List ℕ)) → (name : List ℕ) → Option T → Option (List ℕ)
field_output output name (Some v) = option_map (λ text. codes " " ++ (name ++ (codes " " ++ text))) (output v)
field_output output name None = Some []

-- a record's line: its index, then its fields in bit order
abbrev pub line_of : (index : ℕ) → RecordValue → List ℕ
line_of index r =
    decimal index ++ (number_part (codes "time") r.time ++ (number_part (codes "kind") r.kind ++ (number_part (codes "console") r.console
    ++ (source_part r.source ++ (flight_part r.flight ++ codes "\n")))))

-- the lines of these records, of which the first has this index
abbrev pub lines_from : (index : ℕ) → List RecordValue → List ℕ
lines_from index [] = []
lines_from index (r ∷ rs) = line_of index r ++ lines_from (index + 1) rs

-- the last line: `records` and how many; or `fault`, layer 1, the number, the record's index, the offset
abbrev pub last_line : (count : ℕ) → Option LogFault → List ℕ
last_line count None = codes "records " ++ (decimal count ++ codes "\n")
last_line count (Some f) =
    codes "fault 1 " ++ (decimal (number_of (refusal_of f.fault)) ++ (codes " " ++ (decimal f.index ++ (codes " " ++ (decimal f.offset ++ codes "\n")))))

-- a log's text, where its first record has this index
abbrev pub text_from : (index : ℕ) → Log → List ℕ
text_from index log = lines_from index log.records ++ last_line (index + length log.records) log.fault

-- a log's text
abbrev pub text_of : Log → List ℕ
text_of log = text_from 0 log

-- what is printed of a log: its text; only `long` of one above 65,536 bytes
abbrev pub printed : List ℕ → List ℕ
printed bs = cond (nat_le (length bs) 65_536) (text_of (log_of bs)) (codes "long\n")
