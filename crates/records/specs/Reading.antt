-- The reader's answer as a function of the bytes: the map, then each field in bit order, and the first fault.
use Rattle.std.specs.Prelude.{ℕ, ◌/◌, ◌%◌, Bool, cond, ◌&&◌, List, [], ◌∷◌, Ok, Err, Option, Result, ◌==◌, nat_le}
use Rattle.records.specs.declared.fault.ReadFault.{ReadFault}
use Rattle.records.specs.declared.fault.ReadFault.TheVariants.{Map, CutOff}
use Rattle.records.specs.declared.map.Bit.{Bit}
use Rattle.records.specs.declared.map.Bit.TheVariants.{Time, Kind, Console, Source, Flight}
use Rattle.records.specs.Fields.{Got, byte_at, four_at, word_at}
use Rattle.records.specs.Values.{RecordValue}

-- whether the bit of this weight is set
abbrev pub bit : ℕ → ℕ → Bool
bit map weight = map / weight % 2 == 1

-- the weight of each field's bit
abbrev pub weight_of : Bit → ℕ
weight_of Time = 1
weight_of Kind = 2
weight_of Console = 4
weight_of Source = 8
weight_of Flight = 16

-- go on from the place after a field
abbrev pub next : {A B : Type 0} → Got A → (Option A → ℕ → Result B ReadFault) → Result B ReadFault
next (Ok p) f = f p.0 p.1
next (Err e) f = Err e

-- the fields that the map names, from place 1 on
abbrev pub fields_of : ℕ → List ℕ → Result (RecordValue × ℕ) ReadFault
fields_of map bs =
    next (four_at (bit map 1) 86_399 bs 1) (λ time at.
    next (byte_at (bit map 2) 0 63 bs at) (λ kind at.
    next (byte_at (bit map 4) 1 250 bs at) (λ console at.
    next (four_at (bit map 8) 4_294_967_295 bs at) (λ source at.
    next (word_at (bit map 16) bs at) (λ flight at. Ok (record { time = time; kind = kind; console = console; source = source; flight = flight }, at))))))

-- a record at the start of the bytes, with its length; or the first fault
abbrev pub reading : List ℕ → Result (RecordValue × ℕ) ReadFault
reading [] = Err (CutOff 0)
reading (map ∷ bs) = cond (nat_le 1 map && nat_le map 31) (fields_of map (map ∷ bs)) (Err (Map 0))
