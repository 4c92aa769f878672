-- The worked cases: those of records, and with them those of the model (contents, neighbours, a page and a list).
use Rattle.std.specs.Prelude.{◌≡◌, ℕ, [], ◌∷◌, Some, None, Ok, Err, option_map}
use Rattle.keys.specs.Refusals.{number_of}
use Rattle.keys.specs.declared.prefix.Prefix.{Prefix}
use Rattle.records.specs.declared.fault.ReadFault.TheVariants.{Map, Field}
use Rattle.records.specs.Faults.{refusal_of, place_of}
use Rattle.records.specs.Values.{RecordValue}
use Rattle.records.specs.Fields.{join}
use Rattle.records.specs.Reading.{reading}
use Rattle.lenses.specs.Gives.{prefix_given}
use Rattle.model.specs.Worked.{WorkedCases}

-- the record of an event kind and an address alone
abbrev pub of_kind_and_source : ℕ → ℕ → RecordValue
of_kind_and_source kind source = record { time = None; kind = Some kind; console = None; source = Some source; flight = None }

-- a prefix's address and length, which are all of it
abbrev pub prefix_parts : Prefix → ℕ × ℕ
prefix_parts k = (k.address, k.bits)

pub record RecordCases : Type 0 where
  -- 0A 07 0A 01 02 03 is kind 7 and address 10.1.2.3
  pub kind_and_address : reading (0x0A ∷ 0x07 ∷ 0x0A ∷ 0x01 ∷ 0x02 ∷ 0x03 ∷ []) ≡ Ok (of_kind_and_source 7 (join 10 1 2 3), 6)
  -- and its key by the prefix lens of 16 bits is 10.1.0.0
  pub prefix : option_map prefix_parts (prefix_given 16 (of_kind_and_source 7 (join 10 1 2 3))) ≡ Some (join 10 1 0 0, 16)
  -- 20 is refused with 3 at place 0
  pub map_fault : reading (0x20 ∷ []) ≡ Err (Map 0)
  pub map_number : number_of (refusal_of (Map 0)) ≡ 3
  pub map_place : place_of (Map 0) ≡ 0
  -- 01 00 01 51 80, a time of 86,400, with 5 at place 1
  pub time : reading (0x01 ∷ 0x00 ∷ 0x01 ∷ 0x51 ∷ 0x80 ∷ []) ≡ Err (Field 1)
  pub time_number : number_of (refusal_of (Field 1)) ≡ 5
  pub time_place : place_of (Field 1) ≡ 1

pub record AllWorkedCases : Type 0 where
  pub rules : WorkedCases
  pub records : RecordCases
