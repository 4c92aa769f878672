-- What each lens gives of a record: a key, or none.
use Rattle.std.specs.Prelude.{ℕ, Option, option_and_then, option_map}
use Rattle.keys.specs.declared.event.EventKind.{EventKind}
use Rattle.keys.specs.declared.pair.Pair.{Pair}
use Rattle.keys.specs.declared.prefix.Prefix.{Prefix}
use Rattle.keys.specs.declared.word.FlightWord.{FlightWord}
use Rattle.keys.specs.Values.{event_of, word_of, containing_of}
use Rattle.records.specs.Values.{RecordValue}

-- the event kind with the record's number
abbrev pub kind_given : RecordValue → Option EventKind
kind_given r = option_and_then event_of r.kind

-- the flight word of the record's bytes
abbrev pub flight_given : RecordValue → Option FlightWord
flight_given r = option_and_then word_of r.flight

-- the prefix of this length that contains the source address
abbrev pub prefix_given : (bits : ℕ) → RecordValue → Option Prefix
prefix_given bits r = option_and_then (containing_of bits) r.source

-- the pair of two keys; none if either is missing
abbrev pub both : {A B : Type 0} → Option A → Option B → Option (Pair A B)
both {A} {B} a b = option_and_then (λ (x : A). option_map (λ (y : B). record { first = x; second = y }) b) a
