-- Keys as bytes: those of each kind of key, and which key some bytes make.
use Rattle.std.specs.Prelude.{ℕ, ◌==◌, Bool, cond, nat_lt, List, [], ◌∷◌, ◌++◌, length, slice_index, Option, None}
use Rattle.std.specs.Int.{w32, to_be_bytes, from_be_bytes}
use Rattle.keys.specs.declared.event.EventKind.{EventKind}
use Rattle.keys.specs.declared.prefix.Prefix.{Prefix}
use Rattle.keys.specs.Orders.{by_parts}
use Rattle.keys.specs.Words.{less_word}
use Rattle.keys.specs.Values.{event_of, prefix_of, zeroed}
use Rattle.console.specs.declared.part.Part.{Part}

-- some bytes, then zeros up to 8
abbrev pub part_of : List ℕ → Part
part_of bs = record { bytes = zeroed bs; length = length bs }

-- byte by byte, then by length
abbrev pub less_part : Part → Part → Bool
less_part p q = by_parts less_word nat_lt p.bytes p.length q.bytes q.length

-- an event kind: its number
abbrev pub kind_bytes : EventKind → List ℕ
kind_bytes k = k.number ∷ []

abbrev pub kind_from : List ℕ → Option EventKind
kind_from bs = cond (length bs == 1) (event_of (slice_index bs 0)) None

-- a prefix: the four bytes of its address, the highest first, then how many bits it has
abbrev pub prefix_bytes : Prefix → List ℕ
prefix_bytes p = to_be_bytes w32 p.address ++ (p.bits ∷ [])

-- the number of the first four bytes, the highest first
abbrev pub first_four : List ℕ → ℕ
first_four bs = from_be_bytes w32 (slice_index bs 0 ∷ slice_index bs 1 ∷ slice_index bs 2 ∷ slice_index bs 3 ∷ [])

abbrev pub prefix_from : List ℕ → Option Prefix
prefix_from bs = cond (length bs == 5) (prefix_of (slice_index bs 4) (first_four bs)) None

-- a number: its four bytes, the highest first
abbrev pub number_bytes : ℕ → List ℕ
number_bytes n = to_be_bytes w32 n
