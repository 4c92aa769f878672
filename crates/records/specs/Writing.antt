-- A record as bytes, what the writer answers, and what it leaves in the output.
use Rattle.std.specs.Prelude.{ℕ, ◌+◌, ◌/◌, ◌%◌, Bool, true, cond, ◌&&◌, List, [], ◌∷◌, ◌++◌, length, drop, Some, None, Ok, Err, Option, Result, nat_le, nat_lt}
use Rattle.keys.specs.declared.refusal.Refusal.{Refusal}
use Rattle.keys.specs.declared.refusal.Refusal.TheVariants.{Map, Field, NoRoom}
use Rattle.keys.specs.Words.{is_word}
use Rattle.records.specs.Values.{RecordValue}

-- one byte
abbrev pub encode_byte : Option ℕ → List ℕ
encode_byte (Some b) = b ∷ []
encode_byte None = []

-- four bytes, the highest first
abbrev pub encode_four : Option ℕ → List ℕ
encode_four (Some v) = v / 16_777_216 ∷ v / 65_536 % 256 ∷ v / 256 % 256 ∷ v % 256 ∷ []
encode_four None = []

-- a length byte, then the word
abbrev pub encode_word : Option (List ℕ) → List ℕ
encode_word (Some w) = length w ∷ w
encode_word None = []

-- a bit's weight, if the field is present
abbrev pub weight : {A : Type 0} → Option A → ℕ → ℕ
weight (Some x) w = w
weight None w = 0

-- the map byte: bit 0 time, 1 kind, 2 console, 3 source, 4 flight
abbrev pub map_of : RecordValue → ℕ
map_of r = weight r.time 1 + weight r.kind 2 + weight r.console 4 + weight r.source 8 + weight r.flight 16

-- the map byte, then only the fields that are present, in bit order
abbrev pub encode : RecordValue → List ℕ
encode r = (map_of r ∷ []) ++ encode_four r.time ++ encode_byte r.kind ++ encode_byte r.console ++ encode_four r.source ++ encode_word r.flight

-- a field that is present lies between lo and hi, by the order `at_most`
abbrev pub between : {A : Type 0} → (at_most : A → A → Bool) → A → A → Option A → Bool
between at_most lo hi (Some v) = at_most lo v && at_most v hi
between at_most lo hi None = true

-- a number that is present lies between lo and hi
abbrev pub within : ℕ → ℕ → Option ℕ → Bool
within lo hi field = between nat_le lo hi field

-- a flight word that is present is one
abbrev pub word_fits : Option (List ℕ) → Bool
word_fits (Some w) = is_word w
word_fits None = true

-- every field that is present is in its range
abbrev pub in_range : RecordValue → Bool
in_range r = within 0 86_399 r.time && within 0 63 r.kind && within 1 250 r.console && within 0 4_294_967_295 r.source && word_fits r.flight

-- a record that can be written: some field is present, and every one is in its range
abbrev pub is_record : RecordValue → Bool
is_record r = nat_lt 0 (map_of r) && in_range r

-- what the writer answers, given the output's length
abbrev pub writing : RecordValue → (room : ℕ) → Result ℕ Refusal
writing r room =
    cond (nat_lt 0 (map_of r))
    (cond (in_range r)
    (cond (nat_le (length (encode r)) room) (Ok (length (encode r))) (Err NoRoom))
    (Err Field))
    (Err Map)

-- the output after the writer's answer: the record at its start and the rest as it was; after a refusal all as it was
abbrev pub output_after : RecordValue → (was : List ℕ) → Result ℕ Refusal → List ℕ
output_after r was (Ok n) = encode r ++ drop n was
output_after r was (Err e) = was
