-- Lenses by number, and what they give of a record: keys as bytes.
use Rattle.std.specs.Prelude.{ℕ, ◌-◌, cond, nat_le, ◌==◌, ◌&&◌, List, [], ◌∷◌, Option, Some, None, option_map, option_and_then}
use Rattle.keys.specs.Values.{bytes_of, word_of}
use Rattle.keys.specs.declared.pair.Pair.{Pair}
use Rattle.records.specs.Values.{RecordValue}
use Rattle.lenses.specs.PrefixLenses.{prefix_lens_of}
use Rattle.lenses.specs.Gives.{kind_given, flight_given, prefix_given, both}
use Rattle.console.specs.declared.part.Part.{Part}
use Rattle.console.specs.declared.lens.PartLens.{PartLens}
use Rattle.console.specs.declared.lens.PartLens.TheVariants.{Kind, Word, Prefix}
use Rattle.console.specs.declared.lens.Lenses.{Lenses}
use Rattle.console.specs.Parts.{part_of, kind_bytes, kind_from, prefix_bytes, prefix_from}

-- the lens of a number: 1 gives the event kind, 2 the flight word, 256 to 288 the first 0 to 32 bits of the source address
abbrev pub lens_of : ℕ → Option PartLens
lens_of n =
    cond (n == 1) (Some Kind) (cond (n == 2) (Some Word)
    (cond (nat_le 256 n && nat_le n 288) (option_map Prefix (prefix_lens_of (n - 256))) None))

-- the second lens of a number: 0 is none
abbrev pub second_of : ℕ → Option (Option PartLens)
second_of n = cond (n == 0) (Some None) (option_map Some (lens_of n))

-- the lenses of two numbers, if there are such
abbrev pub lenses_of : (first second : ℕ) → Option Lenses
lenses_of first second =
    option_and_then (λ a. option_map (λ b. record { first = a; second = b }) (second_of second)) (lens_of first)

-- what a lens gives of a record, as bytes
abbrev pub part_given : PartLens → RecordValue → Option Part
part_given Kind r = option_map (λ k. part_of (kind_bytes k)) (kind_given r)
part_given Word r = option_map (λ k. part_of (bytes_of k)) (flight_given r)
part_given (Prefix lens) r = option_map (λ k. part_of (prefix_bytes k)) (prefix_given lens.bits r)

-- a second part; one of no bytes where there is no second lens
abbrev pub second_given : Option PartLens → RecordValue → Option Part
second_given None r = Some (part_of [])
second_given (Some lens) r = part_given lens r

-- what lenses give of a record; none if either gives none
abbrev pub parts_given : Lenses → RecordValue → Option (Pair Part Part)
parts_given lenses r = both (part_given lenses.first r) (second_given lenses.second r)

-- the key of some bytes, if they make one of the kind that the lens gives
abbrev pub part_from : PartLens → List ℕ → Option Part
part_from Kind bs = option_map (λ k. part_of (kind_bytes k)) (kind_from bs)
part_from Word bs = option_map (λ k. part_of (bytes_of k)) (word_of bs)
part_from (Prefix lens) bs = option_map (λ k. part_of (prefix_bytes k)) (prefix_from bs)

-- a second part; there are no bytes where there is no second lens
abbrev pub second_from : Option PartLens → List ℕ → Option Part
second_from None [] = Some (part_of [])
second_from None (b ∷ bs) = None
second_from (Some lens) bs = part_from lens bs

-- the key of the bytes of its parts, if they make one
abbrev pub parts_from : Lenses → List ℕ → List ℕ → Option (Pair Part Part)
parts_from lenses bs cs = both (part_from lenses.first bs) (second_from lenses.second cs)
