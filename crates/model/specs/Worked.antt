-- The worked cases of the rules, as one group: entries are flight words of one byte, and sketches have k = 2. Cases of
-- records join them in a crate above, where records and contents meet; the group is then a part of the larger one.
use Rattle.std.specs.Prelude.{◌≡◌, ℕ, true, false, List, [], ◌∷◌, pos, negsuc, Ok, Err, refl}
use Rattle.keys.specs.Words.{is_word}
use Rattle.keys.specs.Values.{word_as, word_parts}
use Rattle.keys.specs.KindOrders.{less_flight}
use Rattle.keys.specs.Refusals.{number_of}
use Rattle.keys.specs.declared.word.FlightWord.{FlightWord}
use Rattle.keys.specs.declared.held.Held.{Held}
use Rattle.keys.specs.declared.held.Held.TheVariants.{Real}
use Rattle.keys.specs.declared.refusal.Refusal.TheVariants.{LowLimit}
use Rattle.model.specs.Contents.{Content, holds}
use Rattle.model.specs.Plans.{after}
use Rattle.model.specs.Neighbours.{CaseOne, CaseAll, Neighbours}
use Rattle.model.specs.Sketches.{sketch}
use Rattle.model.specs.Pages.{paged}
use Rattle.model.specs.Listing.{listed}
use Rattle.model.specs.Handing.{OneChanged}

-- the flight word of one byte
abbrev pub letter : (b : ℕ) → is_word (b ∷ []) ≡ true → FlightWord
letter b h = word_as (b ∷ []) (word_parts (b ∷ []) h)

abbrev pub word_a : FlightWord
word_a = letter 0x41 refl

abbrev pub word_b : FlightWord
word_b = letter 0x42 refl

abbrev pub word_c : FlightWord
word_c = letter 0x43 refl

abbrev pub word_d : FlightWord
word_d = letter 0x44 refl

-- n entries, l lowerings, and two words held, each with its count
abbrev pub holding : (n l : ℕ) → FlightWord → ℕ → FlightWord → ℕ → Content FlightWord
holding n l x a y b = record { k = 2; n = n; l = l; held = (Real x, a) ∷ (Real y, b) ∷ [] }

-- the content of a sketch of two keys
abbrev pub sketched : List FlightWord → Content FlightWord
sketched es = after (sketch less_flight 2) es

abbrev pub entries_abc : List FlightWord
entries_abc = word_a ∷ word_b ∷ word_c ∷ []

abbrev pub entries_ab : List FlightWord
entries_ab = word_a ∷ word_b ∷ []

abbrev pub entries_abccaa : List FlightWord
entries_abccaa = word_a ∷ word_b ∷ word_c ∷ word_c ∷ word_a ∷ word_a ∷ []

abbrev pub entries_bccaa : List FlightWord
entries_bccaa = word_b ∷ word_c ∷ word_c ∷ word_a ∷ word_a ∷ []

abbrev pub entries_abcd : List FlightWord
entries_abcd = word_a ∷ word_b ∷ word_c ∷ word_d ∷ []

abbrev pub entries_acd : List FlightWord
entries_acd = word_a ∷ word_c ∷ word_d ∷ []

pub record TakingCases : Type 0 where
  pub abc : sketched entries_abc ≡ holding 3 1 word_a 0 word_b 0
  pub ab : sketched entries_ab ≡ holding 2 0 word_a 1 word_b 1
  pub abccaa : sketched entries_abccaa ≡ holding 6 1 word_a 2 word_c 1
  pub bccaa : sketched entries_bccaa ≡ holding 5 1 word_a 1 word_c 1
  pub abcd : sketched entries_abcd ≡ holding 4 1 word_b 0 word_d 1
  pub acd : sketched entries_acd ≡ holding 3 1 word_a 0 word_c 0

-- a list and the list less one entry
pub record NeighbourCases : Type 0 where
  -- less C: case all
  pub abc_ab : Neighbours less_flight (sketched entries_abc) (sketched entries_ab)
  pub abc_ab_all : CaseAll less_flight (sketched entries_abc) (sketched entries_ab)
  -- less the first A: case one, and A counts 1 more
  pub abccaa_bccaa : Neighbours less_flight (sketched entries_abccaa) (sketched entries_bccaa)
  pub abccaa_bccaa_one : CaseOne less_flight (sketched entries_abccaa) (sketched entries_bccaa)
  pub abccaa_bccaa_key : abccaa_bccaa_one.key ≡ Real word_a
  -- less B: case one, D counts 1 more, and no key is shared
  pub abcd_acd : Neighbours less_flight (sketched entries_abcd) (sketched entries_acd)
  pub abcd_acd_one : CaseOne less_flight (sketched entries_abcd) (sketched entries_acd)
  pub abcd_acd_key : abcd_acd_one.key ≡ Real word_d
  pub abcd_acd_apart : (x : Held FlightWord) → holds less_flight (sketched entries_abcd) x ≡ true → holds less_flight (sketched entries_acd) x ≡ false

pub record PageCases : Type 0 where
  pub limit_2 : paged (holding 6 1 word_a 2 word_c 1) 2 ≡ Ok ((word_a, 2, 3) ∷ (word_c, 1, 2) ∷ [])
  pub limit_1 : paged (holding 6 1 word_a 2 word_c 1) 1 ≡ Err LowLimit
  pub number : number_of LowLimit ≡ 8

-- shared draw -1
pub record ListCases : Type 0 where
  pub at_3 : listed (holding 6 1 word_a 2 word_c 1) (negsuc 0) (pos 3 ∷ pos 0 ∷ []) (pos 3) ≡ (word_a, pos 4) ∷ []
  pub at_4 : listed (holding 6 1 word_a 2 word_c 1) (negsuc 0) (pos 3 ∷ pos 0 ∷ []) (pos 4) ≡ (word_a, pos 4) ∷ []
  pub at_5 : listed (holding 6 1 word_a 2 word_c 1) (negsuc 0) (pos 3 ∷ pos 0 ∷ []) (pos 5) ≡ []
  -- the same from the neighbour, where A has the draw 4 in place of 3
  pub changed : OneChanged (negsuc 0 ∷ pos 3 ∷ pos 0 ∷ []) (negsuc 0 ∷ pos 4 ∷ pos 0 ∷ [])
  pub also_at_3 : listed (holding 5 1 word_a 1 word_c 1) (negsuc 0) (pos 4 ∷ pos 0 ∷ []) (pos 3) ≡ (word_a, pos 4) ∷ []
  pub also_at_4 : listed (holding 5 1 word_a 1 word_c 1) (negsuc 0) (pos 4 ∷ pos 0 ∷ []) (pos 4) ≡ (word_a, pos 4) ∷ []
  pub also_at_5 : listed (holding 5 1 word_a 1 word_c 1) (negsuc 0) (pos 4 ∷ pos 0 ∷ []) (pos 5) ≡ []

pub record WorkedCases : Type 0 where
  pub taking : TakingCases
  pub neighbours : NeighbourCases
  pub page : PageCases
  pub list : ListCases
