-- Flight words as lists of bytes: 1 to 8 bytes, each 0x20 to 0x5F; and their order.
use Rattle.std.specs.Prelude.{Option, not, position, ◌≡◌, ℕ, suc, ◌<◌, ◌≤◌, Bool, true, false, cond, ◌&&◌, List, [], ◌∷◌, length, ◌==◌, nat_le, nat_lt, slice_index}

-- a byte of a flight word
abbrev pub word_byte : ℕ → Bool
word_byte b = nat_le 0x20 b && nat_le b 0x5F

-- the place of the first byte that no flight word has; the length if there is none
abbrev pub first_wrong : List ℕ → ℕ
first_wrong [] = 0
first_wrong (b ∷ bs) = cond (word_byte b) (suc (first_wrong bs)) 0

-- the same place, or none
abbrev pub wrong_place : List ℕ → Option ℕ
wrong_place bs = position (λ b. not (word_byte b)) bs

-- 1 to 8 bytes, none of them wrong
abbrev pub is_word : List ℕ → Bool
is_word w = nat_le 1 (length w) && nat_le (length w) 8 && first_wrong w == length w

-- what the first wrong place is: each byte before it is one of a flight word, and the one at it, if there is one, is not
pub record FirstWrong (bs : List ℕ) (place : ℕ) : Type 0 where
  pub within : place ≤ length bs
  pub before : (i : ℕ) → i < place → word_byte (slice_index bs i) ≡ true
  pub found : place < length bs → word_byte (slice_index bs place) ≡ false

-- byte by byte; a word that begins another comes before it
abbrev pub less_word : List ℕ → List ℕ → Bool
less_word [] [] = false
less_word [] (y ∷ ys) = true
less_word (x ∷ xs) [] = false
less_word (x ∷ xs) (y ∷ ys) = cond (nat_lt x y) true (cond (nat_lt y x) false (less_word xs ys))
