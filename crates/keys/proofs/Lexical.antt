-- The first wrong byte of a list: `first_wrong` is its place.
use Rattle.std.proofs.Common.{◌≡◌, ℕ, zero, suc, ◌<◌, ◌≤◌, Bool, true, false, cond, List, [], ◌∷◌, get_or, sym, refl, ◌∙◌, rules, arith}
use Rattle.std.specs.Prelude.{unwrap_or, not, length, nat_lt, Some, None}
use Rattle.std.specs.List.{position_or_len}
use Rattle.std.proofs.lemmas.List.Sums.{prefix_len-le-length}
use Rattle.std.proofs.lemmas.List.Recursion.{is_position_or_len}
use Rattle.std.proofs.lemmas.Bool.Decides.{nat_tests}
use Rattle.std.proofs.lemmas.Grind.{common_steps}
use Rattle.keys.specs.Words.{word_byte, wrong_place, first_wrong, FirstWrong}

-- the first place at which a byte is none of a flight word
wrong_first : (bs : List ℕ) → first_wrong bs ≡ position_or_len (λ b. not (word_byte b)) bs
wrong_first = is_position_or_len first_wrong (λ b. not (word_byte b)) refl (λ b bs. search rules)

-- told as a place or none
chosen : (n most : ℕ) → n ≤ most → unwrap_or (cond (nat_lt n most) (Some n) None) most ≡ n
chosen n most h = grind (arith, nat_tests, common_steps)

pub wrong_value : (bs : List ℕ) → unwrap_or (wrong_place bs) (length bs) ≡ first_wrong bs
wrong_value bs = chosen (position_or_len (λ b. not (word_byte b)) bs) (length bs) (prefix_len-le-length _ bs) ∙ sym (wrong_first bs)

-- what its name says holds of it
before_more : (b : ℕ) (bs : List ℕ) (place i : ℕ) → word_byte b ≡ true → FirstWrong bs place → i < suc place → word_byte (get_or (b ∷ bs) i 0) ≡ true
before_more b bs place zero e h l = e
before_more b bs place (suc i) e h l = h.before i (omega arith)

first_more : (b : ℕ) (bs : List ℕ) (t : Bool) → word_byte b ≡ t → FirstWrong bs (first_wrong bs) → FirstWrong (b ∷ bs) (cond t (suc (first_wrong bs)) 0)
first_more b bs true e h = record { within = omega (arith, h.within); before = λ i l. before_more b bs (first_wrong bs) i e h l; found = λ l. h.found (omega arith) }
first_more b bs false e h = record { within = omega arith; before = λ i l. absurd (omega arith); found = λ l. e }

pub first_is : (bs : List ℕ) → FirstWrong bs (first_wrong bs)
first_is [] = record { within = omega arith; before = λ i l. absurd (omega arith); found = λ l. absurd (omega arith) }
first_is (b ∷ bs) = first_more b bs (word_byte b) refl (first_is bs)
