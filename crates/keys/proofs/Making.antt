-- A key is the one that its parts make, so what is answered is known from the parts.
use Rattle.std.proofs.Common.{◌≡◌, ℕ, ◌+◌, ◌-◌, ◌*◌, ◌/◌, ◌%◌, ◌^◌, ◌<◌, Bool, true, false, leb, List, ◌++◌, length, drop, replicate, Some, sym, refl, ap, ◌∙◌, true≢false, arith, rules}
use Rattle.std.proofs.lemmas.Nat.{shr_split, shr_high, mod_below, pow_pos}
use Rattle.std.proofs.lemmas.List.{drop-replicate}
use Rattle.keys.specs.declared.event.EventKind.{EventKind}
use Rattle.keys.specs.declared.prefix.Prefix.{Prefix}
use Rattle.keys.specs.declared.word.FlightWord.{FlightWord}
use Rattle.keys.specs.Prefixes.{first_bits, is_prefix}
use Rattle.keys.specs.Words.{is_word}
use Rattle.keys.specs.Values.{when_true, event_of, prefix_of, containing_of, OnlyContaining, word_of, bytes_of, zeroed, zeroed_word}
use Rattle.keys.specs.Same.{same_event, same_prefix, same_word, word_length}

-- a value whose test passes
given_true : {A : Type 0} (b : Bool) (f : b ≡ true → A) (k : A) → b ≡ true → ((p : b ≡ true) → k ≡ f p) → Some k ≡ when_true b f
given_true true f k h e = ap Some (e refl)
given_true false f k h e = absurd (true≢false (sym h))

pub event_made : (k : EventKind) → Some k ≡ event_of k.number
event_made k = given_true (leb k.number 63) _ k (search rules) (λ p. same_event k _ refl)

pub prefix_made : (k : Prefix) → Some k ≡ prefix_of k.bits k.address
prefix_made k = given_true (is_prefix k.bits k.address) _ k (search rules) (λ p. same_prefix k _ refl refl)

pub prefix_containing : (address : ℕ) (k : Prefix) → k.address ≡ first_bits k.bits address → Some k ≡ containing_of k.bits address
prefix_containing address k e = given_true (leb k.bits 32) _ k (search rules) (λ p. same_prefix k _ e refl)

-- whatever prefix of the same length contains the address has the same first bits
pub only_containing : (address : ℕ) (k : Prefix) → k.address ≡ first_bits k.bits address → OnlyContaining k.bits address k
only_containing address k e =
    let low : ℕ = 32 - k.bits in
    let split = shr_split address low in
    let below = mod_below address (2 ^ low) (pow_pos low) in
    record {
      long = refl;
      contains = (omega (arith, e, split), omega (arith, e, split, below));
      only = λ q same inside.
          let low_same : 2 ^ (32 - q.bits) ≡ 2 ^ low = ap (λ n. 2 ^ (32 - n)) same in
          let clear : q.address % 2 ^ low ≡ 0 = ap (λ n. q.address % n) (sym low_same) ∙ q.clear in
          let whole = shr_split q.address low in
          let rest : ℕ = address - q.address in
          let small : rest < 2 ^ low = omega (arith, inside.0, inside.1, low_same) in
          let is : address ≡ q.address / 2 ^ low * 2 ^ low + rest = omega (arith, inside.0, whole, clear) in
          let first : address / 2 ^ low ≡ q.address / 2 ^ low = ap (λ n. n / 2 ^ low) is ∙ shr_high (q.address / 2 ^ low) low rest small in
          let found : q.address ≡ k.address = omega (arith, e, ap (λ n. n * 2 ^ low) first, whole, clear) in
          same_prefix q k found same;
    }

word_is : (k : FlightWord) → is_word (bytes_of k) ≡ true
word_is k = let n = word_length k in search (rules, k.right)

pub word_made : (k : FlightWord) → Some k ≡ word_of (bytes_of k)
word_made k = given_true (is_word (bytes_of k)) _ k (word_is k) (λ p. same_word k _ (sym (zeroed_word (bytes_of k))))

-- a word written over 8 zeros
pub over_zeros : (w bs : List ℕ) → bs ≡ w → bs ++ drop (length w) (replicate 8 0) ≡ zeroed w
over_zeros w bs e = search (rules, drop-replicate {X = ℕ})

pub stores_word : (w : List ℕ) (k : FlightWord) → bytes_of k ≡ w → Some k ≡ word_of w
stores_word w k e = search (rules, word_made)
