-- Keys as values: which numbers, bits and bytes make one, and what making one answers.
use Rattle.std.specs.Prelude.{◌≡◌, ℕ, ◌+◌, ◌-◌, ◌/◌, ◌^◌, ◌<◌, ◌≤◌, Bool, true, false, ◌&&◌, List, ◌++◌, length, take, drop, replicate, Some, None, Ok, Err, Option, Result, ◌==◌, nat_le, refl}
use Rattle.std.proofs.Common.{ap, ◌∙◌, add-zero, arith, leb-true, eqb-true}
use Rattle.std.proofs.lemmas.List.{length-append, length-replicate, take_at, drop_at}
use Rattle.std.proofs.lemmas.Bool.{and_parts}
use Rattle.std.proofs.lemmas.Nat.{mod_low, pow_pos}
use Rattle.keys.specs.declared.refusal.Refusal.{Refusal}
use Rattle.keys.specs.declared.refusal.Refusal.TheVariants.{OutOfRange}
use Rattle.keys.specs.declared.event.EventKind.{EventKind}
use Rattle.keys.specs.declared.prefix.Prefix.{Prefix}
use Rattle.keys.specs.declared.word.FlightWord.{FlightWord}
use Rattle.keys.specs.Prefixes.{low_bits, first_bits, is_prefix}
use Rattle.keys.specs.Words.{first_wrong, is_word}

-- a value that takes a passed test to make; none where the test fails
abbrev pub when_true : {A : Type 0} (b : Bool) → (b ≡ true → A) → Option A
when_true true f = Some (f refl)
when_true false f = None

-- what making a key answers: the key, or refusal 1
abbrev pub asked : {A : Type 0} → Option A → Result A Refusal
asked (Some k) = Ok k
asked None = Err OutOfRange

-- the event kind with a number, 0 to 63
abbrev pub event_of : ℕ → Option EventKind
event_of n = when_true (nat_le n 63) (λ h. record { number = n; small = leb-true n 63 h })

-- the prefix with an address and a length p, 0 to 32: no bit after the first p is set
abbrev pub prefix_of : (p address : ℕ) → Option Prefix
prefix_of p address =
    when_true (is_prefix p address) (λ h. record {
      address = address;
      bits = p;
      whole = leb-true p 32 (and_parts (nat_le p 32) (low_bits p address == 0) h).0;
      clear = eqb-true (low_bits p address) 0 (and_parts (nat_le p 32) (low_bits p address == 0) h).1;
    })

-- no bit after the first p is set in the first p bits and zeros
pub first_clear : (p address : ℕ) → low_bits p (first_bits p address) ≡ 0
first_clear p address = rw add-zero at (mod_low (address / 2 ^ (32 - p)) (32 - p) 0 (pow_pos (32 - p)))

-- the prefix of length p, 0 to 32, that contains an address
abbrev pub containing_of : (p address : ℕ) → Option Prefix
containing_of p address =
    when_true (nat_le p 32) (λ h. record {
      address = first_bits p address;
      bits = p;
      whole = leb-true p 32 h;
      clear = first_clear p address;
    })

-- the addresses of a prefix: from its own on, as many as the bits after the first p can count
abbrev pub Covers : Prefix → ℕ → Type 0
Covers k address = (k.address ≤ address) × (address < k.address + 2 ^ (32 - k.bits))

-- the one prefix of length p that contains an address
pub record OnlyContaining (p address : ℕ) (k : Prefix) : Type 0 where
  pub long : k.bits ≡ p
  pub contains : Covers k address
  pub only : (q : Prefix) → q.bits ≡ p → Covers q address → q ≡ k

-- a word, then zeros up to 8 bytes
abbrev pub zeroed : List ℕ → List ℕ
zeroed w = w ++ replicate (8 - length w) 0

pub zeroed_eight : (w : List ℕ) → length w ≤ 8 → length (zeroed w) ≡ 8
zeroed_eight w h = simp (length-append, length-replicate) (omega arith)

pub zeroed_word : (w : List ℕ) → take (length w) (zeroed w) ≡ w
zeroed_word w = take_at w (replicate (8 - length w) 0) (length w) refl

pub zeroed_rest : (w : List ℕ) → drop (length w) (zeroed w) ≡ replicate (8 - length w) 0
zeroed_rest w = drop_at w (replicate (8 - length w) 0) (length w) refl

-- the three facts that a passed `is_word` tells
pub record WordParts (w : List ℕ) : Type 0 where
  pub some : 1 ≤ length w
  pub fits : length w ≤ 8
  pub right : first_wrong w ≡ length w

pub word_parts : (w : List ℕ) → is_word w ≡ true → WordParts w
word_parts w h =
    let a = and_parts (nat_le 1 (length w) && nat_le (length w) 8) (first_wrong w == length w) h in
    let b = and_parts (nat_le 1 (length w)) (nat_le (length w) 8) a.0 in
    record { some = leb-true 1 (length w) b.0; fits = leb-true (length w) 8 b.1; right = eqb-true (first_wrong w) (length w) a.1 }

-- the flight word of bytes that make one
abbrev pub word_as : (w : List ℕ) → WordParts w → FlightWord
word_as w h = record {
  bytes = zeroed w;
  len = length w;
  some = h.some;
  fits = h.fits;
  eight = zeroed_eight w h.fits;
  right = ap first_wrong (zeroed_word w) ∙ h.right;
  padded = zeroed_rest w;
}

-- the flight word of some bytes
abbrev pub word_of : List ℕ → Option FlightWord
word_of w = when_true (is_word w) (λ h. word_as w (word_parts w h))

-- the bytes of a flight word
abbrev pub bytes_of : FlightWord → List ℕ
bytes_of w = take w.len w.bytes
