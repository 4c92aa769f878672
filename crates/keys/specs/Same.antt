-- Keys with equal fields are equal. Idea: a ghost field is a fact with at most one proof.
use Rattle.std.specs.Prelude.{◌≡◌, ℕ, ◌-◌, ◌≤◌, ◌++◌, length, take, drop, replicate}
use Rattle.std.proofs.Common.{sym, ap, ◌∙◌, arith}
use mathlib.Core.HLevel.{is_prop→PathP}
use Rattle.std.proofs.Math.Bridge.{le_prop}
use denote.Struct.Props.{props}
use Rattle.std.proofs.lemmas.List.{take-append-drop, length-take-le}
use Rattle.keys.specs.Prefixes.{low_bits}
use Rattle.keys.specs.Words.{first_wrong}
use Rattle.keys.specs.Values.{bytes_of}
use Rattle.keys.specs.declared.event.EventKind.{EventKind}
use Rattle.keys.specs.declared.prefix.Prefix.{Prefix}
use Rattle.keys.specs.declared.word.FlightWord.{FlightWord}

pub same_event : (x y : EventKind) → x.number ≡ y.number → x ≡ y
same_event x y e j = record { number = e j; small = is_prop→PathP (λ k. e k ≤ 63) (λ k. le_prop) x.small y.small j }

pub same_prefix : (x y : Prefix) → x.address ≡ y.address → x.bits ≡ y.bits → x ≡ y
same_prefix x y a b j = record {
  address = a j;
  bits = b j;
  whole = is_prop→PathP (λ k. b k ≤ 32) (λ k. le_prop) x.whole y.whole j;
  clear = is_prop→PathP (λ k. low_bits (b k) (a k) ≡ 0) (λ k. hlevel props) x.clear y.clear j;
}

fields : (x y : FlightWord) → x.bytes ≡ y.bytes → x.len ≡ y.len → x ≡ y
fields x y a b j = record {
  bytes = a j;
  len = b j;
  some = is_prop→PathP (λ k. 1 ≤ b k) (λ k. le_prop) x.some y.some j;
  fits = is_prop→PathP (λ k. b k ≤ 8) (λ k. le_prop) x.fits y.fits j;
  eight = is_prop→PathP (λ k. length (a k) ≡ 8) (λ k. hlevel props) x.eight y.eight j;
  right = is_prop→PathP (λ k. first_wrong (take (b k) (a k)) ≡ b k) (λ k. hlevel props) x.right y.right j;
  padded = is_prop→PathP (λ k. drop (b k) (a k) ≡ replicate (8 - b k) 0) (λ k. hlevel props) x.padded y.padded j;
}

pub word_length : (x : FlightWord) → length (bytes_of x) ≡ x.len
word_length x = length-take-le x.len x.bytes (omega arith)

-- the bytes of a word, with its zeros, are its 8 bytes
pub word_padded : (x : FlightWord) → x.bytes ≡ bytes_of x ++ replicate (8 - x.len) 0
word_padded x = sym (take-append-drop x.len x.bytes) ∙ ap (λ zeros. bytes_of x ++ zeros) x.padded

pub same_word : (x y : FlightWord) → take x.len x.bytes ≡ take y.len y.bytes → x ≡ y
same_word x y e =
    let b : x.len ≡ y.len = sym (word_length x) ∙ ap length e ∙ word_length y in
    let r = ap (λ (k : ℕ). replicate {A = ℕ} (8 - k) 0) b in
    let p = word_padded x in
    let q = word_padded y in
    let a : x.bytes ≡ y.bytes = cc in
    fields x y a b
