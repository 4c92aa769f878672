-- What std says of an address and of a flight word is what a log's text says, and each field prints its part of a line.
-- Idea: the four bytes of a number; bytes below 128, which are characters; and a field is there or missing.
use Rattle.std.proofs.Common.{◌≡◌, ℕ, ◌/◌, ◌%◌, ◌^◌, ◌<◌, true, eqb, List, ◌++◌, length, Option, Some, None, MatchOption, IsSomeAnd, codes, decimal, refl, ap, ◌∙◌, append_assoc, arith}
use Rattle.std.proofs.lemmas.Bool.{and_parts, eqb-true}
use Rattle.std.specs.Borrow.{Bor}
use Rattle.std.specs.Str.{IsUtf8}
use Rattle.std.specs.declared.net.ipv4_addr.Ipv4Addr.{Ipv4Addr}
use Rattle.std.specs.Net.Addr.{ipv4_octets, IsIpv4OfBits}
use Rattle.std.specs.Net.Text.{dotted_text, ipv4_text}
use Rattle.keys.specs.Words.{first_wrong, is_word}
use Rattle.records.specs.Values.{bytes_of}
use Rattle.records.proofs.Characters.{none_wrong_utf8}
use Rattle.dump.specs.Lines.{dotted, field_output, number_part, source_part}

pub ipv4_dotted : (a : Ipv4Addr) (v : ℕ) → v < 2 ^ 32 → IsIpv4OfBits a v → ipv4_text (ipv4_octets a) ≡ dotted v
unfolding IsIpv4OfBits
ipv4_dotted a v l e =
    let high : v / 16_777_216 % 256 ≡ v / 16_777_216 = omega arith in
    ap ipv4_text e ∙ ap (λ n. dotted_text n (v / 65_536 % 256) (v / 256 % 256) (v % 256)) high ∙ simp append_assoc

pub word_utf8 : (w : List ℕ) → is_word w ≡ true → IsUtf8 w
word_utf8 w h =
    let p = and_parts _ (eqb (first_wrong w) (length w)) h in
    none_wrong_utf8 w (eqb-true (first_wrong w) (length w) p.1)

-- what a field prints is its part of a line
pub number_printed : (name : List ℕ) (v : Option ℕ) → field_output (λ n. Some (decimal n)) name v ≡ Some (number_part name v)
number_printed name (Some v) = refl
number_printed name None = refl

pub source_printed : (v : Option ℕ) (a : Option Ipv4Addr) → MatchOption v (a ≡ None) (λ n. IsSomeAnd a (λ x. ipv4_text (ipv4_octets x) ≡ dotted n)) →
    field_output (λ x. Some (ipv4_text (ipv4_octets x))) (codes "source") a ≡ Some (source_part v)
source_printed (Some v) (Some a) e = ap (λ text. Some (codes " source " ++ text)) e
source_printed (Some v) None e = absurd e
source_printed None a e = ap (field_output (λ x. Some (ipv4_text (ipv4_octets x))) (codes "source")) e

-- a word's characters are its bytes
pub same_bytes : (w q : Option (Bor (List ℕ))) → MatchOption w (q ≡ None) (λ x. IsSomeAnd q (λ y. y.now ≡ x.now)) → bytes_of q ≡ bytes_of w
same_bytes (Some w) (Some q) e = ap Some e
same_bytes (Some w) None e = absurd e
same_bytes None q e = ap bytes_of e
