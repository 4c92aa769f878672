-- The bytes of a flight word are text. Idea: each is below 128, so it is a character.
use Rattle.std.proofs.Common.{◌≡◌, ℕ, ◌<◌, leb, List, length, get_or, arith}
use Rattle.std.proofs.lemmas.Str.{IsUtf8-from_ascii}
use Rattle.std.proofs.lemmas.Str.Ascii.{IsAscii-from_reads}
use Rattle.std.proofs.lemmas.Bool.{and_parts, leb-true}
use Rattle.std.specs.Str.{IsUtf8}
use Rattle.keys.specs.Words.{first_wrong}
use Rattle.keys.proofs.Lexical.{first_is}

pub none_wrong_ascii : (w : List ℕ) (i : ℕ) → first_wrong w ≡ length w → i < length w → get_or w i 0 < 128
none_wrong_ascii w i h l =
    let b = (first_is w).before i (omega (arith, h)) in
    omega (arith, leb-true (get_or w i 0) 0x5F (and_parts (leb 0x20 (get_or w i 0)) (leb (get_or w i 0) 0x5F) b).1)

pub none_wrong_utf8 : (w : List ℕ) → first_wrong w ≡ length w → IsUtf8 w
none_wrong_utf8 w h = IsUtf8-from_ascii w (IsAscii-from_reads w (length w) (omega arith) (λ i l. none_wrong_ascii w i h l))
