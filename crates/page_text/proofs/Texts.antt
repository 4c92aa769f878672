-- A flight word is text: none of its bytes is wrong.
use Rattle.std.proofs.Common.{◌≡◌, length, sym, ◌∙◌, arith}
use Rattle.std.proofs.lemmas.List.{length-take-le}
use Rattle.std.specs.Str.{IsUtf8}
use Rattle.keys.specs.declared.word.FlightWord.{FlightWord}
use Rattle.keys.specs.Values.{bytes_of}
use Rattle.records.proofs.Characters.{none_wrong_utf8}

pub word_utf8 : (w : FlightWord) → IsUtf8 (bytes_of w)
word_utf8 w =
    let long : length (bytes_of w) ≡ w.len = length-take-le w.len w.bytes (omega (arith, w.fits, w.eight)) in
    none_wrong_utf8 (bytes_of w) (w.right ∙ sym long)
