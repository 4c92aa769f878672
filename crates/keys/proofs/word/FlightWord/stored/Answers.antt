-- The stored bytes are the word and zeros, so the ghost fields hold, and the value is the flight word of its bytes.
use Rattle.std.proofs.Common.{length, take, drop, ap, ◌∙◌}
use Rattle.keys.specs.Words.{first_wrong}
use Rattle.keys.specs.Values.{word_parts, zeroed_eight, zeroed_word, zeroed_rest}
use Rattle.keys.proofs.Making.{over_zeros, stores_word}
use Rattle.keys.proofs.word.FlightWord.stored.Goals as goal

pub invariant_of-result : goal.invariant_of-result
invariant_of-result c =
    let w = c.args.word.now in
    let p = word_parts w c.requires in
    let e = over_zeros w _ c.copy_from_slice.ensures.after in
    record {
      some = p.some;
      fits = p.fits;
      eight = ap length e ∙ zeroed_eight w p.fits;
      right = ap (λ bs. first_wrong (take (length w) bs)) e ∙ ap first_wrong (zeroed_word w) ∙ p.right;
      padded = ap (drop (length w)) e ∙ zeroed_rest w;
    }

pub returns : goal.returns
returns c =
    let w = c.args.word.now in
    let e = over_zeros w _ c.copy_from_slice.ensures.after in
    stores_word w _ (ap (take (length w)) e ∙ zeroed_word w)
