-- The map and each field pasted right after those before it, from the start.
use Rattle.std.proofs.Common.{◌≤◌, [], ◌∷◌, length, ap, ◌∙◌, arith}
use Rattle.records.specs.Values.{RecordValue, value_of}
use Rattle.records.specs.Writing.{map_of, encode_byte, encode_four, encode_word, encode}
use Rattle.records.specs.Pasting.{pasted}
use Rattle.records.proofs.Rounds.{encode_length}
use Rattle.records.proofs.Paste.{Front, onward, go_on, pasted_start}
use Rattle.records.proofs.writer.put_record.Goals as goal

pub returns : goal.returns
returns c =
    let m : RecordValue = value_of c.args.given.now in
    let o = c.args.out.now in
    let n = encode_length m in
    let room : length (encode m) ≤ length o = c.requires.room in
    let a : Front o (map_of m ∷ []) c.put_number-at.new.out c.put_number-at.result =
    (c.put_number-at.ensures.written ∙ ap (λ b. pasted o 0 (b ∷ [])) c.map_of.ensures, c.put_number-at.ensures.place) in
    let b = go_on o _ _ _ _ _ (encode_four m.time) a c.put_number-at-2.ensures.written c.put_number-at-2.ensures.place (omega arith) in
    let d = go_on o _ _ _ _ _ (encode_byte m.kind) b c.put_number-at-3.ensures.written c.put_number-at-3.ensures.place (omega arith) in
    let e = go_on o _ _ _ _ _ (encode_byte m.console) d c.put_number-at-4.ensures.written c.put_number-at-4.ensures.place (omega arith) in
    let f = go_on o _ _ _ _ _ (encode_four m.source) e c.put_number-at-5.ensures.written c.put_number-at-5.ensures.place (omega arith) in
    onward o _ _ 0 _ _ (encode_word m.flight) f.0 c.put_word.ensures (omega (arith, f.1)) (omega arith) ∙ pasted_start o (encode m)
