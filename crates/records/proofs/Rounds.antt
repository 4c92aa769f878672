-- The laws of reader and writer at an answer: what was read writes back, what was written reads back, one encoding.
use Rattle.std.proofs.Common.{◌≡◌, ℕ, ◌+◌, ◌<◌, ◌≤◌, true, cond, ◌&&◌, eqb, ltb, leb, List, [], ◌++◌, length, Some, None, Ok, Err, Option, Result, sym, refl, ap, ◌∙◌, ⊎_elim, Fits, w8, get_or, arith}
use Rattle.std.proofs.lemmas.List.{length-append, length-take-le, append-nil}
use Rattle.std.proofs.lemmas.Bool.{le-leb, leb-true, ltb-true, and_parts, and_from, cases_lt}
use Rattle.keys.specs.declared.refusal.Refusal.{Refusal}
use Rattle.keys.specs.declared.refusal.Refusal.TheVariants.{Field, NoRoom}
use Rattle.keys.specs.declared.refusal.Refusal.TheVariants as refusal
use Rattle.keys.specs.Words.{first_wrong}
use Rattle.records.specs.declared.fault.ReadFault.{ReadFault}
use Rattle.records.specs.Values.{RecordValue}
use Rattle.records.specs.Reading.{reading}
use Rattle.records.specs.Writing.{weight, encode_byte, encode_four, encode_word, within, word_fits, in_range, map_of, encode, writing}
use Rattle.records.specs.Laws.{Bytes, WasRead, ReadLaws, WriteLaws}
use Rattle.records.proofs.Numbers.{Stored, byte_stored, four_stored}
use Rattle.records.proofs.Back.{reads_back}
use Rattle.records.proofs.Forth.{writes_back, ok_same, cond_ok}
use Rattle.records.proofs.Torn.{cut_off, fault_inside}
use Rattle.records.proofs.Followed.{fault_laws}

number_short : {width : ℕ} {value_at : List ℕ → ℕ → ℕ} {written : Option ℕ → List ℕ} → Stored width value_at written → (f : Option ℕ) → length (written f) ≤ width
number_short stored (Some v) = omega (arith, stored.long v)
number_short stored None = omega (arith, ap length stored.absent)

word_short : (f : Option (List ℕ)) → word_fits f ≡ true → length (encode_word f) ≤ 9
word_short (Some w) h =
    let a = and_parts (leb 1 (length w) && leb (length w) 8) (eqb (first_wrong w) (length w)) h in
    let b = and_parts (leb 1 (length w)) (leb (length w) 8) a.0 in
    omega (arith, leb-true (length w) 8 b.1)
word_short None h = omega arith

pub encode_length : (r : RecordValue) →
    length (encode r) ≡ 1 + length (encode_four r.time) + length (encode_byte r.kind) + length (encode_byte r.console) + length (encode_four r.source) + length (encode_word r.flight)
encode_length r = simp length-append (omega arith)

encode_short : (r : RecordValue) → in_range r ≡ true → length (encode r) ≤ 20
encode_short r h =
    let w = and_parts (within 0 86_399 r.time && within 0 63 r.kind && within 1 250 r.console && within 0 4_294_967_295 r.source) (word_fits r.flight) h in
    omega (arith, encode_length r, number_short four_stored r.time, number_short byte_stored r.kind, number_short byte_stored r.console, number_short four_stored r.source, word_short r.flight w.1)

-- a field that takes no bytes sets no bit
number_none : {width : ℕ} {value_at : List ℕ → ℕ → ℕ} {written : Option ℕ → List ℕ} → Stored width value_at written → 1 ≤ width →
    (f : Option ℕ) (w : ℕ) → length (written f) ≡ 0 → weight f w ≡ 0
number_none stored one (Some v) w e = absurd (omega (arith, e, stored.long v, one))
number_none stored one None w e = refl

word_none : (f : Option (List ℕ)) (w : ℕ) → length (encode_word f) ≡ 0 → weight f w ≡ 0
word_none (Some v) w e = absurd (omega (arith, e))
word_none None w e = refl

-- a record has a field, so it has more than the map byte
encode_some : (r : RecordValue) → ltb 0 (map_of r) ≡ true → 2 ≤ length (encode r)
encode_some r h =
    ⊎_elim (λ (more : 1 < length (encode r)). more)
    (λ (none : length (encode r) ≤ 1).
    let long = encode_length r in
    let time = number_none four_stored (omega arith) r.time 1 (omega arith) in
    let kind = number_none byte_stored (omega arith) r.kind 2 (omega arith) in
    let console = number_none byte_stored (omega arith) r.console 4 (omega arith) in
    let source = number_none four_stored (omega arith) r.source 8 (omega arith) in
    let flight = word_none r.flight 16 (omega arith) in
    absurd (omega (arith, ltb-true 0 (map_of r) h, time, kind, console, source, flight)))
    (cases_lt 1 (length (encode r)))

pub was_read : (bs : List ℕ) → Bytes bs → (r : RecordValue) (n : ℕ) → reading bs ≡ Ok (r, n) → WasRead bs r n
was_read bs bytes r n q =
    let w = writes_back bs bytes (r, n) q in
    let long : length (encode r) ≡ n = ap length w.0 ∙ length-take-le n bs w.3 in
    record {
      some = omega (arith, encode_some r w.1, long);
      short = omega (arith, encode_short r w.2, long);
      inside = w.3;
      valid = and_from (ltb 0 (map_of r)) (in_range r) w.1 w.2;
      bytes = w.0;
      written = λ room h.
          let t = le-leb (length (encode r)) room (omega (arith, long, h)) in
          let a : writing r room ≡ Ok (length (encode r)) = rw (w.1, w.2, t) in
          a ∙ ap Ok long;
      only = λ cs k others e.
          let v = writes_back cs others (r, k) e in
          let same : length (encode r) ≡ k = ap length v.0 ∙ length-take-le k cs v.3 in
          (sym same ∙ long, sym v.0 ∙ w.0);
      alone = λ rest. ap (λ xs. reading (xs ++ rest)) (sym w.0) ∙ reads_back r rest w.1 w.2 ∙ ap (λ k. Ok (r, k)) long;
      torn = λ k h. cut_off bs r n k q w.3 h;
    }

pub read_laws : (bs : List ℕ) → Bytes bs → (a : Result (RecordValue × ℕ) ReadFault) → a ≡ reading bs → ReadLaws bs a
read_laws bs bytes (Ok p) e = was_read bs bytes p.0 p.1 (sym e)
read_laws bs bytes (Err x) e = (fault_inside bs x (sym e), fault_laws bs x (sym e))

pub slice_read_laws : (bs : List ℕ) → ((i : ℕ) → Fits w8 (get_or bs i 0)) → (a : Result (RecordValue × ℕ) ReadFault) → a ≡ reading bs → ReadLaws bs a
slice_read_laws bs fit a e = read_laws bs (λ i. omega (arith, fit i)) a e

-- what the writer found where it answers a length
wrote : (r : RecordValue) (room n : ℕ) → Ok n ≡ writing r room → (ltb 0 (map_of r) ≡ true) × (in_range r ≡ true) × (length (encode r) ≡ n)
wrote r room n e =
    let done : Result ℕ Refusal = Ok (length (encode r)) in
    let fit : Result ℕ Refusal = cond (leb (length (encode r)) room) done (Err NoRoom) in
    let a = cond_ok (ltb 0 (map_of r)) (cond (in_range r) fit (Err Field)) refusal.Map n (sym e) in
    let b = cond_ok (in_range r) fit Field n a.1 in
    let c = cond_ok (leb (length (encode r)) room) done NoRoom n b.1 in
    (a.0, b.0, ok_same c.1)

pub write_laws : (r : RecordValue) (room : ℕ) (a : Result ℕ Refusal) → a ≡ writing r room → WriteLaws r a
write_laws r room (Ok n) e =
    let w = wrote r room n e in
    let back : (rest : List ℕ) → reading (encode r ++ rest) ≡ Ok (r, n) = λ rest. reads_back r rest w.0 w.1 ∙ ap (λ k. Ok (r, k)) w.2 in
    let alone : reading (encode r) ≡ Ok (r, n) = ap reading (sym (append-nil (encode r))) ∙ back [] in
    record { long = w.2; back = back; torn = λ k h. cut_off (encode r) r n k alone (omega (arith, w.2)) h }
write_laws r room (Err x) e = tt
