-- What was written reads back. Idea: each field's reader, right after what is before the field, finds the field that was
-- written there; so field by field the record comes back.
use Rattle.std.proofs.Common.{◌≡◌, ℕ, ◌+◌, Bool, true, ◌&&◌, eqb, ltb, leb, List, [], ◌∷◌, ◌++◌, length, get_or, take, drop, is_some, Some, None, Ok, Option, Result, sym, refl, ap, ◌∙◌, append_assoc, arith}
use Rattle.std.proofs.lemmas.List.{length-append, get_or_at, take_at, drop_at, append-nil}
use Rattle.std.proofs.lemmas.Bool.{and_parts, le-leb, lt-ltb, ltb-true, cond-true, and_from}
use Rattle.records.specs.declared.fault.ReadFault.{ReadFault}
use Rattle.keys.specs.Words.{first_wrong}
use Rattle.records.specs.Fields.{Got, number_at, byte_at, four_at, word_at, part}
use Rattle.records.specs.Values.{RecordValue}
use Rattle.records.specs.Reading.{next, bit, fields_of, reading}
use Rattle.records.specs.Writing.{encode_byte, encode_four, encode_word, within, word_fits, in_range, map_of, encode}
use Rattle.records.proofs.Numbers.{Stored, byte_stored, four_stored}
use Rattle.records.proofs.Bits.{map_small, bit_time, bit_kind, bit_console, bit_source, bit_flight}

-- a field that is written after `front`
module _ (bs front post : List ℕ) where
  number_back : {width : ℕ} {value_at : List ℕ → ℕ → ℕ} {written : Option ℕ → List ℕ} → Stored width value_at written →
      (present : Bool) (lo hi : ℕ) (f : Option ℕ) → present ≡ is_some f → within lo hi f ≡ true → bs ≡ front ++ (written f ++ post) →
      number_at width value_at leb present lo hi bs (length front) ≡ Ok (f, length (front ++ written f))
  number_back {width} {value_at} {written} stored present lo hi (Some v) s w e =
      let g : value_at bs (length front) ≡ v = ap (λ xs. value_at xs (length front)) e ∙ stored.back front post v in
      let long = stored.long v in
      let n : length bs ≡ length front + (width + length post) =
      ap length e ∙ length-append front (written (Some v) ++ post) ∙ omega (arith, length-append (written (Some v)) post, long) in
      let t = le-leb (length front + width) (length bs) (omega arith) in
      let p : length front + width ≡ length (front ++ written (Some v)) = omega (arith, length-append front (written (Some v)), long) in
      rw (s, t, g, w, p)
  number_back {width} {value_at} {written} stored present lo hi None s w e =
      let p : length front ≡ length (front ++ written None) = ap length (sym (append-nil front) ∙ ap (λ xs. front ++ xs) (sym stored.absent)) in
      rw (s, ← p)

  word_back : (present : Bool) (f : Option (List ℕ)) → present ≡ is_some f → word_fits f ≡ true → bs ≡ front ++ (encode_word f ++ post) →
      word_at present bs (length front) ≡ Ok (f, length (front ++ encode_word f))
  word_back present (Some v) s w e =
      let g : get_or bs (length front) 0 ≡ length v = ap (λ xs. get_or xs (length front) 0) e ∙ get_or_at front _ _ 0 (length front) refl in
      let n : length bs ≡ length front + (1 + (length v + length post)) =
      ap length e ∙ length-append front (length v ∷ (v ++ post)) ∙ omega (arith, length-append v post) in
      let t = lt-ltb (length front) (length bs) (omega arith) in
      let u = le-leb (length front + 1 + length v) (length bs) (omega arith) in
      let head : List ℕ = front ++ length v ∷ [] in
      let long : length head ≡ length front + 1 = length-append front (length v ∷ []) in
      let split : bs ≡ head ++ (v ++ post) = e ∙ sym (append_assoc front (length v ∷ []) (v ++ post)) in
      let q : part bs (length front + 1) (length v) ≡ v =
      ap (λ xs. take (length v) (drop (length front + 1) xs)) split ∙ ap (take (length v)) (drop_at head (v ++ post) (length front + 1) long)
      ∙ take_at v post (length v) refl in
      let z = and_parts (leb 1 (length v) && leb (length v) 8) (eqb (first_wrong v) (length v)) w in
      let p : length front + 1 + length v ≡ length (front ++ encode_word (Some v)) = omega (arith, length-append front (length v ∷ v)) in
      rw (s, t, g, z.0, u, q, z.1, p)
  word_back present None s w e =
      let p : length front ≡ length (front ++ []) = ap length (sym (append-nil front)) in
      rw (s, ← p)

-- five fields, one after another
module _ (G : Got ℕ) (H I J : ℕ → Got ℕ) (K : ℕ → Got (List ℕ)) where
  abbrev pub run : Result (RecordValue × ℕ) ReadFault
  run =
      next G (λ t p. next (H p) (λ k q. next (I q) (λ o r. next (J r) (λ s u. next (K u) (λ w v.
      Ok (record { time = t; kind = k; console = o; source = s; flight = w }, v))))))

  pub run_through : (m : RecordValue) (p q r u v : ℕ) → G ≡ Ok (m.time, p) → H p ≡ Ok (m.kind, q) → I q ≡ Ok (m.console, r) →
      J r ≡ Ok (m.source, u) → K u ≡ Ok (m.flight, v) → run ≡ Ok (m, v)
  run_through m p q r u v a b c d e = rw (a, b, c, d, e)

pub reads_back : (m : RecordValue) (rest : List ℕ) → ltb 0 (map_of m) ≡ true → in_range m ≡ true → reading (encode m ++ rest) ≡ Ok (m, length (encode m))
reads_back m rest some fits =
    let bs : List ℕ = encode m ++ rest in
    let f1 : List ℕ = map_of m ∷ [] in
    let f2 : List ℕ = f1 ++ encode_four m.time in
    let f3 : List ℕ = f2 ++ encode_byte m.kind in
    let f4 : List ℕ = f3 ++ encode_byte m.console in
    let f5 : List ℕ = f4 ++ encode_four m.source in
    let p4 : List ℕ = encode_word m.flight ++ rest in
    let p3 : List ℕ = encode_four m.source ++ p4 in
    let p2 : List ℕ = encode_byte m.console ++ p3 in
    let p1 : List ℕ = encode_byte m.kind ++ p2 in
    let e1 : bs ≡ f1 ++ (encode_four m.time ++ p1) = simp append_assoc in
    let e2 : bs ≡ f2 ++ (encode_byte m.kind ++ p2) = simp append_assoc in
    let e3 : bs ≡ f3 ++ (encode_byte m.console ++ p3) = simp append_assoc in
    let e4 : bs ≡ f4 ++ (encode_four m.source ++ p4) = simp append_assoc in
    let e5 : bs ≡ f5 ++ (encode_word m.flight ++ rest) = simp append_assoc in
    let r5 = and_parts (within 0 86_399 m.time && within 0 63 m.kind && within 1 250 m.console && within 0 4_294_967_295 m.source) (word_fits m.flight) fits in
    let r4 = and_parts (within 0 86_399 m.time && within 0 63 m.kind && within 1 250 m.console) (within 0 4_294_967_295 m.source) r5.0 in
    let r3 = and_parts (within 0 86_399 m.time && within 0 63 m.kind) (within 1 250 m.console) r4.0 in
    let r2 = and_parts (within 0 86_399 m.time) (within 0 63 m.kind) r3.0 in
    let low = le-leb 1 (map_of m) (omega (arith, ltb-true 0 (map_of m) some)) in
    let high = le-leb (map_of m) 31 (map_small m) in
    cond-true (leb 1 (map_of m) && leb (map_of m) 31) (fields_of (map_of m) bs) _ (and_from _ _ low high)
    ∙ run_through _ (λ p. byte_at (bit (map_of m) 2) 0 63 bs p) (λ p. byte_at (bit (map_of m) 4) 1 250 bs p) (λ p. four_at (bit (map_of m) 8) 4_294_967_295 bs p) (λ p. word_at (bit (map_of m) 16) bs p)
    m (length f2) (length f3) (length f4) (length f5) (length (encode m))
    (number_back bs f1 p1 four_stored (bit (map_of m) 1) 0 86_399 m.time (bit_time m) r2.0 e1)
    (number_back bs f2 p2 byte_stored (bit (map_of m) 2) 0 63 m.kind (bit_kind m) r2.1 e2)
    (number_back bs f3 p3 byte_stored (bit (map_of m) 4) 1 250 m.console (bit_console m) r3.1 e3)
    (number_back bs f4 p4 four_stored (bit (map_of m) 8) 0 4_294_967_295 m.source (bit_source m) r4.1 e4)
    (word_back bs f5 rest (bit (map_of m) 16) m.flight (bit_flight m) r5.1 e5)
