-- What was read writes back. Idea: a field's reader that answers a field took just the bytes that write it; so field by
-- field the bytes come back, and the map is the one of the fields.
use Rattle.std.proofs.Common.{◌≡◌, ℕ, ◌+◌, ◌<◌, ◌≤◌, Bool, true, false, cond, ◌&&◌, eqb, ltb, leb, List, [], ◌∷◌, ◌++◌, length, get_or, take, is_some, Some, Ok, Err, Option, Result, sym, refl, ap, ◌∙◌, subst, append_assoc, arith, length-drop, length-take, take-add}
use Rattle.std.proofs.lemmas.List.{append-nil, take_more}
use Rattle.std.proofs.lemmas.Bool.{and_parts, and_from, lt-ltb, leb-true, ltb-true}
use Rattle.records.specs.declared.fault.ReadFault.{ReadFault}
use Rattle.records.specs.declared.fault.ReadFault.TheVariants.{Map, CutOff, Field}
use Rattle.keys.specs.Words.{first_wrong}
use Rattle.records.specs.Fields.{Got, number_at, byte_at, four_at, word_at, word_bytes_at, part}
use Rattle.records.specs.Values.{RecordValue}
use Rattle.records.specs.Reading.{next, bit, fields_of, reading}
use Rattle.records.specs.Writing.{encode_byte, encode_four, encode_word, within, word_fits, in_range, map_of, encode}
use Rattle.records.proofs.Numbers.{Stored, byte_stored, four_stored}
use Rattle.records.proofs.Bits.{map_from}
use Rattle.records.proofs.Back.{run}

pub ok_same : {A E : Type 0} {x y : A} → ◌≡◌ {A = Result A E} (Ok x) (Ok y) → x ≡ y
ok_same e = cc

pub cond_ok : {A E : Type 0} (b : Bool) (x : Result A E) (e : E) (z : A) → cond b x (Err e) ≡ Ok z → (b ≡ true) × (x ≡ Ok z)
cond_ok true x e z q = (refl, q)
cond_ok false x e z q = let w : ◌≡◌ {A = ℕ} 0 1 = cc in absurd (omega arith)

next_ok : {A B : Type 0} (g : Got A) (f : Option A → ℕ → Result B ReadFault) (z : B) → next g f ≡ Ok z →
    (x : Option A × ℕ) × (g ≡ Ok x) × (f x.0 x.1 ≡ Ok z)
next_ok (Ok x) f z q = (x, refl, q)
next_ok (Err e) f z q = let w : ◌≡◌ {A = ℕ} 0 1 = cc in absurd (omega arith)

-- what a field's reader took: the field, and the bytes that write it
abbrev Took : {A : Type 0} → Bool → (Option A → Bool) → (Option A → List ℕ) → List ℕ → ℕ → Option A × ℕ → Type 0
Took present okay enc bs at x =
    (present ≡ is_some x.0) × (okay x.0 ≡ true) × (take x.1 bs ≡ take at bs ++ enc x.0) × (x.1 ≤ length bs)

module _ (bs : List ℕ) (bytes : (i : ℕ) → get_or bs i 0 < 256) (at : ℕ) (l : at ≤ length bs) where
  number_forth : {width : ℕ} {value_at : List ℕ → ℕ → ℕ} {written : Option ℕ → List ℕ} → Stored width value_at written →
      (present : Bool) (lo hi : ℕ) (x : Option ℕ × ℕ) → number_at width value_at leb present lo hi bs at ≡ Ok x → Took present (within lo hi) written bs at x
  number_forth {width} {value_at} {written} stored false lo hi x q =
      subst (Took false (within lo hi) written bs at) (ok_same q) (refl, refl, sym (append-nil (take at bs)) ∙ ap (λ xs. take at bs ++ xs) (sym stored.absent), l)
  number_forth {width} {value_at} {written} stored true lo hi x q =
      let v : ℕ = value_at bs at in
      let got : Got ℕ = Ok (Some v, at + width) in
      let c = cond_ok (leb (at + width) (length bs)) (cond (leb lo v && leb v hi) got (Err (Field at))) (CutOff (length bs)) x q in
      let d = cond_ok (leb lo v && leb v hi) got (Field at) x c.1 in
      let h : at + width ≤ length bs = leb-true (at + width) (length bs) c.0 in
      subst (Took true (within lo hi) written bs at) {x = (Some v, at + width)} (ok_same d.1) (refl, d.0, stored.forth bs at bytes h, h)

  word_forth : (present : Bool) (x : Option (List ℕ) × ℕ) → word_at present bs at ≡ Ok x → Took present word_fits encode_word bs at x
  word_forth false x q =
      subst (Took false word_fits encode_word bs at) (ok_same q) (refl, refl, sym (append-nil (take at bs)), l)
  word_forth true x q =
      let n : ℕ = get_or bs at 0 in
      let w : List ℕ = part bs (at + 1) n in
      let got : Got (List ℕ) = Ok (Some w, at + 1 + n) in
      let c = cond_ok (ltb at (length bs)) (cond (leb 1 n && leb n 8) (word_bytes_at n bs (at + 1)) (Err (Field at))) (CutOff (length bs)) x q in
      let d = cond_ok (leb 1 n && leb n 8) (word_bytes_at n bs (at + 1)) (Field at) x c.1 in
      let e = cond_ok (leb (at + 1 + n) (length bs)) (cond (eqb (first_wrong w) n) got (Err (Field (at + 1 + first_wrong w)))) (CutOff (length bs)) x d.1 in
      let f = cond_ok (eqb (first_wrong w) n) got (Field (at + 1 + first_wrong w)) x e.1 in
      let h : at < length bs = ltb-true at (length bs) c.0 in
      let k : at + 1 + n ≤ length bs = leb-true (at + 1 + n) (length bs) e.0 in
      let long : length w ≡ n = simp (length-take, length-drop) (omega arith) in
      let ok : word_fits (Some w) ≡ true = rw long (and_from (leb 1 n && leb n 8) (eqb (first_wrong w) n) d.0 f.0) in
      let bytes-are : take (at + 1 + n) bs ≡ take at bs ++ (length w ∷ w) =
      take-add (at + 1) n bs ∙ ap (λ xs. xs ++ w) (take_more bs at 0 h) ∙ append_assoc (take at bs) (n ∷ []) w
      ∙ ap (λ m. take at bs ++ (m ∷ w)) (sym long) in
      subst (Took true word_fits encode_word bs at) {x = (Some w, at + 1 + n)} (ok_same f.1) (refl, ok, bytes-are, k)

-- five fields that were read, one after another
module _ (G : Got ℕ) (H I J : ℕ → Got ℕ) (K : ℕ → Got (List ℕ)) where
  pub record Ran (y : RecordValue × ℕ) : Type 0 where
    pub t : Option ℕ × ℕ
    pub k : Option ℕ × ℕ
    pub o : Option ℕ × ℕ
    pub s : Option ℕ × ℕ
    pub w : Option (List ℕ) × ℕ
    pub t_is : G ≡ Ok t
    pub k_is : H t.1 ≡ Ok k
    pub o_is : I k.1 ≡ Ok o
    pub s_is : J o.1 ≡ Ok s
    pub w_is : K s.1 ≡ Ok w
    pub same : (record { time = t.0; kind = k.0; console = o.0; source = s.0; flight = w.0 }, w.1) ≡ y

  abbrev End : Type 0
  End = Result (RecordValue × ℕ) ReadFault

  run_inv : (y : RecordValue × ℕ) → run G H I J K ≡ Ok y → Ran y
  run_inv y q =
      let f5 : Option ℕ → Option ℕ → Option ℕ → Option ℕ → Option (List ℕ) → ℕ → End =
      λ t k o s w v. Ok (record { time = t; kind = k; console = o; source = s; flight = w }, v) in
      let f4 : Option ℕ → Option ℕ → Option ℕ → Option ℕ → ℕ → End = λ t k o s u. next (K u) (f5 t k o s) in
      let f3 : Option ℕ → Option ℕ → Option ℕ → ℕ → End = λ t k o r. next (J r) (f4 t k o) in
      let f2 : Option ℕ → Option ℕ → ℕ → End = λ t k q. next (I q) (f3 t k) in
      let f1 : Option ℕ → ℕ → End = λ t p. next (H p) (f2 t) in
      let a = next_ok G f1 y q in
      let b = next_ok (H a.0.1) (f2 a.0.0) y a.2 in
      let c = next_ok (I b.0.1) (f3 a.0.0 b.0.0) y b.2 in
      let d = next_ok (J c.0.1) (f4 a.0.0 b.0.0 c.0.0) y c.2 in
      let e = next_ok (K d.0.1) (f5 a.0.0 b.0.0 c.0.0 d.0.0) y d.2 in
      record { t = a.0; k = b.0; o = c.0; s = d.0; w = e.0; t_is = a.1; k_is = b.1; o_is = c.1; s_is = d.1; w_is = e.1; same = ok_same {x = (record { time = a.0.0; kind = b.0.0; console = c.0.0; source = d.0.0; flight = e.0.0 }, e.0.1)} {y = y} e.2 }

-- a record that was read: its bytes write it again
abbrev pub Wrote : List ℕ → RecordValue × ℕ → Type 0
Wrote bs y = (encode y.0 ≡ take y.1 bs) × (ltb 0 (map_of y.0) ≡ true) × (in_range y.0 ≡ true) × (y.1 ≤ length bs)

pub writes_back : (bs : List ℕ) → ((i : ℕ) → get_or bs i 0 < 256) → (y : RecordValue × ℕ) → reading bs ≡ Ok y → Wrote bs y
writes_back [] bytes y q = let w : ◌≡◌ {A = ℕ} 0 1 = cc in absurd (omega arith)
writes_back (m ∷ rest) bytes y q =
    let bs : List ℕ = m ∷ rest in
    let a = cond_ok (leb 1 m && leb m 31) (fields_of m bs) (Map 0) y q in
    let range = and_parts (leb 1 m) (leb m 31) a.0 in
    let low = leb-true 1 m range.0 in
    let high = leb-true m 31 range.1 in
    let ran = run_inv (four_at (bit m 1) 86_399 bs 1) (λ p. byte_at (bit m 2) 0 63 bs p) (λ p. byte_at (bit m 4) 1 250 bs p) (λ p. four_at (bit m 8) 4_294_967_295 bs p) (λ p. word_at (bit m 16) bs p) y a.1 in
    let one : 1 ≤ length bs = omega arith in
    let t = number_forth bs bytes 1 one four_stored (bit m 1) 0 86_399 ran.t ran.t_is in
    let k = number_forth bs bytes ran.t.1 t.3 byte_stored (bit m 2) 0 63 ran.k ran.k_is in
    let o = number_forth bs bytes ran.k.1 k.3 byte_stored (bit m 4) 1 250 ran.o ran.o_is in
    let s = number_forth bs bytes ran.o.1 o.3 four_stored (bit m 8) 0 4_294_967_295 ran.s ran.s_is in
    let w = word_forth bs bytes ran.s.1 s.3 (bit m 16) ran.w ran.w_is in
    let r : RecordValue = record { time = ran.t.0; kind = ran.k.0; console = ran.o.0; source = ran.s.0; flight = ran.w.0 } in
    let same : map_of r ≡ m = map_from r m high t.0 k.0 o.0 s.0 w.0 in
    let enc : encode r ≡ take ran.w.1 bs =
    sym (w.2 ∙ ap (λ xs. xs ++ encode_word r.flight) (s.2 ∙ ap (λ xs. xs ++ encode_four r.source) (o.2 ∙ ap (λ xs. xs ++ encode_byte r.console)
    (k.2 ∙ ap (λ xs. xs ++ encode_byte r.kind) (t.2 ∙ ap (λ n. (n ∷ []) ++ encode_four r.time) (sym same)))))) in
    let some : ltb 0 (map_of r) ≡ true = lt-ltb 0 (map_of r) (omega (arith, same)) in
    let fits : in_range r ≡ true = and_from _ _ (and_from _ _ (and_from _ _ (and_from _ _ t.1 k.1) o.1) s.1) w.1 in
    subst (Wrote bs) {x = (r, ran.w.1)} ran.same (enc, some, fits, w.3)
