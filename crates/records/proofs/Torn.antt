-- A record that is cut off is told as such, at the place where the input ends; and a fault lies within the input or at
-- its end. Idea: a field's reader answers the same of a beginning that holds the field, and is cut off in any shorter.
use Rattle.std.proofs.Common.{◌≡◌, ℕ, zero, suc, ◌+◌, ◌-◌, ◌<◌, ◌≤◌, Bool, true, false, cond, ◌&&◌, eqb, ltb, leb, List, [], ◌∷◌, length, get_or, take, drop, Some, None, Ok, Err, Option, Result, sym, refl, ap, ◌∙◌, subst, ⊎_elim, arith}
use Rattle.std.proofs.lemmas.List.{length-take, length-take-le, get_or-take, take-take}
use Rattle.std.proofs.lemmas.Slice.{between_is}
use Rattle.std.proofs.lemmas.Bool.{le-leb, lt-leb, lt-ltb, le-ltb, leb-true, cases_lt, cond_both, cond-true}
use Rattle.keys.specs.Words.{first_wrong}
use Rattle.keys.proofs.Lexical.{first_is}
use Rattle.records.specs.declared.fault.ReadFault.{ReadFault}
use Rattle.records.specs.declared.fault.ReadFault.TheVariants.{Map, CutOff, Field}
use Rattle.records.specs.Faults.{place_of}
use Rattle.records.specs.Fields.{Got, number_at, word_at, word_bytes_at, join_at, part}
use Rattle.records.specs.Values.{RecordValue}
use Rattle.records.specs.Reading.{next, bit, fields_of, reading}
use Rattle.records.proofs.Numbers.{Stored, byte_stored, four_stored}
use Rattle.records.proofs.Forth.{ok_same, cond_ok}

-- of a field's reader: what it answers of the whole input, and of the first k bytes
abbrev Cut : {A : Type 0} → ℕ → Got A → Got A → Type 0
Cut {A} k whole begun = (x : Option A × ℕ) → whole ≡ Ok x → (x.1 ≤ k → begun ≡ Ok x) × (k < x.1 → begun ≡ Err (CutOff k))

-- of the whole reader: a record that goes beyond the first k bytes is cut off there
abbrev CutAll : {B : Type 0} → ℕ → Result (B × ℕ) ReadFault → Result (B × ℕ) ReadFault → Type 0
CutAll {B} k whole begun = (y : B × ℕ) → whole ≡ Ok y → k < y.1 → begun ≡ Err (CutOff k)

module _ (bs : List ℕ) (k : ℕ) (l : k ≤ length bs) where
  ends : length (take k bs) ≡ k
  ends = length-take-le k bs l

  absent_cut : {A : Type 0} (at : ℕ) → at ≤ k → Cut {A = A} k (Ok (None, at)) (Ok (None, at))
  absent_cut at h x q = (λ _. q, λ more. let e : at ≡ x.1 = ap (λ y. y.1) (ok_same q) in absurd (omega arith))

  number_cut : {width : ℕ} {value_at : List ℕ → ℕ → ℕ} {written : Option ℕ → List ℕ} → Stored width value_at written →
      (present : Bool) (lo hi at : ℕ) → at ≤ k → Cut k (number_at width value_at leb present lo hi bs at) (number_at width value_at leb present lo hi (take k bs) at)
  number_cut stored false lo hi at h x q = absent_cut at h x q
  number_cut {width} {value_at} stored true lo hi at h x q =
      let v : ℕ = value_at bs at in
      let got : Got ℕ = Ok (Some v, at + width) in
      let c = cond_ok (leb (at + width) (length bs)) (cond (leb lo v && leb v hi) got (Err (Field at))) (CutOff (length bs)) x q in
      let d = cond_ok (leb lo v && leb v hi) got (Field at) x c.1 in
      let e : at + width ≡ x.1 = ap (λ y. y.1) (ok_same d.1) in (
        λ inside.
            let t = le-leb (at + width) k (omega arith) in
            let g = stored.begun bs at k (omega arith) in
            rw (ends, t, g, d.0) d.1,
        λ more.
            let t = lt-leb (at + width) k (omega arith) in
            rw (ends, t),
      )

  pub part_cut : (at n : ℕ) → at + n ≤ k → part (take k bs) at n ≡ part bs at n
  part_cut at n h =
      let m : at + n - at ≡ n = omega arith in
      let whole : part bs at n ≡ drop at (take (at + n) bs) = rw m at (between_is bs at (at + n)) in
      let begun : part (take k bs) at n ≡ drop at (take (at + n) (take k bs)) = rw m at (between_is (take k bs) at (at + n)) in
      begun ∙ ap (drop at) (take-take (at + n) k bs h) ∙ sym whole

  word_cut : (present : Bool) (at : ℕ) → at ≤ k → Cut k (word_at present bs at) (word_at present (take k bs) at)
  word_cut false at h x q = absent_cut at h x q
  word_cut true at h x q =
      let n : ℕ = get_or bs at 0 in
      let w : List ℕ = part bs (at + 1) n in
      let got : Got (List ℕ) = Ok (Some w, at + 1 + n) in
      let c = cond_ok (ltb at (length bs)) (cond (leb 1 n && leb n 8) (word_bytes_at n bs (at + 1)) (Err (Field at))) (CutOff (length bs)) x q in
      let d = cond_ok (leb 1 n && leb n 8) (word_bytes_at n bs (at + 1)) (Field at) x c.1 in
      let e = cond_ok (leb (at + 1 + n) (length bs)) (cond (eqb (first_wrong w) n) got (Err (Field (at + 1 + first_wrong w)))) (CutOff (length bs)) x d.1 in
      let f = cond_ok (eqb (first_wrong w) n) got (Field (at + 1 + first_wrong w)) x e.1 in
      let z : at + 1 + n ≡ x.1 = ap (λ y. y.1) (ok_same f.1) in (
        λ inside.
            let t = lt-ltb at k (omega arith) in
            let g = get_or-take k bs at 0 (omega arith) in
            let u = le-leb (at + 1 + n) k (omega arith) in
            let p = part_cut (at + 1) n (omega arith) in
            rw (ends, t, g, d.0, u, p, f.0) f.1,
        λ more.
            ⊎_elim
            (λ (some : at < k).
            let t = lt-ltb at k some in
            let g = get_or-take k bs at 0 some in
            let u = lt-leb (at + 1 + n) k (omega arith) in
            rw (ends, t, g, d.0, u))
            (λ (none : k ≤ at). let t = le-ltb at k none in rw (ends, t))
            (cases_lt at k),
      )

-- one field after another
next_cut : {A B : Type 0} (k : ℕ) (g h : Got A) (f f' : Option A → ℕ → Result (B × ℕ) ReadFault) → Cut k g h →
    ((v : Option A) (at : ℕ) → at ≤ k → CutAll k (f v at) (f' v at)) → CutAll k (next g f) (next h f')
next_cut k (Err e) h f f' c later y q more = let w : ◌≡◌ {A = ℕ} 0 1 = cc in absurd (omega arith)
next_cut k (Ok x) h f f' c later y q more =
    ⊎_elim (λ beyond. ap (λ r. next r f') ((c x refl).1 beyond))
    (λ inside. ap (λ r. next r f') ((c x refl).0 inside) ∙ later x.0 x.1 inside y q more)
    (cases_lt k x.1)

fields_cut : (map : ℕ) (bs : List ℕ) (k : ℕ) → 1 ≤ k → k ≤ length bs → CutAll k (fields_of map bs) (fields_of map (take k bs))
fields_cut map bs k one l =
    next_cut k _ _ _ _ (number_cut bs k l four_stored (bit map 1) 0 86_399 1 one) (λ time a ha.
    next_cut k _ _ _ _ (number_cut bs k l byte_stored (bit map 2) 0 63 a ha) (λ kind b hb.
    next_cut k _ _ _ _ (number_cut bs k l byte_stored (bit map 4) 1 250 b hb) (λ console c hc.
    next_cut k _ _ _ _ (number_cut bs k l four_stored (bit map 8) 0 4_294_967_295 c hc) (λ source d hd.
    next_cut k _ _ _ _ (word_cut bs k l (bit map 16) d hd) (λ flight e he y q more.
    let z : e ≡ y.1 = ap (λ x. x.1) (ok_same q) in absurd (omega arith))))))

pub cut_off : (bs : List ℕ) (r : RecordValue) (n k : ℕ) → reading bs ≡ Ok (r, n) → n ≤ length bs → k < n → reading (take k bs) ≡ Err (CutOff k)
cut_off [] r n k q l h = let w : ◌≡◌ {A = ℕ} 0 1 = cc in absurd (omega arith)
cut_off (map ∷ rest) r n zero q l h = refl
cut_off (map ∷ rest) r n (suc k) q l h =
    let a = cond_ok (leb 1 map && leb map 31) (fields_of map (map ∷ rest)) (Map 0) (r, n) q in
    cond-true (leb 1 map && leb map 31) (fields_of map (take (suc k) (map ∷ rest))) (Err (Map 0)) a.0
    ∙ fields_cut map (map ∷ rest) (suc k) (omega arith) (omega arith) (r, n) a.1 h

pub length-take_most : (n : ℕ) (xs : List ℕ) → length (take n xs) ≤ n
length-take_most n xs = rw length-take (omega arith)

-- where a reader's answer lies: the place after what was read, or that of the fault
abbrev Inside : {B : Type 0} → List ℕ → Result (B × ℕ) ReadFault → Type 0
Inside bs (Ok y) = y.1 ≤ length bs
Inside bs (Err e) = place_of e ≤ length bs

module _ (bs : List ℕ) where
  number_inside : (width : ℕ) (value_at : List ℕ → ℕ → ℕ) (present : Bool) (lo hi at : ℕ) → at ≤ length bs → Inside bs (number_at width value_at leb present lo hi bs at)
  number_inside width value_at present lo hi at h =
      cond_both present _ _ (Inside bs)
      (λ _. cond_both (leb (at + width) (length bs)) _ _ (Inside bs)
      (λ t. cond_both (leb lo (value_at bs at) && leb (value_at bs at) hi) _ _ (Inside bs) (λ _. leb-true (at + width) (length bs) t) (λ _. h))
      (λ _. omega arith))
      (λ _. h)

  bytes_inside : (n at : ℕ) → Inside bs (word_bytes_at n bs at)
  bytes_inside n at =
      cond_both (leb (at + n) (length bs)) _ _ (Inside bs)
      (λ t. cond_both (eqb (first_wrong (part bs at n)) n) _ _ (Inside bs) (λ _. leb-true (at + n) (length bs) t)
      (λ _. omega (arith, leb-true (at + n) (length bs) t, (first_is (part bs at n)).within, length-take_most n (drop at bs))))
      (λ _. omega arith)

  word_inside : (present : Bool) (at : ℕ) → at ≤ length bs → Inside bs (word_at present bs at)
  word_inside present at h =
      cond_both present _ _ (Inside bs)
      (λ _. cond_both (ltb at (length bs)) _ _ (Inside bs)
      (λ t. cond_both (leb 1 (get_or bs at 0) && leb (get_or bs at 0) 8) _ _ (Inside bs) (λ _. bytes_inside (get_or bs at 0) (at + 1)) (λ _. h))
      (λ _. omega arith))
      (λ _. h)

  next_inside : {A B : Type 0} (g : Got A) (f : Option A → ℕ → Result (B × ℕ) ReadFault) → Inside bs g →
      ((v : Option A) (at : ℕ) → at ≤ length bs → Inside bs (f v at)) → Inside bs (next g f)
  next_inside (Ok x) f h later = later x.0 x.1 h
  next_inside (Err e) f h later = h

  fields_inside : (map : ℕ) → 1 ≤ length bs → Inside bs (fields_of map bs)
  fields_inside map one =
      next_inside _ _ (number_inside 4 join_at (bit map 1) 0 86_399 1 one) (λ time a ha.
      next_inside _ _ (number_inside 1 (λ bs at. get_or bs at 0) (bit map 2) 0 63 a ha) (λ kind b hb.
      next_inside _ _ (number_inside 1 (λ bs at. get_or bs at 0) (bit map 4) 1 250 b hb) (λ console c hc.
      next_inside _ _ (number_inside 4 join_at (bit map 8) 0 4_294_967_295 c hc) (λ source d hd.
      next_inside _ _ (word_inside (bit map 16) d hd) (λ flight e he. he)))))

reading_inside : (bs : List ℕ) → Inside bs (reading bs)
reading_inside [] = omega arith
reading_inside (map ∷ rest) =
    cond_both (leb 1 map && leb map 31) _ _ (Inside (map ∷ rest)) (λ _. fields_inside (map ∷ rest) map (omega arith)) (λ _. omega arith)

pub fault_inside : (bs : List ℕ) (e : ReadFault) → reading bs ≡ Err e → place_of e ≤ length bs
fault_inside bs e q = subst (Inside bs) q (reading_inside bs)
