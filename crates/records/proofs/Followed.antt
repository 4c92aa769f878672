-- Where a fault of the reader lies, and what of it stays whatever follows. Idea: a field's reader that answers a field, or
-- finds it out of range, answers the same where more bytes follow, since it has read none of them; and 20 bytes are
-- enough for all fields.
use Rattle.std.proofs.Common.{◌≡◌, ℕ, ◌+◌, ◌<◌, ◌≤◌, Bool, true, false, cond, ◌&&◌, eqb, ltb, leb, List, [], ◌∷◌, ◌++◌, length, get_or, take, drop, Some, Ok, Err, Option, Result, sym, refl, ap, ◌∙◌, subst, ⊎_elim, arith}
use Rattle.std.proofs.lemmas.List.{length-append, length-take-le, get_or-take, take_at, take-append-drop}
use Rattle.std.proofs.lemmas.Bool.{le-leb, leb-true, leb-false, lt-ltb, ltb-true, ltb-false, eqb-false, and_parts, cond-true, cond-false, cond_both, cases_lt}
use Rattle.keys.specs.Words.{first_wrong}
use Rattle.keys.proofs.Lexical.{first_is}
use Rattle.records.specs.declared.fault.ReadFault.{ReadFault}
use Rattle.records.specs.declared.fault.ReadFault.TheVariants.{Map, CutOff, Field}
use Rattle.records.specs.Fields.{Got, number_at, word_at, word_bytes_at, join_at, part}
use Rattle.records.specs.Values.{RecordValue}
use Rattle.records.specs.Reading.{next, bit, fields_of, reading}
use Rattle.records.specs.Laws.{FaultLaws}
use Rattle.records.proofs.Numbers.{Stored, byte_stored, four_stored}
use Rattle.records.proofs.Torn.{part_cut, length-take_most}

-- an answer of some bytes, and the answer where more bytes follow: but for one that is cut off, it stays
abbrev Stays : {A : Type 0} → List ℕ → (longer answer : Result A ReadFault) → Type 0
Stays bs longer (Ok x) = longer ≡ Ok x
Stays bs longer (Err (Map p)) = (p ≡ 0) × (longer ≡ Err (Map p))
Stays bs longer (Err (CutOff p)) = p ≡ length bs
Stays bs longer (Err (Field p)) = (p < length bs) × (longer ≡ Err (Field p))

module _ (bs rest : List ℕ) where
  front : take (length bs) (bs ++ rest) ≡ bs
  front = take_at bs rest (length bs) refl

  long : length (bs ++ rest) ≡ length bs + length rest
  long = length-append bs rest

  number_stays : {width : ℕ} {value_at : List ℕ → ℕ → ℕ} {written : Option ℕ → List ℕ} → Stored width value_at written → 1 ≤ width →
      (present : Bool) (lo hi at : ℕ) → Stays bs (number_at width value_at leb present lo hi (bs ++ rest) at) (number_at width value_at leb present lo hi bs at)
  number_stays stored one false lo hi at = refl
  number_stays {width} {value_at} stored one true lo hi at =
      let v : ℕ = value_at bs at in
      let got : Got ℕ = Ok (Some v, at + width) in
      cond_both (leb (at + width) (length bs)) _ _ (Stays bs (number_at width value_at leb true lo hi (bs ++ rest) at))
      (λ t.
      let h = leb-true (at + width) (length bs) t in
      let u = le-leb (at + width) (length (bs ++ rest)) (omega (arith, long)) in
      let g : value_at (bs ++ rest) at ≡ v = sym (stored.begun (bs ++ rest) at (length bs) h) ∙ ap (λ xs. value_at xs at) front in
      let is : number_at width value_at leb true lo hi (bs ++ rest) at ≡ cond (leb lo v && leb v hi) got (Err (Field at)) = rw (u, g) in
      cond_both (leb lo v && leb v hi) _ _ (Stays bs (number_at width value_at leb true lo hi (bs ++ rest) at))
      (λ d. is ∙ cond-true (leb lo v && leb v hi) got (Err (Field at)) d)
      (λ d. (omega arith, is ∙ cond-false (leb lo v && leb v hi) got (Err (Field at)) d)))
      (λ _. refl)

  bytes_stay : (n at : ℕ) → Stays bs (word_bytes_at n (bs ++ rest) at) (word_bytes_at n bs at)
  bytes_stay n at =
      let w : List ℕ = part bs at n in
      let got : Got (List ℕ) = Ok (Some w, at + n) in
      let wrong : Got (List ℕ) = Err (Field (at + first_wrong w)) in
      cond_both (leb (at + n) (length bs)) _ _ (Stays bs (word_bytes_at n (bs ++ rest) at))
      (λ t.
      let h = leb-true (at + n) (length bs) t in
      let u = le-leb (at + n) (length (bs ++ rest)) (omega (arith, long)) in
      let p : part (bs ++ rest) at n ≡ w = sym (part_cut (bs ++ rest) (length bs) (omega (arith, long)) at n h) ∙ ap (λ xs. part xs at n) front in
      let is : word_bytes_at n (bs ++ rest) at ≡ cond (eqb (first_wrong w) n) got wrong = rw (u, p) in
      cond_both (eqb (first_wrong w) n) _ _ (Stays bs (word_bytes_at n (bs ++ rest) at))
      (λ d. is ∙ cond-true (eqb (first_wrong w) n) got wrong d)
      (λ d.
      let most : first_wrong w ≤ n = omega (arith, (first_is w).within, length-take_most n (drop at bs)) in
      let fewer : first_wrong w < n =
      ⊎_elim (λ (q : first_wrong w < n). q) (λ (q : n ≤ first_wrong w). absurd (eqb-false (first_wrong w) n d (omega arith))) (cases_lt (first_wrong w) n) in
      (omega arith, is ∙ cond-false (eqb (first_wrong w) n) got wrong d)))
      (λ _. refl)

  word_stays : (present : Bool) (at : ℕ) → Stays bs (word_at present (bs ++ rest) at) (word_at present bs at)
  word_stays false at = refl
  word_stays true at =
      let n : ℕ = get_or bs at 0 in
      let bytes : Got (List ℕ) = word_bytes_at n (bs ++ rest) (at + 1) in
      cond_both (ltb at (length bs)) _ _ (Stays bs (word_at true (bs ++ rest) at))
      (λ t.
      let h = ltb-true at (length bs) t in
      let u = lt-ltb at (length (bs ++ rest)) (omega (arith, long)) in
      let g : get_or (bs ++ rest) at 0 ≡ n = sym (get_or-take (length bs) (bs ++ rest) at 0 h) ∙ ap (λ xs. get_or xs at 0) front in
      let is : word_at true (bs ++ rest) at ≡ cond (leb 1 n && leb n 8) bytes (Err (Field at)) = rw (u, g) in
      cond_both (leb 1 n && leb n 8) _ _ (Stays bs (word_at true (bs ++ rest) at))
      (λ d. subst (λ a. Stays bs a (word_bytes_at n bs (at + 1))) (sym (is ∙ cond-true (leb 1 n && leb n 8) bytes (Err (Field at)) d)) (bytes_stay n (at + 1)))
      (λ d. (h, is ∙ cond-false (leb 1 n && leb n 8) bytes (Err (Field at)) d)))
      (λ _. refl)

  next_stays : {A B : Type 0} (g h : Got A) (f f' : Option A → ℕ → Result B ReadFault) → Stays bs h g →
      ((v : Option A) (at : ℕ) → Stays bs (f' v at) (f v at)) → Stays bs (next h f') (next g f)
  next_stays (Ok x) h f f' e later = subst (λ a. Stays bs (next a f') (f x.0 x.1)) (sym e) (later x.0 x.1)
  next_stays (Err (Map p)) h f f' e later = (e.0, ap (λ a. next a f') e.1)
  next_stays (Err (CutOff p)) h f f' e later = e
  next_stays (Err (Field p)) h f f' e later = (e.0, ap (λ a. next a f') e.1)

  fields_stay : (map : ℕ) → Stays bs (fields_of map (bs ++ rest)) (fields_of map bs)
  fields_stay map =
      next_stays _ _ _ _ (number_stays four_stored (omega arith) (bit map 1) 0 86_399 1) (λ time a.
      next_stays _ _ _ _ (number_stays byte_stored (omega arith) (bit map 2) 0 63 a) (λ kind b.
      next_stays _ _ _ _ (number_stays byte_stored (omega arith) (bit map 4) 1 250 b) (λ console c.
      next_stays _ _ _ _ (number_stays four_stored (omega arith) (bit map 8) 0 4_294_967_295 c) (λ source d.
      next_stays _ _ _ _ (word_stays (bit map 16) d) (λ flight e. refl)))))

reading_stays : (bs rest : List ℕ) → Stays bs (reading (bs ++ rest)) (reading bs)
reading_stays [] rest = refl
reading_stays (map ∷ others) rest =
    let all : Result (RecordValue × ℕ) ReadFault = fields_of map (map ∷ (others ++ rest)) in
    cond_both (leb 1 map && leb map 31) _ _ (Stays (map ∷ others) (reading (map ∷ (others ++ rest))))
    (λ t. subst (λ a. Stays (map ∷ others) a (fields_of map (map ∷ others))) (sym (cond-true (leb 1 map && leb map 31) all (Err (Map 0)) t)) (fields_stay (map ∷ others) rest map))
    (λ t. (refl, cond-false (leb 1 map && leb map 31) all (Err (Map 0)) t))

-- an answer that is not cut off, of bytes up to this place at most
abbrev Uncut : {A : Type 0} → (most : ℕ) → Result (A × ℕ) ReadFault → Type 0
Uncut most (Ok x) = x.1 ≤ most
Uncut most (Err (Map p)) = Unit {0}
Uncut most (Err (CutOff p)) = ⊥
Uncut most (Err (Field p)) = Unit {0}

next_uncut : {A B : Type 0} (m n : ℕ) (g : Got A) (f : Option A → ℕ → Result (B × ℕ) ReadFault) → Uncut m g →
    ((v : Option A) (at : ℕ) → at ≤ m → Uncut n (f v at)) → Uncut n (next g f)
next_uncut m n (Ok x) f h later = later x.0 x.1 h
next_uncut m n (Err (Map p)) f h later = tt
next_uncut m n (Err (CutOff p)) f h later = h
next_uncut m n (Err (Field p)) f h later = tt

module _ (bs : List ℕ) where
  number_uncut : (width : ℕ) (value_at : List ℕ → ℕ → ℕ) (present : Bool) (lo hi at : ℕ) → at + width ≤ length bs →
      Uncut (at + width) (number_at width value_at leb present lo hi bs at)
  number_uncut width value_at false lo hi at h = omega arith
  number_uncut width value_at true lo hi at h =
      cond_both (leb (at + width) (length bs)) _ _ (Uncut (at + width))
      (λ _. cond_both (leb lo (value_at bs at) && leb (value_at bs at) hi) _ _ (Uncut (at + width)) (λ _. omega arith) (λ _. tt))
      (λ t. absurd (omega (arith, h, leb-false (at + width) (length bs) t)))

  word_uncut : (present : Bool) (at : ℕ) → at + 9 ≤ length bs → Uncut (at + 9) (word_at present bs at)
  word_uncut false at h = omega arith
  word_uncut true at h =
      let n : ℕ = get_or bs at 0 in
      cond_both (ltb at (length bs)) _ _ (Uncut (at + 9))
      (λ _. cond_both (leb 1 n && leb n 8) _ _ (Uncut (at + 9))
      (λ t.
      let few = leb-true n 8 (and_parts (leb 1 n) (leb n 8) t).1 in
      cond_both (leb (at + 1 + n) (length bs)) _ _ (Uncut (at + 9))
      (λ _. cond_both (eqb (first_wrong (part bs (at + 1) n)) n) _ _ (Uncut (at + 9)) (λ _. omega arith) (λ _. tt))
      (λ t. absurd (omega (arith, h, few, leb-false (at + 1 + n) (length bs) t))))
      (λ _. tt))
      (λ t. absurd (omega (arith, h, ltb-false at (length bs) t)))

  fields_uncut : (map : ℕ) → 20 ≤ length bs → Uncut 20 (fields_of map bs)
  fields_uncut map h =
      next_uncut (1 + 4) 20 _ _ (number_uncut 4 join_at (bit map 1) 0 86_399 1 (omega arith)) (λ time a ha.
      next_uncut (a + 1) 20 _ _ (number_uncut 1 (λ bs at. get_or bs at 0) (bit map 2) 0 63 a (omega arith)) (λ kind b hb.
      next_uncut (b + 1) 20 _ _ (number_uncut 1 (λ bs at. get_or bs at 0) (bit map 4) 1 250 b (omega arith)) (λ console c hc.
      next_uncut (c + 4) 20 _ _ (number_uncut 4 join_at (bit map 8) 0 4_294_967_295 c (omega arith)) (λ source d hd.
      next_uncut (d + 9) 20 _ _ (word_uncut (bit map 16) d (omega arith)) (λ flight e he. omega arith)))))

reading_uncut : (bs : List ℕ) → 20 ≤ length bs → Uncut 20 (reading bs)
reading_uncut [] h = absurd (omega arith)
reading_uncut (map ∷ rest) h =
    cond_both (leb 1 map && leb map 31) _ _ (Uncut 20) (λ _. fields_uncut (map ∷ rest) map h) (λ _. tt)

-- any beginning of what is cut off is cut off
cut_before : (bs : List ℕ) (p k : ℕ) → reading bs ≡ Err (CutOff p) → k ≤ length bs → reading (take k bs) ≡ Err (CutOff k)
cut_before bs p k q h = by (reading (take k bs)) refl (subst (λ xs. Stays (take k bs) (reading xs) (reading (take k bs))) (take-append-drop k bs) (reading_stays (take k bs) (drop k bs)))
  where
    by : (a : Result (RecordValue × ℕ) ReadFault) → reading (take k bs) ≡ a → Stays (take k bs) (reading bs) a → reading (take k bs) ≡ Err (CutOff k)
    by (Ok x) e s = absurd (cc)
    by (Err (Map m)) e s = let z = s.1 in absurd (cc)
    by (Err (CutOff m)) e s = e ∙ ap (λ n. Err (CutOff n)) (s ∙ length-take-le k bs h)
    by (Err (Field m)) e s = let z = s.1 in absurd (cc)

pub fault_laws : (bs : List ℕ) (e : ReadFault) → reading bs ≡ Err e → FaultLaws bs e
fault_laws bs (Map p) q =
    let stays : (rest : List ℕ) → Stays bs (reading (bs ++ rest)) (Err (Map p)) = λ rest. subst (Stays bs (reading (bs ++ rest))) q (reading_stays bs rest) in
    ((stays []).0, λ rest. (stays rest).1)
fault_laws bs (CutOff p) q = record {
  ends = subst (Stays bs (reading (bs ++ []))) q (reading_stays bs []);
  torn = λ k h. cut_before bs p k q h;
  enough = λ rest n h e. subst (Uncut 20) e (reading_uncut (bs ++ rest) h);
}
fault_laws bs (Field p) q =
    let stays : (rest : List ℕ) → Stays bs (reading (bs ++ rest)) (Err (Field p)) = λ rest. subst (Stays bs (reading (bs ++ rest))) q (reading_stays bs rest) in
    ((stays []).0, λ rest. (stays rest).1)
