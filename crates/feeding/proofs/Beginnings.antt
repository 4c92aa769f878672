-- What specs/ says of a list of records, told of a beginning of it and one record more.
use Rattle.std.proofs.Common.{◌≡◌, ℕ, ◌+◌, Bool, true, false, not, cond, List, [], ◌∷◌, ◌++◌, length, slice_get, is_none, Some, None, Option, refl, sym, ap, ◌∙◌, append_assoc, arith}
use Rattle.std.specs.List.{filter, count_by, cons_option}
use Rattle.std.proofs.lemmas.List.{length-append, append-nil}
use Rattle.std.proofs.lemmas.List.Sums.{sum_by-append}
use Rattle.std.proofs.lemmas.List.Elements.{filter-append, filter_map-append}
use Rattle.records.specs.Values.{RecordValue}
use Rattle.records.specs.Writing.{encode}
use Rattle.records.specs.Logs.{encode_all}
use Rattle.model.specs.Plans.{Plan}
use Rattle.feeding.specs.declared.feed.Fed.{Fed}
use Rattle.feeding.specs.Feeding.{places_from, keys_of, is_entry, fed_of}

pub count_more : {X : Type 0} (p : X → Bool) (xs : List X) (x : X) → count_by p (xs ++ x ∷ []) ≡ count_by p xs + cond (p x) 1 0
count_more p xs x = omega (arith, sum_by-append (λ y. cond (p y) 1 0) xs (x ∷ []))

pub count_first : {X : Type 0} (p : X → Bool) (x : X) (xs : List X) → count_by p (x ∷ xs) ≡ cond (p x) 1 0 + count_by p xs
count_first p x xs = omega (arith, sum_by-append (λ y. cond (p y) 1 0) (x ∷ []) xs)

pub encoded_more : (rs : List RecordValue) (r : RecordValue) → length (encode_all (rs ++ r ∷ [])) ≡ length (encode_all rs) + length (encode r)
encoded_more [] r = omega (arith, length-append (encode r) [])
encoded_more (q ∷ rs) r =
    omega (arith, encoded_more rs r, length-append (encode q) (encode_all (rs ++ r ∷ [])), length-append (encode q) (encode_all rs))

pub places_append : {X : Type 0} (p : X → Bool) (place : ℕ) (xs ys : List X) →
    places_from p place (xs ++ ys) ≡ places_from p place xs ++ places_from p (place + length xs) ys
places_append p place [] ys = ap (λ n. places_from p n ys) (omega arith)
places_append p place (x ∷ xs) ys =
    ap (λ l. cond (p x) (place ∷ []) [] ++ l)
    (places_append p (place + 1) xs ys ∙ ap (λ n. places_from p (place + 1) xs ++ places_from p n ys) (omega arith))
    ∙ sym (append_assoc (cond (p x) (place ∷ []) []) (places_from p (place + 1) xs) (places_from p (place + length (x ∷ xs)) ys))

-- each place is of one item that the test holds of
pub places_length : {X : Type 0} (p : X → Bool) (place : ℕ) (xs : List X) → length (places_from p place xs) ≡ count_by p xs
places_length p place [] = refl
places_length p place (x ∷ xs) = one (p x) (places_length p (place + 1) xs) ∙ sym (count_first p x xs)
  where
    one : (b : Bool) → length (places_from p (place + 1) xs) ≡ count_by p xs →
        length (cond b (place ∷ []) [] ++ places_from p (place + 1) xs) ≡ cond b 1 0 + count_by p xs
    one true e = omega arith
    one false e = omega arith

pub get_past : {X : Type 0} (xs : List X) (y : X) (ys : List X) (i : ℕ) → i ≡ length xs → slice_get (xs ++ y ∷ ys) i ≡ Some y
get_past [] y ys i e = rw e
get_past (x ∷ xs) y ys i e = rw e (get_past xs y ys (length xs) refl)

module _ {K : Type 0} (plan : Plan K) (gives : RecordValue → Option K) where
  -- there are as many records that give an admitted key as admitted keys
  pub entries_count : (rs : List RecordValue) → count_by (λ r. is_entry plan (gives r)) rs ≡ count_by plan.admits (keys_of gives rs)
  entries_count [] = refl
  entries_count (r ∷ rs) = count_first (λ r. is_entry plan (gives r)) r rs ∙ one (gives r) (entries_count rs)
    where
      one : (x : Option K) → count_by (λ r. is_entry plan (gives r)) rs ≡ count_by plan.admits (keys_of gives rs) →
          cond (is_entry plan x) 1 0 + count_by (λ r. is_entry plan (gives r)) rs ≡ count_by plan.admits (cons_option x (keys_of gives rs))
      one (Some x) e = ap (λ n. cond (plan.admits x) 1 0 + n) e ∙ sym (count_first plan.admits x (keys_of gives rs))
      one None e = omega arith

  pub keys_absent : (rs : List RecordValue) (r : RecordValue) → gives r ≡ None → keys_of gives (rs ++ r ∷ []) ≡ keys_of gives rs
  keys_absent rs r h = filter_map-append gives rs (r ∷ []) ∙ ap (λ x. keys_of gives rs ++ cons_option x []) h ∙ append-nil (keys_of gives rs)

  pub keys_some : (rs : List RecordValue) (r : RecordValue) (x : K) → gives r ≡ Some x → keys_of gives (rs ++ r ∷ []) ≡ keys_of gives rs ++ x ∷ []
  keys_some rs r x h = filter_map-append gives rs (r ∷ []) ∙ ap (λ x. keys_of gives rs ++ cons_option x []) h

  -- with one record more
  module _ (rs : List RecordValue) (r : RecordValue) where
    absent_count : count_by (λ r. is_none (gives r)) (rs ++ r ∷ []) ≡ count_by (λ r. is_none (gives r)) rs + cond (is_none (gives r)) 1 0
    absent_count = count_more (λ r. is_none (gives r)) rs r

    pub fed_absent : gives r ≡ None → (fed : Fed) → fed ≡ fed_of plan gives rs →
        record { read = fed.read + 1; absent = fed.absent + 1; passed_over = fed.passed_over; taken = fed.taken } ≡ fed_of plan gives (rs ++ r ∷ [])
    fed_absent h fed e =
        let a : count_by (λ r. is_none (gives r)) rs + 1 ≡ count_by (λ r. is_none (gives r)) (rs ++ r ∷ []) =
        ap (λ x. count_by (λ r. is_none (gives r)) rs + cond (is_none x) 1 0) (sym h) ∙ sym absent_count in
        let k = sym (keys_absent rs r h) in
        ap (λ (f : Fed). record { read = f.read + 1; absent = f.absent + 1; passed_over = f.passed_over; taken = f.taken }) e
        ∙ λ j. record {
          read = sym (length-append rs (r ∷ [])) j;
          absent = a j;
          passed_over = count_by (λ x. not (plan.admits x)) (k j);
          taken = count_by plan.admits (k j);
        }

    module _ (x : K) (h : gives r ≡ Some x) where
      none_more : count_by (λ r. is_none (gives r)) rs ≡ count_by (λ r. is_none (gives r)) (rs ++ r ∷ [])
      none_more =
          let z : count_by (λ r. is_none (gives r)) rs + 0 ≡ count_by (λ r. is_none (gives r)) rs + cond (is_none (gives r)) 1 0 =
          ap (λ x. count_by (λ r. is_none (gives r)) rs + cond (is_none x) 1 0) (sym h) in
          omega (arith, absent_count)

      key_count : (p : K → Bool) (b : Bool) → p x ≡ b → count_by p (keys_of gives rs) + cond b 1 0 ≡ count_by p (keys_of gives (rs ++ r ∷ []))
      key_count p b q =
          ap (λ b. count_by p (keys_of gives rs) + cond b 1 0) (sym q) ∙ sym (count_more p (keys_of gives rs) x) ∙ ap (count_by p) (sym (keys_some rs r x h))

      pub fed_passed_over : plan.admits x ≡ false → (fed : Fed) → fed ≡ fed_of plan gives rs →
          record { read = fed.read + 1; absent = fed.absent; passed_over = fed.passed_over + 1; taken = fed.taken } ≡ fed_of plan gives (rs ++ r ∷ [])
      fed_passed_over q fed e =
          let p : count_by (λ x. not (plan.admits x)) (keys_of gives rs) + 1 ≡ count_by (λ x. not (plan.admits x)) (keys_of gives (rs ++ r ∷ [])) =
          key_count (λ x. not (plan.admits x)) true (ap not q) in
          let t : count_by plan.admits (keys_of gives rs) ≡ count_by plan.admits (keys_of gives (rs ++ r ∷ [])) =
          omega (arith, key_count plan.admits false q) in
          ap (λ (f : Fed). record { read = f.read + 1; absent = f.absent; passed_over = f.passed_over + 1; taken = f.taken }) e
          ∙ λ j. record { read = sym (length-append rs (r ∷ [])) j; absent = none_more j; passed_over = p j; taken = t j }

      pub fed_taken : plan.admits x ≡ true → (fed : Fed) → fed ≡ fed_of plan gives rs →
          record { read = fed.read + 1; absent = fed.absent; passed_over = fed.passed_over; taken = fed.taken + 1 } ≡ fed_of plan gives (rs ++ r ∷ [])
      fed_taken q fed e =
          let p : count_by (λ x. not (plan.admits x)) (keys_of gives rs) ≡ count_by (λ x. not (plan.admits x)) (keys_of gives (rs ++ r ∷ [])) =
          omega (arith, key_count (λ x. not (plan.admits x)) false (ap not q)) in
          let t : count_by plan.admits (keys_of gives rs) + 1 ≡ count_by plan.admits (keys_of gives (rs ++ r ∷ [])) = key_count plan.admits true q in
          ap (λ (f : Fed). record { read = f.read + 1; absent = f.absent; passed_over = f.passed_over; taken = f.taken + 1 }) e
          ∙ λ j. record { read = sym (length-append rs (r ∷ [])) j; absent = none_more j; passed_over = p j; taken = t j }

      -- and the admitted keys
      pub entries_passed_over : plan.admits x ≡ false → filter plan.admits (keys_of gives (rs ++ r ∷ [])) ≡ filter plan.admits (keys_of gives rs)
      entries_passed_over q =
          ap (filter plan.admits) (keys_some rs r x h) ∙ filter-append plan.admits (keys_of gives rs) (x ∷ [])
          ∙ ap (λ b. filter plan.admits (keys_of gives rs) ++ cond b (x ∷ []) []) q ∙ append-nil (filter plan.admits (keys_of gives rs))

      pub entries_taken : plan.admits x ≡ true → filter plan.admits (keys_of gives (rs ++ r ∷ [])) ≡ filter plan.admits (keys_of gives rs) ++ x ∷ []
      entries_taken q =
          ap (filter plan.admits) (keys_some rs r x h) ∙ filter-append plan.admits (keys_of gives rs) (x ∷ [])
          ∙ ap (λ b. filter plan.admits (keys_of gives rs) ++ cond b (x ∷ []) []) q
