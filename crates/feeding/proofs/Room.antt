-- Which record finds the summary full, by how many admitted keys come before it. Idea: of the records that give an admitted
-- key, the one behind m others has m of them before it.
use Rattle.std.proofs.Common.{◌≡◌, ℕ, zero, suc, ◌+◌, ◌≤◌, Bool, true, false, cond, nat_lt, List, [], ◌∷◌, ◌++◌, length, take, slice_get, Some, None, Ok, Err, Option, Result, refl, sym, ap, ◌∙◌, subst, arith}
use Rattle.std.specs.List.{count_by}
use Rattle.std.proofs.lemmas.List.{take_all}
use Rattle.std.proofs.lemmas.List.Sums.{length-filter}
use Rattle.keys.proofs.Lists.{past_end}
use Rattle.keys.specs.declared.refusal.Refusal.TheVariants.{NotAdmitted, Full}
use Rattle.records.specs.Values.{RecordValue}
use Rattle.records.specs.Logs.{LogFault, Log}
use Rattle.model.specs.Contents.{Content}
use Rattle.model.specs.Plans.{Plan, most_entries}
use Rattle.summaries.specs.declared.answers.Taken.{Taken}
use Rattle.summaries.specs.Calls.{done, taken_content, taken_answer, CountsEntries}
use Rattle.feeding.specs.declared.fault.FeedFault.{FeedFault}
use Rattle.feeding.specs.declared.feed.Fed.{Fed}
use Rattle.feeding.specs.Feeding.{places_from, keys_of, room, is_entry, admitted_keys, added, full_at, answer_by, fed_answer, FoundFull, RoomLaw}
use Rattle.feeding.proofs.Beginnings.{count_first, places_length, entries_count}

-- the item whose place is the one after m others: m items before it pass the test, and it does
record AtPlace {X : Type 0} (p : X → Bool) (place m i : ℕ) (xs : List X) : Type 0 where
  j : ℕ
  is : i ≡ place + j
  x : X
  there : slice_get xs j ≡ Some x
  passes : p x ≡ true
  before : count_by p (take j xs) ≡ m

at_place : {X : Type 0} (p : X → Bool) (place m i : ℕ) (xs : List X) → slice_get (places_from p place xs) m ≡ Some i → AtPlace p place m i xs
at_place p place m i [] e = absurd (cc)
at_place p place m i (x ∷ xs) e = by (p x) refl m refl e (λ n. at_place p (place + 1) n i xs)
  where
    later : (b : Bool) → p x ≡ b → (n : ℕ) → cond b 1 0 + n ≡ m → AtPlace p (place + 1) n i xs → AtPlace p place m i (x ∷ xs)
    later b q n h a = record {
      j = suc a.j;
      is = omega (arith, a.is);
      x = a.x;
      there = a.there;
      passes = a.passes;
      before = count_first p x (take a.j xs) ∙ ap (λ (c : Bool). cond c 1 0 + count_by p (take a.j xs)) q ∙ ap (λ n. cond b 1 0 + n) a.before ∙ h;
    }

    by : (b : Bool) → p x ≡ b → (n : ℕ) → n ≡ m → slice_get (cond b (place ∷ []) [] ++ places_from p (place + 1) xs) n ≡ Some i →
        ((n : ℕ) → slice_get (places_from p (place + 1) xs) n ≡ Some i → AtPlace p (place + 1) n i xs) → AtPlace p place m i (x ∷ xs)
    by true q zero h e others = let z : place ≡ i = cc in record { j = 0; is = omega (arith, z); x = x; there = refl; passes = q; before = h }
    by true q (suc n) h e others = later true q n (omega (arith, h)) (others n e)
    by false q n h e others = later false q n (omega (arith, h)) (others n e)

module _ {K : Type 0} (plan : Plan K) (gives : RecordValue → Option K) where
  -- as many admitted keys as records that give one
  many_keys : (rs : List RecordValue) → length (admitted_keys plan gives rs) ≡ count_by (λ r. is_entry plan (gives r)) rs
  many_keys rs = length-filter plan.admits (keys_of gives rs) ∙ sym (entries_count plan gives rs)

  module _ (C : Content K) where
    found_full : (rs : List RecordValue) (i : ℕ) → full_at plan C gives rs ≡ Some i → FoundFull plan C gives rs i
    found_full rs i e =
        let a = at_place (λ r. is_entry plan (gives r)) 0 (room C) i rs e in
        let same : a.j ≡ i = omega (arith, a.is) in
        let before : length (admitted_keys plan gives (take i rs)) ≡ room C = many_keys (take i rs) ∙ ap (λ j. count_by (λ r. is_entry plan (gives r)) (take j rs)) (sym same) ∙ a.before in
        let there : slice_get rs i ≡ Some a.x = ap (slice_get rs) (sym same) ∙ a.there in
        by a.x there before (gives a.x) refl a.passes
      where
        by : (r : RecordValue) → slice_get rs i ≡ Some r → length (admitted_keys plan gives (take i rs)) ≡ room C →
            (o : Option K) → gives r ≡ o → is_entry plan o ≡ true → FoundFull plan C gives rs i
        by r there before None q h = absurd (cc)
        by r there before (Some x) q h = record { filled = before; finder = r; there = there; key = x; given = q; admitted = h }

    pub all_fit : (rs : List RecordValue) → full_at plan C gives rs ≡ None → length (admitted_keys plan gives rs) ≤ room C
    all_fit rs e =
        let places = places_from (λ r. is_entry plan (gives r)) 0 rs in
        omega (arith, past_end places (room C) e, many_keys rs, places_length (λ r. is_entry plan (gives r)) 0 rs)

    -- so all of them are added
    pub adds_all : (rs : List RecordValue) → full_at plan C gives rs ≡ None → added plan C gives rs ≡ admitted_keys plan gives rs
    adds_all rs e = take_all (room C) (admitted_keys plan gives rs) (all_fit rs e)

    pub room_law : (log : Log) (a : Result Fed FeedFault) → a ≡ fed_answer plan C gives log → RoomLaw plan C gives log.records a
    unfolding RoomLaw
    room_law log a e = subst (RoomLaw plan C gives log.records) (sym e) (by (full_at plan C gives log.records) refl log.fault)
      where
        by : (o : Option ℕ) → full_at plan C gives log.records ≡ o → (f : Option LogFault) → RoomLaw plan C gives log.records (answer_by plan C gives o f log.records)
        by (Some i) q f = found_full log.records i q
        by None q (Some f) = all_fit log.records q
        by None q None = all_fit log.records q

-- a key that is taken is one entry more
pub taken_grows : {K : Type 0} (less : K → K → Bool) (plan : Plan K) → CountsEntries plan → (C : Content K) (x : K) (t : Taken) →
    Ok t ≡ taken_answer less plan C x → (taken_content plan C x).n ≡ C.n + 1
taken_grows less plan counts C x t e = by (plan.admits x) (nat_lt C.n most_entries) e
  where
    by : (a b : Bool) → Ok t ≡ cond a (cond b (Ok (done less plan C x)) (Err Full)) (Err NotAdmitted) → (cond a (cond b (plan.rule C x) C) C).n ≡ C.n + 1
    by true true e = counts.n_grows C x
    by true false e = absurd (cc)
    by false b e = absurd (cc)
