-- Feeding, item by item, makes what specs/ says of the whole log. `content_from` and `answer_from` say what is left to be
-- done from some item on, so a turn of the loop is one step of theirs. Idea: the records read so far are a beginning of
-- the log's, and what was found of them is what specs/ says of that beginning; so it is of all records at the end and at
-- a fault, and at the record that finds the summary full.
use Rattle.std.proofs.Common.{OnOk, Fits, w8, get_or, ◌≡◌, ℕ, ◌+◌, ◌≤◌, Bool, true, false, cond, nat_lt, List, [], ◌∷◌, ◌++◌, length, take, slice_get, Some, None, Ok, Err, Option, Result, refl, sym, ap, ◌∙◌, append_assoc, arith}
use Rattle.std.specs.List.{filter}
use Rattle.std.proofs.lemmas.List.{append-nil, take_all, take_at}
use Rattle.std.proofs.lemmas.List.Sums.{length-filter}
use Rattle.std.proofs.lemmas.List.Elements.{filter-append, filter_map-append}
use Rattle.std.proofs.lemmas.Bool.{ltb-true, ltb-false}
use Rattle.std.proofs.lemmas.Option.{slice_get_past}
use Rattle.keys.specs.declared.refusal.Refusal.{Refusal}
use Rattle.keys.specs.declared.refusal.Refusal.TheVariants.{Full}
use Rattle.records.specs.Values.{RecordValue}
use Rattle.records.specs.Writing.{encode}
use Rattle.records.specs.Logs.{LogFault, Log, encode_all, EndsAs, log_of}
use Rattle.records.specs.Items.{Item, items_from, items_of}
use Rattle.records.proofs.Items.{slice_laws}
use Rattle.model.specs.Contents.{Content}
use Rattle.model.specs.Plans.{Plan, after_from, most_entries}
use Rattle.model.proofs.Runs.{after-append}
use Rattle.summaries.specs.Calls.{CountsEntries}
use Rattle.feeding.specs.declared.fault.Cause.TheVariants.{Summary}
use Rattle.feeding.specs.declared.fault.FeedFault.{FeedFault}
use Rattle.feeding.specs.declared.feed.Fed.{Fed}
use Rattle.feeding.specs.Faults.{reader_fault}
use Rattle.feeding.specs.Steps.{step_content, step_fed, step_answer}
use Rattle.feeding.specs.Feeding.{places_from, keys_of, room, is_entry, fed_of, added, full_at, answer_by, fed_answer}
use Rattle.feeding.proofs.Beginnings.{encoded_more, places_append, places_length, get_past, entries_count, fed_absent, fed_passed_over, fed_taken, keys_absent, entries_passed_over, entries_taken}

-- by whether a record ends feeding
abbrev by_step : {B : Type 0} → Result (Unit {0}) Refusal → B → (Refusal → B) → B
by_step (Ok u) goes_on ended = goes_on
by_step (Err r) goes_on ended = ended r

-- what is left to be done
module _ {K : Type 0} (less : K → K → Bool) (plan : Plan K) (gives : RecordValue → Option K) where
  -- the content after these items
  abbrev pub content_from : Content K → List Item → Content K
  content_from now [] = now
  content_from now (Err f ∷ items) = now
  content_from now (Ok p ∷ items) =
      by_step (step_answer less plan now (gives p.1)) (content_from (step_content plan now (gives p.1)) items)
      (λ r. step_content plan now (gives p.1))

  -- the answer after these items, where this was found before them
  abbrev pub answer_from : Content K → Fed → List Item → Result Fed FeedFault
  answer_from now fed [] = Ok fed
  answer_from now fed (Err f ∷ items) = Err (reader_fault f.fault f.index f.offset)
  answer_from now fed (Ok p ∷ items) =
      by_step (step_answer less plan now (gives p.1))
      (answer_from (step_content plan now (gives p.1)) (step_fed less plan now (gives p.1) fed) items)
      (λ r. Err (record { cause = Summary r; index = fed.read; offset = p.0 }))

-- the admitted keys of some records
abbrev entries : {K : Type 0} → Plan K → (RecordValue → Option K) → List RecordValue → List K
entries plan gives rs = filter plan.admits (keys_of gives rs)

-- a summary had this plan and this content before the log; it now has the content `now`, `fed` was found so far, and these
-- items are left
record SoFar {K : Type 0} (plan : Plan K) (C : Content K) (gives : RecordValue → Option K) (log : Log) (now : Content K) (fed : Fed) (items : List Item) : Type 0 where
  read : List RecordValue
  rest : List RecordValue
  records : log.records ≡ read ++ rest
  left : items ≡ items_from (length (encode_all read)) rest log.fault
  found : fed ≡ fed_of plan gives read
  content : now ≡ after_from plan C (entries plan gives read)
  number : now.n ≡ C.n + fed.taken
  fits : fed.taken ≤ room C

-- the answer, and the content that is left
record Done {K : Type 0} (plan : Plan K) (C : Content K) (gives : RecordValue → Option K) (log : Log) (now : Content K) (result : Result Fed FeedFault) : Type 0 where
  content : now ≡ after_from plan C (added plan C gives log.records)
  answer : result ≡ fed_answer plan C gives log

-- what is known of records by the items that they make
record Front (n : ℕ) (rs : List RecordValue) (f : Option LogFault) (offset : ℕ) (r : RecordValue) (others : List Item) : Type 0 where
  rest : List RecordValue
  is : rs ≡ r ∷ rest
  at : offset ≡ n
  left : others ≡ items_from (n + length (encode r)) rest f

front : (n : ℕ) (rs : List RecordValue) (f : Option LogFault) (offset : ℕ) (r : RecordValue) (others : List Item) →
    items_from n rs f ≡ Ok (offset, r) ∷ others → Front n rs f offset r others
front n [] None offset r others e = let z : ◌≡◌ {A = ℕ} 0 1 = cc in absurd (omega arith)
front n [] (Some f) offset r others e = let z : ◌≡◌ {A = ℕ} 0 1 = cc in absurd (omega arith)
front n (q ∷ rs) f offset r others e =
    let p : ◌≡◌ {A = ℕ × RecordValue} (n, q) (offset, r) = cc in
    let same : q ≡ r = ap (λ (p : ℕ × RecordValue). p.1) p in
    let after : items_from (n + length (encode q)) rs f ≡ others = cc in
    record {
      rest = rs;
      is = ap (λ x. x ∷ rs) same;
      at = sym (ap (λ (p : ℕ × RecordValue). p.0) p);
      left = sym after ∙ ap (λ x. items_from (n + length (encode x)) rs f) same;
    }

ended : (n : ℕ) (rs : List RecordValue) (f : Option LogFault) → items_from n rs f ≡ [] → (rs ≡ []) × (f ≡ None)
ended n [] None e = (refl, refl)
ended n [] (Some f) e = (cc, cc)
ended n (q ∷ rs) f e = (cc, cc)

faulted : (n : ℕ) (rs : List RecordValue) (f : Option LogFault) (e : LogFault) (others : List Item) → items_from n rs f ≡ Err e ∷ others → (rs ≡ []) × (f ≡ Some e)
faulted n [] None e others h = (cc, cc)
faulted n [] (Some f) e others h = (refl, cc)
faulted n (q ∷ rs) f e others h = (cc, cc)

module _ {K : Type 0} (plan : Plan K) (C : Content K) (gives : RecordValue → Option K) (log : Log) where
  begun : (items : List Item) → items ≡ items_of log → SoFar plan C gives log C (record { read = 0; absent = 0; passed_over = 0; taken = 0 }) items
  begun items e = record {
    read = [];
    rest = log.records;
    records = refl;
    left = e;
    found = refl;
    content = refl;
    number = omega arith;
    fits = omega arith;
  }

  module _ (now : Content K) (fed : Fed) (items : List Item) (s : SoFar plan C gives log now fed items) where
    -- as many entries as keys were taken
    many_entries : length (entries plan gives s.read) ≡ fed.taken
    many_entries = length-filter plan.admits (keys_of gives s.read) ∙ sym (ap (λ (f : Fed). f.taken) s.found)

    many_places : length (places_from (λ r. is_entry plan (gives r)) 0 s.read) ≡ fed.taken
    many_places = places_length (λ r. is_entry plan (gives r)) 0 s.read ∙ entries_count plan gives s.read ∙ sym (ap (λ (f : Fed). f.taken) s.found)

    -- all records were read
    module _ (all : log.records ≡ s.read) where
      content_after : now ≡ after_from plan C (added plan C gives log.records)
      content_after =
          let e : added plan C gives log.records ≡ entries plan gives s.read =
          ap (added plan C gives) all ∙ take_all (room C) (entries plan gives s.read) (omega (arith, many_entries, s.fits)) in
          s.content ∙ ap (after_from plan C) (sym e)

      never_full : full_at plan C gives log.records ≡ None
      never_full =
          ap (full_at plan C gives) all ∙ slice_get_past (places_from (λ r. is_entry plan (gives r)) 0 s.read) (room C) (omega (arith, many_places, s.fits))

    all_read : s.rest ≡ [] → log.records ≡ s.read
    all_read q = s.records ∙ ap (λ rs. s.read ++ rs) q ∙ append-nil s.read

    at_end : items ≡ [] → Done plan C gives log now (Ok fed)
    at_end none =
        let q = ended (length (encode_all s.read)) s.rest log.fault (sym s.left ∙ none) in
        let all = all_read q.0 in
        record {
          content = content_after all;
          answer =
              ap Ok s.found ∙ ap (λ rs. Ok (fed_of plan gives rs)) (sym all)
              ∙ ap (λ f. answer_by plan C gives None f log.records) (sym q.1)
              ∙ ap (λ i. answer_by plan C gives i log.fault log.records) (sym (never_full all));
        }

    at_fault : (f : LogFault) (others : List Item) → items ≡ Err f ∷ others → Done plan C gives log now (Err (reader_fault f.fault f.index f.offset))
    at_fault f others e =
        let q = faulted (length (encode_all s.read)) s.rest log.fault f others (sym s.left ∙ e) in
        let all = all_read q.0 in
        record {
          content = content_after all;
          answer =
              ap (λ f. answer_by plan C gives None f log.records) (sym q.1)
              ∙ ap (λ i. answer_by plan C gives i log.fault log.records) (sym (never_full all));
        }

    -- at a record
    module _ (offset : ℕ) (r : RecordValue) (others : List Item) (e : items ≡ Ok (offset, r) ∷ others) where
      at_front : Front (length (encode_all s.read)) s.rest log.fault offset r others
      at_front = front (length (encode_all s.read)) s.rest log.fault offset r others (sym s.left ∙ e)

      turn : (after : Content K) (more : Fed) → more ≡ fed_of plan gives (s.read ++ r ∷ []) → after ≡ after_from plan C (entries plan gives (s.read ++ r ∷ [])) →
          after.n ≡ C.n + more.taken → more.taken ≤ room C → SoFar plan C gives log after more others
      turn after more found content number fits =
          record {
            read = s.read ++ r ∷ [];
            rest = at_front.rest;
            records = s.records ∙ ap (λ rs. s.read ++ rs) at_front.is ∙ sym (append_assoc s.read (r ∷ []) at_front.rest);
            left = at_front.left ∙ ap (λ n. items_from n at_front.rest log.fault) (sym (encoded_more s.read r));
            found = found;
            content = content;
            number = number;
            fits = fits;
          }

      absent : gives r ≡ None → SoFar plan C gives log now (record { read = fed.read + 1; absent = fed.absent + 1; passed_over = fed.passed_over; taken = fed.taken }) others
      absent h =
          turn now _ (fed_absent plan gives s.read r h fed s.found)
          (s.content ∙ ap (λ ks. after_from plan C (filter plan.admits ks)) (sym (keys_absent plan gives s.read r h))) s.number s.fits

      module _ (x : K) (h : gives r ≡ Some x) where
        passed_over : plan.admits x ≡ false →
            SoFar plan C gives log now (record { read = fed.read + 1; absent = fed.absent; passed_over = fed.passed_over + 1; taken = fed.taken }) others
        passed_over q =
            turn now _ (fed_passed_over plan gives s.read r x h q fed s.found)
            (s.content ∙ ap (after_from plan C) (sym (entries_passed_over plan gives s.read r x h q))) s.number s.fits

        taken : plan.admits x ≡ true → now.n + 1 ≤ most_entries → (plan.rule now x).n ≡ now.n + 1 →
            SoFar plan C gives log (plan.rule now x) (record { read = fed.read + 1; absent = fed.absent; passed_over = fed.passed_over; taken = fed.taken + 1 }) others
        taken q room_left grows =
            turn (plan.rule now x) _ (fed_taken plan gives s.read r x h q fed s.found)
            (ap (λ D. plan.rule D x) s.content ∙ sym (after-append plan C (entries plan gives s.read) (x ∷ []))
            ∙ ap (after_from plan C) (sym (entries_taken plan gives s.read r x h q)))
            (omega (arith, s.number)) (omega (arith, s.number))

        full : plan.admits x ≡ true → most_entries ≤ now.n → Done plan C gives log now (Err (record { cause = Summary Full; index = fed.read; offset = offset }))
        full q filled =
            let at = at_front in
            let all : log.records ≡ s.read ++ r ∷ at.rest = s.records ∙ ap (λ rs. s.read ++ rs) at.is in
            let same : fed.taken ≡ room C = omega (arith, s.number, s.fits) in
            let keys : entries plan gives (s.read ++ r ∷ at.rest) ≡ entries plan gives s.read ++ entries plan gives (r ∷ at.rest) =
            ap (filter plan.admits) (filter_map-append gives s.read (r ∷ at.rest)) ∙ filter-append plan.admits (keys_of gives s.read) (keys_of gives (r ∷ at.rest)) in
            let taken : added plan C gives log.records ≡ entries plan gives s.read =
            ap (added plan C gives) all ∙ ap (take (room C)) keys
            ∙ take_at (entries plan gives s.read) (entries plan gives (r ∷ at.rest)) (room C) (omega (arith, many_entries)) in
            let here : is_entry plan (gives r) ≡ true = ap (is_entry plan) h ∙ q in
            let place : ℕ = 0 + length s.read in
            let found : full_at plan C gives log.records ≡ Some (length s.read) =
            ap (full_at plan C gives) all
            ∙ ap (λ l. slice_get l (room C)) (places_append (λ r. is_entry plan (gives r)) 0 s.read (r ∷ at.rest)
            ∙ ap (λ b. places_from (λ r. is_entry plan (gives r)) 0 s.read ++ (cond b (place ∷ []) [] ++ places_from (λ r. is_entry plan (gives r)) (place + 1) at.rest)) here)
            ∙ get_past (places_from (λ r. is_entry plan (gives r)) 0 s.read) place _ (room C) (omega (arith, many_places))
            ∙ ap Some (omega arith) in
            let index : fed.read ≡ length s.read = ap (λ (f : Fed). f.read) s.found in
            let before : offset ≡ length (encode_all (take (length s.read) log.records)) =
            at.at ∙ ap (λ rs. length (encode_all rs)) (sym (ap (take (length s.read)) all ∙ take_at s.read (r ∷ at.rest) (length s.read) refl)) in
            record {
              content = s.content ∙ ap (after_from plan C) (sym taken);
              answer =
                  (λ j. Err (record { cause = Summary Full; index = index j; offset = before j }))
                  ∙ ap (λ i. answer_by plan C gives i log.fault log.records) (sym found);
            }

-- item by item the same comes out as specs/ says
module _ {K : Type 0} (less : K → K → Bool) (plan : Plan K) (counts : CountsEntries plan) (C : Content K) (gives : RecordValue → Option K) (log : Log) where
  -- at a record, where it is so of the items after it
  module _ (p : ℕ × RecordValue) (items : List Item) (now : Content K) (fed : Fed) (s : SoFar plan C gives log now fed (Ok p ∷ items))
      (later : (after : Content K) (more : Fed) → SoFar plan C gives log after more items →
      Done plan C gives log (content_from less plan gives after items) (answer_from less plan gives after more items)) where
    at_key : (x : K) → gives p.1 ≡ Some x → (admitted some_room : Bool) → plan.admits x ≡ admitted → nat_lt now.n most_entries ≡ some_room →
        Done plan C gives log (content_from less plan gives now (Ok p ∷ items)) (answer_from less plan gives now fed (Ok p ∷ items))
    at_key x h true true q l =
        rw (h, q, l) (later (plan.rule now x) _ (taken plan C gives log now fed (Ok p ∷ items) s p.0 p.1 items refl x h q (omega (arith, ltb-true now.n most_entries l)) (counts.n_grows now x)))
    at_key x h true false q l =
        rw (h, q, l) (full plan C gives log now fed (Ok p ∷ items) s p.0 p.1 items refl x h q (omega (arith, ltb-false now.n most_entries l)))
    at_key x h false some_room q l =
        rw (h, q) (later now _ (passed_over plan C gives log now fed (Ok p ∷ items) s p.0 p.1 items refl x h q))

    at_record : (o : Option K) → gives p.1 ≡ o →
        Done plan C gives log (content_from less plan gives now (Ok p ∷ items)) (answer_from less plan gives now fed (Ok p ∷ items))
    at_record None h = rw h (later now _ (absent plan C gives log now fed (Ok p ∷ items) s p.0 p.1 items refl h))
    at_record (Some x) h = at_key x h (plan.admits x) (nat_lt now.n most_entries) refl refl

  by_items : (items : List Item) (now : Content K) (fed : Fed) → SoFar plan C gives log now fed items →
      Done plan C gives log (content_from less plan gives now items) (answer_from less plan gives now fed items)
  by_items [] now fed s = at_end plan C gives log now fed [] s refl
  by_items (Err f ∷ items) now fed s = at_fault plan C gives log now fed (Err f ∷ items) s f items refl
  by_items (Ok p ∷ items) now fed s = at_record p items now fed s (λ after more t. by_items items after more t) (gives p.1) refl

  pub all_content : (items : List Item) → items ≡ items_of log → content_from less plan gives C items ≡ after_from plan C (added plan C gives log.records)
  all_content items e = (by_items items C _ (begun plan C gives log items e)).content

  pub all_answer : (items : List Item) → items ≡ items_of log →
      answer_from less plan gives C (record { read = 0; absent = 0; passed_over = 0; taken = 0 }) items ≡ fed_answer plan C gives log
  all_answer items e = (by_items items C _ (begun plan C gives log items e)).answer

-- an answer that is no fault leaves no bytes after the records
no_fault : {K : Type 0} (plan : Plan K) (C : Content K) (gives : RecordValue → Option K) (i : Option ℕ) (f : Option LogFault) (rs : List RecordValue) (fed : Fed) →
    Ok fed ≡ answer_by plan C gives i f rs → f ≡ None
no_fault plan C gives (Some i) f rs fed e = cc
no_fault plan C gives None (Some f) rs fed e = cc
no_fault plan C gives None None rs fed e = refl

nothing_left : (rs : List RecordValue) (rest : List ℕ) (f : Option LogFault) → f ≡ None → EndsAs 0 0 rs rest f → rest ≡ []
nothing_left rs rest None q e = e
nothing_left rs rest (Some f) q e = cc

pub whole_log : {K : Type 0} (plan : Plan K) (C : Content K) (gives : RecordValue → Option K) (bs : List ℕ) → ((i : ℕ) → Fits w8 (get_or bs i 0)) →
    OnOk (fed_answer plan C gives (log_of bs)) (bs ≡ encode_all (log_of bs).records)
whole_log plan C gives bs fit = whole (fed_answer plan C gives (log_of bs)) refl
  where
    whole : (a : Result Fed FeedFault) → a ≡ fed_answer plan C gives (log_of bs) → OnOk a (bs ≡ encode_all (log_of bs).records)
    whole (Ok fed) e =
        let log = log_of bs in
        let laws = slice_laws bs fit in
        let none = no_fault plan C gives (full_at plan C gives log.records) log.fault log.records fed e in
        laws.splits.joined ∙ ap (λ rest. encode_all log.records ++ rest) (nothing_left log.records laws.splits.rest log.fault none laws.splits.end)
        ∙ append-nil (encode_all log.records)
    whole (Err f) e = tt
