-- A log, and that log without one record, fed to alike fresh summaries leave one content, or neighbours that hand over. Idea: a log fed to
-- its end finds room for all its admitted keys, so without one record it adds the same keys, or all of them but one.
use Rattle.std.proofs.Common.{◌≡◌, ℕ, zero, suc, ◌≤◌, Bool, true, false, cond, ◌⊎◌, inl, inr, List, [], ◌∷◌, ◌++◌, length, Some, None, IsOk, Option, refl, sym, ap, ◌∙◌, subst, append_assoc, true≢false, arith}
use Rattle.std.specs.List.{filter, cons_option}
use Rattle.keys.specs.Orders.{TotalOrder}
use Rattle.std.proofs.lemmas.List.{append-nil, take_all}
use Rattle.std.proofs.lemmas.List.Elements.{filter-append, filter_map-append, filter_passes, recursion_from_All}
use Rattle.std.proofs.lemmas.Bool.{and_parts, and_from}
use Rattle.records.specs.Values.{RecordValue}
use Rattle.records.specs.Writing.{is_record, encode}
use Rattle.records.specs.Laws.{Bytes}
use Rattle.records.specs.Logs.{LogFault, Log, log_of, all_records, encode_all}
use Rattle.records.proofs.Logging.{log_laws}
use Rattle.model.specs.Contents.{Content}
use Rattle.model.specs.Plans.{Plan, after, Entries}
use Rattle.model.proofs.Handing.{runs_hand_over}
use Rattle.model.specs.Laws.{Lawful}
use Rattle.feeding.specs.Feeding.{keys_of, room, full_at, answer_by}
use Rattle.feeding.proofs.Room.{all_fit}
use Rattle.work.specs.Runs.{Near}
use Rattle.work.specs.ShorterLogs.{fed_fresh, FedToEnd, NeighboursByLogs}

-- records of which one is left out can still be written
all_but_one : (rs : List RecordValue) (r : RecordValue) (others : List RecordValue) → all_records (rs ++ r ∷ others) ≡ true → all_records (rs ++ others) ≡ true
all_but_one [] r others h = (and_parts (is_record r) (all_records others) h).1
all_but_one (q ∷ rs) r others h =
    let v = and_parts (is_record q) (all_records (rs ++ r ∷ others)) h in
    and_from (is_record q) (all_records (rs ++ others)) v.0 (all_but_one rs r others v.1)

-- bytes without a part of them are bytes
bytes_front : (bs rest : List ℕ) → Bytes (bs ++ rest) → Bytes bs
bytes_front [] rest h i = omega arith
bytes_front (b ∷ bs) rest h zero = h zero
bytes_front (b ∷ bs) rest h (suc i) = bytes_front bs rest (λ j. h (suc j)) i

bytes_back : (bs rest : List ℕ) → Bytes (bs ++ rest) → Bytes rest
bytes_back [] rest h = h
bytes_back (b ∷ bs) rest h = bytes_back bs rest (λ j. h (suc j))

bytes_skip : (bs part rest : List ℕ) → Bytes (bs ++ (part ++ rest)) → Bytes (bs ++ rest)
bytes_skip [] part rest h i = bytes_back part rest h i
bytes_skip (b ∷ bs) part rest h zero = h zero
bytes_skip (b ∷ bs) part rest h (suc i) = bytes_skip bs part rest (λ j. h (suc j)) i

encoded_append : (rs others : List RecordValue) → encode_all (rs ++ others) ≡ encode_all rs ++ encode_all others
encoded_append [] others = refl
encoded_append (r ∷ rs) others = ap (λ bs. encode r ++ bs) (encoded_append rs others) ∙ sym (append_assoc (encode r) (encode_all rs) (encode_all others))

-- so the bytes of a log's records but one are bytes
shorter_bytes : (log : List ℕ) → Bytes log → (rs : List RecordValue) (r : RecordValue) (others : List RecordValue) →
    (log_of log).records ≡ rs ++ r ∷ others → Bytes (encode_all (rs ++ others))
shorter_bytes log bytes rs r others parts =
    let s = (log_laws log bytes).splits in
    let all : Bytes (encode_all (log_of log).records) = bytes_front (encode_all (log_of log).records) s.rest (subst Bytes s.joined bytes) in
    let split : encode_all (log_of log).records ≡ encode_all rs ++ (encode r ++ encode_all others) = ap encode_all parts ∙ encoded_append rs (r ∷ others) in
    subst Bytes (sym (encoded_append rs others)) (bytes_skip (encode_all rs) (encode r) (encode_all others) (subst Bytes split all))

-- so a log without one record holds the others
shorter_records : (log shorter : List ℕ) → Bytes log → (rs : List RecordValue) (r : RecordValue) (others : List RecordValue) →
    (log_of log).records ≡ rs ++ r ∷ others → shorter ≡ encode_all (rs ++ others) → (log_of shorter).records ≡ rs ++ others
shorter_records log shorter bytes rs r others parts is =
    let fewer : Bytes shorter = subst Bytes (sym is) (shorter_bytes log bytes rs r others parts) in
    let whole : all_records (rs ++ r ∷ others) ≡ true = ap all_records (sym parts) ∙ (log_laws log bytes).splits.records in
    sym (ap (λ (l : Log). l.records)
    ((log_laws shorter fewer).only (record { records = rs ++ others; fault = None })
    (record { records = all_but_one rs r others whole; rest = []; joined = is ∙ sym (append-nil (encode_all (rs ++ others))); end = refl })))

module _ {K : Type 0} (plan : Plan K) (gives : RecordValue → Option K) where
  -- the admitted keys of some records
  abbrev entries : List RecordValue → List K
  entries rs = filter plan.admits (keys_of gives rs)

  not_full : (f : Option LogFault) (rs : List RecordValue) (i : Option ℕ) → IsOk (answer_by plan plan.fresh gives i f rs) → i ≡ None
  not_full f rs (Some i) ok = absurd (true≢false (sym ok))
  not_full f rs None ok = refl

  -- a log fed to its end has no more admitted keys than there is room for
  fits : (log : List ℕ) → FedToEnd plan gives log → length (entries (log_of log).records) ≤ room plan.fresh
  fits log ok =
      let rs : List RecordValue = (log_of log).records in
      all_fit plan gives plan.fresh rs (not_full (log_of log).fault rs (full_at plan plan.fresh gives rs) ok)

  -- so it adds them all
  adds_all : (log : List ℕ) (rs : List RecordValue) → (log_of log).records ≡ rs → FedToEnd plan gives log → fed_fresh plan gives log ≡ after plan (entries rs)
  adds_all log rs is ok =
      ap (after plan) (take_all (room plan.fresh) (entries (log_of log).records) (fits log ok)) ∙ ap (λ rs. after plan (entries rs)) is

  entries_fit : (log : List ℕ) (rs : List RecordValue) → (log_of log).records ≡ rs → FedToEnd plan gives log → Entries plan (entries rs)
  entries_fit log rs is ok = record {
    admitted = recursion_from_All (λ x. plan.admits x ≡ true) (entries rs) (filter_passes plan.admits (keys_of gives rs));
    few = omega (arith, fits log ok, ap (λ rs. length (entries rs)) is);
  }

  -- the keys of some records and of others after them
  entries_append : (rs others : List RecordValue) → entries (rs ++ others) ≡ entries rs ++ entries others
  entries_append rs others =
      ap (filter plan.admits) (filter_map-append gives rs others) ∙ filter-append plan.admits (keys_of gives rs) (keys_of gives others)

  module _ (less : K → K → Bool) (order : TotalOrder less) (lawful : Lawful less plan) where
    abbrev SameOrNear : List K → List K → Type 0
    SameOrNear es fs = (after plan es ≡ after plan fs) ⊎ Near less (after plan es) (after plan fs)

    -- what a record gives is one entry more, or none
    one_record : (es ks : List K) (o : Option K) → Entries plan (es ++ filter plan.admits (cons_option o ks)) →
        SameOrNear (es ++ filter plan.admits (cons_option o ks)) (es ++ filter plan.admits ks)
    one_record es ks None e = inl refl
    one_record es ks (Some x) e = by (plan.admits x) e
      where
        by : (admitted : Bool) → Entries plan (es ++ cond admitted (x ∷ filter plan.admits ks) (filter plan.admits ks)) →
            SameOrNear (es ++ cond admitted (x ∷ filter plan.admits ks) (filter plan.admits ks)) (es ++ filter plan.admits ks)
        by true e = inr (record {
          neighbours = lawful.neighbours es x (filter plan.admits ks) e;
          hand_over = runs_hand_over less order plan lawful es x (filter plan.admits ks) e;
        })
        by false e = inl refl

    one_record_less : (rs : List RecordValue) (r : RecordValue) (others : List RecordValue) → Entries plan (entries (rs ++ r ∷ others)) →
        SameOrNear (entries (rs ++ r ∷ others)) (entries (rs ++ others))
    one_record_less rs r others e =
        let longer : entries (rs ++ r ∷ others) ≡ entries rs ++ entries (r ∷ others) = entries_append rs (r ∷ others) in
        subst (SameOrNear (entries (rs ++ r ∷ others))) (sym (entries_append rs others))
        (subst (λ es. SameOrNear es (entries rs ++ entries others)) (sym longer)
        (one_record (entries rs) (keys_of gives others) (gives r) (subst (Entries plan) longer e)))

pub neighbours_by_logs : {K : Type 0} (less : K → K → Bool) → TotalOrder less → (plan : Plan K) → Lawful less plan → NeighboursByLogs less plan
neighbours_by_logs {K} less order plan lawful gives log shorter h to_end shorter_to_end =
    let rs : List RecordValue = h.one_fewer.before in
    let r : RecordValue = h.one_fewer.gone in
    let others : List RecordValue = h.one_fewer.behind in
    let parts : (log_of log).records ≡ rs ++ r ∷ others = h.one_fewer.whole in
    let is : shorter ≡ encode_all (rs ++ others) = h.encoded ∙ ap encode_all h.one_fewer.others in
    let long : fed_fresh plan gives log ≡ after plan (entries plan gives (rs ++ r ∷ others)) = adds_all plan gives log (rs ++ r ∷ others) parts to_end in
    let short : fed_fresh plan gives shorter ≡ after plan (entries plan gives (rs ++ others)) =
    adds_all plan gives shorter (rs ++ others) (shorter_records log shorter h.bytes rs r others parts is) shorter_to_end in
    subst (λ (C : Content K). (C ≡ fed_fresh plan gives shorter) ⊎ Near less C (fed_fresh plan gives shorter)) (sym long)
    (subst (λ (D : Content K). (after plan (entries plan gives (rs ++ r ∷ others)) ≡ D) ⊎ Near less (after plan (entries plan gives (rs ++ r ∷ others))) D) (sym short)
    (one_record_less plan gives less order lawful rs r others (entries_fit plan gives log (rs ++ r ∷ others) parts to_end)))
