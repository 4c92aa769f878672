-- A log's bytes split into records in one way, which is how the log is read. Idea: each record read takes at least one
-- byte, so turns do not matter, and a record's encoding reads as that record whatever follows.
use Rattle.std.proofs.Common.{◌≡◌, ℕ, zero, suc, ◌+◌, ◌-◌, ◌≤◌, true, ltb, List, [], ◌∷◌, ◌++◌, length, take, drop, Some, None, Ok, Err, Option, Result, sym, refl, ap, ◌∙◌, subst, append_assoc, arith}
use Rattle.std.proofs.lemmas.List.{length-append, length-drop, length-take-le, take-append-drop, drop_at, get_or-drop, nil_from_length}
use Rattle.std.proofs.lemmas.Bool.{and_parts, and_from}
use Rattle.records.specs.declared.fault.ReadFault.{ReadFault}
use Rattle.records.specs.Faults.{place_of}
use Rattle.records.specs.Values.{RecordValue}
use Rattle.records.specs.Reading.{reading}
use Rattle.records.specs.Writing.{map_of, in_range, is_record, encode}
use Rattle.records.specs.Laws.{Bytes}
use Rattle.records.specs.Logs.{LogFault, Log, ended, stopped, more, on_read, read_turns, log_from, all_records, encode_all, EndsAs, Splits, LogLaws}
use Rattle.records.proofs.Back.{reads_back}
use Rattle.records.proofs.Rounds.{was_read}

pub bytes_drop : (n : ℕ) (bs : List ℕ) → Bytes bs → Bytes (drop n bs)
bytes_drop n bs h i = rw get_or-drop (h (n + i))

same_step : (a : Result (RecordValue × ℕ) ReadFault) (f g : RecordValue → ℕ → Log) (stop : ReadFault → Log) →
    ((r : RecordValue) (n : ℕ) → a ≡ Ok (r, n) → f r n ≡ g r n) → on_read a f stop ≡ on_read a g stop
same_step (Ok p) f g stop h = h p.0 p.1 refl
same_step (Err e) f g stop h = refl

-- as many turns as bytes are enough
enough : (turns many index offset : ℕ) (bs : List ℕ) → Bytes bs → length bs ≤ turns → length bs ≤ many →
    read_turns turns index offset bs ≡ read_turns many index offset bs
unfolding read_turns
enough turns many index offset [] bytes h k = refl
enough zero many index offset (b ∷ bs) bytes h k = absurd (omega arith)
enough (suc turns) zero index offset (b ∷ bs) bytes h k = absurd (omega arith)
enough (suc turns) (suc many) index offset (b ∷ bs) bytes h k =
    same_step (reading (b ∷ bs)) _ _ _ (λ r n q.
    let w = was_read (b ∷ bs) bytes r n q in
    let l : length (drop n (b ∷ bs)) ≡ length (b ∷ bs) - n = length-drop n (b ∷ bs) in
    ap (more r) (enough turns many (index + 1) (offset + n) (drop n (b ∷ bs)) (bytes_drop n (b ∷ bs) bytes) (omega (arith, l, w.some)) (omega (arith, l, w.some))))

-- one record of a log, and the end of it
pub log_more : (index offset : ℕ) (bs : List ℕ) → Bytes bs → (r : RecordValue) (n : ℕ) → reading bs ≡ Ok (r, n) →
    log_from index offset bs ≡ more r (log_from (index + 1) (offset + n) (drop n bs))
unfolding read_turns
log_more index offset [] bytes r n q = let w : ◌≡◌ {A = ℕ} 0 1 = cc in absurd (omega arith)
log_more index offset (b ∷ bs) bytes r n q =
    let w = was_read (b ∷ bs) bytes r n q in
    let l : length (drop n (b ∷ bs)) ≡ length (b ∷ bs) - n = length-drop n (b ∷ bs) in
    ap (λ a. on_read a (λ r n. more r (read_turns (length bs) (index + 1) (offset + n) (drop n (b ∷ bs)))) (λ f. stopped f index offset)) q
    ∙ ap (more r) (enough (length bs) (length (drop n (b ∷ bs))) (index + 1) (offset + n) (drop n (b ∷ bs)) (bytes_drop n (b ∷ bs) bytes) (omega (arith, l, w.some)) (omega arith))

pub log_stopped : (index offset : ℕ) (bs : List ℕ) (f : ReadFault) → 1 ≤ length bs → reading bs ≡ Err f → log_from index offset bs ≡ stopped f index offset
unfolding read_turns
log_stopped index offset [] f h q = absurd (omega arith)
log_stopped index offset (b ∷ bs) f h q =
    ap (λ a. on_read a (λ r n. more r (read_turns (length bs) (index + 1) (offset + n) (drop n (b ∷ bs)))) (λ f. stopped f index offset)) q

pub log_ended : (index offset : ℕ) → log_from index offset [] ≡ ended
unfolding read_turns
log_ended index offset = refl

pub log_over : (index offset : ℕ) (bs : List ℕ) → length bs ≡ 0 → log_from index offset bs ≡ ended
log_over index offset bs h = ap (log_from index offset) (nil_from_length bs h) ∙ log_ended index offset

-- a record before what splits
splits_more : (index offset : ℕ) (bs : List ℕ) (r : RecordValue) (n : ℕ) (log : Log) → is_record r ≡ true → encode r ≡ take n bs → n ≤ length bs →
    Splits (index + 1) (offset + n) (drop n bs) log → Splits index offset bs (more r log)
splits_more index offset bs r n log valid enc l s =
    let long : length (encode r) ≡ n = ap length enc ∙ length-take-le n bs l in
    record {
      records = and_from (is_record r) (all_records log.records) valid s.records;
      rest = s.rest;
      joined = sym (take-append-drop n bs) ∙ ap (λ xs. xs ++ drop n bs) (sym enc) ∙ ap (λ xs. encode r ++ xs) s.joined
          ∙ sym (append_assoc (encode r) (encode_all log.records) s.rest);
      end = ends log.fault long s.end;
    }
  where
    ends : (f : Option LogFault) → length (encode r) ≡ n → EndsAs (index + 1) (offset + n) log.records s.rest f →
        EndsAs index offset (r ∷ log.records) s.rest f
    ends None long e = e
    ends (Some f) long e =
        let j = length-append (encode r) (encode_all log.records) in
        (e.0, e.1, omega (arith, e.2), omega (arith, e.3, j, long))

-- how bytes are read splits them
module _ (index offset : ℕ) (bs : List ℕ) (bytes : Bytes bs) where
  splits_at : 1 ≤ length bs → (a : Result (RecordValue × ℕ) ReadFault) → reading bs ≡ a →
      ((r : RecordValue) (n : ℕ) → 1 ≤ n → Splits (index + 1) (offset + n) (drop n bs) (log_from (index + 1) (offset + n) (drop n bs))) →
      Splits index offset bs (log_from index offset bs)
  splits_at some (Ok p) q later =
      let w = was_read bs bytes p.0 p.1 q in
      subst (Splits index offset bs) (sym (log_more index offset bs bytes p.0 p.1 q))
      (splits_more index offset bs p.0 p.1 _ w.valid w.bytes w.inside (later p.0 p.1 (omega (arith, w.some))))
  splits_at some (Err f) q later =
      subst (Splits index offset bs) (sym (log_stopped index offset bs f some q))
      (record { records = refl; rest = bs; joined = refl; end = (some, q, omega arith, omega arith) })

splits_within : (most index offset : ℕ) (bs : List ℕ) → Bytes bs → length bs ≤ most → Splits index offset bs (log_from index offset bs)
splits_within most index offset [] bytes h =
    subst (Splits index offset []) (sym (log_ended index offset)) (record { records = refl; rest = []; joined = refl; end = refl })
splits_within zero index offset (b ∷ bs) bytes h = absurd (omega arith)
splits_within (suc most) index offset (b ∷ bs) bytes h =
    splits_at index offset (b ∷ bs) bytes (omega arith) (reading (b ∷ bs)) refl (λ r n one.
    splits_within most (index + 1) (offset + n) (drop n (b ∷ bs)) (bytes_drop n (b ∷ bs) bytes) (omega (arith, length-drop n (b ∷ bs))))

-- what is left after the first record ends as the whole does
ends_after : (index offset n : ℕ) (r : RecordValue) (rs : List RecordValue) (rest : List ℕ) (f : Option LogFault) → length (encode r) ≡ n →
    EndsAs index offset (r ∷ rs) rest f → EndsAs (index + 1) (offset + n) rs rest f
ends_after index offset n r rs rest None long e = e
ends_after index offset n r rs rest (Some f) long e =
    let j = length-append (encode r) (encode_all rs) in
    (e.0, e.1, omega (arith, e.2), omega (arith, e.3, j, long))

-- bytes split in one way only
only_none : (index offset : ℕ) (bs rest : List ℕ) (f : Option LogFault) → bs ≡ rest → EndsAs index offset [] rest f →
    record { records = []; fault = f } ≡ log_from index offset bs
only_none index offset bs rest None e end =
    sym (ap (log_from index offset) (e ∙ end) ∙ log_ended index offset)
only_none index offset bs rest (Some f) e end =
    let i : index ≡ f.index = omega (arith, end.2) in
    let o : offset + place_of f.fault ≡ f.offset = omega (arith, end.3) in
    let here : record { fault = f.fault; index = index; offset = offset + place_of f.fault } ≡ f = λ j. record { fault = f.fault; index = i j; offset = o j } in
    sym (ap (log_from index offset) e ∙ log_stopped index offset rest f.fault end.0 end.1
    ∙ ap (λ x. record { records = []; fault = Some x }) here)

only_from : (rs : List RecordValue) (f : Option LogFault) (index offset : ℕ) (bs : List ℕ) → Bytes bs →
    Splits index offset bs (record { records = rs; fault = f }) → record { records = rs; fault = f } ≡ log_from index offset bs
only_from [] f index offset bs bytes s = only_none index offset bs s.rest f s.joined s.end
only_from (r ∷ rs) f index offset bs bytes s =
    let v = and_parts (is_record r) (all_records rs) s.records in
    let u = and_parts (ltb 0 (map_of r)) (in_range r) v.0 in
    let n : ℕ = length (encode r) in
    let tail : List ℕ = encode_all rs ++ s.rest in
    let joined : bs ≡ encode r ++ tail = s.joined ∙ append_assoc (encode r) (encode_all rs) s.rest in
    let q : reading bs ≡ Ok (r, n) = ap reading joined ∙ reads_back r tail u.0 u.1 in
    let left : drop n bs ≡ tail = ap (drop n) joined ∙ drop_at (encode r) tail n refl in
    let later = only_from rs f (index + 1) (offset + n) (drop n bs) (bytes_drop n bs bytes)
    (record { records = v.1; rest = s.rest; joined = left; end = ends_after index offset n r rs s.rest f refl s.end }) in
    ap (more r) later ∙ sym (log_more index offset bs bytes r n q)

pub log_laws : (bs : List ℕ) → Bytes bs → LogLaws bs
log_laws bs bytes = record {
  splits = splits_within (length bs) 0 0 bs bytes (omega arith);
  only = λ log s. only_from log.records log.fault 0 0 bs bytes s;
}
