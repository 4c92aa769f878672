-- The items of a log: no more than it has bytes, each record among them can be written, and it begins where those before
-- it end. Idea: by how the log splits, each record has at least one byte, and so has what the reader refuses.
use Rattle.std.proofs.Common.{◌≡◌, ℕ, zero, suc, ◌+◌, ◌≤◌, true, List, [], ◌∷◌, ◌++◌, length, take, drop, slice_get, slice_range, get_or, Some, None, Ok, Err, Option, Result, IfSome, All, refl, ap, sym, ◌∙◌, Fits, w8, arith}
use Rattle.std.specs.List.{AllByRecursion}
use Rattle.std.proofs.lemmas.List.{length-append, length-take-le}
use Rattle.std.proofs.lemmas.Slice.{between_to_end}
use Rattle.std.proofs.lemmas.List.Elements.{All-from_recursion}
use Rattle.std.proofs.lemmas.Bool.{and_parts}
use Rattle.records.specs.declared.fault.ReadFault.{ReadFault}
use Rattle.records.specs.declared.log.Records.TheInside.{Inside}
use Rattle.records.specs.Faults.{place_of}
use Rattle.records.specs.Values.{RecordValue}
use Rattle.records.specs.Reading.{reading}
use Rattle.records.specs.Writing.{encode, is_record}
use Rattle.records.specs.Logs.{LogFault, Log, all_records, encode_all, EndsAs, LogLaws, log_from, log_of}
use Rattle.records.specs.Items.{Item, IsWritable, items_from, items_of, items_at, left, IsWithinLog, BeginAfter}
use Rattle.records.proofs.Rounds.{was_read}
use Rattle.records.proofs.Logging.{log_more, log_stopped, log_laws}

-- where a record is read
pub items_more : (it : Inside) (r : RecordValue) (n : ℕ) → IsWithinLog it → reading it.rest.now ≡ Ok (r, n) →
    left it ≡ Ok (it.offset, r) ∷ items_at (it.index + 1) (it.offset + n) (slice_range it.rest.now n (length it.rest.now))
items_more it r n within q =
    let bs = it.rest.now in
    let w = was_read bs within.bytes r n q in
    let later = log_from (it.index + 1) (it.offset + n) (drop n bs) in
    let long : length (encode r) ≡ n = ap length w.bytes ∙ length-take-le n bs w.inside in
    ap (λ (log : Log). items_from it.offset log.records log.fault) (log_more it.index it.offset bs within.bytes r n q)
    ∙ ap (λ k. Ok (it.offset, r) ∷ items_from (it.offset + k) later.records later.fault) long
    ∙ ap (λ rest. Ok (it.offset, r) ∷ items_at (it.index + 1) (it.offset + n) rest) (sym (between_to_end bs n (length bs) (omega arith)))

-- the items that are left of some bytes, by the reader's answer: what is read and what follows, or the fault
abbrev by_answer : Inside → Result (RecordValue × ℕ) ReadFault → List Item
by_answer it (Ok p) = Ok (it.offset, p.0) ∷ items_at (it.index + 1) (it.offset + p.1) (slice_range it.rest.now p.1 (length it.rest.now))
by_answer it (Err f) = Err (record { fault = f; index = it.index; offset = it.offset + place_of f }) ∷ []

pub items_read : (it : Inside) → 1 ≤ length it.rest.now → IsWithinLog it → left it ≡ by_answer it (reading it.rest.now)
items_read it some within = read (reading it.rest.now) refl
  where
    read : (a : Result (RecordValue × ℕ) ReadFault) → reading it.rest.now ≡ a → left it ≡ by_answer it a
    read (Ok p) q = items_more it p.0 p.1 within q
    read (Err f) q = ap (λ (log : Log). items_from it.offset log.records log.fault) (log_stopped it.index it.offset it.rest.now f some q)

few_from : (rs : List RecordValue) (f : Option LogFault) (rest : List ℕ) (offset : ℕ) → IfSome f (λ _. 1 ≤ length rest) →
    length (items_from offset rs f) ≤ length (encode_all rs ++ rest)
few_from [] None rest offset h = omega arith
few_from [] (Some f) rest offset h = h
few_from (r ∷ rs) f rest offset h =
    omega (arith, few_from rs f rest (offset + length (encode r)) h, length-append (encode_all rs) rest, length-append (encode r ++ encode_all rs) rest, length-append (encode r) (encode_all rs))

some_left : (index offset : ℕ) (rs : List RecordValue) (rest : List ℕ) (f : Option LogFault) → EndsAs index offset rs rest f → IfSome f (λ _. 1 ≤ length rest)
some_left index offset rs rest None e = tt
some_left index offset rs rest (Some f) e = e.0

writable_from : (rs : List RecordValue) (f : Option LogFault) (offset : ℕ) → all_records rs ≡ true → AllByRecursion IsWritable (items_from offset rs f)
writable_from [] None offset h = tt
writable_from [] (Some f) offset h = (tt, tt)
writable_from (r ∷ rs) f offset h =
    let p = and_parts (is_record r) (all_records rs) h in (p.0, writable_from rs f (offset + length (encode r)) p.1)

begin_from : (rs : List RecordValue) (f : Option LogFault) (offset i : ℕ) (r : RecordValue) → slice_get rs i ≡ Some r →
    slice_get (items_from offset rs f) i ≡ Some (Ok (offset + length (encode_all (take i rs)), r))
begin_from [] f offset i r h = cc
begin_from (q ∷ rs) f offset zero r h = let e : offset ≡ offset + 0 = omega arith in cc
begin_from (q ∷ rs) f offset (suc i) r h =
    let before : List ℕ = encode_all (take i rs) in
    let e : offset + length (encode q) + length before ≡ offset + length (encode q ++ before) = omega (arith, length-append (encode q) before) in
    begin_from rs f (offset + length (encode q)) i r h ∙ ap (λ n. Some (Ok (n, r))) e

-- each record of a log begins where those before it end
pub begin_after : (log : Log) → BeginAfter log (items_of log)
unfolding BeginAfter
begin_after log i r h =
    let before = length (encode_all (take i log.records)) in
    let e : 0 + before ≡ before = omega arith in
    begin_from log.records log.fault 0 i r h ∙ ap (λ n. Some (Ok (n, r))) e

-- a slice of bytes has the laws of a log
module _ (bs : List ℕ) (fit : (i : ℕ) → Fits w8 (get_or bs i 0)) where
  pub slice_laws : LogLaws bs
  slice_laws = log_laws bs (λ i. omega (arith, fit i))

  pub few_items : length (items_of (log_of bs)) ≤ length bs
  few_items =
      let log = log_of bs in
      let s = slice_laws.splits in
      omega (arith, few_from log.records log.fault s.rest 0 (some_left 0 0 log.records s.rest log.fault s.end), ap length s.joined)

  pub writable_items : All IsWritable (items_of (log_of bs))
  writable_items =
      let log = log_of bs in
      All-from_recursion IsWritable (items_from 0 log.records log.fault) (writable_from log.records log.fault 0 slice_laws.splits.records)
