-- What feeding a log to a summary adds and answers, from the summary's plan and content and from what the lens gives of
-- each record.
use Rattle.std.specs.Prelude.{◌≡◌, ℕ, ◌+◌, ◌-◌, ◌≤◌, Bool, true, false, not, cond, List, [], ◌∷◌, ◌++◌, length, take, filter, filter_map, count_by, slice_get, is_none, Some, None, Ok, Err, Option, Result}
use Rattle.keys.specs.declared.refusal.Refusal.TheVariants.{Full}
use Rattle.records.specs.Values.{RecordValue}
use Rattle.records.specs.Logs.{LogFault, Log, encode_all}
use Rattle.model.specs.Contents.{Content}
use Rattle.model.specs.Plans.{Plan, most_entries}
use Rattle.feeding.specs.declared.fault.Cause.{Cause}
use Rattle.feeding.specs.declared.fault.Cause.TheVariants.{Reader, Summary}
use Rattle.feeding.specs.declared.fault.FeedFault.{FeedFault}
use Rattle.feeding.specs.declared.feed.Fed.{Fed}
use Rattle.feeding.specs.Faults.{reader_fault}

-- the places of the items at which the test gives true, in order, where the first item is at this place
abbrev pub places_from : {X : Type 0} → (X → Bool) → (place : ℕ) → List X → List ℕ
places_from p place [] = []
places_from p place (x ∷ xs) = cond (p x) (place ∷ []) [] ++ places_from p (place + 1) xs

-- the keys of the records that give one, in order
abbrev pub keys_of : {K : Type 0} → (RecordValue → Option K) → List RecordValue → List K
keys_of gives rs = filter_map gives rs

-- those that the summary admits
abbrev pub admitted_keys : {K : Type 0} → Plan K → (RecordValue → Option K) → List RecordValue → List K
admitted_keys plan gives rs = filter plan.admits (keys_of gives rs)

-- how many entries a summary of this content can still take
abbrev pub room : {K : Type 0} → Content K → ℕ
room C = most_entries - C.n

-- whether there is a key and it is admitted
abbrev pub is_entry : {K : Type 0} → Plan K → Option K → Bool
is_entry plan (Some x) = plan.admits x
is_entry plan None = false

-- how many records there are, how many of them give no key, and how many keys are not admitted, and how many are
abbrev pub fed_of : {K : Type 0} → Plan K → (RecordValue → Option K) → List RecordValue → Fed
fed_of plan gives rs = record {
  read = length rs;
  absent = count_by (λ r. is_none (gives r)) rs;
  passed_over = count_by (λ x. not (plan.admits x)) (keys_of gives rs);
  taken = count_by plan.admits (keys_of gives rs);
}

module _ {K : Type 0} (plan : Plan K) (C : Content K) (gives : RecordValue → Option K) where
  -- the entries that feeding adds: the admitted keys, as many as there is room for
  abbrev pub added : List RecordValue → List K
  added rs = take (room C) (admitted_keys plan gives rs)

  -- The index of the record that finds the summary full: of those that give an admitted key, the first that there is no
  -- room for.
  abbrev pub full_at : List RecordValue → Option ℕ
  full_at rs = slice_get (places_from (λ r. is_entry plan (gives r)) 0 rs) (room C)

  -- what is answered: the refusal of the record that finds the summary full; else the reader's fault; else what was fed
  abbrev pub answer_by : Option ℕ → Option LogFault → List RecordValue → Result Fed FeedFault
  answer_by (Some i) fault rs = Err (record { cause = Summary Full; index = i; offset = length (encode_all (take i rs)) })
  answer_by None (Some f) rs = Err (reader_fault f.fault f.index f.offset)
  answer_by None None rs = Ok (fed_of plan gives rs)

  -- what feeding a log answers
  abbrev pub fed_answer : Log → Result Fed FeedFault
  fed_answer log = answer_by (full_at log.records) log.fault log.records

  -- there is room for all admitted keys of these records
  abbrev pub AllFit : List RecordValue → Type 0
  AllFit rs = length (admitted_keys plan gives rs) ≤ room C

  -- Of these records the one of the index i finds the summary full: those before it give as many admitted keys as there is
  -- room for, and it gives one too.
  pub record FoundFull (rs : List RecordValue) (i : ℕ) : Type 0 where
    pub filled : length (admitted_keys plan gives (take i rs)) ≡ room C
    pub finder : RecordValue
    pub there : slice_get rs i ≡ Some finder
    pub key : K
    pub given : gives finder ≡ Some key
    pub admitted : plan.admits key ≡ true

  -- by whose fault it is, with its record's index
  abbrev pub RoomBy : List RecordValue → Cause → (index : ℕ) → Type 0
  RoomBy rs (Reader f) index = AllFit rs
  RoomBy rs (Summary refusal) index = FoundFull rs index

  -- what an answer says of the room: the summary's refusal, that this record found it full; any other, that all keys fit
  unfoldable pub RoomLaw : List RecordValue → Result Fed FeedFault → Type 0
  RoomLaw rs (Ok fed) = AllFit rs
  RoomLaw rs (Err f) = RoomBy rs f.cause f.index
