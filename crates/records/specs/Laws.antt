-- The laws of reader and writer: each undoes the other, so a record has one encoding, and what is cut off is told.
use Rattle.std.specs.Prelude.{◌≡◌, ℕ, ◌<◌, ◌≤◌, true, List, ◌++◌, length, take, Ok, Err, Result, slice_index, ◌≢◌}
use Rattle.keys.specs.declared.refusal.Refusal.{Refusal}
use Rattle.records.specs.declared.fault.ReadFault.{ReadFault}
use Rattle.records.specs.declared.fault.ReadFault.TheVariants.{Map, CutOff, Field}
use Rattle.records.specs.Faults.{place_of}
use Rattle.records.specs.Values.{RecordValue}
use Rattle.records.specs.Reading.{reading}
use Rattle.records.specs.Writing.{encode, is_record, writing}

-- every number is a byte
abbrev pub Bytes : List ℕ → Type 0
Bytes bs = (i : ℕ) → slice_index bs i < 256

-- of bytes bs that read as the record r of length n
pub record WasRead (bs : List ℕ) (r : RecordValue) (n : ℕ) : Type 0 where
  -- it has 2 to 20 bytes, none past the end, and can be written
  pub some : 2 ≤ n
  pub short : n ≤ 20
  pub inside : n ≤ length bs
  pub valid : is_record r ≡ true
  -- the writer takes it, and writes the bytes that were read
  pub bytes : encode r ≡ take n bs
  pub written : (room : ℕ) → n ≤ room → writing r room ≡ Ok n
  -- whatever else reads as this record has the same length and the same bytes
  pub only : (cs : List ℕ) (k : ℕ) → Bytes cs → reading cs ≡ Ok (r, k) → (k ≡ n) × (take k cs ≡ take n bs)
  -- it reads the same whatever follows, and any shorter beginning is cut off where it ends
  pub alone : (rest : List ℕ) → reading (take n bs ++ rest) ≡ Ok (r, n)
  pub torn : (k : ℕ) → k < n → reading (take k bs) ≡ Err (CutOff k)

-- of bytes bs that are cut off at the place p
pub record IsCutOff (bs : List ℕ) (p : ℕ) : Type 0 where
  -- they end there, and any beginning of them is cut off where it ends
  pub ends : p ≡ length bs
  pub torn : (k : ℕ) → k ≤ length bs → reading (take k bs) ≡ Err (CutOff k)
  -- once there are 20 bytes, whatever follows, they are cut off no longer
  pub enough : (rest : List ℕ) (q : ℕ) → 20 ≤ length (bs ++ rest) → reading (bs ++ rest) ≢ Err (CutOff q)

-- Where a fault lies: that of the map at the map byte, that of a field within the input. Both stay, whatever follows; what
-- is cut off does not.
abbrev pub FaultLaws : List ℕ → ReadFault → Type 0
FaultLaws bs (Map p) = (p ≡ 0) × ((rest : List ℕ) → reading (bs ++ rest) ≡ Err (Map p))
FaultLaws bs (CutOff p) = IsCutOff bs p
FaultLaws bs (Field p) = (p < length bs) × ((rest : List ℕ) → reading (bs ++ rest) ≡ Err (Field p))

-- what is known of the reader's answer: the laws of a record read; those of a fault, which lies within the input or at its end
abbrev pub ReadLaws : List ℕ → Result (RecordValue × ℕ) ReadFault → Type 0
ReadLaws bs (Ok p) = WasRead bs p.0 p.1
ReadLaws bs (Err e) = (place_of e ≤ length bs) × FaultLaws bs e

-- of a record r that was written as n bytes
pub record WasWritten (r : RecordValue) (n : ℕ) : Type 0 where
  pub long : length (encode r) ≡ n
  -- it reads back as the same record and length, whatever follows
  pub back : (rest : List ℕ) → reading (encode r ++ rest) ≡ Ok (r, n)
  -- any shorter beginning is cut off where it ends
  pub torn : (k : ℕ) → k < n → reading (take k (encode r)) ≡ Err (CutOff k)

-- what is known of the writer's answer: the laws of a record written; of a refusal nothing more
abbrev pub WriteLaws : RecordValue → Result ℕ Refusal → Type 0
WriteLaws r (Ok n) = WasWritten r n
WriteLaws r (Err e) = Unit {0}
