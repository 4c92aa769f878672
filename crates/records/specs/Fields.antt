-- One field at a place of the input: what its reader answers.
use Rattle.std.specs.Prelude.{ℕ, ◌+◌, ◌*◌, Bool, cond, ◌&&◌, List, length, take, drop, Some, None, Ok, Err, Option, Result, ◌==◌, nat_le, nat_lt, slice_index}
use Rattle.keys.specs.Words.{first_wrong}
use Rattle.records.specs.declared.fault.ReadFault.{ReadFault}
use Rattle.records.specs.declared.fault.ReadFault.TheVariants.{CutOff, Field}

-- what a field's reader answers: the field or none, and the place after it; or the fault
abbrev pub Got : Type 0 → Type 0
Got A = Result (Option A × ℕ) ReadFault

-- a field that is a number, lo to hi, in `width` bytes, whose value at a place is `value_at`: cut off, then out of range
abbrev pub number_at : {A : Type 0} (width : ℕ) (value_at : List ℕ → ℕ → A) (at_most : A → A → Bool) (present : Bool) (lo hi : A) (bs : List ℕ) (at : ℕ) → Got A
number_at width value_at at_most present lo hi bs at =
    cond present
    (cond (nat_le (at + width) (length bs))
    (cond (at_most lo (value_at bs at) && at_most (value_at bs at) hi) (Ok (Some (value_at bs at), at + width)) (Err (Field at)))
    (Err (CutOff (length bs))))
    (Ok (None, at))

-- a field of one byte, lo to hi
abbrev pub byte_at : (present : Bool) (lo hi : ℕ) (bs : List ℕ) (at : ℕ) → Got ℕ
byte_at present lo hi bs at = number_at 1 slice_index nat_le present lo hi bs at

-- the number that four bytes make, the highest first
abbrev pub join : ℕ → ℕ → ℕ → ℕ → ℕ
join a b c d = a * 16_777_216 + b * 65_536 + c * 256 + d

-- the number that the four bytes from a place on make
abbrev pub join_at : List ℕ → ℕ → ℕ
join_at bs at = join (slice_index bs at) (slice_index bs (at + 1)) (slice_index bs (at + 2)) (slice_index bs (at + 3))

-- a field of four bytes, 0 to hi
abbrev pub four_at : (present : Bool) (hi : ℕ) (bs : List ℕ) (at : ℕ) → Got ℕ
four_at present hi bs at = number_at 4 join_at nat_le present 0 hi bs at

-- n bytes at a place
abbrev pub part : List ℕ → ℕ → ℕ → List ℕ
part bs at n = take n (drop at bs)

-- n bytes of a flight word: cut off, then the first wrong byte
abbrev pub word_bytes_at : (n : ℕ) (bs : List ℕ) (at : ℕ) → Got (List ℕ)
word_bytes_at n bs at =
    cond (nat_le (at + n) (length bs))
    (cond (first_wrong (part bs at n) == n) (Ok (Some (part bs at n), at + n)) (Err (Field (at + first_wrong (part bs at n)))))
    (Err (CutOff (length bs)))

-- a flight word: its length byte, 1 to 8, then as many bytes
abbrev pub word_at : (present : Bool) (bs : List ℕ) (at : ℕ) → Got (List ℕ)
word_at present bs at =
    cond present
    (cond (nat_lt at (length bs))
    (cond (nat_le 1 (slice_index bs at) && nat_le (slice_index bs at) 8) (word_bytes_at (slice_index bs at) bs (at + 1)) (Err (Field at)))
    (Err (CutOff (length bs))))
    (Ok (None, at))
