-- The numbers that fields hold: one byte, and four. Idea: what is known of how a number lies in bytes is one record, by
-- which each law of a field that is a number is shown once, for both.
use Rattle.std.proofs.Common.{◌≡◌, ℕ, ◌+◌, ◌/◌, ◌%◌, ◌≤◌, List, [], ◌∷◌, ◌++◌, length, get_or, take, drop, Some, None, Option, sym, refl, ap, ◌∙◌, arith, take-add}
use Rattle.std.proofs.lemmas.List.{get_or-append-add, get_or_at, get_or-take, take_more, drop_more}
use Rattle.records.specs.Fields.{join_at}
use Rattle.records.specs.Laws.{Bytes}
use Rattle.records.specs.Writing.{encode_byte, encode_four}
use Rattle.records.proofs.Bits.{join_split, split_join}

-- `width` bytes hold the number `value_at`, which `written` writes
pub record Stored (width : ℕ) (value_at : List ℕ → ℕ → ℕ) (written : Option ℕ → List ℕ) : Type 0 where
  pub absent : written None ≡ []
  pub long : (v : ℕ) → length (written (Some v)) ≡ width
  -- a number that was written is there
  pub back : (front post : List ℕ) (v : ℕ) → value_at (front ++ (written (Some v) ++ post)) (length front) ≡ v
  -- the number that is there writes its bytes
  pub forth : (bs : List ℕ) (at : ℕ) → Bytes bs → at + width ≤ length bs → take (at + width) bs ≡ take at bs ++ written (Some (value_at bs at))
  -- it is told by its bytes alone
  pub begun : (bs : List ℕ) (at k : ℕ) → at + width ≤ k → value_at (take k bs) at ≡ value_at bs at

pub byte_stored : Stored 1 (λ bs at. get_or bs at 0) encode_byte
byte_stored = record {
  absent = refl;
  long = λ v. refl;
  back = λ front post v. get_or_at front v post 0 (length front) refl;
  forth = λ bs at bytes h. take_more bs at 0 (omega (arith, h));
  begun = λ bs at k h. get_or-take k bs at 0 (omega (arith, h));
}

four_back : (front post : List ℕ) (v : ℕ) → join_at (front ++ (encode_four (Some v) ++ post)) (length front) ≡ v
four_back front post v =
    let ys : List ℕ = encode_four (Some v) ++ post in
    let g0 : get_or (front ++ ys) (length front) 0 ≡ v / 16_777_216 = get_or_at front _ _ 0 (length front) refl in
    let g1 : get_or (front ++ ys) (length front + 1) 0 ≡ v / 65_536 % 256 = get_or-append-add front ys 1 0 in
    let g2 : get_or (front ++ ys) (length front + 2) 0 ≡ v / 256 % 256 = get_or-append-add front ys 2 0 in
    let g3 : get_or (front ++ ys) (length front + 3) 0 ≡ v % 256 = get_or-append-add front ys 3 0 in
    rw (g0, g1, g2, g3) (join_split v)

four_forth : (bs : List ℕ) (at : ℕ) → Bytes bs → at + 4 ≤ length bs → take (at + 4) bs ≡ take at bs ++ encode_four (Some (join_at bs at))
four_forth bs at bytes h =
    let d0 = drop_more bs at 0 (omega arith) in
    let d1 : drop (at + 1) bs ≡ get_or bs (at + 1) 0 ∷ drop (at + 2) bs =
    drop_more bs (at + 1) 0 (omega arith) ∙ ap (λ n. get_or bs (at + 1) 0 ∷ drop n bs) (omega arith) in
    let d2 : drop (at + 2) bs ≡ get_or bs (at + 2) 0 ∷ drop (at + 3) bs =
    drop_more bs (at + 2) 0 (omega arith) ∙ ap (λ n. get_or bs (at + 2) 0 ∷ drop n bs) (omega arith) in
    let d3 = drop_more bs (at + 3) 0 (omega arith) in
    let all = d0 ∙ ap (λ xs. get_or bs at 0 ∷ xs) (d1 ∙ ap (λ xs. get_or bs (at + 1) 0 ∷ xs) (d2 ∙ ap (λ xs. get_or bs (at + 2) 0 ∷ xs) d3)) in
    take-add at 4 bs ∙ ap (λ xs. take at bs ++ take 4 xs) all
    ∙ ap (λ xs. take at bs ++ xs) (sym (split_join (get_or bs at 0) (get_or bs (at + 1) 0) (get_or bs (at + 2) 0) (get_or bs (at + 3) 0) (bytes at) (bytes (at + 1)) (bytes (at + 2)) (bytes (at + 3))))

four_begun : (bs : List ℕ) (at k : ℕ) → at + 4 ≤ k → join_at (take k bs) at ≡ join_at bs at
four_begun bs at k h =
    let g0 = get_or-take k bs at 0 (omega arith) in
    let g1 = get_or-take k bs (at + 1) 0 (omega arith) in
    let g2 = get_or-take k bs (at + 2) 0 (omega arith) in
    let g3 = get_or-take k bs (at + 3) 0 (omega arith) in
    rw (g0, g1, g2, g3)

pub four_stored : Stored 4 join_at encode_four
four_stored = record { absent = refl; long = λ v. refl; back = four_back; forth = four_forth; begun = four_begun }
