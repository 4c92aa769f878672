-- Bytes written one after another. Idea: what is pasted right after a paste is one paste of both.
use Rattle.std.proofs.Common.{◌≡◌, ℕ, ◌+◌, ◌-◌, ◌/◌, ◌%◌, ◌^◌, ◌<◌, ◌≤◌, Some, slice_set, List, [], ◌∷◌, ◌++◌, length, drop, set, refl, sym, ap, ◌∙◌, add-zero, add-one, arith}
use Rattle.std.proofs.lemmas.List.{take-append-drop, set_split, length-append}
use Rattle.std.proofs.lemmas.List.Edits.{paste_all, paste-paste}
use Rattle.std.proofs.lemmas.Slice.{put_mid-paste}
use Rattle.std.proofs.Math.Seq.{paste}
use borrow.Rule.Slice.PartMut.{put_mid}
use Rattle.records.specs.Writing.{encode_byte, encode_four, encode_word}
use Rattle.records.specs.Pasting.{pasted}

pub pasted-nil : (out : List ℕ) (at : ℕ) → out ≡ pasted out at []
unfolding pasted
pasted-nil out at = rw add-zero (sym (take-append-drop at out))

pub set-pasted : (out : List ℕ) (at b : ℕ) → at < length out → set out at b ≡ pasted out at (b ∷ [])
unfolding pasted
set-pasted out at b l = rw add-one (set_split out at b l)

-- which is the library's `paste`
as_paste : (out : List ℕ) (at : ℕ) (xs : List ℕ) → pasted out at xs ≡ paste out at xs (length xs)
unfolding pasted
as_paste out at xs = sym (paste_all out at xs (length xs) refl)

-- xs at a place, and then ys right after it
pub pasted_more : (out : List ℕ) (at then : ℕ) (xs ys : List ℕ) → then ≡ at + length xs → then ≤ length out →
    pasted (pasted out at xs) then ys ≡ pasted out at (xs ++ ys)
pasted_more out at then xs ys e l =
    let both = paste-paste out at xs ys (length xs) (length ys) refl refl (omega arith) in
    ap (λ o. pasted o then ys) (as_paste out at xs) ∙ as_paste _ then ys ∙ ap (λ i. paste (paste out at xs (length xs)) i ys (length ys)) e
    ∙ both ∙ ap (paste out at (xs ++ ys)) (sym (length-append xs ys)) ∙ sym (as_paste out at (xs ++ ys))

pub pasted_start : (out xs : List ℕ) → pasted out 0 xs ≡ xs ++ drop (length xs) out
unfolding pasted
pasted_start out xs = ap (λ n. xs ++ drop n out) (omega arith)

-- the step of one write after another
pub onward : (out mid last : List ℕ) (at then : ℕ) (xs ys : List ℕ) → mid ≡ pasted out at xs → last ≡ pasted mid then ys →
    then ≡ at + length xs → then ≤ length out → last ≡ pasted out at (xs ++ ys)
onward out mid last at then xs ys p q e l = q ∙ ap (λ o. pasted o then ys) p ∙ pasted_more out at then xs ys e l

-- what was copied over a part of the output is pasted there
pub part-pasted : (out part xs : List ℕ) (at n : ℕ) → part ≡ xs → n ≡ length xs → put_mid at n out part ≡ pasted out at xs
part-pasted out part xs at n e l = put_mid-paste at n out part xs n e refl l ∙ ap (paste out at xs) l ∙ sym (as_paste out at xs)

-- a number of one byte, and one of four, as they are stored; then a flight word, behind its length
pub byte_pasted : (out : List ℕ) (at v : ℕ) → at + 1 ≤ length out → slice_set out at v ≡ pasted out at (encode_byte (Some v))
byte_pasted out at v l = set-pasted out at v (omega (arith, l))

pub four_pasted : (out part : List ℕ) (at v : ℕ) → v < 2 ^ 32 → part ≡ v / 16_777_216 % 256 ∷ v / 65_536 % 256 ∷ v / 256 % 256 ∷ v % 256 ∷ [] →
    put_mid at (at + 4 - at) out part ≡ pasted out at (encode_four (Some v))
four_pasted out part at v l e =
    let high : v / 16_777_216 % 256 ≡ v / 16_777_216 = omega arith in
    let others = v / 65_536 % 256 ∷ v / 256 % 256 ∷ v % 256 ∷ [] in
    part-pasted out part _ at (at + 4 - at) (e ∙ ap (λ b. b ∷ others) high) (omega arith)

pub word_pasted : (out part w : List ℕ) (at : ℕ) → at + length (encode_word (Some w)) ≤ length out → part ≡ w →
    put_mid (at + 1) (at + 1 + length w - (at + 1)) (slice_set out at (length w)) part ≡ pasted out at (encode_word (Some w))
word_pasted out part w at l e =
    let first = set-pasted out at (length w) (omega (arith, l)) in
    let second = part-pasted (slice_set out at (length w)) part w (at + 1) (at + 1 + length w - (at + 1)) e (omega arith) in
    onward out _ _ at (at + 1) (length w ∷ []) w first second refl (omega (arith, l))

-- no bytes written
pub unmoved : (out xs : List ℕ) (at : ℕ) → xs ≡ [] → out ≡ pasted out at xs
unmoved out xs at e = pasted-nil out at ∙ ap (pasted out at) (sym e)

-- the output so far: `front` stands at its start, and `then` is the place after it
abbrev pub Front : List ℕ → List ℕ → List ℕ → ℕ → Type 0
Front out front mid then = (mid ≡ pasted out 0 front) × (then ≡ length front)

pub go_on : (out mid last : List ℕ) (then next : ℕ) (front ys : List ℕ) → Front out front mid then → last ≡ pasted mid then ys →
    next ≡ then + length ys → then ≤ length out → Front out (front ++ ys) last next
go_on out mid last then next front ys f q e l =
    (onward out mid last 0 then front ys f.0 q (omega arith) l, omega (arith, length-append front ys))
