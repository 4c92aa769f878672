-- A page line by line. Idea: after j turns the output begins with the lines of the first j held keys, and a held key adds
-- its line or none.
use Rattle.std.proofs.Common.{◌≡◌, ℕ, zero, suc, ◌+◌, ◌<◌, ◌≤◌, add-mul, one-mul, Bool, true, false, cond, nat_le, List, [], ◌∷◌, ◌++◌, map, length, take, drop, filter, slice_get, slice_set, Some, None, sym, refl, ap, ◌∙◌, arith}
use Rattle.std.proofs.lemmas.List.{map-append, append-nil, length_push, take_all}
use Rattle.std.proofs.lemmas.List.Elements.{filter-append}
use Rattle.std.proofs.lemmas.Bool.{le-leb, lt-leb}
use Rattle.keys.specs.declared.held.Held.{Held}
use Rattle.keys.specs.declared.held.Held.TheVariants.{Real, Dummy}
use Rattle.keys.proofs.Lists.{take_next, past_end, write_next}
use Rattle.model.specs.Contents.{Counts, Content, total, reals}
use Rattle.model.specs.Laws.{Balanced}
use Rattle.model.proofs.ListingWords.{reals-append}
use Rattle.pages.specs.declared.line.Line.{Line}
use Rattle.pages.specs.Pages.{line_of}

-- the lines of these held keys
abbrev pub lines_of : {K : Type 0} → (l limit : ℕ) → Counts (Held K) → List (Line K)
lines_of {K} l limit h = map line_of (map (λ (e : K × ℕ). (e.0, e.1, e.1 + l)) (reals (filter (λ (e : Held K × ℕ). nat_le limit (e.1 + l)) h)))

-- the same of one key more, where it is known whether its count plus l is at least the limit
abbrev pub lines_with : {K : Type 0} → (l limit : ℕ) → Bool → Held K → ℕ → Counts (Held K) → List (Line K)
lines_with {K} l limit reached x m h = map line_of (map (λ (e : K × ℕ). (e.0, e.1, e.1 + l)) (reals (cond reached ((x, m) ∷ kept) kept)))
  where
    kept : Counts (Held K)
    kept = filter (λ (e : Held K × ℕ). nat_le limit (e.1 + l)) h

lines_of-append : {K : Type 0} (l limit : ℕ) (a b : Counts (Held K)) → lines_of l limit (a ++ b) ≡ lines_of l limit a ++ lines_of l limit b
lines_of-append l limit a b = simp (filter-append, reals-append, map-append)

-- where j of the held keys have been looked at, and the output was once `old`
record SoFarAs {K : Type 0} (l limit : ℕ) (h : Counts (Held K)) (old output : List (Line K)) (j written : ℕ) : Type 0 where
  number : written ≡ length (lines_of l limit (take j h))
  lines : output ≡ lines_of l limit (take j h) ++ drop written old

-- the same, closed, so that the steps below are tried on it as a whole
pub SoFar : {K : Type 0} (l limit : ℕ) (h : Counts (Held K)) (old output : List (Line K)) (j written : ℕ) → Type 0
SoFar l limit h old output j written = SoFarAs l limit h old output j written

pub begun : {K : Type 0} (l limit : ℕ) (h : Counts (Held K)) (old : List (Line K)) → SoFar l limit h old old 0 0
unfolding SoFar
begun l limit h old = record { number = refl; lines = refl }

module _ {K : Type 0} (l limit : ℕ) (h : Counts (Held K)) (old output : List (Line K)) (j written : ℕ) (s : SoFar l limit h old output j written) where
  no_more : lines_of l limit (take (j + 1) h) ≡ lines_of l limit (take j h) → SoFar l limit h old output (j + 1) written
  unfolding SoFar
  no_more same = record { number = s.number ∙ ap length (sym same); lines = s.lines ∙ ap (λ r. r ++ drop written old) (sym same) }

  pub at_none : slice_get h j ≡ None → SoFar l limit h old output (j + 1) written
  at_none e =
      let past : length h ≤ j = past_end h j e in
      no_more (ap (lines_of l limit) (take_all (j + 1) h (omega arith) ∙ sym (take_all j h past)))

  -- a held key that adds these lines to those so far
  added : (x : Held K) (count : ℕ) (reached : Bool) → slice_get h j ≡ Some (x, count) → nat_le limit (count + l) ≡ reached →
      lines_of l limit (take (j + 1) h) ≡ lines_of l limit (take j h) ++ lines_with l limit reached x count []
  added x count reached e b =
      ap (lines_of l limit) (take_next h j (x, count) e) ∙ lines_of-append l limit (take j h) ((x, count) ∷ [])
      ∙ ap (λ b. lines_of l limit (take j h) ++ lines_with l limit b x count []) b

  pub at_dummy : (x : Held K × ℕ) (i : ℕ) → slice_get h j ≡ Some x → x.0 ≡ Dummy i → SoFar l limit h old output (j + 1) written
  at_dummy x i e is = go (nat_le limit (x.1 + l)) refl
    where
      go : (reached : Bool) → nat_le limit (x.1 + l) ≡ reached → SoFar l limit h old output (j + 1) written
      go true b = no_more (added (Dummy i) x.1 true (e ∙ ap (λ (y : Held K). Some (y, x.1)) is) b ∙ append-nil _)
      go false b = no_more (added x.0 x.1 false e b ∙ append-nil _)

  pub too_low : (x : K) (count : ℕ) → slice_get h j ≡ Some (Real x, count) → count + l < limit → SoFar l limit h old output (j + 1) written
  too_low x count e low = no_more (added (Real x) count false e (lt-leb limit (count + l) low) ∙ append-nil _)

  -- a real key that adds its line
  pub lined : (x : K) (count : ℕ) → slice_get h j ≡ Some (Real x, count) → limit ≤ count + l → written < length old →
      SoFar l limit h old (slice_set output written (record { key = x; count = count; upper = count + l })) (j + 1) (written + 1)
  unfolding SoFar
  lined x count e reached room =
      let line : Line K = record { key = x; count = count; upper = count + l } in
      let before = lines_of l limit (take j h) in
      let more = added (Real x) count true e (le-leb limit (count + l) reached) in
      record {
        number = omega (arith, s.number, ap length more, length_push before line);
        lines = ap (λ ls. slice_set ls written line) s.lines ∙ write_next before old written line (sym s.number) room
            ∙ ap (λ r. r ++ drop (written + 1) old) (sym more);
      }

  -- where no held key is left
  module _ (all : length h ≤ j) where
    pub lines_number : written ≡ length (lines_of l limit h)
    unfolding SoFar
    lines_number = s.number ∙ ap (λ a. length (lines_of l limit a)) (take_all j h all)

    pub lines_written : output ≡ lines_of l limit h ++ drop (length (lines_of l limit h)) old
    unfolding SoFar
    lines_written =
        s.lines ∙ ap (λ a. lines_of l limit a ++ drop written old) (take_all j h all)
        ∙ ap (λ n. lines_of l limit h ++ drop n old) lines_number

-- a count is at most all counts together, so a count and the lowerings are at most n
count_within : {X : Type 0} (h : Counts X) (j : ℕ) (x : X) (count : ℕ) → slice_get h j ≡ Some (x, count) → count ≤ total h
count_within [] j x count e = absurd (cc)
count_within (f ∷ h) zero x count e = let p : f ≡ (x, count) = cc in omega (arith, ap (λ t. t.1) p)
count_within (f ∷ h) (suc j) x count e = omega (arith, count_within h j x count e)

pub upper_within : {K : Type 0} (C : Content K) (j : ℕ) (x : Held K) (count : ℕ) → Balanced C → slice_get C.held j ≡ Some (x, count) → count + C.l ≤ C.n
upper_within C j x count b e = omega (arith, b, add-mul C.k 1 C.l, one-mul C.l, count_within C.held j x count e)
