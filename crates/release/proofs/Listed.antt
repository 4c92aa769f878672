-- A list entry by entry. Idea: the held keys with their values make one list; after j turns the output begins with the
-- entries of its first j, and a key adds its entry or none.
use Rattle.std.proofs.Common.{◌≡◌, ℕ, zero, suc, ◌+◌, ◌<◌, ◌≤◌, get_or, Bool, true, false, cond, List, [], ◌∷◌, ◌++◌, map, length, take, drop, filter, slice_get, slice_set, Some, None, ℤ, pos, ◌+ℤ◌, sym, refl, ap, ◌∙◌, arith, w32, to_z, of_z, ◌^◌}
use lib.Signed.{mag}
use Rattle.std.proofs.lemmas.Int.{to_z-of_z}
use Rattle.std.proofs.lemmas.List.{map-append, append-nil, length_push, take_all}
use Rattle.std.proofs.lemmas.List.Elements.{filter-append}
use Rattle.keys.specs.declared.held.Held.{Held}
use Rattle.keys.specs.declared.held.Held.TheVariants.{Real, Dummy}
use Rattle.keys.proofs.Lists.{take_next, write_next}
use Rattle.model.specs.Contents.{Counts, Content, reals}
use Rattle.model.specs.Listing.{valued, reaches}
use Rattle.model.proofs.ListingWords.{reals-append}
use Rattle.release.specs.declared.entry.Entry.{Entry}
use Rattle.release.specs.Lists.{entry_of, list_of, after_list}

-- the entries of these held keys with their values
abbrev pub entries_of : {K : Type 0} → (t : ℕ) → List (Held K × ℤ) → List (Entry K)
entries_of {K} t v = map entry_of (reals (filter (λ (e : Held K × ℤ). reaches (pos t) e.1) v))

-- the entries of one key, where it is known whether its value is at least the threshold
abbrev entries_with : {K : Type 0} → Bool → Held K → ℤ → List (Entry K)
entries_with reached x v = map entry_of (reals (cond reached ((x, v) ∷ []) []))

entries_of-append : {K : Type 0} (t : ℕ) (a b : List (Held K × ℤ)) → entries_of t (a ++ b) ≡ entries_of t a ++ entries_of t b
entries_of-append t a b = simp (filter-append, reals-append, map-append)

-- no key is left past the held keys
valued_past : {X : Type 0} (h : Counts X) (s : ℤ) (ds : List ℤ) (j : ℕ) → slice_get h j ≡ None → length (valued h s ds) ≤ j
valued_past [] s ds j e = omega arith
valued_past (x ∷ h) s [] j e = omega arith
valued_past (x ∷ h) s (d ∷ ds) zero e = absurd (cc)
valued_past (x ∷ h) s (d ∷ ds) (suc j) e = omega (arith, valued_past h s ds j e)

-- nor past the draws
valued_within : {X : Type 0} (h : Counts X) (s : ℤ) (ds : List ℤ) → length (valued h s ds) ≤ length ds
valued_within [] s ds = omega arith
valued_within (x ∷ h) s [] = omega arith
valued_within (x ∷ h) s (d ∷ ds) = omega (arith, valued_within h s ds)

-- the j-th held key stands at its value
valued_at : {X : Type 0} (h : Counts X) (s : ℤ) (ds : List ℤ) (j : ℕ) (x : X) (count : ℕ) (d : ℤ) → slice_get h j ≡ Some (x, count) → j < length ds →
    slice_get (valued h s ds) j ≡ Some (x, pos count +ℤ s +ℤ get_or ds j d)
valued_at [] s ds j x count d e l = absurd (cc)
valued_at (f ∷ h) s [] j x count d e l = absurd (omega arith)
valued_at {X} (f ∷ h) s (g ∷ ds) zero x count d e l = let p : f ≡ (x, count) = cc in ap (λ (t : X × ℕ). Some (t.0, pos t.1 +ℤ s +ℤ g)) p
valued_at (f ∷ h) s (g ∷ ds) (suc j) x count d e l = valued_at h s ds j x count d e (omega arith)

-- where j of the held keys have been looked at, and the output was once `old`
record SoFarAs {K : Type 0} (t : ℕ) (v : List (Held K × ℤ)) (old output : List (Entry K)) (j written : ℕ) : Type 0 where
  number : written ≡ length (entries_of t (take j v))
  entries : output ≡ entries_of t (take j v) ++ drop written old

-- the same of a summary's content, closed, so that the steps below are tried on it as a whole
pub SoFar : {K : Type 0} (C : Content K) (s : ℤ) (ds : List ℤ) (t : ℕ) (old output : List (Entry K)) (j written : ℕ) → Type 0
SoFar C s ds t old output j written = SoFarAs t (valued C.held s ds) old output j written

pub begun : {K : Type 0} (C : Content K) (s : ℤ) (ds : List ℤ) (t : ℕ) (old : List (Entry K)) → SoFar C s ds t old old 0 0
unfolding SoFar
begun C s ds t old = record { number = refl; entries = refl }

module _ {K : Type 0} (C : Content K) (s : ℤ) (ds : List ℤ) (t : ℕ) (old output : List (Entry K)) (j written : ℕ) (f : SoFar C s ds t old output j written) where
  abbrev rows : List (Held K × ℤ)
  rows = valued C.held s ds

  -- the value of the j-th held key, by its count
  abbrev value_by : ℕ → ℤ
  value_by count = pos count +ℤ s +ℤ get_or ds j (pos 0)

  no_more : entries_of t (take (j + 1) rows) ≡ entries_of t (take j rows) → SoFar C s ds t old output (j + 1) written
  unfolding SoFar
  no_more same = record { number = f.number ∙ ap length (sym same); entries = f.entries ∙ ap (λ r. r ++ drop written old) (sym same) }

  pub at_none : slice_get C.held j ≡ None → SoFar C s ds t old output (j + 1) written
  at_none e =
      let past : length rows ≤ j = valued_past C.held s ds j e in
      no_more (ap (entries_of t) (take_all (j + 1) rows (omega arith) ∙ sym (take_all j rows past)))

  -- a held key that adds these entries to those so far
  added : (x : Held K) (count : ℕ) (reached : Bool) → slice_get C.held j ≡ Some (x, count) → j < length ds → reaches (pos t) (value_by count) ≡ reached →
      entries_of t (take (j + 1) rows) ≡ entries_of t (take j rows) ++ entries_with reached x (value_by count)
  added x count reached e l b =
      ap (entries_of t) (take_next rows j (x, value_by count) (valued_at C.held s ds j x count (pos 0) e l))
      ∙ entries_of-append t (take j rows) ((x, value_by count) ∷ []) ∙ ap (λ b. entries_of t (take j rows) ++ entries_with b x (value_by count)) b

  pub at_dummy : (x : Held K × ℕ) (i : ℕ) → slice_get C.held j ≡ Some x → x.0 ≡ Dummy i → j < length ds → SoFar C s ds t old output (j + 1) written
  at_dummy x i e is l = go (reaches (pos t) (value_by x.1)) refl
    where
      go : (reached : Bool) → reaches (pos t) (value_by x.1) ≡ reached → SoFar C s ds t old output (j + 1) written
      go true b = no_more (added (Dummy i) x.1 true (e ∙ ap (λ (y : Held K). Some (y, x.1)) is) l b ∙ append-nil _)
      go false b = no_more (added x.0 x.1 false e l b ∙ append-nil _)

  -- the same sum, where the draw is read from a word of 32 bits
  abbrev sum_of : ℕ → ℤ
  sum_of count = pos count +ℤ s +ℤ to_z w32 (of_z w32 (get_or ds j (pos 0)))

  read : (count : ℕ) → mag (get_or ds j (pos 0)) < 2 ^ 31 → value_by count ≡ sum_of count
  read count fits = ap (λ d. pos count +ℤ s +ℤ d) (sym (to_z-of_z w32 (get_or ds j (pos 0)) (record { sfits = fits })))

  pub too_low : (x : K) (count : ℕ) → slice_get C.held j ≡ Some (Real x, count) → mag (get_or ds j (pos 0)) < 2 ^ 31 → j < length ds →
      reaches (pos t) (sum_of count) ≡ false → SoFar C s ds t old output (j + 1) written
  too_low x count e fits l low = no_more (added (Real x) count false e l (ap (reaches (pos t)) (read count fits) ∙ low) ∙ append-nil _)

  -- a real key that adds its entry
  pub entered : (x : K) (count : ℕ) → slice_get C.held j ≡ Some (Real x, count) → mag (get_or ds j (pos 0)) < 2 ^ 31 → j < length ds →
      reaches (pos t) (sum_of count) ≡ true → written < length old →
      SoFar C s ds t old (slice_set output written (record { key = x; value = sum_of count })) (j + 1) (written + 1)
  unfolding SoFar
  entered x count e fits l reached room =
      let entry : Entry K = record { key = x; value = sum_of count } in
      let before = entries_of t (take j rows) in
      let more = added (Real x) count true e l (ap (reaches (pos t)) (read count fits) ∙ reached) ∙ ap (λ v. before ++ entries_with true (Real x) v) (read count fits) in
      record {
        number = omega (arith, f.number, ap length more, length_push before entry);
        entries = ap (λ es. slice_set es written entry) f.entries ∙ write_next before old written entry (sym f.number) room
            ∙ ap (λ r. r ++ drop (written + 1) old) (sym more);
      }

  -- where no draw is left
  module _ (all : length ds ≤ j) where
    every : take j rows ≡ rows
    every = take_all j rows (omega (arith, all, valued_within C.held s ds))

    pub entries_number : written ≡ length (list_of C s ds t)
    unfolding SoFar
    entries_number = f.number ∙ ap (λ a. length (entries_of t a)) every

    pub entries_written : output ≡ after_list (list_of C s ds t) old
    unfolding SoFar
    entries_written =
        f.entries ∙ ap (λ a. entries_of t a ++ drop written old) every
        ∙ ap (λ n. list_of C s ds t ++ drop n old) entries_number

-- what the proof of `write_list` uses
pub ruleset listing = (begun, at_none, at_dummy, too_low, entered)
