-- Entries in rising order: what they are to either side of one of them, and what becomes of their order, of each
-- look-up and of their number where a key comes in, gets another value or leaves.
use Rattle.std.proofs.Common.{◌≡◌, ◌≢◌, ℕ, ◌+◌, ◌==◌, Bool, true, false, cond, List, [], ◌∷◌, ◌++◌, Some, None, length, refl, arith, rules}
use Rattle.std.specs.List.{AllByRecursion}
use Rattle.std.specs.Map.{lookup, remove_entry}
use Rattle.std.specs.Option.{option_map}
use Rattle.std.proofs.lemmas.List.{length-map}
use Rattle.std.proofs.lemmas.List.Sums.{sum_by-append}
use Rattle.keys.specs.Orders.{TotalOrder, same}
use Rattle.keys.specs.Sorted.{Rising, insert_sorted}
use Rattle.keys.proofs.SortedLemmas as sorted
use Rattle.keys.proofs.Lists.{all_parts}
use Rattle.tree.specs.Entries.{Kept, Entries, kept_of, revalued, with_new_value, lying_in}

module _ {K Y : Type 0} (test : K → Bool) where
  pub remove_none : (es : List (K × Y)) → lookup test es ≡ None → remove_entry test es ≡ es
  remove_none [] n = refl
  remove_none (e ∷ es) n = let r = remove_none es in grind arith

  pub length_remove : (es : List (K × Y)) (y : Y) → lookup test es ≡ Some y → length (remove_entry test es) + 1 ≡ length es
  length_remove [] y h = cc
  length_remove (e ∷ es) y h = let r = length_remove es y in grind arith

  all_remove : (P : K → Type 0) (es : List (K × Y)) → AllByRecursion (λ f. P f.0) es → AllByRecursion (λ f. P f.0) (remove_entry test es)
  all_remove P [] h = tt
  all_remove P (e ∷ es) h = let r = all_remove P es h.1 in search rules

module _ {K Y : Type 0} (less : K → K → Bool) where
  -- all keys are above k
  abbrev pub Above : K → List (K × Y) → Type 0
  Above k es = AllByRecursion (λ f. less k f.0 ≡ true) es

  -- all keys are below k
  abbrev pub Below : K → List (K × Y) → Type 0
  Below k es = AllByRecursion (λ f. less f.0 k ≡ true) es

  pub rising_split : (xs ys : List (K × Y)) (e : K × Y) → Rising less (xs ++ e ∷ ys) → Rising less xs × Below e.0 xs × Above e.0 ys × Rising less ys
  rising_split [] ys e h = (tt, tt, h.0, h.1)
  rising_split (x ∷ xs) ys e h =
      let r = rising_split xs ys e h.1 in
      let a = all_parts (λ (f : K × Y). less x.0 f.0 ≡ true) xs (e ∷ ys) h.0 in
      ((a.0, r.0), (a.1.0, r.1), r.2, r.3)

  pub length_insert : (n : K × Y) (es : List (K × Y)) → length (insert_sorted less n es) ≡ length es + 1
  length_insert n [] = omega arith
  length_insert n (e ∷ es) = let r = length_insert n es in grind arith

module _ {K Y : Type 0} (less : K → K → Bool) (order : TotalOrder less) where
  -- among keys above k is none that is not
  none_above : (q k : K) (es : List (K × Y)) → less k q ≡ false → Above less k es → lookup (same less q) es ≡ None
  none_above q k [] n h = refl
  none_above q k (e ∷ es) n h = let r = none_above q k es n h.1 in grind arith

  -- an operation at q, which is before e, after e or e's own key
  pub lookup_before : (q : K) (xs ys : List (K × Y)) (e : K × Y) → Above less e.0 ys → less q e.0 ≡ true → lookup (same less q) (xs ++ e ∷ ys) ≡ lookup (same less q) xs
  lookup_before q [] ys e above h = grind (arith, none_above q e.0 ys)
  lookup_before q (x ∷ xs) ys e above h = let r = lookup_before q xs ys e above h in cc

  pub lookup_after : (q : K) (xs ys : List (K × Y)) (e : K × Y) → Below less e.0 xs → less e.0 q ≡ true → lookup (same less q) (xs ++ e ∷ ys) ≡ lookup (same less q) ys
  lookup_after q [] ys e below h = grind arith
  lookup_after q (x ∷ xs) ys e below h = let r = lookup_after q xs ys e below.1 h in grind arith

  pub lookup_at : (q : K) (xs ys : List (K × Y)) (e : K × Y) → Below less e.0 xs → q ≡ e.0 → lookup (same less q) (xs ++ e ∷ ys) ≡ Some e.1
  lookup_at q [] ys e below h = grind arith
  lookup_at q (x ∷ xs) ys e below h = let r = lookup_at q xs ys e below.1 h in grind arith

  pub insert_before : (n : K × Y) (xs ys : List (K × Y)) (e : K × Y) → less n.0 e.0 ≡ true → insert_sorted less n (xs ++ e ∷ ys) ≡ insert_sorted less n xs ++ e ∷ ys
  insert_before n [] ys e h = grind arith
  insert_before n (x ∷ xs) ys e h = let r = insert_before n xs ys e h in grind arith

  pub insert_after : (n : K × Y) (xs ys : List (K × Y)) (e : K × Y) → Below less e.0 xs → less e.0 n.0 ≡ true → insert_sorted less n (xs ++ e ∷ ys) ≡ xs ++ e ∷ insert_sorted less n ys
  insert_after n [] ys e below h = grind arith
  insert_after n (x ∷ xs) ys e below h = let r = insert_after n xs ys e below.1 h in grind arith

  pub remove_before : (q : K) (xs ys : List (K × Y)) (e : K × Y) → Above less e.0 ys → less q e.0 ≡ true → remove_entry (same less q) (xs ++ e ∷ ys) ≡ remove_entry (same less q) xs ++ e ∷ ys
  remove_before q [] ys e above h = grind (arith, none_above q e.0 ys, remove_none (same less q) ys)
  remove_before q (x ∷ xs) ys e above h = let r = remove_before q xs ys e above h in grind arith

  pub remove_after : (q : K) (xs ys : List (K × Y)) (e : K × Y) → Below less e.0 xs → less e.0 q ≡ true → remove_entry (same less q) (xs ++ e ∷ ys) ≡ xs ++ e ∷ remove_entry (same less q) ys
  remove_after q [] ys e below h = grind arith
  remove_after q (x ∷ xs) ys e below h = let r = remove_after q xs ys e below.1 h in grind arith

  pub remove_at : (q : K) (xs ys : List (K × Y)) (e : K × Y) → Below less e.0 xs → q ≡ e.0 → remove_entry (same less q) (xs ++ e ∷ ys) ≡ xs ++ ys
  remove_at q [] ys e below h = grind arith
  remove_at q (x ∷ xs) ys e below h = let r = remove_at q xs ys e below.1 h in grind arith

  none_is : (q : K) (es : List (K × Y)) → lookup (same less q) es ≡ None → AllByRecursion (λ f. q ≢ f.0) es
  none_is q [] none = tt
  none_is q (e ∷ es) none = let r = none_is q es in (λ same. grind arith, r (grind arith))

  pub rising_insert : (n : K × Y) (es : List (K × Y)) → Rising less es → lookup (same less n.0) es ≡ None → Rising less (insert_sorted less n es)
  rising_insert n es rising none = sorted.rising_insert less order n es rising (none_is n.0 es none)

  pub rising_remove : (q : K) (es : List (K × Y)) → Rising less es → Rising less (remove_entry (same less q) es)
  rising_remove q [] h = tt
  rising_remove q (e ∷ es) h =
      let r = rising_remove q es h.1 in
      search (rules, all_remove (same less q) (λ k. less e.0 k ≡ true) es h.0)

  -- what a look-up of p answers afterwards
  pub lookup_insert : (n : K × Y) (p : K) (es : List (K × Y)) → lookup (same less n.0) es ≡ None → lookup (same less p) (insert_sorted less n es) ≡ cond (same less p n.0) (Some n.1) (lookup (same less p) es)
  lookup_insert n p [] none = refl
  lookup_insert n p (e ∷ es) none = let r = lookup_insert n p es in grind arith

  pub lookup_remove : (q p : K) (es : List (K × Y)) → Rising less es → lookup (same less p) (remove_entry (same less q) es) ≡ cond (same less p q) None (lookup (same less p) es)
  lookup_remove q p [] h = grind arith
  lookup_remove q p (e ∷ es) h = let r = lookup_remove q p es h.1 in grind (arith, none_above p e.0 es)

module _ {K V : Type 0} (less : K → K → Bool) (order : TotalOrder less) (q : K) (w : V) where
  pub with_value_none : (es : Entries K V) → kept_of less q es ≡ None → with_new_value less q w es ≡ es
  unfolding revalued
  with_value_none [] n = refl
  with_value_none (e ∷ es) n = let r = with_value_none es in grind arith

  pub with_value_before : (xs ys : Entries K V) (e : K × Kept V) → Above less e.0 ys → less q e.0 ≡ true → with_new_value less q w (xs ++ e ∷ ys) ≡ with_new_value less q w xs ++ e ∷ ys
  unfolding revalued
  with_value_before [] ys e above h = grind (arith, none_above less order q e.0 ys, with_value_none ys)
  with_value_before (x ∷ xs) ys e above h = let r = with_value_before xs ys e above h in cc

  pub with_value_after : (xs ys : Entries K V) (e : K × Kept V) → Below less e.0 xs → less e.0 q ≡ true → with_new_value less q w (xs ++ e ∷ ys) ≡ xs ++ e ∷ with_new_value less q w ys
  unfolding revalued
  with_value_after [] ys e below h = grind arith
  with_value_after (x ∷ xs) ys e below h = let r = with_value_after xs ys e below.1 h in grind arith

  pub with_value_at : (xs ys : Entries K V) (e : K × Kept V) → Below less e.0 xs → Above less e.0 ys → q ≡ e.0 → with_new_value less q w (xs ++ e ∷ ys) ≡ xs ++ (e.0, record e.1 { value = w }) ∷ ys
  unfolding revalued
  with_value_at [] ys e below above h = grind (arith, none_above less order q e.0 ys, with_value_none ys)
  with_value_at (x ∷ xs) ys e below above h = let r = with_value_at xs ys e below.1 above h in grind arith

  all_with_value : (P : K → Type 0) (es : Entries K V) → AllByRecursion (λ f. P f.0) es → AllByRecursion (λ f. P f.0) (with_new_value less q w es)
  all_with_value P [] h = tt
  all_with_value P (e ∷ es) h = (h.0, all_with_value P es h.1)

  pub rising_with_value : (es : Entries K V) → Rising less es → Rising less (with_new_value less q w es)
  rising_with_value [] h = tt
  rising_with_value (e ∷ es) h = (all_with_value (λ k. less e.0 k ≡ true) es h.0, rising_with_value es h.1)

  pub kept_with_value : (p : K) (es : Entries K V) → kept_of less p (with_new_value less q w es) ≡ option_map (revalued less q w p) (kept_of less p es)
  unfolding revalued
  kept_with_value p [] = refl
  kept_with_value p (e ∷ es) = let r = kept_with_value p es in grind arith

  pub length_with_value : (es : Entries K V) → length (with_new_value less q w es) ≡ length es
  length_with_value es = length-map es _

pub lying_in_append : {K V : Type 0} (j : ℕ) (xs ys : Entries K V) → lying_in j (xs ++ ys) ≡ lying_in j xs + lying_in j ys
lying_in_append {K} {V} j xs ys = sum_by-append (λ (e : K × Kept V). cond (e.1.cell == j) 1 0) xs ys
