-- A fresh sketch: dummies come in by number, each into the cell of its number. Idea: each is above all that are there.
use Rattle.std.proofs.Common.{◌≡◌, ℕ, zero, suc, ◌+◌, ◌==◌, ◌<◌, ◌≤◌, Bool, true, false, ◌&&◌, List, [], ◌∷◌, ◌++◌, Some, None, Ok, Result, OnOk, length, replicate, drop, ltb, refl, sym, ap, ◌∙◌, subst, arith}
use Rattle.std.specs.Prelude.{slice_get, min}
use Rattle.std.specs.Option.{is_some}
use Rattle.std.proofs.lemmas.List.{length-append, length-replicate, length-drop}
use Rattle.std.proofs.lemmas.Bool.Decides.{nat_tests}
use Rattle.keys.specs.Orders.{TotalOrder, same}
use Rattle.keys.specs.Helds.{less_held}
use Rattle.keys.specs.KindOrdersLemmas.{held_total, not_both}
use Rattle.keys.specs.declared.held.Held.{Held}
use Rattle.keys.specs.declared.held.Held.TheVariants.{Dummy}
use Rattle.tree.specs.declared.refusal.NotInserted.{NotInserted}
use Rattle.tree.specs.declared.cell.Cell.{Cell}
use Rattle.tree.specs.declared.cell.Cell.TheVariants.{Blank}
use Rattle.tree.specs.Entries.{Entries, kept_of, value_of, with_key, lying_in}
use Rattle.tree.specs.Trees.{View, insert_answer, OthersStay, Arranged}
use Rattle.model.specs.Plans.{Entries as EntryList}
use Rattle.model.specs.Sketches.{sketch, dummies_from}
use Rattle.model.proofs.SketchLaws.{sketch_lawful}
use Rattle.summaries.specs.Calls.{Stands}
use Rattle.sketch.specs.Making.{make_answer}
use Rattle.sketch.specs.Orders.{Rank, TwoOrders, less_rank, is_stored, Tied, LentFirst}
use Rattle.sketch.specs.Sketches.{counted, SketchView, content_of, IsSketch}
use Rattle.sketch.proofs.Exchanging.{lying_more}
use Rattle.sketch.proofs.Tying.{rank_total}

-- what a tree is while it is filled: its entries, and its own cells among those that were lent
pub record FilledAs {K V : Type 0} (less : K → K → Bool) (k : ℕ) (lent : List (Cell K V)) (es : Entries K V) (t : View K V) : Type 0 where
  pub entries : t.entries ≡ es
  pub first : LentFirst k lent t
  pub arranged : Arranged less t

unfoldable pub Filled : {K V : Type 0} (less : K → K → Bool) (k : ℕ) (lent : List (Cell K V)) (es : Entries K V) (t : View K V) → Type 0
Filled less k lent es t = FilledAs less k lent es t

-- n keys by number from j on, each in the cell of its number
abbrev pub rows : {K V : Type 0} → (ℕ → K) → V → (j n : ℕ) → Entries K V
rows f w j zero = []
rows f w j (suc n) = (f j, record { value = w; cell = j }) ∷ rows f w (suc j) n

module _ {K V : Type 0} (less : K → K → Bool) (order : TotalOrder less) (f : ℕ → K) (w : V) (rises : (i j : ℕ) → i < j → less (f i) (f j) ≡ true) where
  rows_add : (j n : ℕ) → with_key less (f (j + n)) w (j + n) (rows f w j n) ≡ rows f w j (suc n)
  rows_add j zero = let e : j + 0 ≡ j = omega arith in ap (λ (m : ℕ). (f m, record { value = w; cell = m }) ∷ []) e
  rows_add j (suc n) =
      let e : suc j + n ≡ j + suc n = omega arith in
      let r = subst (λ (m : ℕ). with_key less (f m) w m (rows f w (suc j) n) ≡ rows f w (suc j) (suc n)) e (rows_add (suc j) n) in
      let b = not_both less order (f j) (f (j + suc n)) (rises j (j + suc n) (omega arith)) in
      grind arith

  rows_apart : (i j n : ℕ) → j + n ≤ i → lying_in i (rows f w j n) ≡ 0
  rows_apart i j zero h = refl
  rows_apart i j (suc n) h =
      let r = rows_apart i (suc j) n (omega arith) in
      let m = lying_more i (f j, record { value = w; cell = j }) (rows f w (suc j) n) in
      let other : (j == i) ≡ false = grind (arith, nat_tests) in
      grind arith

  rows_none : (i j n : ℕ) → j + n ≤ i → kept_of less (f i) (rows f w j n) ≡ None
  rows_none i j zero h = refl
  rows_none i j (suc n) h =
      let r = rows_none i (suc j) n (omega arith) in
      let b = rises j i (omega arith) in
      grind arith

  -- the next key can be put in
  pub next_fits : (k n : ℕ) (lent : List (Cell K V)) (t : View K V) → Filled less k lent (rows f w 0 n) t → n < k → insert_answer less (f n) n t ≡ Ok tt
  unfolding Filled Arranged
  next_fits k n lent t h l =
      let blank : slice_get t.cells n ≡ Some Blank =
      h.arranged.blank n (omega (arith, h.first.own)) (ap (lying_in n) h.entries ∙ rows_apart n 0 n (omega arith)) in
      let inside : ltb n t.own ≡ true = let o = h.first.own in grind (arith, nat_tests) in
      let none : kept_of less (f n) t.entries ≡ None = ap (kept_of less (f n)) h.entries ∙ rows_none n 0 n (omega arith) in
      grind arith

  pub next_filled : (k n : ℕ) (lent : List (Cell K V)) (s t : View K V) (r : Result (Unit {0}) NotInserted) → Filled less k lent (rows f w 0 n) s → r ≡ Ok tt →
      OnOk r (t.entries ≡ with_key less (f n) w n s.entries) → OthersStay s t → Arranged less t → Filled less k lent (rows f w 0 (n + 1)) t
  unfolding Filled
  next_filled k n lent s t r h ok when o a =
      let more : suc n ≡ n + 1 = omega arith in
      let from_zero : 0 + n ≡ n = omega arith in
      record {
        entries = subst (λ x. OnOk x (t.entries ≡ with_key less (f n) w n s.entries)) ok when ∙ ap (with_key less (f n) w n) h.entries ∙ subst (λ (m : ℕ). with_key less (f m) w m (rows f w 0 n) ≡ rows f w 0 (suc n)) from_zero (rows_add 0 n) ∙ ap (rows f w 0) more;
        first = record {
          own = o.own ∙ h.first.own;
          long = o.long ∙ h.first.long;
          beyond = λ j past. o.beyond j (omega (arith, h.first.own)) ∙ h.first.beyond j past;
        };
        arranged = a;
      }

-- the cells from k on are as they were
past_own : {C : Type 0} (b : C) (k : ℕ) (lent : List C) (j : ℕ) → k ≤ length lent → k ≤ j → slice_get (replicate k b ++ drop k lent) j ≡ slice_get lent j
past_own b zero lent j h p = refl
past_own b (suc k) [] j h p = absurd (omega arith)
past_own b (suc k) (c ∷ lent) zero h p = absurd (omega arith)
past_own b (suc k) (c ∷ lent) (suc j) h p = past_own b k lent j (omega arith) (omega arith)

-- a fresh tree has no entries
pub first_filled : {K V : Type 0} (less : K → K → Bool) (k : ℕ) (lent : List (Cell K V)) (t : View K V) → k ≤ length lent → t.own ≡ min k (length lent) → t.entries ≡ [] →
    t.cells ≡ replicate (min k (length lent)) Blank ++ drop k lent → Arranged less t → Filled less k lent [] t
unfolding Filled
first_filled {K} {V} less k lent t h o e c a =
    let m : min k (length lent) ≡ k = omega arith in
    let cells : t.cells ≡ replicate k Blank ++ drop k lent = c ∙ ap (λ (n : ℕ). replicate n Blank ++ drop k lent) m in
    record {
      entries = e;
      first = record {
        own = o ∙ m;
        long = ap length cells ∙ simp (length-append, length-replicate, length-drop) (omega arith);
        beyond = λ j past. ap (λ cs. slice_get cs j) cells ∙ past_own Blank k lent j h past;
      };
      arranged = a;
    }

abbrev pub dummy_keys : {K : Type 0} → ℕ → Entries (Held K) ℕ
dummy_keys n = rows Dummy 0 0 n

abbrev pub dummy_rank : {K : Type 0} → ℕ → Rank K
dummy_rank j = record { first = 0; second = Dummy j }

abbrev pub dummy_ranks : {K : Type 0} → ℕ → Entries (Rank K) (Unit {0})
dummy_ranks n = rows dummy_rank tt 0 n

module _ {K : Type 0} (less : K → K → Bool) (order : TotalOrder less) where
  dummies_rise : (i j : ℕ) → i < j → less_held less (Dummy i) (Dummy j) ≡ true
  dummies_rise i j h = grind (arith, nat_tests)

  ranks_rise : (i j : ℕ) → i < j → less_rank less (dummy_rank i) (dummy_rank j) ≡ true
  ranks_rise i j h = grind (arith, nat_tests)

  pub key_fits : (k n : ℕ) (lent : List (Cell (Held K) ℕ)) (t : View (Held K) ℕ) → Filled (less_held less) k lent (dummy_keys n) t → n < k → insert_answer (less_held less) (Dummy n) n t ≡ Ok tt
  key_fits = next_fits (less_held less) (held_total less order) Dummy 0 dummies_rise

  pub rank_fits : (k n : ℕ) (lent : List (Cell (Rank K) (Unit {0}))) (t : View (Rank K) (Unit {0})) → Filled (less_rank less) k lent (dummy_ranks n) t → n < k → insert_answer (less_rank less) (dummy_rank n) n t ≡ Ok tt
  rank_fits = next_fits (less_rank less) (rank_total less order) dummy_rank tt ranks_rise

  pub key_filled : (k n : ℕ) (lent : List (Cell (Held K) ℕ)) (s t : View (Held K) ℕ) (r : Result (Unit {0}) NotInserted) → Filled (less_held less) k lent (dummy_keys n) s → r ≡ Ok tt →
      OnOk r (t.entries ≡ with_key (less_held less) (Dummy n) 0 n s.entries) → OthersStay s t → Arranged (less_held less) t → Filled (less_held less) k lent (dummy_keys (n + 1)) t
  key_filled = next_filled (less_held less) (held_total less order) Dummy 0 dummies_rise

  pub rank_filled : (k n : ℕ) (lent : List (Cell (Rank K) (Unit {0}))) (s t : View (Rank K) (Unit {0})) (r : Result (Unit {0}) NotInserted) → Filled (less_rank less) k lent (dummy_ranks n) s → r ≡ Ok tt →
      OnOk r (t.entries ≡ with_key (less_rank less) (dummy_rank n) tt n s.entries) → OthersStay s t → Arranged (less_rank less) t → Filled (less_rank less) k lent (dummy_ranks (n + 1)) t
  rank_filled = next_filled (less_rank less) (rank_total less order) dummy_rank tt ranks_rise

-- a rank of a dummy is found exactly if its count is 0
module _ {K : Type 0} (less : K → K → Bool) (order : TotalOrder less) where
  same_dummy_rank : (m : ℕ) (x : Held K) (j : ℕ) → same (less_rank less) (record { first = m; second = x }) (dummy_rank j) ≡ (m == 0) && same (less_held less) x (Dummy j)
  same_dummy_rank m x j = grind (arith, nat_tests)

  no_other_rank : (m : ℕ) (x : Held K) (j n : ℕ) → 1 ≤ m → kept_of (less_rank less) (record { first = m; second = x }) (rows {V = Unit {0}} dummy_rank tt j n) ≡ None
  no_other_rank m x j zero h = refl
  no_other_rank m x j (suc n) h =
      let r = no_other_rank m x (suc j) n h in
      let e = same_dummy_rank m x j in
      let z : (m == 0) ≡ false = grind (arith, nat_tests) in
      grind arith

  rows_tied : (m : ℕ) (x : Held K) (j n : ℕ) →
      is_some (kept_of (less_rank less) (record { first = m; second = x }) (rows {V = Unit {0}} dummy_rank tt j n)) ≡ is_stored (value_of (less_held less) x (rows Dummy 0 j n)) m
  rows_tied m x j zero = refl
  rows_tied zero x j (suc n) =
      let r = rows_tied zero x (suc j) n in
      let e = same_dummy_rank zero x j in
      grind (arith, nat_tests)
  rows_tied (suc m) x j (suc n) =
      let r = rows_tied (suc m) x (suc j) n in
      let e = same_dummy_rank (suc m) x j in
      let o = no_other_rank (suc m) x (suc j) n (omega arith) in
      grind (arith, nat_tests)

-- a fresh sketch
module _ {K : Type 0} (less : K → K → Bool) (order : TotalOrder less) (k : ℕ) (keys : List (Cell (Held K) ℕ)) (ranks : List (Cell (Rank K) (Unit {0}))) (t : TwoOrders K)
    (by_key : Filled (less_held less) k keys (dummy_keys k) t.keys) (by_rank : Filled (less_rank less) k ranks (dummy_ranks k) t.ranks) where
  fresh : SketchView K
  fresh = record { facts = record { k = k; n = 0; l = 0 }; orders = t }

  counted_rows : (j n : ℕ) → counted 0 (rows {K = Held K} Dummy 0 j n) ≡ dummies_from j n
  counted_rows j zero = refl
  counted_rows j (suc n) = ap (λ h. (Dummy j, 0) ∷ h) (counted_rows (suc j) n)

  pub fresh_content : content_of (record { facts = record { k = k; n = 0; l = 0 }; orders = t }) ≡ (sketch less k).fresh
  unfolding Filled content_of
  fresh_content = ap (λ h. record { k = k; n = 0; l = 0; held = h }) (ap (counted 0) by_key.entries ∙ counted_rows 0 k)

  pub keys_first : LentFirst k keys t.keys
  unfolding Filled
  keys_first = by_key.first

  pub ranks_first : LentFirst k ranks t.ranks
  unfolding Filled
  ranks_first = by_rank.first

  fresh_tied : Tied less t
  unfolding Tied Filled
  fresh_tied = record {
    ordered = order;
    keys = by_key.arranged;
    ranks = by_rank.arranged;
    tied = λ m x. ap (λ es. is_some (kept_of (less_rank less) (record { first = m; second = x }) es)) by_rank.entries ∙ rows_tied less order m x 0 k ∙ ap (λ es. is_stored (value_of (less_held less) x es) m) (sym by_key.entries);
  }

  pub fresh_sketch : 2 ≤ k → k ≤ 1024 → IsSketch less (record { facts = record { k = k; n = 0; l = 0 }; orders = t })
  unfolding IsSketch
  fresh_sketch some few =
      let laws = sketch_lawful less order k in
      let none : EntryList (sketch less k) [] = record { admitted = tt; few = omega arith } in
      record {
        some = some;
        few = few;
        laid = record { tied = fresh_tied; key_cells = keys_first.own; rank_cells = ranks_first.own; least = λ x m e. omega arith };
        stands = subst (Stands less) (sym fresh_content) (record { holds_k = laws.holds_k [] none; balanced = laws.balanced [] none });
      }

-- what is known of numbers for which a sketch is made
pub record Fitting (k key_cells rank_cells : ℕ) : Type 0 where
  pub some : 2 ≤ k
  pub few : k ≤ 1024
  pub keys : k ≤ key_cells
  pub ranks : k ≤ rank_cells

pub fitting : (k a b : ℕ) → make_answer k a b ≡ None → Fitting k a b
fitting k a b e = record { some = grind (arith, nat_tests); few = grind (arith, nat_tests); keys = grind (arith, nat_tests); ranks = grind (arith, nat_tests) }
