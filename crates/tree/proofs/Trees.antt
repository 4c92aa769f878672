-- A whole tree after each operation.
use Rattle.std.proofs.Common.{◌≡◌, ℕ, zero, suc, ◌+◌, ◌-◌, ◌<◌, ◌≤◌, ◌^◌, Bool, true, cond, List, [], ◌∷◌, ◌++◌, Option, Some, None, length, length-append, replicate, take, min, drop, slice_get, slice_set, inl, inr, refl, sym, ap, subst, ◌∙◌, arith}
use Rattle.std.proofs.Math.ListN.{length-replicate, length-set}
use Rattle.std.proofs.lemmas.List.{length-take-le}
use Rattle.std.specs.List.{AllByRecursion}
use Rattle.std.proofs.lemmas.List.Elements.{All-from_recursion}
use Rattle.std.specs.Option.{option_map}
use Rattle.std.proofs.lemmas.Bool.{cases_eq, cases_lt}
use Rattle.std.proofs.lemmas.Bool.Decides.{nat_tests}
use Rattle.std.proofs.lemmas.Option.{slice_get_past}
use Rattle.std.proofs.lemmas.Grind.{common_steps}
use Rattle.keys.specs.Orders.{TotalOrder, same}
use Rattle.keys.specs.Sorted.{Rising}
use Rattle.tree.specs.declared.cell.Cell.{Cell}
use Rattle.tree.specs.declared.cell.Cell.TheVariants.{Blank}
use Rattle.tree.specs.Entries.{Kept, Entries, item, kept_of, with_key, revalued, with_new_value, without_key}
use Rattle.tree.specs.Shapes.{Shape, leaf, node, uses, size, one_at, entries, shape_at, Stands, Lies}
use Rattle.tree.specs.Operations.{seek, put, change, cut, place, Becomes}
use Rattle.tree.specs.Trees.{View, is_free, Arranged, OthersStay, IsTree, view_of, in_cell}
use Rattle.tree.proofs.Cells.{leaf_lies, size_most, stands_within, one_at_itself, shape_none, shape_is, one_at_here, one_at_other}
use Rattle.tree.proofs.Placing.{place_is}
use Rattle.tree.proofs.Relinking.{set_same, set_other, lies_kept}
use Rattle.tree.proofs.Lists.{remove_none, rising_insert, rising_remove, rising_with_value, lookup_insert, lookup_remove, kept_with_value, length_insert, length_remove, length_with_value}
use Rattle.tree.proofs.Listed.{size_is, uses_is, seek_is, put_is, change_is, cut_is}

all_join : {X : Type 0} (P : X → Type 0) (xs ys : List X) → AllByRecursion P xs → AllByRecursion P ys → AllByRecursion P (xs ++ ys)
all_join P [] ys a b = b
all_join P (x ∷ xs) ys a b = (a.0, all_join P xs ys a.1 b)

-- each key and its value are in its cell
holds : {K V : Type 0} (cs : List (Cell K V)) (t : Shape K V) → Stands cs t → AllByRecursion (λ e. in_cell (slice_get cs e.1.cell) ≡ Some (e.0, e.1.value)) (entries t)
holds cs leaf s = tt
holds {K} {V} cs (node l i k v u) s =
    all_join (λ (e : K × Kept V). in_cell (slice_get cs e.1.cell) ≡ Some (e.0, e.1.value)) (entries l) _ (holds cs l s.1) (ap in_cell s.0, holds cs u s.2)

module _ {K V : Type 0} (less : K → K → Bool) (own len : ℕ) (cs : List (Cell K V)) (r : Option ℕ) where
  pub tree_lies : IsTree less own len cs r → Lies cs r
  unfolding IsTree Lies
  tree_lies t = t.lies

  pub tree_room : IsTree less own len cs r → own ≤ length cs
  unfolding IsTree
  tree_room t = t.room

  pub tree_seek : (q : K) → IsTree less own len cs r → kept_of less q (entries (shape_at cs r)) ≡ seek less q (shape_at cs r)
  unfolding IsTree
  tree_seek q t = sym (seek_is less t.ordered q (shape_at cs r) t.rising)

  pub tree_arranged : IsTree less own len cs r → Arranged less (view_of own cs r)
  unfolding IsTree Arranged
  tree_arranged t = record {
    rising = t.rising;
    room = t.room;
    holds = All-from_recursion _ (entries (shape_at cs r)) (holds cs (shape_at cs r) t.lies.stands);
    apart = λ j. omega (arith, uses_is j (shape_at cs r), t.lies.apart j);
    within = λ j past. omega (arith, uses_is j (shape_at cs r), t.within j past);
    blank = λ j inside none. t.blank j inside (omega (arith, uses_is j (shape_at cs r)));
  }

pub empty_entries : {K V : Type 0} (cs : List (Cell K V)) → entries (shape_at cs None) ≡ []
empty_entries cs = ap entries (shape_none cs)

get_replicate : {X : Type 0} (n : ℕ) (x : X) (ys : List X) (j : ℕ) → j < n → slice_get (replicate n x ++ ys) j ≡ Some x
get_replicate zero x ys j h = absurd (omega arith)
get_replicate (suc n) x ys zero h = refl
get_replicate (suc n) x ys (suc j) h = get_replicate n x ys j (omega arith)

pub empty_tree : {K V : Type 0} (less : K → K → Bool) (own : ℕ) (cs : List (Cell K V)) → TotalOrder less → own < 2 ^ 64 → IsTree less own 0 (replicate own Blank ++ cs) None
unfolding IsTree
empty_tree {K} {V} less own cs order fits = record {
  ordered = order;
  lies = rw (shape_none (replicate own Blank ++ cs)) (leaf_lies (replicate own Blank ++ cs));
  within = λ j past. ap (uses j) (shape_none (replicate own Blank ++ cs));
  room = omega (arith, length-append (replicate own Blank) cs, length-replicate {A = Cell K V} own Blank);
  fits = fits;
  blank = λ j inside none. get_replicate own Blank cs j inside;
  rising = rw (shape_none (replicate own Blank ++ cs)) tt;
  counted = sym (ap size (shape_none (replicate own Blank ++ cs)));
}

-- its own cells, when they are blank
module _ {K V : Type 0} (less : K → K → Bool) (order : TotalOrder less) (own n m : ℕ) (cs bs : List (Cell K V)) (few : own ≡ min n (length cs)) (fits : own < 2 ^ 64) (blank : bs ≡ replicate m Blank) (parts : m ≡ length (take own cs)) where
  pub made : IsTree less own 0 (bs ++ drop own cs) None
  made =
      let e : m ≡ own = omega (arith, length-take-le {A = Cell K V} own cs (omega arith)) in
      rw (blank, e) (empty_tree less own (drop own cs) order fits)

  pub made_arranged : Arranged less (view_of own (bs ++ drop own cs) None)
  made_arranged = tree_arranged less own 0 (bs ++ drop own cs) None made

module _ {K V : Type 0} (less : K → K → Bool) (own len : ℕ) (cs : List (Cell K V)) (r : Option ℕ) where
  pub tree_len : IsTree less own len cs r → length (entries (shape_at cs r)) ≡ len
  unfolding IsTree
  tree_len t = size_is (shape_at cs r) ∙ sym t.counted

  pub tree_few : IsTree less own len cs r → len ≤ own
  unfolding IsTree
  tree_few t = omega (arith, size_most own (shape_at cs r) t.lies.apart t.within, t.counted)

pub place_at : {K V : Type 0} (cs : List (Cell K V)) (r : Option ℕ) (j : ℕ) (k : K) (v : V) → place j (shape_at cs r) ≡ Some (k, v) → option_map item (slice_get (entries (shape_at cs r)) j) ≡ Some (k, v)
place_at cs r j k v e = sym (place_is (shape_at cs r) j) ∙ e

pub place_past : {K V : Type 0} (cs : List (Cell K V)) (r : Option ℕ) (j : ℕ) → size (shape_at cs r) ≤ j → option_map item (slice_get (entries (shape_at cs r)) j) ≡ None
place_past cs r j past = ap (option_map item) (slice_get_past (entries (shape_at cs r)) j (omega (arith, size_is (shape_at cs r))))

free_inside : {K V : Type 0} (v : View K V) (at : ℕ) → true ≡ is_free v at → at < v.own
free_inside v at free = elim (cases_lt at v.own) [ inl h ↦ h | inr h ↦ absurd (grind (arith, nat_tests)) ]

-- what is known of a tree that stands for these entries after an operation
record Next {K V : Type 0} (less : K → K → Bool) (own : ℕ) (cs ds : List (Cell K V)) (r s : Option ℕ) (list : Entries K V) : Type 0 where
  pub is : entries (shape_at ds s) ≡ list
  pub tree : IsTree less own (length list) ds s
  pub arranged : Arranged less (view_of own ds s)
  pub others : OthersStay (view_of own cs r) (view_of own ds s)

-- A tree has become t. The cell that it has taken up, if any, is its own, and the one that it has given up is blank.
module _ {K V : Type 0} (less : K → K → Bool) (own len : ℕ) (cs ds es : List (Cell K V)) (r s taken freed : Option ℕ) (t : Shape K V) (list : Entries K V)
    (old : IsTree less own len cs r) (b : Becomes cs ds r s taken freed t) (list_is : entries t ≡ list) (rising : Rising less list) where
  next : ((j : ℕ) → own ≤ j → one_at taken j ≡ 0) → ((j : ℕ) → uses j t + one_at freed j ≤ 1)
      → ((j : ℕ) → one_at freed j + one_at taken j ≤ uses j (shape_at cs r) + uses j t)
      → length es ≡ length ds → ((j : ℕ) → 1 ≤ one_at freed j → slice_get es j ≡ Some Blank) → ((j : ℕ) → one_at freed j ≡ 0 → slice_get es j ≡ slice_get ds j)
      → Next less own cs es r s list
  unfolding IsTree Becomes
  next inside once apart long blanked others =
      let here = lies_kept ds es s t b.lies (λ j used. others j (omega (arith, once j))) in
      let is = shape_is es s t here in
      let stays : (j : ℕ) → uses j (shape_at cs r) ≡ 0 → uses j t ≡ 0 → slice_get es j ≡ slice_get cs j
      = λ j before after. others j (omega (arith, apart j)) ∙ b.kept j (omega (arith, apart j)) in
      let tree : IsTree less own (length list) es s = record {
        ordered = old.ordered;
        lies = rw is here;
        within = λ j past. omega (arith, ap (uses j) is, b.cells j, old.within j past, inside j past);
        room = omega (arith, old.room, b.long, long);
        fits = old.fits;
        blank = λ j below free. elim (cases_lt 0 (one_at freed j)) [
          | inl gone ↦ blanked j gone
          | inr none ↦ (let before : uses j (shape_at cs r) ≡ 0 = omega (arith, ap (uses j) is, b.cells j) in stays j before (omega (arith, ap (uses j) is)) ∙ old.blank j below before)
        ];
        rising = rw (is, list_is) rising;
        counted = omega (arith, size_is t, ap size is, ap length list_is);
      } in
      record {
        is = ap entries is ∙ list_is;
        tree = tree;
        arranged = tree_arranged less own (length list) es s tree;
        others = record {
          own = refl;
          long = long ∙ b.long;
          stay = λ j before after. stays j (omega (arith, uses_is j (shape_at cs r))) (omega (arith, uses_is j (shape_at es s), ap (uses j) is));
          beyond = λ j past. stays j (old.within j past) (omega (arith, b.cells j, old.within j past, inside j past));
        };
      }

-- a key put in
module _ {K V : Type 0} (less : K → K → Bool) (own len : ℕ) (cs ds : List (Cell K V)) (r s : Option ℕ) (q : K) (w : V) (at : ℕ)
    (t : IsTree less own len cs r) (absent : seek less q (shape_at cs r) ≡ None) (inside : at < own) (b : Becomes cs ds r s (Some at) None (put less q w at (shape_at cs r))) where
  abbrev with_new : Entries K V
  with_new = with_key less q w at (entries (shape_at cs r))

  abbrev new : K × Kept V
  new = (q, record { value = w; cell = at })

  insert_none : kept_of less q (entries (shape_at cs r)) ≡ None
  insert_none = tree_seek less own len cs r q t ∙ absent

  insert_next : Next less own cs ds r s with_new
  unfolding IsTree Becomes
  insert_next = next less own len cs ds ds r s (Some at) None (put less q w at (shape_at cs r)) with_new t b
      (put_is less t.ordered q w at (shape_at cs r) t.rising absent) (rising_insert less t.ordered new (entries (shape_at cs r)) t.rising insert_none)
      (λ j past. one_at_other at j (λ e. omega arith)) (λ j. omega (arith, b.lies.apart j)) (λ j. omega (arith, b.cells j)) refl (λ j gone. absurd (omega arith)) (λ j none. refl)

  insert_length : length with_new ≡ len + 1
  insert_length = omega (arith, length_insert less new (entries (shape_at cs r)), tree_len less own len cs r t)

  pub insert_tree : IsTree less own (len + 1) ds s
  insert_tree = subst (λ n. IsTree less own n ds s) insert_length insert_next.tree

  pub insert_fits : len + 1 < 2 ^ 64
  unfolding IsTree
  insert_fits = omega (arith, tree_few less own (len + 1) ds s insert_tree, t.fits)

-- a value changed
module _ {K V : Type 0} (less : K → K → Bool) (own len : ℕ) (cs ds : List (Cell K V)) (r : Option ℕ) (q : K) (w : V)
    (t : IsTree less own len cs r) (b : Becomes cs ds r r None None (change less q w (shape_at cs r))) where
  change_next : Next less own cs ds r r (with_new_value less q w (entries (shape_at cs r)))
  unfolding IsTree Becomes
  change_next = next less own len cs ds ds r r None None (change less q w (shape_at cs r)) (with_new_value less q w (entries (shape_at cs r))) t b
      (change_is less t.ordered q w (shape_at cs r) t.rising) (rising_with_value less t.ordered q w (entries (shape_at cs r)) t.rising)
      (λ j past. refl) (λ j. omega (arith, b.lies.apart j)) (λ j. omega arith) refl (λ j gone. absurd (omega arith)) (λ j none. refl)

  pub change_tree : IsTree less own len ds r
  unfolding IsTree
  change_tree = subst (λ n. IsTree less own n ds r) (length_with_value less t.ordered q w (entries (shape_at cs r)) ∙ tree_len less own len cs r t) change_next.tree

some_of : {A B : Type 0} (g : A → B) (o : Option A) (y : B) → option_map g o ≡ Some y → (x : A) × (o ≡ Some x)
some_of g None y e = absurd cc
some_of g (Some x) y e = (x, refl)

-- a key taken out, and its cell made blank
module _ {K V : Type 0} (less : K → K → Bool) (own len : ℕ) (cs ds : List (Cell K V)) (r s : Option ℕ) (q : K) (at : ℕ)
    (t : IsTree less own len cs r) (found : option_map (λ x. x.cell) (seek less q (shape_at cs r)) ≡ Some at) (b : Becomes cs ds r s None (Some at) (cut less q (shape_at cs r))) where
  abbrev after : List (Cell K V)
  after = slice_set ds at Blank

  pub remove_within : at < length ds
  unfolding IsTree Becomes
  remove_within = elim (cases_lt at (length ds)) [ inl h ↦ h | inr h ↦ absurd (omega (arith, b.cells at, one_at_itself at, b.long, stands_within cs (shape_at cs r) t.lies.stands at)) ]

  remove_next : Next less own cs after r s (without_key less q (entries (shape_at cs r)))
  unfolding IsTree Becomes
  remove_next = next less own len cs ds after r s None (Some at) (cut less q (shape_at cs r)) (without_key less q (entries (shape_at cs r))) t b
      (cut_is less t.ordered q (shape_at cs r) t.rising) (rising_remove less t.ordered q (entries (shape_at cs r)) t.rising)
      (λ j past. refl) (λ j. omega (arith, b.cells j, t.lies.apart j)) (λ j. omega (arith, b.cells j)) (length-set ds at Blank)
      (λ j gone. elim (cases_eq j at) [
        | inl e ↦ ap (slice_get after) e ∙ set_same ds at Blank remove_within
        | inr apart ↦ absurd (omega (arith, one_at_other at j apart))
      ])
      (λ j none. set_other ds at Blank j (λ e. omega (arith, one_at_here at j e)))

  remove_length : length (without_key less q (entries (shape_at cs r))) + 1 ≡ len
  remove_length =
      let x = some_of _ (seek less q (shape_at cs r)) at found in
      omega (arith, length_remove (same less q) (entries (shape_at cs r)) x.0 (tree_seek less own len cs r q t ∙ x.1), tree_len less own len cs r t)

  pub remove_some : 1 ≤ len
  remove_some = omega (arith, remove_length)

  pub remove_tree : IsTree less own (len - 1) (slice_set ds at Blank) s
  remove_tree =
      let n : length (without_key less q (entries (shape_at cs r))) ≡ len - 1 = omega (arith, remove_length) in
      subst (λ n. IsTree less own n after s) n remove_next.tree

-- What the methods promise of a tree, by what their callers saw of it before. The written answers cite this, so that the
-- prover does not search for it.
module _ {K V : Type 0} (less : K → K → Bool) (own len : ℕ) (cs : List (Cell K V)) (r : Option ℕ) (t : IsTree less own len cs r) (old : View K V) (e : view_of own cs r ≡ old) where
  pub old_arranged : Arranged less old
  old_arranged = subst (Arranged less) e (tree_arranged less own len cs r t)

  -- where no cell was written
  module _ (ds : List (Cell K V)) (same_cells : ds ≡ cs) where
    same_view : old ≡ view_of own ds r
    same_view = sym e ∙ ap (λ x. view_of own x r) (sym same_cells)

    pub kept_arranged : Arranged less (view_of own ds r)
    kept_arranged = subst (Arranged less) same_view old_arranged

    pub kept_others : OthersStay old (view_of own ds r)
    kept_others = subst (OthersStay old) same_view (record { own = refl; long = refl; stay = λ j before after. refl; beyond = λ j past. refl })

    -- a key that was not there was to be taken out
    module _ (q : K) (absent : seek less q (shape_at cs r) ≡ None) where
      absent_list : without_key less q old.entries ≡ old.entries
      absent_list = subst (λ v. without_key less q v.entries ≡ v.entries) e (remove_none (same less q) (entries (shape_at cs r)) (tree_seek less own len cs r q t ∙ absent))

      pub absent_entries : entries (shape_at ds r) ≡ without_key less q old.entries
      absent_entries = ap (λ v. v.entries) (sym same_view) ∙ sym absent_list

      pub absent_lookups : (p : K) → kept_of less p (entries (shape_at ds r)) ≡ cond (same less p q) None (kept_of less p old.entries)
      unfolding IsTree
      absent_lookups p = ap (kept_of less p) absent_entries ∙ subst (λ v. kept_of less p (without_key less q v.entries) ≡ cond (same less p q) None (kept_of less p v.entries)) e
          (lookup_remove less t.ordered q p (entries (shape_at cs r)) t.rising)

  -- a key was put in
  module _ (ds : List (Cell K V)) (s : Option ℕ) (q : K) (w : V) (at : ℕ) (free : true ≡ is_free old at) (absent : seek less q (shape_at cs r) ≡ None) (b : Becomes cs ds r s (Some at) None (put less q w at (shape_at cs r))) where
    inside : at < own
    inside = free_inside (view_of own cs r) at (free ∙ ap (λ v. is_free v at) (sym e))

    after_insert : Next less own cs ds r s (with_key less q w at (entries (shape_at cs r)))
    after_insert = insert_next less own len cs ds r s q w at t absent inside b

    pub inserted_entries : entries (shape_at ds s) ≡ with_key less q w at old.entries
    inserted_entries = after_insert.is ∙ ap (λ v. with_key less q w at v.entries) e

    pub inserted_lookups : (p : K) → kept_of less p (entries (shape_at ds s)) ≡ cond (same less p q) (Some (record { value = w; cell = at })) (kept_of less p old.entries)
    unfolding IsTree
    inserted_lookups p = ap (kept_of less p) after_insert.is ∙ lookup_insert less t.ordered (q, record { value = w; cell = at }) p (entries (shape_at cs r)) (insert_none less own len cs ds r s q w at t absent inside b)
        ∙ ap (λ v. cond (same less p q) (Some (record { value = w; cell = at })) (kept_of less p v.entries)) e

    pub inserted_others : OthersStay old (view_of own ds s)
    inserted_others = subst (λ v. OthersStay v (view_of own ds s)) e after_insert.others

    pub inserted_arranged : Arranged less (view_of own ds s)
    inserted_arranged = after_insert.arranged

  -- a value was changed
  module _ (ds : List (Cell K V)) (q : K) (w : V) (b : Becomes cs ds r r None None (change less q w (shape_at cs r))) where
    after_change : Next less own cs ds r r (with_new_value less q w (entries (shape_at cs r)))
    after_change = change_next less own len cs ds r q w t b

    pub changed_entries : entries (shape_at ds r) ≡ with_new_value less q w old.entries
    changed_entries = after_change.is ∙ ap (λ v. with_new_value less q w v.entries) e

    pub changed_lookups : (p : K) → kept_of less p (entries (shape_at ds r)) ≡ option_map (revalued less q w p) (kept_of less p old.entries)
    unfolding IsTree
    changed_lookups p = ap (kept_of less p) after_change.is ∙ kept_with_value less t.ordered q w p (entries (shape_at cs r)) ∙ ap (λ v. option_map (revalued less q w p) (kept_of less p v.entries)) e

    pub changed_others : OthersStay old (view_of own ds r)
    changed_others = subst (λ v. OthersStay v (view_of own ds r)) e after_change.others

    pub changed_arranged : Arranged less (view_of own ds r)
    changed_arranged = after_change.arranged

  -- a key was taken out
  module _ (ds : List (Cell K V)) (s : Option ℕ) (q : K) (at : ℕ) (found : option_map (λ x. x.cell) (seek less q (shape_at cs r)) ≡ Some at) (b : Becomes cs ds r s None (Some at) (cut less q (shape_at cs r))) where
    after_remove : Next less own cs (slice_set ds at Blank) r s (without_key less q (entries (shape_at cs r)))
    after_remove = remove_next less own len cs ds r s q at t found b

    pub removed_entries : entries (shape_at (slice_set ds at Blank) s) ≡ without_key less q old.entries
    removed_entries = after_remove.is ∙ ap (λ v. without_key less q v.entries) e

    pub removed_lookups : (p : K) → kept_of less p (entries (shape_at (slice_set ds at Blank) s)) ≡ cond (same less p q) None (kept_of less p old.entries)
    unfolding IsTree
    removed_lookups p = ap (kept_of less p) after_remove.is ∙ lookup_remove less t.ordered q p (entries (shape_at cs r)) t.rising ∙ ap (λ v. cond (same less p q) None (kept_of less p v.entries)) e

    pub removed_others : OthersStay old (view_of own (slice_set ds at Blank) s)
    removed_others = subst (λ v. OthersStay v (view_of own (slice_set ds at Blank) s)) e after_remove.others

    pub removed_arranged : Arranged less (view_of own (slice_set ds at Blank) s)
    removed_arranged = after_remove.arranged

-- what the methods of a tree need besides
pub ruleset making = (common_steps, empty_entries, made, made_arranged)

pub ruleset looking = (tree_lies, tree_seek, tree_len, tree_arranged, place_at, place_past)

pub ruleset inserting = (tree_lies, tree_seek, insert_tree, insert_fits)

pub ruleset changing = (tree_lies, tree_seek, change_tree)

pub ruleset removing = (tree_lies, tree_seek, remove_within, remove_tree)
