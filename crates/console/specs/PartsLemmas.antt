-- The order of parts is total, and the derived `cmp` answers by it. They stand here since an impl can cite them only here.
-- Idea: where the comparison of the bytes is equal, the bytes are, and the lengths decide.
use Rattle.std.specs.Prelude.{◌≡◌, ℕ, true, false, List, nat_lt, refl}
use Rattle.std.specs.Ordering.{MatchOrdering, is_lt, nat_cmp, ordering_then}
use Rattle.std.specs.Cmp.Lexicographic.{slice_cmp}
use Rattle.std.proofs.Common.{Ordering, Less, Equal, Greater, sym, ap, ◌∙◌, rules}
use Rattle.keys.specs.Orders.{TotalOrder, ComparesBy, by_parts}
use Rattle.keys.specs.Words.{less_word}
use Rattle.keys.specs.Totals.{word_total, word_ranked}
use Rattle.keys.specs.KindOrdersLemmas.{not_both}
use Rattle.console.specs.declared.part.Part.{Part}
use Rattle.console.specs.Parts.{less_part}

numbers_compare : ComparesBy nat_lt nat_cmp
numbers_compare = search rules

less_by : (xs ys : List ℕ) (m n : ℕ) (o : Ordering) → MatchOrdering o (less_word xs ys ≡ true) (xs ≡ ys) (less_word ys xs ≡ true) →
    by_parts less_word nat_lt xs m ys n ≡ is_lt (ordering_then o (nat_cmp m n))
less_by xs ys m n Less h = rw h refl
less_by xs ys m n Equal h =
    let p : less_word xs ys ≡ false = ap (less_word xs) (sym h) ∙ word_total.irreflexive xs in
    let q : less_word ys xs ≡ false = ap (λ w. less_word w xs) (sym h) ∙ word_total.irreflexive xs in
    rw (p, q) (numbers_compare.less_is m n)
less_by xs ys m n Greater h = let p = not_both less_word word_total ys xs h in rw (p, h) refl

same_by : (xs ys : List ℕ) (m n : ℕ) (o : Ordering) → MatchOrdering o (less_word xs ys ≡ true) (xs ≡ ys) (less_word ys xs ≡ true) →
    ordering_then o (nat_cmp m n) ≡ Equal → (xs ≡ ys) × (m ≡ n)
same_by xs ys m n Less h e = cc
same_by xs ys m n Equal h e = (h, numbers_compare.same_is m n e)
same_by xs ys m n Greater h e = cc

same_part : (x y : Part) → (x.bytes ≡ y.bytes) × (x.length ≡ y.length) → x ≡ y
same_part x y e = λ i. record { bytes = e.0 i; length = e.1 i }

pub part_compares : ComparesBy less_part (λ x y. ordering_then (slice_cmp nat_cmp x.bytes y.bytes) (nat_cmp x.length y.length))
part_compares = record {
  less_is = λ x y. less_by x.bytes y.bytes x.length y.length _ (word_ranked x.bytes y.bytes _ refl);
  same_is = λ x y e. same_part x y (same_by x.bytes y.bytes x.length y.length _ (word_ranked x.bytes y.bytes _ refl) e);
}

pub part_total : TotalOrder less_part
part_total = search (rules, word_total)
