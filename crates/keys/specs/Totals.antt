-- Total orders: through a function that tells values apart, of words; and the comparisons that answer by them. Idea:
-- std's law makes `cmp` a total order, so a test that says where `cmp` answers less is one too.
use Rattle.std.specs.Prelude.{◌≡◌, ◌≢◌, not, ℕ, zero, suc, ◌+◌, Bool, true, false, cond, List, [], ◌∷◌, ◌++◌, length, replicate, refl}
use Rattle.std.specs.Ordering.{MatchOrdering, is_lt, ordering_then, nat_cmp}
use Rattle.std.specs.Cmp.{IsTotalOrder, tied_itself}
use Rattle.std.specs.Cmp.Lexicographic.{slice_cmp}
use Rattle.std.proofs.Common.{Ordering, Equal, sym, ap, subst, arith, rules}
use Rattle.std.proofs.lemmas.Bool.Decides.{nat_tests}
use Rattle.std.proofs.lemmas.Cmp.{same_from_slice_cmp, nat_list_cmp_total}
use Rattle.keys.specs.Orders.{TotalOrder, ComparesBy}
use Rattle.keys.specs.Words.{less_word, word_byte, first_wrong}

-- three facts give the fourth: of two different values exactly one is less
one_at : {K : Type 0} (less : K → K → Bool) (irreflexive : (x : K) → less x x ≡ false)
    (connected : (x y : K) → less x y ≡ false → less y x ≡ false → x ≡ y)
    (transitive : (x y z : K) → less x y ≡ true → less y z ≡ true → less x z ≡ true) →
    (x y : K) → (x ≢ y) → (a b : Bool) → less x y ≡ a → less y x ≡ b → b ≡ not a
one_at less irreflexive connected transitive x y apart a b p q = search rules

pub total : {K : Type 0} (less : K → K → Bool) (irreflexive : (x : K) → less x x ≡ false)
    (connected : (x y : K) → less x y ≡ false → less y x ≡ false → x ≡ y)
    (transitive : (x y z : K) → less x y ≡ true → less y z ≡ true → less x z ≡ true) → TotalOrder less
total less irreflexive connected transitive = search rules

-- an order through a function that tells values apart
pub total_by : {K L : Type 0} (less : L → L → Bool) (f : K → L) → TotalOrder less → ((x y : K) → f x ≡ f y → x ≡ y) → TotalOrder (λ (x y : K). less (f x) (f y))
total_by less f s apart = search rules

-- the order by which a total `cmp` answers
pub total_by_cmp : {K : Type 0} {less : K → K → Bool} {R : K → K → Ordering} → IsTotalOrder R → ComparesBy less R → TotalOrder less
total_by_cmp o c = search rules

-- what is known of two values by the answer of such a `cmp`
pub ranked_by : {K : Type 0} {less : K → K → Bool} {R : K → K → Ordering} → IsTotalOrder R → ComparesBy less R
    → (x y : K) (o : Ordering) → o ≡ R x y → MatchOrdering o (less x y ≡ true) (x ≡ y) (less y x ≡ true)
ranked_by o c x y r h = search rules

-- a comparison through a function that tells values apart
pub compares_by : {K L : Type 0} {less : L → L → Bool} {R : L → L → Ordering} (f : K → L) → ComparesBy less R → ((x y : K) → f x ≡ f y → x ≡ y) → ComparesBy (λ (x y : K). less (f x) (f y)) (λ (x y : K). R (f x) (f y))
compares_by f c apart = search rules

words_equal : (xs ys : List ℕ) → slice_cmp nat_cmp xs ys ≡ Equal → xs ≡ ys
words_equal [] [] e = refl
words_equal [] (y ∷ ys) e = cc
words_equal (x ∷ xs) [] e = cc
words_equal (x ∷ xs) (y ∷ ys) e = let h = words_equal xs ys in grind (arith, nat_tests)

pub less_word_compares : ComparesBy less_word (slice_cmp nat_cmp)
less_word_compares = record {
  less_is = λ xs ys. sym (same_from_slice_cmp nat_cmp is_lt less_word refl (λ _ _. refl) (λ _ _. refl) (λ x y xs ys o h. grind (arith, nat_tests)) xs ys _ refl);
  same_is = words_equal;
}

-- what is known of two words by the answer of `cmp`
pub word_ranked : (xs ys : List ℕ) (o : Ordering) → o ≡ slice_cmp nat_cmp xs ys → MatchOrdering o (less_word xs ys ≡ true) (xs ≡ ys) (less_word ys xs ≡ true)
word_ranked = ranked_by nat_list_cmp_total less_word_compares

pub word_total : TotalOrder less_word
word_total = total_by_cmp nat_list_cmp_total less_word_compares

-- the first byte of a word is one, and so are the rest
word_head : (b : Bool) (m n : ℕ) → cond b (suc m) 0 ≡ suc n → (b ≡ true) × (m ≡ n)
word_head true m n e = (refl, omega arith)
word_head false m n e = absurd (omega arith)

-- zeros behind two words change no answer, since every byte of a word is above 0
pub padded_compare : (xs ys : List ℕ) (m n : ℕ) → first_wrong xs ≡ length xs → first_wrong ys ≡ length ys → length xs + m ≡ length ys + n
    → slice_cmp nat_cmp (xs ++ replicate m 0) (ys ++ replicate n 0) ≡ slice_cmp nat_cmp xs ys
padded_compare [] [] m n p q e =
    let k : m ≡ n = omega arith in
    subst (λ i. slice_cmp nat_cmp (replicate m 0) (replicate i 0) ≡ Equal) k (tied_itself nat_list_cmp_total (replicate m 0))
padded_compare [] (y ∷ ys) zero n p q e = absurd (omega arith)
padded_compare [] (y ∷ ys) (suc m) n p q e = let h = word_head (word_byte y) _ _ q in grind (arith, nat_tests)
padded_compare (x ∷ xs) [] m zero p q e = absurd (omega arith)
padded_compare (x ∷ xs) [] m (suc n) p q e = let h = word_head (word_byte x) _ _ p in grind (arith, nat_tests)
padded_compare (x ∷ xs) (y ∷ ys) m n p q e =
    ap (ordering_then (nat_cmp x y))
    (padded_compare xs ys m n (word_head (word_byte x) _ _ p).1 (word_head (word_byte y) _ _ q).1 (omega arith))
