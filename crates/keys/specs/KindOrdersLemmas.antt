-- The order of each kind is total, and `cmp` answers by it; and what that says of keys that are the same. Idea: an
-- order through a function that tells keys apart is total where the order behind it is. The derived `cmp` of flight
-- words compares 8 bytes and then the length, which answers as the words' bytes do.
use Rattle.std.specs.Prelude.{◌≡◌, ◌-◌, Bool, true, false}
use Rattle.std.specs.Ordering.{MatchOrdering, nat_cmp, ordering_then}
use Rattle.std.specs.Cmp.Lexicographic.{slice_cmp}
use Rattle.std.proofs.Common.{ℕ, List, Ordering, Less, Equal, Greater, refl, sym, ap, subst, ◌∙◌, length, arith, rules}
use Rattle.std.proofs.lemmas.Bool.Decides.{nat_tests}
use Rattle.keys.specs.declared.word.FlightWord.{FlightWord}
use Rattle.keys.specs.Orders.{TotalOrder, ComparesBy, same}
use Rattle.keys.specs.Words.{less_word}
use Rattle.keys.specs.Values.{bytes_of}
use Rattle.keys.specs.Helds.{less_held}
use Rattle.keys.specs.KindOrders.{less_event, less_prefix, less_flight}
use Rattle.keys.specs.Same.{same_event, same_prefix, word_length, word_padded, same_word}
use Rattle.keys.specs.Totals.{total_by, compares_by, less_word_compares, word_total, padded_compare, word_ranked}

pub event_compares : ComparesBy less_event (λ x y. nat_cmp x.number y.number)
event_compares = search (rules, same_event)

pub event_total : TotalOrder less_event
event_total = search (rules, same_event)

pub prefix_compares : ComparesBy less_prefix (λ x y. ordering_then (nat_cmp x.address y.address) (nat_cmp x.bits y.bits))
prefix_compares = search (rules, same_prefix)

pub prefix_total : TotalOrder less_prefix
prefix_total = search (rules, same_prefix)

-- what comes second counts only where the first is equal
then_tied : (o l : Ordering) → (o ≡ Equal → l ≡ Equal) → ordering_then o l ≡ o
then_tied o l h = search rules

-- the zeros behind a word and its length change no answer
cmp_flights : (x y : FlightWord) → ordering_then (slice_cmp nat_cmp x.bytes y.bytes) (nat_cmp x.len y.len) ≡ slice_cmp nat_cmp (bytes_of x) (bytes_of y)
cmp_flights x y =
    let m = word_length x in
    let n = word_length y in
    let a = word_padded x in
    let b = word_padded y in
    let p = padded_compare (bytes_of x) (bytes_of y) (8 - x.len) (8 - y.len) (x.right ∙ sym m) (y.right ∙ sym n) (omega arith) in
    let z : slice_cmp nat_cmp x.bytes y.bytes ≡ slice_cmp nat_cmp (bytes_of x) (bytes_of y) = cc in
    ap (λ o. ordering_then o (nat_cmp x.len y.len)) z
    ∙ then_tied _ _ (λ e. let w = ap length (less_word_compares.same_is (bytes_of x) (bytes_of y) e) in grind (arith, nat_tests))

pub flight_compares : ComparesBy less_flight (λ x y. ordering_then (slice_cmp nat_cmp x.bytes y.bytes) (nat_cmp x.len y.len))
flight_compares = subst (ComparesBy less_flight) (λ i x y. sym (cmp_flights x y) i) (compares_by bytes_of less_word_compares same_word)

words_tell : (x y : FlightWord) (o : Ordering) → MatchOrdering o (less_flight x y ≡ true) (bytes_of x ≡ bytes_of y) (less_flight y x ≡ true)
    → MatchOrdering o (less_flight x y ≡ true) (x ≡ y) (less_flight y x ≡ true)
words_tell x y Less h = h
words_tell x y Equal h = same_word x y h
words_tell x y Greater h = h

-- what is known of two flight words by what `cmp` answers of their bytes; and by what the derived `cmp` answers
pub word_compares : (x y : FlightWord) (u v : List ℕ) (o : Ordering) → u ≡ bytes_of x → v ≡ bytes_of y → o ≡ slice_cmp nat_cmp u v
    → MatchOrdering o (less_word (bytes_of x) (bytes_of y) ≡ true) (x ≡ y) (less_word (bytes_of y) (bytes_of x) ≡ true)
word_compares x y u v o e f h =
    words_tell x y o (word_ranked (bytes_of x) (bytes_of y) o (h ∙ ap (λ (a : List ℕ). slice_cmp nat_cmp a v) e ∙ ap (λ (b : List ℕ). slice_cmp nat_cmp (bytes_of x) b) f))

-- (the second serves the planted bug word_turned: by it a comparison in the impl proves where it is not turned)
pub flight_ranked : (x y : FlightWord) (o : Ordering) → o ≡ ordering_then (slice_cmp nat_cmp x.bytes y.bytes) (nat_cmp x.len y.len)
    → MatchOrdering o (less_flight x y ≡ true) (x ≡ y) (less_flight y x ≡ true)
flight_ranked x y o h = word_compares x y (bytes_of x) (bytes_of y) o refl refl (h ∙ cmp_flights x y)

pub flight_total : TotalOrder less_flight
flight_total = total_by less_word bytes_of word_total same_word

module _ {K : Type 0} (less : K → K → Bool) (order : TotalOrder less) where
  pub not_both : (x y : K) → less x y ≡ true → less y x ≡ false
  not_both x y h = search rules

  pub same_self : (x : K) → same less x x ≡ true
  same_self x = search rules

  pub same_equal : (x y : K) → same less x y ≡ true → x ≡ y
  same_equal x y h = search rules

  -- real keys in their order, then the dummies
  pub held_total : TotalOrder (less_held less)
  held_total = search rules
