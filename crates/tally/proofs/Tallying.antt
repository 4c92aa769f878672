-- What the calls of a tally answer and leave. Idea: a tally holds what a fresh one holds, with its own counts beside; of the
-- fresh one the laws of the plan tell that the kinds are k, rise, and are those below k; and kind i stands at place i.
use Rattle.std.proofs.Common.{◌≡◌, ℕ, zero, suc, ◌+◌, ◌<◌, ◌≤◌, Bool, true, false, cond, leb, List, [], length, take, replicate, sum, get_or, set, length-set, Some, None, Option, refl, sym, ap, ◌∙◌, subst, nat_lt, arith}
use Rattle.std.specs.List.{AllByRecursion, slice_get}
use Rattle.std.proofs.lemmas.List.{drop-set-lt}
use Rattle.std.proofs.lemmas.Bool.{ltb-true}
use Rattle.std.proofs.lemmas.Option.{slice_get_past}
use Rattle.keys.specs.Orders.{TotalOrder}
use Rattle.keys.specs.Helds.{less_held}
use Rattle.keys.specs.Values.{when_true, event_of}
use Rattle.keys.specs.KindOrders.{less_event}
use Rattle.keys.specs.KindOrdersLemmas.{event_total, held_total}
use Rattle.keys.specs.declared.event.EventKind.{EventKind}
use Rattle.keys.specs.declared.held.Held.{Held}
use Rattle.keys.specs.declared.held.Held.TheVariants.{Real}
use Rattle.keys.proofs.Making.{event_made}
use Rattle.model.specs.Contents.{is_held, count}
use Rattle.model.specs.Plans.{Entries, raised}
use Rattle.model.specs.Laws.{HoldsK}
use Rattle.model.specs.Tallies.{at_zero_before, kinds_from, tally}
use Rattle.model.proofs.TallyLaws.{tally_keeps}
use Rattle.summaries.specs.Calls.{count_answer, Stands}
use Rattle.tally.specs.Contents.{counted, content_of}
use Rattle.tally.proofs.Beside.{firsts, different_beside, length_beside, total_beside, zeros_beside, at_beside, rising_beside, held_beside, count_beside, raised_beside, sum_raised}

abbrev less' : Held EventKind → Held EventKind → Bool
less' = less_held less_event

order' : TotalOrder less'
order' = held_total less_event event_total

zero_kinds : (j n : ℕ) → AllByRecursion (λ (e : Held EventKind × ℕ). e.1 ≡ 0) (kinds_from j n)
zero_kinds j zero = tt
zero_kinds j (suc n) = go (event_of j) (zero_kinds (suc j) n)
  where
    go : (o : Option EventKind) → AllByRecursion (λ (e : Held EventKind × ℕ). e.1 ≡ 0) (kinds_from (suc j) n) → AllByRecursion (λ (e : Held EventKind × ℕ). e.1 ≡ 0) (at_zero_before o (kinds_from (suc j) n))
    go (Some e) z = (refl, z)
    go None z = z

made_number : (e : EventKind) (n : ℕ) (b : Bool) (f : b ≡ true → EventKind) → ((p : b ≡ true) → (f p).number ≡ n) → when_true b f ≡ Some e → e.number ≡ n
made_number e n true f h made = let is : f refl ≡ e = cc in subst (λ (x : EventKind). x.number ≡ n) is (h refl)
made_number e n false f h made = cc

-- the kind of a number has that number
number_of_kind : (e : EventKind) (n : ℕ) → event_of n ≡ Some e → e.number ≡ n
number_of_kind e n made = made_number e n (leb n 63) _ (λ p. refl) made

-- kind i stands at place i
kind_at : (e : EventKind) (j n i : ℕ) → e.number ≡ j + i → i < n → j + n ≤ 64 → slice_get (firsts (kinds_from j n)) i ≡ Some (Real e)
kind_at e j zero i p q b = absurd (omega arith)
kind_at e j (suc n) zero p q b =
    let here : e.number ≡ j = omega arith in
    let made : Some e ≡ event_of j = event_made e ∙ ap event_of here in
    subst (λ o. slice_get (firsts (at_zero_before o (kinds_from (suc j) n))) 0 ≡ Some (Real e)) made refl
kind_at e j (suc n) (suc i) p q b =
    let first : EventKind = record { number = j; small = omega arith } in
    let rest = kind_at e (suc j) n i (omega arith) (omega arith) (omega arith) in
    subst (λ o. slice_get (firsts (at_zero_before o (kinds_from (suc j) n))) (suc i) ≡ Some (Real e)) (event_made first) rest

module _ (k : ℕ) (few : k ≤ 64) where
  none : Entries (tally k) []
  none = record { admitted = tt; few = omega arith }

  fresh : HoldsK less_event (tally k).fresh
  fresh = (tally_keeps k few).laws.holds_k [] none

  here : (e : EventKind) (i : ℕ) → i ≡ e.number → i < k → slice_get (firsts (kinds_from 0 k)) i ≡ Some (Real e)
  here e i is p = kind_at e 0 k i (omega arith) p (omega arith)

  module _ (cs : List ℕ) (long : length cs ≡ 64) where
    pub counted_held : (e : EventKind) → is_held less' (counted k cs) (Real e) ≡ nat_lt e.number k
    counted_held e = held_beside less' (kinds_from 0 k) cs (Real e) (omega (arith, fresh.exactly)) ∙ ((tally_keeps k few).counts [] none).kinds e

    counted_count : (e : EventKind) (i : ℕ) → i ≡ e.number → i < k → count less' (counted k cs) (Real e) ≡ get_or cs i 0
    counted_count e i is p = count_beside less' order' (kinds_from 0 k) cs i (Real e) fresh.rising (here e i is p) (omega arith)

    pub count_is : (n : ℕ) (e : EventKind) → count_answer less_event (content_of k n cs) e ≡ cond (nat_lt e.number k) (Some (get_or cs e.number 0)) None
    count_is n e = ap (λ b. cond b (Some (count less' (counted k cs) (Real e))) None) (counted_held e) ∙ go (nat_lt e.number k) refl
      where
        go : (b : Bool) → nat_lt e.number k ≡ b → cond b (Some (count less' (counted k cs) (Real e))) None ≡ cond b (Some (get_or cs e.number 0)) None
        go true p = ap Some (counted_count e e.number refl (ltb-true e.number k p))
        go false p = refl

    pub counted_raised : (e : EventKind) → e.number < k → counted k (set cs e.number (get_or cs e.number 0 + 1)) ≡ raised less' (Real e) (counted k cs)
    counted_raised e p = sym (raised_beside less' order' (kinds_from 0 k) cs e.number (Real e) fresh.rising (here e e.number refl p) (omega arith))

    pub counted_at : (e : EventKind) (j : ℕ) → event_of j ≡ Some e → j < k → slice_get (counted k cs) j ≡ Some (Real e, get_or cs j 0)
    counted_at e j made p = at_beside (kinds_from 0 k) cs j (Real e) (here e j (sym (number_of_kind e j made)) p) (omega arith)

    counted_long : length (counted k cs) ≡ k
    counted_long = length_beside (kinds_from 0 k) cs (omega (arith, fresh.exactly)) ∙ fresh.exactly

    pub counted_past : (j : ℕ) → k ≤ j → slice_get (counted k cs) j ≡ None
    counted_past j p = slice_get_past (counted k cs) j (omega (arith, counted_long))

    pub counted_stands : (n : ℕ) → sum (take k cs) ≡ n → Stands less_event (content_of k n cs)
    counted_stands n p = record {
      holds_k = record {
        exactly = counted_long;
        different = different_beside (kinds_from 0 k) cs fresh.different;
        rising = rising_beside less' (kinds_from 0 k) cs fresh.rising;
      };
      balanced = let t = total_beside (kinds_from 0 k) cs in let s = ap (λ m. sum (take m cs)) fresh.exactly in omega (arith, t, s, p);
    }

  pub counted_fresh : counted k (replicate 64 0) ≡ kinds_from 0 k
  counted_fresh = zeros_beside (kinds_from 0 k) 64 (zero_kinds 0 k) (omega (arith, fresh.exactly))

pub ruleset taking = (counted_held, counted_raised, length-set, sum_raised, drop-set-lt)

pub ruleset placing = (counted_at, counted_past)
