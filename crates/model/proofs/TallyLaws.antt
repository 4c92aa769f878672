-- The tally keeps the four laws, and counts exactly. Idea: it holds the same kinds all along, so that each kind that it
-- admits is raised; it never lowers, so that the bounds of law 3 meet.
use Rattle.std.proofs.Common.{◌≡◌, ℕ, zero, suc, ◌+◌, ◌<◌, ◌≤◌, Bool, true, false, cond, ◌||◌, ltb, ◌⊎◌, List, [], ◌∷◌, refl, ap, ◌∙◌, subst, inl, inr, arith}
use Rattle.std.specs.List.{AllByRecursion}
use Rattle.std.proofs.lemmas.Bool.Decides.{nat_tests}
use Rattle.std.proofs.lemmas.Bool.{lt-ltb, ltb-true, ltb-false, cases_eq, or_left, or_right}
use Rattle.keys.specs.Orders.{TotalOrder, same}
use Rattle.keys.specs.Helds.{less_held}
use Rattle.keys.specs.KindOrders.{less_event}
use Rattle.keys.specs.declared.event.EventKind.{EventKind}
use Rattle.keys.specs.declared.held.Held.{Held}
use Rattle.keys.specs.declared.held.Held.TheVariants.{Real, Dummy}
use Rattle.keys.specs.Same.{same_event}
use Rattle.keys.proofs.Making.{event_made}
use Rattle.keys.specs.KindOrdersLemmas.{event_total, same_self, same_equal, held_total}
use Rattle.keys.specs.Sorted.{Rising}
use Rattle.model.specs.Contents.{Counts, Content, is_held, holds}
use Rattle.model.specs.Plans.{Entries, raised}
use Rattle.model.specs.Laws.{Lawful}
use Rattle.model.specs.Tallies.{at_zero_before, kinds_from, tally, TallyCounts, TallyKeeps}
use Rattle.model.proofs.Sums.{sum_of, held_like}
use Rattle.model.proofs.Moves.{raises, raised_keys, raised_sums, Rising-map}
use Rattle.model.proofs.Missing.{kept_occurs}
use Rattle.model.proofs.Runs.{Moving, kept_run}
use Rattle.model.proofs.PlanLaws.{lawful, good_fresh}

abbrev less' : Held EventKind → Held EventKind → Bool
less' = less_held less_event

order' : TotalOrder less'
order' = held_total less_event event_total

abbrev kind_at : (j : ℕ) → j ≤ 63 → EventKind
kind_at j p = record { number = j; small = p }

kinds_cons : (j n : ℕ) (p : j ≤ 63) → (Real (kind_at j p), 0) ∷ kinds_from (suc j) n ≡ kinds_from j (suc n)
kinds_cons j n p = ap (λ o. at_zero_before o (kinds_from (suc j) n)) (event_made (kind_at j p))

-- what holds of each kind from j on, n in all, holds of each of these keys
kinds_all : (P : Held EventKind × ℕ → Type 0) (j n : ℕ) → j + n ≤ 64 → ((e : EventKind) → j ≤ e.number → e.number < j + n → P (Real e, 0)) → AllByRecursion P (kinds_from j n)
kinds_all P j zero b f = tt
kinds_all P j (suc n) b f =
    subst (AllByRecursion P) (kinds_cons j n (omega arith)) (f (kind_at j (omega arith)) (omega arith) (omega arith), kinds_all P (suc j) n (omega arith) (λ e q r. f e (omega arith) (omega arith)))

kinds_rise : (j n : ℕ) → j + n ≤ 64 → Rising less' (kinds_from j n)
kinds_rise j zero b = tt
kinds_rise j (suc n) b =
    subst (Rising less') (kinds_cons j n (omega arith))
    (kinds_all (λ f. less' (Real (kind_at j (omega arith))) f.0 ≡ true) (suc j) n (omega arith) (λ e q r. lt-ltb j e.number (omega arith)), kinds_rise (suc j) n (omega arith))

kinds_long : (j n : ℕ) → j + n ≤ 64 → sum_of (λ _ _. 1) (kinds_from j n) ≡ n
unfolding sum_of
kinds_long j zero b = refl
kinds_long j (suc n) b =
    subst (λ (h : Counts (Held EventKind)). sum_of (λ _ _. 1) h ≡ suc n) (kinds_cons j n (omega arith)) (omega (arith, kinds_long (suc j) n (omega arith)))

kinds_held : (e : EventKind) (j n : ℕ) → j + n ≤ 64 → j ≤ e.number → e.number < j + n → is_held less' (kinds_from j n) (Real e) ≡ true
kinds_held e j zero b p q = absurd (omega arith)
kinds_held e j (suc n) b p q =
    subst (λ (h : Counts (Held EventKind)). is_held less' h (Real e) ≡ true) (kinds_cons j n (omega arith)) (go (cases_eq j e.number) (kinds_held e (suc j) n (omega arith)))
  where
    f : EventKind
    f = kind_at j (omega arith)

    here : Bool
    here = same less' (Real f) (Real e)

    go : (j ≡ e.number) ⊎ (j ≡ e.number → ⊥) → (suc j ≤ e.number → e.number < suc j + n → is_held less' (kinds_from (suc j) n) (Real e) ≡ true) →
        (here || is_held less' (kinds_from (suc j) n) (Real e)) ≡ true
    go (inl d) r =
        or_left here (is_held less' (kinds_from (suc j) n) (Real e))
        (subst (λ (x : EventKind). same less' (Real f) (Real x) ≡ true) (same_event f e d) (same_self less_event event_total f))
    go (inr d) r = or_right here (is_held less' (kinds_from (suc j) n) (Real e)) (r (omega arith) (omega arith))

apart_unheld : (x : Held EventKind) (h : Counts (Held EventKind)) → AllByRecursion (λ (e : Held EventKind × ℕ). e.0 ≡ x → ⊥) h → is_held less' h x ≡ false
apart_unheld x [] a = refl
apart_unheld x (e ∷ h) a = go (same less' e.0 x) refl (apart_unheld x h a.1)
  where
    go : (b : Bool) → same less' e.0 x ≡ b → is_held less' h x ≡ false → (b || is_held less' h x) ≡ false
    go true p r = absurd (a.0 (same_equal less' order' e.0 x p))
    go false p r = r

real_number : (e f : EventKind) → Real e ≡ Real f → e.number ≡ f.number
real_number e f p = let q : e ≡ f = cc in ap (λ (x : EventKind). x.number) q

real_not_dummy : (e : EventKind) (j : ℕ) → Real e ≡ Dummy j → ⊥
real_not_dummy e j p = let z : ◌≡◌ {A = ℕ} 0 1 = cc in omega arith

admitted_below : (k : ℕ) (e : EventKind) → (tally k).admits e ≡ true → e.number < k
admitted_below k e a = grind (arith, nat_tests)

module _ (k : ℕ) (few : k ≤ 64) where
  fresh_kinds : (e : EventKind) → holds less_event (tally k).fresh (Real e) ≡ ltb e.number k
  fresh_kinds e = go (ltb e.number k) refl
    where
      go : (b : Bool) → ltb e.number k ≡ b → holds less_event (tally k).fresh (Real e) ≡ b
      go true p = kinds_held e 0 k (omega arith) (omega arith) (omega (arith, ltb-true e.number k p))
      go false p = apart_unheld (Real e) (kinds_from 0 k) (kinds_all (λ f. f.0 ≡ Real e → ⊥) 0 k (omega arith) (λ f q r s. omega (arith, ltb-false e.number k p, real_number f e s)))

  -- the kinds of the fresh tally, and no lowerings
  record Steady (C : Content EventKind) : Type 0 where
    keys : (x : Held EventKind) → holds less_event C x ≡ holds less_event (tally k).fresh x
    never_lowered : C.l ≡ 0

  moving : Moving less_event (tally k) Steady
  moving = record {
    good = good_fresh less_event event_total (tally k).fresh (kinds_rise 0 k (omega arith)) (kinds_long 0 k (omega arith)) (kinds_all (λ e. e.1 ≡ 0) 0 k (omega arith) (λ e q r. refl)) refl refl;
    start = record { keys = λ x. refl; never_lowered = refl };
    kept = λ C p e a. record {
      keys = λ x.
          held_like less' order' (raised less' (Real e) C.held) C.held x (kept_occurs less' order' C.held (raised less' (Real e) C.held) (raised_keys less' order' C.held (Real e)) x) ∙
          p.keys x;
      never_lowered = omega (arith, p.never_lowered);
    };
    step = λ C p r e a. record {
      move = raises (raised_sums less' order' C.held r (Real e) (p.keys (Real e) ∙ fresh_kinds e ∙ lt-ltb e.number k (admitted_below k e a))) (omega arith);
      rising = Rising-map less' order' (λ x n. cond (same less' x (Real e)) (n + 1) n) C.held r;
      k_same = refl;
      n_more = refl;
    };
  }

  pub tally_keeps : TallyKeeps k
  tally_keeps = record { laws = laws; counts = counts }
    where
      laws : Lawful less_event (tally k)
      laws = lawful less_event event_total (tally k) Steady moving

      counts : (es : List EventKind) → Entries (tally k) es → TallyCounts k es
      counts es a =
          let steady = kept_run less_event event_total (tally k) Steady moving (tally k).fresh moving.start es a.admitted in
          let bounds = laws.bounded es a in
          record {
            kinds = λ e. steady.keys (Real e) ∙ fresh_kinds e;
            no_dummies = λ j. steady.keys (Dummy j) ∙ apart_unheld (Dummy j) (kinds_from 0 k) (kinds_all (λ f. f.0 ≡ Dummy j → ⊥) 0 k (omega arith) (λ f q r. real_not_dummy f j));
            exact = λ e. omega (arith, bounds.at_most e, bounds.at_least e, steady.never_lowered);
            never_lowered = steady.never_lowered;
          }
