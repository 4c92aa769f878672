-- The sketch keeps the four laws: its rule raises, lowers or replaces, and a fresh sketch has every count at 0.
use Rattle.std.proofs.Common.{◌≡◌, ℕ, zero, suc, ◌+◌, ◌<◌, Bool, true, false, ◌&&◌, ltb, leb, refl, ◌∙◌, arith}
use Rattle.std.specs.List.{AllByRecursion}
use Rattle.std.proofs.lemmas.Bool.{lt-ltb}
use Rattle.std.proofs.lemmas.Bool.Decides.{nat_tests}
use Rattle.keys.specs.Orders.{TotalOrder}
use Rattle.keys.specs.Helds.{less_held}
use Rattle.keys.specs.declared.held.Held.{Held}
use Rattle.keys.specs.declared.held.Held.TheVariants.{Real, Dummy}
use Rattle.keys.specs.Sorted.{Rising}
use Rattle.model.specs.Contents.{is_held}
use Rattle.model.specs.Laws.{Lawful}
use Rattle.model.specs.Sketches.{dummies_from, sketch, SketchKeeps}
use Rattle.model.proofs.Sums.{sum_of}
use Rattle.model.proofs.Moves.{sketch_step}
use Rattle.model.proofs.PlanLaws.{lawful, good_fresh}

module _ {K : Type 0} (less : K → K → Bool) (order : TotalOrder less) where
  dummies_above : (i j n : ℕ) → i < j → AllByRecursion (λ (f : Held K × ℕ). less_held less (Dummy i) f.0 ≡ true) (dummies_from j n)
  dummies_above i j zero p = tt
  dummies_above i j (suc n) p = (lt-ltb i j p, dummies_above i (suc j) n (omega arith))

  dummies_rise : (j n : ℕ) → Rising (less_held less) (dummies_from j n)
  dummies_rise j zero = tt
  dummies_rise j (suc n) = (dummies_above j (suc j) n (omega arith), dummies_rise (suc j) n)

  dummies_long : (j n : ℕ) → sum_of {X = Held K} (λ _ _. 1) (dummies_from j n) ≡ n
  unfolding sum_of
  dummies_long j zero = refl
  dummies_long j (suc n) = omega (arith, dummies_long (suc j) n)

  dummies_zero : (j n : ℕ) → AllByRecursion (λ (e : Held K × ℕ). e.1 ≡ 0) (dummies_from j n)
  dummies_zero j zero = tt
  dummies_zero j (suc n) = (refl, dummies_zero (suc j) n)

  pub sketch_lawful : (k : ℕ) → Lawful less (sketch less k)
  sketch_lawful k =
      lawful less order (sketch less k) (λ _. Unit {0}) (record {
        good = good_fresh less order (sketch less k).fresh (dummies_rise 0 k) (dummies_long 0 k) (dummies_zero 0 k) refl refl;
        start = tt;
        kept = λ C p x a. tt;
        step = λ C p r x a. sketch_step less order C r x;
      })

  -- dummies from j on, n in all
  dummy_held : (i j n : ℕ) → is_held (less_held less) (dummies_from j n) (Dummy i) ≡ leb j i && ltb i (j + n)
  dummy_held i j zero = grind (arith, nat_tests)
  dummy_held i j (suc n) = let rest = dummy_held i (suc j) n in grind (arith, nat_tests)

  real_unheld : (x : K) (j n : ℕ) → is_held (less_held less) (dummies_from j n) (Real x) ≡ false
  real_unheld x j zero = refl
  real_unheld x j (suc n) = real_unheld x (suc j) n

  pub sketch_keeps : (k : ℕ) → SketchKeeps less k
  sketch_keeps k = record {
    admits_all = λ x. refl;
    fresh_dummies = λ j. dummy_held j 0 k ∙ grind (arith, nat_tests);
    fresh_reals = λ x. real_unheld x 0 k;
    laws = sketch_lawful k;
  }
