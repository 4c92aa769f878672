-- Total orders as tests, what `cmp` answers by one, and the order of two parts.
use Rattle.std.specs.Prelude.{◌≡◌, Bool, true, false, cond, not, ◌&&◌, ◌≢◌}
use Rattle.std.specs.Ordering.{is_lt}
use Rattle.std.specs.declared.cmp.Ordering.{Ordering}
use Rattle.std.specs.declared.cmp.Ordering.TheVariants.{Equal}

-- Two keys are the same where neither is less. `less` is a total order if
--   equal keys are the same (irreflexive), and no others are (connected);
--   of two different keys exactly one is less;
--   less is transitive.
pub record TotalOrder {K : Type 0} (less : K → K → Bool) : Type 0 where
  pub irreflexive : (x : K) → less x x ≡ false
  pub connected : (x y : K) → less x y ≡ false → less y x ≡ false → x ≡ y
  pub exactly_one : (x y : K) → (x ≢ y) → less y x ≡ not (less x y)
  pub transitive : (x y z : K) → less x y ≡ true → less y z ≡ true → less x z ≡ true

-- what `cmp` answers of two keys: less where `less` holds, and equal of one key alone
pub record ComparesBy {K : Type 0} (less : K → K → Bool) (cmp : K → K → Ordering) : Type 0 where
  pub less_is : (x y : K) → less x y ≡ is_lt (cmp x y)
  pub same_is : (x y : K) → cmp x y ≡ Equal → x ≡ y

-- whether two keys are the same: neither is less
abbrev pub same : {K : Type 0} → (K → K → Bool) → K → K → Bool
same less x y = not (less x y) && not (less y x)

-- (a, b) before (c, d): by the first part; by the second where neither first part is less
abbrev pub by_parts : {A B : Type 0} → (A → A → Bool) → (B → B → Bool) → A → B → A → B → Bool
by_parts first second a b c d = cond (first a c) true (cond (first c a) false (second b d))
