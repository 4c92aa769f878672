-- A key that is not held counts 0, and the upper bound of a key is at most n.
use Rattle.std.proofs.Common.{◌≡◌, ◌+◌, ◌≤◌, Bool, true, false, cond, ◌||◌, [], ◌∷◌, Some, None, unwrap_or, refl, sym, arith}
use Rattle.keys.specs.Orders.{same}
use Rattle.keys.specs.Helds.{less_held}
use Rattle.keys.specs.declared.held.Held.TheVariants.{Real}
use Rattle.model.specs.Contents.{Counts, Content, is_held, count, count_of, total}
use Rattle.summaries.specs.Calls.{Stands, count_answer}

count_total : {X : Type 0} (less : X → X → Bool) (h : Counts X) (x : X) → count less h x ≤ total h
count_total less [] x = omega arith
count_total less (e ∷ h) x = by_same (same less e.0 x) (count_total less h x)
  where
    by_same : (b : Bool) → count less h x ≤ total h → cond b e.1 (count less h x) ≤ e.1 + total h
    by_same true later = omega arith
    by_same false later = omega (arith, later)

not_held : {X : Type 0} (less : X → X → Bool) (h : Counts X) (x : X) → is_held less h x ≡ false → count less h x ≡ 0
not_held less [] x e = refl
not_held less (f ∷ h) x e = by_same (same less f.0 x) (not_held less h x) e
  where
    by_same : (b : Bool) → (is_held less h x ≡ false → count less h x ≡ 0) → (b || is_held less h x) ≡ false → cond b f.1 (count less h x) ≡ 0
    by_same true later e = cc
    by_same false later e = later e

pub count_or_zero : {K : Type 0} (less : K → K → Bool) (C : Content K) (x : K) → unwrap_or (count_answer less C x) 0 ≡ count_of less C (Real x)
count_or_zero {K} less C x = by_held (is_held (less_held less) C.held (Real x)) refl
  where
    by_held : (b : Bool) → is_held (less_held less) C.held (Real x) ≡ b → unwrap_or (cond b (Some (count_of less C (Real x))) None) 0 ≡ count_of less C (Real x)
    by_held true e = refl
    by_held false e = sym (not_held (less_held less) C.held (Real x) e)

pub upper_within : {K : Type 0} (less : K → K → Bool) (C : Content K) (x : K) → Stands less C → count_of less C (Real x) + C.l ≤ C.n
upper_within less C x s = omega (arith, s.balanced, count_total (less_held less) C.held (Real x))
