-- The four laws of summaries, as one record over a plan.
use Rattle.std.specs.Prelude.{◌≡◌, ℕ, ◌+◌, ◌*◌, ◌≤◌, Bool, cond, List, [], ◌∷◌, ◌++◌, length, ◌≢◌}
use Rattle.std.specs.List.{AllByRecursion}
use Rattle.keys.specs.Orders.{same}
use Rattle.keys.specs.Helds.{less_held}
use Rattle.keys.specs.Sorted.{Rising}
use Rattle.keys.specs.declared.held.Held.TheVariants.{Real, Dummy}
use Rattle.model.specs.Contents.{Content, count_of, total}
use Rattle.model.specs.Plans.{Plan, after, Entries}
use Rattle.model.specs.Neighbours.{Neighbours}

-- no key stands twice
abbrev pub Different : {X Y : Type 0} → List (X × Y) → Type 0
Different [] = Unit {0}
Different {X} {Y} (e ∷ h) = AllByRecursion (λ (f : X × Y). e.0 ≢ f.0) h × Different h

-- how many of the entries are x
abbrev pub entries_of : {K : Type 0} → (K → K → Bool) → List K → K → ℕ
entries_of less [] x = 0
entries_of less (e ∷ es) x = cond (same less e x) 1 0 + entries_of less es x

-- law 1: the held keys are exactly k, all different, in rising order
pub record HoldsK {K : Type 0} (less : K → K → Bool) (C : Content K) : Type 0 where
  pub exactly : length C.held ≡ C.k
  pub different : Different C.held
  pub rising : Rising (less_held less) C.held

-- law 2: (k + 1) times l and all counts together make n
abbrev pub Balanced : {K : Type 0} → Content K → Type 0
Balanced C = (C.k + 1) * C.l + total C.held ≡ C.n

-- law 3: a real key counts at most as many as its entries, and at most l fewer; a dummy counts 0
pub record Bounded {K : Type 0} (less : K → K → Bool) (es : List K) (C : Content K) : Type 0 where
  pub at_most : (x : K) → count_of less C (Real x) ≤ entries_of less es x
  pub at_least : (x : K) → entries_of less es x ≤ count_of less C (Real x) + C.l
  pub dummies : (j : ℕ) → count_of less C (Dummy j) ≡ 0

-- The plan keeps the laws: they hold after every list of entries that a summary can have taken. Taking keeps k, and n
-- is the number of entries.
pub record Lawful {K : Type 0} (less : K → K → Bool) (plan : Plan K) : Type 0 where
  pub k_stays : (es : List K) → Entries plan es → (after plan es).k ≡ plan.fresh.k
  pub n_counts : (es : List K) → Entries plan es → (after plan es).n ≡ length es
  pub holds_k : (es : List K) → Entries plan es → HoldsK less (after plan es)
  pub balanced : (es : List K) → Entries plan es → Balanced (after plan es)
  pub bounded : (es : List K) → Entries plan es → Bounded less es (after plan es)
  -- law 4: the list, and the list less one entry
  pub neighbours : (xs : List K) (x : K) (ys : List K) → Entries plan (xs ++ x ∷ ys) → Neighbours less (after plan (xs ++ x ∷ ys)) (after plan (xs ++ ys))
