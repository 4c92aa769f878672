-- The sketch's plan: Misra and Gries's summary in the variant of Lebeda and Tětek, which keeps a key that reaches 0.
use Rattle.std.specs.Prelude.{◌≡◌, ℕ, zero, suc, ◌+◌, ◌-◌, Bool, true, false, cond, ◌||◌, [], ◌∷◌, map, ◌==◌, nat_lt}
use Rattle.keys.specs.Orders.{TotalOrder}
use Rattle.keys.specs.Helds.{less_held}
use Rattle.keys.specs.Sorted.{insert_sorted}
use Rattle.keys.specs.declared.held.Held.{Held}
use Rattle.keys.specs.declared.held.Held.TheVariants.{Real, Dummy}
use Rattle.model.specs.Contents.{Counts, Content, holds}
use Rattle.model.specs.Plans.{Plan, one_more, raised}
use Rattle.model.specs.Laws.{Lawful}

-- whether some count is 0
abbrev pub some_zero : {X : Type 0} → Counts X → Bool
some_zero [] = false
some_zero (e ∷ h) = e.1 == 0 || some_zero h

-- the first key at 0, which is the smallest, leaves
abbrev pub leave : {X : Type 0} → Counts X → Counts X
leave [] = []
leave (e ∷ h) = cond (e.1 == 0) h (e ∷ leave h)

-- a new key comes in with count 1
abbrev pub newcomer : {X : Type 0} → X → X × ℕ
newcomer x = (x, 1)

-- every count falls by 1
abbrev pub lowered : {X : Type 0} → Counts X → Counts X
lowered {X} h = map (λ (e : X × ℕ). (e.0, e.1 - 1)) h

module _ {X : Type 0} (less : X → X → Bool) where
  -- the smallest key at 0 leaves, and x comes in
  abbrev pub replaced : X → Counts X → Counts X
  replaced x h = insert_sorted less (newcomer x) (leave h)

-- n dummies at 0, numbered from j
abbrev pub dummies_from : {K : Type 0} → (j n : ℕ) → Counts (Held K)
dummies_from j zero = []
dummies_from j (suc n) = (Dummy j, 0) ∷ dummies_from (suc j) n

-- The rule of taking: a held key is raised; else, if some count is 0, the smallest key at 0 is replaced; else every
-- count is lowered, and the key is not kept.
abbrev pub sketch_rule : {K : Type 0} → (K → K → Bool) → Content K → K → Content K
sketch_rule less C x =
    cond (holds less C (Real x)) (one_more C C.l (raised (less_held less) (Real x) C.held))
    (cond (some_zero C.held) (one_more C C.l (replaced (less_held less) (Real x) C.held))
    (one_more C (C.l + 1) (lowered C.held)))

-- a sketch of k keys is fresh with dummies 0 to k - 1 at 0, and admits every key
abbrev pub sketch : {K : Type 0} → (K → K → Bool) → (k : ℕ) → Plan K
sketch less k = record { fresh = record { k = k; n = 0; l = 0; held = dummies_from 0 k }; admits = λ _. true; rule = sketch_rule less }

-- a sketch admits every key, holds dummies 0 to k - 1 and nothing else when fresh, and keeps the four laws
pub record SketchKeeps {K : Type 0} (less : K → K → Bool) (k : ℕ) : Type 0 where
  pub admits_all : (x : K) → (sketch less k).admits x ≡ true
  pub fresh_dummies : (j : ℕ) → holds less (sketch less k).fresh (Dummy j) ≡ nat_lt j k
  pub fresh_reals : (x : K) → holds less (sketch less k).fresh (Real x) ≡ false
  pub laws : Lawful less (sketch less k)

-- so it is for every kind of key that is totally ordered and every k
abbrev pub SketchLaws : Type 0 → Type 0
SketchLaws K = (less : K → K → Bool) → TotalOrder less → (k : ℕ) → SketchKeeps less k
