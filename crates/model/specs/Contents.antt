-- The content of a summary: its numbers k, n and l, and the keys that it holds, with their counts.
use Rattle.std.specs.Prelude.{ℕ, ◌+◌, Bool, false, cond, ◌||◌, List, [], ◌∷◌}
use Rattle.keys.specs.Orders.{same}
use Rattle.keys.specs.Helds.{less_held}
use Rattle.keys.specs.declared.held.Held.{Held}
use Rattle.keys.specs.declared.held.Held.TheVariants.{Real, Dummy}

-- keys, each with its count
abbrev pub Counts : Type 0 → Type 0
Counts X = List (X × ℕ)

-- A key in a content is a real key or a dummy, which stands for a real key that is not there yet.
pub record Content (K : Type 0) : Type 0 where
  -- how many keys are held
  pub k : ℕ
  -- how many entries were taken
  pub n : ℕ
  -- how many lowerings there were: entries that lowered every count by 1
  pub l : ℕ
  -- the held keys in key order, with their counts
  pub held : Counts (Held K)

module _ {X : Type 0} (less : X → X → Bool) where
  -- whether x is one of the keys
  abbrev pub is_held : Counts X → X → Bool
  is_held [] x = false
  is_held (e ∷ h) x = same less e.0 x || is_held h x

  -- the count of x; a key that is not held counts 0
  abbrev pub count : Counts X → X → ℕ
  count [] x = 0
  count (e ∷ h) x = cond (same less e.0 x) e.1 (count h x)

-- all counts together
abbrev pub total : {X : Type 0} → Counts X → ℕ
total [] = 0
total (e ∷ h) = e.1 + total h

module _ {K : Type 0} (less : K → K → Bool) where
  -- whether a content holds a key
  abbrev pub holds : Content K → Held K → Bool
  holds C x = is_held (less_held less) C.held x

  -- the count of a key in a content
  abbrev pub count_of : Content K → Held K → ℕ
  count_of C x = count (less_held less) C.held x

-- the real keys of a list, each with what stands beside it
abbrev pub reals : {K Y : Type 0} → List (Held K × Y) → List (K × Y)
reals [] = []
reals ((Real x, y) ∷ r) = (x, y) ∷ reals r
reals ((Dummy j, y) ∷ r) = reals r
