-- The listing rule: the keys whose count with noise added reaches a threshold. Its numbers have no range.
use Rattle.std.specs.Prelude.{◌≡◌, Bool, true, false, cond, List, [], ◌∷◌, length, ℤ, pos, ◌+ℤ◌, ◌≤ℤ◌, ◌<ℤ◌, filter, int_le}
use Rattle.keys.specs.Orders.{TotalOrder, same}
use Rattle.keys.specs.Helds.{less_held}
use Rattle.keys.specs.declared.held.Held.{Held}
use Rattle.keys.specs.declared.held.Held.TheVariants.{Real}
use Rattle.keys.specs.Sorted.{Rising}
use Rattle.model.specs.Contents.{Counts, Content, holds, count_of, reals}
use Rattle.model.specs.Laws.{HoldsK}

-- Each key with its value: its count plus the shared draw plus its own draw. The draws belong to the held keys in key
-- order, dummies included.
abbrev pub valued : {X : Type 0} → Counts X → (shared : ℤ) (draws : List ℤ) → List (X × ℤ)
valued [] s ds = []
valued (e ∷ h) s [] = []
valued (e ∷ h) s (d ∷ ds) = (e.0, pos e.1 +ℤ s +ℤ d) ∷ valued h s ds

-- whether a value is at least the threshold
abbrev pub reaches : (threshold value : ℤ) → Bool
reaches t v = int_le t v

-- the real keys whose value reaches the threshold, in key order, with their values
abbrev pub listed : {K : Type 0} → Content K → (shared : ℤ) (draws : List ℤ) (threshold : ℤ) → List (K × ℤ)
listed {K} C s ds t = reals (filter (λ (e : Held K × ℤ). reaches t e.1) (valued C.held s ds))

-- the draw of the key x; 0 if the key is not held, or has no draw
abbrev pub draw : {X : Type 0} → (X → X → Bool) → Counts X → List ℤ → X → ℤ
draw less [] ds x = pos 0
draw less (e ∷ h) [] x = pos 0
draw less (e ∷ h) (d ∷ ds) x = cond (same less e.0 x) d (draw less h ds x)

-- what stands beside x in a list
abbrev pub beside : {X Y : Type 0} → (X → X → Bool) → List (X × Y) → X → List Y
beside less [] x = []
beside less (e ∷ r) x = cond (same less e.0 x) (e.1 ∷ beside less r x) (beside less r x)

module _ {K : Type 0} (less : K → K → Bool) (C : Content K) where
  -- the draw of a key that C holds
  abbrev pub draw_of : List ℤ → Held K → ℤ
  draw_of ds x = draw (less_held less) C.held ds x

  -- the value of a key that C holds
  abbrev pub value_of : (shared : ℤ) (draws : List ℤ) → Held K → ℤ
  value_of s ds x = pos (count_of less C x) +ℤ s +ℤ draw_of ds x

  -- The rule in words: the keys of the list rise; a real key that is held stands in it, beside its value, if that is at
  -- least the threshold; no other key does.
  pub record IsList (s : ℤ) (ds : List ℤ) (t : ℤ) (r : List (K × ℤ)) : Type 0 where
    pub rising : Rising less r
    pub reached : (x : K) → holds less C (Real x) ≡ true → t ≤ℤ value_of s ds (Real x) → beside less r x ≡ value_of s ds (Real x) ∷ []
    pub too_low : (x : K) → holds less C (Real x) ≡ true → value_of s ds (Real x) <ℤ t → beside less r x ≡ []
    pub not_held : (x : K) → holds less C (Real x) ≡ false → beside less r x ≡ []

  -- the list does what the words say, and whatever does so is the list
  pub record OneList (s : ℤ) (ds : List ℤ) (t : ℤ) : Type 0 where
    pub is_list : IsList s ds t (listed C s ds t)
    pub nothing_else : (r : List (K × ℤ)) → IsList s ds t r → r ≡ listed C s ds t

-- so it is of every content that holds k keys, which rise, with as many draws, whatever the draws and the threshold
abbrev pub ListingRule : Type 0 → Type 0
ListingRule K =
    (less : K → K → Bool) → TotalOrder less → (C : Content K) → HoldsK less C → (s : ℤ) (ds : List ℤ) (t : ℤ) → length ds ≡ C.k → OneList less C s ds t
