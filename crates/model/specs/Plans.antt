-- The plan of a summary, which is what alike summaries share, and the content after a list of entries.
use Rattle.std.specs.Prelude.{◌≡◌, ℕ, ◌+◌, ◌≤◌, Bool, true, cond, List, [], ◌∷◌, map, length}
use Rattle.std.specs.List.{AllByRecursion}
use Rattle.keys.specs.Orders.{same}
use Rattle.keys.specs.declared.held.Held.{Held}
use Rattle.model.specs.Contents.{Counts, Content}

-- what a summary holds when it is fresh, and what it does with a key that is given
pub record Plan (K : Type 0) : Type 0 where
  -- the content before any entry
  pub fresh : Content K
  -- which keys may be taken
  pub admits : K → Bool
  -- the rule of taking: the content after one key more
  pub rule : Content K → K → Content K

-- the content after these entries, from C on
abbrev pub after_from : {K : Type 0} → Plan K → Content K → List K → Content K
after_from plan C [] = C
after_from plan C (x ∷ es) = after_from plan (plan.rule C x) es

-- the content after these entries
abbrev pub after : {K : Type 0} → Plan K → List K → Content K
after plan es = after_from plan plan.fresh es

-- no summary takes more entries than this, the largest number of 32 bits
abbrev pub most_entries : ℕ
most_entries = 4294967295

-- a list of entries that a summary can have taken
pub record Entries {K : Type 0} (plan : Plan K) (es : List K) : Type 0 where
  pub admitted : AllByRecursion (λ x. plan.admits x ≡ true) es
  pub few : length es ≤ most_entries

-- what rules are made of: C with one entry more, l lowerings and these keys held
abbrev pub one_more : {K : Type 0} → Content K → (l : ℕ) → Counts (Held K) → Content K
one_more C l h = record { k = C.k; n = C.n + 1; l = l; held = h }

-- the keys held, of which x counts 1 more
abbrev pub raised : {X : Type 0} → (X → X → Bool) → X → Counts X → Counts X
raised {X} less x h = map (λ (e : X × ℕ). (e.0, cond (same less e.0 x) (e.1 + 1) e.1)) h
