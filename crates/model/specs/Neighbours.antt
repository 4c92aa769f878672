-- Neighbours: the contents of two alike summaries of which one took one entry more.
use Rattle.std.specs.Prelude.{◌≡◌, ℕ, ◌+◌, ◌≤◌, Bool, true, false, not, ◌⊎◌, length, filter, ◌≢◌}
use Rattle.std.specs.List.{AllByRecursion}
use Rattle.keys.specs.Helds.{less_held}
use Rattle.keys.specs.declared.held.Held.{Held}
use Rattle.model.specs.Contents.{Counts, Content, is_held, holds, count_of}

-- what h holds and g does not
abbrev pub only : {X : Type 0} → (X → X → Bool) → Counts X → Counts X → Counts X
only {X} less h g = filter (λ (e : X × ℕ). not (is_held less g e.0)) h

module _ {K : Type 0} (less : K → K → Bool) where
  -- what C holds and D does not
  abbrev pub only_in : Content K → Content K → Counts (Held K)
  only_in C D = only (less_held less) C.held D.held

  -- at most two keys of C are not held by D, and each of these counts 0 or 1
  pub record FewOnly (C D : Content K) : Type 0 where
    pub two : length (only_in C D) ≤ 2
    pub small : AllByRecursion (λ (e : Held K × ℕ). e.1 ≤ 1) (only_in C D)

  -- case one: one key counts 1 more in C, all others count the same, and l is the same
  pub record CaseOne (C D : Content K) : Type 0 where
    pub key : Held K
    pub more : count_of less C key ≡ count_of less D key + 1
    pub others : (x : Held K) → (x ≢ key) → count_of less C x ≡ count_of less D x
    pub lowerings : C.l ≡ D.l

  -- case all: each key that D holds counts 1 less in C, each that it does not counts 0 in C, and l is 1 more in C
  pub record CaseAll (C D : Content K) : Type 0 where
    pub one_less : (x : Held K) → holds less D x ≡ true → count_of less C x + 1 ≡ count_of less D x
    pub none : (x : Held K) → holds less D x ≡ false → count_of less C x ≡ 0
    pub lowerings : C.l ≡ D.l + 1

  -- C belongs to the longer list of entries, D to the shorter
  pub record Neighbours (C D : Content K) : Type 0 where
    pub k_same : C.k ≡ D.k
    pub n_more : C.n ≡ D.n + 1
    pub longer : FewOnly C D
    pub shorter : FewOnly D C
    pub case : CaseOne C D ⊎ CaseAll C D
