-- Handing over draws: by it a list of one content also comes from a neighbour.
use Rattle.std.specs.Prelude.{◌≡◌, ℕ, Bool, true, false, cond, ◌⊎◌, List, [], ◌∷◌, ◌++◌, map, length, ℤ, pos, ◌+ℤ◌, ◌<ℤ◌}
use Rattle.keys.specs.Orders.{TotalOrder}
use Rattle.keys.specs.declared.held.Held.{Held}
use Rattle.model.specs.Contents.{Content, holds}
use Rattle.model.specs.Plans.{Plan, after, Entries}
use Rattle.model.specs.Neighbours.{only_in, Neighbours}
use Rattle.model.specs.Laws.{HoldsK, Lawful}
use Rattle.model.specs.Listing.{draw_of, listed}

-- b is 1 more or 1 less than a
abbrev pub OffByOne : ℤ → ℤ → Type 0
OffByOne a b = (b ≡ a +ℤ pos 1) ⊎ (a ≡ b +ℤ pos 1)

-- one number changes, by exactly 1
abbrev pub OneChanged : List ℤ → List ℤ → Type 0
OneChanged [] ys = ⊥
OneChanged (a ∷ xs) [] = ⊥
OneChanged (a ∷ xs) (b ∷ ys) = (OffByOne a b × (xs ≡ ys)) ⊎ ((a ≡ b) × OneChanged xs ys)

-- at most one number changes, by exactly 1
abbrev pub AtMostOneChanged : List ℤ → List ℤ → Type 0
AtMostOneChanged xs ys = (xs ≡ ys) ⊎ OneChanged xs ys

-- a key of count 0 or 1 with these draws stays below the threshold
abbrev pub Below : (shared draw threshold : ℤ) → Type 0
Below s d t = (s +ℤ d +ℤ pos 1) <ℤ t

-- C holds x and D does not
abbrev pub OnlyBy : {K : Type 0} → (K → K → Bool) → (C D : Content K) → Held K → Type 0
OnlyBy less C D x = (holds less C x ≡ true) × (holds less D x ≡ false)

-- C is the first of two contents, and hands its draws to D
module _ {K : Type 0} (less : K → K → Bool) (C D : Content K) where
  -- a way to give the draws of keys that only C holds to keys that only D holds, one each
  pub record Way : Type 0 where
    -- whose draw a key gets that only D holds
    pub giver : Held K → Held K
    pub given : (x : Held K) → OnlyBy less D C x → OnlyBy less C D (giver x)
    pub one_each : (x y : Held K) → OnlyBy less D C x → OnlyBy less D C y → giver x ≡ giver y → x ≡ y

  -- the draws of D: a key that C holds too keeps its draw, each other key gets its giver's
  abbrev pub handed : Way → List ℤ → List ℤ
  handed way ds = map (λ (e : Held K × ℕ). draw_of less C ds (cond (holds less C e.0) e.0 (way.giver e.0))) D.held

  -- the premise: of each key that only C holds, shared draw plus its draw plus 1 is below the threshold
  abbrev pub Premise : (shared : ℤ) (draws : List ℤ) (threshold : ℤ) → Type 0
  Premise s ds t = (x : Held K) → OnlyBy less C D x → Below s (draw_of less C ds x) t

  -- numbers by which D gives the list of C: those handed over, but for at most one
  pub record AlsoListed (way : Way) (s : ℤ) (ds : List ℤ) (t : ℤ) : Type 0 where
    pub shared : ℤ
    pub draws : List ℤ
    pub changed : AtMostOneChanged (s ∷ handed way ds) (shared ∷ draws)
    pub same_list : listed D shared draws t ≡ listed C s ds t

  -- As many keys are held only by C as only by D, so that each draw goes to one key and each key gets one; there is a
  -- way to do so; and by every way a list of C also comes from D.
  pub record HandsOver : Type 0 where
    pub as_many : length (only_in less C D) ≡ length (only_in less D C)
    pub some_way : Way
    pub every_way : (way : Way) (s : ℤ) (ds : List ℤ) (t : ℤ) → length ds ≡ C.k → Premise s ds t → AlsoListed way s ds t

-- neighbours hand over, whichever is the first
abbrev pub BothHandOver : {K : Type 0} → (K → K → Bool) → (C D : Content K) → Type 0
BothHandOver less C D = HandsOver less C D × HandsOver less D C

-- so do any two neighbours that keep law 1
abbrev pub HandingOver : Type 0 → Type 0
HandingOver K =
    (less : K → K → Bool) → TotalOrder less → (C D : Content K) → HoldsK less C → HoldsK less D → Neighbours less C D → BothHandOver less C D

-- so do the contents of any plan that keeps the laws, after a list and after the list less one entry
abbrev pub RunsHandOver : Type 0 → Type 0
RunsHandOver K =
    (less : K → K → Bool) → TotalOrder less → (plan : Plan K) → Lawful less plan →
    (xs : List K) (x : K) (ys : List K) → Entries plan (xs ++ x ∷ ys) → BothHandOver less (after plan (xs ++ x ∷ ys)) (after plan (xs ++ ys))
