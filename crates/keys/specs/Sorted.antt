-- Lists of keys, each with something beside it: whether the keys rise, and a key that comes in at its place.
use Rattle.std.specs.Prelude.{◌≡◌, Bool, true, cond, List, [], ◌∷◌}
use Rattle.std.specs.List.{AllByRecursion}

-- each key is less than all that follow
abbrev pub Rising : {X Y : Type 0} → (X → X → Bool) → List (X × Y) → Type 0
Rising less [] = Unit {0}
Rising {X} {Y} less (e ∷ h) = AllByRecursion (λ (f : X × Y). less e.0 f.0 ≡ true) h × Rising less h

-- a key, with what is beside it, comes in before the first key that it is less than
abbrev pub insert_sorted : {X Y : Type 0} → (X → X → Bool) → X × Y → List (X × Y) → List (X × Y)
insert_sorted less e [] = e ∷ []
insert_sorted less e (f ∷ h) = cond (less e.0 f.0) (e ∷ f ∷ h) (f ∷ insert_sorted less e h)
