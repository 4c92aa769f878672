-- Lists read at a place, and written there.
use Rattle.std.proofs.Common.{◌≡◌, ℕ, zero, suc, ◌+◌, ◌<◌, get_or, List, [], ◌∷◌, ◌++◌, map, length, take, drop, slice_get, slice_set, Some, refl, sym, ap, ◌∙◌, arith}
use Rattle.std.specs.List.{sum_by}
use Rattle.std.proofs.lemmas.List.{drop-drop, drop-set-lt, take-set-le}
use Rattle.std.proofs.lemmas.List.Sums.{sum_by-set}
use Rattle.std.proofs.Math.Seq.{map-set_same}
use Rattle.std.proofs.lemmas.Option.{slice_get_within, slice_get_read, get_or_from_slice_get}
use Rattle.keys.proofs.Lists.{take_next}

pub get_set : {X : Type 0} (xs : List X) (i : ℕ) (x : X) → i < length xs → slice_get (slice_set xs i x) i ≡ Some x
get_set [] i x h = absurd (omega arith)
get_set (y ∷ xs) zero x h = refl
get_set (y ∷ xs) (suc i) x h = get_set xs i x (omega arith)

pub get_others : {X : Type 0} (xs : List X) (i j : ℕ) (x : X) → j < i → slice_get (slice_set xs i x) j ≡ slice_get xs j
get_others [] i j x h = refl
get_others (y ∷ xs) zero j x h = absurd (omega arith)
get_others (y ∷ xs) (suc i) zero x h = refl
get_others (y ∷ xs) (suc i) (suc j) x h = get_others xs i j x (omega arith)

pub get_taken : {X : Type 0} (xs : List X) (n j : ℕ) → j < n → slice_get (take n xs) j ≡ slice_get xs j
get_taken [] zero j h = absurd (omega arith)
get_taken [] (suc n) j h = refl
get_taken (x ∷ xs) zero j h = absurd (omega arith)
get_taken (x ∷ xs) (suc n) zero h = refl
get_taken (x ∷ xs) (suc n) (suc j) h = get_taken xs n j (omega arith)

-- with one item written at i, the first i + 1 items are the first i and this one
pub take_set : {X : Type 0} (xs : List X) (i : ℕ) (x : X) → i < length xs → take (i + 1) (slice_set xs i x) ≡ take i xs ++ x ∷ []
take_set xs i x h = take_next (slice_set xs i x) i x (get_set xs i x h) ∙ ap (λ ys. ys ++ x ∷ []) (take-set-le i xs i x (omega arith))

-- what lies behind the last item written
pub drop_set : {X : Type 0} (xs ys : List X) (i : ℕ) (x : X) → drop i xs ≡ drop i ys → drop (i + 1) (slice_set xs i x) ≡ drop (i + 1) ys
drop_set xs ys i x e =
    drop-set-lt (i + 1) xs i x (omega arith) ∙ sym (drop-drop 1 i xs) ∙ ap (drop 1) e ∙ drop-drop 1 i ys

-- the item at a place of the first n
pub read_taken : {X : Type 0} (xs : List X) (n i : ℕ) (x : X) → i < n → i < length xs → x ≡ get_or xs i x → slice_get (take n xs) i ≡ Some x
read_taken xs n i x h k e = get_taken xs n i h ∙ slice_get_read xs (length xs) i x refl k e

-- an item is written that shows the same as the one that was there
pub map_set : {X Y : Type 0} (f : X → Y) (xs : List X) (i : ℕ) (x y : X) → slice_get xs i ≡ Some x → f y ≡ f x → map f (slice_set xs i y) ≡ map f xs
map_set f xs i x y e q = map-set_same f xs i y x (q ∙ ap f (sym (get_or_from_slice_get xs i x x e)))

pub sum_set : {X : Type 0} (f : X → ℕ) (xs : List X) (i : ℕ) (x y : X) → slice_get xs i ≡ Some x → sum_by f (slice_set xs i y) + f x ≡ sum_by f xs + f y
sum_set f xs i x y e =
    ap (λ t. sum_by f (slice_set xs i y) + f t) (sym (get_or_from_slice_get xs i x x e)) ∙ sum_by-set f xs i y x (slice_get_within xs i x e)
