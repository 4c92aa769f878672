-- The first places of a list written one after the other.
use Rattle.std.proofs.Common.{◌≡◌, ℕ, zero, suc, ◌+◌, ◌<◌, List, [], ◌∷◌, ◌++◌, length, replicate, drop, slice_set, refl, ap, arith}

set_next : {X : Type 0} (n : ℕ) (x : X) (xs : List X) → n < length xs → slice_set (replicate n x ++ drop n xs) n x ≡ replicate (suc n) x ++ drop (suc n) xs
set_next zero x [] h = absurd (omega arith)
set_next zero x (y ∷ ys) h = refl
set_next (suc n) x [] h = absurd (omega arith)
set_next (suc n) x (y ∷ ys) h = ap (λ zs. x ∷ zs) (set_next n x ys (omega arith))

pub set_more : {X : Type 0} (n : ℕ) (x : X) (xs : List X) → n < length xs → slice_set (replicate n x ++ drop n xs) n x ≡ replicate (n + 1) x ++ drop (n + 1) xs
set_more n x xs h = let e : n + 1 ≡ suc n = omega arith in rw e (set_next n x xs h)
