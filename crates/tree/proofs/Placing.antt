-- The j-th key of a shape is the j-th of its entries.
use Rattle.std.proofs.Common.{◌≡◌, ◌==◌, ℕ, zero, suc, ◌-◌, cond, nat_lt, List, [], ◌∷◌, ◌++◌, Some, length, slice_get, refl, arith}
use Rattle.std.proofs.lemmas.Bool.Decides.{nat_tests}
use Rattle.std.specs.Option.{option_map}
use Rattle.tree.specs.Entries.{Kept, item}
use Rattle.tree.specs.Shapes.{Shape, leaf, node, size, entries}
use Rattle.tree.specs.Operations.{place}
use Rattle.tree.proofs.Listed.{size_is}

-- before, at and after an element
get_around : {X : Type 0} (xs ys : List X) (x : X) (j : ℕ) → slice_get (xs ++ x ∷ ys) j ≡ cond (nat_lt j (length xs)) (slice_get xs j) (cond (j == length xs) (Some x) (slice_get ys (j - length xs - 1)))
get_around [] ys x zero = refl
get_around [] ys x (suc j) = let e : suc j - 0 - 1 ≡ j = omega arith in grind (arith, nat_tests)
get_around (z ∷ zs) ys x zero = grind (arith, nat_tests)
get_around (z ∷ zs) ys x (suc j) = let r = get_around zs ys x j in let e : suc j - length (z ∷ zs) - 1 ≡ j - length zs - 1 = omega arith in grind (arith, nat_tests)

pub place_is : {K V : Type 0} (t : Shape K V) (j : ℕ) → place j t ≡ option_map item (slice_get (entries t) j)
place_is leaf j = refl
place_is {K} {V} (node l i k v u) j =
    let e : K × Kept V = (k, record { value = v; cell = i }) in
    let g = get_around (entries l) (entries u) e j in
    let a = place_is l j in
    let b = place_is u (j - size l - 1) in
    let c = size_is l in
    grind arith
