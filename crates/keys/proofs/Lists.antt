-- Lists: the first items and the next, no item past the end, an item written behind those that were written before, and a fact about all
-- items of two lists.
use Rattle.std.proofs.Common.{◌≡◌, ℕ, zero, suc, ◌+◌, ◌<◌, ◌≤◌, get_or, List, [], ◌∷◌, ◌++◌, length, take, drop, slice_get, slice_set, Some, None, sym, ap, ◌∙◌, arith}
use Rattle.std.specs.List.{AllByRecursion}
use Rattle.std.proofs.lemmas.List.{take_more, append_assoc, set_at, drop_more}
use Rattle.std.proofs.lemmas.Option.{slice_get_within, get_or_from_slice_get}

-- the first i items and the next
pub take_next : {X : Type 0} (xs : List X) (i : ℕ) (x : X) → slice_get xs i ≡ Some x → take (i + 1) xs ≡ take i xs ++ x ∷ []
take_next xs i x e = take_more xs i x (slice_get_within xs i x e) ∙ ap (λ y. take i xs ++ y ∷ []) (get_or_from_slice_get xs i x x e)

-- where there is no item, the list has ended
pub past_end : {X : Type 0} (xs : List X) (i : ℕ) → slice_get xs i ≡ None → length xs ≤ i
past_end [] i e = omega arith
past_end (x ∷ xs) zero e = cc
past_end (x ∷ xs) (suc i) e = omega (arith, past_end xs i e)

-- an output begins with what was written and is behind it as it was; one item more is written
pub write_next : {X : Type 0} (before old : List X) (written : ℕ) (x : X) → length before ≡ written → written < length old →
    slice_set (before ++ drop written old) written x ≡ (before ++ x ∷ []) ++ drop (written + 1) old
write_next before old written x long room =
    ap (λ rest. slice_set (before ++ rest) written x) (drop_more old written x room)
    ∙ set_at before (get_or old written x) (drop (written + 1) old) x written long
    ∙ sym (append_assoc before (x ∷ []) (drop (written + 1) old))

-- what holds of all items of two lists holds of all items of each
pub all_parts : {X : Type 0} (P : X → Type 0) (xs ys : List X) → AllByRecursion P (xs ++ ys) → AllByRecursion P xs × AllByRecursion P ys
all_parts P [] ys a = (tt, a)
all_parts P (x ∷ xs) ys a = let r = all_parts P xs ys a.1 in ((a.0, r.0), r.1)
