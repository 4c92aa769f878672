-- A list in parts, of which one is rewritten. Idea: with `min` taken away by the lemmas on `take` and `drop` past the end,
-- a part that is cut where the list ends is what `take` makes of it.
use Rattle.std.proofs.Common.{◌≡◌, ℕ, ◌+◌, ◌-◌, ◌<◌, ◌≤◌, min, Bool, true, false, nat_le, ◌⊎◌, List, [], ◌∷◌, ◌++◌, length, take, drop, refl, sym, ap, ◌∙◌, inl, inr, arith}
use Rattle.std.proofs.lemmas.List.{append-nil, append_assoc, length-append, length-take-le, length-drop, take_all, take_at, take-take, take_min, drop_all, drop_at, drop-take, drop_min}
use Rattle.std.proofs.lemmas.Bool.{leb-true, leb-false}

pub cases : (a b : ℕ) → (a ≤ b) ⊎ (b < a)
cases a b = go (nat_le a b) refl
  where
    go : (t : Bool) → nat_le a b ≡ t → (a ≤ b) ⊎ (b < a)
    go true e = inl (leb-true a b e)
    go false e = inr (leb-false a b e)

nothing : {X : Type 0} (zs : List X) → length zs ≡ 0 → zs ≡ []
nothing [] q = refl
nothing (z ∷ zs) q = absurd (omega arith)

-- the part of r items that begins at n, where both are cut at the list's end: `from` and `to` are its two ends
module _ {X : Type 0} (xs : List X) (n r from to : ℕ) (from_is : from ≡ min n (length xs)) (to_is : to ≡ min (r + from) (length xs)) where
  pub part_is : take (to - from) (drop from xs) ≡ take r (drop n xs)
  part_is =
      let d : drop from xs ≡ drop n xs = ap (λ i. drop i xs) from_is ∙ drop_min n xs in
      let e : to - from ≡ min r (length (drop n xs)) = omega (arith, from_is, to_is, length-drop n xs) in
      ap (λ i. take i (drop from xs)) e ∙ ap (take (min r (length (drop n xs)))) d ∙ take_min r (drop n xs)

  -- and this is put in its place
  module _ (part ys : List X) (long : length part ≡ to - from) (ys_is : ys ≡ take from xs ++ (part ++ drop to xs)) where
    front : length (take from xs) ≡ from
    front = length-take-le from xs (omega (arith, from_is))

    pub same_length : length ys ≡ length xs
    same_length =
        omega (arith, from_is, to_is, ap length ys_is, length-append (take from xs) (part ++ drop to xs), length-append part (drop to xs), long, front, length-drop to xs)

    pub part_now : take r (drop n ys) ≡ part
    part_now = elim (cases n (length xs)) [
      | inl h ↦
          let f : length (take from xs) ≡ n = omega (arith, front, from_is) in
          let d : drop n ys ≡ part ++ drop to xs = ap (drop n) ys_is ∙ drop_at (take from xs) (part ++ drop to xs) n f in
          elim (cases (n + r) (length xs)) [
            | inl k ↦ ap (take r) d ∙ take_at part (drop to xs) r (omega (arith, long, from_is, to_is))
            | inr k ↦
                let e : drop to xs ≡ [] = drop_all to xs (omega (arith, from_is, to_is)) in
                ap (take r) (d ∙ ap (λ z. part ++ z) e ∙ append-nil part) ∙ take_all r part (omega (arith, long, from_is, to_is))
          ]
      | inr h ↦
          let d : drop n ys ≡ [] = drop_all n ys (omega (arith, same_length)) in
          let e : part ≡ [] = nothing part (omega (arith, long, from_is, to_is)) in
          ap (take r) d ∙ ap (take r) (sym e) ∙ take_all r part (omega (arith, long, from_is, to_is))
    ]

    pub before : take n ys ≡ take n xs
    before = elim (cases n (length xs)) [
      | inl h ↦
          let f : length (take from xs) ≡ n = omega (arith, front, from_is) in
          let e : from ≡ n = omega (arith, from_is) in
          ap (take n) ys_is ∙ take_at (take from xs) (part ++ drop to xs) n f ∙ ap (λ i. take i xs) e
      | inr h ↦
          let e : from ≡ length xs = omega (arith, from_is) in
          let a : take from xs ≡ xs = take_all from xs (omega (arith, e)) in
          let b : part ++ drop to xs ≡ [] = nothing (part ++ drop to xs) (omega (arith, length-append part (drop to xs), long, from_is, to_is, length-drop to xs)) in
          ap (take n) (ys_is ∙ ap (λ z. z ++ (part ++ drop to xs)) a ∙ ap (λ z. xs ++ z) b ∙ append-nil xs)
    ]

    pub beyond : drop (n + r) ys ≡ drop (n + r) xs
    beyond = elim (cases (n + r) (length xs)) [
      | inl k ↦
          let f : length (take from xs ++ part) ≡ n + r = omega (arith, length-append (take from xs) part, front, long, from_is, to_is) in
          let t : to ≡ n + r = omega (arith, from_is, to_is) in
          ap (drop (n + r)) (ys_is ∙ sym (append_assoc (take from xs) part (drop to xs))) ∙ drop_at (take from xs ++ part) (drop to xs) (n + r) f ∙ ap (λ i. drop i xs) t
      | inr k ↦ drop_all (n + r) ys (omega (arith, same_length)) ∙ sym (drop_all (n + r) xs (omega arith))
    ]

-- what lies before a place is told by the items up to there
pub inside : {X : Type 0} (xs ys : List X) (s r n : ℕ) → s + r ≤ n → take n xs ≡ take n ys → take r (drop s xs) ≡ take r (drop s ys)
inside xs ys s r n h e =
    let a : take (s + r) xs ≡ take (s + r) ys = sym (take-take (s + r) n xs h) ∙ ap (take (s + r)) e ∙ take-take (s + r) n ys h in
    sym (drop-take s r xs) ∙ ap (drop s) a ∙ drop-take s r ys
