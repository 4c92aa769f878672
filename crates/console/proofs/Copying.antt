-- Items written one by one to the start of an output. Idea: after i turns it begins with the first i items.
use Rattle.std.proofs.Common.{◌≡◌, ℕ, ◌+◌, ◌≤◌, ◌<◌, get_or, List, [], ◌∷◌, ◌++◌, map, length, take, drop, slice_set, sym, refl, ap, ◌∙◌, append_assoc, arith}
use Rattle.std.proofs.lemmas.List.{map-append, length-map, take_more, take_all, set_at, drop_more, length-take-le}

-- where i of the items are written, and the output was once `old`
pub Copied : {X Y : Type 0} (f : X → Y) (xs : List X) (old now : List Y) (i : ℕ) → Type 0
Copied f xs old now i = now ≡ map f (take i xs) ++ drop i old

module _ {X Y : Type 0} (f : X → Y) (xs : List X) (old : List Y) where
  pub none_copied : Copied f xs old old 0
  unfolding Copied
  none_copied = refl

  pub one_copied : (now : List Y) (i : ℕ) (x : X) → Copied f xs old now i → i < length xs → x ≡ get_or xs i x → length xs ≤ length old →
      Copied f xs old (slice_set now i (f x)) (i + 1)
  unfolding Copied
  one_copied now i x s within item room =
      let more : map f (take (i + 1) xs) ≡ map f (take i xs) ++ f x ∷ [] =
      ap (map f) (take_more xs i x within) ∙ map-append f (take i xs) (get_or xs i x ∷ []) ∙ ap (λ y. map f (take i xs) ++ f y ∷ []) (sym item) in
      let long : length (map f (take i xs)) ≡ i = length-map (take i xs) f ∙ length-take-le i xs (omega (arith, within)) in
      ap (λ ys. slice_set ys i (f x)) (s ∙ ap (λ r. map f (take i xs) ++ r) (drop_more old i (f x) (omega (arith, within, room))))
      ∙ set_at (map f (take i xs)) (get_or old i (f x)) (drop (i + 1) old) (f x) i long
      ∙ sym (append_assoc (map f (take i xs)) (f x ∷ []) (drop (i + 1) old)) ∙ ap (λ r. r ++ drop (i + 1) old) (sym more)

  pub all_copied : (now : List Y) (i : ℕ) → Copied f xs old now i → length xs ≤ i → i ≤ length xs → now ≡ map f xs ++ drop (length xs) old
  unfolding Copied
  all_copied now i s past within =
      let here : i ≡ length xs = omega (arith, past, within) in
      s ∙ ap (λ ys. map f ys ++ drop i old) (take_all i xs past) ∙ ap (λ n. map f xs ++ drop n old) here
