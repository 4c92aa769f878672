-- Keys with other counts beside them: what is held, counted, raised and summed. Idea: the keys stay, so whatever speaks of
-- keys alone stays; and where keys rise, a key that stands at one place is at no other.
use Rattle.std.proofs.Common.{◌≡◌, ℕ, zero, suc, ◌+◌, ◌<◌, ◌≤◌, Bool, true, false, cond, ◌||◌, List, [], ◌∷◌, length, map, take, replicate, sum, get_or, set, Some, refl, sym, ap, subst, ◌∙◌, arith}
use Rattle.std.specs.List.{AllByRecursion, zip, slice_get}
use Rattle.std.proofs.lemmas.Bool.Decides.{nat_tests}
use Rattle.std.proofs.lemmas.List.Sums.{sum_by-cons}
use Rattle.keys.specs.Orders.{TotalOrder, same}
use Rattle.keys.specs.Sorted.{Rising}
use Rattle.keys.specs.KindOrdersLemmas.{same_self}
use Rattle.model.specs.Contents.{Counts, is_held, count, total}
use Rattle.model.specs.Plans.{raised}
use Rattle.model.specs.Laws.{Different}

sum_cons : (x : ℕ) (xs : List ℕ) → sum (x ∷ xs) ≡ x + sum xs
sum_cons x xs = sum_by-cons (λ n. n) x xs

-- the keys alone
abbrev pub firsts : {X : Type 0} → Counts X → List X
firsts {X} h = map (λ (e : X × ℕ). e.0) h

-- these keys with other counts
abbrev pub beside : {X : Type 0} → Counts X → List ℕ → Counts X
beside h cs = zip (firsts h) cs

module _ {X : Type 0} where
  all_beside : (P : X → Type 0) (h : Counts X) (cs : List ℕ) → AllByRecursion (λ (e : X × ℕ). P e.0) h → AllByRecursion (λ (e : X × ℕ). P e.0) (beside h cs)
  all_beside P [] cs a = tt
  all_beside P (e ∷ h) [] a = tt
  all_beside P (e ∷ h) (c ∷ cs) a = (a.0, all_beside P h cs a.1)

  pub different_beside : (h : Counts X) (cs : List ℕ) → Different h → Different (beside h cs)
  different_beside [] cs d = tt
  different_beside (e ∷ h) [] d = tt
  different_beside (e ∷ h) (c ∷ cs) d = (all_beside (λ x. e.0 ≡ x → ⊥) h cs d.0, different_beside h cs d.1)

  pub length_beside : (h : Counts X) (cs : List ℕ) → length h ≤ length cs → length (beside h cs) ≡ length h
  length_beside [] cs p = refl
  length_beside (e ∷ h) [] p = absurd (omega arith)
  length_beside (e ∷ h) (c ∷ cs) p = ap suc (length_beside h cs (omega arith))

  pub total_beside : (h : Counts X) (cs : List ℕ) → total (beside h cs) ≡ sum (take (length h) cs)
  total_beside [] cs = refl
  total_beside (e ∷ h) [] = refl
  total_beside (e ∷ h) (c ∷ cs) = ap (λ n. c + n) (total_beside h cs) ∙ sym (sum_cons c (take (length h) cs))

  pub zeros_beside : (h : Counts X) (m : ℕ) → AllByRecursion (λ (e : X × ℕ). e.1 ≡ 0) h → length h ≤ m → beside h (replicate m 0) ≡ h
  zeros_beside [] m z p = refl
  zeros_beside (e ∷ h) zero z p = absurd (omega arith)
  zeros_beside (e ∷ h) (suc m) z p = let zero_count = z.0 in let rest = zeros_beside h m z.1 (omega arith) in ap (λ n. (e.0, n) ∷ beside h (replicate m 0)) (sym zero_count) ∙ ap (λ t. e ∷ t) rest

  -- what holds of all keys holds of the one at a place
  all_at : (P : X → Type 0) (h : Counts X) (i : ℕ) (x : X) → AllByRecursion (λ (e : X × ℕ). P e.0) h → slice_get (firsts h) i ≡ Some x → P x
  all_at P [] i x a p = cc
  all_at P (e ∷ h) zero x a p = let q : e.0 ≡ x = cc in subst P q a.0
  all_at P (e ∷ h) (suc i) x a p = all_at P h i x a.1 p

  pub at_beside : (h : Counts X) (cs : List ℕ) (i : ℕ) (x : X) → slice_get (firsts h) i ≡ Some x → i < length cs → slice_get (beside h cs) i ≡ Some (x, get_or cs i 0)
  at_beside [] cs i x p q = cc
  at_beside (e ∷ h) [] i x p q = absurd (omega arith)
  at_beside (e ∷ h) (c ∷ cs) zero x p q = let r : e.0 ≡ x = cc in ap (λ y. Some (y, c)) r
  at_beside (e ∷ h) (c ∷ cs) (suc i) x p q = at_beside h cs i x p (omega arith)

  module _ (less : X → X → Bool) where
    pub rising_beside : (h : Counts X) (cs : List ℕ) → Rising less h → Rising less (beside h cs)
    rising_beside [] cs r = tt
    rising_beside (e ∷ h) [] r = tt
    rising_beside (e ∷ h) (c ∷ cs) r = (all_beside (λ x. less e.0 x ≡ true) h cs r.0, rising_beside h cs r.1)

    pub held_beside : (h : Counts X) (cs : List ℕ) (x : X) → length h ≤ length cs → is_held less (beside h cs) x ≡ is_held less h x
    held_beside [] cs x p = refl
    held_beside (e ∷ h) [] x p = absurd (omega arith)
    held_beside (e ∷ h) (c ∷ cs) x p = ap (λ b. same less e.0 x || b) (held_beside h cs x (omega arith))

    apart_above : (x y : X) → less x y ≡ true → same less y x ≡ false
    apart_above x y p = grind (arith, nat_tests)

    apart_below : (x y : X) → less y x ≡ true → same less y x ≡ false
    apart_below x y p = grind (arith, nat_tests)

    -- where x is below all keys, raising x changes nothing
    unraised : (h : Counts X) (cs : List ℕ) (x : X) → AllByRecursion (λ (f : X × ℕ). less x f.0 ≡ true) h → raised less x (beside h cs) ≡ beside h cs
    unraised [] cs x a = refl
    unraised (e ∷ h) [] x a = refl
    unraised (e ∷ h) (c ∷ cs) x a = ap (λ b. (e.0, cond b (c + 1) c) ∷ raised less x (beside h cs)) (apart_above x e.0 a.0) ∙ ap (λ t. (e.0, c) ∷ t) (unraised h cs x a.1)

    module _ (order : TotalOrder less) where
      -- x stands at place i
      pub count_beside : (h : Counts X) (cs : List ℕ) (i : ℕ) (x : X) → Rising less h → slice_get (firsts h) i ≡ Some x → i < length cs → count less (beside h cs) x ≡ get_or cs i 0
      count_beside [] cs i x r p q = cc
      count_beside (e ∷ h) [] i x r p q = absurd (omega arith)
      count_beside (e ∷ h) (c ∷ cs) zero x r p q =
          let here : e.0 ≡ x = cc in
          let s : same less e.0 x ≡ true = subst (λ y. same less e.0 y ≡ true) here (same_self less order e.0) in
          ap (λ b. cond b c (count less (beside h cs) x)) s
      count_beside (e ∷ h) (c ∷ cs) (suc i) x r p q =
          ap (λ b. cond b c (count less (beside h cs) x)) (apart_below x e.0 (all_at (λ y. less e.0 y ≡ true) h i x r.0 p)) ∙ count_beside h cs i x r.1 p (omega arith)

      pub raised_beside : (h : Counts X) (cs : List ℕ) (i : ℕ) (x : X) → Rising less h → slice_get (firsts h) i ≡ Some x → i < length cs → raised less x (beside h cs) ≡ beside h (set cs i (get_or cs i 0 + 1))
      raised_beside [] cs i x r p q = cc
      raised_beside (e ∷ h) [] i x r p q = absurd (omega arith)
      raised_beside (e ∷ h) (c ∷ cs) zero x r p q =
          let here : e.0 ≡ x = cc in
          let s : same less e.0 x ≡ true = subst (λ y. same less e.0 y ≡ true) here (same_self less order e.0) in
          ap (λ b. (e.0, cond b (c + 1) c) ∷ raised less x (beside h cs)) s ∙
          ap (λ t. (e.0, c + 1) ∷ t) (unraised h cs x (subst (λ y. AllByRecursion (λ (f : X × ℕ). less y f.0 ≡ true) h) here r.0))
      raised_beside (e ∷ h) (c ∷ cs) (suc i) x r p q =
          ap (λ b. (e.0, cond b (c + 1) c) ∷ raised less x (beside h cs)) (apart_below x e.0 (all_at (λ y. less e.0 y ≡ true) h i x r.0 p)) ∙
          ap (λ t. (e.0, c) ∷ t) (raised_beside h cs i x r.1 p (omega arith))

-- one more at place i, which is one of the first k
pub sum_raised : (k : ℕ) (cs : List ℕ) (i : ℕ) → i < k → i < length cs → sum (take k (set cs i (get_or cs i 0 + 1))) ≡ sum (take k cs) + 1
sum_raised zero cs i p q = absurd (omega arith)
sum_raised (suc k) [] i p q = absurd (omega arith)
sum_raised (suc k) (c ∷ cs) zero p q = omega (arith, sum_cons (c + 1) (take k cs), sum_cons c (take k cs))
sum_raised (suc k) (c ∷ cs) (suc i) p q =
    let rest = sum_raised k cs i (omega arith) (omega arith) in
    omega (arith, rest, sum_cons c (take k cs), sum_cons c (take k (set cs i (get_or cs i 0 + 1))))

pub sum_zeros : (k n : ℕ) → sum (take k (replicate n 0)) ≡ 0
sum_zeros zero n = refl
sum_zeros (suc k) zero = refl
sum_zeros (suc k) (suc n) = omega (arith, sum_zeros k n, sum_cons 0 (take k (replicate n 0)))
