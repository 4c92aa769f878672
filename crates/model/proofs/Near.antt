-- Law 4, the stronger invariant: what one entry makes of two contents of which one has taken an entry more. In case
-- one, two keys may be missing, but only one where the key that counts 1 more is held by both and counts 0 in the
-- shorter, since it may yet leave there; in case all, one key may be missing.
use Rattle.std.proofs.Common.{◌≡◌, ◌+◌, ◌-◌, ◌≤◌, Bool, ◌⊎◌, sym, refl, ap, ◌∙◌, subst, inl, inr, arith}
use Rattle.keys.specs.Orders.{TotalOrder}
use Rattle.model.specs.Contents.{Counts}
use Rattle.model.proofs.Sums.{sum_of, indicator, occurs, counted, missing, Once, OneOrTwo, indicator_self, indicator_sym, one_or_two, AbsentOrThere, AlikeOrOther, present, alike}
use Rattle.model.proofs.Moves.{SameKeys, KeysSwapped, RaisedSums, LoweredSums, ReplacedSums}
use Rattle.model.proofs.Missing.{missing_bound, missing_two, missing_none, missing_only, missing_sym, kept_occurs, swapped_occurs, missing_kept, missing_swap_first, missing_swap_second}

module _ {X : Type 0} (less : X → X → Bool) where
  -- i counts 1 more in h. Where i is held by g too, at 0, it may yet leave g, and `room` is left for it
  pub record NearOne (h g : Counts X) : Type 0 where
    pub i : X
    pub counts : (x : X) → counted less h x ≡ counted less g x + indicator less i x
    pub few : missing less h g ≤ 2
    pub room : 1 ≤ occurs less g i → counted less g i ≡ 0 → missing less h g ≤ 1

  -- each key of g counts 1 more in g, and what h holds alone counts 0
  pub record NearAll (h g : Counts X) : Type 0 where
    pub counts : (x : X) → counted less g x ≡ counted less h x + occurs less g x
    pub few : missing less h g ≤ 1

-- both take y: h, of the longer list, becomes t, and g, of the shorter, becomes u
module _ {X : Type 0} (less : X → X → Bool) (order : TotalOrder less) (h g t u : Counts X) (y : X)
    (oh : Once less h) (og : Once less g) (ou : Once less u) (as_many : sum_of (λ _ _. 1) h ≡ sum_of (λ _ _. 1) g) where
  missing_back : missing less h g ≡ missing less g h
  missing_back = missing_sym less order h g oh og as_many

  swap_first : (z : X) → KeysSwapped z y h t → SameKeys g u → missing less t u + (1 - occurs less g z) ≡ missing less h g + (1 - occurs less g y)
  swap_first z m n = omega (arith, missing_kept less order t t g u (λ w. refl) n, missing_swap_first less order z y h t g m)

  swap_second : (z : X) → SameKeys h t → KeysSwapped z y g u → missing less t u + occurs less h y ≡ missing less h g + occurs less h z
  swap_second z m n = omega (arith, missing_kept less order h t u u m (λ w. refl), missing_swap_second less order z y h g u og ou n)

  swap_both : (z z' : X) → KeysSwapped z y h t → KeysSwapped z' y g u → missing less t u + (1 - occurs less g z) + occurs less t y ≡ missing less h g + (1 - occurs less g y) + occurs less t z'
  swap_both z z' m n = omega (arith, missing_swap_second less order z' y t g u og ou n, missing_swap_first less order z y h t g m)

  -- all: two contents of which each key of g counts 1 more in g
  module _ (A : NearAll less h g) where
    pub all_raise_raise : RaisedSums less h y t → RaisedSums less g y u → NearAll less t u
    all_raise_raise a b = record {
      counts = λ x. omega (arith, A.counts x, a.counts x, b.counts x, kept_occurs less order g u b.keys x);
      few = omega (arith, A.few, missing_kept less order h t g u a.keys b.keys);
    }

    pub all_raise_lower : RaisedSums less h y t → LoweredSums less g y u → NearOne less t u
    all_raise_lower a b =
        let d : missing less t u ≤ 1 = omega (arith, A.few, missing_kept less order h t g u a.keys b.keys) in
        record { i = y; counts = λ x. omega (arith, A.counts x, a.counts x, b.counts x); few = omega arith; room = λ _ _. d }

    pub all_not_replace : ReplacedSums less g y u → ⊥
    all_not_replace b = omega (arith, A.counts b.gone, b.was_held, b.at_zero)

    -- h has no key at 0, so that g holds each of its keys
    all_shared : LoweredSums less h y t → missing less h g ≡ 0
    all_shared a = missing_none less order h g (λ x s. omega (arith, s, a.no_zero x, A.counts x, present less order g x))

    pub all_not_lower_raise : LoweredSums less h y t → RaisedSums less g y u → ⊥
    all_not_lower_raise a b = omega (arith, all_shared a, missing_back, missing_bound less order g h og y, a.not_held, b.was_held)

    pub all_lower_lower : LoweredSums less h y t → LoweredSums less g y u → NearAll less t u
    all_lower_lower a b = record {
      counts = λ x. omega (arith, A.counts x, a.counts x, b.counts x, kept_occurs less order g u b.keys x, all_shared a, missing_back, missing_bound less order h g oh x, missing_bound less order g h og x);
      few = omega (arith, A.few, missing_kept less order h t g u a.keys b.keys);
    }

    pub all_replace_raise : ReplacedSums less h y t → RaisedSums less g y u → NearAll less t u
    all_replace_raise a b = record {
      counts = λ x. omega (arith, A.counts x, a.counts x, b.counts x, kept_occurs less order g u b.keys x);
      few = omega (arith, A.few, b.was_held, swap_first a.gone a.keys b.keys);
    }

    pub all_replace_lower : ReplacedSums less h y t → LoweredSums less g y u → NearOne less t u
    all_replace_lower a b = record {
      i = y;
      counts = λ x. omega (arith, A.counts x, a.counts x, b.counts x);
      few = omega (arith, A.few, swap_first a.gone a.keys b.keys);
      room = λ s _. omega (arith, s, b.not_held, kept_occurs less order g u b.keys y);
    }

  -- one: i counts 1 more in h
  module _ (O : NearOne less h g) where
    room_kept : (1 ≤ occurs less u O.i → counted less u O.i ≡ 0 → (1 ≤ occurs less g O.i) × (counted less g O.i ≡ 0)) → missing less t u ≤ missing less h g → 1 ≤ occurs less u O.i → counted less u O.i ≡ 0 → missing less t u ≤ 1
    room_kept f d s w = let p = f s w in omega (arith, d, O.room p.0 p.1)

    pub one_raise_raise : RaisedSums less h y t → RaisedSums less g y u → NearOne less t u
    one_raise_raise a b =
        let d = missing_kept less order h t g u a.keys b.keys in
        record {
          i = O.i;
          counts = λ x. omega (arith, O.counts x, a.counts x, b.counts x);
          few = omega (arith, O.few, d);
          room = room_kept (λ s w. omega (arith, s, w, b.counts O.i, kept_occurs less order g u b.keys O.i)) (omega (arith, d));
        }

    -- g has no key at 0, so that h holds each of its keys
    none_missing : LoweredSums less g y u → missing less h g ≡ 0
    none_missing b = missing_back ∙ missing_none less order g h (λ x s. omega (arith, s, b.no_zero x, O.counts x, present less order h x))

    pub one_not_raise_lower : RaisedSums less h y t → LoweredSums less g y u → ⊥
    one_not_raise_lower a b = omega (arith, none_missing b, missing_bound less order h g oh y, a.was_held, b.not_held)

    pub one_raise_replace : RaisedSums less h y t → ReplacedSums less g y u → NearOne less t u
    one_raise_replace a b =
        let d : missing less t u ≤ missing less h g = omega (arith, swap_second b.gone a.keys b.keys, a.was_held, oh b.gone) in
        record {
          i = O.i;
          counts = λ x. omega (arith, O.counts x, a.counts x, b.counts x);
          few = omega (arith, O.few, d);
          room = room_kept (λ s w. omega (arith, s, w, b.counts O.i, swapped_occurs less order b.gone y g u b.keys O.i)) d;
        }

    -- h has no key at 0, so that of the keys that g lacks it holds at most i
    at_most_i : LoweredSums less h y t → missing less h g ≤ 1
    at_most_i a = missing_only less order h g oh O.i (λ x s. omega (arith, s, a.no_zero x, O.counts x, present less order g x))

    short_lacks_i : LoweredSums less h y t → 1 ≤ missing less h g → occurs less g O.i ≡ 0
    short_lacks_i a d = by (present less order g O.i)
      where
        by : AbsentOrThere less g O.i → occurs less g O.i ≡ 0
        by (inl p) = p.0
        by (inr p) = absurd (omega (arith, d, missing_none less order h g (λ x s. omega (arith, s, p, a.no_zero x, O.counts x, present less order g x, alike less order (occurs less g) O.i x))))

    long_has_i : 1 ≤ occurs less h O.i
    long_has_i = omega (arith, O.counts O.i, indicator_self less order O.i, present less order h O.i)

    -- where also v is held by g alone, the lists differ in i and v only
    differ_in_two : LoweredSums less h y t → (v : X) → 1 ≤ occurs less g v → occurs less h v ≡ 0 → (x : X) → indicator less v x + occurs less h x ≡ indicator less O.i x + occurs less g x
    differ_in_two a v s n x =
        let d : 1 ≤ missing less h g = omega (arith, s, n, missing_back, missing_bound less order g h og v) in
        let z : occurs less g O.i ≡ 0 = short_lacks_i a d in
        omega (
          arith,
          long_has_i,
          s,
          n,
          z,
          at_most_i a,
          missing_back,
          oh x,
          og x,
          indicator_sym less order x O.i,
          indicator_sym less order x v,
          missing_two less order h g oh x O.i,
          missing_two less order g h og x v,
          alike less order (occurs less g) v x,
          alike less order (occurs less h) v x,
          alike less order (occurs less g) O.i x,
          alike less order (occurs less h) O.i x,
        )

    pub one_lower_raise : LoweredSums less h y t → RaisedSums less g y u → NearAll less t u
    one_lower_raise a b = record {
      counts = λ x. omega (arith, O.counts x, a.counts x, b.counts x, kept_occurs less order g u b.keys x, differ_in_two a y b.was_held a.not_held x);
      few = omega (arith, at_most_i a, missing_kept less order h t g u a.keys b.keys);
    }

    pub one_lower_lower : LoweredSums less h y t → LoweredSums less g y u → NearOne less t u
    one_lower_lower a b =
        let d : missing less t u ≡ 0 = missing_kept less order h t g u a.keys b.keys ∙ none_missing b in
        record {
          i = O.i;
          counts = λ x. omega (arith, O.counts x, a.counts x, b.counts x, none_missing b, missing_back, missing_bound less order h g oh x, missing_bound less order g h og x);
          few = omega (arith, d);
          room = λ _ _. omega (arith, d);
        }

    pub one_lower_replace : LoweredSums less h y t → ReplacedSums less g y u → NearAll less t u
    one_lower_replace a b = by (alike less order (occurs less h) O.i b.gone) (alike less order (occurs less g) O.i b.gone)
      where
        z : X
        z = b.gone

        make : ((x : X) → indicator less z x + occurs less h x ≡ indicator less O.i x + occurs less g x) → missing less t u ≤ 1 → NearAll less t u
        make e d = record { counts = λ x. omega (arith, O.counts x, a.counts x, b.counts x, swapped_occurs less order z y g u b.keys x, e x); few = d }

        by : AlikeOrOther less (occurs less h) O.i z → AlikeOrOther less (occurs less g) O.i z → NearAll less t u
        by (inl p) (inr q) = absurd (omega (arith, p.0, q))
        by (inr p) q =
            let s : occurs less h z ≡ 0 = omega (arith, p, a.no_zero z, O.counts z, b.at_zero) in
            make (differ_in_two a z b.was_held s) (omega (arith, at_most_i a, s, swap_second z a.keys b.keys))
        by (inl p) (inl q) =
            let d : missing less h g ≡ 0 = missing_none less order h g (λ x s. omega (arith, s, q, b.was_held, a.no_zero x, O.counts x, present less order g x, alike less order (occurs less g) O.i x)) in
            make (λ x. omega (arith, d, missing_back, missing_bound less order h g oh x, missing_bound less order g h og x, same_there x)) (omega (arith, d, oh z, swap_second z a.keys b.keys))
          where
            same_there : (x : X) → indicator less z x ≡ indicator less O.i x
            same_there x = same_indicator (one_or_two less order O.i z)
              where
                same_indicator : OneOrTwo less O.i z → indicator less z x ≡ indicator less O.i x
                same_indicator (inl e) = ap (λ (v : X). indicator less v x) (sym e.0)
                same_indicator (inr e) = absurd (omega (arith, e.1, p.0))

    pub one_replace_raise : ReplacedSums less h y t → RaisedSums less g y u → NearOne less t u
    one_replace_raise a b =
        let d : missing less t u ≤ missing less h g = omega (arith, swap_first a.gone a.keys b.keys, b.was_held) in
        record {
          i = O.i;
          counts = λ x. omega (arith, O.counts x, a.counts x, b.counts x);
          few = omega (arith, O.few, d);
          room = room_kept (λ s w. omega (arith, s, w, b.counts O.i, kept_occurs less order g u b.keys O.i)) d;
        }

    pub one_not_replace_lower : ReplacedSums less h y t → LoweredSums less g y u → ⊥
    one_not_replace_lower a b = omega (arith, none_missing b, missing_bound less order h g oh a.gone, a.was_held, a.at_zero, b.no_zero a.gone, O.counts a.gone)

    pub one_replace_replace : ReplacedSums less h y t → ReplacedSums less g y u → NearOne less t u
    one_replace_replace a b = make few_still
      where
        z : X
        z = a.gone

        z' : X
        z' = b.gone

        both : missing less t u + (1 - occurs less g z) + occurs less t y ≡ missing less h g + (1 - occurs less g y) + occurs less t z'
        both = swap_both z z' a.keys b.keys

        now_in : occurs less t y ≡ 1
        now_in = omega (arith, swapped_occurs less order z y h t a.keys y, indicator_self less order y, a.not_held, a.was_held, alike less order (occurs less h) z y)

        then_in : occurs less t z' + indicator less z z' ≡ occurs less h z'
        then_in = omega (arith, swapped_occurs less order z y h t a.keys z', b.not_held, b.was_held, alike less order (occurs less g) y z')

        few_still : (missing less t u ≤ missing less h g) ⊎ ((indicator less O.i z' ≡ 1) × (missing less h g ≤ 1))
        few_still = by (present less order g z) (present less order h z') (alike less order (occurs less g) O.i z') (alike less order (counted less g) O.i z')
          where
            by : AbsentOrThere less g z → AbsentOrThere less h z' →
                AlikeOrOther less (occurs less g) O.i z' → AlikeOrOther less (counted less g) O.i z' →
                (missing less t u ≤ missing less h g) ⊎ ((indicator less O.i z' ≡ 1) × (missing less h g ≤ 1))
            by (inl p) q r r' = inl (omega (arith, p.0, both, now_in, then_in, oh z', b.not_held))
            by (inr p) (inl q) r r' = inl (omega (arith, q.0, both, now_in, then_in, b.not_held))
            by (inr p) (inr q) (inl r) (inl r') = inr (r.0, O.room (omega (arith, r.1, b.was_held)) (omega (arith, r'.1, b.at_zero)))
            by (inr p) (inr q) (inl r) (inr r') = absurd (omega (arith, r.0, r'))
            by (inr p) (inr q) (inr r) r' =
                let e : z ≡ z' = order.connected z z' (b.smallest z p (omega (arith, O.counts z, a.at_zero))) (a.smallest z' q (omega (arith, O.counts z', b.at_zero, r))) in
                let k : indicator less z z' ≡ 1 = subst (λ (v : X). indicator less z v ≡ 1) e (indicator_self less order z) in
                inl (omega (arith, k, both, now_in, then_in, oh z', b.not_held))

        make : (missing less t u ≤ missing less h g) ⊎ ((indicator less O.i z' ≡ 1) × (missing less h g ≤ 1)) → NearOne less t u
        make (inl d) = record {
          i = O.i;
          counts = λ x. omega (arith, O.counts x, a.counts x, b.counts x);
          few = omega (arith, O.few, d);
          room = room_kept (λ s w. omega (arith, s, w, b.counts O.i, swapped_occurs less order z' y g u b.keys O.i)) d;
        }
        make (inr d) = record {
          i = O.i;
          counts = λ x. omega (arith, O.counts x, a.counts x, b.counts x);
          few = omega (arith, d.1, both, now_in, then_in, oh z', b.not_held);
          room = λ s w. absurd (omega (arith, s, w, d.0, indicator_sym less order O.i z', og O.i, b.counts O.i, swapped_occurs less order z' y g u b.keys O.i));
        }
