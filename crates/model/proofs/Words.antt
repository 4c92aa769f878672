-- The sketch's rule does what its words say, and the words leave nothing else. Idea: from the sums of the moves; and
-- contents with equal numbers, held keys and counts are equal.
use Rattle.std.proofs.Common.{◌≡◌, ◌+◌, Bool, true, false, ◌⊎◌, sym, refl, ◌∙◌, subst, inl, inr, arith}
use Rattle.std.proofs.lemmas.Bool.{both_ways}
use Rattle.keys.specs.Orders.{TotalOrder}
use Rattle.keys.specs.Helds.{less_held}
use Rattle.keys.specs.declared.held.Held.{Held}
use Rattle.keys.specs.declared.held.Held.TheVariants.{Real}
use Rattle.keys.specs.KindOrdersLemmas.{held_total}
use Rattle.keys.specs.Sorted.{Rising}
use Rattle.model.specs.Contents.{Content, holds, count, count_of}
use Rattle.model.specs.Sketches.{sketch_rule}
use Rattle.model.specs.Taking.{Raises, Lowers, Replaces, Takes, Ruled}
use Rattle.model.proofs.Sums.{indicator, occurs, counted, Once, OneOrTwo, indicator_self, indicator_other, one_or_two, occurs_once, held_occurs, occurs_held, absent_unheld, held_like, count_counted, absent_counts_0, alike}
use Rattle.model.proofs.Moves.{Move, raises, lowers, replaces, Step, sketch_step}
use Rattle.model.proofs.Missing.{kept_occurs, swapped_occurs}
use Rattle.model.proofs.Rows.{same_held, unheld_count}

module _ {K : Type 0} (less : K → K → Bool) (order : TotalOrder less) where
  abbrev less' : Held K → Held K → Bool
  less' = less_held less

  order' : TotalOrder less'
  order' = held_total less order

  step_takes : (C D : Content K) (x : Held K) → Rising less' C.held → Step less C x D → Takes less C x D
  step_takes C D x r s = record { k_same = s.k_same; n_more = s.n_more; rising = s.rising; way = go s.move }
    where
      oc : Once less' C.held
      oc = occurs_once less' order' C.held r

      is : (y : Held K) → count less' C.held y ≡ counted less' C.held y
      is = count_counted less' order' C.held r

      is' : (y : Held K) → count less' D.held y ≡ counted less' D.held y
      is' = count_counted less' order' D.held s.rising

      go : Move less C x D → Raises less C x D ⊎ (Lowers less C x D ⊎ Replaces less C x D)
      go (raises m l) = inl (record {
        was_held = occurs_held less' order' C.held x m.was_held;
        keys = λ y. held_like less' order' D.held C.held y (kept_occurs less' order' C.held D.held m.keys y);
        more = omega (arith, m.counts x, is x, is' x, indicator_self less' order' x);
        others = λ y n. omega (arith, m.counts y, is y, is' y, indicator_other less' order' x y n);
        lowerings = l;
      })
      go (lowers m l) = inr (inl (record {
        not_held = absent_unheld less' order' C.held x m.not_held;
        no_zero = λ y p q. omega (arith, m.no_zero y, is y, q, held_occurs less' order' C.held y p);
        keys = λ y. held_like less' order' D.held C.held y (kept_occurs less' order' C.held D.held m.keys y);
        fewer = λ y p. omega (arith, m.counts y, is y, is' y, held_occurs less' order' C.held y p, oc y);
        lowerings = l;
      }))
      go (replaces m l) = inr (inr (record {
        not_held = absent_unheld less' order' C.held x m.not_held;
        gone = m.gone;
        was_held = occurs_held less' order' C.held m.gone m.was_held;
        at_zero = omega (arith, is m.gone, m.at_zero);
        smallest = λ y p q. m.smallest y (held_occurs less' order' C.held y p) (omega (arith, is y, q));
        left = absent_unheld less' order' D.held m.gone
            (omega (arith, swaps m.gone, indicator_self less' order' m.gone, oc m.gone, m.not_held, m.was_held, alike less' order' (occurs less' C.held) x m.gone));
        came = occurs_held less' order' D.held x
            (omega (arith, swaps x, indicator_self less' order' x, m.not_held, m.was_held, alike less' order' (occurs less' C.held) m.gone x));
        keys = λ y n g. held_like less' order' D.held C.held y (omega (arith, swaps y, indicator_other less' order' x y n, indicator_other less' order' m.gone y g));
        one = omega (arith, m.counts x, is' x, indicator_self less' order' x, absent_counts_0 less' order' C.held x m.not_held);
        others = λ y n. omega (arith, m.counts y, is y, is' y, indicator_other less' order' x y n);
        lowerings = l;
      }))
        where
          swaps : (y : Held K) → occurs less' D.held y + indicator less' m.gone y ≡ occurs less' C.held y + indicator less' x y
          swaps = swapped_occurs less' order' m.gone x C.held D.held m.keys

  -- what two contents that come from C in the same way share
  record Same (D E : Content K) : Type 0 where
    held : (y : Held K) → holds less D y ≡ holds less E y
    counts : (y : Held K) → count_of less D y ≡ count_of less E y
    lowerings : D.l ≡ E.l

  module _ (C D E : Content K) (x : Held K) where
    both_raise : Raises less C x D → Raises less C x E → Same D E
    both_raise a b = record {
      held = λ y. a.keys y ∙ sym (b.keys y);
      counts = λ y. at y (one_or_two less' order' y x);
      lowerings = a.lowerings ∙ sym b.lowerings;
    }
      where
        at : (y : Held K) → OneOrTwo less' y x → count_of less D y ≡ count_of less E y
        at y (inl d) = subst (λ (v : Held K). count_of less D v ≡ count_of less E v) (sym d.0) (a.more ∙ sym b.more)
        at y (inr d) = a.others y d.0 ∙ sym (b.others y d.0)

    both_lower : Lowers less C x D → Lowers less C x E → Same D E
    both_lower a b = record {
      held = λ y. a.keys y ∙ sym (b.keys y);
      counts = λ y. at y (holds less C y) refl;
      lowerings = a.lowerings ∙ sym b.lowerings;
    }
      where
        at : (y : Held K) (b : Bool) → holds less C y ≡ b → count_of less D y ≡ count_of less E y
        at y true p = omega (arith, a.fewer y p, b.fewer y p)
        at y false p = unheld_count less' order' D.held y (a.keys y ∙ p) ∙ sym (unheld_count less' order' E.held y (b.keys y ∙ p))

    both_replace : Replaces less C x D → Replaces less C x E → Same D E
    both_replace a b = record {
      held = λ y. at y (one_or_two less' order' y x) (one_or_two less' order' y a.gone);
      counts = λ y. counts y (one_or_two less' order' y x);
      lowerings = a.lowerings ∙ sym b.lowerings;
    }
      where
        -- of two smallest keys neither is less
        one_gone : a.gone ≡ b.gone
        one_gone = order'.connected a.gone b.gone (b.smallest a.gone a.was_held a.at_zero) (a.smallest b.gone b.was_held b.at_zero)

        at : (y : Held K) → OneOrTwo less' y x → OneOrTwo less' y a.gone → holds less D y ≡ holds less E y
        at y (inl d) e = subst (λ (v : Held K). holds less D v ≡ holds less E v) (sym d.0) (a.came ∙ sym b.came)
        at y (inr d) (inl e) =
            subst (λ (v : Held K). holds less D v ≡ holds less E v) (sym e.0) (a.left ∙ sym (subst (λ (v : Held K). holds less E v ≡ false) (sym one_gone) b.left))
        at y (inr d) (inr e) = a.keys y d.0 e.0 ∙ sym (b.keys y d.0 (λ g. e.0 (g ∙ sym one_gone)))

        counts : (y : Held K) → OneOrTwo less' y x → count_of less D y ≡ count_of less E y
        counts y (inl d) = subst (λ (v : Held K). count_of less D v ≡ count_of less E v) (sym d.0) (a.one ∙ sym b.one)
        counts y (inr d) = a.others y d.0 ∙ sym (b.others y d.0)

    same_way : Raises less C x D ⊎ (Lowers less C x D ⊎ Replaces less C x D) → Raises less C x E ⊎ (Lowers less C x E ⊎ Replaces less C x E) → Same D E
    same_way (inl a) (inl b) = both_raise a b
    same_way (inl a) (inr (inl b)) = absurd (both_ways (holds less C x) b.not_held a.was_held)
    same_way (inl a) (inr (inr b)) = absurd (both_ways (holds less C x) b.not_held a.was_held)
    same_way (inr (inl a)) (inl b) = absurd (both_ways (holds less C x) a.not_held b.was_held)
    same_way (inr (inl a)) (inr (inl b)) = both_lower a b
    same_way (inr (inl a)) (inr (inr b)) = absurd (a.no_zero b.gone b.was_held b.at_zero)
    same_way (inr (inr a)) (inl b) = absurd (both_ways (holds less C x) a.not_held b.was_held)
    same_way (inr (inr a)) (inr (inl b)) = absurd (b.no_zero a.gone a.was_held a.at_zero)
    same_way (inr (inr a)) (inr (inr b)) = both_replace a b

    takes_one : Takes less C x D → Takes less C x E → D ≡ E
    takes_one a b =
        let s = same_way a.way b.way in
        let h = same_held less' order' D.held E.held a.rising b.rising s.held s.counts in
        let k = a.k_same ∙ sym b.k_same in
        let n = a.n_more ∙ sym b.n_more in
        λ i. record { k = k i; n = n i; l = s.lowerings i; held = h i }

  pub ruled : (C : Content K) → Rising less' C.held → (x : K) → Ruled less C x
  ruled C r x =
      let t = step_takes C (sketch_rule less C x) (Real x) r (sketch_step less order C r x) in
      record { takes = t; nothing_else = λ D u. takes_one C D (sketch_rule less C x) (Real x) u t }
