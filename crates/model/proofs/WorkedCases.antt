-- The worked cases: contents, pages and lists by computation, neighbours by law 4 and by cases on the key.
use Rattle.std.proofs.Common.{◌≡◌, ℕ, ◌+◌, Bool, true, false, cond, ◌||◌, [], ◌∷◌, sym, refl, subst, inl, inr, arith}
use Rattle.std.proofs.lemmas.Bool.{both_ways}
use Rattle.keys.specs.Orders.{same}
use Rattle.keys.specs.Helds.{less_held}
use Rattle.keys.specs.KindOrders.{less_flight}
use Rattle.keys.specs.declared.word.FlightWord.{FlightWord}
use Rattle.keys.specs.declared.held.Held.{Held}
use Rattle.keys.specs.declared.held.Held.TheVariants.{Real}
use Rattle.keys.specs.KindOrdersLemmas.{flight_total, held_total, same_equal}
use Rattle.model.specs.Contents.{holds}
use Rattle.model.specs.Neighbours.{CaseOne, CaseAll}
use Rattle.model.specs.Laws.{Lawful}
use Rattle.model.specs.Sketches.{sketch}
use Rattle.model.specs.Worked.{word_a, word_b, word_c, word_d, sketched, entries_abc, entries_ab, entries_abccaa, entries_bccaa, entries_abcd, entries_acd, WorkedCases}
use Rattle.model.proofs.SketchLaws.{sketch_lawful}

laws : Lawful less_flight (sketch less_flight 2)
laws = sketch_lawful less_flight flight_total 2

-- whether x is this word
abbrev is : FlightWord → Held FlightWord → Bool
is w x = same (less_held less_flight) (Real w) x

is_equal : (w : FlightWord) (x : Held FlightWord) → is w x ≡ true → Real w ≡ x
is_equal w x = same_equal (less_held less_flight) (held_total less_flight flight_total) (Real w) x

zero_each : (a b : Bool) → ◌≡◌ {A = ℕ} (cond a 0 (cond b 0 0)) 0
zero_each true b = refl
zero_each false true = refl
zero_each false false = refl

pub all_case : CaseAll less_flight (sketched entries_abc) (sketched entries_ab)
all_case = record {
  one_less = λ x. fewer (is word_a x) (is word_b x);
  none = λ x _. zero_each (is word_a x) (is word_b x);
  lowerings = refl;
}
  where
    fewer : (a b : Bool) → (a || (b || false)) ≡ true → cond a 0 (cond b 0 0) + 1 ≡ cond a 1 (cond b 1 0)
    fewer true b p = refl
    fewer false true p = refl
    fewer false false p = absurd (both_ways false refl p)

pub one_case : CaseOne less_flight (sketched entries_abccaa) (sketched entries_bccaa)
one_case = record {
  key = Real word_a;
  more = refl;
  others = λ x n. alike (is word_a x) (is word_c x) (λ p. n (sym (is_equal word_a x p)));
  lowerings = refl;
}
  where
    alike : (a b : Bool) → (a ≡ true → ⊥) → ◌≡◌ {A = ℕ} (cond a 2 (cond b 1 0)) (cond a 1 (cond b 1 0))
    alike true b n = absurd (n refl)
    alike false b n = refl

pub apart_case : CaseOne less_flight (sketched entries_abcd) (sketched entries_acd)
apart_case = record {
  key = Real word_d;
  more = refl;
  others = λ x n. alike (is word_b x) (is word_d x) (is word_a x) (is word_c x) (λ p. n (sym (is_equal word_d x p)));
  lowerings = refl;
}
  where
    alike : (b d a c : Bool) → (d ≡ true → ⊥) → ◌≡◌ {A = ℕ} (cond b 0 (cond d 1 0)) (cond a 0 (cond c 0 0))
    alike true d a c n = sym (zero_each a c)
    alike false true a c n = absurd (n refl)
    alike false false a c n = sym (zero_each a c)

apart : (x : Held FlightWord) → holds less_flight (sketched entries_abcd) x ≡ true → holds less_flight (sketched entries_acd) x ≡ false
apart x = go (is word_b x) refl (is word_d x) refl
  where
    go : (b : Bool) → is word_b x ≡ b → (d : Bool) → is word_d x ≡ d → (b || (d || false)) ≡ true → holds less_flight (sketched entries_acd) x ≡ false
    go true p d q r = subst (λ (y : Held FlightWord). holds less_flight (sketched entries_acd) y ≡ false) (is_equal word_b x p) refl
    go false p true q r = subst (λ (y : Held FlightWord). holds less_flight (sketched entries_acd) y ≡ false) (is_equal word_d x q) refl
    go false p false q r = absurd (both_ways false refl r)

pub worked : WorkedCases
unfolding one_case apart_case
worked = record {
  taking = record { abc = refl; ab = refl; abccaa = refl; bccaa = refl; abcd = refl; acd = refl };
  neighbours = record {
    abc_ab = laws.neighbours (word_a ∷ word_b ∷ []) word_c [] (record { admitted = (refl, (refl, (refl, tt))); few = omega arith });
    abc_ab_all = all_case;
    abccaa_bccaa = laws.neighbours [] word_a entries_bccaa (record { admitted = (refl, (refl, (refl, (refl, (refl, (refl, tt)))))); few = omega arith });
    abccaa_bccaa_one = one_case;
    abccaa_bccaa_key = refl;
    abcd_acd = laws.neighbours (word_a ∷ []) word_b (word_c ∷ word_d ∷ []) (record { admitted = (refl, (refl, (refl, (refl, tt)))); few = omega arith });
    abcd_acd_one = apart_case;
    abcd_acd_key = refl;
    abcd_acd_apart = apart;
  };
  page = record { limit_2 = refl; limit_1 = refl; number = refl };
  list = record { at_3 = refl; at_4 = refl; at_5 = refl; changed = inr (refl, inl (inl refl, refl)); also_at_3 = refl; also_at_4 = refl; also_at_5 = refl };
}
