-- A page's lines keep the law of pages. Idea: each held key stands with its count, which law 3 bounds; and a key whose
-- count plus l is above l has a count, so it is held.
use Rattle.std.proofs.Common.{◌≡◌, ℕ, suc, ◌+◌, ◌<◌, ◌≤◌, Bool, true, false, cond, nat_le, List, [], ◌∷◌, length, take, ◌≢◌, Any, sym, refl, ap, ◌∙◌, subst, arith}
use Rattle.std.specs.List.{AllByRecursion}
use Rattle.std.proofs.lemmas.Bool.{le-leb, both_ways}
use Rattle.std.proofs.lemmas.List.Elements.{All-from_recursion}
use Rattle.std.proofs.lemmas.List.{take_at}
use Rattle.keys.specs.Orders.{TotalOrder, same}
use Rattle.keys.specs.Helds.{less_held}
use Rattle.keys.specs.KindOrdersLemmas.{held_total, same_self, same_equal}
use Rattle.keys.specs.declared.held.Held.{Held}
use Rattle.keys.specs.declared.held.Held.TheVariants.{Real, Dummy}
use Rattle.model.specs.Contents.{Counts, Content, count}
use Rattle.model.specs.Plans.{Plan}
use Rattle.model.specs.Laws.{Different, entries_of, Bounded, Lawful}
use Rattle.pages.specs.declared.line.Line.{Line}
use Rattle.pages.specs.Pages.{KeepsPageLaw}
use Rattle.pages.proofs.Written.{lines_of, lines_with, SoFar, begun, at_none, at_dummy, too_low, lined, lines_number, lines_written, upper_within}

-- what holds of some line holds of some line of more
any_more : {X : Type 0} (P : X → Type 0) (x : X) (xs : List X) → Any P xs → Any P (x ∷ xs)
any_more P x xs (k, y, lt, is, p) = (suc k, y, omega (arith, lt), is, p)

module _ {K : Type 0} (less : K → K → Bool) (order : TotalOrder less) (l limit : ℕ) where
  -- a key whose count plus l reaches the limit has a line
  on_page : l < limit → (h : Counts (Held K)) (x : K) → limit ≤ count (less_held less) h (Real x) + l → Any (λ line. line.key ≡ x) (lines_of l limit h)
  on_page low [] x reached = absurd (omega arith)
  on_page low ((Dummy j, m) ∷ h) x reached = go (nat_le limit (m + l)) (on_page low h x reached)
    where
      go : (b : Bool) → Any (λ line. line.key ≡ x) (lines_of l limit h) → Any (λ line. line.key ≡ x) (lines_with l limit b (Dummy j) m h)
      go true a = a
      go false a = a
  on_page low ((Real y, m) ∷ h) x reached = go (same less y x) refl (nat_le limit (m + l)) refl reached (on_page low h x)
    where
      go : (c : Bool) → same less y x ≡ c → (b : Bool) → nat_le limit (m + l) ≡ b → limit ≤ cond c m (count (less_held less) h (Real x)) + l →
          (limit ≤ count (less_held less) h (Real x) + l → Any (λ line. line.key ≡ x) (lines_of l limit h)) → Any (λ line. line.key ≡ x) (lines_with l limit b (Real y) m h)
      go true s true b r a = (0, record { key = y; count = m; upper = m + l }, omega arith, refl, same_equal less order y x s)
      go true s false b r a = absurd (both_ways (nat_le limit (m + l)) b (le-leb limit (m + l) r))
      go false s true b r a = any_more (λ line. line.key ≡ x) (record { key = y; count = m; upper = m + l }) (lines_of l limit h) (a r)
      go false s false b r a = a r

-- each held key stands with its count
each_counted : {X : Type 0} (less : X → X → Bool) → TotalOrder less → (h : Counts X) → Different h → AllByRecursion (λ (e : X × ℕ). count less h e.0 ≡ e.1) h
each_counted less order [] d = tt
each_counted {X} less order (e ∷ h) d = (ap (λ (b : Bool). cond b e.1 (count less h e.0)) (same_self less order e.0), others h d.0 (each_counted less order h d.1))
  where
    others : (g : Counts X) → AllByRecursion (λ (f : X × ℕ). e.0 ≢ f.0) g → AllByRecursion (λ (f : X × ℕ). count less h f.0 ≡ f.1) g →
        AllByRecursion (λ (f : X × ℕ). cond (same less e.0 f.0) e.1 (count less h f.0) ≡ f.1) g
    others [] a b = tt
    others (f ∷ g) a b = (go (same less e.0 f.0) refl, others g a.1 b.1)
      where
        go : (c : Bool) → same less e.0 f.0 ≡ c → cond c e.1 (count less h f.0) ≡ f.1
        go true p = absurd (a.0 (same_equal less order e.0 f.0 p))
        go false p = b.0

-- what holds of a real key's line by its count in g holds of the lines of h, whose keys stand with their counts in g
each_line : {K : Type 0} (less : K → K → Bool) (l limit : ℕ) (g : Counts (Held K)) (P : Line K → Type 0) →
    ((x : K) → let m = count (less_held less) g (Real x) in P (record { key = x; count = m; upper = m + l })) →
    (h : Counts (Held K)) → AllByRecursion (λ (e : Held K × ℕ). count (less_held less) g e.0 ≡ e.1) h → AllByRecursion P (lines_of l limit h)
each_line less l limit g P given [] a = tt
each_line {K} less l limit g P given ((x, m) ∷ h) a = go (nat_le limit (m + l)) x a.0 (each_line less l limit g P given h a.1)
  where
    go : (b : Bool) (x : Held K) → count (less_held less) g x ≡ m → AllByRecursion P (lines_of l limit h) → AllByRecursion P (lines_with l limit b x m h)
    go true (Real x) e r = (subst (λ n. P (record { key = x; count = n; upper = n + l })) e (given x), r)
    go true (Dummy j) e r = r
    go false x e r = r

module _ {K : Type 0} (less : K → K → Bool) (order : TotalOrder less) (plan : Plan K) (lawful : Lawful less plan) (C : Content K) (limit : ℕ) (low : C.l < limit) where
  pub lines_true : KeepsPageLaw less plan C limit (lines_of C.l limit C.held)
  lines_true es entries is =
      let bounded = subst (Bounded less es) (sym is) (lawful.bounded es entries) in
      let different = subst (λ (D : Content K). Different D.held) (sym is) (lawful.holds_k es entries).different in
      let counted = each_counted (less_held less) (held_total less order) C.held different in
      let InBounds : Line K → Type 0 = λ line. (line.count ≤ entries_of less es line.key) × (entries_of less es line.key ≤ line.upper) in
      record {
        none_missing = λ x reached. on_page less order C.l limit low C.held x (omega (arith, reached, bounded.at_least x));
        between = All-from_recursion InBounds (lines_of C.l limit C.held) (each_line less C.l limit C.held InBounds (λ x. (bounded.at_most x, bounded.at_least x)) C.held counted);
      }

  -- so the lines that are written keep the law
  pub written_true : (l : ℕ) (old output : List (Line K)) (j written : ℕ) → l ≡ C.l → SoFar l limit C.held old output j written → length C.held ≤ j → KeepsPageLaw less plan C limit (take written output)
  written_true l old output j written e s all =
      let cut : take written output ≡ lines_of l limit C.held =
      ap (take written) (lines_written l limit C.held old output j written s all) ∙ take_at (lines_of l limit C.held) _ written (sym (lines_number l limit C.held old output j written s all)) in
      subst (KeepsPageLaw less plan C limit) (sym (cut ∙ ap (λ n. lines_of n limit C.held) e)) lines_true

-- what the proof of `page` uses
pub ruleset writing = (begun, at_none, at_dummy, too_low, lined, lines_number, lines_written, upper_within, written_true)
