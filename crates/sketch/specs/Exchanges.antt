-- What the private functions make of the two orders: a stored count that has grown, and one key that has come in for
-- another. No contract of a public call names these.
use Rattle.std.specs.Prelude.{◌≡◌, ◌==◌, ℕ, ◌+◌, ◌≤◌, Bool, false, cond, [], ◌∷◌, Option, Some, None}
use Rattle.std.specs.Option.{option_map}
use Rattle.keys.specs.Orders.{same}
use Rattle.keys.specs.Helds.{less_held}
use Rattle.keys.specs.declared.held.Held.{Held}
use Rattle.tree.specs.Entries.{Kept, Entries, kept_of}
use Rattle.tree.specs.Trees.{View, Arranged}
use Rattle.sketch.specs.Orders.{Rank, TwoOrders, stored, Tied, BeyondStays, CellsStay}

module _ {K : Type 0} (less : K → K → Bool) where
  -- what is stored of p after the stored count m of x has grown by 1
  abbrev pub after_raise : (x : Held K) (m : ℕ) → TwoOrders K → Held K → Option ℕ
  after_raise x m s p = cond (same (less_held less) p x) (Some (m + 1)) (stored less p s)

  -- what is stored of p after one key has come in for another
  abbrev pub after_exchange : (old new : Rank K) → TwoOrders K → Held K → Option ℕ
  after_exchange old new s p =
      cond (same (less_held less) p new.second) (Some new.first) (cond (same (less_held less) p old.second) None (stored less p s))

  -- a key that is not held, in closed words
  unfoldable pub Unheld : Held K → TwoOrders K → Type 0
  Unheld x s = stored less x s ≡ None

  -- the smallest of the keys with the smallest stored count
  pub record IsLeast (s : TwoOrders K) (rank : Rank K) : Type 0 where
    pub there : stored less rank.second s ≡ Some rank.first
    pub least : (x : Held K) (m : ℕ) → stored less x s ≡ Some m → rank.first ≤ m
    pub smallest : (x : Held K) → stored less x s ≡ Some rank.first → less_held less x rank.second ≡ false

-- the key of the first rank, if its count is m
abbrev pub first_at : {K : Type 0} → ℕ → Entries (Rank K) (Unit {0}) → Option (Held K)
first_at m [] = None
first_at m (e ∷ es) = cond (e.0.first == m) (Some e.0.second) None

-- the same in closed words, for callers: the first rank has another count; or the count m and this key
unfoldable pub NoneAt : {K : Type 0} → ℕ → Entries (Rank K) (Unit {0}) → Type 0
NoneAt m es = first_at m es ≡ None

unfoldable pub FirstAt : {K : Type 0} → ℕ → Entries (Rank K) (Unit {0}) → Held K → Type 0
FirstAt m es x = first_at m es ≡ Some x

-- what is kept of p where q has come in for `old`, in its cell, with the value w
abbrev pub exchanged : {K V : Type 0} → (K → K → Bool) → (old q : K) → V → Entries K V → K → Option (Kept V)
exchanged less old q w es p =
    cond (same less p q) (option_map (λ x. record { value = w; cell = x.cell }) (kept_of less old es))
    (cond (same less p old) None (kept_of less p es))

-- In the tree s the key q has come in for `old`, with the value w, and made it the tree t. Closed, as those below: a
-- proof that wants the parts says so.
pub record ExchangedAs {K V : Type 0} (less : K → K → Bool) (old q : K) (w : V) (s t : View K V) : Type 0 where
  pub lookups : (p : K) → kept_of less p t.entries ≡ exchanged less old q w s.entries p
  pub beyond : BeyondStays s t
  pub arranged : Arranged less t

unfoldable pub Exchanged : {K V : Type 0} (less : K → K → Bool) (old q : K) (w : V) (s t : View K V) → Type 0
Exchanged less old q w s t = ExchangedAs less old q w s t

module _ {K : Type 0} (less : K → K → Bool) where
  -- the stored count of x has grown by 1
  pub record RaisedAs (x : Held K) (s t : TwoOrders K) : Type 0 where
    pub count : ℕ
    pub was : stored less x s ≡ Some count
    pub lookups : (p : Held K) → stored less p t ≡ after_raise less x count s p
    pub tied : Tied less t
    pub stays : CellsStay s t

  unfoldable pub HasRaised : Held K → TwoOrders K → TwoOrders K → Type 0
  HasRaised x s t = RaisedAs x s t

  -- a key and its stored count have come in for the least key, whose stored count was m
  pub record ReplacedAs (m : ℕ) (new : Rank K) (s t : TwoOrders K) : Type 0 where
    pub old : Held K
    pub least : IsLeast less s (record { first = m; second = old })
    pub lookups : (p : Held K) → stored less p t ≡ after_exchange less (record { first = m; second = old }) new s p
    pub tied : Tied less t
    pub stays : CellsStay s t

  unfoldable pub HasReplaced : ℕ → Rank K → TwoOrders K → TwoOrders K → Type 0
  HasReplaced m new s t = ReplacedAs m new s t
