-- The sketch's rule of taking in words: what becomes of each key; and that the words fit no other content.
use Rattle.std.specs.Prelude.{◌≡◌, ◌+◌, Bool, true, false, ◌⊎◌, ◌≢◌}
use Rattle.keys.specs.Orders.{TotalOrder}
use Rattle.keys.specs.Helds.{less_held}
use Rattle.keys.specs.declared.held.Held.{Held}
use Rattle.keys.specs.Sorted.{Rising}
use Rattle.keys.specs.declared.held.Held.TheVariants.{Real}
use Rattle.model.specs.Contents.{Content, holds, count_of}
use Rattle.model.specs.Sketches.{sketch_rule}

-- the content C becomes D by taking the key x
module _ {K : Type 0} (less : K → K → Bool) (C : Content K) (x : Held K) (D : Content K) where
  -- x is held: its count grows by 1
  pub record Raises : Type 0 where
    pub was_held : holds less C x ≡ true
    pub keys : (y : Held K) → holds less D y ≡ holds less C y
    pub more : count_of less D x ≡ count_of less C x + 1
    pub others : (y : Held K) → (y ≢ x) → count_of less D y ≡ count_of less C y
    pub lowerings : D.l ≡ C.l

  -- x is not held and no count is 0: every count falls by 1, l grows by 1, and x is not kept
  pub record Lowers : Type 0 where
    pub not_held : holds less C x ≡ false
    pub no_zero : (y : Held K) → holds less C y ≡ true → count_of less C y ≢ 0
    pub keys : (y : Held K) → holds less D y ≡ holds less C y
    pub fewer : (y : Held K) → holds less C y ≡ true → count_of less D y + 1 ≡ count_of less C y
    pub lowerings : D.l ≡ C.l + 1

  -- x is not held and some count is 0: the smallest key at 0 leaves, and x comes in with count 1
  pub record Replaces : Type 0 where
    pub not_held : holds less C x ≡ false
    pub gone : Held K
    pub was_held : holds less C gone ≡ true
    pub at_zero : count_of less C gone ≡ 0
    pub smallest : (y : Held K) → holds less C y ≡ true → count_of less C y ≡ 0 → less_held less y gone ≡ false
    pub left : holds less D gone ≡ false
    pub came : holds less D x ≡ true
    pub keys : (y : Held K) → (y ≢ x) → (y ≢ gone) → holds less D y ≡ holds less C y
    pub one : count_of less D x ≡ 1
    pub others : (y : Held K) → (y ≢ x) → count_of less D y ≡ count_of less C y
    pub lowerings : D.l ≡ C.l

  -- C becomes D by taking x: k stays, n grows by 1, the keys rise, and one of the three happens
  pub record Takes : Type 0 where
    pub k_same : D.k ≡ C.k
    pub n_more : D.n ≡ C.n + 1
    pub rising : Rising (less_held less) D.held
    pub way : Raises ⊎ (Lowers ⊎ Replaces)

-- the rule does what the words say, and whatever does so is what the rule makes
pub record Ruled {K : Type 0} (less : K → K → Bool) (C : Content K) (x : K) : Type 0 where
  pub takes : Takes less C (Real x) (sketch_rule less C x)
  pub nothing_else : (D : Content K) → Takes less C (Real x) D → D ≡ sketch_rule less C x

-- so it is of every content whose keys rise, and every key
abbrev pub RuleOfTaking : Type 0 → Type 0
RuleOfTaking K = (less : K → K → Bool) → TotalOrder less → (C : Content K) → Rising (less_held less) C.held → (x : K) → Ruled less C x
