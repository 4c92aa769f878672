-- A key taken out of a tree and another put in: the cell that is freed is free. Idea: no two keys lie in one cell.
use Rattle.std.proofs.Common.{◌≡◌, ℕ, ◌+◌, ◌==◌, Bool, true, false, cond, [], ◌∷◌, Some, None, Ok, Result, refl, sym, ap, subst, ◌∙◌, ltb, arith}
use Rattle.std.proofs.lemmas.Bool.{ltb-false}
use Rattle.keys.specs.Orders.{same}
use Rattle.tree.specs.declared.refusal.NotInserted.{NotInserted}
use Rattle.std.specs.Result.{IsOk}
use Rattle.tree.specs.Entries.{Kept, Entries, kept_of, cell_of, without_key, lying_in}
use Rattle.tree.proofs.Lists.{lying_in_append}
use Rattle.tree.specs.Trees.{View, insert_answer, OthersStay, Arranged}

pub lying_more : {K V : Type 0} (at : ℕ) (f : K × Kept V) (es : Entries K V) → lying_in at (f ∷ es) ≡ cond (f.1.cell == at) 1 0 + lying_in at es
lying_more at f es =
    let one : lying_in at (f ∷ []) ≡ 0 + cond (f.1.cell == at) 1 0 = refl in
    omega (arith, one, lying_in_append at (f ∷ []) es)

module _ {K V : Type 0} (less : K → K → Bool) where
  -- a key that leaves lay in its cell
  lying_removed : (q : K) (at : ℕ) (es : Entries K V) → cell_of less q es ≡ Some at → lying_in at (without_key less q es) + 1 ≡ lying_in at es
  lying_removed q at [] e = cc
  lying_removed q at (f ∷ es) e = go (same less q f.0) refl (lying_removed q at es)
    where
      go : (b : Bool) → same less q f.0 ≡ b → (cell_of less q es ≡ Some at → lying_in at (without_key less q es) + 1 ≡ lying_in at es) →
          lying_in at (without_key less q (f ∷ es)) + 1 ≡ lying_in at (f ∷ es)
      go true p r =
          let here : cond {A = ℕ} (f.1.cell == at) 1 0 ≡ 1 = grind arith in
          let left : without_key less q (f ∷ es) ≡ es = grind arith in
          let more = lying_more at f es in
          omega (arith, here, more, ap (lying_in at) left)
      go false p r =
          let left : without_key less q (f ∷ es) ≡ f ∷ without_key less q es = grind arith in
          let more = lying_more at f es in
          let after = lying_more at f (without_key less q es) in
          omega (arith, r (grind arith), more, after, ap (lying_in at) left)

  -- so another key can be put into that cell
  freed_taken : (old new : View K V) (q p : K) (at : ℕ) → Arranged less old → cell_of less q old.entries ≡ Some at → new.entries ≡ without_key less q old.entries →
      OthersStay old new → Arranged less new → kept_of less p new.entries ≡ None → insert_answer less p at new ≡ Ok tt
  unfolding Arranged
  freed_taken old new q p at a c e o b none =
      let r = lying_removed q at old.entries c in
      let l = ap (lying_in at) e in
      let one = a.apart at in
      let gone : lying_in at new.entries ≡ 0 = omega arith in
      go (ltb at new.own) refl gone
    where
      go : (b' : Bool) → ltb at new.own ≡ b' → lying_in at new.entries ≡ 0 → insert_answer less p at new ≡ Ok tt
      go true t gone = grind (arith, b.blank at)
      go false t gone = absurd (omega (arith, a.within at (omega (arith, o.own, ltb-false at new.own t)), lying_removed q at old.entries c))

  pub freed_ok : (old new : View K V) (q p : K) (at : ℕ) (r : Result (Unit {0}) NotInserted) → Arranged less old → cell_of less q old.entries ≡ Some at →
      new.entries ≡ without_key less q old.entries → OthersStay old new → Arranged less new → kept_of less p new.entries ≡ None → r ≡ insert_answer less p at new → IsOk r
  freed_ok old new q p at r a c e o b none is = subst IsOk (sym (is ∙ freed_taken old new q p at a c e o b none)) refl
