-- What a release by a permit that was just issued comes to, where it is refused.
use Rattle.std.proofs.Common.{◌≡◌, ℕ, Bool, true, false, cond, List, Ok, Err, Result, ℤ, sym, ap, ◌∙◌}
use Rattle.keys.specs.declared.refusal.Refusal.{Refusal}
use Rattle.keys.specs.declared.refusal.Refusal.TheVariants.{UsedUp}
use Rattle.model.specs.Contents.{Content}
use Rattle.release.specs.declared.permit.Permit.{Permit}
use Rattle.release.specs.declared.book.Refused.{Refused}
use Rattle.release.specs.declared.entry.Entry.{Entry}
use Rattle.release.specs.Books.{BookState, has_left, one_out, issued, after_issue}
use Rattle.release.specs.Releases.{list_for, answer_by, released}
use Rattle.permits_held.specs.Served.{listed_by}

refused_by : {K : Type 0} (p : Permit) (a : Result (List (Entry K)) Refusal) (e : Refused) → Err e ≡ answer_by p a → a ≡ Err e.refusal
refused_by p (Ok entries) e h = absurd (cc)
refused_by p (Err refusal) e h =
    let same : record { refusal = refusal; permit = p } ≡ e = cc in
    ap (λ (t : Refused). Err t.refusal) same

-- the book c issued the permit p when it was b
pub list_refused : {K : Type 0} (C : Content K) (b c : BookState) (p : Permit) (shared : ℤ) (draws : List ℤ) (threshold long : ℕ) (e : Refused) →
    Ok p ≡ issued b → c ≡ after_issue b → Err e ≡ released C c p shared draws threshold long → listed_by C b shared draws threshold long ≡ Err e.refusal
list_refused {K} C b c p shared draws threshold long e was after came = by (has_left b) was after
  where
    own : Permit
    own = record { book = b.number; used_up = false }

    by : (t : Bool) → Ok p ≡ cond t (Ok own) (Err UsedUp) → c ≡ cond t (one_out b) b →
        cond t (list_for C (one_out b) own shared draws threshold long) (Err UsedUp) ≡ Err e.refusal
    by true q r =
        let p_is : own ≡ p = cc in
        (λ i. list_for C (sym r i) (p_is i) shared draws threshold long) ∙ refused_by p (list_for C c p shared draws threshold long) e came
    by false q r = absurd (cc)
