-- What a run says of permits in number: one is spent for each list.
use Rattle.std.specs.Prelude.{◌≡◌, ℕ, ◌+◌, Bool, true, false, List, map, Option, Some, None, Ok, Err, Result}
use Rattle.std.specs.List.{sum_by}
use Rattle.keys.specs.declared.refusal.Refusal.{Refusal}
use Rattle.release.specs.Books.{BookState}
use Rattle.work.specs.declared.call.Answer.{Answer}
use Rattle.work.specs.declared.call.Answer.TheVariants as answer

-- of all books together, how many permits are out
abbrev pub all_out : List BookState → ℕ
all_out bs = sum_by (λ (b : BookState). b.out) bs

-- and how many are spent
abbrev pub all_spent : List BookState → ℕ
all_spent bs = sum_by (λ (b : BookState). b.spent) bs

-- whether a release was accepted
abbrev pub accepted : Option (Result ℕ Refusal) → Bool
accepted None = false
accepted (Some (Ok entries)) = true
accepted (Some (Err refusal)) = false

-- whether an answer is that of a list released
abbrev pub gave_list : {K : Type 0} → Answer K → Bool
gave_list (answer.Take a) = false
gave_list (answer.Feed a) = false
gave_list (answer.Count a) = false
gave_list (answer.Place a) = false
gave_list (answer.Facts a) = false
gave_list (answer.Page a) = false
gave_list (answer.Release a) = accepted a

-- Books before a run and after it, in which so many lists were released: each has its number and its limit; as many
-- permits are out as before; and as many more are spent as lists were released. Of which book each is, the books after
-- each call say (`books_after`).
pub record OneEach (before after : List BookState) (lists : ℕ) : Type 0 where
  pub numbers : map (λ (b : BookState). b.number) after ≡ map (λ (b : BookState). b.number) before
  pub limits : map (λ (b : BookState). b.limit) after ≡ map (λ (b : BookState). b.limit) before
  pub out : all_out after ≡ all_out before
  pub spent : all_spent after ≡ all_spent before + lists
