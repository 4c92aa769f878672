-- The page that is copied from memory with room for k lines is the page of the output. Idea: whether the output is too short
-- for k lines is told by the shorter of the two as well.
use Rattle.std.proofs.Common.{◌≡◌, ℕ, ◌≤◌, cond, nat_lt, min, List, map, Ok, Err, Result, refl, ap, rules}
use Rattle.keys.specs.declared.refusal.Refusal.{Refusal}
use Rattle.keys.specs.declared.refusal.Refusal.TheVariants.{ShortOutput}
use Rattle.model.specs.Contents.{Content}
use Rattle.model.specs.Pages.{paged}
use Rattle.pages.specs.Pages.{fitting, line_of, page_for}

within_min : (long there k : ℕ) → k ≤ there → nat_lt (min long there) k ≡ nat_lt long k
within_min long there k room = search rules

fits : {K : Type 0} (k long there : ℕ) (lines : Result (List (K × ℕ × ℕ)) Refusal) → k ≤ there → fitting k (min long there) lines ≡ fitting k long lines
fits k long there (Ok lines) room = ap (λ b. cond b (Err ShortOutput) (Ok (map line_of lines))) (within_min long there k room)
fits k long there (Err refusal) room = refl

pub same_page : {K : Type 0} (C : Content K) (limit long there : ℕ) → C.k ≤ there → page_for C limit (min long there) ≡ page_for C limit long
same_page C limit long there room = fits C.k long there (paged C limit) room
