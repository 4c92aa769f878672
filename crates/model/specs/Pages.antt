-- The page rule: which keys a page shows, between which bounds, and when it is refused.
use Rattle.std.specs.Prelude.{ℕ, ◌+◌, cond, List, map, Ok, Err, filter, Result, nat_le}
use Rattle.keys.specs.declared.refusal.Refusal.{Refusal}
use Rattle.keys.specs.declared.refusal.Refusal.TheVariants.{LowLimit}
use Rattle.keys.specs.declared.held.Held.{Held}
use Rattle.model.specs.Contents.{Content, reals}

-- the real keys whose count plus l is at least the limit, in key order, each with its count and its count plus l
abbrev pub page_lines : {K : Type 0} → Content K → (limit : ℕ) → List (K × ℕ × ℕ)
page_lines {K} C limit = map (λ (e : K × ℕ). (e.0, e.1, e.1 + C.l)) (reals (filter (λ (e : Held K × ℕ). nat_le limit (e.1 + C.l)) C.held))

-- the page at a limit; refused with 8 if the limit is l or less
abbrev pub paged : {K : Type 0} → Content K → (limit : ℕ) → Result (List (K × ℕ × ℕ)) Refusal
paged C limit = cond (nat_le limit C.l) (Err LowLimit) (Ok (page_lines C limit))
