-- The page at the limit l + 1 is never refused and is what specs/ says. Idea: by the law of balance l is at most n / 2, so
-- l + 1 has 32 bits; and the answer says how much of the output is the page.
use Rattle.std.proofs.Common.{◌≡◌, ℕ, ◌+◌, ◌*◌, ◌≤◌, Bool, true, false, cond, nat_le, nat_lt, List, length, take, map, Ok, Err, ap, ◌∙◌, arith}
use Rattle.std.proofs.Math.Nat.{mul-le-mul_right}
use Rattle.std.proofs.lemmas.List.{take_at}
use Rattle.keys.specs.declared.refusal.Refusal.TheVariants.{LowLimit, ShortOutput}
use Rattle.keys.specs.declared.word.FlightWord.{FlightWord}
use Rattle.model.specs.Contents.{Content}
use Rattle.model.specs.Pages.{page_lines}
use Rattle.summaries.specs.declared.answers.Facts.{Facts}
use Rattle.summaries.specs.Calls.{facts_of, Stands}
use Rattle.pages.specs.declared.line.Line.{Line}
use Rattle.pages.specs.Pages.{line_of, fitting, number_of_lines, written_to, page_answer, page_output}
use Rattle.page_text.specs.Text.{lines_of}

-- n counts each lowering at least twice
pub lowerings : {K : Type 0} (less : K → K → Bool) (C : Content K) (facts : Facts) → Stands less C → facts ≡ facts_of C → 1 ≤ C.k → 2 * facts.l ≤ facts.n
lowerings less C facts s e some =
    let n : facts.n ≡ C.n = ap (λ f. f.n) e in
    let l : facts.l ≡ C.l = ap (λ f. f.l) e in
    let twice : 2 * C.l ≤ (C.k + 1) * C.l = mul-le-mul_right C.l (omega arith) in
    omega (arith, s.balanced)

-- the page stands at the start of the output
pub page_at_start : (C : Content FlightWord) (limit n : ℕ) (old new : List (Line FlightWord)) → limit ≡ C.l + 1 →
    Ok n ≡ page_answer C limit (length old) → new ≡ page_output C limit old → take n new ≡ lines_of C
unfolding lines_of
page_at_start C limit n old new e answer output = low (nat_le limit C.l) answer output ∙ ap (λ m. map line_of (page_lines C m)) e
  where
    short : (b : Bool) → Ok n ≡ number_of_lines (cond b (Err ShortOutput) (Ok (map line_of (page_lines C limit)))) →
        new ≡ written_to old (cond b (Err ShortOutput) (Ok (map line_of (page_lines C limit)))) → take n new ≡ map line_of (page_lines C limit)
    short true answer output = cc
    short false answer output =
        let long : length (map line_of (page_lines C limit)) ≡ n = cc in
        ap (take n) output ∙ take_at (map line_of (page_lines C limit)) _ n long

    low : (b : Bool) → Ok n ≡ number_of_lines (fitting C.k (length old) (cond b (Err LowLimit) (Ok (page_lines C limit)))) →
        new ≡ written_to old (fitting C.k (length old) (cond b (Err LowLimit) (Ok (page_lines C limit)))) → take n new ≡ map line_of (page_lines C limit)
    low true answer output = cc
    low false answer output = short (nat_lt (length old) C.k) answer output
