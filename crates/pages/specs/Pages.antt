-- What a page answers and leaves in the output, and what its lines say of the entries that the summary took.
use Rattle.std.specs.Prelude.{◌≡◌, ℕ, ◌≤◌, Bool, cond, nat_lt, List, ◌++◌, map, length, drop, All, Any, Ok, Err, Result}
use Rattle.keys.specs.declared.refusal.Refusal.{Refusal}
use Rattle.keys.specs.declared.refusal.Refusal.TheVariants.{ShortOutput}
use Rattle.model.specs.Contents.{Content}
use Rattle.model.specs.Plans.{Plan, after, Entries}
use Rattle.model.specs.Laws.{entries_of}
use Rattle.model.specs.Pages.{paged}
use Rattle.pages.specs.declared.line.Line.{Line}

module _ {K : Type 0} where
  -- a line of the page rule as it is written
  abbrev pub line_of : K × ℕ × ℕ → Line K
  line_of e = record { key = e.0; count = e.1; upper = e.2 }

  -- the lines of a page, where the output has at least k entries; refused with 9 where it has fewer
  abbrev pub fitting : (k long : ℕ) → Result (List (K × ℕ × ℕ)) Refusal → Result (List (Line K)) Refusal
  fitting k long (Ok lines) = cond (nat_lt long k) (Err ShortOutput) (Ok (map line_of lines))
  fitting k long (Err refusal) = Err refusal

  -- the page for an output of this length: refused with 8 as the page rule says, then with 9
  abbrev pub page_for : Content K → (limit long : ℕ) → Result (List (Line K)) Refusal
  page_for C limit long = fitting C.k long (paged C limit)

  -- how many lines a page has
  abbrev pub number_of_lines : Result (List (Line K)) Refusal → Result ℕ Refusal
  number_of_lines (Ok lines) = Ok (length lines)
  number_of_lines (Err refusal) = Err refusal

  -- the output with the page at its start; the rest stays, and after a refusal all of it
  abbrev pub written_to : List (Line K) → Result (List (Line K)) Refusal → List (Line K)
  written_to old (Ok lines) = lines ++ drop (length lines) old
  written_to old (Err refusal) = old

  -- what a page answers, for an output of this length
  abbrev pub page_answer : Content K → (limit long : ℕ) → Result ℕ Refusal
  page_answer C limit long = number_of_lines (page_for C limit long)

  -- what becomes of the output
  abbrev pub page_output : Content K → (limit : ℕ) → (old : List (Line K)) → List (Line K)
  page_output C limit old = written_to old (page_for C limit (length old))

-- What the lines of a page at a limit say of these entries: no key that has reached the limit is missing, and of each
-- line's key there are at least `count` and at most `upper` entries.
pub record PageLaw {K : Type 0} (less : K → K → Bool) (es : List K) (limit : ℕ) (lines : List (Line K)) : Type 0 where
  pub none_missing : (x : K) → limit ≤ entries_of less es x → Any (λ line. line.key ≡ x) lines
  pub between : All (λ line. (line.count ≤ entries_of less es line.key) × (entries_of less es line.key ≤ line.upper)) lines

-- they say so of all entries that a summary of this plan can have taken to come to this content
abbrev pub KeepsPageLaw : {K : Type 0} → (K → K → Bool) → Plan K → Content K → (limit : ℕ) → List (Line K) → Type 0
KeepsPageLaw {K} less plan C limit lines = (es : List K) → Entries plan es → C ≡ after plan es → PageLaw less es limit lines
