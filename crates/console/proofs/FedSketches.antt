-- A sketch of k keys that is fed a log from no entries comes to what specs/ says. Idea: it keeps its plan, and its k is that of
-- its fresh content.
use Rattle.std.proofs.Common.{◌≡◌, ℕ, Bool, List, Option, sym, ap, ◌∙◌}
use Rattle.records.specs.Values.{RecordValue}
use Rattle.model.specs.Sketches.{sketch}
use Rattle.sketch.specs.Sketches.{SketchView, content_of}
use Rattle.console.specs.declared.reading.Reading.{Reading}
use Rattle.console.specs.Numbers.{taken_all}
use Rattle.console.specs.Fed.{content_after, reading_after}

module _ {K : Type 0} (less : K → K → Bool) (k : ℕ) (s t : SketchView K) (fresh : content_of s ≡ (sketch less k).fresh) where
  k_before : s.facts.k ≡ k
  unfolding content_of
  k_before = ap (λ C. C.k) fresh

  pub fresh_own : content_of s ≡ (sketch less s.facts.k).fresh
  fresh_own = fresh ∙ ap (λ j. (sketch less j).fresh) (sym k_before)

  pub k_after : sketch less t.facts.k ≡ sketch less s.facts.k → (content_of t).k ≡ k
  unfolding content_of
  k_after same = ap (λ p. p.fresh.k) same ∙ k_before

  pub content_fed : (gives : RecordValue → Option K) (rs : List RecordValue) →
      content_of t ≡ content_after (sketch less s.facts.k) gives rs → content_of t ≡ content_after (sketch less k) gives rs
  content_fed gives rs e = e ∙ ap (λ j. content_after (sketch less j) gives rs) k_before

  pub reading_fed : (gives : RecordValue → Option K) (bs : List ℕ) (r : Reading) →
      r ≡ reading_after (sketch less s.facts.k) gives bs → r ≡ reading_after (sketch less k) gives bs
  reading_fed gives bs r e = e ∙ ap (λ j. reading_after (sketch less j) gives bs) k_before

  pub keys_taken : (es : List K) → content_of t ≡ taken_all (sketch less s.facts.k) (content_of s) es → content_of t ≡ taken_all (sketch less k) (sketch less k).fresh es
  keys_taken es e = e ∙ λ i. taken_all (sketch less (k_before i)) (fresh i) es
