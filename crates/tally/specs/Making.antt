-- What making a tally answers.
use Rattle.std.specs.Prelude.{ℕ, cond, ◌&&◌, nat_le, Result, Ok, Err}
use Rattle.keys.specs.declared.event.EventKind.{EventKind}
use Rattle.keys.specs.declared.refusal.Refusal.{Refusal}
use Rattle.keys.specs.declared.refusal.Refusal.TheVariants.{OutOfRange}
use Rattle.model.specs.Contents.{Content}
use Rattle.model.specs.Plans.{Plan}
use Rattle.model.specs.Tallies.{tally}
use Rattle.tally.specs.Contents.{content_of}
use Rattle.tally.specs.declared.tally.Tally.{Tally}

-- an answer, with a tally by its content and plan
abbrev pub shown : Result Tally Refusal → Result (Content EventKind × Plan EventKind) Refusal
shown (Ok t) = Ok (content_of t.k t.n t.counts, tally t.k)
shown (Err e) = Err e

-- a fresh tally of k kinds; refused with 1 unless k is 2 to 64
abbrev pub made : (k : ℕ) → Result (Content EventKind × Plan EventKind) Refusal
made k = cond (nat_le 2 k && nat_le k 64) (Ok ((tally k).fresh, tally k)) (Err OutOfRange)
