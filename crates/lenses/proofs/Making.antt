-- A prefix lens is the one that its bits make. Idea: it has one more field alone, a fact, and a fact has one proof.
use Rattle.std.proofs.Common.{◌≡◌, Bool, true, false, leb, ◌≤◌, Ok, refl, sym, ap, true≢false, rules}
use mathlib.Core.HLevel.{is_prop→PathP}
use Rattle.std.proofs.Math.Bridge.{le_prop}
use Rattle.keys.specs.Values.{when_true, asked}
use Rattle.lenses.specs.declared.prefix.PrefixLens.{PrefixLens}
use Rattle.lenses.specs.PrefixLenses.{prefix_lens_of}

same_lens : (x y : PrefixLens) → x.bits ≡ y.bits → x ≡ y
same_lens x y e j = record { bits = e j; whole = is_prop→PathP (λ k. e k ≤ 32) (λ k. le_prop) x.whole y.whole j }

-- a lens whose test passes
given_true : (b : Bool) (f : b ≡ true → PrefixLens) (lens : PrefixLens) → b ≡ true → ((p : b ≡ true) → lens ≡ f p) → Ok lens ≡ asked (when_true b f)
given_true true f lens h e = ap Ok (e refl)
given_true false f lens h e = absurd (true≢false (sym h))

pub lens_made : (lens : PrefixLens) → Ok lens ≡ asked (prefix_lens_of lens.bits)
lens_made lens = given_true (leb lens.bits 32) _ lens (search rules) (λ p. same_lens lens _ (search rules))
