-- The lens of address prefixes as a value.
use Rattle.std.specs.Prelude.{ℕ, Option, nat_le}
use Rattle.std.proofs.Common.{leb-true}
use Rattle.keys.specs.Values.{when_true}
use Rattle.lenses.specs.declared.prefix.PrefixLens.{PrefixLens}

-- the lens that keeps the first 0 to 32 bits
abbrev pub prefix_lens_of : (bits : ℕ) → Option PrefixLens
prefix_lens_of bits = when_true (nat_le bits 32) (λ h. record { bits = bits; whole = leb-true bits 32 h })
