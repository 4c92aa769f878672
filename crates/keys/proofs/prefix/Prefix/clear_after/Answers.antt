-- An address without its low bits is its first bits and zeros.
use Rattle.std.proofs.Common.{◌≡◌, ℕ, ◌-◌, ◌*◌, ◌/◌, ◌%◌, ◌^◌, ap, ◌∙◌, arith}
use Rattle.keys.specs.Prefixes.{low_bits, first_bits}
use Rattle.keys.specs.Values.{first_clear}
use Rattle.std.proofs.lemmas.Nat.{shr_split}
use Rattle.keys.proofs.Making.{prefix_containing, only_containing}
use Rattle.keys.proofs.prefix.Prefix.clear_after.Goals as goal

-- what stays of a number without its last k bits
cleared : (n k : ℕ) → n - n % 2 ^ k ≡ n / 2 ^ k * 2 ^ k
cleared n k = omega (arith, shr_split n k)

-- so an address without its low bits is its first bits, in their places
without_low : (p address low : ℕ) → low ≡ low_bits p address → address - low ≡ first_bits p address
without_low p address low e = ap (λ m. address - m) e ∙ cleared address (32 - p)

pub invariant_of-result : goal.invariant_of-result
invariant_of-result c =
    let e = without_low c.args.bits c.args.address _ c.low_bits.ensures in
    record { whole = omega arith; clear = ap (low_bits c.args.bits) e ∙ first_clear c.args.bits c.args.address }

pub returns : goal.returns
returns c =
    let e = without_low c.args.bits c.args.address _ c.low_bits.ensures in
    record { value = prefix_containing c.args.address _ e; law = only_containing c.args.address _ e }
