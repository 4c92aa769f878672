-- Address prefixes as numbers: the first p bits of 32, and the bits after them.
use Rattle.std.specs.Prelude.{ℕ, ◌-◌, ◌*◌, ◌/◌, ◌%◌, ◌^◌, Bool, ◌&&◌, ◌==◌, nat_le}

-- the bits after the first p, as a number
abbrev pub low_bits : (p address : ℕ) → ℕ
low_bits p address = address % 2 ^ (32 - p)

-- the first p bits, then zeros
abbrev pub first_bits : (p address : ℕ) → ℕ
first_bits p address = address / 2 ^ (32 - p) * 2 ^ (32 - p)

-- p is 0 to 32, and every bit after the first p is zero
abbrev pub is_prefix : (p address : ℕ) → Bool
is_prefix p address = nat_le p 32 && low_bits p address == 0
