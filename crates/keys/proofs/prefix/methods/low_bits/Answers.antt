-- A mask of ones keeps the remainder by a power of two.
use Rattle.std.proofs.Common.{◌-◌, ◌<◌, arith, rules}
use Rattle.std.proofs.lemmas.Nat.{one_shl, and_mask}
use Rattle.keys.proofs.prefix.methods.low_bits.Goals as goal

pub returns : goal.returns
returns c =
    let h : 32 - c.args.bits < 64 = omega arith in
    rw (one_shl (32 - c.args.bits) 64 h) (search (rules, and_mask))
