-- The steal wait is the least one that is long enough.
use Rattle.std.proofs.Common.{◌≡◌, ℕ, ◌+◌, ◌*◌, ◌<◌, ◌≤◌, arith}
use Rattle.std.proofs.lemmas.Grind.{div_ceil_times}
use Rattle.std.proofs.Math.Nat.{lt_of_mul-lt-mul_right}
use Rattle.st_base.specs.declared.config.Config.{Config}
use Rattle.st_rules.specs.Leases.{IsStealWait, steal_wait}

distributed : (v d : ℕ) → (v + 1) * d ≡ v * d + d
distributed v d = omega arith

-- what is less than one multiple more is no greater
least_multiple : (w v d total : ℕ) → 0 < d → w * d < total + d → total ≤ v * d → w ≤ v
least_multiple w v d total pos short long = omega (arith, lt_of_mul-lt-mul_right d {m = w} {n = v + 1} (omega (arith, distributed v d)))

pub least_wait : (k : Config) → 0 < k.den → IsStealWait k (steal_wait k)
unfolding steal_wait
least_wait k pos = let b = div_ceil_times (k.lease * k.num + k.den * k.grain) k.den pos in record { enough = b.0; least = λ v long. least_multiple _ v k.den _ pos b.1 long }
