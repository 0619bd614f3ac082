-- Division rounded up.
use Rattle.std.proofs.Common.{ℕ, ◌+◌, ◌-◌, ◌*◌, ◌/◌, ◌<◌, ◌≤◌, mod-lt, add-mul, arith}
use Rattle.std.proofs.lemmas.Nat.{div_below, div-add-mod'}
use Rattle.store.specs.Waits.{divided_up}

-- so many times the divisor reach the number
pub up_reaches : (n by : ℕ) → 0 < by → n ≤ divided_up n by * by
up_reaches n by h = omega (arith, h, div-add-mod' (n + (by - 1)) by, mod-lt (n + (by - 1)) h)

-- and no fewer do
pub up_least : (n by q : ℕ) → 0 < by → n ≤ q * by → divided_up n by ≤ q
up_least n by q h enough =
    let less : n + (by - 1) < (q + 1) * by = omega (arith, enough, h, add-mul q 1 by) in
    let below : (n + (by - 1)) / by < q + 1 = div_below (n + (by - 1)) by (q + 1) h less in
    omega (arith, below)
