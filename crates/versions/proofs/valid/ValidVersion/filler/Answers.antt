use Rattle.std.proofs.Common.{◌≡◌, ℕ, true, refl, ap}
use Rattle.stamps.proofs.Counting.{every_from}
use Rattle.stamps.specs.Stamps.{stamp_of, counter_of, is_older}
use Rattle.versions.specs.Rows.{stamp_at, zeros}
use Rattle.versions.specs.Rowing.{stamp_at_zeros}
use Rattle.versions.specs.Versions.{is_version, filler, row_older}
use Rattle.versions.proofs.valid.ValidVersion.filler.Goals as goal

-- the row of zeros is older than any counter
zeros_older : (counter : ℕ) → row_older counter zeros ≡ true
zeros_older counter = every_from 32 (λ k. is_older counter (stamp_at zeros k)) (λ k h. ap (is_older counter) (stamp_at_zeros k))

filler_valid : is_version filler ≡ true
unfolding is_version stamp_of counter_of
filler_valid = zeros_older 1

pub returns : goal.returns
unfolding stamp_of
returns c = rw c.zeros.ensures refl

pub invariant_of-result : goal.invariant_of-result
unfolding stamp_of
invariant_of-result c = rw c.zeros.ensures filler_valid
