-- What a version is, part by part.
use Rattle.std.proofs.Common.{◌≡◌, ℕ, ◌<◌, ◌≤◌, Bool, true, ◌⊎◌, sym, ap, ◌∙◌, arith, Decides, get_or}
use Rattle.std.proofs.lemmas.Bool.Decides.{nat_tests}
use Rattle.stamps.specs.Numbers.{keys}
use Rattle.stamps.specs.Stamps.{counter_of, is_stamp, is_older}
use Rattle.stamps.specs.Values.{in_range}
use Rattle.stamps.proofs.Counting.{every_at, every_from}
use Rattle.stamps.proofs.Stamping.{counter_none}
use Rattle.versions.specs.Rows.{stamp, stamp_at}
use Rattle.versions.specs.Versions.{row_older, is_version}
use Rattle.versions.specs.declared.row.Row.{Row}
use Rattle.versions.specs.declared.version.Version.{Version}
use Rattle.versions.specs.Rowing.{stamp_read, stamp_past}

-- the four facts of a version
pub record Parts (v : Version) : Type 0 where
  pub keyed : v.key < keys
  pub valued : in_range v.value ≡ true
  pub stamped : is_stamp v.stamp.number ≡ true
  pub older : row_older (counter_of v.stamp.number) v.row ≡ true

pub parts_of_version : (v : Version) → is_version v ≡ true → Parts v
unfolding is_version
parts_of_version v h = grind (arith, nat_tests)

-- where the test says so, the key is in range
pub key_within : (v : Version) (r : Bool) → r ≡ is_version v → r ≡ true → v.key < keys
key_within v r tells t = (parts_of_version v (cc)).keyed

pub version_from_parts : (v : Version) → Parts v → is_version v ≡ true
unfolding is_version
version_from_parts v p = grind (arith, nat_tests)

-- a stamp of a row that is older than a counter has a lower counter
pub older_counter : (c n : ℕ) → 1 ≤ c → is_older c n ≡ true → counter_of n < c
older_counter c n low h = grind (arith, nat_tests, counter_none)

-- and is a stamp, or none
pub older_stamp : (c n : ℕ) → is_older c n ≡ true → (n ≡ 0) ⊎ (is_stamp n ≡ true)
older_stamp c n h = grind (arith, nat_tests)

-- the other way round
pub older_from : (c n : ℕ) → (n ≡ 0) ⊎ (is_stamp n ≡ true) → counter_of n < c → is_older c n ≡ true
older_from c n e h = grind (arith, nat_tests)

pub row_older_at : (c : ℕ) (r : Row) → row_older c r ≡ true → (k : ℕ) → is_older c (stamp_at r k) ≡ true
row_older_at c r h k = grind (arith, nat_tests, every_at keys (λ j. is_older c (stamp_at r j)) h k, stamp_past r k)

-- a row is older than a counter exactly where the stamp at each place of its array is
pub older_places : (c : ℕ) (r : Row) → Decides (row_older c r) ((k : ℕ) → k < keys → is_older c (get_or r.stamps k (stamp 0)).number ≡ true)
older_places c r =
    let same : (k : ℕ) → k < keys → is_older c (stamp_at r k) ≡ is_older c (get_or r.stamps k (stamp 0)).number = λ k l. ap (is_older c) (stamp_read r k l) in (
      λ h k l. sym (same k l) ∙ row_older_at c r h k,
      λ h. every_from keys (λ j. is_older c (stamp_at r j)) (λ k l. same k l ∙ h k l),
    )
