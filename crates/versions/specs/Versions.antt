-- Versions: what a terminal or a store holds at a key.
use Rattle.std.specs.Prelude.{ℕ, Bool, cond, ◌&&◌, ◌==◌, nat_lt}
use Rattle.stamps.specs.Keys.{every_key}
use Rattle.stamps.specs.Numbers.{keys}
use Rattle.stamps.specs.Stamps.{stamp_of, counter_of, is_stamp, is_older}
use Rattle.stamps.specs.Values.{in_range}
use Rattle.stamps.specs.declared.value.Value.TheVariants.{Free}
use Rattle.versions.specs.Rows.{stamp, stamp_at, row_of, zeros}
use Rattle.versions.specs.declared.row.Row.{Row}
use Rattle.versions.specs.declared.version.Version.{Version}

-- a row is older than a counter when each of its stamps is
abbrev pub row_older : ℕ → Row → Bool
row_older counter r = every_key (λ k. is_older counter (stamp_at r k))

-- a record is a version when its key, value and stamp are in range and its row is older than its own counter
unfoldable pub is_version : Version → Bool
is_version v =
    nat_lt v.key keys && (in_range v.value && (is_stamp v.stamp.number && row_older (counter_of v.stamp.number) v.row))

-- the reach of a version: its row with its own stamp set in at its own key
abbrev pub reach : Version → Row
reach v = row_of (λ k. cond (k == v.key) v.stamp.number (stamp_at v.row k))

-- a version that stands in places that are not in use: key 0, free, counter 1 of terminal 0, resting on nothing
abbrev pub filler : Version
filler = record { key = 0; value = Free; stamp = stamp (stamp_of 1 0); row = zeros }
