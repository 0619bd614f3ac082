-- A post: its counter, its causes, its row, and how it enters the cut.
use Rattle.std.specs.Prelude.{◌≡◌, ℕ, zero, suc, ◌+◌, ◌<◌, ◌≤◌, Bool, true, cond, List, [], ◌++◌, map, length, Ok, Err, Result}
use Rattle.std.specs.Option.{option_to_list}
use Rattle.stamps.specs.Keys.{highest_of}
use Rattle.stamps.specs.Numbers.{keys, terminals, counter_limit}
use Rattle.stamps.specs.Stamps.{stamp_of, counter_of}
use Rattle.stamps.specs.Values.{in_range}
use Rattle.stamps.specs.declared.refusal.Refusal.TheVariants.{OutOfRange, CounterSpent, CauseNotOlder}
use Rattle.stamps.specs.declared.refusal.Refusal.{Refusal}
use Rattle.stamps.specs.declared.value.Value.{Value}
use Rattle.versions.specs.Joins.{joined}
use Rattle.versions.specs.Rows.{stamp, stamp_at, zeros, joined_rows, Covers}
use Rattle.versions.specs.Versions.{is_version, reach}
use Rattle.versions.specs.declared.row.Row.{Row}
use Rattle.versions.specs.declared.version.Version.{Version}
use Rattle.causal.specs.Tables.{Table, held_stamp, face_of}
use Rattle.causal.specs.declared.draft.Draft.{Draft}

-- one more than the highest counter in a row, 1 for the row of zeros
abbrev pub counter_after : Row → ℕ
counter_after r = highest_of (λ k. counter_of (stamp_at r k)) + 1

-- the counter of the next post: one more than the highest in the face, 1 for an empty cut
abbrev pub next_counter : Table → ℕ
next_counter t = counter_after (face_of t)

-- the versions held at the keys of a sale below n, lowest key first
unfoldable pub causes_below : ℕ → Table → (ℕ → Bool) → List Version
causes_below zero t sale = []
causes_below (suc n) t sale = causes_below n t sale ++ cond (sale n) (option_to_list (t n)) []

-- the causes of a post: the versions held at the keys of its sale, lowest key first
abbrev pub causes_of : Table → (ℕ → Bool) → List Version
causes_of t sale = causes_below keys t sale

-- the row of a post: the joined reaches of its causes
abbrev pub row_of_post : List Version → Row
row_of_post causes = joined zeros joined_rows (map reach causes)

-- the version of a post, whole
abbrev pub post_version : ℕ → Value → ℕ → ℕ → List Version → Version
post_version key value counter terminal causes =
    record { key = key; value = value; stamp = stamp (stamp_of counter terminal); row = row_of_post causes }

-- terminal, key and value of a post are in range
abbrev pub InPostRange : ℕ → ℕ → Value → Type 0
InPostRange terminal key value = (terminal < terminals) × (key < keys) × (in_range value ≡ true)

-- what drafting a post answers: the first of these that applies, in the order of the tests
pub data Drafted (t : Table) (terminal key : ℕ) (value : Value) (sale : ℕ → Bool) (answer : Result Draft Refusal) : Type 0 where
  -- 14: terminal, key or value out of range
  out_of_range : (InPostRange terminal key value → ⊥) → answer ≡ Err OutOfRange → Drafted t terminal key value sale answer
  -- 23: the counter would be above its limit
  counter_spent :
      InPostRange terminal key value → counter_limit < next_counter t → answer ≡ Err CounterSpent → Drafted t terminal key value sale answer
  -- 24: the row has a counter that is not below the post's own
  cause_not_older :
      InPostRange terminal key value → next_counter t ≤ counter_limit
      → (k : ℕ) → next_counter t ≤ counter_of (stamp_at (row_of_post (causes_of t sale)) k)
      → answer ≡ Err CauseNotOlder → Drafted t terminal key value sale answer
  -- the version of the post and the number of its causes
  drafted :
      InPostRange terminal key value → next_counter t ≤ counter_limit
      → ((k : ℕ) → counter_of (stamp_at (row_of_post (causes_of t sale)) k) < next_counter t)
      → answer ≡ Ok (record { version = post_version key value (next_counter t) terminal (causes_of t sale); causes = length (causes_of t sale) })
      → Drafted t terminal key value sale answer

-- what may enter a cut: a version that the face covers and that stands above the stamp at its key
pub record FitToEnter (t : Table) (v : Version) : Type 0 where
  pub is_a_version : is_version v ≡ true
  pub covered : Covers (face_of t) v.row
  pub above : held_stamp (t v.key) < v.stamp.number

-- theorem: drafting has one answer
abbrev pub OneDraft : Type 0
OneDraft =
    (t : Table) (terminal key : ℕ) (value : Value) (sale : ℕ → Bool) (answer answer' : Result Draft Refusal)
    → Drafted t terminal key value sale answer → Drafted t terminal key value sale answer' → answer ≡ answer'
