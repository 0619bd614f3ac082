-- Worked facts about the definitions: one table, each field named by what it says.
use Rattle.std.specs.Prelude.{◌≡◌, ℕ, cond, [], ◌∷◌, Some, None, ◌==◌}
use Rattle.stamps.specs.Stamps.{stamp_of, counter_of, terminal_of}
use Rattle.stamps.specs.declared.value.Value.{Value}
use Rattle.versions.specs.Rows.{stamp, row_of, zeros, Covers, joined_rows}
use Rattle.versions.specs.declared.row.Row.{Row}
use Rattle.versions.specs.declared.version.Version.{Version}
use Rattle.causal.specs.Posting.{row_of_post}
use Rattle.causal.specs.Tables.{Table, Causal}

-- the row with one stamp, at key 5
abbrev pub row_at5 : ℕ → Row
row_at5 m = row_of (λ k. cond (k == 5) m 0)

-- the row with two stamps, at keys 5 and 6
abbrev pub row_at5_and6 : ℕ → ℕ → Row
row_at5_and6 m n = row_of (λ k. cond (k == 5) m (cond (k == 6) n 0))

-- a version of stamp 16 at key 6 that rests on stamp 11 at key 5
abbrev pub version16 : Value → Version
version16 value = record { key = 6; value = value; stamp = stamp 16; row = row_at5 11 }

-- a version of stamp 19 at key 5 that rests on nothing
abbrev pub version19 : Value → Version
version19 value = record { key = 5; value = value; stamp = stamp 19; row = zeros }

-- the table that holds version 16 alone
abbrev pub alone : Value → Table
alone value k = cond (k == 6) (Some (version16 value)) None

-- the table that holds version 19 besides
abbrev pub together : Value → Table
together value k = cond (k == 5) (Some (version19 value)) (alone value k)

-- the table of worked facts, whatever the value of the versions
pub record WorkedFacts (value : Value) : Type 0 where
  pub counter_1_at_terminal_3_is_stamp_11 : stamp_of 1 3 ≡ 11
  pub stamp_8000007_has_counter_1000000 : counter_of 8000007 ≡ 1000000
  pub stamp_8000007_has_terminal_7 : terminal_of 8000007 ≡ 7
  pub rows_join_key_by_key : joined_rows (row_at5 11) (row_at5_and6 8 16) ≡ row_at5_and6 11 16
  pub a_face_covers_an_equal_row : Covers (row_at5 11) (row_at5 11)
  pub a_lower_face_does_not_cover : Covers (row_at5 8) (row_at5 11) → ⊥
  pub the_empty_cut_is_causal : Causal (λ k. None)
  pub a_version_without_what_it_rests_on_is_not_causal : Causal (alone value) → ⊥
  pub with_a_higher_stamp_at_that_key_it_is_causal : Causal (together value)
  pub a_post_that_rests_on_it_alone_has_both_stamps : row_of_post (version16 value ∷ []) ≡ row_at5_and6 11 16
