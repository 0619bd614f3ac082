-- The worked facts, by computation.
use Rattle.std.proofs.Common.{◌≤◌, cond, eqb, None, refl, le_refl, arith}
use Rattle.std.proofs.lemmas.Bool.Decides.{nat_tests}
use Rattle.stamps.specs.Stamps.{stamp_of, counter_of, terminal_of}
use Rattle.stamps.specs.declared.value.Value.{Value}
use Rattle.versions.specs.Rows.{stamp_at, row_of, Covers}
use Rattle.versions.specs.Rowing.{stamp_at_row, stamp_at_zeros, covers_by_keys}
use Rattle.causal.specs.Tables.{face_of, Causal}
use Rattle.causal.specs.Worked.{WorkedFacts, row_at5, version16, alone, together}
use Rattle.causal.proofs.Tabling.{none_some, stamp_at_face}

-- the empty table is causal
empty_causal : Causal (λ k. None)
empty_causal k v e = absurd (none_some v e)

-- the face of version 16 alone has no stamp at key 5
alone_not_causal : (value : Value) → Causal (alone value) → ⊥
unfolding stamp_at row_of
alone_not_causal value causal = let h : 11 ≤ 0 = causal 6 (version16 value) refl 5 in omega arith

-- the face of both covers the row of version 16
covers_16 : (value : Value) → Covers (face_of (together value)) (row_at5 11)
covers_16 value =
    covers_by_keys (face_of (together value)) (row_at5 11)
    (λ k h. let row = stamp_at_row (λ j. cond (eqb j 5) 11 0) k h in let face = stamp_at_face (together value) k h in grind (arith, nat_tests))

-- and the empty row of version 19
together_causal : (value : Value) → Causal (together value)
together_causal value k v e j = let covered = covers_16 value j in let zero = stamp_at_zeros j in grind (arith, nat_tests)

pub worked_facts : (value : Value) → WorkedFacts value
unfolding stamp_of counter_of terminal_of stamp_at row_of
worked_facts value = record {
  counter_1_at_terminal_3_is_stamp_11 = refl;
  stamp_8000007_has_counter_1000000 = refl;
  stamp_8000007_has_terminal_7 = refl;
  rows_join_key_by_key = refl;
  a_face_covers_an_equal_row = λ k. le_refl (stamp_at (row_at5 11) k);
  a_lower_face_does_not_cover = λ covers. let h : 11 ≤ 8 = covers 5 in omega arith;
  the_empty_cut_is_causal = empty_causal;
  a_version_without_what_it_rests_on_is_not_causal = alone_not_causal value;
  with_a_higher_stamp_at_that_key_it_is_causal = together_causal value;
  a_post_that_rests_on_it_alone_has_both_stamps = refl;
}
