-- Choosing: why the largest set that fits exists, how striking misfits finds it, and what follows from it.
use Rattle.std.proofs.Common.{◌≡◌, ℕ, ◌+◌, ◌≤◌, Bool, true, cond, not, ◌&&◌, eqb, ltb, Option, sym, ap, ◌∙◌, subst, ⊎_elim, arith}
use Rattle.std.proofs.lemmas.Bool.{or_cases, or_left, or_right, cases_Bool, cases_eq, cond-true, cond_both}
use Rattle.std.proofs.lemmas.Bool.Decides.{nat_tests}
use Rattle.stamps.specs.Keys.{count_keys}
use Rattle.stamps.specs.Numbers.{keys}
use Rattle.stamps.proofs.Counting.{count_same, count_split}
use Rattle.versions.specs.declared.version.Version.{Version}
use Rattle.causal.specs.Choosing.{is_newer, MadeOf, Contained, Chosen, OneOutcome, WithheldExactly, put_in, Fits, union, UnionFits, LargestFit}
use Rattle.causal.specs.Tables.{Table, held_stamp, face_of, CoversHeld, Causal}
use Rattle.causal.proofs.Tabling.{held_rises, causal_same}

module _ (old answers : Table) where
  -- a set of answers that are all newer
  abbrev pub AllNewer : (ℕ → Bool) → Type 0
  AllNewer chosen = (k : ℕ) → chosen k ≡ true → is_newer old answers k ≡ true

  -- a set that has the key of every newer answer that any causal table contains
  abbrev pub HasContained : (ℕ → Bool) → Type 0
  HasContained chosen = (k : ℕ) → is_newer old answers k ≡ true → (table : Table) → Contained old answers k table → chosen k ≡ true

  -- newer answers put in leave no stamp fallen
  pub put_rises : (chosen : ℕ → Bool) → AllNewer chosen → (k : ℕ) → held_stamp (old k) ≤ held_stamp (put_in old answers chosen k)
  put_rises chosen all k = grind (arith, nat_tests)

  -- and more of them leave none lower than fewer do
  more_rises : (some more : ℕ → Bool) → AllNewer more → ((k : ℕ) → some k ≡ true → more k ≡ true)
      → (k : ℕ) → held_stamp (put_in old answers some k) ≤ held_stamp (put_in old answers more k)
  more_rises some more all within k = grind (arith, nat_tests)

  -- so what fewer of them leave covered, more of them do
  covers_more : (some more : ℕ → Bool) → AllNewer more → ((k : ℕ) → some k ≡ true → more k ≡ true) → Causal (put_in old answers some)
      → (k : ℕ) → CoversHeld (face_of (put_in old answers more)) (put_in old answers some k)
  covers_more some more all within causal k =
      held_rises (put_in old answers some) (put_in old answers more) (more_rises some more all within) (put_in old answers some k) (causal k)

  -- no causal table made of the old one and newer answers has a stamp above those of a set that has all that such tables contain
  made_below : (chosen : ℕ → Bool) → AllNewer chosen → HasContained chosen → (table : Table) → MadeOf old answers table → Causal table
      → (k : ℕ) → held_stamp (table k) ≤ held_stamp (put_in old answers chosen k)
  made_below chosen all has table made causal k =
      let rises = put_rises chosen all k in
      ⊎_elim (λ e. grind (arith, nat_tests))
      (λ p. let there = has k p.0 table (record { made = made; causal = causal; there = p.1 }) in grind (arith, nat_tests)) (made k)

  -- so no such table contains a misfit
  misfit_never : (chosen : ℕ → Bool) → AllNewer chosen → HasContained chosen → (k : ℕ)
      → (CoversHeld (face_of (put_in old answers chosen)) (answers k) → ⊥) → (table : Table) → Contained old answers k table → ⊥
  misfit_never chosen all has k misfit table c =
      misfit
      (held_rises table (put_in old answers chosen) (made_below chosen all has table c.made c.causal) (answers k)
      (subst (λ (o : Option Version). CoversHeld (face_of table) o) c.there (c.causal k)))

  -- striking a misfit keeps both facts
  module _ (chosen less : ℕ → Bool) (key : ℕ) (strikes : (k : ℕ) → less k ≡ (not (eqb k key) && chosen k)) where
    pub strike_newer : AllNewer chosen → AllNewer less
    strike_newer all k t = grind (arith, nat_tests)

    pub strike_contained : AllNewer chosen → HasContained chosen → (CoversHeld (face_of (put_in old answers chosen)) (answers key) → ⊥) → HasContained less
    strike_contained all has misfit k n table c =
        let there = has k n table c in
        ⊎_elim (λ e. absurd (misfit_never chosen all has key misfit table (subst (λ (j : ℕ). Contained old answers j table) e c)))
        (λ ne. grind (arith, nat_tests)) (cases_eq k key)

  -- once there is no misfit, the set fits
  pub fits_from : (chosen : ℕ → Bool) → AllNewer chosen → Causal old
      → ((k : ℕ) → chosen k ≡ true → CoversHeld (face_of (put_in old answers chosen)) (answers k)) → Fits old answers chosen
  fits_from chosen all causal covered = record {
    all_newer = all;
    causal = λ k.
        cond_both (chosen k) (answers k) (old k) (CoversHeld (face_of (put_in old answers chosen))) (covered k)
        (λ _. held_rises old (put_in old answers chosen) (put_rises chosen all) (old k) (causal k));
  }

  -- the largest set put in is the outcome of choosing
  module _ (chosen : ℕ → Bool) (largest : LargestFit old answers chosen) (new : Table) (is : (k : ℕ) → new k ≡ put_in old answers chosen k) where
    -- the stamp rises at the keys put in and at no other
    moved_at : (k : ℕ) → is_newer old new k ≡ chosen k
    moved_at k = let newer = largest.fits.all_newer k in grind (arith, nat_tests)

    -- a test that passes wherever another does counts what the other counts, and the rest
    split : (b n : Bool) → (b ≡ true → n ≡ true) → cond n 1 0 ≡ cond b 1 0 + cond (not b && n) 1 0
    split b n h = grind (arith, nat_tests)

    -- a newer answer is put in, or newer still
    withheld_at : (k : ℕ) → cond (is_newer old answers k) 1 0 ≡ cond (chosen k) 1 0 + cond (is_newer new answers k) 1 0
    withheld_at k = let newer = largest.fits.all_newer k in grind (arith, nat_tests)

    -- the newer answers are those put in and those withheld
    pub newer_counts : (newer : ℕ → Bool) → ((k : ℕ) → newer k ≡ is_newer old answers k) → count_keys newer ≡ count_keys chosen + count_keys (is_newer new answers)
    newer_counts newer same =
        count_same keys newer (is_newer old answers) (λ k h. same k) ∙ count_split keys (is_newer old answers) chosen (is_newer new answers) (λ k h. withheld_at k)

    -- at each key there is what was there, or the newer answer
    made_of : MadeOf old answers new
    made_of k = let newer = largest.fits.all_newer k in grind (arith, nat_tests)

    -- so all that is said of the outcome holds
    pub chosen_from : (moved withheld : ℕ) → moved ≡ count_keys chosen → withheld ≡ count_keys (is_newer new answers) → Chosen old answers new moved withheld
    chosen_from moved withheld m w = record {
      made = made_of;
      causal = causal_same (put_in old answers chosen) new is largest.fits.causal;
      largest = λ k n table c. is k ∙ cond-true (chosen k) (answers k) (old k) (largest.largest k n table c);
      counts_moved = m ∙ count_same keys chosen (is_newer old new) (λ k h. sym (moved_at k));
      counts_withheld = w;
    }

-- two outcomes of choosing agree at each key
agree : (old answers new new' : Table) (m m' w w' : ℕ) → Chosen old answers new m w → Chosen old answers new' m' w' → (k : ℕ) → new k ≡ new' k
agree old answers new new' m m' w w' c c' k = ⊎_elim from_old from_answer (c.made k)
  where
    from_answer : (is_newer old answers k ≡ true) × (new k ≡ answers k) → new k ≡ new' k
    from_answer p = p.1 ∙ sym (c'.largest k p.0 new (record { made = c.made; causal = c.causal; there = p.1 }))

    from_old : new k ≡ old k → new k ≡ new' k
    from_old e =
        ⊎_elim (λ e'. e ∙ sym e')
        (λ p. c.largest k p.0 new' (record { made = c'.made; causal = c'.causal; there = p.1 }) ∙ sym p.1)
        (c'.made k)

-- and so do the counts
pub one_outcome : OneOutcome
one_outcome old answers new new' m m' w w' c c' =
    let same = agree old answers new new' m m' w w' c c' in (
      same,
      c.counts_moved ∙ count_same keys (is_newer old new) (is_newer old new') (λ k h. ap (λ (o : Option Version). ltb (held_stamp (old k)) (held_stamp o)) (same k)) ∙ sym c'.counts_moved,
      c.counts_withheld ∙ count_same keys (is_newer new answers) (is_newer new' answers) (λ k h. ap (λ (o : Option Version). ltb (held_stamp o) (held_stamp (answers k))) (same k)) ∙ sym c'.counts_withheld,
    )

-- an answer is newer still exactly where no causal table contains it
pub withheld_exactly : WithheldExactly
withheld_exactly old answers new m w c k n = (
  λ still table contained. let there = c.largest k n table contained in grind (arith, nat_tests),
  λ nowhere.
      ⊎_elim (λ e. grind (arith, nat_tests)) (λ p. absurd (nowhere new (record { made = c.made; causal = c.causal; there = p.1 }))) (c.made k),
)

-- the union of two sets that fit fits
pub union_fits : UnionFits
union_fits old answers some others fits fits' = record { all_newer = all; causal = covered }
  where
    both : ℕ → Bool
    both = union some others

    all : (k : ℕ) → both k ≡ true → is_newer old answers k ≡ true
    all k t = ⊎_elim (fits.all_newer k) (fits'.all_newer k) (or_cases (some k) (others k) t)

    covered : Causal (put_in old answers both)
    covered k =
        ⊎_elim
        (λ t. let same : put_in old answers some k ≡ put_in old answers both k = grind (arith, nat_tests) in
        rw (← same) (covers_more old answers some both all (λ j s. or_left (some j) (others j) s) fits.causal k))
        (λ f. let same : put_in old answers others k ≡ put_in old answers both k = grind (arith, nat_tests) in
        rw (← same) (covers_more old answers others both all (λ j s. or_right (some j) (others j) s) fits'.causal k))
        (cases_Bool (some k))
