-- The smallest store keeps the laws of every store.
use Rattle.std.specs.Prelude.{◌≡◌, ℕ, ◌<◌, true, ◌⊎◌, Some, None, refl}
use Rattle.std.proofs.Common.{inl, inr, ⊎_elim, sym, ap, subst, ◌∙◌, arith}
use Rattle.std.proofs.lemmas.Bool.{cases_eq}
use Rattle.stamps.specs.Numbers.{keys}
use Rattle.versions.specs.Joins.{In}
use Rattle.versions.specs.declared.version.Version.{Version}
use Rattle.causal.specs.Tables.{Table, held_stamp}
use Rattle.store.specs.Kinds.{Sound, EachStepHasOneOutcome, RefusedKeeps}
use Rattle.store.specs.Meanings.{Lawful, Took, Passed, New}
use Rattle.store.specs.Registering.{registers_placed}
use Rattle.store.specs.Registers.{is_placed, came_to, all_held}
use Rattle.store.proofs.Keeping.{in_held, from_held, held_none}
use Rattle.store.proofs.Making.{put_means, put_keeps, one_put, refused_left}
use Rattle.store.proofs.Registering.{placed_version, placed_key, taken_stamp, taken_one, came_here, came_there, came_placed}
use Rattle.smallest.specs.Smallest.{registers_mean, smallest_kind, smallest_state}
use Rattle.smallest.specs.declared.smallest.Smallest.{Smallest}

-- what the registers mean is lawful
lawful : (t : Table) → ((k : ℕ) → is_placed k (t k) ≡ true) → Lawful (registers_mean t)
lawful t placed =
    record {
      kept_are_versions = λ v i. let r = from_held keys t v i in placed_version r.0 (t r.0) v (placed r.0) r.2;
      shown_is_kept = λ site key v h e. in_held keys t key v h.1 e;
      shown_is_keyed = λ site key v h e. placed_key key (t key) v (placed key) e;
      settled_shows_peaks = λ w site key h. refl;
      settled_is_unbarred = λ w. refl;
    }

-- what a version that comes to its register does to the meaning
took : (t : Table) (v : Version) → Took (registers_mean t) v (registers_mean (came_to t v))
took t v =
    record {
      kept_or_put = λ w i. let r = from_held keys (came_to t v) w i in one w r.0 r.1 r.2;
      own_peak = ap held_stamp (came_here t v v.key refl) ∙ taken_stamp (t v.key) v;
      other_peaks = λ key h ne. ap held_stamp (came_there t v key ne);
    }
  where
    one : (w : Version) (k : ℕ) → k < keys → came_to t v k ≡ Some w → (w ≡ v) ⊎ In w (all_held t)
    one w k h e =
        ⊎_elim (λ at. ⊎_elim (λ new. inl new) (λ old. inr (in_held keys t k w h old)) (taken_one (t k) v w (sym (came_here t v k at) ∙ e)))
        (λ ne. inr (in_held keys t k w h (sym (came_there t v k ne) ∙ e))) (cases_eq k v.key)

-- a tick alters nothing
passed : (t u : Table) → u ≡ t → Passed (registers_mean t) (registers_mean u)
passed t u e =
    record {
      kept_before = λ w i. subst (λ (x : Table). In w (all_held x)) e i;
      peaks_hold = λ key h. ap (λ (x : Table). held_stamp (x key)) e;
      wait_falls = omega arith;
    }

pub smallest_sound : Sound smallest_kind
smallest_sound =
    record {
      lawful = lawful;
      put_keeps =
          λ s site v answer t g put. put_keeps (λ (x : Table). (k : ℕ) → is_placed k (x k) ≡ true) None s (came_to s v) site v answer t g put
          (λ within _. came_placed s v g within.1);
      put_means = λ s site v answer t g put. put_means registers_mean s (came_to s v) site v answer t put (λ within _. took s v);
      tick_keeps = λ s t g e. subst (λ (x : Table). (k : ℕ) → is_placed k (x k) ≡ true) (sym e) g;
      tick_means = λ s t g e. passed s t e;
    }

-- the code's registers hold at each key a version of it, or none
pub smallest_good : (s : Smallest) (k : ℕ) → is_placed k (smallest_state s k) ≡ true
smallest_good s k = registers_placed s.registers k

pub smallest_one : EachStepHasOneOutcome smallest_kind
smallest_one =
    record { one_put = λ s site v. one_put None s (came_to s v) site v; one_tick = λ s t t' e e'. e ∙ sym e' }

pub smallest_left : RefusedKeeps smallest_kind
smallest_left s site v e t put = refused_left None s (came_to s v) site v e t put

-- empty registers are new
pub smallest_new : (t : Table) → ((k : ℕ) → t k ≡ None) → New (registers_mean t)
smallest_new t empty = record { nothing_kept = held_none keys t empty; no_peaks = λ key h. ap held_stamp (empty key); no_wait = refl }
