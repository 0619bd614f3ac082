-- Posting: the next counter, the causes, and their joined reaches.
use Rattle.std.proofs.Common.{◌≡◌, ℕ, zero, suc, ◌<◌, ◌≤◌, Bool, true, false, cond, not, ◌&&◌, eqb, ◌⊎◌, List, [], ◌∷◌, ◌++◌, map, length, get_or, is_some, Some, sym, refl, ap, ◌∙◌, inl, inr, ⊎_elim, le_refl, arith}
use Rattle.std.specs.Option.{option_to_list}
use Rattle.std.proofs.lemmas.Grind.{common_steps}
use Rattle.std.proofs.lemmas.Bool.Decides.{nat_tests}
use Rattle.std.proofs.lemmas.Bool.{cases_eq, cases_lt, and_right}
use Rattle.stamps.specs.Keys.{count_below, highest_of}
use Rattle.stamps.specs.Numbers.{keys}
use Rattle.stamps.specs.Stamps.{InStampRange, counter_of, stamp_of, is_stamp, is_older}
use Rattle.stamps.specs.declared.value.Value.{Value}
use Rattle.stamps.specs.declared.stamp.Stamp.{Stamp}
use Rattle.stamps.proofs.Counting.{every_fails, highest_bound, highest_least}
use Rattle.stamps.proofs.Stamping.{counter_rises, counter_none, counter_of_stamp, counter_decides, stamp_from_parts}
use Rattle.versions.specs.Joins.{joined, joined_from}
use Rattle.versions.specs.Rows.{stamp, stamp_at, zeros, joined_stamps, joined_rows, Covers}
use Rattle.versions.specs.Versions.{is_version, reach, row_older}
use Rattle.versions.specs.declared.row.Row.{Row}
use Rattle.versions.specs.declared.version.Version.{Version}
use Rattle.versions.specs.Rowing.{stamp_read, stamp_past, stamp_at_row, stamp_at_join, stamp_at_zeros, covers_by_keys}
use Rattle.versions.proofs.Versioning.{parts_of_version, version_from_parts, older_stamp, row_older_at}
use Rattle.causal.specs.Posting.{next_counter, causes_below, causes_of, row_of_post, post_version, FitToEnter, InPostRange, OneDraft}
use Rattle.causal.specs.Tables.{Table, held_stamp, face_of, HoldsVersions, Keyed, Causal}
use Rattle.causal.proofs.Tabling.{stamp_at_face}

-- ---- the next counter

-- the join of a list of stamps is at least its start
joined_start : (s : Stamp) (xs : List Stamp) → s.number ≤ (joined_from joined_stamps s xs).number
joined_start s [] = le_refl s.number
joined_start s (x ∷ xs) = omega (arith, joined_start (joined_stamps s x) xs)

-- and at least each member
joined_member : (s : Stamp) (xs : List Stamp) (i : ℕ) → i < length xs → (get_or xs i (stamp 0)).number ≤ (joined_from joined_stamps s xs).number
joined_member s [] i h = absurd (omega arith)
joined_member s (x ∷ xs) zero h = omega (arith, joined_start (joined_stamps s x) xs)
joined_member s (x ∷ xs) (suc i) h = joined_member (joined_stamps s x) xs i (omega arith)

-- and is one of them
joined_reached : (s : Stamp) (xs : List Stamp)
    → ((joined_from joined_stamps s xs).number ≡ s.number) ⊎ ((i : ℕ) × (i < length xs) × ((get_or xs i (stamp 0)).number ≡ (joined_from joined_stamps s xs).number))
joined_reached s [] = inl refl
joined_reached s (x ∷ xs) = elim (joined_reached (joined_stamps s x) xs) [
  | inl e ↦ ⊎_elim (λ l. inr (0, omega arith, omega (arith, e))) (λ l. inl (omega (arith, e))) (cases_lt s.number x.number)
  | inr r ↦ inr (suc r.0, omega (arith, r.1), r.2)
]

-- the counter of the joined stamps of a row is the highest counter in it
pub joined_highest : (r : Row) → length r.stamps ≡ keys → (highest : Stamp) → highest ≡ joined (stamp 0) joined_stamps r.stamps
    → counter_of highest.number ≡ highest_of (λ k. counter_of (stamp_at r k))
joined_highest r long highest is =
    let f = λ (k : ℕ). counter_of (stamp_at r k) in
    let down : highest_of f ≤ counter_of highest.number =
    highest_least keys f (counter_of highest.number)
    (λ k h.
    let read = stamp_read r k h in
    let member = joined_member (stamp 0) r.stamps k in
    counter_rises (stamp_at r k) highest.number (grind arith)) in
    elim (joined_reached (stamp 0) r.stamps) [
      | inl e ↦ grind (arith, counter_none)
      | inr m ↦ let bound = highest_bound keys f m.0 in let read = stamp_read r m.0 in grind arith
    ]

-- ---- the causes

-- keys that are not in the sale add none
pub causes_skip : (n k : ℕ) (t : Table) (sale : ℕ → Bool) → n ≤ k → ((j : ℕ) → n ≤ j → j < k → sale j ≡ false) → causes_below k t sale ≡ causes_below n t sale
unfolding causes_below
causes_skip n zero t sale h off = let none : 0 ≡ n = omega arith in ap (λ (m : ℕ). causes_below m t sale) none
causes_skip n (suc k) t sale h off = elim (cases_eq n (suc k)) [
  | inl e ↦ ap (λ (m : ℕ). causes_below m t sale) (sym e)
  | inr ne ↦ let before = causes_skip n k t sale (omega arith) in grind (arith, common_steps)
]

-- a sale without keys has none
pub causes_none : (n : ℕ) (t : Table) (sale : ℕ → Bool) → ((k : ℕ) → k < n → sale k ≡ false) → causes_below n t sale ≡ []
unfolding causes_below
causes_none n t sale off = causes_skip 0 n t sale (omega arith) (λ k _ l. off k l)

-- what is held at the lowest key of a sale comes first, and the causes of the other keys after it
pub causes_lowest : (n : ℕ) (t : Table) (sale others : ℕ → Bool) (key : ℕ) → key < n → sale key ≡ true → ((k : ℕ) → k < key → sale k ≡ false)
    → ((k : ℕ) → others k ≡ (not (eqb k key) && sale k)) → causes_below n t sale ≡ option_to_list (t key) ++ causes_below n t others
unfolding causes_below
causes_lowest zero t sale others key within there none struck = absurd (omega arith)
causes_lowest (suc n) t sale others key within there none struck = elim (cases_eq key n) [
  | inl e ↦
      let off = causes_none n t sale (λ k l. none k (omega arith)) in
      let rest = causes_none n t others (λ k l. struck k ∙ and_right (not (eqb k key)) (sale k) (none k (omega arith))) in
      grind (arith, common_steps, nat_tests)
  | inr ne ↦ let before = causes_lowest n t sale others key (omega arith) there none struck in grind (arith, common_steps, nat_tests)
]

-- a sale and the same sale masked by the keys held have the same causes
pub causes_masked : (n : ℕ) (t : Table) (sale masked : ℕ → Bool) → ((k : ℕ) → masked k ≡ (sale k && is_some (t k))) → causes_below n t masked ≡ causes_below n t sale
unfolding causes_below
causes_masked zero t sale masked is = refl
causes_masked (suc n) t sale masked is = grind (arith, common_steps, causes_masked n t sale masked is)

-- there are as many as there are keys of the sale at which something is held
pub causes_count : (n : ℕ) (t : Table) (sale : ℕ → Bool) → length (causes_below n t sale) ≡ count_below n (λ k. sale k && is_some (t k))
unfolding causes_below count_below
causes_count zero t sale = refl
causes_count (suc n) t sale = grind (arith, common_steps, causes_count n t sale)

-- ---- the row of a post

-- at a key of the sale the reach of what is held there is joined after those before it
pub row_more : (k : ℕ) (t : Table) (sale : ℕ → Bool) → sale k ≡ true
    → row_of_post (causes_below (suc k) t sale) ≡ joined_from joined_rows (row_of_post (causes_below k t sale)) (map reach (option_to_list (t k)))
unfolding causes_below
row_more k t sale e = grind (arith, common_steps)

-- joining the reaches of the causes left, the lowest one is joined first
pub row_lowest : (row : Row) (t : Table) (sale others : ℕ → Bool) (key : ℕ) → key < keys → sale key ≡ true → ((k : ℕ) → k < key → sale k ≡ false)
    → ((k : ℕ) → others k ≡ (not (eqb k key) && sale k))
    → joined_from joined_rows (joined_from joined_rows row (map reach (option_to_list (t key)))) (map reach (causes_of t others))
    ≡ joined_from joined_rows row (map reach (causes_of t sale))
row_lowest row t sale others key within there none struck =
    let first = causes_lowest keys t sale others key within there none struck in grind (arith, common_steps)

-- a face that covers two rows covers their join
covers_join : (f a b : Row) → Covers f a → Covers f b → Covers f (joined_rows a b)
covers_join f a b h g k = grind (arith, stamp_at_join)

-- the face of a causal table covers the reach of each version held
covers_reach : (t : Table) → Keyed t → Causal t → (k : ℕ) (v : Version) → t k ≡ Some v → Covers (face_of t) (reach v)
covers_reach t keyed causal k v e =
    covers_by_keys (face_of t) (reach v)
    (λ j h.
    let own = keyed k v e in
    let others = causal k v e j in
    let at_reach = stamp_at_row (λ i. cond (eqb i v.key) v.stamp.number (stamp_at v.row i)) j h in
    let at_face = stamp_at_face t j h in
    grind (arith, nat_tests))

-- every face covers the row of zeros
covers_zeros : (f : Row) → Covers f zeros
covers_zeros f k = omega (arith, stamp_at_zeros k)

-- what joining keeps and every reach has, the row of a post has
post_each : (Q : Row → Type 0) → Q zeros → ((a b : Row) → Q a → Q b → Q (joined_rows a b))
    → (t : Table) → ((k : ℕ) (v : Version) → t k ≡ Some v → Q (reach v)) → (sale : ℕ → Bool) (n : ℕ) → Q (row_of_post (causes_below n t sale))
unfolding causes_below
post_each Q none both t each sale zero = none
post_each Q none both t each sale (suc n) = let before = post_each Q none both t each sale n in let held = each n in grind (arith, common_steps)

-- so the face covers it
pub post_covered : (t : Table) → Keyed t → Causal t → (sale : ℕ → Bool) → Covers (face_of t) (row_of_post (causes_of t sale))
post_covered t keyed causal sale = post_each (Covers (face_of t)) (covers_zeros (face_of t)) (covers_join (face_of t)) t (covers_reach t keyed causal) sale keys

-- a row has at each key a stamp, or none
abbrev pub Stamped : Row → Type 0
Stamped r = (k : ℕ) → (stamp_at r k ≡ 0) ⊎ (is_stamp (stamp_at r k) ≡ true)

-- so has the join of two such rows
stamped_join : (a b : Row) → Stamped a → Stamped b → Stamped (joined_rows a b)
stamped_join a b h g k = let joined = stamp_at_join a b k in let left = h k in let right = g k in grind (arith, nat_tests)

-- and the reach of a version
stamped_reach : (v : Version) → is_version v ≡ true → Stamped (reach v)
stamped_reach v is k =
    let parts = parts_of_version v is in
    let others = older_stamp (counter_of v.stamp.number) (stamp_at v.row k) (row_older_at (counter_of v.stamp.number) v.row parts.older k) in
    ⊎_elim (λ h. let at_reach = stamp_at_row (λ i. cond (eqb i v.key) v.stamp.number (stamp_at v.row i)) k h in grind (arith, nat_tests))
    (λ l. inl (stamp_past (reach v) k l)) (cases_lt k keys)

-- and the row of a post
pub post_stamped : (t : Table) → HoldsVersions t → (sale : ℕ → Bool) → Stamped (row_of_post (causes_of t sale))
post_stamped t versions sale = post_each Stamped (λ k. inl (stamp_at_zeros k)) stamped_join t (λ k v e. stamped_reach v (versions k v e)) sale keys

-- every stamp of the face has a counter below the next
pub face_before : (t : Table) (k : ℕ) → k < keys → counter_of (held_stamp (t k)) < next_counter t
face_before t k h = omega (arith, highest_bound keys (λ j. counter_of (stamp_at (face_of t) j)) k h, ap counter_of (stamp_at_face t k h))

-- a row of a post that is not older has a counter that is not below
pub late : (t : Table) (sale : ℕ → Bool) → HoldsVersions t → (counter : ℕ) → row_older counter (row_of_post (causes_of t sale)) ≡ false
    → (k : ℕ) × (counter ≤ counter_of (stamp_at (row_of_post (causes_of t sale)) k))
late t sale versions counter e =
    let at = every_fails keys (λ k. is_older counter (stamp_at (row_of_post (causes_of t sale)) k)) e in
    let stamped = post_stamped t versions sale at.0 in
    (at.0, grind (arith, nat_tests))

-- a drafted version enters
pub post_enters : (t : Table) → Keyed t → Causal t → (sale : ℕ → Bool) (terminal key : ℕ) (value : Value) → InPostRange terminal key value
    → InStampRange (next_counter t) terminal → row_older (next_counter t) (row_of_post (causes_of t sale)) ≡ true
    → FitToEnter t (post_version key value (next_counter t) terminal (causes_of t sale))
post_enters t keyed causal sale terminal key value post_range stamp_range older =
    let n = next_counter t in
    let own = counter_of_stamp n terminal stamp_range.2 in
    record {
      is_a_version =
          version_from_parts (post_version key value n terminal (causes_of t sale))
          (record {
            keyed = post_range.1;
            valued = post_range.2;
            stamped = stamp_from_parts n terminal stamp_range;
            older = ap (λ (m : ℕ). row_older m (row_of_post (causes_of t sale))) own ∙ older;
          });
      covered = post_covered t keyed causal sale;
      above = counter_decides (held_stamp (t key)) (stamp_of n terminal) (omega (arith, own, face_before t key post_range.1));
    }

-- ---- drafting has one answer

pub one_draft : OneDraft
one_draft t terminal key value sale a b d d' = grind arith
