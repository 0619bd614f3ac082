-- Stamps compared, and what is copied.
use Rattle.std.specs.Prelude.{◌≡◌, ℕ, ◌&&◌, None, Option, nat_lt, Decides}
use Rattle.std.proofs.Common.{sym, ap, ◌∙◌, arith}
use Rattle.std.proofs.lemmas.Bool.{cond_both, ltb-true, and_parts}
use Rattle.std.proofs.lemmas.Bool.Decides.{same_from_decides, Decides-eqb, Decides-like, nat_tests}
use Rattle.stamps.specs.Numbers.{keys, sites}
use Rattle.stamps.proofs.Counting.{every_at, every_from}
use Rattle.versions.specs.declared.version.Version.{Version}
use Rattle.causal.specs.Tables.{held_stamp}
use Rattle.store.specs.Meanings.{InAskRange}
use Rattle.store.specs.Registers.{Sites}
use Rattle.poll.specs.Holding.{SameStamps}
use Rattle.poll.specs.Poll.{copy_of, same_stamp, same_stamps_at, same_stamps}

-- the test tells whether all stamps in range are the same
pub same_decides : (a b : Sites) → Decides (same_stamps a b) (SameStamps a b)
same_decides a b = (
  λ e site key h. (Decides-eqb (held_stamp (a site key)) (held_stamp (b site key))).0
      (every_at keys (same_stamp a b site) (every_at sites (same_stamps_at a b) e site h.0) key h.1),
  λ same. every_from sites (same_stamps_at a b)
      (λ site l. every_from keys (same_stamp a b site) (λ key m. (Decides-eqb (held_stamp (a site key)) (held_stamp (b site key))).1 (same site key (l, m)))),
)

-- only what stands in range is compared
pub same_alike : (a b b' : Sites) → ((site key : ℕ) → InAskRange site key → b' site key ≡ b site key) → same_stamps a b' ≡ same_stamps a b
same_alike a b b' h =
    same_from_decides (same_stamps a b') (same_stamps a b) (same_decides a b')
    (Decides-like (same_stamps a b) (λ same s k i. same s k i ∙ sym (ap held_stamp (h s k i))) (λ same s k i. same s k i ∙ ap held_stamp (h s k i)) (same_decides a b))

-- a copy is of what is shown in range
pub copy_at : (shown : Sites) (site key : ℕ) → InAskRange site key → copy_of shown site key ≡ shown site key
copy_at shown site key h = grind (arith, nat_tests)

-- and whatever holds of none and of what is shown in range holds of a copy
pub copy_each : (P : Option Version → Type 0) (shown : Sites) (site key : ℕ) → P None → (InAskRange site key → P (shown site key)) → P (copy_of shown site key)
copy_each P shown site key none each =
    cond_both (nat_lt site sites && nat_lt key keys) (shown site key) None P
    (λ e. let r = and_parts (nat_lt site sites) (nat_lt key keys) e in each (ltb-true site sites r.0, ltb-true key keys r.1)) (λ _. none)
