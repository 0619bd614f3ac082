-- What the poll layer of the code is at a moment, over a store whose states are given.
use Rattle.std.specs.Prelude.{◌≡◌, ℕ}
use Rattle.causal.specs.Tables.{held_stamp}
use Rattle.store.specs.Holding.{registered_at}
use Rattle.store.specs.Kinds.{Kind}
use Rattle.store.specs.Meanings.{InAskRange}
use Rattle.store.specs.Registers.{Sites}
use Rattle.poll.specs.Poll.{PollState}
use Rattle.poll.specs.declared.poll.Poll.{Poll}

-- what the snapshot of a layer holds
abbrev pub snapshot_of : {S : Type 0} → Poll S → Sites
snapshot_of p = registered_at p.snapshot.held

-- what the store below a layer shows
abbrev pub shown_below : {S : Type 0} (K : Kind) → (S → K.State) → Poll S → Sites
shown_below K state p = (K.means (state p.below)).shown

-- the stamps of the one equal those of the other at every site and key in range
abbrev pub SameStamps : Sites → Sites → Type 0
SameStamps a b = (site key : ℕ) → InAskRange site key → held_stamp (a site key) ≡ held_stamp (b site key)

-- the state of a layer
abbrev pub layer_of : {S : Type 0} (K : Kind) → (S → K.State) → Poll S → PollState K
layer_of K state p =
    record { below = state p.below; snapshot = snapshot_of p; period = p.snapshot.period; countdown = p.snapshot.countdown }

-- of a layer's state nothing but the snapshot is altered
pub record OnlySnapshot {S : Type 0} (K : Kind) (state : S → K.State) (before after : Poll S) : Type 0 where
  pub same_below : state after.below ≡ state before.below
  pub same_period : after.snapshot.period ≡ before.snapshot.period
  pub same_countdown : after.snapshot.countdown ≡ before.snapshot.countdown

-- no part of a layer is altered but what the store below keeps beside its state
pub record AsItWas {S : Type 0} (K : Kind) (state : S → K.State) (before after : Poll S) : Type 0 where
  pub same_below : state after.below ≡ state before.below
  pub same_snapshot : after.snapshot ≡ before.snapshot
