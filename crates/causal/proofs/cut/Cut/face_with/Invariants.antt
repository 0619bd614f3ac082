use Rattle.std.proofs.Common.{◌≡◌, ℕ, ◌<◌, cond, length, get_or}
use Rattle.stamps.specs.KeySets.{has}
use Rattle.stamps.specs.Numbers.{keys}
use Rattle.versions.specs.Rows.{stamp}
use Rattle.causal.specs.Choosing.{put_in}
use Rattle.causal.specs.Holding.{holding, answered}
use Rattle.causal.specs.Tables.{held_stamp}
use Rattle.causal.proofs.cut.Cut.face_with.Given as goal

-- with the stamps of the answers that are left put in too, the face becomes the one that is wanted
abbrev pub invariant-loop-key : goal.invariant-loop-key
invariant-loop-key l = record {
  sized : length l.face.stamps ≡ keys;
  stamped : (k : ℕ) → k < keys
      → cond (has l.key-iterator.left k) (held_stamp (answered l.answers k)) ((get_or l.face.stamps k (stamp 0)).number)
      ≡ held_stamp (put_in (holding l.self) (answered l.answers) (has l.fn.chosen) k);
}
