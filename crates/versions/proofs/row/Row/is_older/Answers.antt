use Rattle.std.proofs.Common.{◌≡◌, ℕ, ◌<◌, true, get_or, Decides, rules}
use Rattle.std.proofs.lemmas.Bool.Decides.{same_from_decides}
use Rattle.stamps.specs.Stamps.{is_older}
use Rattle.versions.specs.Rows.{stamp}
use Rattle.versions.proofs.Versioning.{older_places}
use Rattle.versions.proofs.row.Row.is_older.Goals as goal

pub returns : goal.returns
returns c =
    let each : Decides c.all.result ((k : ℕ) → k < 32 → is_older c.args.counter (get_or c.args.self.now.stamps k (stamp 0)).number ≡ true) = search rules in
    same_from_decides _ _ each (older_places c.args.counter c.args.self.now)
