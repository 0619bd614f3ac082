use Rattle.std.proofs.Common.{◌≡◌, ℕ, ◌<◌, Ok, arith}
use Rattle.std.proofs.lemmas.Result.{on_ok_weaker}
use Rattle.stamps.specs.Numbers.{keys}
use Rattle.versions.specs.declared.version.Version.{Version}
use Rattle.versions.proofs.Versioning.{parts_of_version}
use Rattle.store.specs.Meanings.{Meaning, Lawful}
use Rattle.store.specs.Puts.{PutMeans, refused_unfit, refused_barred, put_accepted}
use Rattle.carrying.specs.Carried.{ShownEverywhere}
use Rattle.carrying.proofs.carrying.carry.Goals as goal

-- what was accepted is shown everywhere once the peaks are
shown_once_settled : (m n o : Meaning) (site : ℕ) (v : Version) → PutMeans m site v (Ok tt) n → ((key : ℕ) → key < keys → o.peak key ≡ n.peak key)
    → Lawful o → o.wait ≡ 0 → ShownEverywhere o v
shown_once_settled m n o site v (refused_unfit out answers left) hold law quiet other inside = cc
shown_once_settled m n o site v (refused_barred within b is answers left) hold law quiet other inside = cc
shown_once_settled m n o site v (put_accepted within unbarred answers took) hold law quiet other inside =
    let keyed = (parts_of_version v within.1).keyed in
    omega (arith, took.own_peak, hold v.key keyed, law.settled_shows_peaks quiet other v.key (inside, keyed))

pub returns-clause-carried : goal.returns-clause-carried
returns-clause-carried g c =
    let S = g.met.S.Store in
    let state = g.S.Store.state in
    let was = c.loop-other.store in
    let settled = c.settle.new.store in
    let put = S.sound.put_means (state was) c.args.site c.args.version.now (Ok tt) (state c.put-2.new.self) (S.good was) c.in_ok-put-2.ensures in
    let hold = rw c.tell_sites.ensures at c.settle.ensures.peaks_hold in
    on_ok_weaker c.settle.result
    (λ quiet. shown_once_settled _ _ _ c.args.site c.args.version.now put hold (S.sound.lawful (state settled) (S.good settled)) quiet)
    c.settle.ensures.settled
