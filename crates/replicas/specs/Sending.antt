-- A put, site by site upward.
use Rattle.std.specs.Prelude.{◌≡◌, ℕ, zero, suc, ◌+◌, ◌<◌, ◌≤◌, ◌≢◌, List, [], ◌∷◌, ◌++◌, length, refl}
use Rattle.std.proofs.Common.{ap, add-one, arith}
use Rattle.std.proofs.lemmas.List.{length-append}
use Rattle.std.proofs.lemmas.Bool.Decides.{nat_tests}
use Rattle.stamps.specs.Numbers.{sites}
use Rattle.versions.specs.declared.version.Version.{Version}
use Rattle.replicas.specs.Lines.{line_time}
use Rattle.replicas.specs.Numbers.{places_wanted}
use Rattle.replicas.specs.Replicas.{sent_below, sent_later}

-- the deliveries of one more site
pub sent_more : (n : ℕ) (ts : List ℕ) (site : ℕ) (v : Version) → sent_below (n + 1) ts site v ≡ sent_below n ts site v ++ sent_later (line_time ts site n) n v
unfolding sent_below
sent_more n ts site v = ap (λ (m : ℕ). sent_below m ts site v) (add-one n)

pub sent_none : (ts : List ℕ) (site : ℕ) (v : Version) → sent_below 0 ts site v ≡ []
unfolding sent_below
sent_none ts site v = refl

-- a line from a site to itself takes no tick
pub line_home : (ts : List ℕ) (site to : ℕ) → site ≡ to → line_time ts site to ≡ 0
line_home ts site to e = grind (arith, nat_tests)

-- where the line takes no tick nothing is sent later, else one delivery
pub later_none : (ticks site : ℕ) (v : Version) → ticks ≡ 0 → sent_later ticks site v ≡ []
later_none ticks site v e = grind (arith, nat_tests)

pub later_one : (ticks site : ℕ) (v : Version) → (ticks ≢ 0) → sent_later ticks site v ≡ record { version = v; site = site; left = ticks } ∷ []
later_one ticks site v ne = grind (arith, nat_tests)

later_few : (ticks site : ℕ) (v : Version) → length (sent_later ticks site v) ≤ 1
later_few ticks site v = grind (arith, nat_tests)

-- at most one delivery for each site
pub sent_few : (n : ℕ) (ts : List ℕ) (site : ℕ) (v : Version) → length (sent_below n ts site v) ≤ n
unfolding sent_below
sent_few zero ts site v = omega arith
sent_few (suc n) ts site v = omega (arith, sent_few n ts site v, length-append (sent_below n ts site v) (sent_later (line_time ts site n) n v), later_few (line_time ts site n) n v)

-- and none for the put's own
pub sent_fewer : (n : ℕ) (ts : List ℕ) (site : ℕ) (v : Version) → site < n → length (sent_below n ts site v) < n
unfolding sent_below
sent_fewer zero ts site v h = absurd (omega (arith, h))
sent_fewer (suc n) ts site v h =
    let own : site ≡ n → length (sent_later (line_time ts site n) n v) ≡ 0 = λ e. ap length (later_none (line_time ts site n) n v (line_home ts site n e)) in
    grind (
      arith,
      sent_few n ts site v,
      sent_fewer n ts site v,
      length-append (sent_below n ts site v) (sent_later (line_time ts site n) n v),
      later_few (line_time ts site n) n v,
    )

-- so three in all
pub sent_three : (ts : List ℕ) (site : ℕ) (v : Version) → site < sites → length (sent_below sites ts site v) ≤ places_wanted
sent_three ts site v h = omega (arith, sent_fewer sites ts site v h)
