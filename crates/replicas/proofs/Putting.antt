-- A put reaches one site more.
use Rattle.std.proofs.Common.{◌≡◌, ℕ, ◌+◌, ◌<◌, ◌≤◌, ◌≢◌, ◌&&◌, cond, eqb, ltb, List, ◌++◌, length, ap, arith, length-append}
use Rattle.std.proofs.lemmas.Bool.Decides.{nat_tests}
use Rattle.stamps.specs.Numbers.{sites}
use Rattle.versions.specs.declared.version.Version.{Version}
use Rattle.store.specs.Registers.{Sites, came_to}
use Rattle.replicas.specs.Forecasting.{cond_at}
use Rattle.replicas.specs.Lines.{line_time}
use Rattle.replicas.specs.Numbers.{delivery_limit, places_wanted}
use Rattle.replicas.specs.Replicas.{put_below, sent_below, sent_now}
use Rattle.replicas.specs.Sending.{line_home, sent_few, sent_fewer}
use Rattle.replicas.specs.declared.delivery.Delivery.{Delivery}

-- there is a place for the delivery to a site that is not the put's own
pub sent_fits : (n to ticks : ℕ) (ts : List ℕ) (site : ℕ) (v : Version) (xs ys : List Delivery)
    → to ≡ n → ticks ≡ line_time ts site to → ys ≡ xs ++ sent_below n ts site v → n < sites → site < sites
    → length xs + places_wanted ≤ delivery_limit → 0 < ticks → length ys < delivery_limit
sent_fits n to ticks ts site v xs ys to_is ticks_is later below from room far =
    let other : site ≢ to = λ e. omega (arith, line_home ts site to e) in
    grind (arith, sent_few n ts site v, sent_fewer n ts site v, ap length later, length-append xs (sent_below n ts site v))

-- registers that a put has brought to the sites below n, and then to site n
pub put_more : (n to next ticks : ℕ) (ts : List ℕ) (site : ℕ) (v : Version) (t u : Sites)
    → to ≡ n → next ≡ n + 1 → ticks ≡ line_time ts site to → ((s k : ℕ) → u s k ≡ put_below n ts site v t s k)
    → (s k : ℕ) → sent_now ticks to v u s k ≡ put_below next ts site v t s k
put_more n to next ticks ts site v t u to_is next_is ticks_is so_far s k = step (line_time ts site) ticks_is (so_far s k)
  where
    step : (line : ℕ → ℕ) → ticks ≡ line to → u s k ≡ cond (ltb s n && eqb (line s) 0) (came_to (t s) v) (t s) k
        → sent_now ticks to v u s k ≡ cond (ltb s next && eqb (line s) 0) (came_to (t s) v) (t s) k
    step line i e = let old = simp cond_at at e in simp cond_at (grind (arith, nat_tests))
