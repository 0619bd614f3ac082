-- Replicas: a register for each site and key, and deliveries on their way between sites.
use Rattle.std.specs.Prelude.{◌≡◌, ℕ, zero, suc, ◌-◌, ◌<◌, ◌≤◌, max, Bool, true, cond, not, ◌&&◌, List, [], ◌∷◌, ◌++◌, map, length, Some, None, filter, Option, ◌==◌, nat_le, nat_lt}
use Rattle.stamps.specs.Numbers.{sites}
use Rattle.stamps.specs.declared.refusal.Bar.{Bar}
use Rattle.stamps.specs.declared.refusal.Refusal.TheVariants.{DeliveriesFull}
use Rattle.versions.specs.Versions.{is_version}
use Rattle.versions.specs.declared.version.Version.{Version}
use Rattle.causal.specs.Tables.{held_stamp}
use Rattle.store.specs.Kinds.{Kind}
use Rattle.store.specs.Meanings.{Meaning, InPutRange}
use Rattle.store.specs.Puts.{PutLeaves}
use Rattle.store.specs.Registers.{is_placed, came_to, came_at, Sites, all_held_at, highest_of_key}
use Rattle.replicas.specs.Lines.{line_time, TimesFit}
use Rattle.replicas.specs.Numbers.{line_limit, delivery_limit, places_wanted}
use Rattle.replicas.specs.declared.delivery.Delivery.{Delivery}

-- replicas at a moment
pub record ReplicasState : Type 0 where
  -- the register of each site and key
  pub registers : Sites
  -- the pending deliveries, in list order
  pub deliveries : List Delivery
  -- the line times of the six pairs of sites
  pub times : List ℕ

-- new replicas: nothing in the registers and nothing on its way
abbrev pub replicas_start : List ℕ → ReplicasState
replicas_start ts = record { registers = λ site key. None; deliveries = []; times = ts }

-- of the sites below n, a put goes at once into the register of every one whose line time from its own is 0
abbrev pub put_below : ℕ → List ℕ → ℕ → Version → Sites → Sites
put_below n ts site v t s = cond (nat_lt s n && line_time ts site s == 0) (came_to (t s) v) (t s)

-- a put goes at once into the register of its own site, and of every other site whose line time from there is 0
abbrev pub put_now : List ℕ → ℕ → Version → Sites → Sites
put_now ts site v t = put_below sites ts site v t

-- a version sent to a site goes at once into its register there if the line takes 0 ticks
abbrev pub sent_now : ℕ → ℕ → Version → Sites → Sites
sent_now ticks site v t = cond (ticks == 0) (came_at t site v) t

-- else by a delivery that takes that long
abbrev pub sent_later : ℕ → ℕ → Version → List Delivery
sent_later ticks site v = cond (ticks == 0) [] (record { version = v; site = site; left = ticks } ∷ [])

-- for each site below n, upward, whose line time from the put's own is not 0, a delivery that takes that long
unfoldable pub sent_below : ℕ → List ℕ → ℕ → Version → List Delivery
sent_below zero ts site v = []
sent_below (suc n) ts site v = sent_below n ts site v ++ sent_later (line_time ts site n) n v

-- what an accepted put leaves: the registers that it reaches now, and its deliveries added at the end
abbrev pub after_put : ReplicasState → ℕ → Version → ReplicasState
after_put s site v =
    record {
      registers = put_now s.times site v s.registers;
      deliveries = s.deliveries ++ sent_below sites s.times site v;
      times = s.times;
    }

-- a delivery with one tick less to go
abbrev pub lowered : Delivery → Delivery
lowered d = record { version = d.version; site = d.site; left = d.left - 1 }

-- a delivery has come when no tick is left
abbrev pub has_come : Delivery → Bool
has_come d = d.left == 0

-- registers after deliveries, in list order
abbrev pub delivered : Sites → List Delivery → Sites
delivered t [] = t
delivered t (d ∷ ds) = delivered (came_at t d.site d.version) ds

-- what a tick leaves: each delivery has one tick less; those at 0 are delivered in list order and removed
abbrev pub after_tick : ReplicasState → ReplicasState
after_tick s =
    record {
      registers = delivered s.registers (filter has_come (map lowered s.deliveries));
      deliveries = filter (λ d. not (has_come d)) (map lowered s.deliveries);
      times = s.times;
    }

-- the most ticks left, or 0
abbrev pub most_left : List Delivery → ℕ
most_left [] = 0
most_left (d ∷ ds) = max d.left (most_left ds)

-- the bar is 32 when fewer than 3 places are free
abbrev pub deliveries_bar : List Delivery → Option Bar
deliveries_bar ds = cond (nat_lt (delivery_limit - length ds) places_wanted) (Some (record { refusal = DeliveriesFull; depth = 0 })) None

-- the versions of deliveries
abbrev pub versions_of : List Delivery → List Version
versions_of ds = map (λ (d : Delivery). d.version) ds

-- kept is registers and deliveries
abbrev pub replicas_kept : ReplicasState → List Version
replicas_kept s = all_held_at s.registers ++ versions_of s.deliveries

-- shown is the register, kept is registers and deliveries, peak their highest stamp, wait the most ticks left
abbrev pub replicas_mean : ReplicasState → Meaning
replicas_mean s =
    record {
      kept = replicas_kept s;
      shown = s.registers;
      peak = λ key. highest_of_key key (replicas_kept s);
      wait = most_left s.deliveries;
      bar = deliveries_bar s.deliveries;
    }

-- a delivery is of a version, to a site, with 1 to 16 ticks left
abbrev pub is_delivery : Delivery → Bool
is_delivery d = is_version d.version && (nat_lt d.site sites && (nat_le 1 d.left && nat_le d.left line_limit))

-- every delivery of a list is one
abbrev pub are_deliveries : List Delivery → Bool
are_deliveries [] = true
are_deliveries (d ∷ ds) = is_delivery d && are_deliveries ds

-- whatever its ticks, it can be delivered: it is of a version, to a site
abbrev pub Addressed : Delivery → Type 0
Addressed d = InPutRange d.site d.version

-- the highest stamp of a key on its way to a site, 0 where there is none
abbrev pub on_the_way : ℕ → ℕ → List Delivery → ℕ
on_the_way site key [] = 0
on_the_way site key (d ∷ ds) = max (cond (d.site == site && d.version.key == key) d.version.stamp.number 0) (on_the_way site key ds)

-- the stamp that a site's register will have once all that is on its way there has come
abbrev pub forecast : Sites → List Delivery → ℕ → ℕ → ℕ
forecast t ds site key = max (held_stamp (t site key)) (on_the_way site key ds)

-- what holds of replicas at any time
pub record ReplicasGood (s : ReplicasState) : Type 0 where
  -- each register holds a version of its key, or none
  pub placed : (site key : ℕ) → is_placed key (s.registers site key) ≡ true
  -- each delivery is of a version, to a site, with 1 to 16 ticks left
  pub deliveries_fit : are_deliveries s.deliveries ≡ true
  -- there are at most 96
  pub few : length s.deliveries ≤ delivery_limit
  -- line times are 0 to 16
  pub times_fit : TimesFit s.times
  -- all four sites will have the same stamp of a key once all has come
  pub forecasts_agree : (site key : ℕ) → site < sites → forecast s.registers s.deliveries site key ≡ forecast s.registers s.deliveries 0 key

-- the make of replicas
abbrev pub replicas_kind : Kind
replicas_kind =
    record {
      State = ReplicasState;
      good = ReplicasGood;
      means = replicas_mean;
      stored = λ s site v answer t. PutLeaves (deliveries_bar s.deliveries) s (after_put s site v) site v answer t;
      ticked = λ s t. t ≡ after_tick s;
    }
