-- What makes a delivery, of one and of a list.
use Rattle.std.specs.Prelude.{◌≡◌, ◌<◌, ◌≤◌, true, List, [], ◌∷◌, refl}
use Rattle.std.proofs.Common.{inl, inr, sym, subst, arith}
use Rattle.std.proofs.lemmas.Bool.{and_from, and_parts}
use Rattle.std.proofs.lemmas.Bool.Decides.{nat_tests}
use Rattle.stamps.specs.Numbers.{sites}
use Rattle.versions.specs.Joins.{In}
use Rattle.versions.specs.Versions.{is_version}
use Rattle.replicas.specs.Numbers.{line_limit}
use Rattle.replicas.specs.Replicas.{are_deliveries, is_delivery}
use Rattle.replicas.specs.declared.delivery.Delivery.{Delivery}

-- what makes a delivery
pub record Fit (d : Delivery) : Type 0 where
  pub version : is_version d.version ≡ true
  pub site : d.site < sites
  pub more : 1 ≤ d.left
  pub most : d.left ≤ line_limit

pub fit_parts : (d : Delivery) → is_delivery d ≡ true → Fit d
fit_parts d e =
    record { version = grind (arith, nat_tests); site = grind (arith, nat_tests); more = grind (arith, nat_tests); most = grind (arith, nat_tests) }

fit_from : (d : Delivery) → Fit d → is_delivery d ≡ true
fit_from d f = grind (arith, nat_tests)

-- each member of deliveries is one, and a list of such is deliveries
pub fit_member : (ds : List Delivery) (d : Delivery) → are_deliveries ds ≡ true → In d ds → Fit d
fit_member [] d e i = absurd i
fit_member (x ∷ ds) d e (inl s) = subst Fit (sym s) (fit_parts x (and_parts (is_delivery x) (are_deliveries ds) e).0)
fit_member (x ∷ ds) d e (inr i) = fit_member ds d (and_parts (is_delivery x) (are_deliveries ds) e).1 i

pub fit_all : (ds : List Delivery) → ((d : Delivery) → In d ds → Fit d) → are_deliveries ds ≡ true
fit_all [] f = refl
fit_all (x ∷ ds) f = and_from (is_delivery x) (are_deliveries ds) (fit_from x (f x (inl refl))) (fit_all ds (λ d i. f d (inr i)))
