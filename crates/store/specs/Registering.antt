-- What always stands in the registers of the code.
use Rattle.std.specs.Prelude.{◌≡◌, ℕ, true, Some, None, Option, refl}
use Rattle.std.proofs.Common.{eqb}
use Rattle.std.proofs.lemmas.Bool.{and_from, eq-eqb}
use Rattle.versions.specs.Versions.{is_version}
use Rattle.versions.specs.declared.version.Version.{Version}
use Rattle.std.specs.List.{slice_get}
use Rattle.store.specs.Holding.{registered, registered_if, registered_at}
use Rattle.store.specs.Registers.{is_placed}
use Rattle.store.specs.declared.registers.Registers.{Registers}
use Rattle.store.specs.declared.site_registers.SiteRegisters.{SiteRegisters}

-- at each key a version of that key, or none
pub registers_placed : (r : Registers) (k : ℕ) → is_placed k (registered r k) ≡ true
registers_placed r k = placed_here (registered r k) (r.held.versions k) (r.held.keyed k)
  where
    placed_here : (o : Option Version) → ((v : Version) → o ≡ Some v → is_version v ≡ true) → ((v : Version) → o ≡ Some v → v.key ≡ k) → is_placed k o ≡ true
    placed_here None valid keyed = refl
    placed_here (Some v) valid keyed = and_from (is_version v) (eqb v.key k) (valid v refl) (eq-eqb v.key k (keyed v refl))

-- at each site and key a version of that key, or none
pub site_registers_placed : (r : SiteRegisters) (s k : ℕ) → is_placed k (registered_at r s k) ≡ true
site_registers_placed r s k = placed_if (slice_get r.sites s)
  where
    placed_if : (o : Option Registers) → is_placed k (registered_if o k) ≡ true
    placed_if None = refl
    placed_if (Some q) = registers_placed q k
