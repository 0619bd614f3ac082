-- What the registers of the code hold.
use Rattle.std.specs.Prelude.{Some, None, Option}
use Rattle.std.specs.List.{slice_get}
use Rattle.causal.specs.Held.{held_in}
use Rattle.causal.specs.Tables.{Table}
use Rattle.store.specs.Registers.{Sites}
use Rattle.store.specs.declared.registers.Registers.{Registers}
use Rattle.store.specs.declared.site_registers.SiteRegisters.{SiteRegisters}

-- what the registers hold at each key
abbrev pub registered : Registers → Table
registered r = held_in r.held

-- what the registers of a site hold at each key, if there is such a site
abbrev pub registered_if : Option Registers → Table
registered_if None k = None
registered_if (Some r) k = registered r k

-- what the registers hold at each site and key
abbrev pub registered_at : SiteRegisters → Sites
registered_at r site = registered_if (slice_get r.sites site)
