-- What a table of versions holds.
use Rattle.causal.specs.Tables.{Table, table_of}
use Rattle.causal.specs.declared.table.VersionTable.{VersionTable}

-- what a table of versions holds at each key
abbrev pub held_in : VersionTable → Table
held_in t = table_of t.places
