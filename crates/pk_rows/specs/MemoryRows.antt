use Rattle.std.specs.FinMap.{from_entries}
use Rattle.pk_rows.specs.declared.memory_rows.MemoryRows.{MemoryRows}
use Rattle.pk_rows.specs.Maps.{Map}

-- the map that it keeps
abbrev pub map_of : MemoryRows → Map
map_of r = from_entries r.rows.entries
