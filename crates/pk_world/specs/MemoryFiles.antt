use Rattle.std.specs.Prelude.{ℕ, vec_capacity}
use Rattle.pk_world.specs.declared.station.Which.{Which}
use Rattle.pk_world.specs.declared.station.Which.TheVariants.{Log, Pages}
use Rattle.pk_world.specs.declared.memory_files.MemoryFiles.{MemoryFiles}
use Rattle.pk_world.specs.Files.{Files}

-- what the two files hold
abbrev pub held : MemoryFiles → Files
held files = record { log = files.log.items; pages = files.pages.items }

-- how many bytes a file may have before it needs more memory
abbrev pub room_of : MemoryFiles → Which → ℕ
room_of files Log = vec_capacity files.log
room_of files Pages = vec_capacity files.pages
