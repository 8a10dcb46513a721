use Rattle.std.proofs.Common.{◌≡◌, ◌++◌, ◌∷◌, length}
use Rattle.std.specs.Prelude.{take}
use Rattle.std.specs.List.{flat_map}
use Rattle.pk_catalog.specs.Records.{key_record}
use Rattle.pk_catalog.proofs.keys.put_keys.Given as goal

-- the keys so far are written behind their number
abbrev pub invariant-loop-key : goal.invariant-loop-key
invariant-loop-key l = l.out.items ≡ l.fn.out.items ++ (length l.keys ∷ flat_map key_record (take l.key-index l.keys))
