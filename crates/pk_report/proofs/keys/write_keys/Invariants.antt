use Rattle.std.proofs.Common.{◌≡◌, ◌++◌, take}
use Rattle.std.specs.List.{flat_map}
use Rattle.pk_report.specs.Text.{line, key_text}
use Rattle.pk_report.proofs.keys.write_keys.Given as goal

-- what was there, and the keys so far
abbrev pub invariant-loop-key : goal.invariant-loop-key
invariant-loop-key l = l.out.items ≡ l.fn.out.items ++ flat_map (λ key. line (key_text l.names key)) (take l.key-index l.keys)
