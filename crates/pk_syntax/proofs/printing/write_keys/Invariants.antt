use Rattle.std.proofs.Common.{◌≡◌, ◌++◌, take, codes}
use Rattle.std.specs.List.{flat_map}
use Rattle.pk_syntax.specs.Printing.{key_text}
use Rattle.pk_syntax.proofs.printing.write_keys.Given as goal

-- what was there, and the keys so far
abbrev pub invariant-loop-key : goal.invariant-loop-key
invariant-loop-key l = l.out.items ≡ l.fn.out.items ++ flat_map (λ k. codes ", " ++ key_text l.columns k) (take l.key-index l.keys)
