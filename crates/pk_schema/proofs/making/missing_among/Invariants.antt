use Rattle.std.proofs.Common.{◌≡◌, not}
use Rattle.std.specs.Prelude.{drop}
use Rattle.std.specs.List.{find, flat_map}
use Rattle.pk_syntax.specs.declared.declaration.KeyText.{KeyText}
use Rattle.pk_values.specs.NameSets.{has_name}
use Rattle.pk_schema.proofs.making.missing_among.Given as goal

-- the keys that are left decide
abbrev pub invariant-loop-key : goal.invariant-loop-key
invariant-loop-key l =
    find (λ name. not (has_name l.names name)) (flat_map (λ (k : KeyText). k.columns) (drop l.key-index l.keys))
    ≡ find (λ name. not (has_name l.names name)) (flat_map (λ (k : KeyText). k.columns) l.keys)
