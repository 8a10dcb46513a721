use Rattle.std.specs.Prelude.{◌≡◌}
use Rattle.pk_index.specs.Shown.{key_of, nullable_of}
use Rattle.pk_index_tests.proofs.certain.told.Given as goal

-- the key stays
abbrev pub invariant-loop-word : goal.invariant-loop-word
invariant-loop-word l = (key_of l.index ≡ l.fn.key) × (nullable_of l.index ≡ l.fn.nullable)
