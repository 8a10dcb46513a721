use Rattle.std.specs.Prelude.{◌≡◌}
use Rattle.pk_index.specs.Shown.{strong_key_of}
use Rattle.pk_index_tests.proofs.possible.told_strong.Given as goal

-- the key stays
abbrev pub invariant-loop-word : goal.invariant-loop-word
invariant-loop-word l = strong_key_of l.index ≡ l.fn.key
