use Rattle.std.proofs.Common.{◌≡◌, map}
use Rattle.std.specs.Prelude.{drop}
use Rattle.pk_syntax.specs.declared.declaration.KeyText.{KeyText}
use Rattle.pk_syntax.specs.Declarations.{twice, first_of}
use Rattle.pk_schema.proofs.making.twice_in_key.Given as goal

-- the keys that are left decide
abbrev pub invariant-loop-key : goal.invariant-loop-key
invariant-loop-key l = first_of (map (λ (k : KeyText). twice k.columns) (drop l.key-index l.keys)) ≡ first_of (map (λ (k : KeyText). twice k.columns) l.keys)
