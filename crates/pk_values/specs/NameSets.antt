use Rattle.std.specs.Prelude.{ℕ, Bool, List}
use Rattle.std.specs.Borrow.{Bor}
use Rattle.std.specs.Ordering.{nat_cmp, is_eq}
use Rattle.std.specs.Cmp.Lexicographic.{slice_cmp}
use Rattle.std.specs.List.{list_any}
use Rattle.std.specs.BTreeSet.{BTreeSet}

-- A set of names, kept as std keeps sets. No public clause of a served call cites this.

-- whether the set has the name
abbrev pub has_name : BTreeSet (Bor (List ℕ)) → List ℕ → Bool
has_name names name = list_any (λ k. is_eq (slice_cmp nat_cmp name k.now)) names.keys
