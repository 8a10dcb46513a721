-- A small base at its edges.
use Rattle.std.proofs.Common.{◌≡◌, refl, sym, ◌∙◌, ap, ℕ, ◌+◌, ◌^◌, ◌<◌, ◌≤◌, [], ◌∷◌, arith}
use Rattle.std.specs.List.Sorted.{IsStrictlySortedBy}
use Rattle.std.specs.Int.{w64, to_be_bytes, from_be_bytes}
use Rattle.std.proofs.lemmas.List.Elements.{All-nil, All-cons}
use Rattle.pk_values.specs.declared.key.KeyDecl.{KeyDecl}
use Rattle.pk_values.specs.declared.placed.Placed.{Placed}
use Rattle.pk_values.specs.Records.{AreStorable}
use Rattle.pk_syntax.specs.Words.{is_reserved, reserved}
use Rattle.pk_schema.specs.Shapes.{IsShape}
use Rattle.pk_schema.specs.Admits.{Admits, row_fault, width_fault, size_fault, first_wrong}
use Rattle.pk_catalog.specs.Records.{IsTable, IsBaseRecord, base_record, table_record}
use Rattle.pk_catalog.specs.Bases.{IsKept, IsBase, AreNumbers, StandsFor, known_of, records}
use Rattle.pk_catalog.specs.Edges.{small_table}
use Rattle.pk_catalog.specs.BaseEdges.{table, one, two, base, BasesAtTheirEdges}
use Rattle.pk_catalog.proofs.PartReading.{wide_64}
use Rattle.pk_catalog.proofs.OneRecord.{behind_version}
use Rattle.pk_catalog.proofs.Committing.{bases_have_maps}
use Rattle.pk_catalog.proofs.NoBases.{maps_of_no_base}

small_shape : IsShape small_table.schema
unfolding is_reserved reserved
small_shape = record {
  some_column = omega arith;
  few_columns = omega arith;
  names = refl;
  distinct = refl;
  lengths = refl;
  few_keys = omega arith;
  keys_inside = All-nil (λ (k : KeyDecl). k.columns < 2 ^ 1);
  few_nullable = refl;
}

small_known : IsTable (known_of (table 1 2))
unfolding is_reserved reserved
small_known = record { named = refl; shape = small_shape; first = omega arith; few = omega arith }

small_kept : IsKept (table 1 2)
unfolding row_fault width_fault size_fault first_wrong
small_kept = record {
  known = small_known;
  ids = (omega arith, omega arith);
  admitted = All-cons (λ (p : Placed). Admits small_table.schema p.row) _ [] refl (All-nil (λ (p : Placed). Admits small_table.schema p.row));
  storable = All-cons (λ (p : Placed). AreStorable p.row) _ [] (omega arith, tt) (All-nil (λ (p : Placed). AreStorable p.row));
}

small_base : IsBase base
unfolding IsStrictlySortedBy
small_base = record {
  names = (tt, tt);
  kept = All-cons IsKept (table 1 2) [] small_kept (All-nil IsKept);
  few_tables = omega arith;
  few_rows = omega arith;
  few_commits = omega arith;
}

one_number : (number : ℕ) → 1 ≤ number → number ≤ 256 → AreNumbers (number ∷ [])
one_number number low high = record { distinct = (All-nil (λ n. number ≡ n → ⊥), tt); inside = All-cons (λ n. (1 ≤ n) × (n ≤ 256)) number [] (low, high) (All-nil (λ n. (1 ≤ n) × (n ≤ 256))) }

under : (number : ℕ) → 1 ≤ number → number ≤ 256 → StandsFor (records (2 ^ 62) (one number 1 2)) base
under number low high = bases_have_maps.numbered (one number 1 2) base small_base refl (one_number number low high)

other_commit : (commit : ℕ) → IsBaseRecord (base_record (2 ^ 62 + 1)) commit → ⊥
other_commit commit is =
    let few = is.few in
    let same : to_be_bytes w64 (2 ^ 62 + 1) ≡ to_be_bytes w64 commit = ap behind_version is.spelled in
    let one_commit = sym (wide_64.again (2 ^ 62 + 1) (omega arith)) ∙ ap (from_be_bytes w64) same ∙ wide_64.again commit (omega (arith, few)) in
    omega (arith, few, one_commit)

pub bases_at_their_edges : BasesAtTheirEdges
bases_at_their_edges = record {
  first = under 1 (omega arith) (omega arith);
  last = under 256 (omega arith) (omega arith);
  number_over = maps_of_no_base.number_257 (records (2 ^ 62) (one 257 1 2)) (table_record (known_of (table 1 2))) refl;
  id_at_next = maps_of_no_base.at_next (records (2 ^ 62) (one 1 2 2)) 1 (known_of (table 2 2)) _ (record { numbered = omega arith; table = small_known; here = refl }) refl;
  commit_over = maps_of_no_base.other_base (records (2 ^ 62 + 1) (one 1 1 2)) (base_record (2 ^ 62 + 1)) refl other_commit;
  name_twice = maps_of_no_base.name_twice (records (2 ^ 62) two) 1 2 (known_of (table 1 2)) (known_of (table 1 2))
      (record { numbered = omega arith; table = small_known; here = refl }) (record { numbered = omega arith; table = small_known; here = refl }) refl (λ same. absurd cc);
}
