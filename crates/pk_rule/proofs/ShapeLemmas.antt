-- What the shape of a schema has: it is plain, and its names are distinct.
use Rattle.std.proofs.Common.{◌≡◌, refl, sym, ◌∙◌, subst, ℕ, true, [], ◌^◌, ◌<◌, ◌≤◌, length}
use Rattle.std.specs.List.{All}
use Rattle.std.proofs.lemmas.Bool.{eqb-true, eq-eqb}
use Rattle.std.proofs.lemmas.List.{length-map}
use Rattle.std.specs.Str.{bytes_eq}
use Rattle.pk_values.specs.declared.key.KeyDecl.{KeyDecl}
use Rattle.pk_syntax.specs.declared.declaration.ColumnDecl.{ColumnDecl}
use Rattle.pk_schema.specs.Shapes.{Shape, IsShape, kinds_of, not_null_of, name_at}
use Rattle.pk_schema.proofs.NamedLemmas.{places_told}
use Rattle.pk_schema.proofs.SetLemmas.{set_small}
use Rattle.pk_rule.specs.Plain.{IsPlain, plain_of}

pub plain_shape : (s : Shape) → IsShape s → IsPlain (plain_of s)
plain_shape s shape =
    let same : length s.columns ≡ length (kinds_of s.columns) = sym (length-map s.columns (λ (c : ColumnDecl). c.kind)) in
    record {
      few_columns = subst (λ n. n ≤ 32) same shape.few_columns;
      known_inside = subst (λ n. not_null_of s.columns < 2 ^ n) same (set_small (λ (c : ColumnDecl). c.not_null) s.columns);
      keys_inside = subst (λ n. All (λ (k : KeyDecl). k.columns < 2 ^ n) s.keys) same shape.keys_inside;
    }

pub distinct_names : (s : Shape) (j k : ℕ) → IsShape s → j < length s.columns → k < length s.columns → name_at s.columns j ≡ name_at s.columns k → j ≡ k
distinct_names s j k shape left right same =
    let told = places_told [] s.columns j k shape.distinct left right in
    let itself = places_told [] s.columns j j shape.distinct left left in
    eqb-true j k (sym told ∙ subst (λ n. bytes_eq (name_at s.columns j) n ≡ true) same (itself ∙ eq-eqb j j refl))
