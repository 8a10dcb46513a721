-- That the two rows of a key refute it.
use Rattle.std.proofs.Common.{◌≡◌, sym, subst, ◌^◌, ◌<◌, false, List, [], ◌∷◌, length}
use Rattle.std.proofs.lemmas.List.{length-map}
use Rattle.pk_values.specs.declared.key.KeyDecl.{KeyDecl}
use Rattle.pk_values.specs.declared.value.Value.{Value}
use Rattle.pk_syntax.specs.declared.declaration.ColumnDecl.{ColumnDecl}
use Rattle.pk_schema.specs.Shapes.{Shape, IsShape}
use Rattle.pk_rule.specs.Plain.{plain_of}
use Rattle.pk_rule.specs.Rule.{is_implied}
use Rattle.pk_rule.specs.Tables.{Refutes}
use Rattle.pk_rule.specs.TwoRows.{low_row, high_row}
use Rattle.pk_rule.proofs.RuleLemmas.{two_rows_are_table, two_rows_break}
use Rattle.pk_rule.proofs.ShapeLemmas.{plain_shape}

pub refuted :
    (s : Shape) (k : KeyDecl) (low high : List Value) → IsShape s → low ≡ low_row (plain_of s) k → high ≡ high_row (plain_of s) k
    → k.columns < 2 ^ length s.columns → is_implied (plain_of s) k ≡ false → Refutes (plain_of s) k (low ∷ high ∷ [])
refuted s k low high shape is_low is_high inside none =
    let plain = plain_shape s shape in
    let within = subst (λ n. k.columns < 2 ^ n) (sym (length-map s.columns (λ (c : ColumnDecl). c.kind))) inside in
    subst (λ a. Refutes (plain_of s) k (a ∷ high ∷ [])) (sym is_low)
    (subst (λ b. Refutes (plain_of s) k (low_row (plain_of s) k ∷ b ∷ [])) (sym is_high) (two_rows_are_table (plain_of s) k plain none, two_rows_break (plain_of s) k within))
