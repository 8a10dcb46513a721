use Rattle.std.proofs.Common.{◌≡◌, ap, ◌∙◌, ℕ, true, cond, List, Some}
use Rattle.std.specs.Option.{is_some}
use Rattle.std.specs.FinMap as rows
use Rattle.std.specs.Ordering.{nat_cmp}
use Rattle.std.proofs.lemmas.Cmp.{nat_cmp_total, eq_by_cmp_equiv}
use Rattle.pk_values.specs.declared.value.Value.{Value}
use Rattle.pk_index.specs.Rows.{Rows}
use Rattle.pk_index_tests.proofs.certain.kept.Goals as goal

is_held : (held : Rows) (id : ℕ) (vs : List Value) → is_some (rows.get (rows.insert held id vs) id) ≡ true
is_held held id vs = ap is_some (rows.get-insert nat_cmp_total held id vs id ∙ ap (λ t. cond t (Some vs) (rows.get held id)) ((eq_by_cmp_equiv nat_cmp_total).refl id))

pub values-requires : goal.values-requires
values-requires c =
    let none : Rows = rows.empty in
    (_, c.in_ok-put.ensures.shows none c.new-index.ensures.shows (rows.get-empty nat_cmp c.args.id), is_held none c.args.id _)
