use Rattle.std.proofs.Common.{◌∙◌, Some, List, sym, ap, subst, rules, nat_lt}
use Rattle.std.proofs.lemmas.Fn.{always_returns_same}
use Rattle.pk_values.specs.declared.placed.Placed.{Placed}
use Rattle.pk_values.specs.declared.value.Value.{Value}
use Rattle.pk_schema.specs.Admits.{Admits}
use Rattle.pk_exec.proofs.ListLemmas.{parted_below, row_found, no_row_placed}
use Rattle.pk_exec.proofs.list_view.ListViewView.row.Goals as goal

pub bounds-self-place : goal.bounds-self-place
bounds-self-place c =
    let rows = c.args.self.now.rows.now in
    let parted = c.partition_point-place.ensures.partitioned (λ (p : Placed). nat_lt p.id c.args.id) (always_returns_same _ _ _ (λ a r g called. search rules))
    (parted_below rows c.args.id c.args.self.now.ascend) in
    (row_found rows c.args.id c.partition_point-place.result no_row_placed c.args.self.now.ascend c.requires c.partition_point-place.ensures.bound parted).0

pub returns-clause-row : goal.returns-clause-row
returns-clause-row c told =
    let rows = c.args.self.now.rows.now in
    let parted = c.partition_point-place.ensures.partitioned (λ (p : Placed). nat_lt p.id c.args.id) (always_returns_same _ _ _ (λ a r g called. search rules))
    (parted_below rows c.args.id c.args.self.now.ascend) in
    let w = row_found rows c.args.id c.partition_point-place.result c.index-self-place.result c.args.self.now.ascend c.requires c.partition_point-place.ensures.bound parted in
    w.1 ∙ ap (λ (row : List Value). Some row) (sym c.in_ok-copy.ensures)

pub returns-clause-admitted : goal.returns-clause-admitted
returns-clause-admitted c s all =
    let rows = c.args.self.now.rows.now in
    let parted = c.partition_point-place.ensures.partitioned (λ (p : Placed). nat_lt p.id c.args.id) (always_returns_same _ _ _ (λ a r g called. search rules))
    (parted_below rows c.args.id c.args.self.now.ascend) in
    let w = row_found rows c.args.id c.partition_point-place.result c.index-self-place.result c.args.self.now.ascend c.requires c.partition_point-place.ensures.bound parted in
    subst (Admits s) (sym c.in_ok-copy.ensures) (all c.partition_point-place.result c.index-self-place.result w.0)
