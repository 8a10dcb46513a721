use Rattle.std.proofs.Common.{sym, ◌∙◌, arith, length, subst, IsTrue}
use Rattle.pk_values.specs.ColumnSet.{columns}
use Rattle.pk_similar.specs.Similarity.{are_below}
use Rattle.pk_schema.specs.Shapes.{kinds_of}
use Rattle.pk_guard.specs.Changed.{standing}
use Rattle.pk_guard.proofs.JudgeLemmas.{key_got, break_start, broken_found, broken_next, broken_last}
use Rattle.pk_guard.proofs.KeyLemmas.{key_below, wide_admitted, key_unbroken}
use Rattle.pk_guard.proofs.judging.first_break.Goals as goal

pub loop-key-init : goal.loop-key-init
loop-key-init c = (
  break_start c.args.schema.now c.columns-columns.result.now c.keys-key-items.result.now (standing c.args.gone.now c.args.put.now c.args.rows.now)
      c.columns-columns.ensures.columns c.keys-key-items.ensures.keys,
  omega arith,
)

pub key_break-requires-clause-columns_wide : goal.key_break-requires-clause-columns_wide
key_break-requires-clause-columns_wide c =
    let s = c.args.schema.now in
    let key = c.key-item.result in
    let got = key_got s c.keys-key-items.result.now c.loop-key.key-index key c.keys-key-items.ensures.keys c.loop-key-test.true c.key-item.is in
    subst (λ cols. IsTrue (are_below (length cols) (columns key.columns))) (sym c.columns-columns.ensures.columns)
    (key_below s c.loop-key.key-index key c.columns-columns.ensures.shape got)

pub key_break-requires-clause-rows_wide : goal.key_break-requires-clause-rows_wide
key_break-requires-clause-rows_wide c =
    let s = c.args.schema.now in
    let key = c.key-item.result in
    let got = key_got s c.keys-key-items.result.now c.loop-key.key-index key c.keys-key-items.ensures.keys c.loop-key-test.true c.key-item.is in
    wide_admitted s key c.args.rows.now (key_below s c.loop-key.key-index key c.columns-columns.ensures.shape got) c.requires.rows_admitted

pub key_break-requires-clause-put_wide : goal.key_break-requires-clause-put_wide
key_break-requires-clause-put_wide c =
    let s = c.args.schema.now in
    let key = c.key-item.result in
    let got = key_got s c.keys-key-items.result.now c.loop-key.key-index key c.keys-key-items.ensures.keys c.loop-key-test.true c.key-item.is in
    wide_admitted s key c.args.put.now (key_below s c.loop-key.key-index key c.columns-columns.ensures.shape got) c.requires.put_admitted

pub key_break-requires-clause-unbroken : goal.key_break-requires-clause-unbroken
key_break-requires-clause-unbroken c =
    let s = c.args.schema.now in
    let key = c.key-item.result in
    let got = key_got s c.keys-key-items.result.now c.loop-key.key-index key c.keys-key-items.ensures.keys c.loop-key-test.true c.key-item.is in
    key_unbroken s c.args.rows.now c.loop-key.key-index key c.requires.rows_admitted c.requires.hold got

pub returns-in-Some : goal.returns-in-Some
returns-in-Some c =
    broken_found (kinds_of c.columns-columns.result.now) c.loop-key.place c.keys-key-items.result.now c.loop-key.key-index c.key-item.result
    (standing c.args.gone.now c.args.put.now c.args.rows.now) c.in-Some.broken _ c.loop-key-test.true c.key-item.is (sym c.in-Some.is ∙ c.in_ok-broken.ensures)
    c.loop-key.invariant.0

pub loop-key-preserved : goal.loop-key-preserved
loop-key-preserved c = (
  broken_next (kinds_of c.columns-columns.result.now) c.loop-key.place c.keys-key-items.result.now c.loop-key.key-index c.key-item.result
      (standing c.args.gone.now c.args.put.now c.args.rows.now) _ c.loop-key-test.true c.key-item.is (sym c.in_default.is ∙ c.in_ok-broken.ensures)
      c.loop-key.invariant.0,
  omega (arith, c.loop-key.invariant.1),
)

pub returns : goal.returns
returns c =
    broken_last (kinds_of c.columns-columns.result.now) c.loop-key.place c.keys-key-items.result.now c.loop-key.key-index
    (standing c.args.gone.now c.args.put.now c.args.rows.now) _ (omega (arith, c.loop-key-test.false)) c.loop-key.invariant.0
