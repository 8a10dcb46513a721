-- What a transaction sees, by the commits since its begin.
use Rattle.std.proofs.Common.{◌≡◌, ℕ, ◌<◌, List, Option, Some, None, refl, ap, sym, ◌∙◌}
use Rattle.std.specs.Option.{option_map}
use Rattle.std.proofs.lemmas.Bool.{lt-leb}
use Rattle.pk_values.specs.declared.placed.Placed.{Placed}
use Rattle.pk_values.specs.declared.value.Value.{Value}
use Rattle.pk_exec.specs.Rows.{row_of}
use Rattle.pk_txn.specs.declared.row_key.RowKey.{RowKey}
use Rattle.pk_txn.specs.Images.{image_of, image_at}
use Rattle.pk_txn.specs.Contents.{Opened, begun_at, changed_by_all}
use Rattle.pk_txn.specs.History.{Note, Rows, before_at, change_at, image_or, after_notes, AreAfter, AreTold, IsTold, IsToldAt, as_begun}
use Rattle.pk_txn.specs.Laws.{ImagesAreFirstChanges, RowsStandAsTheyBegan}
use Rattle.pk_snapshot.specs.Begun.{rows_begun}
use Rattle.pk_snapshot.specs.Laws.{AreRowsOf}
use Rattle.pk_snapshot.proofs.RisingLemmas.{to_rising, known}
use Rattle.pk_snapshot.proofs.BegunLemmas.{begun_row, begun_rising, only}

pub sees_its_base : RowsStandAsTheyBegan → (session : List ℕ) (base table : ℕ) (notes : List Note) (old now : Rows) (found rows : List Placed)
    → AreAfter base notes → AreTold notes old now → AreRowsOf old table found → AreRowsOf now table rows
    → rows_begun (after_notes notes (begun_at session base)) table rows ≡ found
sees_its_base stand session base table notes old now found rows late told before after =
    let t = after_notes notes (begun_at session base) in
    sym (only t table 1 1 rows found after.ascend before.ascend
    (λ id.
    before.each id
    ∙ (sym (stand session base notes old now late told (record { table = table; id = id }))
    ∙ ap (as_begun (image_at t.images table id)) (sym (after.each id)))))

-- what is told of a row gives back what stood there
told_back : {I : Type 0} (stood : Option I → Option (List Value) → Option (List Value)) (make : Option (List Value) → I)
    → ((now : Option (List Value)) → stood None now ≡ now) → ((row now : Option (List Value)) → stood (Some (make row)) now ≡ row)
    → (told : Option (Option (List Value))) (old now : Option (List Value)) → IsToldAt told old now → stood (option_map make told) now ≡ old
told_back stood make none some None old now is = none now ∙ is
told_back stood make none some (Some before) old now is = some before now ∙ sym is

changed_back : (base : ℕ) (note : Note) (key : RowKey) (old now : Option (List Value)) → base < note.commit → IsToldAt (before_at note.befores key) old now
    → as_begun (change_at base note key) now ≡ old
changed_back base note key old now late told =
    rw (lt-leb note.commit base late) (told_back as_begun _ (λ now. refl) (λ row now. refl) (before_at note.befores key) old now told)

-- whatever the transaction kept of the row before
same_stood : (t : Opened) (note : Note) (key : RowKey) (old now : Option (List Value)) → t.base < note.commit → IsToldAt (before_at note.befores key) old now
    → as_begun (image_or (image_of t.images key) (change_at t.base note key)) now ≡ as_begun (image_of t.images key) old
same_stood t note key old now late told =
    elim (image_of t.images key) as (λ o. as_begun (image_or o (change_at t.base note key)) now ≡ as_begun o old) [
      | None ↦ changed_back t.base note key old now late told
      | Some image ↦ refl
    ]

pub leaves_what_is_seen : ImagesAreFirstChanges → (t : Opened) (note : Note) (old now : Rows) (table : ℕ) (found rows : List Placed)
    → t.base < note.commit → IsTold note.befores old now → AreRowsOf old table found → AreRowsOf now table rows
    → rows_begun (changed_by_all note.commit note.befores t) table rows ≡ rows_begun t table found
leaves_what_is_seen first t note old now table found rows late told before after =
    let next = changed_by_all note.commit note.befores t in
    known 0 0 (rows_begun next table rows) (rows_begun t table found)
    (begun_rising next table 1 rows (to_rising 1 rows after.ascend)) (begun_rising t table 1 found (to_rising 1 found before.ascend))
    (λ id.
    let key : RowKey = record { table = table; id = id } in
    begun_row next table rows id
    ∙ (ap (λ o. as_begun o (row_of rows id)) (first.one_more t note key)
    ∙ (ap (as_begun (image_or (image_of t.images key) (change_at t.base note key))) (after.each id)
    ∙ (same_stood t note key (old key) (now key) late (told key)
    ∙ (ap (as_begun (image_of t.images key)) (sym (before.each id))
    ∙ sym (begun_row t table found id))))))
