-- What a strong index shows.
use Rattle.std.proofs.Common.{◌≡◌, refl, sym, ◌∙◌, ap, subst, ℕ, Bool, true, false, cond, List, Option, Some, None, length}
use Rattle.std.specs.FinMap as rows
use Rattle.std.specs.Ordering.{nat_cmp}
use Rattle.std.specs.Str.{bytes_eq}
use Rattle.std.proofs.lemmas.List.{length-map}
use Rattle.std.proofs.lemmas.Option.{none-some}
use Rattle.pk_values.specs.declared.value.Value.{Value}
use Rattle.pk_values.specs.ColumnSet.{columns}
use Rattle.pk_values.specs.Records.{AreStorable}
use Rattle.pk_values.specs.Values.{value_at}
use Rattle.pk_index.specs.declared.family.Family.{Family}
use Rattle.pk_index.specs.declared.strong_index.StrongIndex.{StrongIndex}
use Rattle.pk_index.specs.Rows.{Marks, values_on, are_known, mark_of, passes, same_mark, is_strong_with, IsLeast}
use Rattle.pk_index.specs.Filing.{has, Puts, Takes, mark_record}
use Rattle.pk_index.specs.Shown.{IsOfKey, ShowsMarks}
use Rattle.pk_index.proofs.MarkLemmas.{IsFitting, same_marks, strong_mark, strong_marks, unknown_strong}
use Rattle.pk_index.proofs.ShownLemmas.{fits_put, fits_drop, filed_put, filed_drop, passes_same, least_same, nothing_least}

-- the bytes under which a mark is filed
abbrev pub files : Option (List Value) → List ℕ → Bool
files mark bytes = bytes_eq (mark_record mark) bytes

pub mark_of_key : (set : ℕ) (row : List Value) → AreStorable (values_on (columns set) row) → IsOfKey set (mark_of (values_on (columns set) row))
mark_of_key set row fits = by_known (are_known (values_on (columns set) row)) refl where
  by_known : (t : Bool) → are_known (values_on (columns set) row) ≡ t → IsOfKey set (cond t (Some (values_on (columns set) row)) None)
  by_known true known = ((length-map (columns set) (value_at row), fits), known)
  by_known false _ = tt

fitting : (set : ℕ) (mark : Option (List Value)) → IsOfKey set mark → IsFitting mark
fitting set None fits = tt
fitting set (Some vs) fits = (fits.0.1, fits.1)

as_long : (set : ℕ) (row vs : List Value) (mark : Option (List Value)) → IsOfKey set mark → mark ≡ Some vs → length vs ≡ length (values_on (columns set) row)
as_long set row vs mark fits is =
    (subst (IsOfKey set) is fits).0.0 ∙ sym (length-map (columns set) (value_at row))

pub shows_nothing : (index : StrongIndex) → ((bytes : List ℕ) (id : ℕ) → has index.filed bytes id ≡ false) → ShowsMarks index rows.empty
shows_nothing index none = record {
  fits = λ id mark got. absurd (none-some mark (sym (rows.get-empty nat_cmp id) ∙ got));
  filed = λ bytes id. none bytes id ∙ ap (passes (λ mark. files mark bytes)) (sym (rows.get-empty nat_cmp id));
}

pub shows_put : (index : StrongIndex) (filed : Family) (id : ℕ) (mark : Option (List Value)) → IsOfKey index.columns mark → Puts index.filed filed (files mark) id
    → (held : Marks) → ShowsMarks index held → rows.get held id ≡ None → ShowsMarks (record index { filed = filed }) (rows.insert held id mark)
shows_put index filed id mark fits puts held shows absent = record {
  fits = fits_put held id (IsOfKey index.columns) mark shows.fits fits;
  filed = filed_put held id files index.filed filed shows.filed mark absent puts;
}

pub shows_drop : (index : StrongIndex) (filed : Family) (id : ℕ) (mark : Option (List Value)) → Takes index.filed filed (files mark) id
    → (held : Marks) → ShowsMarks index held → rows.get held id ≡ Some mark → ShowsMarks (record index { filed = filed }) (rows.remove held id)
shows_drop index filed id mark takes held shows present = record {
  fits = fits_drop held id (IsOfKey index.columns) shows.fits;
  filed = filed_drop held id files index.filed filed shows.filed mark present takes;
}

-- what is had under the bytes for the mark of a row
pub holds_shown : (index : StrongIndex) (id : ℕ) (row : List Value) → AreStorable (values_on (columns index.columns) row) → (held : Marks) → ShowsMarks index held
    → has index.filed (mark_record (mark_of (values_on (columns index.columns) row))) id
    ≡ passes (λ mark. same_mark mark (mark_of (values_on (columns index.columns) row))) (rows.get held id)
holds_shown index id row asked held shows =
    let ws = values_on (columns index.columns) row in
    shows.filed (mark_record (mark_of ws)) id
    ∙ passes_same (λ mark. files mark (mark_record (mark_of ws))) (λ mark. same_mark mark (mark_of ws)) (rows.get held id)
    (λ mark got. same_marks mark ws (fitting index.columns mark (shows.fits id mark got)) asked)

-- what is the least under the bytes for a known probe
pub least_shown : (index : StrongIndex) (probe : List Value) (outside : List ℕ) (found : Option ℕ)
    → AreStorable (values_on (columns index.columns) probe) → are_known (values_on (columns index.columns) probe) ≡ true
    → IsLeast (has index.filed (mark_record (mark_of (values_on (columns index.columns) probe)))) outside found → (held : Marks) → ShowsMarks index held
    → IsLeast (λ id. passes (is_strong_with (columns index.columns) probe) (rows.get held id)) outside found
least_shown index probe outside found asked known least held shows =
    let ws = values_on (columns index.columns) probe in
    let bytes = mark_record (mark_of ws) in
    least_same (has index.filed bytes) (λ id. passes (is_strong_with (columns index.columns) probe) (rows.get held id)) outside found
    (λ id. shows.filed bytes id
    ∙ passes_same (λ mark. files mark bytes) (is_strong_with (columns index.columns) probe) (rows.get held id)
    (λ mark got. ap (λ t. bytes_eq (mark_record mark) (mark_record (cond t (Some ws) None))) known
    ∙ strong_marks mark ws (fitting index.columns mark (shows.fits id mark got)) (λ vs is. as_long index.columns probe vs mark (shows.fits id mark got) is) asked known
    ∙ by_mark mark)) least where
      by_mark : (mark : Option (List Value)) → strong_mark mark (values_on (columns index.columns) probe) ≡ is_strong_with (columns index.columns) probe mark
      by_mark None = refl
      by_mark (Some vs) = refl

-- an unknown probe is similar to nothing
pub none_shown : (index : StrongIndex) (probe : List Value) (outside : List ℕ) → are_known (values_on (columns index.columns) probe) ≡ false
    → (held : Marks) → ShowsMarks index held → IsLeast (λ id. passes (is_strong_with (columns index.columns) probe) (rows.get held id)) outside None
none_shown index probe outside unknown held shows =
    nothing_least (λ id. passes (is_strong_with (columns index.columns) probe) (rows.get held id)) outside
    (λ id. by_got id (rows.get held id) refl) where
      by_got : (id : ℕ) (o : Option (Option (List Value))) → rows.get held id ≡ o → passes (is_strong_with (columns index.columns) probe) o ≡ false
      by_got id None _ = refl
      by_got id (Some None) _ = refl
      by_got id (Some (Some vs)) got = unknown_strong vs (values_on (columns index.columns) probe) (as_long index.columns probe vs (Some vs) (shows.fits id (Some vs) got) refl) unknown
