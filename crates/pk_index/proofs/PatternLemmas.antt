-- What a pattern index shows.
use Rattle.std.proofs.Common.{◌≡◌, sym, ◌∙◌, ap, ℕ, Bool, false, List, [], Option, Some, None, IsTrue}
use Rattle.std.specs.FinMap as rows
use Rattle.std.specs.Ordering.{nat_cmp}
use Rattle.std.specs.BTreeMap as tree
use Rattle.std.specs.BTreeMap.{BTreeMap, is_at}
use Rattle.std.specs.Map.{lookup}
use Rattle.std.proofs.lemmas.List.{length-map}
use Rattle.std.proofs.lemmas.Option.{none-some}
use Rattle.pk_values.specs.declared.value.Value.{Value}
use Rattle.pk_values.specs.ColumnSet.{columns}
use Rattle.pk_values.specs.Records.{row_record, AreStorable}
use Rattle.pk_values.specs.Values.{value_at}
use Rattle.pk_index.specs.declared.family.Family.{Family}
use Rattle.pk_index.specs.declared.pattern_index.PatternIndex.{PatternIndex}
use Rattle.pk_index.specs.Rows.{Rows, values_on, passes, same_values, is_weak_with, is_known_outside, IsLeast}
use Rattle.pk_index.specs.Filing.{has, Puts, Takes, is_filed, probe_record}
use Rattle.pk_index.specs.Shown.{AreOfKey, ShowsRows}
use Rattle.pk_index.proofs.FilingLemmas.{filed_as_asked, filed_as_same}
use Rattle.pk_index.proofs.ShownLemmas.{fits_put, fits_drop, kept_put, kept_drop, filed_put, filed_drop, passes_same, least_same}

-- the bytes under which a row of the index is filed
abbrev pub files : PatternIndex → List Value → List ℕ → Bool
files index vs bytes = is_filed index.nullable (columns index.columns) vs bytes

pub part_of_key : (set : ℕ) (row : List Value) → AreStorable (values_on (columns set) row) → AreOfKey set (values_on (columns set) row)
part_of_key set row fits = (length-map (columns set) (value_at row), fits)

pub shows_nothing : (index : PatternIndex) → index.held.entries ≡ [] → ((bytes : List ℕ) (id : ℕ) → has index.filed bytes id ≡ false) → ShowsRows index rows.empty
shows_nothing index nothing none = record {
  kept = λ id. ap (lookup (is_at (nat_cmp id))) nothing ∙ sym (rows.get-empty nat_cmp id);
  fits = λ id vs got. absurd (none-some vs (sym (rows.get-empty nat_cmp id) ∙ got));
  filed = λ bytes id. none bytes id ∙ ap (passes (λ vs. files index vs bytes)) (sym (rows.get-empty nat_cmp id));
}

pub shows_put : (index : PatternIndex) (kept : BTreeMap ℕ (List Value)) (filed : Family) (id : ℕ) (vs : List Value) → AreOfKey index.columns vs
    → tree.Updates nat_cmp index.held kept id (Some vs) → Puts index.filed filed (files index vs) id
    → (held : Rows) → ShowsRows index held → rows.get held id ≡ None → ShowsRows (record index { held = kept; filed = filed }) (rows.insert held id vs)
shows_put index kept filed id vs fits update puts held shows absent = record {
  kept = kept_put held id index.held kept vs shows.kept update;
  fits = fits_put held id (AreOfKey index.columns) vs shows.fits fits;
  filed = filed_put held id (files index) index.filed filed shows.filed vs absent puts;
}

pub shows_drop : (index : PatternIndex) (kept : BTreeMap ℕ (List Value)) (filed : Family) (id : ℕ) (vs : List Value)
    → tree.UpdatesBy nat_cmp (nat_cmp id) index.held kept None → Takes index.filed filed (files index vs) id
    → (held : Rows) → ShowsRows index held → rows.get held id ≡ Some vs → ShowsRows (record index { held = kept; filed = filed }) (rows.remove held id)
shows_drop index kept filed id vs update takes held shows present = record {
  kept = kept_drop held id index.held kept shows.kept update;
  fits = fits_drop held id (AreOfKey index.columns) shows.fits;
  filed = filed_drop held id (files index) index.filed filed shows.filed vs present takes;
}

-- what is had under the bytes for all values of a row
pub holds_shown : (index : PatternIndex) (id : ℕ) (row : List Value) → AreStorable (values_on (columns index.columns) row) → (held : Rows) → ShowsRows index held
    → has index.filed (row_record (values_on (columns index.columns) row)) id ≡ passes (λ vs. same_values vs (values_on (columns index.columns) row)) (rows.get held id)
holds_shown index id row asked held shows =
    shows.filed (row_record (values_on (columns index.columns) row)) id
    ∙ passes_same (λ vs. files index vs (row_record (values_on (columns index.columns) row))) (λ vs. same_values vs (values_on (columns index.columns) row)) (rows.get held id)
    (λ vs got. filed_as_same index.nullable (columns index.columns) vs row (shows.fits id vs got).0 (shows.fits id vs got).1 asked)

-- what is the least under the bytes for a probe
pub least_shown : (index : PatternIndex) (pattern : ℕ) (probe : List Value) (outside : List ℕ) (found : Option ℕ)
    → AreStorable (values_on (columns index.columns) probe) → IsTrue (is_known_outside index.nullable (columns index.columns) probe)
    → IsLeast (has index.filed (probe_record pattern (columns index.columns) probe)) outside found → (held : Rows) → ShowsRows index held
    → IsLeast (λ id. passes (is_weak_with pattern (columns index.columns) probe) (rows.get held id)) outside found
least_shown index pattern probe outside found asked known least held shows =
    least_same (has index.filed (probe_record pattern (columns index.columns) probe)) (λ id. passes (is_weak_with pattern (columns index.columns) probe) (rows.get held id)) outside found
    (λ id. shows.filed (probe_record pattern (columns index.columns) probe) id
    ∙ passes_same (λ vs. files index vs (probe_record pattern (columns index.columns) probe)) (is_weak_with pattern (columns index.columns) probe) (rows.get held id)
    (λ vs got. filed_as_asked index.nullable pattern (columns index.columns) vs probe (shows.fits id vs got).1 asked known)) least
