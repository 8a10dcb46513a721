-- How a draft grows by the new rows.
use Rattle.std.proofs.Common.{◌≡◌, ℕ, ◌+◌, ◌<◌, ◌≤◌, List, [], ◌∷◌, ◌++◌, Option, Some, None, Ok, Err, length, get_or, drop, refl, ap, sym, ◌∙◌, subst, arith, append_assoc, append-nil}
use Rattle.std.specs.Prelude.{Result}
use Rattle.std.proofs.lemmas.List.{drop_more, drop_all}
use Rattle.std.proofs.lemmas.List.Sums.{sum_by-cons}
use Rattle.pk_values.specs.declared.value.Value.{Value}
use Rattle.pk_values.specs.declared.refusal.Refusal.{Refusal}
use Rattle.pk_values.specs.Refusals.{first_some}
use Rattle.pk_exec.specs.declared.base.BaseRow.{BaseRow}
use Rattle.pk_exec.specs.declared.change.Change.{Change}
use Rattle.pk_exec.specs.declared.draft.Draft.{Draft}
use Rattle.pk_exec.specs.declared.exec_err.ExecErr.{ExecErr}
use Rattle.pk_exec.specs.declared.exec_err.ExecErr.TheVariants as exec_errs
use Rattle.pk_exec.specs.Answers.{IsCause}
use Rattle.pk_exec.specs.Fates.{fate_of, fate_refusal}
use Rattle.pk_exec.specs.Drafts.{changed_added, base_refusal, added_refusal, added_taken, added_by_fate, taken_by, IsDraft, Adds, IsRefusalOf, IsBaseDrafted, IsDrafted}
use Rattle.pk_exec.proofs.DraftLemmas.{else_none, else_some}

-- of the new rows so many are done, and these are left
pub record IsAddedTo (c : Change) (all left : List (List Value)) (old new : Draft) : Type 0 where
  pub refusal : added_refusal c all ≡ added_refusal c left
  pub edited : new.edited.items ≡ old.edited.items
  pub added : old.added.items ++ changed_added c all ≡ new.added.items ++ changed_added c left
  pub taken : old.taken + added_taken c all ≡ new.taken + added_taken c left

pub added_more :
    (c : Change) (all : List (List Value)) (i : ℕ) (x : List Value) (d0 d e : Draft) → i < length all → x ≡ get_or all i x
    → IsAddedTo c all (drop i all) d0 d → fate_refusal (fate_of c x) ≡ None
    → IsDraft e (d.edited.items ++ []) (d.added.items ++ added_by_fate (fate_of c x)) (d.taken + taken_by (fate_of c x))
    → IsAddedTo c all (drop (i + 1) all) d0 e
added_more c all i x d0 d e within is so none adds =
    let left = drop (i + 1) all in
    let split : drop i all ≡ x ∷ left = drop_more all i x within ∙ ap (λ (y : List Value). y ∷ left) (sym is) in
    record {
      refusal = so.refusal ∙ ap (added_refusal c) split ∙ else_none (fate_refusal (fate_of c x)) (added_refusal c left) none;
      edited = adds.0 ∙ append-nil d.edited.items ∙ so.edited;
      added = so.added ∙ ap (λ (rows : List (List Value)). d.added.items ++ changed_added c rows) split
          ∙ sym (append_assoc d.added.items (added_by_fate (fate_of c x)) (changed_added c left))
          ∙ ap (λ (rows : List (List Value)). rows ++ changed_added c left) (sym adds.1);
      taken = so.taken ∙ ap (λ (rows : List (List Value)). d.taken + added_taken c rows) split
          ∙ omega (arith, adds.2, sum_by-cons (λ (row : List Value). taken_by (fate_of c row)) x left);
    }

pub added_refused :
    (c : Change) (all : List (List Value)) (i : ℕ) (x : List Value) (d0 d : Draft) (q : Refusal) → i < length all → x ≡ get_or all i x
    → IsAddedTo c all (drop i all) d0 d → fate_refusal (fate_of c x) ≡ Some q → added_refusal c all ≡ Some q
added_refused c all i x d0 d q within is so some =
    let left = drop (i + 1) all in
    let split : drop i all ≡ x ∷ left = drop_more all i x within ∙ ap (λ (y : List Value). y ∷ left) (sym is) in
    so.refusal ∙ ap (added_refusal c) split ∙ else_some (fate_refusal (fate_of c x)) (added_refusal c left) q some

-- all new rows are done
pub added_all :
    (c : Change) (all : List (List Value)) (i : ℕ) (d0 d : Draft) → length all ≤ i → IsAddedTo c all (drop i all) d0 d
    → (added_refusal c all ≡ None) × IsDraft d (d0.edited.items ++ []) (d0.added.items ++ changed_added c all) (d0.taken + added_taken c all)
added_all c all i d0 d past so =
    let none = drop_all i all past in (
      so.refusal ∙ ap (added_refusal c) none,
      (
        so.edited ∙ sym (append-nil d0.edited.items),
        sym (so.added ∙ ap (λ (rows : List (List Value)). d.added.items ++ changed_added c rows) none ∙ append-nil d.added.items),
        sym (so.taken ∙ ap (λ (rows : List (List Value)). d.taken + added_taken c rows) none ∙ omega arith),
      ),
    )

-- an error of a row is that of all
row_cause : (x whole : Option Refusal) (e : ExecErr) → IsRefusalOf x e → ((q : Refusal) → x ≡ Some q → whole ≡ Some q) → IsRefusalOf whole e
row_cause x whole (exec_errs.Refused q) is told = told q is
row_cause x whole exec_errs.Disk is told = absurd is
row_cause x whole exec_errs.Changed is told = absurd is
row_cause x whole exec_errs.Memory is told = tt

pub refused_by : (x whole : Option Refusal) (r : Result (Unit {0}) ExecErr) (y e : ExecErr) (edited : List _) (added : List (List Value)) (n : ℕ) (old new : Draft)
    → r ≡ Err y → y ≡ e → IsRefusalOf x e → ((q : Refusal) → x ≡ Some q → whole ≡ Some q) → Adds whole edited added n old new r
refused_by x whole r y e edited added n old new told same is first =
    subst (Adds whole edited added n old new) (sym (told ∙ ap (λ (z : ExecErr). Err z) same)) (row_cause x whole e is first)

-- ---- both

-- the draft of the rows of the base, and then of the new ones
pub drafted_both :
    (c : Change) (bases : List BaseRow) (added : List (List Value)) (d e : Draft) → IsBaseDrafted c bases [] d
    → (added_refusal c added ≡ None) × IsDraft e (d.edited.items ++ []) (d.added.items ++ changed_added c added) (d.taken + added_taken c added)
    → IsDrafted c bases added (Ok e)
drafted_both c bases added d e so adds = (
  so.0,
  adds.0,
  (adds.1.0 ∙ sym so.1, adds.1.1 ∙ ap (λ (rows : List (List Value)). rows ++ changed_added c added) so.2, omega (arith, adds.1.2, so.3)),
)

second_cause : (o p : Option Refusal) (q : Refusal) → o ≡ None → p ≡ Some q → first_some (o ∷ p ∷ []) ≡ Some q
second_cause o p q none some = rw (none, some) refl

pub drafted_second :
    (c : Change) (bases : List BaseRow) (added : List (List Value)) (d : Draft) (r : Result Draft ExecErr) (y e : ExecErr) → IsBaseDrafted c bases [] d
    → r ≡ Err y → y ≡ e → IsRefusalOf (added_refusal c added) e → IsDrafted c bases added r
drafted_second c bases added d r y e so told same is =
    subst (IsDrafted c bases added) (sym (told ∙ ap (λ (z : ExecErr). Err z) same)) (by_error e is)
  where
    by_error : (e : ExecErr) → IsRefusalOf (added_refusal c added) e → IsCause (base_refusal c bases ∷ added_refusal c added ∷ []) e
    by_error (exec_errs.Refused q) is = second_cause (base_refusal c bases) (added_refusal c added) q so.0 is
    by_error exec_errs.Disk is = absurd is
    by_error exec_errs.Changed is = absurd is
    by_error exec_errs.Memory is = tt

first_cause : (o p : Option Refusal) (q : Refusal) → first_some (o ∷ []) ≡ Some q → first_some (o ∷ p ∷ []) ≡ Some q
first_cause None p q is = absurd (cc)
first_cause (Some x) p q is = is

pub drafted_first :
    (c : Change) (bases : List BaseRow) (added : List (List Value)) (r : Result Draft ExecErr) (y e : ExecErr) → r ≡ Err y → y ≡ e → IsCause (base_refusal c bases ∷ []) e
    → IsDrafted c bases added r
drafted_first c bases added r y e told same is =
    subst (IsDrafted c bases added) (sym (told ∙ ap (λ (z : ExecErr). Err z) same)) (by_error e is)
  where
    by_error : (e : ExecErr) → IsCause (base_refusal c bases ∷ []) e → IsCause (base_refusal c bases ∷ added_refusal c added ∷ []) e
    by_error (exec_errs.Refused q) is = first_cause (base_refusal c bases) (added_refusal c added) q is
    by_error exec_errs.Disk is = tt
    by_error exec_errs.Changed is = tt
    by_error exec_errs.Memory is = tt
