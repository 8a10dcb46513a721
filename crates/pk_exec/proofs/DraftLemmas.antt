-- How a draft grows row by row.
use Rattle.std.proofs.Common.{◌≡◌, ℕ, ◌+◌, Bool, true, false, ◌==◌, List, [], ◌∷◌, ◌++◌, Option, Some, None, Err, refl, ap, sym, ◌∙◌, subst, arith, append_assoc, append-nil, length, nat_le, if◌then◌else◌}
use Rattle.std.specs.Prelude.{Result}
use Rattle.std.specs.List.{cons_option}
use Rattle.std.proofs.lemmas.List.{map-append}
use Rattle.std.proofs.lemmas.List.Sums.{sum_by-cons}
use Rattle.std.proofs.lemmas.Bool.{eq-eqb}
use Rattle.pk_values.specs.declared.value.Value.{Value}
use Rattle.pk_values.specs.declared.refusal.Refusal.{Refusal}
use Rattle.pk_values.specs.Refusals.{first_some, or_else}
use Rattle.pk_exec.specs.declared.base.BaseRow.{BaseRow}
use Rattle.pk_exec.specs.declared.change.Change.{Change}
use Rattle.pk_exec.specs.declared.change.Fate.{Fate}
use Rattle.pk_exec.specs.declared.change.Fate.TheVariants.{Left, Put, Gone, Long}
use Rattle.pk_exec.specs.declared.draft.Draft.{Draft}
use Rattle.pk_exec.specs.declared.table_edits.EditedRow.{EditedRow}
use Rattle.pk_exec.specs.Bases.{edit_by, edits_in}
use Rattle.pk_values.specs.Records.{row_record}
use Rattle.pk_bind.specs.declared.edit.SetTo.{SetTo}
use Rattle.pk_bind.specs.Fitting.{with_sets}
use Rattle.pk_exec.specs.declared.exec_err.ExecErr.{ExecErr}
use Rattle.pk_exec.specs.declared.exec_err.ExecErr.TheVariants as exec_errs
use Rattle.pk_exec.specs.Answers.{IsCause}
use Rattle.pk_exec.specs.Edits.{takes}
use Rattle.pk_exec.specs.Fates.{fate_of, fate_refusal, taken_fate}
use Rattle.pk_exec.specs.Drafts.{base_by, base_by_fate, changed_base, changed_edits, base_refusal, row_taken, row_refusal, taken_by, IsDraft, Adds, IsRefusalOf, IsBaseDrafted, BaseDrafts}
use Rattle.pk_exec.specs.Works.{edit_ids}
use Rattle.pk_exec.specs.Seen.{is_part}

-- ---- what the rows of the base make of it

cons_one : {X : Type 0} (o : Option X) (xs : List X) → cons_option o xs ≡ cons_option o [] ++ xs
cons_one None xs = refl
cons_one (Some x) xs = refl

-- the edits of a row, then those of the others
pub edits_cons : (c : Change) (b : BaseRow) (bs : List BaseRow) → changed_edits c (b ∷ bs) ≡ changed_edits c (b ∷ []) ++ changed_edits c bs
edits_cons c b bs =
    let x = changed_base c b in
    cons_one (edit_by x.edited x.id x.row) (changed_edits c bs)

pub else_none : (first next : Option Refusal) → first ≡ None → or_else first next ≡ next
else_none None next none = refl
else_none (Some r) next none = absurd (cc)

pub else_some : (first next : Option Refusal) (r : Refusal) → first ≡ Some r → or_else first next ≡ Some r
else_some first next r some = rw some refl

-- a row of the base is done
pub drafted_more :
    (c : Change) (all left : List BaseRow) (b : BaseRow) (d e : Draft) → IsBaseDrafted c all (b ∷ left) d
    → row_refusal c b.row ≡ None
    → IsDraft e (d.edited.items ++ changed_edits c (b ∷ [])) (d.added.items ++ []) (d.taken + row_taken c b.row) → IsBaseDrafted c all left e
drafted_more c all left b d e so none adds = (
  so.0 ∙ else_none (row_refusal c b.row) (base_refusal c left) none,
  so.1 ∙ ap (λ (es : List EditedRow). d.edited.items ++ es) (edits_cons c b left)
      ∙ sym (append_assoc d.edited.items (changed_edits c (b ∷ [])) (changed_edits c left))
      ∙ ap (λ (es : List EditedRow). es ++ changed_edits c left) (sym adds.0),
  adds.1 ∙ append-nil d.added.items ∙ so.2,
  so.3 ∙ omega (arith, adds.2, sum_by-cons (λ (x : BaseRow). row_taken c x.row) b left),
)

-- a row of the base is refused
pub drafted_refused :
    (c : Change) (all left : List BaseRow) (b : BaseRow) (d : Draft) (r : Refusal) → IsBaseDrafted c all (b ∷ left) d
    → row_refusal c b.row ≡ Some r → base_refusal c all ≡ Some r
drafted_refused c all left b d r so some = so.0 ∙ else_some (row_refusal c b.row) (base_refusal c left) r some

-- ---- the ids of edits are among those of the base

-- a part stays one where its first is left out, or where there is one more before all
part_less : (ps : List ℕ) → ((k : ℕ) (ks : List ℕ) → is_part (k ∷ ks) ps ≡ true → is_part ks ps ≡ true) × ((ks : List ℕ) (p : ℕ) → is_part ks ps ≡ true → is_part ks (p ∷ ps) ≡ true)
part_less [] = (λ k ks part. absurd (cc), skip)
  where
    skip : (ks : List ℕ) (p : ℕ) → is_part ks [] ≡ true → is_part ks (p ∷ []) ≡ true
    skip [] p part = refl
    skip (k ∷ ks) p part = absurd (cc)
part_less (q ∷ ps) = (λ k ks part. rest (part_less ps) k ks (k == q) part, λ ks p part. skip (part_less ps) ks p part)
  where
    rest : (((k : ℕ) (ks : List ℕ) → is_part (k ∷ ks) ps ≡ true → is_part ks ps ≡ true) × ((ks : List ℕ) (p : ℕ) → is_part ks ps ≡ true → is_part ks (p ∷ ps) ≡ true))
        → (k : ℕ) (ks : List ℕ) (b : Bool) → (if b then is_part ks ps else is_part (k ∷ ks) ps) ≡ true → is_part ks (q ∷ ps) ≡ true
    rest deeper k ks true part = deeper.1 ks q part
    rest deeper k ks false part = deeper.1 ks q (deeper.0 k ks part)

    skip : (((k : ℕ) (ks : List ℕ) → is_part (k ∷ ks) ps ≡ true → is_part ks ps ≡ true) × ((ks : List ℕ) (p : ℕ) → is_part ks ps ≡ true → is_part ks (p ∷ ps) ≡ true))
        → (ks : List ℕ) (p : ℕ) → is_part ks (q ∷ ps) ≡ true → is_part ks (p ∷ q ∷ ps) ≡ true
    skip deeper [] p part = refl
    skip deeper (k ∷ ks) p part = elim (k == p) as (λ b. (if b then is_part ks (q ∷ ps) else is_part (k ∷ ks) (q ∷ ps)) ≡ true) [
      | true ↦ rest deeper k ks (k == q) part
      | false ↦ part
    ]

pub part_skip : (ks ps : List ℕ) (p : ℕ) → is_part ks ps ≡ true → is_part ks (p ∷ ps) ≡ true
part_skip ks ps p part = (part_less ps).1 ks p part

-- the id of a row's edit, if there is one, is the row's
part_one : (edited : Bool) (id : ℕ) (row : Option (List Value)) (ks ps : List ℕ) → is_part ks ps ≡ true
    → is_part (edit_ids (cons_option (edit_by edited id row) []) ++ ks) (id ∷ ps) ≡ true
part_one false id row ks ps part = part_skip ks ps id part
part_one true id row ks ps part = rw (eq-eqb id id refl) part

base_id : (b : BaseRow) (fate : Fate) → (base_by_fate b fate).id ≡ b.id
base_id b (Left row) = refl
base_id b (Put row) = refl
base_id b Gone = refl
base_id b (Long n) = refl

-- a change keeps the id
pub changed_id : (c : Change) (b : BaseRow) (o : Option (List Value)) → (base_by c b o).id ≡ b.id
changed_id c b None = refl
changed_id c b (Some row) = base_id b (fate_of c row)

part_edits : (c : Change) (b : BaseRow) (ks ps : List ℕ) → is_part ks ps ≡ true → is_part (edit_ids (changed_edits c (b ∷ [])) ++ ks) (b.id ∷ ps) ≡ true
part_edits c b ks ps part =
    let x = changed_base c b in
    subst (λ (i : ℕ). is_part (edit_ids (changed_edits c (b ∷ [])) ++ ks) (i ∷ ps) ≡ true) (changed_id c b b.row)
    (part_one x.edited x.id x.row ks ps part)

-- a row of the base is done
pub part_more :
    (c : Change) (b : BaseRow) (es : List EditedRow) (all ps : List ℕ)
    → ((ks : List ℕ) → is_part ks (b.id ∷ ps) ≡ true → is_part (edit_ids es ++ ks) all ≡ true)
    → (ks : List ℕ) → is_part ks ps ≡ true → is_part (edit_ids (es ++ changed_edits c (b ∷ [])) ++ ks) all ≡ true
part_more c b es all ps so ks part =
    let one = changed_edits c (b ∷ []) in
    rw (map-append (λ (e : EditedRow). e.id) es one, append_assoc (edit_ids es) (edit_ids one) ks) (so (edit_ids one ++ ks) (part_edits c b ks ps part))

-- all rows are done
pub part_all : (es : List EditedRow) (all : List ℕ) → ((ks : List ℕ) → is_part ks [] ≡ true → is_part (edit_ids es ++ ks) all ≡ true) → is_part (edit_ids es) all ≡ true
part_all es all so = rw (← append-nil (edit_ids es)) (so [] refl)

-- ---- one row

-- a row that is left is the row itself
pub left_row : (c : Change) (row left : List Value) → Left left ≡ fate_of c row → left ≡ row
unfolding fate_of
left_row c row left is = by_taken (takes c.cond row) is
  where
    by_length : (b : Bool) (put : List Value) (n : ℕ) → Left left ≡ (if b then Put put else Long n) → left ≡ row
    by_length true put n is = absurd (cc)
    by_length false put n is = absurd (cc)

    by_sets : (sets : Option (List SetTo)) → Left left ≡ taken_fate sets row → left ≡ row
    by_sets None is = absurd (cc)
    by_sets (Some sets) is = by_length (nat_le (length (row_record (with_sets sets row))) 4000) (with_sets sets row) (length (row_record (with_sets sets row))) is

    by_taken : (b : Bool) → Left left ≡ (if b then taken_fate c.sets row else Left row) → left ≡ row
    by_taken true is = by_sets c.sets is
    by_taken false is = cc

-- what is added for a row is what is added for the row that it is
pub adds_by :
    (c : Change) (b : BaseRow) (d e : Draft) (r : Result (Unit {0}) ExecErr) (o : Option (List Value)) → b.row ≡ o
    → Adds (row_refusal c o) (edits_in (base_by c b o ∷ [])) [] (row_taken c o) d e r
    → Adds (row_refusal c b.row) (changed_edits c (b ∷ [])) [] (row_taken c b.row) d e r
adds_by c b d e r o is adds = subst (λ (x : Option (List Value)). Adds (row_refusal c x) (edits_in (base_by c b x ∷ [])) [] (row_taken c x) d e r) (sym is) adds

same_edits : (b : BaseRow) (o : Option (List Value)) → b.row ≡ o → edits_in (record { id = b.id; edited = b.edited; row = o } ∷ []) ≡ edits_in (b ∷ [])
same_edits b o is = ap (λ (x : Option (List Value)). edits_in (record { id = b.id; edited = b.edited; row = x } ∷ [])) (sym is)

-- a row that is gone already
pub adds_gone :
    (c : Change) (b : BaseRow) (d e : Draft) (r : Result (Unit {0}) ExecErr) → b.row ≡ None
    → Adds None (edits_in (record { id = b.id; edited = b.edited; row = None } ∷ [])) [] 0 d e r
    → Adds (row_refusal c b.row) (changed_edits c (b ∷ [])) [] (row_taken c b.row) d e r
adds_gone c b d e r is adds =
    adds_by c b d e r None is (subst (λ (es : List EditedRow). Adds None es [] 0 d e r) (same_edits b None is) adds)

-- a row that is left
pub adds_left :
    (c : Change) (b : BaseRow) (d e : Draft) (r : Result (Unit {0}) ExecErr) (row left : List Value) → b.row ≡ Some row → Left left ≡ fate_of c row
    → Adds None (edits_in (record { id = b.id; edited = b.edited; row = Some left } ∷ [])) [] 0 d e r
    → Adds (row_refusal c b.row) (changed_edits c (b ∷ [])) [] (row_taken c b.row) d e r
adds_left c b d e r row left is fate adds =
    let same : b.row ≡ Some left = is ∙ ap (λ (x : List Value). Some x) (sym (left_row c row left fate)) in
    adds_by c b d e r (Some row) is
    (subst (λ (f : Fate). Adds (fate_refusal f) (edits_in (base_by_fate b f ∷ [])) [] (taken_by f) d e r) fate
    (subst (λ (es : List EditedRow). Adds None es [] 0 d e r) (same_edits b (Some left) same) adds))

-- ---- refusals

pub one_cause : (o : Option Refusal) (rest : List (Option Refusal)) (q : Refusal) → o ≡ Some q → first_some (o ∷ rest) ≡ Some q
one_cause o rest q some = rw some refl

cause_of : (c : Change) (bases : List BaseRow) (x : Option Refusal) (e : ExecErr) → IsRefusalOf x e → ((q : Refusal) → x ≡ Some q → base_refusal c bases ≡ Some q)
    → IsCause (base_refusal c bases ∷ []) e
cause_of c bases x (exec_errs.Refused q) is told = one_cause (base_refusal c bases) [] q (told q is)
cause_of c bases x exec_errs.Disk is told = absurd is
cause_of c bases x exec_errs.Changed is told = absurd is
cause_of c bases x exec_errs.Memory is told = tt

-- what refuses a row of the base refuses the draft
pub base_refused :
    (c : Change) (bases : List BaseRow) (x : Option Refusal) (r : Result Draft ExecErr) (y e : ExecErr) → r ≡ Err y → y ≡ e → IsRefusalOf x e
    → ((q : Refusal) → x ≡ Some q → base_refusal c bases ≡ Some q) → BaseDrafts c bases r
base_refused c bases x r y e told same is first =
    subst (BaseDrafts c bases) (sym (told ∙ ap (λ (z : ExecErr). Err z) same)) (cause_of c bases x e is first)
