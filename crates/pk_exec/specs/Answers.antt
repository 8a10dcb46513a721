-- What the calls of a transaction answer.
use Rattle.std.specs.Prelude.{◌≡◌, List, Option, Some, None, Result, Ok, Err}
use Rattle.pk_values.specs.declared.refusal.Refusal.{Refusal}
use Rattle.pk_values.specs.Refusals.{first_some}
use Rattle.pk_world.specs.declared.store_err.StoreErr.{StoreErr}
use Rattle.pk_world.specs.declared.store_err.StoreErr.TheVariants as store_errs
use Rattle.pk_exec.specs.declared.exec_err.ExecErr.{ExecErr}
use Rattle.pk_exec.specs.declared.exec_err.ExecErr.TheVariants as causes
use Rattle.pk_exec.specs.declared.insert_err.InsertErr.{InsertErr}
use Rattle.pk_exec.specs.declared.insert_err.InsertErr.TheVariants as insert_causes

-- what a failure of the store is to a statement
abbrev pub exec_cause : StoreErr → ExecErr
exec_cause store_errs.Disk = causes.Disk
exec_cause store_errs.Changed = causes.Changed
exec_cause store_errs.Memory = causes.Memory

-- a refusal is the first of these that stands
abbrev pub IsCause : List (Option Refusal) → ExecErr → Type 0
IsCause refusals (causes.Refused r) = first_some refusals ≡ Some r
IsCause refusals causes.Disk = Unit {0}
IsCause refusals causes.Changed = Unit {0}
IsCause refusals causes.Memory = Unit {0}

-- the first of these refusals that stands, or this where none does
abbrev pub Answers : {X : Type 0} → List (Option Refusal) → X → Result X ExecErr → Type 0
Answers refusals meaning (Ok x) = (first_some refusals ≡ None) × (x ≡ meaning)
Answers refusals meaning (Err e) = IsCause refusals e

-- this holds where the statement is refused, and where the store failed
abbrev pub OnUndone : {X : Type 0} → Result X ExecErr → Type 0 → Type 0
OnUndone (Ok x) P = Unit {0}
OnUndone (Err (causes.Refused r)) P = P
OnUndone (Err causes.Disk) P = P
OnUndone (Err causes.Changed) P = P
OnUndone (Err causes.Memory) P = Unit {0}

-- ---- of INSERT, which reads no row

abbrev pub IsInsertCause : List (Option Refusal) → InsertErr → Type 0
IsInsertCause refusals (insert_causes.Refused r) = first_some refusals ≡ Some r
IsInsertCause refusals insert_causes.Memory = Unit {0}

abbrev pub InsertAnswers : {X : Type 0} → List (Option Refusal) → X → Result X InsertErr → Type 0
InsertAnswers refusals meaning (Ok x) = (first_some refusals ≡ None) × (x ≡ meaning)
InsertAnswers refusals meaning (Err e) = IsInsertCause refusals e

abbrev pub OnInsertRefusal : {X : Type 0} → Result X InsertErr → Type 0 → Type 0
OnInsertRefusal (Ok x) P = Unit {0}
OnInsertRefusal (Err (insert_causes.Refused r)) P = P
OnInsertRefusal (Err insert_causes.Memory) P = Unit {0}
