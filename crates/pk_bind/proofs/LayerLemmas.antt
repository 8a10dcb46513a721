-- What is found in a condition and what it says, by the form of its outermost layer.
use Rattle.std.proofs.Common.{◌≡◌, sym, ◌∙◌, ap, ℕ, Bool, List, map, Option}
use Rattle.pk_values.specs.declared.refusal.Refusal.{Refusal}
use Rattle.pk_values.specs.Refusals.{first_some}
use Rattle.pk_syntax.specs.declared.declaration.ColumnDecl.{ColumnDecl}
use Rattle.pk_syntax.specs.declared.condition.Op.{Op}
use Rattle.pk_syntax.specs.declared.condition.Operand.{Operand}
use Rattle.pk_syntax.specs.declared.condition.Test.{Test}
use Rattle.pk_syntax.specs.declared.condition.Test.TheVariants.{Compare, IsNull, Not, All, Any, rolls-Compare, rolls-IsNull, rolls-Not, rolls-All, rolls-Any}
use Rattle.pk_syntax.specs.declared.condition.Test.TheOpen as layers
use Rattle.pk_syntax.specs.declared.condition.Test.TheFolds.{fold-roll-Test}
use Rattle.pk_logic.specs.declared.condition.Cond.{Cond}
use Rattle.pk_logic.specs.declared.condition.Cond.TheVariants as conds
use Rattle.pk_bind.specs.declared.searching.Search.{Search}
use Rattle.pk_bind.specs.Columns.{column_at}
use Rattle.pk_bind.specs.Conditions.{comparison_fault, null_test_fault, fault_step, test_fault, op_of, side_of, cond_step, cond_of}

pub fault-Compare : (search : Search) (columns : List ColumnDecl) (table name : List ℕ) (op : Op) (with : Operand)
    → test_fault search columns table (Compare name op with) ≡ comparison_fault search columns table name with
fault-Compare search columns table name op with =
    ap (test_fault search columns table) (sym (rolls-Compare name op with)) ∙ fold-roll-Test (Option Refusal) (fault_step search columns table) (layers.Compare name op with)

pub fault-IsNull : (search : Search) (columns : List ColumnDecl) (table name : List ℕ) (negated : Bool)
    → test_fault search columns table (IsNull name negated) ≡ null_test_fault search columns table name
fault-IsNull search columns table name negated =
    ap (test_fault search columns table) (sym (rolls-IsNull name negated)) ∙ fold-roll-Test (Option Refusal) (fault_step search columns table) (layers.IsNull name negated)

pub fault-Not : (search : Search) (columns : List ColumnDecl) (table : List ℕ) (test : Test)
    → test_fault search columns table (Not test) ≡ test_fault search columns table test
fault-Not search columns table test =
    ap (test_fault search columns table) (sym (rolls-Not test)) ∙ fold-roll-Test (Option Refusal) (fault_step search columns table) (layers.Not test)

pub fault-All : (search : Search) (columns : List ColumnDecl) (table : List ℕ) (members : List Test)
    → test_fault search columns table (All members) ≡ first_some (map (test_fault search columns table) members)
fault-All search columns table members =
    ap (test_fault search columns table) (sym (rolls-All members)) ∙ fold-roll-Test (Option Refusal) (fault_step search columns table) (layers.All members)

pub fault-Any : (search : Search) (columns : List ColumnDecl) (table : List ℕ) (members : List Test)
    → test_fault search columns table (Any members) ≡ first_some (map (test_fault search columns table) members)
fault-Any search columns table members =
    ap (test_fault search columns table) (sym (rolls-Any members)) ∙ fold-roll-Test (Option Refusal) (fault_step search columns table) (layers.Any members)

pub cond-Compare : (columns : List ColumnDecl) (name : List ℕ) (op : Op) (with : Operand)
    → cond_of columns (Compare name op with) ≡ conds.Compare (column_at columns name) (op_of op) (side_of columns with)
cond-Compare columns name op with = ap (cond_of columns) (sym (rolls-Compare name op with)) ∙ fold-roll-Test Cond (cond_step columns) (layers.Compare name op with)

pub cond-IsNull : (columns : List ColumnDecl) (name : List ℕ) (negated : Bool)
    → cond_of columns (IsNull name negated) ≡ conds.IsNull (column_at columns name) negated
cond-IsNull columns name negated = ap (cond_of columns) (sym (rolls-IsNull name negated)) ∙ fold-roll-Test Cond (cond_step columns) (layers.IsNull name negated)

pub cond-Not : (columns : List ColumnDecl) (test : Test) → cond_of columns (Not test) ≡ conds.Not (cond_of columns test)
cond-Not columns test = ap (cond_of columns) (sym (rolls-Not test)) ∙ fold-roll-Test Cond (cond_step columns) (layers.Not test)

pub cond-All : (columns : List ColumnDecl) (members : List Test) → cond_of columns (All members) ≡ conds.All (map (cond_of columns) members)
cond-All columns members = ap (cond_of columns) (sym (rolls-All members)) ∙ fold-roll-Test Cond (cond_step columns) (layers.All members)
