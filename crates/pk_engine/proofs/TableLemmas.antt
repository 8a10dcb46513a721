use Rattle.std.proofs.Common.{◌≡◌, ℕ, ◌+◌, Bool, true, false, not, List, [], ◌∷◌, Some, None, get_or, set, if◌then◌else◌, arith, ap, refl, suc}
use Rattle.std.specs.Prelude.{insert}
use Rattle.std.specs.List.{position, position_or_len, remove}
use Rattle.std.proofs.lemmas.Grind.{common_steps}
use Rattle.pk_values.specs.declared.changes.Changes.{Changes}
use Rattle.pk_engine.specs.Base.{Table, is_named, comes_before, table_named, with_table, without_table, changed_by, change_table}
use Rattle.pk_engine.proofs.ListLemmas.{find_found, find_none}

with_table_step : (b : Bool) (t u : Table) (us rest : List Table) (n : ℕ) → rest ≡ insert us n t
    → if b then t ∷ u ∷ us else u ∷ rest ≡ insert (u ∷ us) (if not b then 1 + n else 0) t
with_table_step true t u us rest n e = refl
with_table_step false t u us rest n e = grind (arith, common_steps)

-- a new table stands before the first whose name comes behind its own
pub with_table_place : (t : Table) (ts : List Table) → with_table t ts ≡ insert ts (position_or_len (λ u. comes_before t.name u.name) ts) t
unfolding with_table
with_table_place t [] = refl
with_table_place t (u ∷ us) = with_table_step (comes_before t.name u.name) t u us _ _ (with_table_place t us)

change_step : (b : Bool) (t d : Table) (ts rest : List Table) (n : ℕ) (c : Changes) → rest ≡ set ts n (changed_by c (get_or ts n d))
    → if b then changed_by c t ∷ ts else t ∷ rest ≡ set (t ∷ ts) (if not b then 1 + n else 0) (changed_by c (get_or (t ∷ ts) (if not b then 1 + n else 0) d))
change_step true t d ts rest n c e = refl
change_step false t d ts rest n c e =
    let one_more : 1 + n ≡ suc n = omega arith in
    rw one_more (ap (λ (us : List Table). t ∷ us) e)

-- the first table of the name is changed
pub change_place : (name : List ℕ) (c : Changes) (ts : List Table) (d : Table) → change_table name c ts ≡ set ts (position_or_len (is_named name) ts) (changed_by c (get_or ts (position_or_len (is_named name) ts) d))
unfolding change_table
change_place name c [] d = refl
change_place name c (t ∷ ts) d = change_step (is_named name t) t d ts _ _ c (change_place name c ts d)

without_step : (b : Bool) (t : Table) (ts rest : List Table) (n : ℕ) → rest ≡ remove ts n → if b then ts else t ∷ rest ≡ remove (t ∷ ts) (if not b then 1 + n else 0)
without_step true t ts rest n e = refl
without_step false t ts rest n e =
    let one_more : 1 + n ≡ suc n = omega arith in
    rw one_more (ap (λ (us : List Table). t ∷ us) e)

-- the first table of the name is left out
pub without_place : (name : List ℕ) (ts : List Table) → without_table name ts ≡ remove ts (position_or_len (is_named name) ts)
unfolding without_table
without_place name [] = refl
without_place name (t ∷ ts) = without_step (is_named name t) t ts _ _ (without_place name ts)

-- the table of a name stands at the first place of the name
pub named_at : (name : List ℕ) (ts : List Table) (i : ℕ) (t : Table) → position (is_named name) ts ≡ Some i → t ≡ get_or ts i t → table_named name ts ≡ Some t
unfolding table_named
named_at name ts i t at is = find_found (is_named name) ts i t at is

-- a name without a place has no table
pub none_named : (name : List ℕ) (ts : List Table) → position (is_named name) ts ≡ None → table_named name ts ≡ None
unfolding table_named
none_named name ts at = find_none (is_named name) ts at
