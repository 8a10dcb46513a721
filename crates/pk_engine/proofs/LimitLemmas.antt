-- The limits of the base, by what the engine counts.
use Rattle.std.proofs.Common.{◌≡◌, ℕ, ◌≤◌, ◌<◌, Bool, true, false, [], ◌∷◌, length, Some, None, ap, refl, sym, arith}
use Rattle.std.specs.Prelude.{nat_le}
use Rattle.pk_values.specs.declared.changes.Changes.{Changes}
use Rattle.pk_values.specs.declared.refusal.Refusal.{Refusal}
use Rattle.pk_values.specs.declared.refusal.Refusal.TheVariants.{BaseLimit, Limit}
use Rattle.pk_values.specs.declared.refusal.BaseLimitName.TheVariants as base_limits
use Rattle.pk_values.specs.declared.refusal.LimitName.TheVariants as limits
use Rattle.pk_engine.specs.Base.{Table, row_count, changed_by}
use Rattle.pk_engine.specs.State.{State, Changed, current, committed}
use Rattle.pk_engine.specs.Limits.{most_tables, most_rows, most_ids, tables_full, commits_full, rows_full, ids_full}
use Rattle.pk_engine.specs.Refusing.{when}
use Rattle.pk_engine.specs.Stands.{StandsFor}
use Rattle.pk_engine.specs.declared.engine.Engine.{Engine}
use Rattle.pk_engine.proofs.StandsLemmas.{stands_tables, stands_commit}
use Rattle.std.proofs.lemmas.Bool.{ltb-false, leb-false}

above : (m n : ℕ) → n < m → nat_le m n ≡ false
above m n lt = grind (arith, lt)

reached : (m n : ℕ) → m ≤ n → nat_le m n ≡ true
reached m n le = grind (arith, le)

pub tables_room : (e : Engine) (st : State) → StandsFor e st → length e.tables.items < most_tables → None ≡ tables_full st
tables_room e st stands lt =
    sym (ap (λ (b : Bool). when b (Limit limits.Tables)) (above most_tables (length (current st).tables) (rw (ap length (stands_tables e st stands)) lt)))

pub tables_out : (e : Engine) (st : State) → StandsFor e st → most_tables ≤ length e.tables.items → Some (Limit limits.Tables) ≡ tables_full st
tables_out e st stands le =
    sym (ap (λ (b : Bool). when b (Limit limits.Tables)) (reached most_tables (length (current st).tables) (rw (ap length (stands_tables e st stands)) le)))

pub commits_room : (e : Engine) (st : State) → StandsFor e st → e.commit < most_ids → None ≡ commits_full st
commits_room e st stands lt =
    sym (ap (λ (b : Bool). when b (BaseLimit base_limits.Commits)) (above most_ids (current st).commit (rw (stands_commit e st stands) lt)))

pub commits_out : (e : Engine) (st : State) → StandsFor e st → most_ids ≤ e.commit → Some (BaseLimit base_limits.Commits) ≡ commits_full st
commits_out e st stands le =
    sym (ap (λ (b : Bool). when b (BaseLimit base_limits.Commits)) (reached most_ids (current st).commit (rw (stands_commit e st stands) le)))

-- a limit that isn't passed has room
room_if : (b : Bool) (r : Refusal) → when b r ≡ None → b ≡ false
room_if true r none = absurd cc
room_if false r none = refl

pub rows_within : (st : State) (t : Table) (c : Changes) → rows_full st (Changed ((t.name, c) ∷ [])) ≡ None → row_count (committed (current st) (Changed ((t.name, c) ∷ []))) ≤ most_rows
rows_within st t c none = ltb-false most_rows _ (room_if _ (BaseLimit base_limits.Rows) none)

pub ids_within : (t : Table) (c : Changes) → ids_full t c ≡ None → (changed_by c t).next ≤ most_ids
ids_within t c none = ltb-false most_ids _ (room_if _ (BaseLimit base_limits.RowIds) none)

pub commits_within : (st : State) → commits_full st ≡ None → (current st).commit < most_ids
commits_within st none = leb-false most_ids _ (room_if _ (BaseLimit base_limits.Commits) none)

pub tables_within : (st : State) → tables_full st ≡ None → length (current st).tables < most_tables
tables_within st none = leb-false most_tables _ (room_if _ (Limit limits.Tables) none)
