-- Keys of a table before and after changes.
use Rattle.std.proofs.Common.{◌≡◌, ℕ, ◌+◌, List, [], ◌∷◌, get_or, Option, Some, None, refl, ap}
use Rattle.std.specs.Option.{option_map}
use Rattle.std.specs.List.{All}
use Rattle.pk_values.specs.declared.broken.Break.{Break}
use Rattle.pk_values.specs.declared.changes.Changes.{Changes}
use Rattle.pk_values.specs.declared.key.KeyDecl.{KeyDecl}
use Rattle.pk_values.specs.declared.key.Sort.{Sort}
use Rattle.pk_values.specs.declared.key.Sort.TheVariants.{Certain, Possible}
use Rattle.pk_values.specs.declared.kind.Kind.{Kind}
use Rattle.pk_values.specs.declared.placed.Placed.{Placed}
use Rattle.pk_values.specs.declared.refusal.Refusal.{Refusal}
use Rattle.pk_values.specs.declared.refusal.Refusal.TheVariants.{BrokenKey}
use Rattle.pk_values.specs.declared.value.Value.{Value}
use Rattle.pk_values.specs.ColumnSet.{columns}
use Rattle.pk_similar.specs.Completions.{Completes, NoneAgree}
use Rattle.pk_rule.specs.Tables.{HoldsAs}
use Rattle.pk_schema.specs.Shapes.{Shape, IsShape, kinds_of}
use Rattle.pk_schema.specs.Admits.{Admits}
use Rattle.pk_guard.specs.Breaks.{first_pair, first_broken, first_break}
use Rattle.pk_guard.specs.Changed.{changed_rows}
use Rattle.pk_guard.specs.Holds.{KeysHold}
use Rattle.pk_guard.specs.Laws.{KeysHoldWhereNothingBreaks}
use Rattle.pk_engine.specs.Base.{Table, changed_by}
use Rattle.pk_engine.specs.Keys.{key_broken}

none_broken_in_none : (kinds : List Kind) (place : ℕ) (ks : List KeyDecl) → first_broken kinds place ks [] ≡ None
unfolding first_broken first_pair
none_broken_in_none kinds place [] = refl
none_broken_in_none kinds place (k ∷ ks) = none_broken_in_none kinds (place + 1) ks

pub no_rows_break : (s : Shape) → first_break s [] ≡ None
unfolding first_break
no_rows_break s = none_broken_in_none (kinds_of s.columns) 1 s.keys

none_holds : (sort : Sort) (kinds : List Kind) (cs : List ℕ) → HoldsAs sort kinds [] cs
none_holds Certain kinds cs = none_agree
  where
    none_agree : (full : List (List Value)) → Completes kinds [] full → NoneAgree cs full
    none_agree [] done = tt
    none_agree (row ∷ rows) done = absurd done
none_holds Possible kinds cs = ([], tt, tt)

-- keys hold where there is no row
pub no_rows_hold : (s : Shape) → KeysHold s []
no_rows_hold s = λ i d within. none_holds (get_or s.keys i d).sort (kinds_of s.columns) (columns (get_or s.keys i d).columns)

none_mapped : (f : Break → Refusal) (o : Option Break) → option_map f o ≡ None → o ≡ None
none_mapped f None none = refl
none_mapped f (Some b) none = absurd cc

-- a table that is refused for no key keeps all of them
pub unbroken_hold : KeysHoldWhereNothingBreaks → (t : Table) → IsShape t.shape → All (λ (p : Placed). Admits t.shape p.row) t.rows → key_broken t ≡ None → KeysHold t.shape t.rows
unfolding key_broken
unbroken_hold keys t shape rows free = (keys t.shape t.rows shape rows).1 (none_mapped (BrokenKey t.name) (first_break t.shape t.rows) free)

-- and one that keeps them is refused for none
pub held_unbroken : KeysHoldWhereNothingBreaks → (t : Table) → IsShape t.shape → All (λ (p : Placed). Admits t.shape p.row) t.rows → KeysHold t.shape t.rows → key_broken t ≡ None
unfolding key_broken
held_unbroken keys t shape rows held = ap (option_map (BrokenKey t.name)) ((keys t.shape t.rows shape rows).0 held)

-- the break of the rows with changes is that of the table with them
pub broken_by : (t : Table) (c : Changes) (o : Option Break) → o ≡ first_break t.shape (changed_rows c t.rows) → option_map (BrokenKey t.name) o ≡ key_broken (changed_by c t)
unfolding key_broken changed_by
broken_by t c o is = ap (option_map (BrokenKey t.name)) is
