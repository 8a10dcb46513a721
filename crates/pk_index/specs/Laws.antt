-- What holds of projections, and of similarity on the values that an index keeps.
use Rattle.std.specs.Prelude.{◌≡◌, ℕ, List, IsTrue}
use Rattle.pk_values.specs.declared.value.Value.{Value}
use Rattle.pk_values.specs.Records.{AreStorable}
use Rattle.pk_similar.specs.Similarity.{weak, strong}
use Rattle.pk_index.specs.Rows.{values_on, all_weak, all_strong, is_known_outside, is_weak_with}
use Rattle.pk_index.specs.Filing.{is_filed, probe_record}

-- Two rows are weakly similar on the columns of a key just where their values on them are.
abbrev pub WeakIsOfValues : Type 0
WeakIsOfValues = (cs : List ℕ) (a b : List Value) → weak cs a b ≡ all_weak (values_on cs a) (values_on cs b)

-- The same of strong similarity.
abbrev pub StrongIsOfValues : Type 0
StrongIsOfValues = (cs : List ℕ) (a b : List Value) → strong cs a b ≡ all_strong (values_on cs a) (values_on cs b)

-- A row is filed under the bytes that a look-up asks for just where it is as asked: null on the columns of the pattern alone,
-- and weakly similar to the probe.
abbrev pub FilingTellsRows : Type 0
FilingTellsRows =
    (nullable pattern : ℕ) (cs : List ℕ) (vs probe : List Value)
    → AreStorable vs → AreStorable (values_on cs probe) → IsTrue (is_known_outside nullable cs probe)
    → is_filed nullable cs vs (probe_record pattern cs probe) ≡ is_weak_with pattern cs probe vs
