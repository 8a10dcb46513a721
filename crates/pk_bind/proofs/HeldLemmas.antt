-- A row is admitted where each column may hold its value and it isn't too long, and only there.
use Rattle.std.proofs.Common.{◌≡◌, refl, ap, Bool, true, false, cond, ◌&&◌, not, List, [], ◌∷◌, length, Option, Some, None, nat_le}
use Rattle.std.specs.Prelude.{◌==◌}
use Rattle.std.specs.List.{list_all, zip}
use Rattle.std.proofs.lemmas.Bool.{and_parts, and_from, eqb-true, eq-eqb}
use Rattle.pk_values.specs.declared.value.Value.{Value}
use Rattle.pk_values.specs.Records.{row_record}
use Rattle.pk_syntax.specs.declared.declaration.ColumnDecl.{ColumnDecl}
use Rattle.pk_syntax.specs.Declarations.{first_of}
use Rattle.pk_schema.specs.declared.admitting.RowFault.TheVariants.{Width, Size}
use Rattle.pk_schema.specs.Shapes.{Shape}
use Rattle.pk_schema.specs.Admits.{has_other_kind, is_long, is_missing, first_wrong, width_fault, size_fault, row_fault, Admits}
use Rattle.pk_bind.specs.Fitting.{may_hold}
use Rattle.pk_values.proofs.ListLemmas.{all_weaker, no_place, none_passes, map_none}

-- each column may hold its value
abbrev pub held : List ColumnDecl → List Value → Bool
held columns row = list_all (λ pair. may_hold pair.0 pair.1) (zip columns row)

-- ---- none is wrong

all_three : {X : Type 0} (p q r : X → Bool) (xs : List X) → list_all p xs ≡ true → list_all q xs ≡ true → list_all r xs ≡ true
    → list_all (λ x. p x && q x && r x) xs ≡ true
all_three p q r [] first second third = refl
all_three p q r (x ∷ xs) first second third =
    let a = and_parts (p x) (list_all p xs) first in
    let b = and_parts (q x) (list_all q xs) second in
    let c = and_parts (r x) (list_all r xs) third in
    and_from (p x && q x && r x) _ (and_from (p x && q x) (r x) (and_from (p x) (q x) a.0 b.0) c.0) (all_three p q r xs a.1 b.1 c.1)

-- ---- rows

no_wrong : (wrong : ColumnDecl → Value → Bool) → ((c : ColumnDecl) (v : Value) → may_hold c v ≡ true → not (wrong c v) ≡ true)
    → (columns : List ColumnDecl) (row : List Value) → held columns row ≡ true → first_wrong wrong columns row ≡ None
unfolding first_wrong
no_wrong wrong so columns row all =
    no_place (λ pair. wrong pair.0 pair.1) (zip columns row)
    (all_weaker (λ pair. may_hold pair.0 pair.1) (λ pair. not (wrong pair.0 pair.1)) (λ pair. so pair.0 pair.1) (zip columns row) all)

none_wrong : (wrong : ColumnDecl → Value → Bool) (columns : List ColumnDecl) (row : List Value) → first_wrong wrong columns row ≡ None
    → list_all (λ pair. not (wrong pair.0 pair.1)) (zip columns row) ≡ true
unfolding first_wrong
none_wrong wrong columns row free = none_passes (λ pair. wrong pair.0 pair.1) (zip columns row) free

pub three : (c : ColumnDecl) (v : Value) → may_hold c v ≡ true
    → (not (has_other_kind c v) ≡ true) × (not (is_long c v) ≡ true) × (not (is_missing c v) ≡ true)
three c v holds =
    let two = and_parts (not (has_other_kind c v) && not (is_long c v)) (not (is_missing c v)) holds in
    let each = and_parts (not (has_other_kind c v)) (not (is_long c v)) two.0 in
    (each.0, each.1, two.1)

wide_enough : (columns : List ColumnDecl) (row : List Value) → length row ≡ length columns → width_fault columns row ≡ None
unfolding width_fault
wide_enough columns row same = ap (λ b. cond b None (Some (Width (length row)))) (eq-eqb (length row) (length columns) same)

small_enough : (row : List Value) → nat_le (length (row_record row)) 4000 ≡ true → size_fault row ≡ None
unfolding size_fault
small_enough row small = ap (λ b. cond b None (Some (Size (length (row_record row))))) small

-- a row is admitted whose values the columns may hold
pub held_admits : (s : Shape) (row : List Value) → length row ≡ length s.columns → held s.columns row ≡ true
    → nat_le (length (row_record row)) 4000 ≡ true → Admits s row
unfolding row_fault
held_admits s row same all small =
    let kinds = no_wrong has_other_kind (λ c v holds. (three c v holds).0) s.columns row all in
    let lengths = no_wrong is_long (λ c v holds. (three c v holds).1) s.columns row all in
    let nulls = no_wrong is_missing (λ c v holds. (three c v holds).2) s.columns row all in
    rw (wide_enough s.columns row same, kinds, lengths, nulls, small_enough row small) refl

first_none : {A : Type 0} (o : Option A) (os : List (Option A)) → first_of (o ∷ os) ≡ None → (o ≡ None) × (first_of os ≡ None)
first_none None os free = (refl, free)
first_none (Some x) os free = absurd cc

pub no_other : {X : Type 0} (b : Bool) (x : X) → cond b None (Some x) ≡ None → b ≡ true
no_other true x free = refl
no_other false x free = cc

of_width : (columns : List ColumnDecl) (row : List Value) → width_fault columns row ≡ None → length row ≡ length columns
unfolding width_fault
of_width columns row free = eqb-true (length row) (length columns) (no_other (length row == length columns) _ free)

-- the columns may hold the values of a row that is admitted
pub admits_held : (s : Shape) (row : List Value) → Admits s row → (length row ≡ length s.columns) × (held s.columns row ≡ true)
unfolding row_fault
admits_held s row admitted =
    let width = first_none _ _ admitted in
    let kind = first_none _ _ width.1 in
    let long = first_none _ _ kind.1 in
    let null = first_none _ _ long.1 in (
      of_width s.columns row width.0,
      all_three (λ pair. not (has_other_kind pair.0 pair.1)) (λ pair. not (is_long pair.0 pair.1)) (λ pair. not (is_missing pair.0 pair.1)) (zip s.columns row)
          (none_wrong has_other_kind s.columns row (map_none _ _ kind.0))
          (none_wrong is_long s.columns row (map_none _ _ long.0))
          (none_wrong is_missing s.columns row (map_none _ _ null.0)),
    )
