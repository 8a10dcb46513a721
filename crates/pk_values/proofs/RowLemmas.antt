-- Values by their places.
use Rattle.std.proofs.Common.{◌≡◌, ℕ, zero, suc, List, [], ◌∷◌, Some, slice_get}
use Rattle.pk_values.specs.declared.value.Value.{Value}
use Rattle.pk_values.specs.Values.{value_at}

-- a row's value in a column that it has
pub value_read : (row : List Value) (c : ℕ) (v : Value) → slice_get row c ≡ Some v → value_at row c ≡ v
value_read [] c v found = cc
value_read (w ∷ ws) zero v found = cc
value_read (w ∷ ws) (suc c) v found = value_read ws c v found
