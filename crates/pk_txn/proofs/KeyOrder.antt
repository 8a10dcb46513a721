-- The order of rows, by table and then by id.
use Rattle.std.proofs.Common.{◌≡◌, ℕ, ◌<◌, ◌≤◌, true, false, sym, refl, ap, ◌∙◌, arith}
use Rattle.std.specs.Cmp.{IsTotalOrder}
use Rattle.std.specs.Ordering.{nat_cmp, ordering_then, is_eq, is_gt}
use Rattle.std.specs.BTreeMap.{is_at}
use Rattle.std.specs.declared.cmp.Ordering.{Ordering}
use Rattle.std.specs.declared.cmp.Ordering.TheVariants.{Less, Equal, Greater}
use Rattle.std.proofs.lemmas.Cmp.{nat_cmp_total, on_total, then_total, tied_itself, ranked}
use Rattle.std.specs.Cmp.{nat_cmp_is}
use Rattle.std.proofs.lemmas.Map.Lookups.{CmpEqualImpliesEq, exact_unsigned, exact_pairs}
use Rattle.pk_txn.specs.declared.row_key.RowKey.{RowKey}
use Rattle.pk_txn.specs.Images.{key_cmp}

pub key_total : IsTotalOrder key_cmp
key_total = then_total (on_total (λ k. k.table) nat_cmp_total) (on_total (λ k. k.id) nat_cmp_total)

-- keys that compare alike are one
pub key_exact : CmpEqualImpliesEq key_cmp
key_exact a b h =
    ap (λ (p : ℕ × ℕ). record { table = p.0; id = p.1 }) (exact_pairs nat_cmp nat_cmp exact_unsigned exact_unsigned (a.table, a.id) (b.table, b.id) h)

abbrev pub key : ℕ → ℕ → RowKey
key table id = record { table = table; id = id }

same_table : (t i n : ℕ) → key_cmp (key t i) (key t n) ≡ nat_cmp i n
same_table t i n = ap (λ r. ordering_then r (nat_cmp i n)) (tied_itself nat_cmp_total t)

pub less_key : (t i n : ℕ) → i < n → key_cmp (key t i) (key t n) ≡ Less
less_key t i n h = same_table t i n ∙ sym (nat_cmp_is i n Less h)

pub key_less : (t i n : ℕ) → key_cmp (key t i) (key t n) ≡ Less → i < n
key_less t i n h = ranked i n Less (sym h ∙ same_table t i n)

at_most : (r : Ordering) (i n : ℕ) → r ≡ nat_cmp i n → is_gt r ≡ false → i ≤ n
at_most Less i n e h = let l : i < n = ranked i n Less e in omega arith
at_most Equal i n e h = let l : i ≡ n = ranked i n Equal e in omega arith
at_most Greater i n e h = cc

pub key_at_most : (t i n : ℕ) → is_gt (key_cmp (key t i) (key t n)) ≡ false → i ≤ n
key_at_most t i n h = at_most _ i n (same_table t i n) h

-- what isn't above by the first order isn't above
first_at_most : (r s : Ordering) (i n : ℕ) → r ≡ nat_cmp i n → is_gt (ordering_then r s) ≡ false → i ≤ n
first_at_most Less s i n e h = let l : i < n = ranked i n Less e in omega arith
first_at_most Equal s i n e h = let l : i ≡ n = ranked i n Equal e in omega arith
first_at_most Greater s i n e h = cc

pub tables_at_most : (a b : RowKey) → is_gt (key_cmp a b) ≡ false → a.table ≤ b.table
tables_at_most a b h = first_at_most (nat_cmp a.table b.table) _ a.table b.table refl h

pub is_equal : (r : Ordering) → is_eq r ≡ true → r ≡ Equal
is_equal Less h = cc
is_equal Equal h = refl
is_equal Greater h = cc

pub at_key : (k q : RowKey) → is_at (key_cmp k) q ≡ true → k ≡ q
at_key k q h = key_exact k q (is_equal _ h)

pub itself : (k : RowKey) → is_at (key_cmp k) k ≡ true
itself k = ap is_eq (tied_itself key_total k)
