-- Distinct names of columns tell their places.
use Rattle.std.proofs.Common.{◌≡◌, refl, sym, ◌∙◌, ap, subst, ℕ, zero, suc, ◌+◌, ◌^◌, ◌<◌, ◌≤◌, ◌==◌, Bool, true, false, ◌||◌, List, [], ◌∷◌, ◌++◌, Option, Some, None, length, map, inl, inr, if◌then◌else◌, nat_lt, arith}
use Rattle.std.specs.List.{filter, list_all, list_any, range_with_len}
use Rattle.std.specs.Str.{bytes_eq}
use Rattle.std.proofs.lemmas.Bool.{and_parts, cases_Bool, cases_lt, leb-true, ne_eqb}
use Rattle.std.proofs.lemmas.List.Folds.{list_any-append}
use Rattle.std.proofs.lemmas.Nat.Bits.{bit_at_above}
use Rattle.std.proofs.lemmas.Slice.Eq.{bytes_eq-Decides}
use Rattle.pk_values.specs.ColumnSet.{has_column, columns}
use Rattle.pk_values.proofs.ColumnLemmas.{listed_columns, same_set, columns_below, set_bounded}
use Rattle.pk_syntax.specs.declared.declaration.ColumnDecl.{ColumnDecl}
use Rattle.pk_syntax.specs.Declarations.{has_name, names_of, twice, twice_behind, in_column_order}
use Rattle.pk_schema.specs.Shapes.{named_of, name_at, names_at}
use Rattle.pk_schema.proofs.CountLemmas.{passes_at, has_where, none_kept}
use Rattle.pk_schema.proofs.SetLemmas.{equal_next}
use Rattle.std.proofs.Math.Bool.{or-true}

-- ---- names

name_itself : (a : List ℕ) → bytes_eq a a ≡ true
name_itself a = (bytes_eq-Decides a a).1 refl

name_turned : (a b : List ℕ) → bytes_eq a b ≡ false → bytes_eq b a ≡ false
name_turned a b differ = elim (cases_Bool (bytes_eq b a)) [
  | inl same ↦ absurd (differs a b differ ((bytes_eq-Decides b a).0 same))
  | inr other ↦ other
]
  where
    true_false : true ≡ false → ⊥
    true_false same = cc

    differs : (a b : List ℕ) → bytes_eq a b ≡ false → b ≡ a → ⊥
    differs a b differ same = true_false (sym ((bytes_eq-Decides a b).1 (sym same)) ∙ differ)

not_either : (a b : Bool) → (a || b) ≡ false → (a ≡ false) × (b ≡ false)
not_either false false none = (refl, refl)
not_either false true none = absurd (cc)
not_either true b none = absurd (cc)

unless_twice : (b : Bool) (n : List ℕ) (o : Option (List ℕ)) → if b then Some n else o ≡ None → (b ≡ false) × (o ≡ None)
unless_twice true n o none = absurd (cc)
unless_twice false n o none = (refl, none)

-- a name that stands behind others is none of them
behind_others : (before : List (List ℕ)) (cols : List ColumnDecl) (k : ℕ) → twice_behind before (names_of cols) ≡ None → k < length cols
    → has_name before (name_at cols k) ≡ false
behind_others before [] k none within = absurd (omega (arith, within))
behind_others before (c ∷ cs) zero none within = (unless_twice (has_name before c.name) c.name _ none).0
behind_others before (c ∷ cs) (suc k) none within =
    let later = behind_others (before ++ c.name ∷ []) cs k (unless_twice (has_name before c.name) c.name _ none).1 (omega (arith, within)) in
    (not_either _ _ (sym (list_any-append (λ n. bytes_eq n (name_at cs k)) before (c.name ∷ [])) ∙ later)).0

-- and differs from the one that stands first
behind_first : (before : List (List ℕ)) (c : ColumnDecl) (cs : List ColumnDecl) (k : ℕ) → twice_behind (before ++ c.name ∷ []) (names_of cs) ≡ None → k < length cs
    → bytes_eq c.name (name_at cs k) ≡ false
behind_first before c cs k none within =
    let parts = not_either _ _ (sym (list_any-append (λ n. bytes_eq n (name_at cs k)) before (c.name ∷ [])) ∙ behind_others (before ++ c.name ∷ []) cs k none within) in
    (not_either (bytes_eq c.name (name_at cs k)) false parts.1).0

pub places_told : (before : List (List ℕ)) (cols : List ColumnDecl) (j k : ℕ) → twice_behind before (names_of cols) ≡ None → j < length cols → k < length cols
    → bytes_eq (name_at cols j) (name_at cols k) ≡ (j == k)
places_told before [] j k none left right = absurd (omega (arith, left))
places_told before (c ∷ cs) zero zero none left right = name_itself c.name
places_told before (c ∷ cs) zero (suc k) none left right =
    behind_first before c cs k (unless_twice (has_name before c.name) c.name _ none).1 (omega (arith, right)) ∙ sym (ne_eqb 0 (suc k) (λ same. absurd (omega (arith, same))))
places_told before (c ∷ cs) (suc j) zero none left right =
    name_turned c.name (name_at cs j) (behind_first before c cs j (unless_twice (has_name before c.name) c.name _ none).1 (omega (arith, left)))
    ∙ sym (ne_eqb (suc j) 0 (λ same. absurd (omega (arith, same))))
places_told before (c ∷ cs) (suc j) (suc k) none left right =
    places_told (before ++ c.name ∷ []) cs j k (unless_twice (has_name before c.name) c.name _ none).1 (omega (arith, left)) (omega (arith, right)) ∙ sym (equal_next j k)

-- ---- the names of a set

has_listed : (cols : List ColumnDecl) (ks : List ℕ) (k : ℕ) → twice (names_of cols) ≡ None → list_all (λ j. nat_lt j (length cols)) ks ≡ true → k < length cols
    → has_name (map (name_at cols) ks) (name_at cols k) ≡ list_any (λ j. j == k) ks
has_listed cols [] k distinct below within = refl
has_listed cols (j ∷ js) k distinct below within =
    let parts = and_parts _ _ below in
    rw (places_told [] cols j k distinct (leb-true _ _ parts.0) within, has_listed cols js k distinct parts.1 within) refl

-- the columns of the set are those whose names are among its names
pub has_named : (cols : List ColumnDecl) (set k : ℕ) → length cols ≤ 32 → twice (names_of cols) ≡ None → set < 2 ^ length cols → k < length cols
    → has_name (names_at cols set) (name_at cols k) ≡ has_column set k
has_named cols set k few distinct small within =
    has_listed cols (columns set) k distinct (columns_below set (length cols) small) within ∙ listed_columns set k (set_bounded set (length cols) few small)

passes_named : (q : List ℕ → Bool) (cols : List ColumnDecl) (k : ℕ) → k < length cols → passes_at (λ (c : ColumnDecl). q c.name) cols k ≡ q (name_at cols k)
passes_named q [] k within = absurd (omega (arith, within))
passes_named q (c ∷ cs) zero within = refl
passes_named q (c ∷ cs) (suc k) within = passes_named q cs k (omega (arith, within))

passes_past : (p : ColumnDecl → Bool) (cols : List ColumnDecl) (k : ℕ) → length cols ≤ k → passes_at p cols k ≡ false
passes_past p [] k past = refl
passes_past p (c ∷ cs) zero past = absurd (omega (arith, past))
passes_past p (c ∷ cs) (suc k) past = passes_past p cs k (omega (arith, past))

-- whether the column at a place has one of the names of the set
pub passes_set : (cols : List ColumnDecl) (set k : ℕ) → length cols ≤ 32 → twice (names_of cols) ≡ None → set < 2 ^ length cols
    → passes_at (λ (c : ColumnDecl). has_name (names_at cols set) c.name) cols k ≡ has_column set k
passes_set cols set k few distinct small =
    elim (cases_lt k (length cols)) [
      | inl low ↦ passes_named (has_name (names_at cols set)) cols k low ∙ has_named cols set k few distinct small low
      | inr high ↦ passes_past _ cols k high ∙ sym (rw (bit_at_above set (length cols) k small high) refl)
    ]

-- the set of the columns of these names is the set again
pub set_again : (cols : List ColumnDecl) (set : ℕ) → length cols ≤ 32 → twice (names_of cols) ≡ None → set < 2 ^ length cols → named_of cols (names_at cols set) ≡ set
set_again cols set few distinct small =
    same_set (named_of cols (names_at cols set)) set
    (λ k. has_where (λ (c : ColumnDecl). has_name (names_at cols set) c.name) cols k ∙ passes_set cols set k few distinct small)

-- ---- the order of the names

names_kept : (q : List ℕ → Bool) (cs : List ColumnDecl) (test : ℕ → Bool) (name : ℕ → List ℕ) (a m : ℕ) → length cs ≤ m
    → ((k : ℕ) → test (a + k) ≡ passes_at (λ (c : ColumnDecl). q c.name) cs k) → ((k : ℕ) → k < length cs → name (a + k) ≡ name_at cs k)
    → filter q (names_of cs) ≡ map name (filter test (range_with_len a m))
names_kept q [] test name a m fits same named = sym (ap (map name) (none_kept test a m same))
names_kept q (c ∷ cs) test name a zero fits same named = absurd (omega (arith, fits))
names_kept q (c ∷ cs) test name a (suc m) fits same named =
    let here : test a ≡ q c.name = subst (λ n. test n ≡ q c.name) (omega arith) (same 0) in
    let first : name a ≡ c.name = subst (λ n. name n ≡ c.name) (omega arith) (named 0 (omega arith)) in
    let rest = names_kept q cs test name (a + 1) m (omega (arith, fits))
    (λ k. subst (λ n. test n ≡ passes_at (λ (d : ColumnDecl). q d.name) cs k) (omega arith) (same (suc k)))
    (λ k within. subst (λ n. name n ≡ name_at cs k) (omega arith) (named (suc k) (omega (arith, within)))) in
    elim (cases_Bool (q c.name)) [
      | inl holds ↦ rw (here, holds, first) (ap (λ ns. c.name ∷ ns) rest)
      | inr fails ↦ rw (here, fails) rest
    ]

pub ordered : (cols : List ColumnDecl) (set : ℕ) → length cols ≤ 32 → twice (names_of cols) ≡ None → set < 2 ^ length cols
    → in_column_order cols (names_at cols set) ≡ names_at cols set
unfolding columns
ordered cols set few distinct small =
    names_kept (has_name (names_at cols set)) cols (has_column set) (name_at cols) 0 32 few
    (λ k. ap (has_column set) (zero_add k) ∙ sym (passes_set cols set k few distinct small)) (λ k within. ap (name_at cols) (zero_add k))
  where
    zero_add : (k : ℕ) → 0 + k ≡ k
    zero_add k = omega arith

-- ---- no name twice

fewer_twice : (q : List ℕ → Bool) (before fewer : List (List ℕ)) (ns : List (List ℕ)) → ((n : List ℕ) → has_name before n ≡ false → has_name fewer n ≡ false)
    → twice_behind before ns ≡ None → twice_behind fewer (filter q ns) ≡ None
fewer_twice q before fewer [] inside none = refl
fewer_twice q before fewer (n ∷ ns) inside none =
    let parts = unless_twice (has_name before n) n _ none in
    elim (cases_Bool (q n)) [
      | inl holds ↦ rw (holds, inside n parts.0) (fewer_twice q (before ++ n ∷ []) (fewer ++ n ∷ []) ns (λ m lacks. with_both m lacks) parts.1)
      | inr fails ↦ rw fails (fewer_twice q (before ++ n ∷ []) fewer ns (λ m lacks. with_one m lacks) parts.1)
    ]
  where
    split : (m : List ℕ) → has_name (before ++ n ∷ []) m ≡ false → (has_name before m ≡ false) × (has_name (n ∷ []) m ≡ false)
    split m lacks = not_either _ _ (sym (list_any-append (λ x. bytes_eq x m) before (n ∷ [])) ∙ lacks)

    with_both : (m : List ℕ) → has_name (before ++ n ∷ []) m ≡ false → has_name (fewer ++ n ∷ []) m ≡ false
    with_both m lacks = list_any-append (λ x. bytes_eq x m) fewer (n ∷ []) ∙ rw (inside m (split m lacks).0) (split m lacks).1

    with_one : (m : List ℕ) → has_name (before ++ n ∷ []) m ≡ false → has_name fewer m ≡ false
    with_one m lacks = inside m (split m lacks).0

pub not_twice : (cols : List ColumnDecl) (set : ℕ) → length cols ≤ 32 → twice (names_of cols) ≡ None → set < 2 ^ length cols → twice (names_at cols set) ≡ None
not_twice cols set few distinct small =
    ap twice (sym (ordered cols set few distinct small)) ∙ fewer_twice (has_name (names_at cols set)) [] [] (names_of cols) (λ n lacks. lacks) distinct

-- ---- what holds of the names of all columns holds of those of a set

pub at_each : (p : List ℕ → Bool) (cols : List ColumnDecl) (k : ℕ) → list_all p (names_of cols) ≡ true → k < length cols → p (name_at cols k) ≡ true
at_each p [] k all within = absurd (omega (arith, within))
at_each p (c ∷ cs) zero all within = (and_parts (p c.name) _ all).0
at_each p (c ∷ cs) (suc k) all within = at_each p cs k (and_parts (p c.name) _ all).1 (omega (arith, within))

pub at_listed : (p : List ℕ → Bool) (cols : List ColumnDecl) (ks : List ℕ) → ((k : ℕ) → k < length cols → p (name_at cols k) ≡ true)
    → list_all (λ j. nat_lt j (length cols)) ks ≡ true → list_all p (map (name_at cols) ks) ≡ true
at_listed p cols [] each below = refl
at_listed p cols (j ∷ js) each below =
    let parts = and_parts (nat_lt j (length cols)) _ below in
    rw (each j (leb-true _ _ parts.0)) (at_listed p cols js each parts.1)

pub at_set : (p : List ℕ → Bool) (cols : List ColumnDecl) (set : ℕ) → ((k : ℕ) → k < length cols → p (name_at cols k) ≡ true) → set < 2 ^ length cols
    → list_all p (names_at cols set) ≡ true
at_set p cols set each small = at_listed p cols (columns set) each (columns_below set (length cols) small)

-- each name of a column is one
pub is_named : (cols : List ColumnDecl) (k : ℕ) → k < length cols → has_name (names_of cols) (name_at cols k) ≡ true
is_named [] k within = absurd (omega (arith, within))
is_named (c ∷ cs) zero within = rw (name_itself c.name) refl
is_named (c ∷ cs) (suc k) within = rw (is_named cs k (omega (arith, within))) (or-true (bytes_eq c.name (name_at cs k)))
