-- Two rows and their completions.
use Rattle.std.proofs.Common.{◌≡◌, refl, sym, ◌∙◌, ap, ℕ, zero, suc, ◌+◌, ◌<◌, ◌≤◌, true, false, List, [], ◌∷◌, length, map, nat_lt, arith}
use Rattle.std.specs.List.{list_all}
use Rattle.std.proofs.lemmas.Bool.{and_parts, and_from, ltb-true}
use Rattle.pk_values.specs.declared.kind.Kind.{Kind}
use Rattle.pk_values.specs.declared.value.Value.{Value}
use Rattle.pk_values.specs.Values.{is_null, fits_kind, fits_kinds, value_at, blank}
use Rattle.pk_similar.specs.Completions.{CompletesRow, AgreeOn}
use Rattle.pk_similar.specs.Similarity.{are_below, weak_entries, strong_entries, weak, strong}
use Rattle.pk_similar.specs.Filling.{kind_at, known_or, fill_entry, fill_values}
use Rattle.pk_similar.proofs.EntryLemmas.{known_entry_stays, equal_entries_weak, strong_entries_known, fill_entry_turned, known_or_completes, known_or_kept, filled_known, weight, fresh, fresh_known, fresh_entries_strong}

-- what is known in a row stays in its completions
pub known_stays :
    (ks : List Kind) (row full : List Value) → CompletesRow ks row full → (c : ℕ) → is_null (value_at row c) ≡ false → value_at full c ≡ value_at row c
known_stays [] [] [] done c known = refl
known_stays [] [] (w ∷ ws) done c known = absurd done
known_stays [] (v ∷ vs) full done c known = absurd done
known_stays (k ∷ ks) [] full done c known = absurd done
known_stays (k ∷ ks) (v ∷ vs) [] done c known = absurd done
known_stays (k ∷ ks) (v ∷ vs) (w ∷ ws) done zero known = known_entry_stays k v w done.0 known
known_stays (k ∷ ks) (v ∷ vs) (w ∷ ws) done (suc c) known = known_stays ks vs ws done.1 c known

-- rows of which some completions agree are weakly similar
pub agree_weak :
    (ks : List Kind) (a b full other : List Value) → CompletesRow ks a full → CompletesRow ks b other
    → (cs : List ℕ) → AgreeOn cs full other → weak cs a b ≡ true
unfolding weak
agree_weak ks a b full other left right [] agree = refl
agree_weak ks a b full other left right (c ∷ cs) agree =
    and_from _ _
    (equal_entries_weak (value_at a c) (value_at b c) (value_at full c) (value_at other c)
    (known_stays ks a full left c) (known_stays ks b other right c) agree.0)
    (agree_weak ks a b full other left right cs agree.1)

-- strongly similar rows agree in every completion
pub strong_agree :
    (ks : List Kind) (a b full other : List Value) → CompletesRow ks a full → CompletesRow ks b other
    → (cs : List ℕ) → strong cs a b ≡ true → AgreeOn cs full other
unfolding strong
strong_agree ks a b full other left right [] similar = tt
strong_agree ks a b full other left right (c ∷ cs) similar =
    let parts = and_parts (strong_entries (value_at a c) (value_at b c)) (list_all (λ i. strong_entries (value_at a i) (value_at b i)) cs) similar in
    let known = strong_entries_known (value_at a c) (value_at b c) parts.0 in (
      known_stays ks a full left c known.0 ∙ known.2 ∙ sym (known_stays ks b other right c known.1),
      strong_agree ks a b full other left right cs parts.1,
    )

-- the first row, its nulls replaced by what the second knows, or else by blanks
abbrev pub merged : List Kind → List Value → List Value → List Value
merged [] a b = []
merged (k ∷ ks) [] b = []
merged (k ∷ ks) (v ∷ vs) [] = []
merged (k ∷ ks) (v ∷ vs) (w ∷ ws) = fill_entry k v w ∷ merged ks vs ws

pub merged_completes :
    (ks : List Kind) (a b : List Value) → fits_kinds ks a ≡ true → fits_kinds ks b ≡ true → CompletesRow ks a (merged ks a b)
merged_completes [] [] b left right = tt
merged_completes [] (v ∷ vs) b left right = cc
merged_completes (k ∷ ks) [] b left right = cc
merged_completes (k ∷ ks) (v ∷ vs) [] left right = cc
merged_completes (k ∷ ks) (v ∷ vs) (w ∷ ws) left right =
    let mine = and_parts (fits_kind k v) (fits_kinds ks vs) left in
    let other = and_parts (fits_kind k w) (fits_kinds ks ws) right in
    (known_or_completes k v (known_or w (blank k)) (λ _. filled_known k w other.0), merged_completes ks vs ws mine.1 other.1)

pub merged_at :
    (ks : List Kind) (a b : List Value) → fits_kinds ks a ≡ true → fits_kinds ks b ≡ true
    → (c : ℕ) → c < length ks → value_at (merged ks a b) c ≡ fill_entry (kind_at ks c) (value_at a c) (value_at b c)
merged_at [] a b left right c below = absurd (omega (arith, below))
merged_at (k ∷ ks) [] b left right c below = cc
merged_at (k ∷ ks) (v ∷ vs) [] left right c below = cc
merged_at (k ∷ ks) (v ∷ vs) (w ∷ ws) left right zero below = refl
merged_at (k ∷ ks) (v ∷ vs) (w ∷ ws) left right (suc c) below =
    merged_at ks vs ws (and_parts (fits_kind k v) (fits_kinds ks vs) left).1 (and_parts (fits_kind k w) (fits_kinds ks ws) right).1 c (omega (arith, below))

-- where entries are weakly similar, merging from either side gives the same
pub merged_turned :
    (ks : List Kind) (a b : List Value) (c : ℕ) → weak_entries (value_at a c) (value_at b c) ≡ true → value_at (merged ks a b) c ≡ value_at (merged ks b a) c
merged_turned [] a b c similar = refl
merged_turned (k ∷ ks) [] [] c similar = refl
merged_turned (k ∷ ks) [] (w ∷ ws) c similar = refl
merged_turned (k ∷ ks) (v ∷ vs) [] c similar = refl
merged_turned (k ∷ ks) (v ∷ vs) (w ∷ ws) zero similar = fill_entry_turned k v w similar
merged_turned (k ∷ ks) (v ∷ vs) (w ∷ ws) (suc c) similar = merged_turned ks vs ws c similar

-- weakly similar rows agree once they are merged
pub weak_merged_agree : (ks : List Kind) (a b : List Value) (cs : List ℕ) → weak cs a b ≡ true → AgreeOn cs (merged ks a b) (merged ks b a)
unfolding weak
weak_merged_agree ks a b [] similar = tt
weak_merged_agree ks a b (c ∷ cs) similar =
    let parts = and_parts (weak_entries (value_at a c) (value_at b c)) (list_all (λ i. weak_entries (value_at a i) (value_at b i)) cs) similar in
    (merged_turned ks a b c parts.0, weak_merged_agree ks a b cs parts.1)

-- the merged row has the values that are filled
pub merged_filled :
    (ks : List Kind) (a b : List Value) → fits_kinds ks a ≡ true → fits_kinds ks b ≡ true
    → (cs : List ℕ) → are_below (length ks) cs ≡ true → map (value_at (merged ks a b)) cs ≡ fill_values ks cs a b
unfolding fill_values
merged_filled ks a b left right [] below = refl
merged_filled ks a b left right (c ∷ cs) below =
    let parts = and_parts (nat_lt c (length ks)) (are_below (length ks) cs) below in
    ap (λ v. v ∷ map (value_at (merged ks a b)) cs) (merged_at ks a b left right c (ltb-true c (length ks) parts.0))
    ∙ ap (λ vs. fill_entry (kind_at ks c) (value_at a c) (value_at b c) ∷ vs) (merged_filled ks a b left right cs parts.1)

-- weakly similar rows are filled alike from both sides
pub filled_turned : (ks : List Kind) (a b : List Value) (cs : List ℕ) → weak cs a b ≡ true → fill_values ks cs a b ≡ fill_values ks cs b a
unfolding weak fill_values
filled_turned ks a b [] similar = refl
filled_turned ks a b (c ∷ cs) similar =
    let parts = and_parts (weak_entries (value_at a c) (value_at b c)) (list_all (λ i. weak_entries (value_at a i) (value_at b i)) cs) similar in
    ap (λ v. v ∷ fill_values ks cs a b) (fill_entry_turned (kind_at ks c) (value_at a c) (value_at b c) parts.0)
    ∙ ap (λ vs. fill_entry (kind_at ks c) (value_at b c) (value_at a c) ∷ vs) (filled_turned ks a b cs parts.1)

-- strongly similar rows have the values that are filled
pub strong_filled : (ks : List Kind) (a b : List Value) (cs : List ℕ) → strong cs a b ≡ true → map (value_at a) cs ≡ fill_values ks cs a b
unfolding strong fill_values
strong_filled ks a b [] similar = refl
strong_filled ks a b (c ∷ cs) similar =
    let parts = and_parts (strong_entries (value_at a c) (value_at b c)) (list_all (λ i. strong_entries (value_at a i) (value_at b i)) cs) similar in
    let known = strong_entries_known (value_at a c) (value_at b c) parts.0 in
    ap (λ v. v ∷ map (value_at a) cs) (sym (known_or_kept (value_at a c) (known_or (value_at b c) (blank (kind_at ks c))) known.0))
    ∙ ap (λ vs. fill_entry (kind_at ks c) (value_at a c) (value_at b c) ∷ vs) (strong_filled ks a b cs parts.1)

-- strongly similar rows have the same values
pub strong_same : (a b : List Value) (cs : List ℕ) → strong cs a b ≡ true → map (value_at a) cs ≡ map (value_at b) cs
unfolding strong
strong_same a b [] similar = refl
strong_same a b (c ∷ cs) similar =
    let parts = and_parts (strong_entries (value_at a c) (value_at b c)) (list_all (λ i. strong_entries (value_at a i) (value_at b i)) cs) similar in
    ap (λ v. v ∷ map (value_at a) cs) (strong_entries_known (value_at a c) (value_at b c) parts.0).2
    ∙ ap (λ vs. value_at b c ∷ vs) (strong_same a b cs parts.1)

-- how heavy a row is
abbrev pub row_weight : List Value → ℕ
row_weight [] = 0
row_weight (v ∷ vs) = weight v + row_weight vs

pub weight_at : (row : List Value) (c : ℕ) → weight (value_at row c) ≤ row_weight row
weight_at [] c = omega arith
weight_at (v ∷ vs) zero = omega arith
weight_at (v ∷ vs) (suc c) = let later = weight_at vs c in omega (arith, later)

-- the row, its nulls replaced by values of the weight n
abbrev pub freshened : List Kind → ℕ → List Value → List Value
freshened [] n row = []
freshened (k ∷ ks) n [] = []
freshened (k ∷ ks) n (v ∷ vs) = known_or v (fresh k n) ∷ freshened ks n vs

pub freshened_completes : (ks : List Kind) (n : ℕ) (row : List Value) → fits_kinds ks row ≡ true → CompletesRow ks row (freshened ks n row)
freshened_completes [] n [] fits = tt
freshened_completes [] n (v ∷ vs) fits = cc
freshened_completes (k ∷ ks) n [] fits = cc
freshened_completes (k ∷ ks) n (v ∷ vs) fits =
    (known_or_completes k v (fresh k n) (λ _. fresh_known k n), freshened_completes ks n vs (and_parts (fits_kind k v) (fits_kinds ks vs) fits).1)

pub freshened_at :
    (ks : List Kind) (n : ℕ) (row : List Value) → fits_kinds ks row ≡ true
    → (c : ℕ) → c < length ks → value_at (freshened ks n row) c ≡ known_or (value_at row c) (fresh (kind_at ks c) n)
freshened_at [] n row fits c below = absurd (omega (arith, below))
freshened_at (k ∷ ks) n [] fits c below = cc
freshened_at (k ∷ ks) n (v ∷ vs) fits zero below = refl
freshened_at (k ∷ ks) n (v ∷ vs) fits (suc c) below =
    freshened_at ks n vs (and_parts (fits_kind k v) (fits_kinds ks vs) fits).1 c (omega (arith, below))

-- rows that agree, with nulls replaced by values heavier than both and of two weights, are strongly similar
pub freshened_strong :
    (ks : List Kind) (a b : List Value) (i j : ℕ) → fits_kinds ks a ≡ true → fits_kinds ks b ≡ true → row_weight a < i → row_weight b < i → i < j
    → (cs : List ℕ) → are_below (length ks) cs ≡ true → AgreeOn cs (freshened ks i a) (freshened ks j b) → strong cs a b ≡ true
unfolding strong
freshened_strong ks a b i j left right light_a light_b apart [] below agree = refl
freshened_strong ks a b i j left right light_a light_b apart (c ∷ cs) below agree =
    let parts = and_parts (nat_lt c (length ks)) (are_below (length ks) cs) below in
    let low = ltb-true c (length ks) parts.0 in
    let mine = weight_at a c in
    let other = weight_at b c in
    and_from _ _
    (fresh_entries_strong (kind_at ks c) (value_at a c) (value_at b c) i j (omega (arith, mine, light_a)) (omega (arith, other, light_b)) apart
    (sym (freshened_at ks i a left c low) ∙ agree.0 ∙ freshened_at ks j b right c low))
    (freshened_strong ks a b i j left right light_a light_b apart cs parts.1 agree.1)
