-- A set of names gains names one by one.
use Rattle.std.proofs.Common.{◌≡◌, ℕ, ◌+◌, ◌<◌, Bool, true, false, cond, ◌||◌, List, [], ◌∷◌, length, get_or, take, refl, sym, ap, ◌∙◌}
use Rattle.std.specs.Borrow.{Bor}
use Rattle.std.specs.Ordering.{nat_cmp, is_eq}
use Rattle.std.specs.Cmp.Lexicographic.{slice_cmp}
use Rattle.std.specs.List.{list_any}
use Rattle.std.specs.Str.{bytes_eq}
use Rattle.std.specs.BTreeSet.{BTreeSet, Updates}
use Rattle.std.proofs.lemmas.List.{take_more}
use Rattle.std.proofs.lemmas.List.Folds.{list_any-append}
use Rattle.std.proofs.lemmas.Map.Text.{is_eq-slice_cmp}
use Rattle.pk_values.specs.NameSets.{has_name}

either : (a b : Bool) → cond a true b ≡ (a || b)
either true b = refl
either false b = refl

-- with one more name the set has that name and those that it had
pub set_gains : (name : Bor (List ℕ)) (old new : BTreeSet (Bor (List ℕ))) (column : List ℕ) → Updates (λ (a b : Bor (List ℕ)). slice_cmp nat_cmp a.now b.now) old new name true → has_name new column ≡ (bytes_eq name.now column || has_name old column)
set_gains name old new column updates =
    updates.0 (record name { now = column }) ∙ either (is_eq (slice_cmp nat_cmp name.now column)) (has_name old column) ∙ ap (λ b. b || has_name old column) (is_eq-slice_cmp name.now column)

to_the_end : (a b t : Bool) → (a || (b || t)) ≡ (b || (t || (a || false)))
to_the_end true true t = refl
to_the_end true false true = refl
to_the_end true false false = refl
to_the_end false true t = refl
to_the_end false false true = refl
to_the_end false false false = refl

-- the names so far, and one more
pub name_added : (columns : List (List ℕ)) (i : ℕ) (d : List ℕ) (name : Bor (List ℕ)) (first old new : BTreeSet (Bor (List ℕ))) → i < length columns → name.now ≡ get_or columns i d
    → Updates (λ (a b : Bor (List ℕ)). slice_cmp nat_cmp a.now b.now) old new name true
    → ((column : List ℕ) → has_name old column ≡ (has_name first column || list_any (λ n. bytes_eq n column) (take i columns)))
    → (column : List ℕ) → has_name new column ≡ (has_name first column || list_any (λ n. bytes_eq n column) (take (i + 1) columns))
name_added columns i d name first old new lt is updates so_far column =
    let p : List ℕ → Bool = λ n. bytes_eq n column in
    set_gains name old new column updates ∙ ap (λ b. bytes_eq name.now column || b) (so_far column)
    ∙ to_the_end (bytes_eq name.now column) (has_name first column) (list_any p (take i columns))
    ∙ ap (λ (n : List ℕ). has_name first column || (list_any p (take i columns) || (p n || false))) is
    ∙ ap (λ b. has_name first column || b) (sym (list_any-append p (take i columns) (get_or columns i d ∷ [])) ∙ ap (list_any p) (sym (take_more columns i d lt)))
