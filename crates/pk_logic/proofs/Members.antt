-- One more member of AND or OR.
use Rattle.std.proofs.Common.{◌≡◌, refl, sym, ◌∙◌, ap, subst, ℕ, ◌+◌, ◌<◌, Bool, true, false, List, ◌∷◌, map, drop, length, get_or, IsTrue}
use Rattle.std.proofs.lemmas.List.{drop_more}
use Rattle.pk_logic.specs.declared.truth.Truth.{Truth}
use Rattle.pk_logic.specs.Truth.{lesser, greater, least, greatest}
use Rattle.pk_logic.specs.Conditions.{all_hold}
use Rattle.pk_logic.proofs.TruthLemmas.{lesser_assoc, greater_assoc}

pub first_holds : (b : Bool) (bs : List Bool) → all_hold (b ∷ bs) ≡ true → b ≡ true
first_holds true bs all = refl
first_holds false bs all = cc

pub rest_holds : (b : Bool) (bs : List Bool) → IsTrue (all_hold (b ∷ bs)) → IsTrue (all_hold bs)
rest_holds true bs all = all
rest_holds false bs all = cc

member_first : {X : Type 0} (xs : List X) (i : ℕ) (x : X) → i < length xs → x ≡ get_or xs i x → drop i xs ≡ x ∷ drop (i + 1) xs
member_first xs i x within here = drop_more xs i x within ∙ ap (λ y. y ∷ drop (i + 1) xs) (sym here)

pub tests_go_on : {X : Type 0} (test : X → Bool) (xs : List X) (i : ℕ) (x : X) → i < length xs → x ≡ get_or xs i x
    → IsTrue (all_hold (map test (drop i xs))) → IsTrue (all_hold (map test (drop (i + 1) xs)))
tests_go_on test xs i x within here all =
    rest_holds (test x) (map test (drop (i + 1) xs)) (subst (λ ys. IsTrue (all_hold (map test ys))) (member_first xs i x within here) all)

pub least_goes_on : {X : Type 0} (f : X → Truth) (xs : List X) (i : ℕ) (x : X) (so_far now : Truth)
    → i < length xs → x ≡ get_or xs i x
    → now ≡ lesser so_far (f x)
    → least (map f xs) ≡ lesser so_far (least (map f (drop i xs)))
    → least (map f xs) ≡ lesser now (least (map f (drop (i + 1) xs)))
least_goes_on f xs i x so_far now within here is whole =
    whole ∙ ap (λ ys. lesser so_far (least (map f ys))) (member_first xs i x within here)
    ∙ sym (lesser_assoc so_far (f x) (least (map f (drop (i + 1) xs))))
    ∙ ap (λ t. lesser t (least (map f (drop (i + 1) xs)))) (sym is)

pub greatest_goes_on : {X : Type 0} (f : X → Truth) (xs : List X) (i : ℕ) (x : X) (so_far now : Truth)
    → i < length xs → x ≡ get_or xs i x
    → now ≡ greater so_far (f x)
    → greatest (map f xs) ≡ greater so_far (greatest (map f (drop i xs)))
    → greatest (map f xs) ≡ greater now (greatest (map f (drop (i + 1) xs)))
greatest_goes_on f xs i x so_far now within here is whole =
    whole ∙ ap (λ ys. greater so_far (greatest (map f ys))) (member_first xs i x within here)
    ∙ sym (greater_assoc so_far (f x) (greatest (map f (drop (i + 1) xs))))
    ∙ ap (λ t. greater t (greatest (map f (drop (i + 1) xs)))) (sym is)
