-- A set of names set_gains the names of a list one by one.
use Rattle.std.proofs.Common.{◌≡◌, refl, sym, ◌∙◌, ap, ℕ, suc, ◌+◌, ◌<◌, Bool, true, false, not, if◌then◌else◌, ◌||◌, List, [], ◌∷◌, ◌++◌, Some, length, get_or, map, take, drop, arith}
use Rattle.std.specs.Borrow.{Bor}
use Rattle.std.specs.BTreeSet.{BTreeSet, Updates}
use Rattle.std.specs.Cmp.Lexicographic.{slice_cmp}
use Rattle.std.specs.Ordering.{nat_cmp}
use Rattle.std.specs.Str.{bytes_eq}
use Rattle.std.proofs.Math.Seq.{drop-cons}
use Rattle.std.proofs.lemmas.List.{take_more, map-append}
use Rattle.std.proofs.lemmas.List.Folds.{list_any-append}
use Rattle.pk_values.specs.NameSets.{has_name as knows}
use Rattle.pk_syntax.specs.Declarations.{has_name, twice, twice_behind}
use Rattle.pk_values.proofs.NameSetLemmas.{set_gains}

at_the_end : (a b : Bool) → (a || b) ≡ (b || (a || false))
at_the_end true true = refl
at_the_end true false = refl
at_the_end false true = refl
at_the_end false false = refl

names_more : {A : Type 0} (f : A → List ℕ) (xs : List A) (i : ℕ) (x : A) → i < length xs → x ≡ get_or xs i x → map f (take (i + 1) xs) ≡ map f (take i xs) ++ f x ∷ []
names_more f xs i x within is = ap (map f) (take_more xs i x within ∙ ap (λ y. take i xs ++ y ∷ []) (sym is)) ∙ map-append f (take i xs) (x ∷ [])

-- the names so far, and one more
pub known_more : {A : Type 0} (f : A → List ℕ) (xs : List A) (i : ℕ) (x : A) (name : Bor (List ℕ)) (old new : BTreeSet (Bor (List ℕ))) → i < length xs → x ≡ get_or xs i x
    → name.now ≡ f x → Updates (λ (a b : Bor (List ℕ)). slice_cmp nat_cmp a.now b.now) old new name true
    → ((n : List ℕ) → knows old n ≡ has_name (map f (take i xs)) n) → (n : List ℕ) → knows new n ≡ has_name (map f (take (i + 1) xs)) n
known_more f xs i x name old new within is named updates so_far n =
    set_gains name old new n updates ∙ ap (λ b. bytes_eq name.now n || b) (so_far n) ∙ at_the_end (bytes_eq name.now n) (has_name (map f (take i xs)) n)
    ∙ ap (λ m. has_name (map f (take i xs)) n || (bytes_eq m n || false)) named
    ∙ sym (list_any-append (λ m. bytes_eq m n) (map f (take i xs)) (f x ∷ []))
    ∙ ap (λ ns. has_name ns n) (sym (names_more f xs i x within is))

-- what the next name decides
next_decides : {A : Type 0} (f : A → List ℕ) (xs : List A) (i : ℕ) (x : A) → i < length xs → x ≡ get_or xs i x
    → twice_behind (map f (take i xs)) (map f (drop i xs)) ≡ if has_name (map f (take i xs)) (f x) then Some (f x) else twice_behind (map f (take (i + 1) xs)) (map f (drop (i + 1) xs))
next_decides f xs i x within is =
    let next : suc i ≡ i + 1 = omega arith in
    let split : drop i xs ≡ x ∷ drop (i + 1) xs = drop-cons xs i x within ∙ ap (λ y. y ∷ drop (suc i) xs) (sym is) ∙ ap (λ n. x ∷ drop n xs) next in
    ap (λ ys. twice_behind (map f (take i xs)) (map f ys)) split
    ∙ ap (λ ns. if has_name (map f (take i xs)) (f x) then Some (f x) else twice_behind ns (map f (drop (i + 1) xs))) (sym (names_more f xs i x within is))

turned : (a b : Bool) → a ≡ not b → b ≡ not a
turned true false is = refl
turned false true is = refl
turned true true is = absurd (cc)
turned false false is = absurd (cc)

stood_or_new : {A : Type 0} (f : A → List ℕ) (xs : List A) (i : ℕ) (x : A) (name : List ℕ) (known : BTreeSet (Bor (List ℕ))) (added : Bool) → name ≡ f x → added ≡ not (knows known name)
    → ((n : List ℕ) → knows known n ≡ has_name (map f (take i xs)) n) → has_name (map f (take i xs)) (f x) ≡ not added
stood_or_new f xs i x name known added named tells so_far = ap (has_name (map f (take i xs))) (sym named) ∙ sym (so_far name) ∙ turned added (knows known name) tells

-- a name that was known stands twice, and is the first
pub known_stands_twice : {A : Type 0} (f : A → List ℕ) (xs : List A) (i : ℕ) (x : A) (name : List ℕ) (known : BTreeSet (Bor (List ℕ))) (added : Bool) → i < length xs → x ≡ get_or xs i x
    → name ≡ f x → added ≡ not (knows known name) → added ≡ false → ((n : List ℕ) → knows known n ≡ has_name (map f (take i xs)) n)
    → twice_behind (map f (take i xs)) (map f (drop i xs)) ≡ twice (map f xs) → Some name ≡ twice (map f xs)
known_stands_twice f xs i x name known added within is named tells old so_far decides =
    let stood = stood_or_new f xs i x name known added named tells so_far ∙ ap not old in
    ap (λ n. Some n) named ∙ ap (λ b. if b then Some (f x) else twice_behind (map f (take (i + 1) xs)) (map f (drop (i + 1) xs))) (sym stood)
    ∙ sym (next_decides f xs i x within is) ∙ decides

-- and where it wasn't, the others decide
pub new_decides : {A : Type 0} (f : A → List ℕ) (xs : List A) (i : ℕ) (x : A) (name : List ℕ) (known : BTreeSet (Bor (List ℕ))) (added : Bool) → i < length xs → x ≡ get_or xs i x
    → name ≡ f x → added ≡ not (knows known name) → added ≡ true → ((n : List ℕ) → knows known n ≡ has_name (map f (take i xs)) n)
    → twice_behind (map f (take i xs)) (map f (drop i xs)) ≡ twice (map f xs) → twice_behind (map f (take (i + 1) xs)) (map f (drop (i + 1) xs)) ≡ twice (map f xs)
new_decides f xs i x name known added within is named tells fresh so_far decides =
    let stood = stood_or_new f xs i x name known added named tells so_far ∙ ap not fresh in
    ap (λ b. if b then Some (f x) else twice_behind (map f (take (i + 1) xs)) (map f (drop (i + 1) xs))) (sym stood)
    ∙ sym (next_decides f xs i x within is) ∙ decides
