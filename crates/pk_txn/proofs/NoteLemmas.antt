-- What a commit's before-images do to each transaction, one image after the other.
use Rattle.std.proofs.Common.{◌≡◌, ℕ, suc, ◌+◌, ◌<◌, List, [], ◌∷◌, length, get_or, map, drop, drop-cons, None, add-one, sym, refl, ap, ◌∙◌}
use Rattle.std.specs.Option.{option_map}
use Rattle.pk_txn.specs.declared.before.Before.{Before}
use Rattle.pk_txn.specs.declared.image.Image.{Image}
use Rattle.pk_txn.specs.declared.row_key.RowKey.{RowKey}
use Rattle.pk_txn.specs.Contents.{Opened, kept, key_of, changed_by_all}
use Rattle.pk_txn.specs.Images.{image_at, conflict_or, first_conflict}

-- the first image, and then the others
pub first_image : (commit : ℕ) (before : Before) (rest : List Before) (opened : List Opened)
    → map (changed_by_all commit rest) (map (kept commit (key_of before) before.row) opened) ≡ map (changed_by_all commit (before ∷ rest)) opened
first_image commit before rest [] = refl
first_image commit before rest (t ∷ ts) = ap (λ ts. changed_by_all commit rest (kept commit (key_of before) before.row t) ∷ ts) (first_image commit before rest ts)

pub no_image : (commit : ℕ) (opened : List Opened) → map (changed_by_all commit []) opened ≡ opened
no_image commit [] = refl
no_image commit (t ∷ ts) = ap (λ ts. t ∷ ts) (no_image commit ts)

-- an id whose row no commit changed is passed over
pub passed_over : (images : List (RowKey × Image)) (table i : ℕ) (ids : List ℕ) → i < length ids → image_at images table (get_or ids i 0) ≡ None
    → first_conflict images table (drop (i + 1) ids) ≡ first_conflict images table (drop i ids)
passed_over images table i ids within none =
    ap (λ n. first_conflict images table (drop n ids)) (add-one i)
    ∙ (sym (ap (λ o. conflict_or (get_or ids i 0) (option_map (λ image. image.commit) o) (first_conflict images table (drop (suc i) ids))) none)
    ∙ ap (first_conflict images table) (sym (drop-cons ids i 0 within)))

-- a step through the images of a commit
pub one_noted : (commit i : ℕ) (befores : List Before) (opened : List Opened) (before : Before) → i < length befores → before ≡ get_or befores i before
    → map (changed_by_all commit (drop (i + 1) befores)) (map (kept commit (key_of before) before.row) opened)
    ≡ map (changed_by_all commit (drop i befores)) opened
one_noted commit i befores opened before within is =
    ap (λ n. map (changed_by_all commit (drop n befores)) (map (kept commit (key_of before) before.row) opened)) (add-one i)
    ∙ (first_image commit before (drop (suc i) befores) opened
    ∙ ap (λ bs. map (changed_by_all commit bs) opened) (ap (λ b. b ∷ drop (suc i) befores) is ∙ sym (drop-cons befores i before within)))
