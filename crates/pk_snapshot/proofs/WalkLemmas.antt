-- Which row is next, by the rows of now and by the images.
use Rattle.std.specs.Prelude.{Result, Ok, Err, IfOk, IsTrue, is_some, is_none, All}
use Rattle.std.proofs.Common.{◌≡◌, ℕ, ◌+◌, ◌≤◌, ◌<◌, Bool, true, false, List, [], ◌∷◌, Option, Some, None, refl, ap, sym, subst, ◌∙◌, arith, inl, inr}
use Rattle.std.specs.Bool.{if◌then◌else◌}
use Rattle.std.specs.Option.{option_or, option_map}
use Rattle.std.specs.List.{AllByRecursion}
use Rattle.std.proofs.lemmas.List.Elements.{recursion_from_All}
use Rattle.std.proofs.lemmas.Bool.{leb-true, leb-false, cases_eq}
use Rattle.std.proofs.lemmas.Option.{none-some, same_Some}
use Rattle.pk_values.specs.declared.placed.Placed.{Placed}
use Rattle.pk_values.specs.declared.value.Value.{Value}
use Rattle.pk_schema.specs.Shapes.{Shape}
use Rattle.pk_schema.specs.Admits.{Admits}
use Rattle.pk_exec.specs.Rows.{AscendFrom, rows_above, next_id, has_id, row_of}
use Rattle.pk_txn.specs.Images.{image_at, had_row, row_before, IsNextImage}
use Rattle.pk_txn.specs.Contents.{Contents, Opened, transaction_of, images_of, seen_by}
use Rattle.pk_txn.specs.History.{as_begun}
use Rattle.pk_snapshot.specs.Begun.{rows_by, rows_seen}
use Rattle.pk_snapshot.specs.Walks.{is_unchanged, is_reached, standing_id, IsUnchangedAt}
use Rattle.pk_snapshot.proofs.RisingLemmas.{Rising, to_rising, row_first, row_rest, none_below, at_least, is_there, has_row, above_row, above_rising, next_is, next_ends}
use Rattle.pk_snapshot.proofs.BegunLemmas.{begun_row, begun_ascend}

-- the number is before the next, if there is one
abbrev pub Before : ℕ → Option ℕ → Type 0
Before k None = Unit {0}
Before k (Some next) = k < next

not_reached : (k id : ℕ) (next : Option ℕ) → is_reached next id ≡ false → k ≤ id → Before k next
not_reached k id None is le = tt
not_reached k id (Some next) is le = omega (arith, leb-false next id is, le)

-- ---- the first row that is unchanged, if it is before the next image

module _ (unchanged : ℕ → Bool) (next : Option ℕ) where
  -- what it stands before, the next image stands before too
  pub before_next : (k : ℕ) (rows : List Placed) → Before k (option_or (standing_id unchanged next rows) next) → Before k next
  before_next k [] before = before
  before_next k (p ∷ ps) before = by_next (is_reached next p.id) refl (unchanged p.id) before (before_next k ps)
    where
      by_next : (r : Bool) → is_reached next p.id ≡ r → (u : Bool)
          → Before k (option_or (if r then None else (if u then Some p.id else standing_id unchanged next ps)) next)
          → (Before k (option_or (standing_id unchanged next ps) next) → Before k next) → Before k next
      by_next true is u before deeper = before
      by_next false is true before deeper = not_reached k p.id next is (omega (arith, before))
      by_next false is false before deeper = deeper before

  -- no unchanged row comes before
  pub none_before : (least k : ℕ) (rows : List Placed) → Rising least rows → unchanged k ≡ true → Before k (option_or (standing_id unchanged next rows) next)
      → row_of rows k ≡ None
  none_before least k [] up same before = refl
  none_before least k (p ∷ ps) up same before =
      by_next (is_reached next p.id) refl (unchanged p.id) refl before (none_before (p.id + 1) k ps up.1 same)
    where
      from_first : k < p.id → row_of (p ∷ ps) k ≡ None
      from_first less = none_below p.id k (p ∷ ps) (omega arith, up.1) less

      reached : (o : Option ℕ) → is_reached o p.id ≡ true → Before k o → k < p.id
      reached None is before = cc
      reached (Some n) is before = omega (arith, leb-true n p.id is, before)

      by_next : (r : Bool) → is_reached next p.id ≡ r → (u : Bool) → unchanged p.id ≡ u
          → Before k (option_or (if r then None else (if u then Some p.id else standing_id unchanged next ps)) next)
          → (Before k (option_or (standing_id unchanged next ps) next) → row_of ps k ≡ None) → row_of (p ∷ ps) k ≡ None
      by_next true is u known before deeper = from_first (reached next is before)
      by_next false is true known before deeper = from_first before
      by_next false is false known before deeper = row_rest p ps k (λ e. let other : unchanged k ≡ false = ap unchanged (sym e) ∙ known in cc) ∙ deeper before

  -- where there is one, it is unchanged and its row is there
  pub found : (n : ℕ) (rows : List Placed) → standing_id unchanged next rows ≡ Some n → (unchanged n ≡ true) × (is_some (row_of rows n) ≡ true)
  found n [] is = absurd (none-some n is)
  found n (p ∷ ps) is = by_next (is_reached next p.id) (unchanged p.id) refl is (found n ps)
    where
      by_next : (r u : Bool) → unchanged p.id ≡ u → (if r then None else (if u then Some p.id else standing_id unchanged next ps)) ≡ Some n
          → (standing_id unchanged next ps ≡ Some n → (unchanged n ≡ true) × (is_some (row_of ps n) ≡ true))
          → (unchanged n ≡ true) × (is_some (row_of (p ∷ ps) n) ≡ true)
      by_next true u known is deeper = absurd (none-some n is)
      by_next false true known is deeper =
          let same : p.id ≡ n = same_Some p.id n is in
          (sym (ap unchanged same) ∙ known, ap is_some (row_first p ps n same))
      by_next false false known is deeper =
          let rest = deeper is in
          (rest.0, ap is_some (row_rest p ps n (λ e. let other : unchanged n ≡ false = sym (ap unchanged e) ∙ known in let this : unchanged n ≡ true = rest.0 in cc)) ∙ rest.1)

-- ---- what is next

-- the least number above that passes the test
abbrev IsNextOf : (ℕ → Bool) → ℕ → Option ℕ → Type 0
IsNextOf had id None = (n : ℕ) → id < n → had n ≡ false
IsNextOf had id (Some next) = (id < next) × (had next ≡ true) × ((n : ℕ) → id < n → n < next → had n ≡ false)

some_there : (o : Option (List Value)) → is_some o ≡ true → (row : List Value) × (o ≡ Some row)
some_there None is = cc
some_there (Some row) is = (row, refl)

module _ (now seen : List Placed) (unchanged had : ℕ → Bool)
    (same : (k : ℕ) → unchanged k ≡ true → row_of seen k ≡ row_of now k)
    (gone : (k : ℕ) → unchanged k ≡ false → had k ≡ false → row_of seen k ≡ None)
    (there : (k : ℕ) → had k ≡ true → is_some (row_of seen k) ≡ true) where
  not_had : (id k : ℕ) (next : Option ℕ) → IsNextOf had id next → id < k → Before k next → had k ≡ false
  not_had id k None is later before = is k later
  not_had id k (Some next) is later before = is.2 k later before

  none_between : (id k : ℕ) (next : Option ℕ) → Rising 1 now → IsNextOf had id next → id < k
      → Before k (option_or (standing_id unchanged next (rows_above id now)) next) → row_of seen k ≡ None
  none_between id k next up is later before = by_change (unchanged k) refl
    where
      by_change : (b : Bool) → unchanged k ≡ b → row_of seen k ≡ None
      by_change true known =
          same k known
          ∙ (sym (above_row id k now later)
          ∙ none_before unchanged next (id + 1) k (rows_above id now) (above_rising 1 id now up) known before)
      by_change false known = gone k known (not_had id k next is later (before_next unchanged next k (rows_above id now) before))

  pub next_seen : (id : ℕ) (next : Option ℕ) → Rising 1 now → Rising 1 seen → IsNextOf had id next
      → option_or (standing_id unchanged next (rows_above id now)) next ≡ next_id id seen
  next_seen id next up rise is = by_found (standing_id unchanged next (rows_above id now)) refl next refl
    where
      between : (o : Option ℕ) → option_or (standing_id unchanged next (rows_above id now)) next ≡ o → (k : ℕ) → id < k → Before k o → row_of seen k ≡ None
      between o e k later before = none_between id k next up is later (subst (λ o. Before k o) (sym e) before)

      by_found : (s : Option ℕ) → standing_id unchanged next (rows_above id now) ≡ s → (o : Option ℕ) → next ≡ o → option_or s o ≡ next_id id seen
      by_found (Some n) e o f =
          let at = found unchanged next n (rows_above id now) e in
          let row = some_there (row_of (rows_above id now) n) at.1 in
          let later : id < n = omega (arith, at_least (id + 1) n (rows_above id now) row.0 (above_rising 1 id now up) row.1) in
          let whole : option_or (standing_id unchanged next (rows_above id now)) next ≡ Some n = ap (λ s. option_or s next) e in
          sym (next_is 1 id n seen row.0 rise later (same n at.0 ∙ (sym (above_row id n now later) ∙ row.1)) (λ k low high. between (Some n) whole k low high))
      by_found None e (Some n) f =
          let at : IsNextOf had id (Some n) = subst (λ o. IsNextOf had id o) f is in
          let row = some_there (row_of seen n) (there n at.1) in
          let whole : option_or (standing_id unchanged next (rows_above id now)) next ≡ Some n = ap (λ s. option_or s next) e ∙ f in
          sym (next_is 1 id n seen row.0 rise at.0 row.1 (λ k low high. between (Some n) whole k low high))
      by_found None e None f =
          let whole : option_or (standing_id unchanged next (rows_above id now)) next ≡ None = ap (λ s. option_or s next) e ∙ f in
          sym (next_ends id seen (λ k low. between None whole k low tt))

-- ---- what the images of a session say of the rows that it sees

pub seen_row : (seen : Option Opened) (table : ℕ) (now : List Placed) (id : ℕ)
    → row_of (rows_by seen table now) id ≡ as_begun (image_at (seen_by seen) table id) (row_of now id)
seen_row None table now id = refl
seen_row (Some t) table now id = begun_row t table now id

-- by what is kept of a row
abbrev kept_of : Option Opened → ℕ → ℕ → Option (Option (List Value))
kept_of seen table id = row_before (seen_by seen) table id

unchanged_stood : (seen : Option Opened) (table id : ℕ) (now : Option (List Value)) → is_none (kept_of seen table id) ≡ true
    → as_begun (image_at (seen_by seen) table id) now ≡ now
unchanged_stood seen table id now =
    elim (image_at (seen_by seen) table id) as (λ o. is_none (option_map (λ image. as_begun (Some image) None) o) ≡ true → as_begun o now ≡ now) [
      | None ↦ λ is. refl
      | Some image ↦ λ is. cc
    ]

none_given : (row : Option (List Value)) → is_some row ≡ false → row ≡ None
none_given None is = refl
none_given (Some row) is = cc

changed_gone : (seen : Option Opened) (table id : ℕ) (now : Option (List Value)) → is_none (kept_of seen table id) ≡ false
    → had_row (image_at (seen_by seen) table id) ≡ false → as_begun (image_at (seen_by seen) table id) now ≡ None
changed_gone seen table id now =
    elim (image_at (seen_by seen) table id) as (λ o. is_none (option_map (λ image. as_begun (Some image) None) o) ≡ false → had_row o ≡ false → as_begun o now ≡ None) [
      | None ↦ λ is had. cc
      | Some image ↦ λ is had. none_given (as_begun (Some image) None) had
    ]

had_there : (seen : Option Opened) (table id : ℕ) (now : Option (List Value)) → had_row (image_at (seen_by seen) table id) ≡ true
    → is_some (as_begun (image_at (seen_by seen) table id) now) ≡ true
had_there seen table id now =
    elim (image_at (seen_by seen) table id) as (λ o. had_row o ≡ true → is_some (as_begun o now) ≡ true) [ None ↦ λ is. cc | Some image ↦ λ is. is ]

kept_stood : (seen : Option Opened) (table id : ℕ) (now row : Option (List Value)) → kept_of seen table id ≡ Some row
    → as_begun (image_at (seen_by seen) table id) now ≡ row
kept_stood seen table id now row =
    elim (image_at (seen_by seen) table id) as (λ o. option_map (λ image. as_begun (Some image) None) o ≡ Some row → as_begun o now ≡ row) [
      | None ↦ λ is. absurd (none-some row is)
      | Some image ↦ λ is. same_Some (as_begun (Some image) None) row is
    ]

-- ---- so it is what the calls of a snapshot say

pub seen_ascend : (seen : Option Opened) (table : ℕ) (now : List Placed) → AscendFrom 1 now → had_row (image_at (seen_by seen) table 0) ≡ false
    → AscendFrom 1 (rows_by seen table now)
seen_ascend None table now up none = up
seen_ascend (Some t) table now up none =
    begun_ascend t table 1 now up (λ id below. let least : 0 ≡ id = omega (arith, below) in subst (λ (n : ℕ). had_row (image_at t.images table n) ≡ false) least none)

to_next : (seen : Option Opened) (table id : ℕ) (next : Option ℕ) → IsNextImage (seen_by seen) table id next
    → IsNextOf (λ n. had_row (image_at (seen_by seen) table n)) id next
to_next seen table id None is = is
to_next seen table id (Some next) is = is

pub next_answered : (session : List ℕ) (book : Contents) (table id : ℕ) (now : List Placed) (next : Option ℕ) → AscendFrom 1 now
    → AscendFrom 1 (rows_seen session book table now) → IsNextImage (images_of session book) table id next
    → option_or (standing_id (is_unchanged session book table) next (rows_above id now)) next ≡ next_id id (rows_seen session book table now)
next_answered session book table id now next up rise is =
    let seen = transaction_of session book in
    next_seen now (rows_seen session book table now) (is_unchanged session book table) (λ n. had_row (image_at (seen_by seen) table n))
    (λ k known. seen_row seen table now k ∙ unchanged_stood seen table k (row_of now k) known)
    (λ k known had. seen_row seen table now k ∙ changed_gone seen table k (row_of now k) known had)
    (λ k had. ap is_some (seen_row seen table now k) ∙ had_there seen table k (row_of now k) had)
    id next (to_rising 1 now up) (to_rising 1 (rows_seen session book table now) rise) (to_next seen table id next is)

pub standing_stays : (session : List ℕ) (book : Contents) (table : ℕ) (next : Option ℕ) (rows : List Placed)
    → IsUnchangedAt session book table (standing_id (is_unchanged session book table) next rows)
standing_stays session book table next rows = by_found (standing_id (is_unchanged session book table) next rows) refl
  where
    by_found : (s : Option ℕ) → standing_id (is_unchanged session book table) next rows ≡ s → IsUnchangedAt session book table s
    by_found None e = tt
    by_found (Some n) e = (found (is_unchanged session book table) next n rows e).0

-- an unchanged row stands among the rows of now
pub unchanged_row : (session : List ℕ) (book : Contents) (table id : ℕ) (now : List Placed) → is_unchanged session book table id ≡ true
    → row_of (rows_seen session book table now) id ≡ row_of now id
unchanged_row session book table id now known =
    let seen = transaction_of session book in
    seen_row seen table now id ∙ unchanged_stood seen table id (row_of now id) known

pub unchanged_there : (session : List ℕ) (book : Contents) (table id : ℕ) (now : List Placed) → is_unchanged session book table id ≡ true
    → has_id (rows_seen session book table now) id ≡ true → has_id now id ≡ true
unchanged_there session book table id now known there =
    has_row now id (sym (ap is_some (unchanged_row session book table id now known)) ∙ is_there (rows_seen session book table now) id there)

-- a changed row is what its image gives back
pub changed_row : (session : List ℕ) (book : Contents) (table id : ℕ) (now : List Placed) (row : Option (List Value))
    → row_before (images_of session book) table id ≡ Some row → row_of (rows_seen session book table now) id ≡ row
changed_row session book table id now row kept =
    let seen = transaction_of session book in
    seen_row seen table now id ∙ kept_stood seen table id (row_of now id) row kept

-- what all rows pass, the row of an id does
pub of_all : (P : List Value → Type 0) (rows : List Placed) (id : ℕ) (row : List Value) → All (λ (p : Placed). P p.row) rows
    → row_of rows id ≡ Some row → P row
of_all P rows id row all is = go rows (recursion_from_All (λ (p : Placed). P p.row) rows all) is
  where
    go : (rows : List Placed) → AllByRecursion (λ (p : Placed). P p.row) rows → row_of rows id ≡ Some row → P row
    go [] all is = absurd (none-some row is)
    go (p ∷ ps) all is =
        elim (cases_eq p.id id) [
          | inl same ↦ subst P (same_Some p.row row (sym (row_first p ps id same) ∙ is)) all.0
          | inr apart ↦ go ps all.1 (sym (row_rest p ps id apart) ∙ is)
        ]

-- ---- what is said of a row that was read

pub told_row : {E : Type 0} (r : Result (List Value) E) (seen now : List Placed) (id : ℕ) → row_of seen id ≡ row_of now id
    → IfOk r (λ row. row_of now id ≡ Some row) → IfOk r (λ row. IsTrue true → row_of seen id ≡ Some row)
told_row (Ok row) seen now id same is = λ told. same ∙ is
told_row (Err e) seen now id same is = tt

pub told_admitted : {E : Type 0} (r : Result (List Value) E) (seen now : List Placed) (id : ℕ) → row_of seen id ≡ row_of now id
    → IfOk r (λ row. row_of now id ≡ Some row) → IfOk r (λ row. (s : Shape) → All (λ (p : Placed). Admits s p.row) seen → Admits s row)
told_admitted (Ok row) seen now id same is = λ s all. of_all (Admits s) seen id row all (same ∙ is)
told_admitted (Err e) seen now id same is = tt

-- ---- no image gives back a row that the book doesn't tell

pub none_back : (session : List ℕ) (book : Contents) (table id : ℕ) → row_before (images_of session book) table id ≡ None
    → had_row (image_at (images_of session book) table id) ≡ false
none_back session book table id =
    elim (image_at (images_of session book) table id) as (λ o. option_map (λ image. as_begun (Some image) None) o ≡ None → had_row o ≡ false) [
      | None ↦ λ is. refl
      | Some image ↦ λ is. absurd (none-some (as_begun (Some image) None) (sym is))
    ]

pub absent_back : (session : List ℕ) (book : Contents) (table id : ℕ) → row_before (images_of session book) table id ≡ Some None
    → had_row (image_at (images_of session book) table id) ≡ false
absent_back session book table id =
    elim (image_at (images_of session book) table id) as (λ o. option_map (λ image. as_begun (Some image) None) o ≡ Some None → had_row o ≡ false) [
      | None ↦ λ is. refl
      | Some image ↦ λ is. ap is_some (same_Some (as_begun (Some image) None) None is)
    ]
