-- Which keys a schema implies, by its keys.
use Rattle.std.proofs.Common.{◌≡◌, refl, ℕ, Bool, true, not, ◌||◌}
use Rattle.std.specs.List.{Contains}
use Rattle.std.proofs.lemmas.Bool.{and_parts}
use Rattle.pk_values.specs.declared.key.KeyDecl.{KeyDecl}
use Rattle.pk_values.specs.declared.key.Sort.{Sort}
use Rattle.pk_values.specs.declared.key.Sort.TheVariants.{Certain, Possible}
use Rattle.pk_values.specs.ColumnSet.{IsColumnSet, is_subset}
use Rattle.pk_syntax.specs.Declarations.{is_certain}
use Rattle.pk_rule.specs.Plain.{Plain}
use Rattle.pk_rule.specs.Rule.{alone_implies, is_implied}
use Rattle.pk_rule.specs.Laws.{key_over}
use Rattle.pk_imply.proofs.ListLemmas.{any_at, any_from}
use Rattle.pk_imply.proofs.SubsetLemmas.{subset_trans}

-- ---- one key alone

-- a key implies one of this sort over its own columns
pub fits_sort : ℕ → Sort → KeyDecl → Bool
fits_sort known sort d = not (is_certain sort) || is_certain d.sort || is_subset d.columns known

pub alone_from : (known : ℕ) (d k : KeyDecl) → is_subset d.columns k.columns ≡ true → fits_sort known k.sort d ≡ true → alone_implies known d k ≡ true
unfolding fits_sort
alone_from known d k inside fits = rw (inside, fits) refl

pub alone_parts : (known : ℕ) (d k : KeyDecl) → alone_implies known d k ≡ true → (is_subset d.columns k.columns ≡ true) × (fits_sort known k.sort d ≡ true)
unfolding fits_sort
alone_parts known d k holds = and_parts (is_subset d.columns k.columns) (not (is_certain k.sort) || is_certain d.sort || is_subset d.columns known) holds

-- each key fits its own sort, and a possible one is implied whatever implies it
pub fits_possible : (known : ℕ) (d : KeyDecl) → fits_sort known Possible d ≡ true
unfolding fits_sort
fits_possible known d = refl

pub fits_certain : (known : ℕ) (sort : Sort) (x : ℕ) → fits_sort known sort (key_over Certain x) ≡ true
unfolding fits_sort
fits_certain known Certain x = refl
fits_certain known Possible x = refl

-- a possible key implies a certain one over NOT NULL columns alone
pub known_of_possible : (known x : ℕ) → fits_sort known Certain (key_over Possible x) ≡ true → is_subset x known ≡ true
unfolding fits_sort
known_of_possible known x fits = fits

pub fits_own : (known : ℕ) (d : KeyDecl) → fits_sort known d.sort d ≡ true
unfolding fits_sort
fits_own known d = own d.sort (is_subset d.columns known)
  where
    own : (sort : Sort) (b : Bool) → (not (is_certain sort) || is_certain sort || b) ≡ true
    own Certain b = refl
    own Possible b = refl

-- one key implies another, and that a third
fits_trans : (known : ℕ) (r s t : Sort) (d e : ℕ) → IsColumnSet d → IsColumnSet e → is_subset d e ≡ true
    → fits_sort known s (key_over r d) ≡ true → fits_sort known t (key_over s e) ≡ true → fits_sort known t (key_over r d) ≡ true
unfolding fits_sort
fits_trans known r s Possible d e _ _ _ _ _ = refl
fits_trans known Certain s Certain d e _ _ _ _ _ = refl
fits_trans known Possible Certain Certain d e d_set e_set inside first second = first
fits_trans known Possible Possible Certain d e d_set e_set inside first second = subset_trans d e known d_set e_set inside second

pub alone_trans : (known : ℕ) (d e k : KeyDecl) → IsColumnSet d.columns → IsColumnSet e.columns
    → alone_implies known d e ≡ true → alone_implies known e k ≡ true → alone_implies known d k ≡ true
alone_trans known d e k d_set e_set first second =
    let one = alone_parts known d e first in
    let two = alone_parts known e k second in
    alone_from known d k
    (subset_trans d.columns e.columns k.columns d_set e_set one.0 two.0)
    (fits_trans known d.sort e.sort k.sort d.columns e.columns d_set e_set one.0 one.1 two.1)

-- ---- all keys

pub implied_by : (s : Plain) (k : KeyDecl) → is_implied s k ≡ true → (d : KeyDecl) × Contains s.keys d × (alone_implies s.known d k ≡ true)
unfolding is_implied
implied_by s k holds = any_at (λ (d : KeyDecl). alone_implies s.known d k) s.keys holds

pub implied_from : (s : Plain) (k d : KeyDecl) → Contains s.keys d → alone_implies s.known d k ≡ true → is_implied s k ≡ true
unfolding is_implied
implied_from s k d found holds = any_from (λ (e : KeyDecl). alone_implies s.known e k) s.keys d found holds
