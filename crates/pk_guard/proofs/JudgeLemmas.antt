-- How code judges the keys in their order.
use Rattle.std.proofs.Common.{◌≡◌, refl, sym, ◌∙◌, ap, subst, ℕ, zero, suc, ◌+◌, ◌≤◌, ◌<◌, true, false, ◌==◌, List, [], ◌∷◌, length, drop, get_or, nat_lt, Option, Some, None, slice_get, arith, if◌then◌else◌}
use Rattle.std.specs.Prelude.{filter, option_map}
use Rattle.std.specs.List.{list_all}
use Rattle.std.specs.Option.{option_or}
use Rattle.std.proofs.lemmas.Bool.{and_parts, and_from}
use Rattle.std.proofs.lemmas.List.{at_drop_all}
use Rattle.std.proofs.lemmas.Option.{slice_get-get_or}
use Rattle.std.proofs.Math.Seq.{drop-cons}
use Rattle.pk_values.specs.declared.broken.Break.{Break}
use Rattle.pk_values.specs.declared.key.KeyDecl.{KeyDecl}
use Rattle.pk_values.specs.declared.kind.Kind.{Kind}
use Rattle.pk_values.specs.declared.placed.Placed.{Placed}
use Rattle.pk_syntax.specs.declared.declaration.ColumnDecl.{ColumnDecl}
use Rattle.pk_schema.specs.Shapes.{Shape, kinds_of}
use Rattle.pk_guard.specs.Breaks.{breaks, first_pair, break_of, first_broken, first_break}
use Rattle.pk_guard.specs.Changed.{RowsAscend, put_row, put_rows, stays, standing}
use Rattle.pk_guard.specs.Splits.{is_wide, AreWide}
use Rattle.pk_guard.proofs.ChangedLemmas.{ascends_from, put_alone}
use Rattle.pk_guard.proofs.LeastLemmas.{pair_at}
use Rattle.pk_guard.proofs.WalkLemmas.{wide_kept}

-- ---- the two rows that are found have all columns of the key, and break it

put_wide : (k : KeyDecl) (p : Placed) (rows : List Placed) → is_wide k p ≡ true → AreWide k rows → AreWide k (put_row p rows)
unfolding put_row
put_wide k p [] here wide = and_from _ _ here refl
put_wide k p (q ∷ qs) here wide =
    let parts = and_parts (is_wide k q) (list_all (is_wide k) qs) wide in
    elim (nat_lt q.id p.id) as (λ b. AreWide k (if b then q ∷ put_row p qs else if q.id == p.id then p ∷ qs else p ∷ q ∷ qs)) [
      | true ↦ and_from _ _ parts.0 (put_wide k p qs here parts.1)
      | false ↦ elim (q.id == p.id) as (λ b. AreWide k (if b then p ∷ qs else p ∷ q ∷ qs)) [
        | true ↦ and_from _ _ here parts.1
        | false ↦ and_from _ _ here wide
      ]
    ]

puts_wide : (k : KeyDecl) (ps rows : List Placed) → AreWide k ps → AreWide k rows → AreWide k (put_rows ps rows)
unfolding put_rows
puts_wide k [] rows put wide = wide
puts_wide k (p ∷ ps) rows put wide =
    let parts = and_parts (is_wide k p) (list_all (is_wide k) ps) put in puts_wide k ps (put_row p rows) parts.1 (put_wide k p rows parts.0 wide)

wide_get : (k : KeyDecl) (rows : List Placed) (i : ℕ) (p : Placed) → AreWide k rows → slice_get rows i ≡ Some p → is_wide k p ≡ true
wide_get k [] i p wide is = cc
wide_get k (r ∷ rs) zero p wide is =
    let same : r ≡ p = cc in subst (λ (q : Placed). is_wide k q ≡ true) same (and_parts (is_wide k r) (list_all (is_wide k) rs) wide).0
wide_get k (r ∷ rs) (suc i) p wide is = wide_get k rs i p (and_parts (is_wide k r) (list_all (is_wide k) rs) wide).1 is

pub record MayBeTold (k : KeyDecl) (p q : Placed) : Type 0 where
  pub low_wide : is_wide k p ≡ true
  pub high_wide : is_wide k q ≡ true
  pub broken : breaks k p q ≡ true

pub pair_told : (k : KeyDecl) (gone : List ℕ) (put rows : List Placed) (p q : Placed) → AreWide k put → AreWide k rows
    → Some (p, q) ≡ first_pair k (standing gone put rows) → MayBeTold k p q
pair_told k gone put rows p q put_wide rows_wide found =
    let at = pair_at k (standing gone put rows) p q (sym found) in
    let wide = puts_wide k put (filter (stays gone) rows) put_wide (wide_kept k (stays gone) rows rows_wide) in
    record {
      low_wide = wide_get k (standing gone put rows) at.0 p wide at.2.earlier;
      high_wide = wide_get k (standing gone put rows) at.1 q wide at.2.later;
      broken = at.2.breaking;
    }

-- ---- the keys in their order

pub key_got : (s : Shape) (keys : List KeyDecl) (i : ℕ) (k : KeyDecl) → keys ≡ s.keys → i < length keys → k ≡ get_or keys i k → slice_get s.keys i ≡ Some k
key_got s keys i k same within is = subst (λ (ks : List KeyDecl). slice_get ks i ≡ Some k) same (slice_get-get_or keys i k within ∙ ap (λ (j : KeyDecl). Some j) (sym is))

pub break_start : (s : Shape) (cols : List ColumnDecl) (keys : List KeyDecl) (rows : List Placed) → cols ≡ s.columns → keys ≡ s.keys
    → first_broken (kinds_of cols) 1 keys rows ≡ first_break s rows
unfolding first_break
break_start s cols keys rows same_columns same_keys = rw (same_columns, same_keys) refl

broken_step : (kinds : List Kind) (place : ℕ) (keys : List KeyDecl) (i : ℕ) (k : KeyDecl) (rows : List Placed) → i < length keys → k ≡ get_or keys i k
    → first_broken kinds place (drop i keys) rows
    ≡ option_or (option_map (break_of kinds place k) (first_pair k rows)) (first_broken kinds (place + 1) (drop (i + 1) keys) rows)
unfolding first_broken
broken_step kinds place keys i k rows within is =
    let next : suc i ≡ i + 1 = omega arith in
    let split : drop i keys ≡ k ∷ drop (i + 1) keys = drop-cons keys i k within ∙ ap (λ (j : KeyDecl). j ∷ drop (suc i) keys) (sym is) ∙ ap (λ n. k ∷ drop n keys) next in
    ap (λ (ks : List KeyDecl). first_broken kinds place ks rows) split

pub broken_found : (kinds : List Kind) (place : ℕ) (keys : List KeyDecl) (i : ℕ) (k : KeyDecl) (rows : List Placed) (b : Break) (whole : Option Break)
    → i < length keys → k ≡ get_or keys i k → Some b ≡ option_map (break_of kinds place k) (first_pair k rows)
    → first_broken kinds place (drop i keys) rows ≡ whole → Some b ≡ whole
broken_found kinds place keys i k rows b whole within is found decides =
    ap (λ (o : Option Break). option_or o (first_broken kinds (place + 1) (drop (i + 1) keys) rows)) found ∙ sym (broken_step kinds place keys i k rows within is) ∙ decides

pub broken_next : (kinds : List Kind) (place : ℕ) (keys : List KeyDecl) (i : ℕ) (k : KeyDecl) (rows : List Placed) (whole : Option Break)
    → i < length keys → k ≡ get_or keys i k → None ≡ option_map (break_of kinds place k) (first_pair k rows)
    → first_broken kinds place (drop i keys) rows ≡ whole → first_broken kinds (place + 1) (drop (i + 1) keys) rows ≡ whole
broken_next kinds place keys i k rows whole within is none decides =
    ap (λ (o : Option Break). option_or o (first_broken kinds (place + 1) (drop (i + 1) keys) rows)) none ∙ sym (broken_step kinds place keys i k rows within is) ∙ decides

pub broken_last : (kinds : List Kind) (place : ℕ) (keys : List KeyDecl) (i : ℕ) (rows : List Placed) (whole : Option Break) → length keys ≤ i
    → first_broken kinds place (drop i keys) rows ≡ whole → None ≡ whole
unfolding first_broken
broken_last kinds place keys i rows whole end decides =
    sym (at_drop_all (λ (ks : List KeyDecl). first_broken kinds place ks rows) keys i end) ∙ decides

-- rows that are put where there were none are judged as they are
pub judged_alone : (s : Shape) (rows : List Placed) (o : Option Break) → RowsAscend rows → o ≡ first_break s (standing [] rows []) → first_break s rows ≡ o
judged_alone s rows o ascend is = sym (is ∙ ap (first_break s) (put_alone rows (ascends_from rows ascend)))
