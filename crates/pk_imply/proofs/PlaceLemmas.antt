-- The place of the first key that alone implies another.
use Rattle.std.proofs.Common.{◌≡◌, refl, sym, ◌∙◌, ap, subst, ℕ, suc, ◌+◌, ◌^◌, ◌<◌, Bool, true, false, cond, List, [], ◌∷◌, length, get_or, nat_lt, inl, inr, arith}
use Rattle.std.specs.Prelude.{Option, None, Some, is_some, position, slice_get}
use Rattle.std.specs.List.{Contains, list_any, position_or_len}
use Rattle.std.proofs.lemmas.Bool.{cases_Bool, lt-ltb, both_ways}
use Rattle.std.proofs.lemmas.List.Elements.{All-nil, All-cons, All-contains}
use Rattle.std.proofs.lemmas.List.Quantifiers.{position-Some}
use Rattle.std.proofs.lemmas.Option.{slice_get_within, get_or_from_slice_get, slice_get-get_or}
use Rattle.std.proofs.Math.Dec.{leb-suc-suc}
use Rattle.std.proofs.lemmas.List.{length-map}
use Rattle.pk_values.specs.declared.key.KeyDecl.{KeyDecl}
use Rattle.pk_syntax.specs.declared.declaration.ColumnDecl.{ColumnDecl}
use Rattle.pk_schema.specs.Shapes.{Shape}
use Rattle.pk_rule.specs.Plain.{Plain, IsPlain, plain_of}
use Rattle.pk_rule.specs.Tables.{Implied}
use Rattle.pk_rule.specs.Rule.{alone_implies, is_implied}
use Rattle.pk_rule.specs.Laws.{with_key}
use Rattle.pk_rule.proofs.RuleLemmas.{implied_holds, holds_implied, one_named, one_named_back}
use Rattle.pk_imply.specs.Deriving.{implying_place, IsTrueOfTables}

-- ---- the first element that passes

next_below : (n m : ℕ) → nat_lt (1 + n) (suc m) ≡ nat_lt n m
next_below n m = let next : 1 + n ≡ suc n = omega arith in rw next (leb-suc-suc (suc n) m)

module _ {X : Type 0} where
  some_below : (p : X → Bool) (xs : List X) → nat_lt (position_or_len p xs) (length xs) ≡ list_any p xs
  some_below p [] = refl
  some_below p (x ∷ xs) =
      elim (cases_Bool (p x)) [
        | inl passes ↦ rw passes (lt-ltb 0 (suc (length xs)) (omega arith))
        | inr fails ↦ rw fails (next_below (position_or_len p xs) (length xs) ∙ some_below p xs)
      ]

  -- there is a place exactly where some element passes
  pub place_if_any : (p : X → Bool) (xs : List X) → is_some (position p xs) ≡ list_any p xs
  place_if_any p xs = told (nat_lt (position_or_len p xs) (length xs)) ∙ some_below p xs
    where
      told : (b : Bool) → is_some (cond b (Some (position_or_len p xs)) None) ≡ b
      told true = refl
      told false = refl

pub got_in : {X : Type 0} (xs : List X) (i : ℕ) (x : X) → slice_get xs i ≡ Some x → Contains xs x
got_in xs i x got = (i, slice_get_within xs i x got, get_or_from_slice_get xs i x x got)

-- ---- what it says of tables

pub place_if_implied : (s : Plain) (k : KeyDecl) → is_some (implying_place s k) ≡ is_implied s k
unfolding is_implied
place_if_implied s k = place_if_any (λ (d : KeyDecl). alone_implies s.known d k) s.keys

one_plain : (s : Plain) (d : KeyDecl) → IsPlain s → Contains s.keys d → IsPlain (with_key s d)
one_plain s d plain found = record {
  few_columns = plain.few_columns;
  known_inside = plain.known_inside;
  keys_inside =
      All-cons (λ (k : KeyDecl). k.columns < 2 ^ length s.kinds) d []
      (All-contains (λ (k : KeyDecl). k.columns < 2 ^ length s.kinds) s.keys d plain.keys_inside found) (All-nil (λ (k : KeyDecl). k.columns < 2 ^ length s.kinds));
}

-- one key alone implies another exactly where it does so over all tables
alone_holds : (s : Plain) (k : KeyDecl) (i : ℕ) (d : KeyDecl) → IsPlain s → k.columns < 2 ^ length s.kinds → slice_get s.keys i ≡ Some d
    → alone_implies s.known d k ≡ true → Implied (with_key s d) k
alone_holds s k i d plain inside got alone =
    implied_holds (with_key s d) k (one_plain s d plain (got_in s.keys i d got)) inside (one_named_back s d k alone)

alone_fails : (s : Plain) (k : KeyDecl) (i : ℕ) (d : KeyDecl) → IsPlain s → k.columns < 2 ^ length s.kinds → slice_get s.keys i ≡ Some d
    → alone_implies s.known d k ≡ false → Implied (with_key s d) k → ⊥
alone_fails s k i d plain inside got fails implied =
    both_ways (alone_implies s.known d k) fails (one_named s d k (holds_implied (with_key s d) k (one_plain s d plain (got_in s.keys i d got)) inside implied))

pub true_of_tables : (s : Plain) (k : KeyDecl) (o : Option ℕ) → IsPlain s → k.columns < 2 ^ length s.kinds → o ≡ implying_place s k → IsTrueOfTables s k o
true_of_tables s k None plain inside is = λ implied.
    both_ways (is_implied s k) (sym (place_if_implied s k) ∙ ap is_some (sym is)) (holds_implied s k plain inside implied)
true_of_tables s k (Some place) plain inside is =
    let first = λ (d : KeyDecl). position-Some (λ (e : KeyDecl). alone_implies s.known e k) s.keys place d (sym is) in
    let got : slice_get s.keys place ≡ Some (get_or s.keys place k) = slice_get-get_or s.keys place k (first k).0 in (
      implied_holds s k plain inside (sym (place_if_implied s k) ∙ ap is_some (sym is)),
      record {
        alone = (get_or s.keys place k, got, alone_holds s k place (get_or s.keys place k) plain inside got (first k).1);
        first = λ i d before at implied.
            alone_fails s k i d plain inside at
            (subst (λ (e : KeyDecl). alone_implies s.known e k ≡ false) (get_or_from_slice_get s.keys i d d at) ((first d).2 i before)) implied;
      },
    )

-- a set of a shape's columns is one of the plain schema's
pub shape_inside : (s : Shape) (x : ℕ) → x < 2 ^ length s.columns → x < 2 ^ length (plain_of s).kinds
shape_inside s x inside = subst (λ n. x < 2 ^ n) (sym (length-map s.columns (λ (c : ColumnDecl). c.kind))) inside
