-- The sets of all pairs of places are those of the rows at them.
use Rattle.std.proofs.Common.{◌≡◌, sym, ◌∙◌, ap, subst, ℕ, ◌+◌, List, length, map, arith}
use Rattle.std.specs.List.{AllZip, range_with_len}
use Rattle.std.proofs.lemmas.List.{length-map}
use Rattle.pk_values.specs.declared.value.Value.{Value}
use Rattle.pk_values.specs.ColumnSet.{columns}
use Rattle.pk_similar.specs.Similarity.{apart, not_same}
use Rattle.pk_sweep.specs.declared.coding.CodedColumn.{CodedColumn}
use Rattle.pk_sweep.specs.declared.sets.Sets.{Sets}
use Rattle.pk_sweep.specs.Pairs.{InOrder, apart_sets, not_same_sets}
use Rattle.pk_sweep.specs.Coding.{IsCoded, AreCoded, AreOfPairs, AreLong, null_set, place_pairs, apart_at, not_same_at}
use Rattle.pk_sweep.proofs.ListLemmas.{zip_each}
use Rattle.pk_sweep.proofs.SetLemmas.{column_below}
use Rattle.pk_sweep.proofs.CodeLemmas.{apart_is, not_same_is}
use Rattle.pk_sweep.proofs.PairLemmas.{place_pairs_are}

-- each column has a number for each row
pub coded_are_long : (cs listed : List ℕ) (rows : List (List Value)) (coded now : List CodedColumn) (nulls sets : List ℕ) → AllZip (IsCoded rows) cs coded
    → nulls ≡ map (null_set listed) rows → now ≡ coded → sets ≡ nulls → AreLong now sets
coded_are_long cs listed rows coded now nulls sets all are same also =
    subst (λ ks. AreLong ks sets) (sym same)
    (subst (AreLong coded) (sym also)
    (zip_each (IsCoded rows) (λ (k : CodedColumn). length k.codes.items ≡ length nulls) cs coded
    (λ c k is. is.codes.long ∙ sym (ap length are ∙ length-map rows (null_set listed))) all))

module _ (x : ℕ) (cs listed : List ℕ) (rows : List (List Value)) (coded now : List CodedColumn) (nulls sets : List ℕ) (all : Sets) (first : cs ≡ columns x) (second : listed ≡ columns x)
    (are_coded : AllZip (IsCoded rows) cs coded) (nulls_are : nulls ≡ map (null_set listed) rows) (same : now ≡ coded) (also : sets ≡ nulls) (pairs : AreOfPairs now sets all) where
  coding : AreCoded (columns x) rows coded nulls
  coding = record {
    coded = subst (λ ks. AllZip (IsCoded rows) ks coded) first are_coded;
    null = nulls_are ∙ ap (λ ks. map (null_set ks) rows) second;
  }

  as_many : length nulls ≡ length rows
  as_many = ap length nulls_are ∙ length-map rows (null_set listed)

  of_pairs : AreOfPairs coded nulls all
  of_pairs = subst (λ ks. AreOfPairs ks nulls all) same (subst (λ ns. AreOfPairs now ns all) also pairs)

  counted : 0 + length rows ≡ length rows
  counted = omega arith

  pub apart_of_rows : InOrder (apart_sets (columns x) rows) all.apart
  apart_of_rows =
      subst (λ ns. InOrder ns all.apart)
      (ap (λ n. place_pairs (apart_at coded nulls) n (range_with_len 0 n)) as_many
      ∙ place_pairs_are (apart_at coded nulls) (apart (columns x)) rows (apart_is (columns x) rows coded nulls (column_below x) coding) 0 (length rows) counted)
      of_pairs.apart

  pub not_same_of_rows : InOrder (not_same_sets (columns x) rows) all.not_same
  not_same_of_rows =
      subst (λ ns. InOrder ns all.not_same)
      (ap (λ n. place_pairs (not_same_at coded nulls) n (range_with_len 0 n)) as_many
      ∙ place_pairs_are (not_same_at coded nulls) (not_same (columns x)) rows (not_same_is (columns x) rows coded nulls (column_below x) coding) 0 (length rows) counted)
      of_pairs.not_same
