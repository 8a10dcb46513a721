-- The example of three batches.
use Rattle.std.proofs.Common.{◌≡◌, ℕ, ◌+◌, ◌-◌, ◌≤◌, Bool, true, false, cond, if◌then◌else◌, List, [], ◌∷◌, length, Option, Some, None, IsTrue, is_some, refl, ap, ◌∙◌, subst, sym, arith}
use Rattle.std.specs.List.Sorted.{IsStrictlySortedBy}
use Rattle.std.proofs.lemmas.List.Elements.{All-nil, All-cons}
use Rattle.std.specs.FinMap.{empty, insert, remove, get-empty, len-empty, len-insert, len-remove, contains_key}
use Rattle.pk_rows.specs.declared.place.Place.{Place}
use Rattle.pk_rows.specs.declared.stored.Stored.{Stored}
use Rattle.pk_rows.specs.declared.batch.Batch.{Batch}
use Rattle.pk_rows.specs.Maps.{Map, place_cmp, bytes_at, has_place, place_count, without, with_all, committed}
use Rattle.pk_rows.specs.Batches.{CanCommit}
use Rattle.pk_rows.specs.Laws.{put_or, is_among}
use Rattle.pk_rows.specs.Edges.{place, stored, first, second, third, batches, ExampleIsRun}
use Rattle.pk_rows.proofs.PlaceOrder.{place_total}
use Rattle.pk_rows.proofs.CommitLemmas.{told_by_place}

-- A commit adds no more places than it puts.

no_more : (b : Bool) (n : ℕ) → cond b (n - 1) n ≤ n
no_more true n = omega arith
no_more false n = omega arith

one_more : (b : Bool) (n : ℕ) → cond b n (n + 1) ≤ n + 1
one_more true n = omega arith
one_more false n = omega arith

out_count : (ps : List Place) (m : Map) → place_count (without ps m) ≤ place_count m
out_count [] m = omega arith
out_count (p ∷ ps) m =
    let rest = out_count ps (remove m p) in
    let here : place_count (remove m p) ≤ place_count m = subst (λ n. n ≤ place_count m) (sym (len-remove place_total m p)) (no_more (contains_key m p) (place_count m)) in
    omega arith

put_count : (ss : List Stored) (m : Map) → place_count (with_all ss m) ≤ place_count m + length ss
put_count [] m = omega arith
put_count (s ∷ ss) m =
    let rest = put_count ss (insert m s.place s.bytes) in
    let here : place_count (insert m s.place s.bytes) ≤ place_count m + 1 =
    subst (λ n. n ≤ place_count m + 1) (sym (len-insert place_total m s.place s.bytes)) (one_more (contains_key m s.place) (place_count m)) in
    omega arith

commit_count : (b : Batch) (m : Map) → place_count (committed b m) ≤ place_count m + length b.put
commit_count b m =
    let put = put_count b.put (without b.gone m) in
    let out = out_count b.gone m in
    omega arith

-- What stands at a place after each of the batches.

seen : (b : Batch) (m : Map) (q : Place) (o : Option (List ℕ)) → bytes_at m q ≡ o → bytes_at (committed b m) q ≡ put_or b.put q (if is_among q b.gone then None else o)
seen b m q o h = told_by_place b m q ∙ ap (λ v. put_or b.put q (if is_among q b.gone then None else v)) h

in_one : (q : Place) → bytes_at (committed first empty) q ≡ put_or first.put q None
in_one q = seen first empty q None (get-empty place_cmp q)

in_two : (q : Place) → bytes_at (committed second (committed first empty)) q ≡ put_or second.put q (if is_among q second.gone then None else put_or first.put q None)
in_two q = seen second (committed first empty) q _ (in_one q)

in_three : (q : Place)
    → bytes_at (committed third (committed second (committed first empty))) q
    ≡ put_or third.put q (if is_among q third.gone then None else put_or second.put q (if is_among q second.gone then None else put_or first.put q None))
in_three q = seen third (committed second (committed first empty)) q _ (in_two q)

abbrev small : Stored → Type 0
small s = length s.bytes ≤ 4080

abbrev there : Map → Place → Type 0
there m p = IsTrue (has_place m p)

may_first : CanCommit first empty
unfolding IsStrictlySortedBy
may_first = record {
  gone_ascend = tt;
  put_ascend = ((refl, (refl, tt)), ((refl, tt), (tt, tt)));
  sized =
      let a = stored 0 1 (7 ∷ []) in
      let b = stored 1 1 (97 ∷ 98 ∷ []) in
      let c = stored 257 0 [] in
      All-cons small a (b ∷ c ∷ []) (omega arith) (All-cons small b (c ∷ []) (omega arith) (All-cons small c [] (omega arith) (All-nil small)));
  present = All-nil (there empty);
  few = omega arith;
  fits = let most = commit_count first empty in let none = len-empty place_cmp (List ℕ) in omega arith;
}

may_second : CanCommit second (committed first empty)
unfolding IsStrictlySortedBy
may_second = record {
  gone_ascend = ((refl, tt), (tt, tt));
  put_ascend = ((refl, tt), (tt, tt));
  sized =
      let a = stored 1 1 (99 ∷ []) in
      let b = stored 1 2 [] in
      All-cons small a (b ∷ []) (omega arith) (All-cons small b [] (omega arith) (All-nil small));
  present =
      let held = there (committed first empty) in
      All-cons held (place 0 1) (place 1 1 ∷ []) (ap is_some (in_one (place 0 1))) (All-cons held (place 1 1) [] (ap is_some (in_one (place 1 1))) (All-nil held));
  few = omega arith;
  fits = let most = commit_count second (committed first empty) in let before = commit_count first empty in let none = len-empty place_cmp (List ℕ) in omega arith;
}

may_third : CanCommit third (committed second (committed first empty))
unfolding IsStrictlySortedBy
may_third = record {
  gone_ascend = (tt, tt);
  put_ascend = tt;
  sized = All-nil small;
  present =
      let held = there (committed second (committed first empty)) in
      All-cons held (place 257 0) [] (ap is_some (in_two (place 257 0))) (All-nil held);
  few = omega arith;
  fits =
      let most = commit_count third (committed second (committed first empty)) in
      let between = commit_count second (committed first empty) in
      let before = commit_count first empty in
      let none = len-empty place_cmp (List ℕ) in
      omega arith;
}

pub example_run : ExampleIsRun
example_run = record {
  may_run = (may_first, (may_second, (may_third, tt)));
  once_gone = in_three (place 0 1);
  gone_and_put = in_three (place 1 1);
  put = in_three (place 1 2);
  gone_alone = in_three (place 257 0);
  never_put = in_three (place 1 0);
}
