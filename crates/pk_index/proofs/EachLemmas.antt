-- Filing a row under each of its projections, column by column.
use Rattle.std.proofs.Common.{◌≡◌, refl, sym, ◌∙◌, ap, ℕ, Bool, true, false, not, ◌&&◌, ◌||◌, List, [], ◌∷◌, ◌++◌, length, take, Some, Result, Ok, Err}
use Rattle.std.specs.Prelude.{slice_get, OnOk}
use Rattle.std.specs.Ordering.{nat_cmp, eq_by_cmp}
use Rattle.std.specs.Str.{bytes_eq}
use Rattle.std.proofs.Math.Seq.{take-append_seam}
use Rattle.pk_values.specs.declared.value.Value.{Value}
use Rattle.pk_values.specs.Records.{value_record}
use Rattle.pk_index.specs.declared.family.Family.{Family}
use Rattle.pk_index.specs.Rows.{values_on}
use Rattle.pk_index.specs.Filing.{has, Puts, Takes, may_open, open_record, is_filed_behind}
use Rattle.pk_index.proofs.FilingLemmas.{or_false, filed_end}
use Rattle.pk_index.proofs.RowLemmas.{filed_by_column}

module _ (id : ℕ) (whole one : List ℕ → Bool) where
  pub puts_same : (old new : Family) → ((bytes : List ℕ) → whole bytes ≡ one bytes) → Puts old new one id → Puts old new whole id
  puts_same old new same puts bytes j = puts bytes j ∙ ap (λ t. has old bytes j || (t && eq_by_cmp nat_cmp j id)) (sym (same bytes))

  pub takes_same : (old new : Family) → ((bytes : List ℕ) → whole bytes ≡ one bytes) → Takes old new one id → Takes old new whole id
  takes_same old new same takes bytes j = takes bytes j ∙ ap (λ t. has old bytes j && not (t && eq_by_cmp nat_cmp j id)) (sym (same bytes))

joined_puts : (h a b e : Bool) → ((h || (a && e)) || (b && e)) ≡ (h || ((a || b) && e))
joined_puts true a b e = refl
joined_puts false true true true = refl
joined_puts false true true false = refl
joined_puts false true false true = refl
joined_puts false true false false = refl
joined_puts false false b e = refl

joined_takes : (h a b e : Bool) → ((h && not (a && e)) && not (b && e)) ≡ (h && not ((a || b) && e))
joined_takes false a b e = refl
joined_takes true true true true = refl
joined_takes true true true false = refl
joined_takes true true false true = refl
joined_takes true true false false = refl
joined_takes true false b e = refl

module _ (id : ℕ) (one two : List ℕ → Bool) (old mid new : Family) where
  puts_both : Puts old mid one id → Puts mid new two id → Puts old new (λ bytes. one bytes || two bytes) id
  puts_both first second bytes j =
      second bytes j ∙ ap (λ h. h || (two bytes && eq_by_cmp nat_cmp j id)) (first bytes j)
      ∙ joined_puts (has old bytes j) (one bytes) (two bytes) (eq_by_cmp nat_cmp j id)

  takes_both : Takes old mid one id → Takes mid new two id → Takes old new (λ bytes. one bytes || two bytes) id
  takes_both first second bytes j =
      second bytes j ∙ ap (λ h. h && not (two bytes && eq_by_cmp nat_cmp j id)) (first bytes j)
      ∙ joined_takes (has old bytes j) (one bytes) (two bytes) (eq_by_cmp nat_cmp j id)

-- a projection that tells all columns
module _ (cs front : List ℕ) (vs : List Value) (nullable id : ℕ) (none : cs ≡ []) (old new : Family) where
  ended : (bytes : List ℕ) → is_filed_behind front nullable cs vs bytes ≡ bytes_eq front bytes
  ended bytes = ap (λ zs. is_filed_behind front nullable zs vs bytes) none ∙ filed_end front nullable vs bytes

  pub puts_end : Puts old new (bytes_eq front) id → Puts old new (is_filed_behind front nullable cs vs) id
  puts_end puts = puts_same id (is_filed_behind front nullable cs vs) (bytes_eq front) old new ended puts

  pub takes_end : Takes old new (bytes_eq front) id → Takes old new (is_filed_behind front nullable cs vs) id
  takes_end takes = takes_same id (is_filed_behind front nullable cs vs) (bytes_eq front) old new ended takes

-- the first column with its value and, where it may be, left open
module _ (row : List Value) (cs others : List ℕ) (c : ℕ) (v : Value) (split : cs ≡ c ∷ others) (here : slice_get row c ≡ Some v)
    (front valued : List ℕ) (nullable id : ℕ) (first : valued ≡ front ++ value_record v) where
  -- filed behind a front with the other columns left
  abbrev behind_front : List ℕ → List ℕ → Bool
  behind_front bytes = is_filed_behind bytes nullable others (values_on others row)

  closed : may_open nullable c v ≡ false → (bytes : List ℕ) → is_filed_behind front nullable cs (values_on cs row) bytes ≡ behind_front valued bytes
  closed stays bytes =
      filed_by_column row cs others c v split here front nullable bytes
      ∙ ap (λ t. behind_front (front ++ value_record v) bytes || (t && behind_front (front ++ open_record) bytes)) stays
      ∙ or_false (behind_front (front ++ value_record v) bytes)
      ∙ ap (λ z. behind_front z bytes) (sym first)

  opened : (left : List ℕ) → may_open nullable c v ≡ true → left ≡ front ++ open_record
      → (bytes : List ℕ) → is_filed_behind front nullable cs (values_on cs row) bytes ≡ (behind_front valued bytes || behind_front left bytes)
  opened left opens second bytes =
      filed_by_column row cs others c v split here front nullable bytes
      ∙ ap (λ t. behind_front (front ++ value_record v) bytes || (t && behind_front (front ++ open_record) bytes)) opens
      ∙ ap (λ z. behind_front z bytes || behind_front (front ++ open_record) bytes) (sym first)
      ∙ ap (λ z. behind_front valued bytes || behind_front z bytes) (sym second)

  pub puts_closed : (old new : Family) → may_open nullable c v ≡ false → Puts old new (behind_front valued) id
      → Puts old new (is_filed_behind front nullable cs (values_on cs row)) id
  puts_closed old new stays puts = puts_same id (is_filed_behind front nullable cs (values_on cs row)) (behind_front valued) old new (closed stays) puts

  pub takes_closed : (old new : Family) → may_open nullable c v ≡ false → Takes old new (behind_front valued) id
      → Takes old new (is_filed_behind front nullable cs (values_on cs row)) id
  takes_closed old new stays takes = takes_same id (is_filed_behind front nullable cs (values_on cs row)) (behind_front valued) old new (closed stays) takes

  pub puts_open : (old mid new : Family) (left : List ℕ) → may_open nullable c v ≡ true → left ≡ front ++ open_record
      → Puts old mid (behind_front valued) id → Puts mid new (behind_front left) id → Puts old new (is_filed_behind front nullable cs (values_on cs row)) id
  puts_open old mid new left opens second one two =
      puts_same id (is_filed_behind front nullable cs (values_on cs row)) (λ bytes. behind_front valued bytes || behind_front left bytes) old new (opened left opens second)
      (puts_both id (behind_front valued) (behind_front left) old mid new one two)

  pub takes_open : (old mid new : Family) (left : List ℕ) → may_open nullable c v ≡ true → left ≡ front ++ open_record
      → Takes old mid (behind_front valued) id → Takes mid new (behind_front left) id → Takes old new (is_filed_behind front nullable cs (values_on cs row)) id
  takes_open old mid new left opens second one two =
      takes_same id (is_filed_behind front nullable cs (values_on cs row)) (λ bytes. behind_front valued bytes || behind_front left bytes) old new (opened left opens second)
      (takes_both id (behind_front valued) (behind_front left) old mid new one two)

-- what is cut off again leaves the front
pub cut_back : (front part left : List ℕ) → left ≡ front ++ part → take (length front) left ≡ front
cut_back front part left is = ap (take (length front)) is ∙ take-append_seam front part

-- what holds at Ok says what follows from it
pub at_ok : {X E : Type 0} (r : Result X E) (P Q : Type 0) → (P → Q) → OnOk r P → OnOk r Q
at_ok (Ok x) P Q follows holds = follows holds
at_ok (Err e) P Q follows holds = tt
