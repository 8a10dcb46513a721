-- A literal that isn't refused, as a value.
use Rattle.std.proofs.Common.{◌≡◌, refl, sym, ap, subst, ℕ, Bool, true, false, cond, ◌&&◌, not, List, length, Some, None, nat_le, arith, IsTrue}
use Rattle.std.specs.Str.{is_utf8, IsUtf8}
use Rattle.std.proofs.lemmas.List.{take_all}
use Rattle.std.proofs.lemmas.Str.{IsUtf8-from_is_utf8}
use Rattle.std.proofs.lemmas.Bool.{and_from, and_parts, leb-true, le-leb}
use Rattle.pk_values.specs.declared.kind.Kind.{Kind}
use Rattle.pk_values.specs.declared.kind.Kind.TheVariants as kinds
use Rattle.pk_values.specs.declared.value.Value.TheVariants as values
use Rattle.pk_values.specs.declared.refusal.Refusal.{Refusal}
use Rattle.pk_values.specs.Values.{fits_kind}
use Rattle.pk_values.specs.Words.{is_words, IsCause}
use Rattle.pk_values.specs.declared.words.WordsErr.{WordsErr}
use Rattle.pk_values.specs.declared.words.WordsErr.TheVariants.{TooLong, NotUtf8, Memory}
use Rattle.pk_syntax.specs.declared.declaration.ColumnDecl.{ColumnDecl}
use Rattle.pk_syntax.specs.declared.literal.Literal.{Literal}
use Rattle.pk_syntax.specs.declared.literal.Literal.TheVariants.{Null, Number, Wide, Text}
use Rattle.pk_syntax.specs.Given.{has_utf8}
use Rattle.pk_schema.specs.Admits.{has_other_kind, is_long, is_missing}
use Rattle.pk_bind.specs.declared.literals.Check.{Check}
use Rattle.pk_bind.specs.declared.literals.Check.TheVariants as checks
use Rattle.pk_bind.specs.Literals.{unless_kind, kind_fault, wide_fault, long_fault, null_fault, stored_value}
use Rattle.pk_bind.specs.Fitting.{may_hold}
use Rattle.pk_bind.proofs.Utf8Lemmas.{utf8_bytes}
use Rattle.std.proofs.Math.Bool.{and-false}

-- what each check has, all have
pub by_check : (P : Check → Type 0) → P checks.Kind → P checks.Wide → P checks.Length → P checks.Null → (check : Check) → P check
by_check P kind wide long null checks.Kind = kind
by_check P kind wide long null checks.Wide = wide
by_check P kind wide long null checks.Length = long
by_check P kind wide long null checks.Null = null

number_fits : (name : List ℕ) (k : Kind) (z : _) → unless_kind name k kinds.Integer ≡ None → fits_kind k (values.Integer z) ≡ true
number_fits name kinds.Integer z free = refl
number_fits name kinds.Text z free = cc

text_fits : (name : List ℕ) (k : Kind) (bytes : List ℕ) → has_utf8 (Text bytes) ≡ true → unless_kind name k kinds.Text ≡ None
    → fits_kind k (values.Text bytes) ≡ true
text_fits name kinds.Integer bytes utf8 free = cc
text_fits name kinds.Text bytes utf8 free = utf8_bytes bytes utf8

-- its value is of the column's kind
pub stored_fits : (c : ColumnDecl) (l : Literal) → has_utf8 l ≡ true → kind_fault c l ≡ None → fits_kind c.kind (stored_value l) ≡ true
stored_fits c Null utf8 free = refl
stored_fits c (Number z) utf8 free = number_fits c.name c.kind z free
stored_fits c Wide utf8 free = refl
stored_fits c (Text bytes) utf8 free = text_fits c.name c.kind bytes utf8 free

short : (b : Bool) (r : Refusal) → cond b None (Some r) ≡ None → b ≡ true
short true r free = refl
short false r free = cc

nullable : (b : Bool) (r : Refusal) → cond b (Some r) None ≡ None → b ≡ false
nullable true r free = cc
nullable false r free = refl

-- nothing is wrong with a value in the column
pub holds : (c : ColumnDecl) (v : _) → fits_kind c.kind v ≡ true → is_long c v ≡ false → is_missing c v ≡ false → may_hold c v ≡ true
holds c v fits long missing =
    and_from (not (has_other_kind c v) && not (is_long c v)) (not (is_missing c v))
    (and_from (not (has_other_kind c v)) (not (is_long c v)) (ap (λ b. not (not b)) fits) (ap not long))
    (ap not missing)

no_text : (c : ColumnDecl) → not (nat_le 0 c.max) ≡ false
no_text c = ap not (le-leb 0 c.max (omega arith))

-- the column may hold null, where it takes null
pub null_holds : (c : ColumnDecl) → c.not_null ≡ false → may_hold c values.Null ≡ true
null_holds c takes = holds c values.Null refl (no_text c) (ap (λ b. b && true) takes)

-- the column may hold its value
pub stored_holds : (c : ColumnDecl) (l : Literal) → has_utf8 l ≡ true
    → kind_fault c l ≡ None → wide_fault l ≡ None → long_fault c.name c.max l ≡ None → null_fault c l ≡ None → may_hold c (stored_value l) ≡ true
stored_holds c Null utf8 kind wide long null = null_holds c (nullable c.not_null _ null)
stored_holds c (Number z) utf8 kind wide long null = holds c (values.Integer z) (stored_fits c (Number z) utf8 kind) (no_text c) (and-false c.not_null)
stored_holds c Wide utf8 kind wide long null = absurd cc
stored_holds c (Text bytes) utf8 kind wide long null =
    holds c (values.Text bytes) (stored_fits c (Text bytes) utf8 kind) (ap not (short (nat_le (length bytes) c.max) _ long)) (and-false c.not_null)

-- words are UTF-8
pub words_are_utf8 : (bytes : List ℕ) → IsTrue (is_words bytes) → IsTrue (is_utf8 bytes)
words_are_utf8 bytes are = (and_parts (nat_le (length bytes) 255) (is_utf8 bytes) are).1

-- reading words fails for memory alone
pub is_memory : (e : WordsErr) (bytes : List ℕ) → IsTrue (is_words bytes) → IsCause e bytes → e ≡ Memory
is_memory (TooLong len) bytes are cause =
    absurd (omega (arith, cause.1, leb-true (length bytes) 255 (and_parts (nat_le (length bytes) 255) (is_utf8 bytes) are).0))
is_memory (NotUtf8 at) bytes are cause =
    absurd (cause.1.longest (length bytes) cause.1.short
    (subst IsUtf8 (sym (take_all (length bytes) bytes (omega arith))) (IsUtf8-from_is_utf8 bytes (words_are_utf8 bytes are))))
is_memory Memory bytes are cause = refl
