use Rattle.std.specs.Prelude.{ℕ, ◌==◌, List, [], ◌∷◌, ◌++◌, length, drop, codes, slice_index_or, if◌then◌else◌}
use Rattle.std.specs.List.{flat_map, join_by}
use Rattle.std.specs.Fmt.{decimal, signed_decimal}
use Rattle.pk_values.specs.ColumnSet.{columns}
use Rattle.pk_values.specs.declared.broken.Break.{Break}
use Rattle.pk_values.specs.declared.key.KeyDecl.{KeyDecl}
use Rattle.pk_values.specs.declared.key.Sort.{Sort}
use Rattle.pk_values.specs.declared.key.Sort.TheVariants as sorts
use Rattle.pk_values.specs.declared.refusal.BaseLimitName.{BaseLimitName}
use Rattle.pk_values.specs.declared.refusal.BaseLimitName.TheVariants as base_limits
use Rattle.pk_values.specs.declared.refusal.LimitName.{LimitName}
use Rattle.pk_values.specs.declared.refusal.LimitName.TheVariants as limits
use Rattle.pk_values.specs.declared.refusal.SetsName.{SetsName}
use Rattle.pk_values.specs.declared.refusal.SetsName.TheVariants as sets
use Rattle.pk_values.specs.declared.refusal.Refusal.{Refusal}
use Rattle.pk_values.specs.declared.refusal.Refusal.TheVariants.{BadCharacter, UnclosedText, NotStatement, NoTable, TableExists, NoColumn, ColumnTwice, ValueCount, WrongKind, WideNumber, LongText, NullValue, LongRow, Limit, Open, NoTransaction, Transactions, ManyChanges, Conflict, BaseLimit, BrokenKey, DiscoveryRows, KeySets}
use Rattle.pk_values.specs.declared.rule.Rule.{Rule}
use Rattle.pk_values.specs.declared.rule.Rule.TheVariants.{Declared, Strengthen, Weaken, Extend}
use Rattle.pk_values.specs.declared.value.Value.{Value}
use Rattle.pk_values.specs.declared.value.Value.TheVariants.{Null, Integer, Text}
use Rattle.pk_report.specs.declared.example.Example.{Example}
use Rattle.pk_report.specs.declared.reply.Reply.{Reply}
use Rattle.pk_report.specs.declared.reply.Reply.TheVariants.{Created, Dropped, Inserted, Updated, Deleted, Selected, Count, Begun, Committed, CommittedNothing, RolledBack, InSession, Shown, Implied, NotImplied, Cover, Examples, Discovered, Checkpointed, Refused}

-- the bytes, and a line feed
abbrev pub line : List ℕ → List ℕ
line bytes = bytes ++ 10 ∷ []

-- texts one behind the other
abbrev pub said : List (List ℕ) → List ℕ
said texts = flat_map (λ words. words) texts

-- a byte within quotes: a quote is doubled
abbrev pub quoted_byte : ℕ → List ℕ
quoted_byte b = if b == 39 then 39 ∷ 39 ∷ [] else b ∷ []

-- a value as a reply shows it, in a row and in a list
abbrev pub value_text : Value → List ℕ
value_text Null = codes "NULL"
value_text (Integer z) = signed_decimal z
value_text (Text bytes) = 39 ∷ [] ++ flat_map quoted_byte bytes ++ 39 ∷ []

-- the items, each as it is shown, in parentheses and with a comma and a blank between each two
abbrev pub listed : {X : Type 0} → (X → List ℕ) → List X → List ℕ
listed shown items = codes "(" ++ join_by shown (codes ", ") items ++ codes ")"

-- values as a list
abbrev pub values_text : List Value → List ℕ
values_text values = listed value_text values

-- the name of a column
abbrev pub name_at : List (List ℕ) → ℕ → List ℕ
name_at names c = slice_index_or names c []

-- the names of a set's columns as a list
abbrev pub set_text : List (List ℕ) → ℕ → List ℕ
set_text names set = listed (name_at names) (columns set)

-- the items, each as it is shown, with a bar between each two, as a line
abbrev pub barred : {X : Type 0} → (X → List ℕ) → List X → List ℕ
barred shown items = line (join_by shown (codes "|") items)

-- a row as a reply shows it
abbrev pub row_text : List Value → List ℕ
row_text values = barred value_text values

-- the names of the columns, the rows, and how many rows there are
abbrev pub selected_text : List (List ℕ) → List (List Value) → List ℕ
selected_text header rows = barred (λ name. name) header ++ flat_map row_text rows ++ line (codes "rows " ++ decimal (length rows))

-- a count as a table of one row
abbrev pub count_text : ℕ → List ℕ
count_text n = line (codes "count") ++ line (decimal n) ++ line (codes "rows 1")

-- the name of a step from a declared key, which is no step itself
abbrev pub rule_text : Rule → List ℕ
rule_text (Declared key) = []
rule_text Strengthen = codes "strengthening"
rule_text Weaken = codes "weakening"
rule_text (Extend to) = codes "extension"

-- the steps, where there are any
abbrev pub steps_text : List Rule → List ℕ
steps_text [] = []
steps_text (step ∷ steps) = codes " by " ++ join_by rule_text (codes ", ") (step ∷ steps)

-- the declared key, and the steps that lead from it
abbrev pub implied_text : ℕ → List Rule → List ℕ
implied_text key rules = line (codes "implied by key " ++ decimal key ++ steps_text (drop 1 rules))

-- two rows
abbrev pub pair_text : List Value → List Value → List ℕ
pair_text low high = values_text low ++ codes " and " ++ values_text high

-- a key as it is declared
abbrev pub key_text : List (List ℕ) → KeyDecl → List ℕ
key_text names key = key_words key.sort ++ set_text names key.columns
  where
    key_words : Sort → List ℕ
    key_words sorts.Certain = codes "CERTAIN KEY "
    key_words sorts.Possible = codes "POSSIBLE KEY "

-- the keys, and how many there are
abbrev pub cover_text : List (List ℕ) → List KeyDecl → List ℕ
cover_text names keys = flat_map (λ key. line (key_text names key)) keys ++ line (codes "keys " ++ decimal (length keys))

-- a key of which these words are said, and two rows that show it
abbrev pub lack_text : List ℕ → List (List ℕ) → Example → List ℕ
lack_text words names case = words ++ set_text names case.columns ++ codes ": rows " ++ pair_text case.low case.high

-- a key that isn't implied
abbrev pub case_text : List (List ℕ) → Example → List ℕ
case_text names case = line (lack_text (lack_words case.sort) names case)
  where
    lack_words : Sort → List ℕ
    lack_words sorts.Certain = codes "not certain "
    lack_words sorts.Possible = codes "not possible "

-- the cases, and how many there are
abbrev pub examples_text : List (List ℕ) → List Example → List ℕ
examples_text names cases = flat_map (case_text names) cases ++ line (codes "examples " ++ decimal (length cases))

-- a key of a sort, as a line
abbrev pub set_line : List ℕ → List (List ℕ) → ℕ → List ℕ
set_line sort names set = line (sort ++ codes " " ++ set_text names set)

-- the keys of a sort, or that there is none
abbrev pub sets_text : List ℕ → List (List ℕ) → List ℕ → List ℕ
sets_text sort names [] = line (sort ++ codes " none")
sets_text sort names (set ∷ others) = flat_map (set_line sort names) (set ∷ others)

-- the limit of a declaration
abbrev pub limit_text : LimitName → List ℕ
limit_text limits.Name = codes "name 30"
limit_text limits.Columns = codes "columns 32"
limit_text limits.Keys = codes "keys 32"
limit_text limits.Nullable = codes "nullable columns 5"
limit_text limits.Tables = codes "tables 256"

-- the limit of a base
abbrev pub base_limit_text : BaseLimitName → List ℕ
base_limit_text base_limits.Rows = codes "rows 200000"
base_limit_text base_limits.RowIds = codes "row ids 4611686018427387904"
base_limit_text base_limits.Commits = codes "commits 4611686018427387904"

-- the limit of sets that are counted
abbrev pub sets_limit_text : SetsName → List ℕ
sets_limit_text sets.Certain = codes "certain sets 4096"
sets_limit_text sets.Possible = codes "possible sets 4096"

-- the sort of a key that is broken
abbrev pub broken_words : Sort → List ℕ
broken_words sorts.Certain = codes "certain key "
broken_words sorts.Possible = codes "possible key "

-- how two rows that break a key of this sort agree
abbrev pub agree_words : Sort → List ℕ
agree_words sorts.Certain = codes " agree in the completion "
agree_words sorts.Possible = codes " agree on "

-- two rows of the table that break a key, and the values on which they agree
unfoldable pub broken_text : List ℕ → Break → List ℕ
broken_text table b =
    said (broken_words b.sort ∷ decimal b.key ∷ codes " of " ∷ table ∷ codes ": rows " ∷ decimal b.low ∷ codes " and " ∷ decimal b.high
    ∷ agree_words b.sort ∷ values_text b.values ∷ [])

-- the words of a refusal
abbrev pub refusal_text : Refusal → List ℕ
refusal_text (BadCharacter at_line) = codes "bad character on line " ++ decimal at_line
refusal_text (UnclosedText at_line) = codes "unclosed text on line " ++ decimal at_line
refusal_text (NotStatement at_line) = codes "not a statement on line " ++ decimal at_line
refusal_text (NoTable table) = codes "no table " ++ table
refusal_text (TableExists table) = codes "table " ++ table ++ codes " exists"
refusal_text (NoColumn column table) = codes "no column " ++ column ++ codes " in " ++ table
refusal_text (ColumnTwice column) = codes "column " ++ column ++ codes " twice"
refusal_text (ValueCount values columns) = decimal values ++ codes " values for " ++ decimal columns ++ codes " columns"
refusal_text (WrongKind column) = codes "wrong kind for column " ++ column
refusal_text WideNumber = codes "number outside 64 bits"
refusal_text (LongText column bytes most) =
    said (codes "text of " ∷ decimal bytes ∷ codes " bytes for column " ∷ column ∷ codes ", at most " ∷ decimal most ∷ [])
refusal_text (NullValue column) = codes "null in column " ++ column
refusal_text (LongRow bytes) = codes "row of " ++ decimal bytes ++ codes " bytes, at most 4000"
refusal_text (Limit what) = codes "limit " ++ limit_text what
refusal_text (Open session) = codes "transaction open in " ++ session
refusal_text NoTransaction = codes "no transaction"
refusal_text Transactions = codes "limit transactions 16"
refusal_text ManyChanges = codes "limit changes 20000"
refusal_text (Conflict row table commit) =
    said (codes "conflict on row " ∷ decimal row ∷ codes " of " ∷ table ∷ codes " with commit " ∷ decimal commit ∷ [])
refusal_text (BaseLimit what) = codes "limit " ++ base_limit_text what
refusal_text (BrokenKey table broken) = broken_text table broken
refusal_text DiscoveryRows = codes "limit discovery rows 8192"
refusal_text (KeySets what edge) = codes "limit " ++ sets_limit_text what ++ codes " at edge " ++ decimal edge

-- the bytes of a reply
unfoldable pub text : Reply → List ℕ
text (Created table) = line (codes "created " ++ table)
text (Dropped table) = line (codes "dropped " ++ table)
text (Inserted n) = line (codes "inserted " ++ decimal n)
text (Updated n) = line (codes "updated " ++ decimal n)
text (Deleted n) = line (codes "deleted " ++ decimal n)
text (Selected header rows) = selected_text header rows
text (Count n) = count_text n
text Begun = line (codes "begun")
text (Committed n) = line (codes "committed " ++ decimal n)
text CommittedNothing = line (codes "committed nothing")
text RolledBack = line (codes "rolled back")
text (InSession name) = line (codes "session " ++ name)
text (Shown table) = line table
text (Implied key rules) = implied_text key rules
text (NotImplied low high) = line (codes "not implied: rows " ++ pair_text low high)
text (Cover names keys) = cover_text names keys
text (Examples names cases) = examples_text names cases
text (Discovered names certain possible) = sets_text (codes "certain") names certain ++ sets_text (codes "possible") names possible
text Checkpointed = line (codes "checkpoint")
text (Refused refusal) = line (codes "refused: " ++ refusal_text refusal)
