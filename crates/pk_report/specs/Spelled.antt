use Rattle.std.specs.Prelude.{◌≡◌, ℕ, negsuc, List, [], ◌∷◌, ◌+◌, ◌++◌, codes}
use Rattle.std.specs.List.{flat_map}
use Rattle.pk_values.specs.declared.broken.Break.{Break}
use Rattle.pk_values.specs.declared.key.KeyDecl.{KeyDecl}
use Rattle.pk_values.specs.declared.key.Sort.{Sort}
use Rattle.pk_values.specs.declared.key.Sort.TheVariants as sorts
use Rattle.pk_values.specs.declared.refusal.BaseLimitName.TheVariants as base_limits
use Rattle.pk_values.specs.declared.refusal.LimitName.TheVariants as limits
use Rattle.pk_values.specs.declared.refusal.SetsName.TheVariants as sets
use Rattle.pk_values.specs.declared.refusal.Refusal.TheVariants.{BadCharacter, UnclosedText, NotStatement, NoTable, TableExists, NoColumn, ColumnTwice, ValueCount, WrongKind, WideNumber, LongText, NullValue, LongRow, Limit, Open, NoTransaction, Transactions, ManyChanges, Conflict, BaseLimit, BrokenKey, DiscoveryRows, KeySets}
use Rattle.pk_values.specs.declared.rule.Rule.TheVariants.{Declared, Strengthen, Weaken, Extend}
use Rattle.pk_values.specs.declared.value.Value.{Value}
use Rattle.pk_values.specs.declared.value.Value.TheVariants.{Null, Integer, Text}
use Rattle.pk_report.specs.declared.example.Example.{Example}
use Rattle.pk_report.specs.declared.reply.Reply.TheVariants.{Created, Dropped, Inserted, Updated, Deleted, Selected, Count, Begun, Committed, CommittedNothing, RolledBack, InSession, Shown, Implied, NotImplied, Cover, Examples, Discovered, Checkpointed, Refused}
use Rattle.pk_report.specs.Text.{text}

-- a row of a number, null and a text with a quote
abbrev pub mixed : List Value
mixed = Integer (negsuc 0) ∷ Null ∷ Text (codes "O'Hara") ∷ []

-- the names of three columns
abbrev pub names : List (List ℕ)
names = codes "a" ∷ codes "b" ∷ codes "c" ∷ []

-- a set has the bit c for its column c
abbrev pub key : Sort → ℕ → KeyDecl
key sort set = record { sort = sort; columns = set }

abbrev pub case : Sort → ℕ → Example
case sort set = record { sort = sort; columns = set; low = mixed; high = [] }

abbrev pub broken : ℕ → Sort → ℕ → List Value → Break
broken key sort low values = record { key = key; sort = sort; low = low; high = low + 1; values = values }

-- lines, each with a line feed
abbrev pub lines : List (List ℕ) → List ℕ
lines texts = flat_map (λ words. words ++ 10 ∷ []) texts

-- each reply shows as these lines
pub record RepliesAreSpelled : Type 0 where
  pub created_text : text (Created (codes "t")) ≡ lines (codes "created t" ∷ [])
  pub dropped_text : text (Dropped (codes "t")) ≡ lines (codes "dropped t" ∷ [])
  pub inserted_text : text (Inserted 0) ≡ lines (codes "inserted 0" ∷ [])
  pub inserted_text_2 : text (Inserted 18446744073709551615) ≡ lines (codes "inserted 18446744073709551615" ∷ [])
  pub updated_text : text (Updated 2) ≡ lines (codes "updated 2" ∷ [])
  pub deleted_text : text (Deleted 5) ≡ lines (codes "deleted 5" ∷ [])
  pub selected_text : text (Selected (codes "a" ∷ codes "b" ∷ codes "c" ∷ []) (mixed ∷ [])) ≡ lines (codes "a|b|c" ∷ codes "-1|NULL|'O''Hara'" ∷ codes "rows 1" ∷ [])
  pub selected_text_2 : text (Selected (codes "a" ∷ []) []) ≡ lines (codes "a" ∷ codes "rows 0" ∷ [])
  pub count_text : text (Count 4) ≡ lines (codes "count" ∷ codes "4" ∷ codes "rows 1" ∷ [])
  pub begun_text : text Begun ≡ lines (codes "begun" ∷ [])
  pub committed_text : text (Committed 3) ≡ lines (codes "committed 3" ∷ [])
  pub committed_nothing_text : text CommittedNothing ≡ lines (codes "committed nothing" ∷ [])
  pub rolled_back_text : text RolledBack ≡ lines (codes "rolled back" ∷ [])
  pub in_session_text : text (InSession (codes "x")) ≡ lines (codes "session x" ∷ [])
  pub shown_text : text (Shown (codes "CREATE TABLE t (a INTEGER);")) ≡ lines (codes "CREATE TABLE t (a INTEGER);" ∷ [])
  pub implied_text : text (Implied 2 (Declared 2 ∷ [])) ≡ lines (codes "implied by key 2" ∷ [])
  pub implied_text_2 : text (Implied 1 (Declared 1 ∷ Weaken ∷ [])) ≡ lines (codes "implied by key 1 by weakening" ∷ [])
  pub implied_text_3 : text (Implied 1 (Declared 1 ∷ Strengthen ∷ Extend 3 ∷ [])) ≡ lines (codes "implied by key 1 by strengthening, extension" ∷ [])
  pub not_implied_text : text (NotImplied mixed []) ≡ lines (codes "not implied: rows (-1, NULL, 'O''Hara') and ()" ∷ [])
  pub cover_text : text (Cover names (key sorts.Certain 5 ∷ key sorts.Possible 0 ∷ [])) ≡ lines (codes "CERTAIN KEY (a, c)" ∷ codes "POSSIBLE KEY ()" ∷ codes "keys 2" ∷ [])
  pub cover_text_2 : text (Cover names []) ≡ lines (codes "keys 0" ∷ [])
  pub examples_text : text (Examples names (case sorts.Certain 2 ∷ case sorts.Possible 1 ∷ [])) ≡ lines (codes "not certain (b): rows (-1, NULL, 'O''Hara') and ()" ∷ codes "not possible (a): rows (-1, NULL, 'O''Hara') and ()" ∷ codes "examples 2" ∷ [])
  pub discovered_text : text (Discovered names [] (1 ∷ 3 ∷ [])) ≡ lines (codes "certain none" ∷ codes "possible (a)" ∷ codes "possible (a, b)" ∷ [])
  pub discovered_text_2 : text (Discovered names (0 ∷ []) []) ≡ lines (codes "certain ()" ∷ codes "possible none" ∷ [])
  pub checkpointed_text : text Checkpointed ≡ lines (codes "checkpoint" ∷ [])

-- each refusal shows as this line
pub record RefusalsAreSpelled : Type 0 where
  pub bad_character_refused : text (Refused (BadCharacter 3)) ≡ lines (codes "refused: bad character on line 3" ∷ [])
  pub unclosed_text_refused : text (Refused (UnclosedText 4)) ≡ lines (codes "refused: unclosed text on line 4" ∷ [])
  pub not_statement_refused : text (Refused (NotStatement 10)) ≡ lines (codes "refused: not a statement on line 10" ∷ [])
  pub no_table_refused : text (Refused (NoTable (codes "u"))) ≡ lines (codes "refused: no table u" ∷ [])
  pub table_exists_refused : text (Refused (TableExists (codes "x_1"))) ≡ lines (codes "refused: table x_1 exists" ∷ [])
  pub no_column_refused : text (Refused (NoColumn (codes "c") (codes "t"))) ≡ lines (codes "refused: no column c in t" ∷ [])
  pub column_twice_refused : text (Refused (ColumnTwice (codes "c"))) ≡ lines (codes "refused: column c twice" ∷ [])
  pub value_count_refused : text (Refused (ValueCount 3 2)) ≡ lines (codes "refused: 3 values for 2 columns" ∷ [])
  pub value_count_refused_2 : text (Refused (ValueCount 1 18446744073709551615)) ≡ lines (codes "refused: 1 values for 18446744073709551615 columns" ∷ [])
  pub wrong_kind_refused : text (Refused (WrongKind (codes "c"))) ≡ lines (codes "refused: wrong kind for column c" ∷ [])
  pub wide_number_refused : text (Refused WideNumber) ≡ lines (codes "refused: number outside 64 bits" ∷ [])
  pub long_text_refused : text (Refused (LongText (codes "s") 4 3)) ≡ lines (codes "refused: text of 4 bytes for column s, at most 3" ∷ [])
  pub null_value_refused : text (Refused (NullValue (codes "a"))) ≡ lines (codes "refused: null in column a" ∷ [])
  pub long_row_refused : text (Refused (LongRow 4001)) ≡ lines (codes "refused: row of 4001 bytes, at most 4000" ∷ [])
  pub limit_refused : text (Refused (Limit limits.Name)) ≡ lines (codes "refused: limit name 30" ∷ [])
  pub limit_refused_2 : text (Refused (Limit limits.Columns)) ≡ lines (codes "refused: limit columns 32" ∷ [])
  pub limit_refused_3 : text (Refused (Limit limits.Keys)) ≡ lines (codes "refused: limit keys 32" ∷ [])
  pub limit_refused_4 : text (Refused (Limit limits.Nullable)) ≡ lines (codes "refused: limit nullable columns 5" ∷ [])
  pub limit_refused_5 : text (Refused (Limit limits.Tables)) ≡ lines (codes "refused: limit tables 256" ∷ [])
  pub open_refused : text (Refused (Open (codes "s01"))) ≡ lines (codes "refused: transaction open in s01" ∷ [])
  pub no_transaction_refused : text (Refused NoTransaction) ≡ lines (codes "refused: no transaction" ∷ [])
  pub transactions_refused : text (Refused Transactions) ≡ lines (codes "refused: limit transactions 16" ∷ [])
  pub many_changes_refused : text (Refused ManyChanges) ≡ lines (codes "refused: limit changes 20000" ∷ [])
  pub conflict_refused : text (Refused (Conflict 1 (codes "t") 3)) ≡ lines (codes "refused: conflict on row 1 of t with commit 3" ∷ [])
  pub base_limit_refused : text (Refused (BaseLimit base_limits.Rows)) ≡ lines (codes "refused: limit rows 200000" ∷ [])
  pub base_limit_refused_2 : text (Refused (BaseLimit base_limits.RowIds)) ≡ lines (codes "refused: limit row ids 4611686018427387904" ∷ [])
  pub base_limit_refused_3 : text (Refused (BaseLimit base_limits.Commits)) ≡ lines (codes "refused: limit commits 4611686018427387904" ∷ [])
  pub certain_key_refused : text (Refused (BrokenKey (codes "t") (broken 1 sorts.Certain 1 mixed))) ≡ lines (codes "refused: certain key 1 of t: rows 1 and 2 agree in the completion (-1, NULL, 'O''Hara')" ∷ [])
  pub possible_key_refused : text (Refused (BrokenKey (codes "t") (broken 2 sorts.Possible 3 []))) ≡ lines (codes "refused: possible key 2 of t: rows 3 and 4 agree on ()" ∷ [])
  pub discovery_rows_refused : text (Refused DiscoveryRows) ≡ lines (codes "refused: limit discovery rows 8192" ∷ [])
  pub key_sets_refused : text (Refused (KeySets sets.Certain 13)) ≡ lines (codes "refused: limit certain sets 4096 at edge 13" ∷ [])
  pub key_sets_refused_2 : text (Refused (KeySets sets.Possible 1)) ≡ lines (codes "refused: limit possible sets 4096 at edge 1" ∷ [])
