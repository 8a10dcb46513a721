use Rattle.std.specs.Prelude.{◌≡◌, ℕ, ◌-◌, ◌^◌, true, false, List, [], ◌∷◌, ◌++◌, length, codes, Some, None}
use Rattle.pk_values.specs.Name.{name_of}
use Rattle.pk_values.specs.declared.refusal.Refusal.TheVariants.{ValueCount}
use Rattle.pk_values.specs.declared.row.TheConstants.{MOST_COLUMNS}
use Rattle.pk_values.specs.declared.value.Value.TheVariants.{Null}
use Rattle.pk_lex.specs.declared.token.Token.TheVariants.{Word, Number}
use Rattle.pk_lex.specs.declared.token.Symbol.TheVariants.{AtMost, UnequalAngle}
use Rattle.pk_lex.specs.declared.piece.Body.TheVariants.{Tokens, BadCharacter}
use Rattle.pk_lex.specs.Symbols.{symbol_at}
use Rattle.pk_lex.specs.Pieces.{pieces}
use Rattle.pk_syntax.specs.Words.{reserved}
use Rattle.pk_syntax.specs.declared.declaration.TableDecl.{TableDecl}
use Rattle.pk_syntax.specs.Declarations.{names_are_short}
use Rattle.pk_parse.specs.Literals.{number_of}
use Rattle.pk_report.specs.declared.reply.Reply.TheVariants.{Inserted, Selected, Refused}
use Rattle.pk_report.specs.Text.{text}
use Rattle.pk_engine.specs.Base.{empty_base}
use Rattle.pk_run.specs.declared.scripts.TheConstants.{MOST_SCRIPT}
use Rattle.pk_run.specs.declared.status.Status.TheVariants.{Done, Refused as SomeRefused, Usage, ScriptFault, ReplyFault, OutOfMemory, LongScript}
use Rattle.pk_run.specs.Status.{code_of}
use Rattle.pk_run.specs.Words.{is_plain_form}
use Rattle.pk_run.specs.Told.{told, is_refused}
use Rattle.pk_run.specs.Example.{lines}

-- a table of this name, without a column
abbrev pub called : List ℕ → TableDecl
called name = record { table = name; columns = []; keys = [] }

-- the limits, in digits
pub record LimitsInDigits : Type 0 where
  pub script : MOST_SCRIPT ≡ 4194304
  pub columns : MOST_COLUMNS ≡ 32
  pub words : length reserved ≡ 52
  pub name : names_are_short (called (codes "a23456789012345678901234567890")) ≡ true
  pub long_name : names_are_short (called (codes "a234567890123456789012345678901")) ≡ false

-- the exit status of each way in which a run ends
pub record StatusesInDigits : Type 0 where
  pub done : code_of Done ≡ 0
  pub refused : code_of SomeRefused ≡ 1
  pub usage : code_of Usage ≡ 2
  pub script_fault : code_of ScriptFault ≡ 3
  pub reply_fault : code_of ReplyFault ≡ 4
  pub memory : code_of OutOfMemory ≡ 7
  pub long_script : code_of LongScript ≡ 8

-- names: the empty word, a digit first, capitals and `_`
pub record NamesAtTheirEdges : Type 0 where
  pub empty : name_of [] ≡ None
  pub digit_first : name_of (codes "1a") ≡ None
  pub folded : name_of (codes "_Z9") ≡ Some (codes "_z9")

-- symbols: the longer of two, the longest three bytes could be, and half of one
pub record SymbolsAtTheirEdges : Type 0 where
  pub longer : symbol_at (codes "<=") ≡ Some AtMost
  pub no_longer : symbol_at (codes "<>=") ≡ Some UnequalAngle
  pub half : symbol_at (codes "!a") ≡ None

-- pieces: none at all, the last without a semicolon, tokens with nothing between, a fault on a later line than its piece
pub record PiecesAtTheirEdges : Type 0 where
  pub none : pieces (codes " ;;; ") ≡ []
  pub last : pieces (codes "a") ≡ record { line = 1; body = Tokens (Word (codes "a") ∷ []) } ∷ []
  pub run_on : pieces (codes "1AND--") ≡ record { line = 1; body = Tokens (Number (codes "1") ∷ Word (codes "and") ∷ []) } ∷ []
  pub faults : pieces (10 ∷ codes "a" ++ 10 ∷ codes "$" ++ 10 ∷ codes "?") ≡ record { line = 2; body = BadCharacter 3 } ∷ []

-- line feeds end lines, and carriage returns don't
pub record LinesAtTheirEdges : Type 0 where
  pub feed : pieces (10 ∷ codes "a") ≡ record { line = 2; body = Tokens (Word (codes "a") ∷ []) } ∷ []
  pub return : pieces (13 ∷ codes "a") ≡ record { line = 1; body = Tokens (Word (codes "a") ∷ []) } ∷ []
  pub fault_behind : pieces (codes "a" ++ 13 ∷ codes "$") ≡ record { line = 1; body = BadCharacter 1 } ∷ []

-- numbers: no digit, leading zeros, and the largest of 64 bits
pub record NumbersAtTheirEdges : Type 0 where
  pub zero : number_of (codes "0") ≡ 0
  pub leading : number_of (codes "00000000000000000000000000000000000000007") ≡ 7
  pub largest : number_of (codes "9223372036854775807") ≡ 2 ^ 63 - 1

-- replies: no row, nothing known, the largest count, and the least number
pub record RepliesAtTheirEdges : Type 0 where
  pub no_row : text (Selected (codes "a" ∷ []) []) ≡ lines (codes "a" ∷ codes "rows 0" ∷ [])
  pub null : text (Selected (codes "a" ∷ codes "b" ∷ []) ((Null ∷ Null ∷ []) ∷ [])) ≡ lines (codes "a|b" ∷ codes "NULL|NULL" ∷ codes "rows 1" ∷ [])
  pub largest : text (Inserted (2 ^ 64 - 1)) ≡ lines (codes "inserted 18446744073709551615" ∷ [])
  pub counts : text (Refused (ValueCount 0 32)) ≡ lines (codes "refused: 0 values for 32 columns" ∷ [])

-- words: none, the form, the form twice
pub record WordsAtTheirEdges : Type 0 where
  pub none : is_plain_form [] ≡ false
  pub form : is_plain_form (codes "memory" ∷ []) ≡ true
  pub twice : is_plain_form (codes "memory" ∷ codes "memory" ∷ []) ≡ false
  pub case : is_plain_form (codes "Memory" ∷ []) ≡ false

-- what a script is told, from the empty base
abbrev pub Tells : List ℕ → List (List ℕ) → Type 0
Tells script replies = told empty_base script ≡ lines replies

-- whether some reply is a refusal: with none, the first, one in the middle, the last, and no reply at all
pub record RefusalsAtTheirEdges : Type 0 where
  pub nowhere : is_refused empty_base (codes "CREATE TABLE t (a INTEGER); SELECT * FROM t") ≡ false
  pub first : is_refused empty_base (codes "SELECT * FROM t; CREATE TABLE t (a INTEGER)") ≡ true
  pub middle : is_refused empty_base (codes "CREATE TABLE t (a INTEGER); SELECT * FROM u; SELECT * FROM t") ≡ true
  pub last : is_refused empty_base (codes "CREATE TABLE t (a INTEGER); SELECT * FROM u") ≡ true
  pub empty : is_refused empty_base [] ≡ false

-- whole runs: nothing to do, two causes at once, the last piece unfinished, numbers at and past the end
pub record RunsAtTheirEdges : Type 0 where
  pub empty : Tells [] []
  pub blank : Tells (codes " ; " ++ 10 ∷ []) []
  pub no_table_first : Tells (codes "INSERT INTO u VALUES (1, 2)") (codes "refused: no table u" ∷ [])
  pub exists : Tells (codes "CREATE TABLE t (a INTEGER); CREATE TABLE T (b INTEGER); SELECT * FROM t") (codes "created t" ∷ codes "refused: table t exists" ∷ codes "a" ∷ codes "rows 0" ∷ [])
  pub counted : Tells (codes "CREATE TABLE t (a INTEGER, b INTEGER); INSERT INTO t VALUES (1); INSERT INTO t VALUES (1, 2, 3)") (codes "created t" ∷ codes "refused: 1 values for 2 columns" ∷ codes "refused: 3 values for 2 columns" ∷ [])
  pub zero : Tells (codes "CREATE TABLE t (a INTEGER); INSERT INTO t VALUES (0); SELECT * FROM t") (codes "created t" ∷ codes "inserted 1" ∷ codes "a" ∷ codes "0" ∷ codes "rows 1" ∷ [])
  pub fault_on_a_later_line : Tells (codes "SELECT *" ++ 10 ∷ codes "FROM $") (codes "refused: bad character on line 2" ∷ [])
  pub unserved_first : Tells (codes "EXAMPLES OF u") (codes "refused: not a statement on line 1" ∷ [])
  pub twice_named : Tells (codes "CREATE TABLE t (a INTEGER, b INTEGER, a INTEGER)") (codes "refused: column a twice" ∷ [])
  pub past_64_bits : Tells (codes "CREATE TABLE t (a INTEGER); INSERT INTO t VALUES (9223372036854775808); INSERT INTO t VALUES (9223372036854775807); SELECT * FROM t") (codes "created t" ∷ codes "refused: number outside 64 bits" ∷ codes "inserted 1" ∷ codes "a" ∷ codes "9223372036854775807" ∷ codes "rows 1" ∷ [])
  pub ordered : Tells (codes "CREATE TABLE b (x INTEGER); CREATE TABLE a (y INTEGER); INSERT INTO b VALUES (1); INSERT INTO b VALUES (2); SELECT * FROM b; SELECT * FROM a") (codes "created b" ∷ codes "created a" ∷ codes "inserted 1" ∷ codes "inserted 1" ∷ codes "x" ∷ codes "1" ∷ codes "2" ∷ codes "rows 2" ∷ codes "y" ∷ codes "rows 0" ∷ [])
  pub unclosed : Tells (codes "INSERT INTO t VALUES ('abc") (codes "refused: unclosed text on line 1" ∷ [])
  pub listed : Tells (codes "CREATE TABLE t (a INT, s VARCHAR(3)); INSERT INTO t (s) VALUES ('a''b'); INSERT INTO t (s) VALUES ('abcd'); SELECT * FROM t") (codes "created t" ∷ codes "inserted 1" ∷ codes "refused: text of 4 bytes for column s, at most 3" ∷ codes "a|s" ∷ codes "NULL|'a''b'" ∷ codes "rows 1" ∷ [])
  pub unfinished : Tells (codes "SELECT * FROM t" ++ 10 ∷ codes ";" ++ 10 ∷ codes "SELECT *") (codes "refused: no table t" ∷ codes "refused: not a statement on line 3" ∷ [])

-- edits: tuples that tie, every row set, no row left, no table left, ids from 1 on again, a name one byte too long
pub record EditsAtTheirEdges : Type 0 where
  pub ordered : Tells (codes "CREATE TABLE t (a INT, b INT); INSERT INTO t VALUES (2, 1), (1, 2), (2, 3), (NULL, 4); SELECT b FROM t ORDER BY a DESC") (codes "created t" ∷ codes "inserted 4" ∷ codes "b" ∷ codes "1" ∷ codes "3" ∷ codes "2" ∷ codes "4" ∷ codes "rows 4" ∷ [])
  pub set : Tells (codes "CREATE TABLE t (a INT, b INT); INSERT INTO t VALUES (1, 1), (2, 2); UPDATE t SET b = NULL; SELECT * FROM t") (codes "created t" ∷ codes "inserted 2" ∷ codes "updated 2" ∷ codes "a|b" ∷ codes "1|NULL" ∷ codes "2|NULL" ∷ codes "rows 2" ∷ [])
  pub emptied : Tells (codes "CREATE TABLE t (a INT); INSERT INTO t VALUES (1), (2); DELETE FROM t; DELETE FROM t; INSERT INTO t VALUES (3); SELECT COUNT(*) FROM t") (codes "created t" ∷ codes "inserted 2" ∷ codes "deleted 2" ∷ codes "deleted 0" ∷ codes "inserted 1" ∷ codes "count" ∷ codes "1" ∷ codes "rows 1" ∷ [])
  pub dropped : Tells (codes "CREATE TABLE t (a INT); DROP TABLE t; SELECT * FROM t") (codes "created t" ∷ codes "dropped t" ∷ codes "refused: no table t" ∷ [])
  pub made_again : Tells (codes "CREATE TABLE t (a INT, CERTAIN KEY ()); INSERT INTO t VALUES (1); DROP TABLE t; CREATE TABLE t (b INT, CERTAIN KEY ()); INSERT INTO t VALUES (1); INSERT INTO t VALUES (2)") (codes "created t" ∷ codes "inserted 1" ∷ codes "dropped t" ∷ codes "created t" ∷ codes "inserted 1" ∷ codes "refused: certain key 1 of t: rows 1 and 2 agree in the completion ()" ∷ [])
  pub long_name : Tells (codes "CREATE TABLE t (a234567890123456789012345678901 INT)") (codes "refused: limit name 30" ∷ [])

-- keys: the least break of two, nulls that agree in a completion and not as they are, no column, a row that is set to what it has
pub record KeysAtTheirEdges : Type 0 where
  pub certain : Tells (codes "CREATE TABLE t (a INT, b TEXT, CERTAIN KEY (a, b)); INSERT INTO t VALUES (NULL, NULL); INSERT INTO t VALUES (NULL, 'x')") (codes "created t" ∷ codes "inserted 1" ∷ codes "refused: certain key 1 of t: rows 1 and 2 agree in the completion (0, 'x')" ∷ [])
  pub possible : Tells (codes "CREATE TABLE t (a INT, b INT, UNIQUE (a, b)); INSERT INTO t VALUES (1, NULL), (1, NULL); INSERT INTO t VALUES (1, 2), (1, 2)") (codes "created t" ∷ codes "inserted 2" ∷ codes "refused: possible key 1 of t: rows 3 and 4 agree on (1, 2)" ∷ [])
  pub empty : Tells (codes "CREATE TABLE t (a INT, CERTAIN KEY ()); INSERT INTO t VALUES (1); INSERT INTO t VALUES (2)") (codes "created t" ∷ codes "inserted 1" ∷ codes "refused: certain key 1 of t: rows 1 and 2 agree in the completion ()" ∷ [])
  pub two_at_once : Tells (codes "CREATE TABLE t (a INT, b INT, UNIQUE (a), CERTAIN KEY (b)); INSERT INTO t VALUES (1, 1), (2, 1), (1, 1)") (codes "created t" ∷ codes "refused: possible key 1 of t: rows 1 and 3 agree on (1)" ∷ [])
  pub as_they_would_be : Tells (codes "CREATE TABLE t (a INT, CERTAIN KEY (a)); INSERT INTO t VALUES (1); UPDATE t SET a = 1; INSERT INTO t VALUES (1)") (codes "created t" ∷ codes "inserted 1" ∷ codes "updated 1" ∷ codes "refused: certain key 1 of t: rows 1 and 2 agree in the completion (1)" ∷ [])
  pub shown : Tells (codes "CREATE TABLE t (a INT PRIMARY KEY, b VARCHAR(9), UNIQUE (b, a)); SHOW CREATE TABLE t") (codes "created t" ∷ codes "CREATE TABLE t (a INTEGER NOT NULL, b VARCHAR(9), CERTAIN KEY (a), POSSIBLE KEY (a, b));" ∷ [])

-- what keys imply: by rules, or refuted by two rows; the empty key, no key, and keys that say the same
pub record ReasoningAtItsEdges : Type 0 where
  pub implied : Tells (codes "CREATE TABLE t (a INT NOT NULL, b INT, POSSIBLE KEY (a)); IMPLIES t CERTAIN KEY (a, b)") (codes "created t" ∷ codes "implied by key 1 by strengthening, extension" ∷ [])
  pub refuted : Tells (codes "CREATE TABLE t (a INT, b TEXT, POSSIBLE KEY (a)); IMPLIES t CERTAIN KEY (a)") (codes "created t" ∷ codes "not implied: rows (NULL, '') and (NULL, 'a')" ∷ [])
  pub empty_key : Tells (codes "CREATE TABLE t (a INT); IMPLIES t POSSIBLE KEY ()") (codes "created t" ∷ codes "not implied: rows (0) and (1)" ∷ [])
  pub refused : Tells (codes "CREATE TABLE t (a INT); IMPLIES t CERTAIN KEY (a, b, a)") (codes "created t" ∷ codes "refused: no column b in t" ∷ [])
  pub no_keys : Tells (codes "CREATE TABLE t (a INT); COVER OF t") (codes "created t" ∷ codes "keys 0" ∷ [])
  pub cover : Tells (codes "CREATE TABLE t (a INT, b INT, UNIQUE (a), CERTAIN KEY (a), UNIQUE (a, b)); COVER OF t") (codes "created t" ∷ codes "CERTAIN KEY (a)" ∷ codes "keys 1" ∷ [])

-- the definitions at their edges
pub record EdgesAreTold : Type 0 where
  pub limits : LimitsInDigits
  pub statuses : StatusesInDigits
  pub names : NamesAtTheirEdges
  pub symbols : SymbolsAtTheirEdges
  pub piece_edges : PiecesAtTheirEdges
  pub line_edges : LinesAtTheirEdges
  pub numbers : NumbersAtTheirEdges
  pub replies : RepliesAtTheirEdges
  pub words : WordsAtTheirEdges
  pub refusals : RefusalsAtTheirEdges
  pub runs : RunsAtTheirEdges
  pub edits : EditsAtTheirEdges
  pub keys : KeysAtTheirEdges
  pub reasoning : ReasoningAtItsEdges
