-- What is printed for a declaration reads back.
use Rattle.std.proofs.Common.{◌≡◌, ℕ, ◌<◌, ◌≤◌, ◌^◌, Bool, true, false, cond, not, ◌&&◌, ◌||◌, List, [], ◌∷◌, ◌++◌, map, Some, Result, Ok, refl, sym, ap, subst, ◌∙◌, append_assoc, arith}
use Rattle.std.proofs.lemmas.List.Elements.{All-head, All-tail}
use Rattle.std.specs.Prelude.{All, codes, decimal, fold, length, nat_le, ◌==◌}
use Rattle.std.specs.List.{list_all, list_any, flat_map, filter_map, join_by}
use Rattle.std.specs.Str.{all_ascii_digits}
use Rattle.std.specs.Char.{is_ascii_digit}
use Rattle.std.proofs.lemmas.List.{append-nil, map-id}
use Rattle.std.proofs.lemmas.Bool.{and_parts, and_from, not-true}
use Rattle.std.proofs.lemmas.Bool.{leb-true, eqb-true}
use Rattle.std.proofs.lemmas.Str.Parse.{IsNumeralModel, numerals_by_fold, tells_all_ascii_digits}
use Rattle.std.proofs.lemmas.Fmt.{digits_decimal, digits_value-decimal, decimal_nonempty}
use Rattle.pk_values.specs.declared.kind.Kind.{Kind}
use Rattle.pk_values.specs.declared.kind.Kind.TheVariants.{Integer, Text}
use Rattle.pk_values.specs.declared.key.Sort.{Sort}
use Rattle.pk_values.specs.declared.key.Sort.TheVariants.{Certain, Possible}
use Rattle.pk_values.specs.Name.{is_name}
use Rattle.pk_lex.specs.declared.token.Token.{Token}
use Rattle.pk_lex.specs.declared.token.Token.TheVariants.{Word, Number, Symbol as Sign}
use Rattle.pk_lex.specs.declared.token.Symbol.TheVariants.{LeftParen, RightParen, Comma}
use Rattle.pk_lex.specs.declared.piece.Body.TheVariants.{Tokens}
use Rattle.pk_lex.specs.Tokens.{is_number}
use Rattle.pk_lex.specs.Lexemes.{lexeme_at, more_at}
use Rattle.pk_lex.specs.Symbols.{symbol_at}
use Rattle.pk_lex.specs.Pieces.{pieces}
use Rattle.pk_lex.proofs.Spelling.{Anything, Breaks, Spells, EachSpells, spells_both, spells_nothing, spells_word, spells_name, spells_number, spells_joined, spells_behind, commas_break, spelled_piece}
use Rattle.pk_syntax.specs.declared.declaration.TableDecl.{TableDecl}
use Rattle.pk_syntax.specs.declared.declaration.ColumnDecl.{ColumnDecl}
use Rattle.pk_syntax.specs.declared.declaration.KeyText.{KeyText}
use Rattle.pk_parse.specs.declared.table_part.TablePart.{TablePart}
use Rattle.pk_parse.specs.declared.table_part.TablePart.TheVariants.{Column, Key}
use Rattle.pk_parse.specs.declared.table_part.ColumnText.{ColumnText}
use Rattle.pk_parse.specs.declared.table_part.KeyPart.{KeyPart}
use Rattle.pk_parse.specs.declared.table_part.Mark.{Mark}
use Rattle.pk_parse.specs.declared.table_part.Mark.TheVariants.{NotNull}
use Rattle.pk_syntax.specs.Words.{is_reserved}
use Rattle.pk_parse.specs.Literals.{with_digit, number_of}
use Rattle.pk_parse.specs.Create.{key_of_mark, keys_of, columns_of, is_not_null, is_primary, declared_column, declared_columns, declared_by, text_form, declared}
use Rattle.pk_parse.specs.Grammar.{Joined, IsName, IsNames, IsForm, IsMark, AreMarks, IsKey, IsKeyPart, IsPart, IsStatement}
use Rattle.pk_syntax.specs.Declarations.{has_name, has_column, names_of, in_column_order, names_in, is_plain_length}
use Rattle.pk_syntax.specs.Printing.{text_type, type_text, null_text, column_text, sort_text, key_text, table_text}
use Rattle.pk_syntax.specs.declared.statement.Statement.{Statement}
use Rattle.pk_syntax.specs.declared.statement.Statement.TheVariants.{Create}
use Rattle.pk_parse.specs.declared.parsing.ParseErr.{ParseErr}
use Rattle.pk_parse.specs.Statements.{read}
use Rattle.pk_parse.specs.Parsed.{parsed}
use Rattle.pk_parse.specs.PrintLaw.{PrintedTablesReadBack}
use Rattle.pk_parse.proofs.StatementReading.{reads_the_grammar}

-- ---- constant words, whatever follows

words_create : {May : List ℕ → Type 0} → Spells May (codes "CREATE TABLE ") (Word (codes "create") ∷ Word (codes "table") ∷ [])
unfolding lexeme_at more_at symbol_at
words_create = record { spelled = λ line rest may. refl; goes_on = refl }

opening : {May : List ℕ → Type 0} → Spells May (codes " (") (Sign LeftParen ∷ [])
unfolding lexeme_at more_at symbol_at
opening = record { spelled = λ line rest may. refl; goes_on = refl }

left_paren : {May : List ℕ → Type 0} → Spells May (codes "(") (Sign LeftParen ∷ [])
unfolding lexeme_at more_at symbol_at
left_paren = record { spelled = λ line rest may. refl; goes_on = refl }

right_paren : {May : List ℕ → Type 0} → Spells May (codes ")") (Sign RightParen ∷ [])
unfolding lexeme_at more_at symbol_at
right_paren = record { spelled = λ line rest may. refl; goes_on = refl }

blank : {May : List ℕ → Type 0} → Spells May (codes " ") []
unfolding lexeme_at more_at symbol_at
blank = record { spelled = λ line rest may. refl; goes_on = refl }

varchar_opening : {May : List ℕ → Type 0} → Spells May (codes "VARCHAR(") (Word (codes "varchar") ∷ Sign LeftParen ∷ [])
unfolding lexeme_at more_at symbol_at
varchar_opening = record { spelled = λ line rest may. refl; goes_on = refl }

certain_key : {May : List ℕ → Type 0} → Spells May (codes "CERTAIN KEY ") (Word (codes "certain") ∷ Word (codes "key") ∷ [])
unfolding lexeme_at more_at symbol_at
certain_key = record { spelled = λ line rest may. refl; goes_on = refl }

possible_key : {May : List ℕ → Type 0} → Spells May (codes "POSSIBLE KEY ") (Word (codes "possible") ∷ Word (codes "key") ∷ [])
unfolding lexeme_at more_at symbol_at
possible_key = record { spelled = λ line rest may. refl; goes_on = refl }

-- ---- words at an end, where what follows breaks

word_integer : Spells Breaks (codes "INTEGER") (Word (codes "integer") ∷ [])
word_integer = spells_word 73 (codes "NTEGER") refl refl

word_text : Spells Breaks (codes "TEXT") (Word (codes "text") ∷ [])
word_text = spells_word 84 (codes "EXT") refl refl

word_null : Spells Breaks (codes "NULL") (Word (codes "null") ∷ [])
word_null = spells_word 78 (codes "ULL") refl refl

blank_not : Spells Anything (codes " NOT ") (Word (codes "not") ∷ [])
unfolding lexeme_at more_at symbol_at
blank_not = record { spelled = λ line rest may. refl; goes_on = refl }

not_null : Spells Breaks (codes " NOT NULL") (Word (codes "not") ∷ Word (codes "null") ∷ [])
not_null = spells_both (codes " NOT ") (codes "NULL") (Word (codes "not") ∷ []) (Word (codes "null") ∷ []) blank_not (λ rest then. tt) word_null

-- ---- columns

abbrev text_tokens : ℕ → List Token
text_tokens max = cond (max == 255) (Word (codes "text") ∷ []) (Word (codes "varchar") ∷ Sign LeftParen ∷ Number (decimal max) ∷ Sign RightParen ∷ [])

abbrev type_tokens : Kind → ℕ → List Token
type_tokens Integer max = Word (codes "integer") ∷ []
type_tokens Text max = text_tokens max

abbrev null_tokens : Bool → List Token
null_tokens true = Word (codes "not") ∷ Word (codes "null") ∷ []
null_tokens false = []

abbrev column_tokens : ColumnDecl → List Token
column_tokens c = Word c.name ∷ type_tokens c.kind c.max ++ null_tokens c.not_null

-- `number_of` reads digits as std does
own_digits : IsNumeralModel (λ ds. all_ascii_digits ds ≡ true) (λ ds. fold with_digit 0 ds)
own_digits = numerals_by_fold _ tells_all_ascii_digits (λ n ds. fold with_digit n ds) (record { empty = λ n. refl; more = λ n c cs range. ap (λ m. fold with_digit m cs) (omega arith) })

number_of_decimal : (n : ℕ) → n < 2 ^ 64 → number_of (decimal n) ≡ n
unfolding number_of
number_of_decimal n small = digits_value-decimal own_digits n small

digits_are_number : (ds : List ℕ) → 0 < length ds → all_ascii_digits ds ≡ true → is_number ds ≡ true
digits_are_number [] some all = absurd (omega arith)
digits_are_number (d ∷ ds) some all = each (d ∷ ds) all
  where
    each : (ds : List ℕ) → all_ascii_digits ds ≡ true → list_all is_ascii_digit ds ≡ true
    each [] all = refl
    each (d ∷ ds) all = let parts = and_parts (is_ascii_digit d) (all_ascii_digits ds) all in and_from (is_ascii_digit d) (list_all is_ascii_digit ds) parts.0 (each ds parts.1)

decimal_is_number : (n : ℕ) → n < 2 ^ 64 → is_number (decimal n) ≡ true
decimal_is_number n small = digits_are_number (decimal n) (decimal_nonempty n small) (digits_decimal own_digits n small)

spells_text_type : (max : ℕ) → max ≤ 255 → Spells Breaks (text_type max) (text_tokens max)
spells_text_type max most = go (max == 255)
  where
    go : (b : Bool) → Spells Breaks (cond b (codes "TEXT") (codes "VARCHAR(" ++ decimal max ++ codes ")")) (cond b (Word (codes "text") ∷ []) (Word (codes "varchar") ∷ Sign LeftParen ∷ Number (decimal max) ∷ Sign RightParen ∷ []))
    go true = word_text
    go false =
        let inside = spells_both (codes "VARCHAR(") (decimal max) (Word (codes "varchar") ∷ Sign LeftParen ∷ []) (Number (decimal max) ∷ []) (varchar_opening {May = Anything}) (λ rest then. tt) (spells_number (decimal max) (decimal_is_number max (omega arith))) in
        spells_both (codes "VARCHAR(" ++ decimal max) (codes ")") (Word (codes "varchar") ∷ Sign LeftParen ∷ Number (decimal max) ∷ []) (Sign RightParen ∷ []) inside (λ rest then. refl) (right_paren {May = Breaks})

spells_type : (kind : Kind) (max : ℕ) → is_plain_length kind max ≡ true → Spells Breaks (type_text kind max) (type_tokens kind max)
spells_type Integer max plain = word_integer
spells_type Text max plain = spells_text_type max (leb-true max 255 (and_parts (nat_le 1 max) (nat_le max 255) plain).1)

spells_null : (b : Bool) → Spells Breaks (null_text b) (null_tokens b)
spells_null true = not_null
spells_null false = spells_nothing

null_breaks : (b : Bool) (rest : List ℕ) → Breaks rest → Breaks (null_text b ++ rest)
null_breaks true rest breaks = refl
null_breaks false rest breaks = breaks

spells_column : (c : ColumnDecl) → is_name c.name ≡ true → is_plain_length c.kind c.max ≡ true → Spells Breaks (column_text c) (column_tokens c)
spells_column c named plain =
    let name : Spells Anything (c.name ++ codes " ") (Word c.name ∷ []) = spells_both c.name (codes " ") (Word c.name ∷ []) [] (spells_name c.name named) (λ rest then. refl) (blank {May = Anything}) in
    let typed : Spells Breaks (c.name ++ codes " " ++ type_text c.kind c.max) (Word c.name ∷ type_tokens c.kind c.max) = spells_both (c.name ++ codes " ") (type_text c.kind c.max) (Word c.name ∷ []) (type_tokens c.kind c.max) name (λ rest then. tt) (spells_type c.kind c.max plain) in
    spells_both (c.name ++ codes " " ++ type_text c.kind c.max) (null_text c.not_null) (Word c.name ∷ type_tokens c.kind c.max) (null_tokens c.not_null) typed (null_breaks c.not_null) (spells_null c.not_null)

-- each column is named and has a length that fits
abbrev ArePlain : List ColumnDecl → Type 0
ArePlain [] = Unit {0}
ArePlain (c ∷ cs) = ((is_name c.name ≡ true) × (is_reserved c.name ≡ false) × (is_plain_length c.kind c.max ≡ true)) × ArePlain cs

spells_columns : (cs : List ColumnDecl) → ArePlain cs → EachSpells column_text column_tokens cs
spells_columns [] plain = tt
spells_columns (c ∷ cs) plain = (spells_column c plain.0.0 plain.0.2, spells_columns cs plain.1)

-- ---- keys

abbrev AreNames : List (List ℕ) → Type 0
AreNames [] = Unit {0}
AreNames (n ∷ ns) = ((is_name n ≡ true) × (is_reserved n ≡ false)) × AreNames ns

abbrev name_token : List ℕ → List Token
name_token n = Word n ∷ []

spells_names : (ns : List (List ℕ)) → AreNames ns → EachSpells (λ (n : List ℕ). n) name_token ns
spells_names [] named = tt
spells_names (n ∷ ns) named = (spells_name n named.0.0, spells_names ns named.1)

abbrev sort_tokens : Sort → List Token
sort_tokens Certain = Word (codes "certain") ∷ Word (codes "key") ∷ []
sort_tokens Possible = Word (codes "possible") ∷ Word (codes "key") ∷ []

-- names in parentheses
abbrev names_tokens : List (List ℕ) → List Token
names_tokens names = Sign LeftParen ∷ join_by name_token (Sign Comma ∷ []) names ++ Sign RightParen ∷ []

abbrev key_tokens : Sort → List (List ℕ) → List Token
key_tokens sort names = sort_tokens sort ++ names_tokens names

spells_sort : (sort : Sort) → Spells Anything (sort_text sort) (sort_tokens sort)
spells_sort Certain = certain_key
spells_sort Possible = possible_key

spells_key : (columns : List ColumnDecl) (k : KeyText) → AreNames (in_column_order columns k.columns) → Spells Breaks (key_text columns k) (key_tokens k.sort (in_column_order columns k.columns))
spells_key columns k named =
    let names = in_column_order columns k.columns in
    let opened : Spells Anything (sort_text k.sort ++ codes "(") (sort_tokens k.sort ++ Sign LeftParen ∷ []) = spells_both (sort_text k.sort) (codes "(") (sort_tokens k.sort) (Sign LeftParen ∷ []) (spells_sort k.sort) (λ rest then. tt) (left_paren {May = Anything}) in
    let listed : Spells Breaks (sort_text k.sort ++ codes "(" ++ join_by (λ (n : List ℕ). n) (codes ", ") names) (sort_tokens k.sort ++ Sign LeftParen ∷ [] ++ join_by name_token (Sign Comma ∷ []) names) =
    spells_both (sort_text k.sort ++ codes "(") (join_by (λ (n : List ℕ). n) (codes ", ") names) (sort_tokens k.sort ++ Sign LeftParen ∷ []) (join_by name_token (Sign Comma ∷ []) names) opened (λ rest then. tt) (spells_joined (λ (n : List ℕ). n) name_token names (spells_names names named)) in
    let closed = spells_both (sort_text k.sort ++ codes "(" ++ join_by (λ (n : List ℕ). n) (codes ", ") names) (codes ")") (sort_tokens k.sort ++ Sign LeftParen ∷ [] ++ join_by name_token (Sign Comma ∷ []) names) (Sign RightParen ∷ []) listed (λ rest then. refl) (right_paren {May = Breaks}) in
    subst (λ (ts : List Token). Spells Breaks (key_text columns k) ts) (regrouped (sort_tokens k.sort) (join_by name_token (Sign Comma ∷ []) names)) closed
  where
    regrouped : (front names : List Token) → front ++ Sign LeftParen ∷ [] ++ names ++ Sign RightParen ∷ [] ≡ front ++ (Sign LeftParen ∷ names ++ Sign RightParen ∷ [])
    regrouped front names = ap (λ (ts : List Token). ts ++ Sign RightParen ∷ []) (append_assoc front (Sign LeftParen ∷ []) names) ∙ append_assoc front (Sign LeftParen ∷ names) (Sign RightParen ∷ [])

-- each key names columns in the order of the table
abbrev AreKeys : List ColumnDecl → List KeyText → Type 0
AreKeys columns [] = Unit {0}
AreKeys columns (k ∷ ks) = (AreNames (in_column_order columns k.columns) × (in_column_order columns k.columns ≡ k.columns)) × AreKeys columns ks

-- ---- the text as one piece

-- a column and what follows it
abbrev inside_tokens : TableDecl → List Token
inside_tokens decl = join_by column_tokens (Sign Comma ∷ []) decl.columns ++ flat_map (λ (k : KeyText). Sign Comma ∷ key_tokens k.sort (in_column_order decl.columns k.columns)) decl.keys

abbrev table_tokens : TableDecl → List Token
table_tokens decl = Word (codes "create") ∷ Word (codes "table") ∷ Word decl.table ∷ Sign LeftParen ∷ inside_tokens decl ++ Sign RightParen ∷ []

spells_keys : (columns : List ColumnDecl) (keys : List KeyText) → AreKeys columns keys → EachSpells (key_text columns) (λ (k : KeyText). key_tokens k.sort (in_column_order columns k.columns)) keys
spells_keys columns [] named = tt
spells_keys columns (k ∷ ks) named = (spells_key columns k named.0.0, spells_keys columns ks named.1)

table_is_piece : (decl : TableDecl) → is_name decl.table ≡ true → ArePlain decl.columns → AreKeys decl.columns decl.keys → pieces (table_text decl) ≡ record { line = 1; body = Tokens (table_tokens decl) } ∷ []
unfolding table_text
table_is_piece decl named plain keyed =
    let columns = join_by column_text (codes ", ") decl.columns in
    let columns_ts = join_by column_tokens (Sign Comma ∷ []) decl.columns in
    let key_ts = λ (k : KeyText). key_tokens k.sort (in_column_order decl.columns k.columns) in
    let keys = flat_map (λ k. codes ", " ++ key_text decl.columns k) decl.keys in
    let keys_ts = flat_map (λ k. Sign Comma ∷ key_ts k) decl.keys in
    let head = codes "CREATE TABLE " ++ decl.table ++ codes " (" in
    let head_ts : List Token = Word (codes "create") ∷ Word (codes "table") ∷ Word decl.table ∷ Sign LeftParen ∷ [] in
    let first : Spells Breaks (codes "CREATE TABLE " ++ decl.table) (Word (codes "create") ∷ Word (codes "table") ∷ Word decl.table ∷ []) =
    spells_both (codes "CREATE TABLE ") decl.table (Word (codes "create") ∷ Word (codes "table") ∷ []) (Word decl.table ∷ []) (words_create {May = Anything}) (λ rest then. tt) (spells_name decl.table named) in
    let opened : Spells Anything head head_ts =
    spells_both (codes "CREATE TABLE " ++ decl.table) (codes " (") (Word (codes "create") ∷ Word (codes "table") ∷ Word decl.table ∷ []) (Sign LeftParen ∷ []) first (λ rest then. refl) (opening {May = Anything}) in
    let with_columns : Spells Breaks (head ++ columns) (head_ts ++ columns_ts) =
    spells_both head columns head_ts columns_ts opened (λ rest then. tt) (spells_joined column_text column_tokens decl.columns (spells_columns decl.columns plain)) in
    let with_keys : Spells Breaks (head ++ columns ++ keys) (head_ts ++ columns_ts ++ keys_ts) =
    spells_both (head ++ columns) keys (head_ts ++ columns_ts) keys_ts with_columns (commas_break (key_text decl.columns) decl.keys) (spells_behind (key_text decl.columns) key_ts decl.keys (spells_keys decl.columns decl.keys keyed)) in
    let closed : Spells Anything (head ++ columns ++ keys ++ codes ")") (table_tokens decl) =
    spells_both (head ++ columns ++ keys) (codes ")") (head_ts ++ columns_ts ++ keys_ts) (Sign RightParen ∷ []) with_keys (λ rest then. refl) (right_paren {May = Anything}) in
    ap pieces (sym (append_assoc (head ++ columns ++ keys) (codes ")") (codes ";"))) ∙ spelled_piece (head ++ columns ++ keys ++ codes ")") (Word (codes "create")) _ closed

-- ---- the tokens in the grammar

-- parts, each behind a comma
abbrev Behind : {A : Type 0} → (List Token → A → Type 0) → List Token → List A → Type 0
Behind Is tokens [] = tokens ≡ []
Behind Is tokens (y ∷ ys) = (front : List Token) × (more : List Token) × (tokens ≡ Sign Comma ∷ front ++ more) × Is front y × Behind Is more ys

joined_from : {A : Type 0} (Is : List Token → A → Type 0) (front more : List Token) (x : A) (ys : List A) → Is front x → Behind Is more ys → Joined Is (front ++ more) (x ∷ ys)
joined_from Is front more x [] is behind = subst (λ (ts : List Token). Is ts x) (sym (ap (λ (ts : List Token). front ++ ts) behind ∙ append-nil front)) is
joined_from Is front more x (y ∷ ys) is behind =
    (front, behind.0 ++ behind.1, ap (λ (ts : List Token). front ++ ts) behind.2, is, joined_from Is behind.0 behind.1 y ys behind.3 behind.4)

-- each part is spelled
abbrev EachIs : {A X : Type 0} → (List Token → A → Type 0) → (X → List Token) → (X → A) → List X → Type 0
EachIs Is g h [] = Unit {0}
EachIs Is g h (x ∷ xs) = Is (g x) (h x) × EachIs Is g h xs

behind_each : {A X : Type 0} (Is : List Token → A → Type 0) (g : X → List Token) (h : X → A) (xs : List X) (more : List Token) (ys : List A) → EachIs Is g h xs → Behind Is more ys
    → Behind Is (flat_map (λ x. Sign Comma ∷ g x) xs ++ more) (map h xs ++ ys)
behind_each Is g h [] more ys each behind = behind
behind_each Is g h (x ∷ xs) more ys each behind =
    (g x, flat_map (λ x. Sign Comma ∷ g x) xs ++ more, append_assoc (Sign Comma ∷ g x) (flat_map (λ x. Sign Comma ∷ g x) xs) more, each.0, behind_each Is g h xs more ys each.1 behind)

behind_all : {A X : Type 0} (Is : List Token → A → Type 0) (g : X → List Token) (h : X → A) (xs : List X) → EachIs Is g h xs → Behind Is (flat_map (λ x. Sign Comma ∷ g x) xs) (map h xs)
behind_all Is g h [] each = refl
behind_all Is g h (x ∷ xs) each = (g x, flat_map (λ x. Sign Comma ∷ g x) xs, refl, each.0, behind_all Is g h xs each.1)

-- ---- columns in the grammar

abbrev null_marks : Bool → List Mark
null_marks true = NotNull ∷ []
null_marks false = []

abbrev column_in : ColumnDecl → ColumnText
column_in c = record { name = c.name; form = record { kind = c.kind; max = c.max }; marks = null_marks c.not_null }

text_is_form : (max : ℕ) → 1 ≤ max → max ≤ 255 → IsForm (text_tokens max) (text_form max)
text_is_form max least most = go (max == 255) refl
  where
    go : (b : Bool) → (max == 255) ≡ b → IsForm (cond b (Word (codes "text") ∷ []) (Word (codes "varchar") ∷ Sign LeftParen ∷ Number (decimal max) ∷ Sign RightParen ∷ [])) (text_form max)
    go true e = subst (λ (n : ℕ). IsForm (Word (codes "text") ∷ []) (text_form n)) (sym (eqb-true max 255 e)) IsForm.text
    go false e =
        let same : number_of (decimal max) ≡ max = number_of_decimal max (omega arith) in
        subst (λ (n : ℕ). IsForm (Word (codes "varchar") ∷ Sign LeftParen ∷ Number (decimal max) ∷ Sign RightParen ∷ []) (text_form n)) same (IsForm.varchar (decimal max) (omega (arith, same)) (omega (arith, same)))

type_is_form : (kind : Kind) (max : ℕ) → is_plain_length kind max ≡ true → IsForm (type_tokens kind max) (record { kind = kind; max = max })
type_is_form Integer max plain =
    let none : max ≡ 0 = omega (arith, leb-true max 0 plain) in
    subst (λ (n : ℕ). IsForm (Word (codes "integer") ∷ []) (record { kind = Integer; max = n })) (sym none) IsForm.integer
type_is_form Text max plain = let parts = and_parts (nat_le 1 max) (nat_le max 255) plain in text_is_form max (leb-true 1 max parts.0) (leb-true max 255 parts.1)

null_is_marks : (b : Bool) → AreMarks (null_tokens b) (null_marks b)
null_is_marks true = AreMarks.one_more (Word (codes "not") ∷ Word (codes "null") ∷ []) [] NotNull [] IsMark.not_null AreMarks.no_mark
null_is_marks false = AreMarks.no_mark

columns_are_parts : (cs : List ColumnDecl) → ArePlain cs → EachIs IsPart column_tokens (λ (c : ColumnDecl). Column (column_in c)) cs
columns_are_parts [] plain = tt
columns_are_parts (c ∷ cs) plain =
    (IsPart.column c.name (type_tokens c.kind c.max) (null_tokens c.not_null) (record { kind = c.kind; max = c.max }) (null_marks c.not_null) plain.0.1 (type_is_form c.kind c.max plain.0.2) (null_is_marks c.not_null), columns_are_parts cs plain.1)

-- ---- keys in the grammar

each_is_name : (ns : List (List ℕ)) → AreNames ns → EachIs IsName name_token (λ (n : List ℕ). n) ns
each_is_name [] named = tt
each_is_name (n ∷ ns) named = (IsName.named n named.0.1, each_is_name ns named.1)

names_are_names : (names : List (List ℕ)) → AreNames names → IsNames (names_tokens names) names
names_are_names [] named = IsNames.no_names
names_are_names (n ∷ ns) named =
    let behind : Behind IsName (flat_map (λ (m : List ℕ). Sign Comma ∷ Word m ∷ []) ns) ns = subst (Behind IsName (flat_map (λ (m : List ℕ). Sign Comma ∷ Word m ∷ []) ns)) (map-id ns) (behind_all IsName name_token (λ (m : List ℕ). m) ns (each_is_name ns named.1)) in
    let inside = Word n ∷ flat_map (λ (m : List ℕ). Sign Comma ∷ Word m ∷ []) ns in
    IsNames.some_names (names_tokens (n ∷ ns)) (n ∷ ns) (inside, refl, joined_from IsName (Word n ∷ []) (flat_map (λ (m : List ℕ). Sign Comma ∷ Word m ∷ []) ns) n ns (IsName.named n named.0.1) behind)

key_is_key : (sort : Sort) (names : List (List ℕ)) → AreNames names → IsKey (key_tokens sort names) (record { sort = sort; columns = names })
key_is_key Certain names named = IsKey.certain (names_tokens names) names (names_are_names names named)
key_is_key Possible names named = IsKey.possible (names_tokens names) names (names_are_names names named)

abbrev key_in : KeyText → KeyPart
key_in k = record { key = k; primary = false }

keys_are_parts : (columns : List ColumnDecl) (ks : List KeyText) → AreKeys columns ks → EachIs IsPart (λ (k : KeyText). key_tokens k.sort (in_column_order columns k.columns)) (λ (k : KeyText). Key (key_in k)) ks
keys_are_parts columns [] named = tt
keys_are_parts columns (k ∷ ks) named =
    let tokens = key_tokens k.sort (in_column_order columns k.columns) in
    let same : IsKey tokens k = subst (λ (names : List (List ℕ)). IsKey tokens (record { sort = k.sort; columns = names })) named.0.1 (key_is_key k.sort (in_column_order columns k.columns) named.0.0) in
    (IsPart.key tokens (key_in k) (IsKeyPart.plain_key tokens k same), keys_are_parts columns ks named.1)

-- ---- what the parts declare

abbrev parts_of : TableDecl → List TablePart
parts_of decl = map (λ (c : ColumnDecl). Column (column_in c)) decl.columns ++ map (λ (k : KeyText). Key (key_in k)) decl.keys

no_columns_of_keys : (ks : List KeyText) → columns_of (map (λ (k : KeyText). Key (key_in k)) ks) ≡ []
no_columns_of_keys [] = refl
no_columns_of_keys (k ∷ ks) = no_columns_of_keys ks

columns_of_parts : (cs : List ColumnDecl) (ks : List KeyText) → columns_of (map (λ (c : ColumnDecl). Column (column_in c)) cs ++ map (λ (k : KeyText). Key (key_in k)) ks) ≡ map column_in cs
columns_of_parts [] ks = no_columns_of_keys ks
columns_of_parts (c ∷ cs) ks = ap (λ (xs : List ColumnText). column_in c ∷ xs) (columns_of_parts cs ks)

no_keys_of_marks : (name : List ℕ) (b : Bool) → filter_map (key_of_mark name) (null_marks b) ≡ []
no_keys_of_marks name true = refl
no_keys_of_marks name false = refl

keys_of_keys : (ks : List KeyText) → keys_of (map (λ (k : KeyText). Key (key_in k)) ks) ≡ map key_in ks
keys_of_keys [] = refl
keys_of_keys (k ∷ ks) = ap (λ (xs : List KeyPart). key_in k ∷ xs) (keys_of_keys ks)

keys_of_parts : (cs : List ColumnDecl) (ks : List KeyText) → keys_of (map (λ (c : ColumnDecl). Column (column_in c)) cs ++ map (λ (k : KeyText). Key (key_in k)) ks) ≡ map key_in ks
keys_of_parts [] ks = keys_of_keys ks
keys_of_parts (c ∷ cs) ks = ap (λ (xs : List KeyPart). xs ++ keys_of (map (λ (c : ColumnDecl). Column (column_in c)) cs ++ map (λ (k : KeyText). Key (key_in k)) ks)) (no_keys_of_marks c.name c.not_null) ∙ keys_of_parts cs ks

none_is_primary : (ks : List KeyText) (name : List ℕ) → is_primary (map key_in ks) name ≡ false
none_is_primary [] name = refl
none_is_primary (k ∷ ks) name = none_is_primary ks name

null_is_kept : (b : Bool) → (list_any is_not_null (null_marks b) || false) ≡ b
null_is_kept true = refl
null_is_kept false = refl

columns_are_kept : (cs : List ColumnDecl) (ks : List KeyText) → declared_columns (map key_in ks) (map column_in cs) ≡ cs
columns_are_kept [] ks = refl
columns_are_kept (c ∷ cs) ks =
    let kept : (list_any is_not_null (null_marks c.not_null) || is_primary (map key_in ks) c.name) ≡ c.not_null = rw (none_is_primary ks c.name) (null_is_kept c.not_null) in
    let first : declared_column (is_primary (map key_in ks)) (column_in c) ≡ c = ap (λ (b : Bool). let d : ColumnDecl = record { name = c.name; kind = c.kind; max = c.max; not_null = b } in d) kept in
    ap (λ (d : ColumnDecl). d ∷ declared_columns (map key_in ks) (map column_in cs)) first ∙ ap (λ (ds : List ColumnDecl). c ∷ ds) (columns_are_kept cs ks)

keys_are_kept : (ks : List KeyText) → map (λ (k : KeyPart). k.key) (map key_in ks) ≡ ks
keys_are_kept [] = refl
keys_are_kept (k ∷ ks) = ap (λ (xs : List KeyText). k ∷ xs) (keys_are_kept ks)

parts_declare : (table : List ℕ) (c : ColumnDecl) (cs : List ColumnDecl) (ks : List KeyText)
    → declared table (map (λ (c : ColumnDecl). Column (column_in c)) (c ∷ cs) ++ map (λ (k : KeyText). Key (key_in k)) ks) ≡ Some (record { table = table; columns = c ∷ cs; keys = ks })
unfolding declared
parts_declare table c cs ks =
    ap (λ (xs : List ColumnText). declared_by table xs (keys_of (map (λ (c : ColumnDecl). Column (column_in c)) (c ∷ cs) ++ map (λ (k : KeyText). Key (key_in k)) ks))) (columns_of_parts (c ∷ cs) ks)
    ∙ ap (λ (xs : List KeyPart). declared_by table (map column_in (c ∷ cs)) xs) (keys_of_parts (c ∷ cs) ks)
    ∙ ap (λ (ds : List ColumnDecl). let d : TableDecl = record { table = table; columns = ds; keys = map (λ (k : KeyPart). k.key) (map key_in ks) } in Some d) (columns_are_kept (c ∷ cs) ks)
    ∙ ap (λ (xs : List KeyText). let d : TableDecl = record { table = table; columns = c ∷ cs; keys = xs } in Some d) (keys_are_kept ks)

-- ---- the conditions, one by one

free_if : (n : List ℕ) → not (is_reserved n) ≡ true → is_reserved n ≡ false
free_if n e = not-true (is_reserved n) e

are_plain : (cs : List ColumnDecl) (more : List (List ℕ)) → list_all is_name (names_of cs ++ more) ≡ true → list_all (λ n. not (is_reserved n)) (names_of cs ++ more) ≡ true
    → list_all (λ (c : ColumnDecl). is_plain_length c.kind c.max) cs ≡ true → ArePlain cs
are_plain [] more named free fits = tt
are_plain (c ∷ cs) more named free fits =
    let name = and_parts (is_name c.name) (list_all is_name (names_of cs ++ more)) named in
    let unreserved = and_parts (not (is_reserved c.name)) (list_all (λ n. not (is_reserved n)) (names_of cs ++ more)) free in
    let fit = and_parts (is_plain_length c.kind c.max) (list_all (λ (c : ColumnDecl). is_plain_length c.kind c.max) cs) fits in
    ((name.0, free_if c.name unreserved.0, fit.0), are_plain cs more name.1 unreserved.1 fit.1)

are_names : (cs : List ColumnDecl) (names : List (List ℕ)) → ArePlain cs → AreNames (in_column_order cs names)
are_names [] names plain = tt
are_names (c ∷ cs) names plain = go (has_name names c.name) (are_names cs names plain.1)
  where
    go : (b : Bool) → AreNames (in_column_order cs names) → AreNames (cond b (c.name ∷ in_column_order cs names) (in_column_order cs names))
    go true others = ((plain.0.0, plain.0.1), others)
    go false others = others

are_keys : (cs : List ColumnDecl) (ks : List KeyText) → ArePlain cs → All (λ (k : KeyText). in_column_order cs k.columns ≡ k.columns) ks → AreKeys cs ks
are_keys cs [] plain ordered = tt
are_keys cs (k ∷ ks) plain ordered =
    ((are_names cs k.columns plain, All-head (λ (k : KeyText). in_column_order cs k.columns ≡ k.columns) k ks ordered), are_keys cs ks plain (All-tail (λ (k : KeyText). in_column_order cs k.columns ≡ k.columns) k ks ordered))

-- ---- all of it

table_is_statement : (table : List ℕ) (c : ColumnDecl) (cs : List ColumnDecl) (ks : List KeyText) → is_reserved table ≡ false → ArePlain (c ∷ cs) → AreKeys (c ∷ cs) ks
    → IsStatement (table_tokens (record { table = table; columns = c ∷ cs; keys = ks })) (Create (record { table = table; columns = c ∷ cs; keys = ks }))
table_is_statement table c cs ks free plain keyed =
    let decl : TableDecl = record { table = table; columns = c ∷ cs; keys = ks } in
    let column_part = λ (c : ColumnDecl). Column (column_in c) in
    let key_part = λ (k : KeyText). Key (key_in k) in
    let key_ts = λ (k : KeyText). key_tokens k.sort (in_column_order (c ∷ cs) k.columns) in
    let columns_ts : List Token = flat_map (λ (d : ColumnDecl). Sign Comma ∷ column_tokens d) cs in
    let keys_ts : List Token = flat_map (λ (k : KeyText). Sign Comma ∷ key_ts k) ks in
    let are_columns = columns_are_parts (c ∷ cs) plain in
    let behind = behind_each IsPart column_tokens column_part cs keys_ts (map key_part ks) are_columns.1 (behind_all IsPart key_ts key_part ks (keys_are_parts (c ∷ cs) ks keyed)) in
    let joined = joined_from IsPart (column_tokens c) (columns_ts ++ keys_ts) (column_part c) (map column_part cs ++ map key_part ks) are_columns.0 behind in
    let same : column_tokens c ++ (columns_ts ++ keys_ts) ≡ inside_tokens decl = sym (append_assoc (column_tokens c) columns_ts keys_ts) in
    let inside = subst (λ (ts : List Token). Joined IsPart ts (parts_of decl)) same joined in
    IsStatement.create table (Sign LeftParen ∷ inside_tokens decl ++ Sign RightParen ∷ []) (parts_of decl) decl free (inside_tokens decl, refl, inside) (parts_declare table c cs ks)

read_back : (table : List ℕ) (cs : List ColumnDecl) (ks : List KeyText) → has_column cs ≡ true → is_reserved table ≡ false → ArePlain cs → AreKeys cs ks
    → read (table_tokens (record { table = table; columns = cs; keys = ks })) ≡ Some (Create (record { table = table; columns = cs; keys = ks }))
read_back table [] ks some free plain keyed = absurd cc
read_back table (c ∷ cs) ks some free plain keyed = reads_the_grammar.only _ _ (table_is_statement table c cs ks free plain keyed)

says_create : (decl : TableDecl) → read (table_tokens decl) ≡ Some (Create decl) → parsed (record { line = 1; body = Tokens (table_tokens decl) }) ≡ Ok (Create decl)
unfolding parsed
says_create decl e = rw e refl

pub printed_tables_read_back : PrintedTablesReadBack
printed_tables_read_back decl named plain ordered =
    let keyed = flat_map (λ (k : KeyText). k.columns) decl.keys in
    let names = and_parts (is_name decl.table) (list_all is_name (names_of decl.columns ++ keyed)) named in
    let most = and_parts (has_column decl.columns && list_all (λ n. not (is_reserved n)) (names_in decl)) (list_all (λ (c : ColumnDecl). is_plain_length c.kind c.max) decl.columns) plain in
    let first = and_parts (has_column decl.columns) (list_all (λ n. not (is_reserved n)) (names_in decl)) most.0 in
    let free = and_parts (not (is_reserved decl.table)) (list_all (λ n. not (is_reserved n)) (names_of decl.columns ++ keyed)) first.1 in
    let columns = are_plain decl.columns keyed names.1 free.1 most.1 in
    let keys = are_keys decl.columns decl.keys columns ordered in
    ap (map parsed) (table_is_piece decl names.0 columns keys)
    ∙ ap (λ (r : Result Statement ParseErr). r ∷ []) (says_create decl (read_back decl.table decl.columns decl.keys first.0 (free_if decl.table free.0) columns keys))
