-- The law of the grammar: what is read is in it, and what is in it is read.
use Rattle.std.proofs.Common.{◌≡◌, ℕ, Bool, true, false, cond, List, [], ◌∷◌, ◌++◌, Option, Some, None, inl, inr, refl, sym, ap, subst, ◌∙◌, append_assoc}
use Rattle.std.specs.Prelude.{codes}
use Rattle.std.specs.Str.{bytes_eq}
use Rattle.std.proofs.lemmas.List.{append-nil}
use Rattle.std.proofs.lemmas.Slice.Eq.{bytes_eq-Decides}
use Rattle.pk_lex.specs.declared.token.Token.{Token}
use Rattle.pk_lex.specs.declared.token.Token.TheVariants.{Word, Number, Text, Symbol as Sign}
use Rattle.pk_lex.specs.declared.token.Symbol.TheVariants.{LeftParen}
use Rattle.pk_syntax.specs.declared.statement.Statement.{Statement}
use Rattle.pk_syntax.specs.declared.statement.Statement.TheVariants.{Create, Drop, Insert, Update, Delete, Select, Begin, Commit, Rollback, Session, Show, Implies, Cover, Examples, Discover, Checkpoint}
use Rattle.pk_syntax.specs.declared.declaration.TableDecl.{TableDecl}
use Rattle.pk_syntax.specs.declared.declaration.KeyText.{KeyText}
use Rattle.pk_syntax.specs.declared.condition.Test.{Test}
use Rattle.pk_syntax.specs.declared.edit.SetPart.{SetPart}
use Rattle.pk_syntax.specs.declared.literal.Literal.{Literal}
use Rattle.pk_syntax.specs.declared.query.What.{What}
use Rattle.pk_syntax.specs.declared.query.OrderPart.{OrderPart}
use Rattle.pk_parse.specs.declared.table_part.TablePart.{TablePart}
use Rattle.pk_parse.specs.Tokens.{Found, after_word, after_symbol, name_at}
use Rattle.pk_parse.specs.Lists.{list_at, parens_at, names_at}
use Rattle.pk_parse.specs.Where.{where_at, IsWhere}
use Rattle.pk_parse.specs.Edits.{tuple_at, set_at, listed_at, list_or_none_at, insert_at, update_at, delete_at}
use Rattle.pk_parse.specs.Queries.{what_at, order_of_at, select_at}
use Rattle.pk_parse.specs.Create.{part_at, key_at, declared, create_at}
use Rattle.pk_parse.specs.Statements.{drop_at, session_at, show_at, implies_at, cover_at, examples_at, over_names_at, over_at, discover_at, alone, Reader, readers, found_by, statement_at, whole, read}
use Rattle.pk_parse.specs.ConditionGrammar.{EndsCondition}
use Rattle.pk_parse.specs.LiteralGrammar.{IsFree}
use Rattle.pk_parse.specs.Grammar as grammar
use Rattle.pk_parse.specs.Grammar.{InParens, Joined, IsKey, IsTuple, IsSet, IsColumnList, IsOver, IsPart, IsWhat, IsOrder, IsStatement, ReadsTheGrammar}
use Rattle.pk_parse.proofs.Fronts.{bind_some, behind_cases, Front, fronted, word_found, word_again, symbol_again, name_found, name_again}
use Rattle.pk_parse.proofs.CommaLists.{Anything, nothing_ends, list_found, list_again, parens_read}
use Rattle.pk_parse.proofs.PartReading.{names_read, parens_name_read, tuple_read, set_read}
use Rattle.pk_parse.proofs.CreateReading.{NoMark, key_read, part_read}
use Rattle.pk_parse.proofs.QueryReading.{what_front, what_back, order_found, order_again}
use Rattle.pk_parse.proofs.WhereReading.{where_found, where_again, nothing_ends_where, order_ends_where, where_ends}

-- the tokens spell the statement behind this first word
abbrev Behind : List ℕ → List Token → Statement → Type 0
Behind word tokens s = IsStatement (Word word ∷ tokens) s

-- what a reader finds behind its word is in the grammar
abbrev Finds : Reader → Type 0
Finds r = (tokens : List Token) (s : Statement) (rest : List Token) → r.1 tokens ≡ Some (s, rest) → Front (Behind r.0) tokens s rest

-- ---- CREATE TABLE

create_found : Finds (codes "create", create_at)
unfolding create_at
create_found tokens s rest e =
    let a = bind_some (after_word (codes "table") tokens) _ (s, rest) e in
    let b = bind_some (name_at a.0) _ (s, rest) a.2 in
    let c = bind_some (parens_at part_at b.0.1) _ (s, rest) b.2 in
    let d = bind_some (declared b.0.0 c.0.0) _ (s, rest) c.2 in
    let name = name_found a.0 b.0.0 b.0.1 b.1 in
    let parts = (parens_read part_at IsPart NoMark part_read).found b.0.1 c.0.0 c.0.1 c.1 in
    fronted (Behind (codes "create")) tokens (Word (codes "table") ∷ Word b.0.0 ∷ parts.0) c.0.1 rest (Create d.0) s
    (cc (word_found (codes "table") tokens a.0 a.1, name.0, parts.1)) (grammar.create b.0.0 parts.0 c.0.0 d.0 name.1 parts.2 d.1) d.2

-- ---- INSERT

listed_found : (tokens : List Token) (columns : Option (List (List ℕ))) (rest : List Token) → list_or_none_at tokens ≡ Some (columns, rest) → Front IsColumnList tokens columns rest
unfolding list_or_none_at listed_at
listed_found tokens columns rest e =
    elim (behind_cases (after_symbol LeftParen tokens) _ _ _ e) [
      | inl h ↦
          let a = bind_some (parens_at name_at tokens) _ (columns, rest) h.2 in
          let names = parens_name_read.found tokens a.0.0 a.0.1 a.1 in
          fronted IsColumnList tokens names.0 a.0.1 rest (Some a.0.0) columns names.1 (grammar.these_columns names.0 a.0.0 names.2) a.2
      | inr h ↦ fronted IsColumnList tokens [] tokens rest None columns refl grammar.all_columns h.1
    ]

no_paren : (word : List ℕ) (rest : List Token) → after_symbol LeftParen (Word word ∷ rest) ≡ None
unfolding after_symbol
no_paren word rest = refl

listed_again : (front : List Token) (columns : Option (List (List ℕ))) (word : List ℕ) (rest : List Token) → IsColumnList front columns → list_or_none_at (front ++ Word word ∷ rest) ≡ Some (columns, Word word ∷ rest)
unfolding list_or_none_at listed_at
listed_again front columns word rest grammar.all_columns = rw (no_paren word rest) refl
listed_again front columns word rest (grammar.these_columns tokens names parens) =
    let opens = ap (λ (ts : List Token). after_symbol LeftParen (ts ++ Word word ∷ rest)) parens.1 ∙ symbol_again LeftParen _ in
    rw (opens, parens_name_read.again tokens names (Word word ∷ rest) parens tt) refl

insert_found : Finds (codes "insert", insert_at)
unfolding insert_at
insert_found tokens s rest e =
    let a = bind_some (after_word (codes "into") tokens) _ (s, rest) e in
    let b = bind_some (name_at a.0) _ (s, rest) a.2 in
    let c = bind_some (list_or_none_at b.0.1) _ (s, rest) b.2 in
    let d = bind_some (after_word (codes "values") c.0.1) _ (s, rest) c.2 in
    let f = bind_some (list_at tuple_at d.0) _ (s, rest) d.2 in
    let name = name_found a.0 b.0.0 b.0.1 b.1 in
    let listed = listed_found b.0.1 c.0.0 c.0.1 c.1 in
    let values = word_found (codes "values") c.0.1 d.0 d.1 in
    let rows = list_found tuple_at IsTuple Anything tuple_read d.0 f.0.0 f.0.1 f.1 in
    let behind : b.0.1 ≡ (listed.0 ++ Word (codes "values") ∷ rows.0) ++ f.0.1 =
    listed.1 ∙ ap (λ (ts : List Token). listed.0 ++ ts) (values ∙ ap (λ (ts : List Token). Word (codes "values") ∷ ts) rows.1) ∙ sym (append_assoc listed.0 (Word (codes "values") ∷ rows.0) f.0.1) in
    fronted (Behind (codes "insert")) tokens (Word (codes "into") ∷ Word b.0.0 ∷ listed.0 ++ Word (codes "values") ∷ rows.0) f.0.1 rest (Insert (record { table = b.0.0; columns = c.0.0; rows = f.0.0 })) s
    (word_found (codes "into") tokens a.0 a.1 ∙ ap (λ (ts : List Token). Word (codes "into") ∷ ts) (name.0 ∙ ap (λ (ts : List Token). Word b.0.0 ∷ ts) behind)) (grammar.insert b.0.0 listed.0 rows.0 c.0.0 f.0.0 name.1 listed.2 rows.2) f.2

-- ---- UPDATE and DELETE

update_found : Finds (codes "update", update_at)
unfolding update_at
update_found tokens s rest e =
    let a = bind_some (name_at tokens) _ (s, rest) e in
    let b = bind_some (after_word (codes "set") a.0.1) _ (s, rest) a.2 in
    let c = bind_some (list_at set_at b.0) _ (s, rest) b.2 in
    let d = bind_some (where_at c.0.1) _ (s, rest) c.2 in
    let name = name_found tokens a.0.0 a.0.1 a.1 in
    let sets = list_found set_at IsSet Anything set_read b.0 c.0.0 c.0.1 c.1 in
    let tests = where_found c.0.1 d.0.0 d.0.1 d.1 in
    let behind : b.0 ≡ (sets.0 ++ tests.0) ++ d.0.1 = sets.1 ∙ ap (λ (ts : List Token). sets.0 ++ ts) tests.1 ∙ sym (append_assoc sets.0 tests.0 d.0.1) in
    fronted (Behind (codes "update")) tokens (Word a.0.0 ∷ Word (codes "set") ∷ sets.0 ++ tests.0) d.0.1 rest (Update (record { table = a.0.0; sets = c.0.0; cond = d.0.0 })) s
    (cc (name.0, word_found (codes "set") a.0.1 b.0 b.1, behind)) (grammar.update a.0.0 sets.0 tests.0 c.0.0 d.0.0 name.1 sets.2 tests.2) d.2

delete_found : Finds (codes "delete", delete_at)
unfolding delete_at
delete_found tokens s rest e =
    let a = bind_some (after_word (codes "from") tokens) _ (s, rest) e in
    let b = bind_some (name_at a.0) _ (s, rest) a.2 in
    let c = bind_some (where_at b.0.1) _ (s, rest) b.2 in
    let name = name_found a.0 b.0.0 b.0.1 b.1 in
    let tests = where_found b.0.1 c.0.0 c.0.1 c.1 in
    fronted (Behind (codes "delete")) tokens (Word (codes "from") ∷ Word b.0.0 ∷ tests.0) c.0.1 rest (Delete (record { table = b.0.0; cond = c.0.0 })) s
    (cc (word_found (codes "from") tokens a.0 a.1, name.0, tests.1)) (grammar.delete b.0.0 tests.0 c.0.0 name.1 tests.2) c.2

-- ---- SELECT

select_found : Finds (codes "select", select_at)
unfolding select_at
select_found tokens s rest e =
    let a = bind_some (what_at tokens) _ (s, rest) e in
    let b = bind_some (after_word (codes "from") a.0.1) _ (s, rest) a.2 in
    let c = bind_some (name_at b.0) _ (s, rest) b.2 in
    let d = bind_some (where_at c.0.1) _ (s, rest) c.2 in
    let f = bind_some (order_of_at a.0.0 d.0.1) _ (s, rest) d.2 in
    let what = what_front tokens a.0.0 a.0.1 a.1 in
    let from = word_found (codes "from") a.0.1 b.0 b.1 in
    let name = name_found b.0 c.0.0 c.0.1 c.1 in
    let tests = where_found c.0.1 d.0.0 d.0.1 d.1 in
    let order = order_found a.0.0 d.0.1 f.0.0 f.0.1 f.1 in
    let last : c.0.1 ≡ (tests.0 ++ order.0) ++ f.0.1 = tests.1 ∙ ap (λ (ts : List Token). tests.0 ++ ts) order.1 ∙ sym (append_assoc tests.0 order.0 f.0.1) in
    let from_on : a.0.1 ≡ (Word (codes "from") ∷ Word c.0.0 ∷ tests.0 ++ order.0) ++ f.0.1 =
    from ∙ ap (λ (ts : List Token). Word (codes "from") ∷ ts) (name.0 ∙ ap (λ (ts : List Token). Word c.0.0 ∷ ts) last) in
    let all : tokens ≡ (what.0 ++ (Word (codes "from") ∷ Word c.0.0 ∷ tests.0 ++ order.0)) ++ f.0.1 =
    what.1 ∙ ap (λ (ts : List Token). what.0 ++ ts) from_on ∙ sym (append_assoc what.0 (Word (codes "from") ∷ Word c.0.0 ∷ tests.0 ++ order.0) f.0.1) in
    fronted (Behind (codes "select")) tokens (what.0 ++ (Word (codes "from") ∷ Word c.0.0 ∷ tests.0 ++ order.0)) f.0.1 rest (Select (record { table = c.0.0; what = a.0.0; cond = d.0.0; order = f.0.0 })) s
    all (grammar.select c.0.0 what.0 tests.0 order.0 a.0.0 d.0.0 f.0.0 name.1 what.2 tests.2 order.2) f.2

-- ---- the others

drop_found : Finds (codes "drop", drop_at)
unfolding drop_at
drop_found tokens s rest e =
    let a = bind_some (after_word (codes "table") tokens) _ (s, rest) e in
    let b = bind_some (name_at a.0) _ (s, rest) a.2 in
    let name = name_found a.0 b.0.0 b.0.1 b.1 in
    fronted (Behind (codes "drop")) tokens (Word (codes "table") ∷ Word b.0.0 ∷ []) b.0.1 rest (Drop b.0.0) s (cc (word_found (codes "table") tokens a.0 a.1, name.0)) (grammar.drop b.0.0 name.1) b.2

session_found : Finds (codes "session", session_at)
unfolding session_at
session_found tokens s rest e =
    let a = bind_some (name_at tokens) _ (s, rest) e in
    let name = name_found tokens a.0.0 a.0.1 a.1 in
    fronted (Behind (codes "session")) tokens (Word a.0.0 ∷ []) a.0.1 rest (Session a.0.0) s name.0 (grammar.session a.0.0 name.1) a.2

show_found : Finds (codes "show", show_at)
unfolding show_at
show_found tokens s rest e =
    let a = bind_some (after_word (codes "create") tokens) _ (s, rest) e in
    let b = bind_some (after_word (codes "table") a.0) _ (s, rest) a.2 in
    let c = bind_some (name_at b.0) _ (s, rest) b.2 in
    let name = name_found b.0 c.0.0 c.0.1 c.1 in
    fronted (Behind (codes "show")) tokens (Word (codes "create") ∷ Word (codes "table") ∷ Word c.0.0 ∷ []) c.0.1 rest (Show c.0.0) s
    (cc (word_found (codes "create") tokens a.0 a.1, word_found (codes "table") a.0 b.0 b.1, name.0)) (grammar.show c.0.0 name.1) c.2

implies_found : Finds (codes "implies", implies_at)
unfolding implies_at
implies_found tokens s rest e =
    let a = bind_some (name_at tokens) _ (s, rest) e in
    let b = bind_some (key_at a.0.1) _ (s, rest) a.2 in
    let name = name_found tokens a.0.0 a.0.1 a.1 in
    let key = key_read.found a.0.1 b.0.0 b.0.1 b.1 in
    fronted (Behind (codes "implies")) tokens (Word a.0.0 ∷ key.0) b.0.1 rest (Implies a.0.0 b.0.0) s (cc (name.0, key.1)) (grammar.implies a.0.0 key.0 b.0.0 name.1 key.2) b.2

cover_found : Finds (codes "cover", cover_at)
unfolding cover_at
cover_found tokens s rest e =
    let a = bind_some (after_word (codes "of") tokens) _ (s, rest) e in
    let b = bind_some (name_at a.0) _ (s, rest) a.2 in
    let name = name_found a.0 b.0.0 b.0.1 b.1 in
    fronted (Behind (codes "cover")) tokens (Word (codes "of") ∷ Word b.0.0 ∷ []) b.0.1 rest (Cover b.0.0) s (cc (word_found (codes "of") tokens a.0 a.1, name.0)) (grammar.cover b.0.0 name.1) b.2

examples_found : Finds (codes "examples", examples_at)
unfolding examples_at
examples_found tokens s rest e =
    let a = bind_some (after_word (codes "of") tokens) _ (s, rest) e in
    let b = bind_some (name_at a.0) _ (s, rest) a.2 in
    let name = name_found a.0 b.0.0 b.0.1 b.1 in
    fronted (Behind (codes "examples")) tokens (Word (codes "of") ∷ Word b.0.0 ∷ []) b.0.1 rest (Examples b.0.0) s (cc (word_found (codes "of") tokens a.0 a.1, name.0)) (grammar.examples b.0.0 name.1) b.2

over_found : (tokens : List Token) (over : Option (List (List ℕ))) (rest : List Token) → over_at tokens ≡ Some (over, rest) → Front IsOver tokens over rest
unfolding over_at over_names_at
over_found tokens over rest e =
    elim (behind_cases (after_word (codes "over") tokens) _ _ _ e) [
      | inl h ↦
          let a = bind_some (names_at h.0) _ (over, rest) h.2 in
          let names = names_read.found h.0 a.0.0 a.0.1 a.1 in
          fronted IsOver tokens (Word (codes "over") ∷ names.0) a.0.1 rest (Some a.0.0) over (cc (word_found (codes "over") tokens h.0 h.1, names.1)) (grammar.over_names names.0 a.0.0 names.2) a.2
      | inr h ↦ fronted IsOver tokens [] tokens rest None over refl grammar.over_all h.1
    ]

over_again : (tokens : List Token) (over : Option (List (List ℕ))) → IsOver tokens over → over_at tokens ≡ Some (over, [])
unfolding over_at over_names_at after_word
over_again tokens over grammar.over_all = refl
over_again tokens over (grammar.over_names behind names is) = rw (ap names_at (sym (append-nil behind)) ∙ names_read.again behind names [] is tt) refl

discover_found : Finds (codes "discover", discover_at)
unfolding discover_at
discover_found tokens s rest e =
    let a = bind_some (after_word (codes "keys") tokens) _ (s, rest) e in
    let b = bind_some (after_word (codes "from") a.0) _ (s, rest) a.2 in
    let c = bind_some (name_at b.0) _ (s, rest) b.2 in
    let d = bind_some (over_at c.0.1) _ (s, rest) c.2 in
    let name = name_found b.0 c.0.0 c.0.1 c.1 in
    let over = over_found c.0.1 d.0.0 d.0.1 d.1 in
    fronted (Behind (codes "discover")) tokens (Word (codes "keys") ∷ Word (codes "from") ∷ Word c.0.0 ∷ over.0) d.0.1 rest (Discover c.0.0 d.0.0) s
    (cc (word_found (codes "keys") tokens a.0 a.1, word_found (codes "from") a.0 b.0 b.1, name.0, over.1)) (grammar.discover c.0.0 over.0 d.0.0 name.1 over.2) d.2

alone_found : (word : List ℕ) (made : Statement) → IsStatement (Word word ∷ []) made → Finds (word, alone made)
alone_found word made is tokens s rest e = fronted (Behind word) tokens [] tokens rest made s refl is e

-- ---- the statements together

abbrev AllFind : List Reader → Type 0
AllFind [] = Unit {0}
AllFind (r ∷ rs) = Finds r × AllFind rs

all_find : AllFind readers
all_find = (
  create_found,
  (
    insert_found,
    (
      select_found,
      (
        update_found,
        (
          delete_found,
          (
            drop_found,
            (
              alone_found (codes "begin") Begin grammar.begin,
              (
                alone_found (codes "commit") Commit grammar.commit,
                (
                  alone_found (codes "rollback") Rollback grammar.rollback,
                  (session_found, (show_found, (implies_found, (cover_found, (examples_found, (discover_found, (alone_found (codes "checkpoint") Checkpoint grammar.checkpoint, tt))))))),
                ),
              ),
            ),
          ),
        ),
      ),
    ),
  ),
)

first_is : (rs : List Reader) → AllFind rs → (word : List ℕ) (tokens : List Token) (s : Statement) (rest : List Token) → found_by rs word tokens ≡ Some (s, rest) → Front (Behind word) tokens s rest
first_is [] each word tokens s rest e = absurd cc
first_is (r ∷ rs) each word tokens s rest e = go (bytes_eq word r.0) refl e (λ later. first_is rs each.1 word tokens s rest later)
  where
    go : (b : Bool) → bytes_eq word r.0 ≡ b → cond b (r.1 tokens) (found_by rs word tokens) ≡ Some (s, rest)
        → (found_by rs word tokens ≡ Some (s, rest) → Front (Behind word) tokens s rest) → Front (Behind word) tokens s rest
    go true own e others = subst (λ w. Front (Behind w) tokens s rest) (sym ((bytes_eq-Decides word r.0).0 own)) (each.0 tokens s rest e)
    go false other e others = others e

whole_is : {A : Type 0} (o : Found A) (x : A) → whole o ≡ Some x → o ≡ Some (x, [])
whole_is None x e = absurd cc
whole_is (Some (y, [])) x e = cc
whole_is (Some (y, t ∷ ts)) x e = absurd cc

statement_found : (tokens : List Token) (s : Statement) → statement_at tokens ≡ Some (s, []) → IsStatement tokens s
unfolding statement_at
statement_found [] s e = absurd cc
statement_found (Number digits ∷ ts) s e = absurd cc
statement_found (Text bytes ∷ ts) s e = absurd cc
statement_found (Sign symbol ∷ ts) s e = absurd cc
statement_found (Word word ∷ ts) s e =
    let found = first_is readers all_find word ts s [] e in
    subst (λ (all : List Token). IsStatement (Word word ∷ all) s) (sym (found.1 ∙ append-nil found.0)) found.2

read_found : (tokens : List Token) (s : Statement) → read tokens ≡ Some s → IsStatement tokens s
unfolding read
read_found tokens s e = statement_found tokens s (whole_is (statement_at tokens) s e)

-- what the word's reader finds is what is read
read_by : (word : List ℕ) (tokens : List Token) (s : Statement) → found_by readers word tokens ≡ Some (s, []) → read (Word word ∷ tokens) ≡ Some s
unfolding read statement_at
read_by word tokens s e = ap whole e

create_again : (table : List ℕ) (tokens : List Token) (parts : List TablePart) (decl : TableDecl) → IsFree table → InParens IsPart tokens parts → declared table parts ≡ Some decl → create_at (Word (codes "table") ∷ Word table ∷ tokens) ≡ Some (Create decl, [])
unfolding create_at
create_again table tokens parts decl free is declares =
    let all : parens_at part_at tokens ≡ Some (parts, []) = ap (parens_at part_at) (sym (append-nil tokens)) ∙ (parens_read part_at IsPart NoMark part_read).again tokens parts [] is tt in
    rw (word_again (codes "table") (Word table ∷ tokens), name_again table tokens free, all, declares) refl

insert_again : (table : List ℕ) (listed tuples : List Token) (columns : Option (List (List ℕ))) (rows : List (List Literal)) → IsFree table → IsColumnList listed columns → Joined IsTuple tuples rows
    → insert_at (Word (codes "into") ∷ Word table ∷ listed ++ Word (codes "values") ∷ tuples) ≡ Some (Insert (record { table = table; columns = columns; rows = rows }), [])
unfolding insert_at
insert_again table listed tuples columns rows free lists joined =
    let all : list_at tuple_at tuples ≡ Some (rows, []) = ap (list_at tuple_at) (sym (append-nil tuples)) ∙ list_again tuple_at IsTuple Anything tuple_read rows tuples [] nothing_ends tt joined in
    rw (word_again (codes "into") (Word table ∷ listed ++ Word (codes "values") ∷ tuples), name_again table (listed ++ Word (codes "values") ∷ tuples) free, listed_again listed columns (codes "values") tuples lists, word_again (codes "values") tuples, all) refl

-- a condition at the end
where_last : (tokens : List Token) (cond : Option Test) → IsWhere tokens cond → where_at tokens ≡ Some (cond, [])
where_last tokens cond is = ap where_at (sym (append-nil tokens)) ∙ where_again tokens cond [] nothing_ends_where.0 nothing_ends_where.1 is

update_again : (table : List ℕ) (parts behind : List Token) (sets : List SetPart) (cond : Option Test) → IsFree table → Joined IsSet parts sets → IsWhere behind cond
    → update_at (Word table ∷ Word (codes "set") ∷ parts ++ behind) ≡ Some (Update (record { table = table; sets = sets; cond = cond }), [])
unfolding update_at
update_again table parts behind sets cond free joined tests =
    rw (name_again table (Word (codes "set") ∷ parts ++ behind) free, word_again (codes "set") (parts ++ behind), list_again set_at IsSet Anything set_read sets parts behind (where_ends behind cond tests) tt joined, where_last behind cond tests) refl

delete_again : (table : List ℕ) (behind : List Token) (cond : Option Test) → IsFree table → IsWhere behind cond → delete_at (Word (codes "from") ∷ Word table ∷ behind) ≡ Some (Delete (record { table = table; cond = cond }), [])
unfolding delete_at
delete_again table behind cond free tests = rw (word_again (codes "from") (Word table ∷ behind), name_again table behind free, where_last behind cond tests) refl

-- an order goes on no condition
order_follows : (what : What) (tokens : List Token) (parts : List OrderPart) → IsOrder what tokens parts → (after_word (codes "where") tokens ≡ None) × EndsCondition tokens
order_follows what tokens parts (grammar.no_order asked) = nothing_ends_where
order_follows what tokens parts (grammar.all_order behind ps joined) = order_ends_where (Word (codes "by") ∷ behind)
order_follows what tokens parts (grammar.columns_order names behind ps joined) = order_ends_where (Word (codes "by") ∷ behind)

select_again : (table : List ℕ) (asked tests ordered : List Token) (what : What) (cond : Option Test) (order : List OrderPart) → IsFree table → IsWhat asked what → IsWhere tests cond → IsOrder what ordered order
    → select_at (asked ++ (Word (codes "from") ∷ Word table ∷ tests ++ ordered)) ≡ Some (Select (record { table = table; what = what; cond = cond; order = order }), [])
unfolding select_at
select_again table asked tests ordered what cond order free asks tested orders =
    rw (what_back asked what (codes "from") (Word table ∷ tests ++ ordered) asks, word_again (codes "from") (Word table ∷ tests ++ ordered), name_again table (tests ++ ordered) free, where_again tests cond ordered (order_follows what ordered order orders).0 (order_follows what ordered order orders).1 tested, order_again what ordered order orders) refl

named_again : (table : List ℕ) → IsFree table → name_at (Word table ∷ []) ≡ Some (table, [])
named_again table free = name_again table [] free

drop_again : (table : List ℕ) → IsFree table → drop_at (Word (codes "table") ∷ Word table ∷ []) ≡ Some (Drop table, [])
unfolding drop_at
drop_again table free = rw (word_again (codes "table") (Word table ∷ []), named_again table free) refl

session_again : (name : List ℕ) → IsFree name → session_at (Word name ∷ []) ≡ Some (Session name, [])
unfolding session_at
session_again name free = rw (named_again name free) refl

show_again : (table : List ℕ) → IsFree table → show_at (Word (codes "create") ∷ Word (codes "table") ∷ Word table ∷ []) ≡ Some (Show table, [])
unfolding show_at
show_again table free = rw (word_again (codes "create") (Word (codes "table") ∷ Word table ∷ []), word_again (codes "table") (Word table ∷ []), named_again table free) refl

implies_again : (table : List ℕ) (tokens : List Token) (key : KeyText) → IsFree table → IsKey tokens key → implies_at (Word table ∷ tokens) ≡ Some (Implies table key, [])
unfolding implies_at
implies_again table tokens key free is = rw (name_again table tokens free, ap key_at (sym (append-nil tokens)) ∙ key_read.again tokens key [] is tt) refl

cover_again : (table : List ℕ) → IsFree table → cover_at (Word (codes "of") ∷ Word table ∷ []) ≡ Some (Cover table, [])
unfolding cover_at
cover_again table free = rw (word_again (codes "of") (Word table ∷ []), named_again table free) refl

examples_again : (table : List ℕ) → IsFree table → examples_at (Word (codes "of") ∷ Word table ∷ []) ≡ Some (Examples table, [])
unfolding examples_at
examples_again table free = rw (word_again (codes "of") (Word table ∷ []), named_again table free) refl

discover_again : (table : List ℕ) (tokens : List Token) (over : Option (List (List ℕ))) → IsFree table → IsOver tokens over → discover_at (Word (codes "keys") ∷ Word (codes "from") ∷ Word table ∷ tokens) ≡ Some (Discover table over, [])
unfolding discover_at
discover_again table tokens over free is = rw (word_again (codes "keys") (Word (codes "from") ∷ Word table ∷ tokens), word_again (codes "from") (Word table ∷ tokens), name_again table tokens free, over_again tokens over is) refl

read_again : (tokens : List Token) (s : Statement) → IsStatement tokens s → read tokens ≡ Some s
read_again tokens s (grammar.create table ts parts decl free is declares) = read_by (codes "create") _ _ (create_again table ts parts decl free is declares)
read_again tokens s (grammar.drop table free) = read_by (codes "drop") _ _ (drop_again table free)
read_again tokens s (grammar.insert table listed tuples columns rows free lists joined) = read_by (codes "insert") _ _ (insert_again table listed tuples columns rows free lists joined)
read_again tokens s (grammar.update table parts behind sets cond free joined tests) = read_by (codes "update") _ _ (update_again table parts behind sets cond free joined tests)
read_again tokens s (grammar.delete table behind cond free tests) = read_by (codes "delete") _ _ (delete_again table behind cond free tests)
read_again tokens s (grammar.select table asked tests ordered what cond order free asks tested orders) = read_by (codes "select") _ _ (select_again table asked tests ordered what cond order free asks tested orders)
read_again tokens s grammar.begin = read_by (codes "begin") [] Begin refl
read_again tokens s grammar.commit = read_by (codes "commit") [] Commit refl
read_again tokens s grammar.rollback = read_by (codes "rollback") [] Rollback refl
read_again tokens s (grammar.session name free) = read_by (codes "session") _ _ (session_again name free)
read_again tokens s (grammar.show table free) = read_by (codes "show") _ _ (show_again table free)
read_again tokens s (grammar.implies table ts key free is) = read_by (codes "implies") _ _ (implies_again table ts key free is)
read_again tokens s (grammar.cover table free) = read_by (codes "cover") _ _ (cover_again table free)
read_again tokens s (grammar.examples table free) = read_by (codes "examples") _ _ (examples_again table free)
read_again tokens s (grammar.discover table ts over free is) = read_by (codes "discover") _ _ (discover_again table ts over free is)
read_again tokens s grammar.checkpoint = read_by (codes "checkpoint") [] Checkpoint refl

pub reads_the_grammar : ReadsTheGrammar
reads_the_grammar = record { found = read_found; only = read_again }
