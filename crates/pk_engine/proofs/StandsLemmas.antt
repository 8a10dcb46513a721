-- What an engine stands for, before and after a statement.
use Rattle.std.proofs.Common.{◌≡◌, ℕ, ◌+◌, ◌<◌, List, [], ◌∷◌, ◌++◌, length, get_or, Option, Some, None, Result, Ok, Err, IfOk, ap, refl, ◌∙◌, sym, subst}
use Rattle.std.specs.Prelude.{slice_get}
use Rattle.std.specs.List.{All}
use Rattle.std.proofs.lemmas.Option.{slice_get-get_or, get_or_from_slice_get}
use Rattle.pk_values.specs.declared.refusal.Refusal.TheVariants.{NoTable}
use Rattle.pk_report.specs.declared.reply.Reply.{Reply}
use Rattle.pk_report.specs.declared.reply.Reply.TheVariants.{Refused}
use Rattle.pk_engine.specs.Base.{Base, Table, IsInNameOrder, row_count, table_named, is_named}
use Rattle.pk_engine.specs.State.{State, Commit, current, after, committed, tables_after, with_commit}
use Rattle.pk_engine.specs.Refusing.{Step, about, about_found, table_of}
use Rattle.pk_engine.specs.Valid.{IsValid, IsValidTable}
use Rattle.pk_engine.specs.Stands.{StandsFor, Replies, Moves, RepliesAt, MovesAt}
use Rattle.pk_engine.specs.declared.engine.Engine.{Engine}
use Rattle.pk_engine.specs.Place.{IsPlaceOf}
use Rattle.pk_engine.proofs.ListLemmas.{first_place}
use Rattle.pk_engine.proofs.TableLemmas.{named_at, none_named}
use Rattle.pk_engine.proofs.OrderLemmas.{blank}

-- the tables of an engine are those of the state
pub stands_tables : (e : Engine) (st : State) → StandsFor e st → (current st).tables ≡ e.tables.items
unfolding StandsFor
stands_tables e st stands = sym (ap (λ (b : Base). b.tables) stands.0)

pub stands_commit : (e : Engine) (st : State) → StandsFor e st → (current st).commit ≡ e.commit
unfolding StandsFor
stands_commit e st stands = sym (ap (λ (b : Base). b.commit) stands.0)

pub stands_rows : (e : Engine) (st : State) → StandsFor e st → e.rows ≡ row_count (current st)
unfolding StandsFor
stands_rows e st stands = stands.1

pub stands_valid : (e : Engine) (st : State) → StandsFor e st → IsValid (current st)
unfolding StandsFor
stands_valid e st stands = stands.2

-- the engine's tables are in order
pub stands_order : (e : Engine) (st : State) → StandsFor e st → IsInNameOrder e.tables.items
stands_order e st stands = subst IsInNameOrder (stands_tables e st stands) (stands_valid e st stands).names

-- each table of the engine is valid
pub stands_table : (e : Engine) (st : State) (place : ℕ) (t : Table) → StandsFor e st → place < length e.tables.items → t ≡ get_or e.tables.items place t → IsValidTable t
stands_table e st place t stands within is =
    let all = subst (λ (ts : List Table). All IsValidTable ts) (stands_tables e st stands) (stands_valid e st stands).tables in
    subst IsValidTable (sym is) (all place t within)

-- ---- one commit more

-- one commit more, behind the others
pub after_more : (b : Base) (cs : List Commit) (c : Commit) → after b (cs ++ c ∷ []) ≡ committed (after b cs) c
unfolding after
after_more b [] c = refl
after_more b (k ∷ ks) c = after_more (committed b k) ks c

pub current_more : (st : State) (c : Commit) → current (with_commit st c) ≡ committed (current st) c
unfolding current
current_more st c = after_more st.start st.commits c

parts : (b : Base) (commit : ℕ) (tables : List Table) → commit ≡ b.commit → tables ≡ b.tables → record { commit = commit; tables = tables } ≡ b
parts b commit tables e f = rw (e, f) refl

-- an engine that has done a commit stands for the state with that commit
pub commit_stands : (e n : Engine) (st : State) (c : Commit) → StandsFor e st → n.commit ≡ e.commit + 1
    → n.tables.items ≡ tables_after c e.tables.items
    → n.rows ≡ row_count (committed (current st) c)
    → IsValid (committed (current st) c)
    → StandsFor n (with_commit st c)
unfolding StandsFor
commit_stands e n st c stands commit tables rows valid =
    let is = current_more st c in
    let base = parts (committed (current st) c) n.commit n.tables.items (commit ∙ ap (λ (k : ℕ). k + 1) (sym (stands_commit e st stands))) (tables ∙ ap (tables_after c) (sym (stands_tables e st stands))) in
    (base ∙ sym is, rows ∙ ap row_count (sym is), subst IsValid (sym is) valid)

-- ---- a table is looked up

-- the table at the place of a name
pub table_at : (e : Engine) (st : State) (name : List ℕ) (place : ℕ) (t : Table) → StandsFor e st
    → IsPlaceOf name e.tables.items (Ok place) → slice_get e.tables.items place ≡ Some t → table_of st name ≡ Some t
table_at e st name place t stands at is =
    ap (table_named name) (stands_tables e st stands) ∙ named_at name e.tables.items place t at (sym (get_or_from_slice_get e.tables.items place t t is))

-- no table where a search found none
pub table_absent : (e : Engine) (st : State) (name : List ℕ) (place : ℕ) → StandsFor e st → IsPlaceOf name e.tables.items (Err place) → table_of st name ≡ None
table_absent e st name place stands at = ap (table_named name) (stands_tables e st stands) ∙ none_named name e.tables.items at.0

-- the place of a name is one of a table's
pub place_within : (name : List ℕ) (ts : List Table) (place : ℕ) (d : Table) → IsPlaceOf name ts (Ok place) → place < length ts
place_within name ts place d at = (first_place (is_named name) ts place d at).0

about_is : (st : State) (name : List ℕ) (answer : Table → Step) (o : Option Table) → table_of st name ≡ o → about st name answer ≡ about_found st name answer o
unfolding about
about_is st name answer o is = ap (about_found st name answer) is

-- what is answered about the table at a place is what is answered
pub replies_about : (e : Engine) (name : List ℕ) (place : ℕ) (step : State → Table → Step) (r : Reply) → IsPlaceOf name e.tables.items (Ok place)
    → RepliesAt place step e r → Replies (λ st. about st name (step st)) e r
replies_about e name place step r at replies = λ st stands.
    let t = get_or e.tables.items place blank in
    let is = slice_get-get_or e.tables.items place blank (place_within name e.tables.items place blank at) in
    replies st t stands is ∙ ap (λ (s : Step). s.reply) (sym (about_is st name (step st) (Some t) (table_at e st name place t stands at is)))

pub moves_about : (e n : Engine) (name : List ℕ) (place : ℕ) (step : State → Table → Step) → IsPlaceOf name e.tables.items (Ok place)
    → MovesAt place step e n → Moves (λ st. about st name (step st)) e n
moves_about e n name place step at moves = λ st stands.
    let t = get_or e.tables.items place blank in
    let is = slice_get-get_or e.tables.items place blank (place_within name e.tables.items place blank at) in
    subst (λ (s : Step). StandsFor n s.next) (sym (about_is st name (step st) (Some t) (table_at e st name place t stands at is))) (moves st t stands is)

-- and where there is none, that is
pub replies_none : (e : Engine) (name : List ℕ) (place : ℕ) (step : State → Table → Step) (r : Reply) → IsPlaceOf name e.tables.items (Err place)
    → r ≡ Refused (NoTable name) → Replies (λ st. about st name (step st)) e r
replies_none e name place step r at is = λ st stands.
    is ∙ ap (λ (s : Step). s.reply) (sym (about_is st name (step st) None (table_absent e st name place stands at)))

pub moves_none : (e : Engine) (name : List ℕ) (place : ℕ) (step : State → Table → Step) → IsPlaceOf name e.tables.items (Err place)
    → Moves (λ st. about st name (step st)) e e
moves_none e name place step at = λ st stands.
    subst (λ (s : Step). StandsFor e s.next) (sym (about_is st name (step st) None (table_absent e st name place stands at))) stands

-- ---- through a result

pub if_ok : {A E : Type 0} {P Q : A → Type 0} (r : Result A E) → IfOk r P → ((x : A) → P x → Q x) → IfOk r Q
if_ok (Ok x) holds more = more x holds
if_ok (Err e) holds more = tt

pub ok_replies_about : {E : Type 0} (e : Engine) (name : List ℕ) (place : ℕ) (step : State → Table → Step) (r : Result Reply E) → IsPlaceOf name e.tables.items (Ok place)
    → IfOk r (λ x. RepliesAt place step e x) → IfOk r (λ x. Replies (λ st. about st name (step st)) e x)
ok_replies_about e name place step r at replies = if_ok r replies (λ x good. replies_about e name place step x at good)

pub ok_moves_about : {E : Type 0} (e n : Engine) (name : List ℕ) (place : ℕ) (step : State → Table → Step) (r : Result Reply E) → IsPlaceOf name e.tables.items (Ok place)
    → IfOk r (λ x. MovesAt place step e n) → IfOk r (λ x. Moves (λ st. about st name (step st)) e n)
ok_moves_about e n name place step r at moves = if_ok r moves (λ x good. moves_about e n name place step at good)

pub ok_replies_none : {E : Type 0} (e : Engine) (name : List ℕ) (place : ℕ) (step : State → Table → Step) (r : Result Reply E) → IsPlaceOf name e.tables.items (Err place)
    → IfOk r (λ x. x ≡ Refused (NoTable name)) → IfOk r (λ x. Replies (λ st. about st name (step st)) e x)
ok_replies_none e name place step r at is = if_ok r is (λ x good. replies_none e name place step x at good)

pub ok_moves_none : {E : Type 0} (e : Engine) (name : List ℕ) (place : ℕ) (step : State → Table → Step) (r : Result Reply E) → IsPlaceOf name e.tables.items (Err place)
    → IfOk r (λ x. Moves (λ st. about st name (step st)) e e)
ok_moves_none e name place step (Ok x) at = moves_none e name place step at
ok_moves_none e name place step (Err x) at = tt
