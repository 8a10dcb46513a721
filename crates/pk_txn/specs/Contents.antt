-- What a book contains, and what its calls make of it.
use Rattle.std.specs.Prelude.{ℕ, Bool, not, ◌==◌, nat_le, if◌then◌else◌, List, [], ◌∷◌, ◌++◌, map, Option, Some, None}
use Rattle.std.specs.List.{find, filter}
use Rattle.std.specs.Str.{bytes_eq}
use Rattle.std.specs.BTreeMap.{insert_entry}
use Rattle.std.specs.Ordering.{nat_cmp, is_lt}
use Rattle.std.specs.Cmp.Lexicographic.{slice_cmp}
use Rattle.pk_values.specs.declared.value.Value.{Value}
use Rattle.pk_txn.specs.declared.before.Before.{Before}
use Rattle.pk_txn.specs.declared.image.Image.{Image}
use Rattle.pk_txn.specs.declared.row_key.RowKey.{RowKey}
use Rattle.pk_txn.specs.Images.{key_cmp, image_of}

-- An open transaction: its session, the commit number of the base that it sees, and for each row that a later commit changed
-- the first such commit with the row before it, in the order of the rows.
pub record Opened : Type 0 where
  pub session : List ℕ
  pub base : ℕ
  pub images : List (RowKey × Image)

-- The open transactions in the order of their begins, and the greatest commit number noted, where there is one.
pub record Contents : Type 0 where
  pub opened : List Opened
  pub last : Option ℕ

-- no transaction, and no commit noted
abbrev pub nothing_open : Contents
nothing_open = record { opened = []; last = None }

abbrev pub of_session : List ℕ → Opened → Bool
of_session session t = bytes_eq session t.session

abbrev pub of_base : ℕ → Opened → Bool
of_base base t = t.base == base

-- the session's transaction
abbrev pub transaction_of : List ℕ → Contents → Option Opened
transaction_of session book = find (of_session session) book.opened

-- what a transaction sees, and nothing where there is none
abbrev pub seen_by : Option Opened → List (RowKey × Image)
seen_by None = []
seen_by (Some t) = t.images

-- what the session's transaction sees
abbrev pub images_of : List ℕ → Contents → List (RowKey × Image)
images_of session book = seen_by (transaction_of session book)

-- what the first transaction with this base sees
abbrev pub images_since : ℕ → Contents → List (RowKey × Image)
images_since base book = seen_by (find (of_base base) book.opened)

-- a transaction that begins now
abbrev pub begun_at : List ℕ → ℕ → Opened
begun_at session base = record { session = session; base = base; images = [] }

abbrev pub begun : List ℕ → ℕ → Contents → Contents
begun session base book = record book { opened = book.opened ++ begun_at session base ∷ [] }

abbrev pub finished : List ℕ → Contents → Contents
finished session book = record book { opened = filter (λ t. not (of_session session t)) book.opened }

-- the images with another, where there is none at its row yet
abbrev pub put_unless : Option Image → List (RowKey × Image) → RowKey → Image → List (RowKey × Image)
put_unless None images key image = insert_entry key_cmp images key image
put_unless (Some earlier) images key image = images

abbrev pub with_image : List (RowKey × Image) → RowKey → Image → List (RowKey × Image)
with_image images key image = put_unless (image_of images key) images key image

-- a transaction once a commit has changed a row, which was so before: what it sees changes where the commit is after its base
-- and is the first to change the row
abbrev pub kept : ℕ → RowKey → Option (List Value) → Opened → Opened
kept commit key row t =
    if nat_le commit t.base then t else record t { images = with_image t.images key (record { commit = commit; row = row }) }

abbrev pub key_of : Before → RowKey
key_of before = record { table = before.table; id = before.id }

-- a transaction once a commit has changed all these rows
abbrev pub changed_by_all : ℕ → List Before → Opened → Opened
changed_by_all commit [] t = t
changed_by_all commit (before ∷ rest) t = changed_by_all commit rest (kept commit (key_of before) before.row t)

abbrev pub noted : ℕ → List Before → Contents → Contents
noted commit befores book = record { opened = map (changed_by_all commit befores) book.opened; last = Some commit }

abbrev pub sessions : Contents → List (List ℕ)
sessions book = map (λ t. t.session) book.opened

-- the lesser of a name and another, by their bytes, where there is another
abbrev pub lesser : List ℕ → Option (List ℕ) → List ℕ
lesser name None = name
lesser name (Some other) = if is_lt (slice_cmp nat_cmp other name) then other else name

-- the least of the names
abbrev pub least_name : List (List ℕ) → Option (List ℕ)
least_name [] = None
least_name (name ∷ names) = Some (lesser name (least_name names))
