use Rattle.std.specs.Prelude.{ℕ, Bool, List, [], ◌∷◌, codes}
use Rattle.std.specs.List.{list_any}
use Rattle.std.specs.Str.{bytes_eq}

-- the words that are no names: 52, the shorter ones first
unfoldable pub reserved : List (List ℕ)
reserved =
    codes "by" ∷ codes "is" ∷ codes "of" ∷ codes "or"
    ∷ codes "add" ∷ codes "and" ∷ codes "asc" ∷ codes "int" ∷ codes "key" ∷ codes "not" ∷ codes "set"
    ∷ codes "desc" ∷ codes "drop" ∷ codes "from" ∷ codes "into" ∷ codes "keys" ∷ codes "null" ∷ codes "over" ∷ codes "show" ∷ codes "text" ∷ codes "with"
    ∷ codes "alter" ∷ codes "begin" ∷ codes "count" ∷ codes "cover" ∷ codes "order" ∷ codes "table" ∷ codes "where"
    ∷ codes "bigint" ∷ codes "commit" ∷ codes "create" ∷ codes "decide" ∷ codes "delete" ∷ codes "domain" ∷ codes "insert" ∷ codes "select" ∷ codes "unique" ∷ codes "update" ∷ codes "values"
    ∷ codes "certain" ∷ codes "implies" ∷ codes "integer" ∷ codes "primary" ∷ codes "session" ∷ codes "varchar"
    ∷ codes "discover" ∷ codes "examples" ∷ codes "possible" ∷ codes "rollback"
    ∷ codes "checkpoint" ∷ codes "constraint"
    ∷ codes "serializable"
    ∷ []

-- whether a word is no name
unfoldable pub is_reserved : List ℕ → Bool
is_reserved word = list_any (λ w. bytes_eq w word) reserved
