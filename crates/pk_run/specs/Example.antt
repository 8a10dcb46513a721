use Rattle.std.specs.Prelude.{◌≡◌, ℕ, List, [], ◌∷◌, ◌++◌, codes}
use Rattle.pk_engine.specs.Base.{empty_base}
use Rattle.pk_run.specs.Told.{told}

-- lines of text, each with a line feed
abbrev pub lines : List (List ℕ) → List ℕ
lines [] = []
lines (l ∷ ls) = l ++ 10 ∷ lines ls

abbrev pub script : List ℕ
script = codes "CREATE TABLE t (a INTEGER, b INTEGER); INSERT INTO t VALUES (1, 2); SELECT * FROM t;"

-- the replies to the script
abbrev pub ExampleIsTold : Type 0
ExampleIsTold = told empty_base script ≡ lines (codes "created t" ∷ codes "inserted 1" ∷ codes "a|b" ∷ codes "1|2" ∷ codes "rows 1" ∷ [])
