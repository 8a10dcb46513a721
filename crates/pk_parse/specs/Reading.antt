use Rattle.std.specs.Prelude.{◌≡◌, ℕ, List, Option, Some, None, Result, Ok, Err}
use Rattle.std.specs.Borrow.{Bor}
use Rattle.pk_lex.specs.declared.token.Token.{Token}
use Rattle.pk_parse.specs.declared.miss.Miss.{Miss}
use Rattle.pk_parse.specs.declared.miss.Miss.TheVariants.{NotStatement, Memory}
use Rattle.pk_parse.specs.Tokens.{Found}

-- nothing is read, unless memory ran out
abbrev pub Misses : {A : Type 0} → Miss → Option A → Type 0
Misses NotStatement read = read ≡ None
Misses Memory read = Unit {0}

-- what a reader returned is what is read, unless memory ran out
abbrev pub Reads : {A : Type 0} → Result A Miss → Option A → Type 0
Reads (Ok x) read = read ≡ Some x
Reads (Err miss) read = Misses miss read

-- the same with the tokens behind it
abbrev pub Finds : {A : Type 0} → Result (A × Bor (List Token)) Miss → Found A → Type 0
Finds (Ok x) read = read ≡ Some (x.0, x.1.now)
Finds (Err miss) read = Misses miss read

-- the same of bytes
abbrev pub FindsBytes : Result (Bor (List ℕ) × Bor (List Token)) Miss → Found (List ℕ) → Type 0
FindsBytes (Ok x) read = read ≡ Some (x.0.now, x.1.now)
FindsBytes (Err miss) read = Misses miss read

-- the same where no memory is taken
abbrev pub FindsIf : {A : Type 0} → Option (A × Bor (List Token)) → Found A → Type 0
FindsIf (Some x) read = read ≡ Some (x.0, x.1.now)
FindsIf None read = read ≡ None

-- the same with nothing but the tokens behind it
abbrev pub Passes : Result (Bor (List Token)) Miss → Option (List Token) → Type 0
Passes (Ok behind) read = read ≡ Some behind.now
Passes (Err miss) read = Misses miss read
