use Rattle.std.proofs.Common.{◌≡◌, ℕ, ◌+◌, ◌<◌, get_or, List, [], ◌∷◌, ◌++◌, take, drop, Some, length, refl, sym, ap, ◌∙◌, arith, zero, suc, add-zero}
use Rattle.std.specs.List.{concat}
use Rattle.std.proofs.lemmas.List.{take-append-drop, length-take-le}
use Rattle.pk_lex.specs.declared.lexeme.Lexeme.{Lexeme}
use Rattle.pk_lex.specs.Lexemes.{lexeme_at, more_at, front_of, line_feeds, line_behind, lexemes_from}
use Rattle.pk_lex.proofs.LexemeLemmas.{more_fits, lines_behind}

-- the bytes of each lexeme, as `lexemes_from` passes them
abbrev pub parts_from : ℕ → List ℕ → List (List ℕ)
parts_from inside [] = []
parts_from (suc inside) (b ∷ behind) = parts_from inside behind
parts_from zero (b ∷ behind) = (b ∷ take (more_at b behind) behind) ∷ parts_from (more_at b behind) behind

pub parts_joined : (inside : ℕ) (bytes : List ℕ) → concat (parts_from inside bytes) ≡ drop inside bytes
parts_joined zero [] = refl
parts_joined (suc inside) [] = refl
parts_joined (suc inside) (b ∷ behind) = parts_joined inside behind
parts_joined zero (b ∷ behind) =
    ap (λ bs. b ∷ bs) (ap (λ bs. take (more_at b behind) behind ++ bs) (parts_joined (more_at b behind) behind) ∙ take-append-drop (more_at b behind) behind)

pub parts_count : (line inside : ℕ) (bytes : List ℕ) → length (parts_from inside bytes) ≡ length (lexemes_from line inside bytes)
parts_count line inside [] = refl
parts_count line (suc inside) (b ∷ behind) = parts_count (line_behind line b) inside behind
parts_count line zero (b ∷ behind) = ap suc (parts_count (line_behind line b) (more_at b behind) behind)

-- a lexeme takes this part, where the first byte of all stands on this line
abbrev pub TakesFrom : ℕ → List ℕ → List ℕ → List ℕ → ℕ × Lexeme → Type 0
TakesFrom line before part behind entry =
    (0 < length part) × (front_of (part ++ behind) ≡ Some (record { lexeme = entry.1; width = length part })) × (entry.0 ≡ line + line_feeds before)

takes_behind : (line b : ℕ) (before part behind : List ℕ) (entry : ℕ × Lexeme) → TakesFrom (line_behind line b) before part behind entry → TakesFrom line (b ∷ before) part behind entry
takes_behind line b before part behind entry h = (h.0, h.1, h.2 ∙ lines_behind line b before)

length_part : (b : ℕ) (behind : List ℕ) → length (b ∷ take (more_at b behind) behind) ≡ 1 + more_at b behind
length_part b behind = omega (arith, length-take-le (more_at b behind) behind (more_fits b behind))

takes_first : (line b : ℕ) (behind : List ℕ) → TakesFrom line [] (b ∷ take (more_at b behind) behind) (concat (parts_from (more_at b behind) behind)) (line, lexeme_at b behind)
takes_first line b behind =
    let m = more_at b behind in
    let whole : take m behind ++ concat (parts_from m behind) ≡ behind =
    ap (λ bs. take m behind ++ bs) (parts_joined m behind) ∙ take-append-drop m behind
    in
    (omega arith, rw (whole, length_part b behind) refl, sym (add-zero line))

pub parts_taken : (line inside : ℕ) (bytes : List ℕ) (k : ℕ) (d : ℕ × Lexeme) → k < length (parts_from inside bytes) → TakesFrom line (take inside bytes ++ concat (take k (parts_from inside bytes))) (get_or (parts_from inside bytes) k []) (concat (drop (suc k) (parts_from inside bytes))) (get_or (lexemes_from line inside bytes) k d)
parts_taken line inside [] k d h = absurd (omega arith)
parts_taken line (suc inside) (b ∷ behind) k d h =
    takes_behind line b (take inside behind ++ concat (take k (parts_from inside behind))) _ _ _ (parts_taken (line_behind line b) inside behind k d h)
parts_taken line zero (b ∷ behind) zero d h = takes_first line b behind
parts_taken line zero (b ∷ behind) (suc k) d h =
    takes_behind line b (take (more_at b behind) behind ++ concat (take k (parts_from (more_at b behind) behind))) _ _ _
    (parts_taken (line_behind line b) (more_at b behind) behind k d (omega arith))
