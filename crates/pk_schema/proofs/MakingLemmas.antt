-- How code finds what a declaration is refused for.
use Rattle.std.proofs.Common.{◌≡◌, sym, ◌∙◌, ap, ℕ, suc, ◌+◌, ◌<◌, Bool, List, ◌∷◌, Some, None, length, drop, get_or, arith}
use Rattle.std.specs.List.{find, flat_map}
use Rattle.std.specs.Option.{option_or}
use Rattle.std.proofs.lemmas.List.Folds.{find-append}
use Rattle.std.proofs.Math.Seq.{drop-cons}
use Rattle.pk_syntax.specs.declared.declaration.KeyText.{KeyText}

-- the names in keys, from this key on
names_from : (p : List ℕ → Bool) (keys : List KeyText) (i : ℕ) (key : KeyText) → i < length keys → key ≡ get_or keys i key
    → find p (flat_map (λ (k : KeyText). k.columns) (drop i keys)) ≡ option_or (find p key.columns) (find p (flat_map (λ (k : KeyText). k.columns) (drop (i + 1) keys)))
names_from p keys i key within is =
    let next : suc i ≡ i + 1 = omega arith in
    let split : drop i keys ≡ key ∷ drop (i + 1) keys = drop-cons keys i key within ∙ ap (λ k. k ∷ drop (suc i) keys) (sym is) ∙ ap (λ n. key ∷ drop n keys) next in
    rw split (find-append p key.columns (flat_map (λ (k : KeyText). k.columns) (drop (i + 1) keys)))

pub found_in_key : (p : List ℕ → Bool) (keys : List KeyText) (i : ℕ) (key : KeyText) (names : List (List ℕ)) (name : List ℕ) → i < length keys → key ≡ get_or keys i key
    → names ≡ key.columns → Some name ≡ find p names → find p (flat_map (λ (k : KeyText). k.columns) (drop i keys)) ≡ find p (flat_map (λ (k : KeyText). k.columns) keys)
    → Some name ≡ find p (flat_map (λ (k : KeyText). k.columns) keys)
found_in_key p keys i key names name within is read found decides =
    let here : find p key.columns ≡ Some name = sym (found ∙ ap (find p) read) in
    sym (ap (λ o. option_or o (find p (flat_map (λ (k : KeyText). k.columns) (drop (i + 1) keys)))) here) ∙ sym (names_from p keys i key within is) ∙ decides

pub none_in_key : (p : List ℕ → Bool) (keys : List KeyText) (i : ℕ) (key : KeyText) (names : List (List ℕ)) → i < length keys → key ≡ get_or keys i key
    → names ≡ key.columns → find p names ≡ None → find p (flat_map (λ (k : KeyText). k.columns) (drop i keys)) ≡ find p (flat_map (λ (k : KeyText). k.columns) keys)
    → find p (flat_map (λ (k : KeyText). k.columns) (drop (i + 1) keys)) ≡ find p (flat_map (λ (k : KeyText). k.columns) keys)
none_in_key p keys i key names within is read none decides =
    let here : find p key.columns ≡ None = ap (find p) (sym read) ∙ none in
    sym (names_from p keys i key within is ∙ ap (λ o. option_or o (find p (flat_map (λ (k : KeyText). k.columns) (drop (i + 1) keys)))) here) ∙ decides
