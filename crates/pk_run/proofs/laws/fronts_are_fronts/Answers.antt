use Rattle.std.proofs.Common.{◌≡◌, ◌≢◌, ℕ, List, [], ◌∷◌, ◌++◌, refl, sym, ◌∙◌, ap, append_assoc}
use Rattle.std.proofs.lemmas.List.{append-nil, append_cancel_left}
use Rattle.pk_run.proofs.laws.fronts_are_fronts.Goals as goal

heads : (wrong right : ℕ) (xs ys : List ℕ) → right ∷ xs ≡ wrong ∷ ys → wrong ≡ right
heads wrong right xs ys e = cc

wrong_byte : (old front behind taken rest : List ℕ) (wrong right : ℕ) → wrong ≢ right
    → old ++ front ++ wrong ∷ [] ≡ old ++ taken → front ++ right ∷ behind ≡ taken ++ rest → ⊥
wrong_byte old front behind taken rest wrong right differ told whole =
    let all : taken ≡ front ++ wrong ∷ [] = sym (append_cancel_left old _ _ (sym (append_assoc old front (wrong ∷ [])) ∙ told)) in
    let split : front ++ right ∷ behind ≡ front ++ wrong ∷ rest = whole ∙ ap (λ (xs : List ℕ). xs ++ rest) all ∙ append_assoc front (wrong ∷ []) rest in
    differ (heads wrong right behind rest (append_cancel_left front _ _ split))

pub returns : goal.returns
returns c = record {
  nothing = λ old whole. ([], whole, sym (append-nil old), refl);
  all = λ old whole. (whole, [], refl, sym (append-nil whole));
  wrong = λ old front behind wrong right differ t. wrong_byte old front behind t.0 t.1 wrong right differ t.2 t.3;
}
