-- What the calls of a book do to the transaction of one session.
use Rattle.std.proofs.Common.{◌≡◌, ◌==◌, eq-eqb, ℕ, Bool, true, false, cond, not, nat_le, map, List, [], ◌∷◌, Option, Some, None, sym, refl, ap, subst, ◌∙◌}
use Rattle.std.specs.Bool.{if◌then◌else◌}
use Rattle.std.specs.List.{find, filter}
use Rattle.std.specs.Option.{option_map, option_or, IsSome, IfSome}
use Rattle.std.proofs.lemmas.Option.{none-some}
use Rattle.std.specs.Str.{bytes_eq}
use Rattle.std.proofs.lemmas.Slice.Eq.{bytes_eq-Decides}
use Rattle.std.proofs.lemmas.List.Folds.{find-append}
use Rattle.pk_txn.specs.declared.before.Before.{Before}
use Rattle.pk_txn.specs.declared.image.Image.{Image}
use Rattle.pk_txn.specs.declared.row_key.RowKey.{RowKey}
use Rattle.pk_txn.specs.Contents.{Opened, Contents, of_session, of_base, transaction_of, with_image, kept, key_of, changed_by_all, begun_at, begun, noted, finished}

or_nothing : (o : Option Opened) → option_or o None ≡ o
or_nothing None = refl
or_nothing (Some t) = refl

itself : (session : List ℕ) → bytes_eq session session ≡ true
itself session = (bytes_eq-Decides session session).1 refl

pub begun_own : (session : List ℕ) (base : ℕ) (book : Contents) → transaction_of session book ≡ None
    → transaction_of session (begun session base book) ≡ Some (begun_at session base)
begun_own session base book none =
    find-append (of_session session) book.opened (begun_at session base ∷ [])
    ∙ (ap (λ o. option_or o (find (of_session session) (begun_at session base ∷ []))) none
    ∙ ap (λ b. cond b (Some (begun_at session base)) None) (itself session))

pub begun_other : (session other : List ℕ) (base : ℕ) (book : Contents) → bytes_eq other session ≡ false
    → transaction_of other (begun session base book) ≡ transaction_of other book
begun_other session other base book apart =
    find-append (of_session other) book.opened (begun_at session base ∷ [])
    ∙ (ap (λ b. option_or (find (of_session other) book.opened) (cond b (Some (begun_at session base)) None)) apart
    ∙ or_nothing (find (of_session other) book.opened))

-- a commit leaves whose transaction it is
same_session_at : (images : List (RowKey × Image)) (t : Opened) (b : Bool) → (if b then t else record t { images = images }).session ≡ t.session
same_session_at images t true = refl
same_session_at images t false = refl

same_session : (commit : ℕ) (befores : List Before) (t : Opened) → (changed_by_all commit befores t).session ≡ t.session
same_session commit [] t = refl
same_session commit (before ∷ rest) t =
    same_session commit rest (kept commit (key_of before) before.row t)
    ∙ same_session_at (with_image t.images (key_of before) (record { commit = commit; row = before.row })) t (nat_le commit t.base)

found_of : (session : List ℕ) (f : Opened → Opened) (t : Opened) (rest others : Option Opened) (b : Bool) → rest ≡ option_map f others
    → cond b (Some (f t)) rest ≡ option_map f (cond b (Some t) others)
found_of session f t rest others true h = refl
found_of session f t rest others false h = h

found_in : (session : List ℕ) (f : Opened → Opened) (same : (t : Opened) → (f t).session ≡ t.session) (ts : List Opened)
    → find (of_session session) (map f ts) ≡ option_map f (find (of_session session) ts)
found_in session f same [] = refl
found_in session f same (t ∷ ts) =
    ap (λ (s : List ℕ). cond (bytes_eq session s) (Some (f t)) (find (of_session session) (map f ts))) (same t)
    ∙ found_of session f t _ (find (of_session session) ts) (bytes_eq session t.session) (found_in session f same ts)

pub noted_each : (session : List ℕ) (commit : ℕ) (befores : List Before) (book : Contents)
    → transaction_of session (noted commit befores book) ≡ option_map (changed_by_all commit befores) (transaction_of session book)
noted_each session commit befores book = found_in session (changed_by_all commit befores) (same_session commit befores) book.opened

-- a list without the transactions of one session
left_own : (session : List ℕ) (t : Opened) (ts : List Opened) (b : Bool) → of_session session t ≡ b → find (of_session session) ts ≡ None
    → find (of_session session) (cond (not b) (t ∷ ts) ts) ≡ None
left_own session t ts true e h = h
left_own session t ts false e h = ap (λ b. cond b (Some t) (find (of_session session) ts)) e ∙ h

none_left : (session : List ℕ) (ts : List Opened) → find (of_session session) (filter (λ t. not (of_session session t)) ts) ≡ None
none_left session [] = refl
none_left session (t ∷ ts) = left_own session t _ (of_session session t) refl (none_left session ts)

left_other : (other : List ℕ) (t : Opened) (ts us : List Opened) (a b : Bool) → (a ≡ true → b ≡ true → ⊥) → of_session other t ≡ b
    → find (of_session other) us ≡ find (of_session other) ts
    → find (of_session other) (cond (not a) (t ∷ us) us) ≡ cond b (Some t) (find (of_session other) ts)
left_other other t ts us true true apart e h = absurd (apart refl refl)
left_other other t ts us true false apart e h = h
left_other other t ts us false b apart e h = ap (λ c. cond c (Some t) (find (of_session other) us)) e ∙ ap (cond b (Some t)) h

others_left : (session other : List ℕ) (ts : List Opened) → bytes_eq other session ≡ false
    → find (of_session other) (filter (λ t. not (of_session session t)) ts) ≡ find (of_session other) ts
others_left session other [] apart = refl
others_left session other (t ∷ ts) apart =
    left_other other t ts (filter (λ t. not (of_session session t)) ts) (of_session session t) (of_session other t)
    (λ a b.
    let one : session ≡ other = (bytes_eq-Decides session t.session).0 a ∙ sym ((bytes_eq-Decides other t.session).0 b) in
    let same : bytes_eq other session ≡ true = (bytes_eq-Decides other session).1 (sym one) in
    cc)
    refl (others_left session other ts apart)

pub finished_own : (session : List ℕ) (book : Contents) → transaction_of session (finished session book) ≡ None
finished_own session book = none_left session book.opened

pub finished_other : (session other : List ℕ) (book : Contents) → bytes_eq other session ≡ false
    → transaction_of other (finished session book) ≡ transaction_of other book
finished_other session other book apart = others_left session other book.opened apart

-- the base of the session's transaction is that of an open one
here_or : (b : Bool) (t : Opened) (o : Option Opened) → IsSome o → IsSome (cond b (Some t) o)
here_or true t o h = refl
here_or false t o h = h

base_here : (session : List ℕ) (t : Opened) (ts : List Opened) (u : Opened) (b : Bool) → of_session session t ≡ b
    → find (of_session session) (t ∷ ts) ≡ Some u → (find (of_session session) ts ≡ Some u → IsSome (find (of_base u.base) ts))
    → IsSome (find (of_base u.base) (t ∷ ts))
base_here session t ts u true e is rest =
    let one : Some t ≡ Some u = sym (ap (λ b. cond b (Some t) (find (of_session session) ts)) e) ∙ is in
    let same : t ≡ u = cc in
    subst (λ (v : Opened). IsSome (find (of_base v.base) (t ∷ ts))) same
    (subst (λ (b : Bool). IsSome (cond b (Some t) (find (of_base t.base) ts))) (sym (eq-eqb t.base t.base refl)) refl)
base_here session t ts u false e is rest =
    here_or (t.base == u.base) t (find (of_base u.base) ts) (rest (sym (ap (λ b. cond b (Some t) (find (of_session session) ts)) e) ∙ is))

base_found : (session : List ℕ) (ts : List Opened) (u : Opened) → find (of_session session) ts ≡ Some u → IsSome (find (of_base u.base) ts)
base_found session [] u is = absurd (none-some u is)
base_found session (t ∷ ts) u is = base_here session t ts u (of_session session t) refl is (base_found session ts u)

base_of : (ts : List Opened) (session : List ℕ) (o : Option Opened) → find (of_session session) ts ≡ o
    → IfSome (option_map (λ t. t.base) o) (λ base. IsSome (find (of_base base) ts))
base_of ts session None is = tt
base_of ts session (Some u) is = base_found session ts u is

pub base_is_open : (session : List ℕ) (book : Contents) (base : Option ℕ) → base ≡ option_map (λ t. t.base) (transaction_of session book)
    → IfSome base (λ base. IsSome (find (of_base base) book.opened))
base_is_open session book base is =
    subst (λ (o : Option ℕ). IfSome o (λ base. IsSome (find (of_base base) book.opened))) (sym is) (base_of book.opened session _ refl)
