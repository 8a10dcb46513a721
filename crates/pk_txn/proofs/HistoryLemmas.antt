-- What the images of a transaction are after commits.
use Rattle.std.proofs.Common.{◌≡◌, ℕ, Bool, true, false, cond, nat_le, List, [], ◌∷◌, Option, Some, None, Ordering, sym, refl, ap, ◌∙◌}
use Rattle.std.specs.Bool.{if◌then◌else◌}
use Rattle.std.specs.Option.{option_map}
use Rattle.std.specs.BTreeMap.{is_at, insert_entry}
use Rattle.std.specs.Ordering.{match_ordering}
use Rattle.std.specs.declared.cmp.Ordering.TheVariants.{Less, Equal, Greater}
use Rattle.std.proofs.lemmas.Bool.{lt-leb}
use Rattle.std.proofs.lemmas.Cmp.{tied_itself}
use Rattle.pk_values.specs.declared.value.Value.{Value}
use Rattle.pk_txn.specs.declared.before.Before.{Before}
use Rattle.pk_txn.specs.declared.image.Image.{Image}
use Rattle.pk_txn.specs.declared.row_key.RowKey.{RowKey}
use Rattle.pk_txn.specs.Images.{key_cmp, image_of}
use Rattle.pk_txn.specs.Contents.{Opened, put_unless, with_image, kept, key_of, changed_by_all, begun_at}
use Rattle.pk_txn.specs.History.{Note, Rows, before_at, change_at, image_or, first_change, after_notes, AreAfter, IsToldAt, AreTold, as_begun}
use Rattle.pk_txn.proofs.KeyOrder.{key_exact, key_total, at_key}

or_none : (o : Option Image) → o ≡ image_or o None
or_none None = refl
or_none (Some image) = refl

or_or : (o p q : Option Image) → image_or (image_or o p) q ≡ image_or o (image_or p q)
or_or None p q = refl
or_or (Some image) p q = refl

same_choice : (b : Bool) (x y z : Option Image) → cond b x z ≡ cond b x (cond b y z)
same_choice true x y z = refl
same_choice false x y z = refl

two_choices : (a b : Bool) (x y z : Option Image) → (a ≡ true → b ≡ true → ⊥) → cond b y (cond a x z) ≡ cond a x (cond b y z)
two_choices true true x y z apart = absurd (apart refl refl)
two_choices true false x y z apart = refl
two_choices false true x y z apart = refl
two_choices false false x y z apart = refl

-- what the images have at each row once one is put
inserted_before : (e : RowKey × Image) (es : List (RowKey × Image)) (k : RowKey) (v : Image) (q : RowKey) (r : Ordering) → key_cmp k e.0 ≡ r
    → image_of (insert_entry key_cmp es k v) q ≡ cond (is_at (key_cmp q) k) (Some v) (image_of es q)
    → image_of (match_ordering r ((k, v) ∷ e ∷ es) ((e.0, v) ∷ es) (e ∷ insert_entry key_cmp es k v)) q
    ≡ cond (is_at (key_cmp q) k) (Some v) (cond (is_at (key_cmp q) e.0) (Some e.1) (image_of es q))
inserted_before e es k v q Less h rest = refl
inserted_before e es k v q Equal h rest =
    same_choice (is_at (key_cmp q) e.0) (Some v) (Some e.1) (image_of es q)
    ∙ ap (λ (z : RowKey). cond (is_at (key_cmp q) z) (Some v) (cond (is_at (key_cmp q) e.0) (Some e.1) (image_of es q))) (sym (key_exact k e.0 h))
inserted_before e es k v q Greater h rest =
    ap (cond (is_at (key_cmp q) e.0) (Some e.1)) rest
    ∙ two_choices (is_at (key_cmp q) k) (is_at (key_cmp q) e.0) (Some v) (Some e.1) (image_of es q) (λ a b.
    let one : k ≡ e.0 = sym (at_key q k a) ∙ at_key q e.0 b in
    let tied : key_cmp k k ≡ Greater = ap (key_cmp k) one ∙ h in
    let same : key_cmp k k ≡ Equal = tied_itself key_total k in
    cc)

inserted : (es : List (RowKey × Image)) (k : RowKey) (v : Image) (q : RowKey)
    → image_of (insert_entry key_cmp es k v) q ≡ cond (is_at (key_cmp q) k) (Some v) (image_of es q)
inserted [] k v q = refl
inserted (e ∷ es) k v q = inserted_before e es k v q (key_cmp k e.0) refl (inserted es k v q)

-- an image at a row stays, and one that is put comes where there is none
put_at : (images : List (RowKey × Image)) (k q : RowKey) (v : Image) (o : Option Image) → image_of images k ≡ o
    → (b : Bool) → is_at (key_cmp q) k ≡ b → image_of (put_unless o images k v) q ≡ image_or (image_of images q) (cond b (Some v) None)
put_at images k q v None h true at =
    let absent : image_of images q ≡ None = ap (image_of images) (at_key q k at) ∙ h in
    inserted images k v q ∙ (ap (λ b. cond b (Some v) (image_of images q)) at ∙ sym (ap (λ o. image_or o (Some v)) absent))
put_at images k q v None h false at =
    inserted images k v q ∙ (ap (λ b. cond b (Some v) (image_of images q)) at ∙ or_none (image_of images q))
put_at images k q v (Some w) h true at =
    let there : image_of images q ≡ Some w = ap (image_of images) (at_key q k at) ∙ h in
    there ∙ sym (ap (λ o. image_or o (Some v)) there)
put_at images k q v (Some w) h false at = or_none (image_of images q)

-- what one change adds at a row
abbrev added : Bool → ℕ → RowKey → Option (List Value) → RowKey → Option Image
added early commit k row q = if early then None else cond (is_at (key_cmp q) k) (Some (record { commit = commit; row = row })) None

kept_at : (commit : ℕ) (k q : RowKey) (row : Option (List Value)) (t : Opened) (b : Bool)
    → image_of (if b then t else record t { images = with_image t.images k (record { commit = commit; row = row }) }).images q
    ≡ image_or (image_of t.images q) (added b commit k row q)
kept_at commit k q row t true = or_none (image_of t.images q)
kept_at commit k q row t false = put_at t.images k q (record { commit = commit; row = row }) (image_of t.images k) refl (is_at (key_cmp q) k) refl

kept_base_at : (images : List (RowKey × Image)) (t : Opened) (b : Bool) → (if b then t else record t { images = images }).base ≡ t.base
kept_base_at images t true = refl
kept_base_at images t false = refl

kept_base : (commit : ℕ) (k : RowKey) (row : Option (List Value)) (t : Opened) → (kept commit k row t).base ≡ t.base
kept_base commit k row t = kept_base_at (with_image t.images k (record { commit = commit; row = row })) t (nat_le commit t.base)

-- what a commit changed at a row, by its first change and the others
abbrev change_in : Bool → ℕ → List Before → RowKey → Option Image
change_in early commit befores q = if early then None else option_map (λ row. record { commit = commit; row = row }) (before_at befores q)

first_of : (commit : ℕ) (before : Before) (rest : List Before) (q : RowKey) (early at : Bool) → is_at (key_cmp q) (key_of before) ≡ at
    → image_or (added early commit (key_of before) before.row q) (change_in early commit rest q) ≡ change_in early commit (before ∷ rest) q
first_of commit before rest q true at e = refl
first_of commit before rest q false true e = rw (e, before_at) refl
first_of commit before rest q false false e = rw (e, before_at) refl

no_change : (images : List (RowKey × Image)) (commit : ℕ) (q : RowKey) (early : Bool) → image_of images q ≡ image_or (image_of images q) (change_in early commit [] q)
no_change images commit q true = or_none (image_of images q)
no_change images commit q false = or_none (image_of images q)

pub changed_at : (commit : ℕ) (befores : List Before) (t : Opened) (q : RowKey)
    → image_of (changed_by_all commit befores t).images q ≡ image_or (image_of t.images q) (change_in (nat_le commit t.base) commit befores q)
changed_at commit [] t q = no_change t.images commit q (nat_le commit t.base)
changed_at commit (before ∷ rest) t q =
    let next = kept commit (key_of before) before.row t in
    changed_at commit rest next q
    ∙ (ap (λ n. image_or (image_of next.images q) (change_in (nat_le commit n) commit rest q)) (kept_base commit (key_of before) before.row t)
    ∙ (ap (λ o. image_or o (change_in (nat_le commit t.base) commit rest q)) (kept_at commit (key_of before) q before.row t (nat_le commit t.base))
    ∙ (or_or (image_of t.images q) (added (nat_le commit t.base) commit (key_of before) before.row q) (change_in (nat_le commit t.base) commit rest q)
    ∙ ap (image_or (image_of t.images q)) (first_of commit before rest q (nat_le commit t.base) (is_at (key_cmp q) (key_of before)) refl))))

changed_base : (commit : ℕ) (befores : List Before) (t : Opened) → (changed_by_all commit befores t).base ≡ t.base
changed_base commit [] t = refl
changed_base commit (before ∷ rest) t = changed_base commit rest (kept commit (key_of before) before.row t) ∙ kept_base commit (key_of before) before.row t

after_at : (notes : List Note) (t : Opened) (q : RowKey) → image_of (after_notes notes t).images q ≡ image_or (image_of t.images q) (first_change t.base notes q)
after_at [] t q = or_none (image_of t.images q)
after_at (note ∷ notes) t q =
    let next = changed_by_all note.commit note.befores t in
    after_at notes next q
    ∙ (ap (λ n. image_or (image_of next.images q) (first_change n notes q)) (changed_base note.commit note.befores t)
    ∙ (ap (λ o. image_or o (first_change t.base notes q)) (changed_at note.commit note.befores t q)
    ∙ or_or (image_of t.images q) (change_at t.base note q) (first_change t.base notes q)))

pub first_changes : (session : List ℕ) (base : ℕ) (notes : List Note) (q : RowKey)
    → image_of (after_notes notes (begun_at session base)).images q ≡ first_change base notes q
first_changes session base notes q = after_at notes (begun_at session base) q

-- a row before a commit, by how it was between that commit and the next
stood : (commit : ℕ) (o : Option (Option (List Value))) (rest : Option Image) (old between now : Option (List Value)) → IsToldAt o old between → as_begun rest now ≡ between
    → as_begun (image_or (option_map (λ row. record { commit = commit; row = row }) o) rest) now ≡ old
stood commit None rest old between now h e = e ∙ h
stood commit (Some before) rest old between now h e = sym h

stood_first : (base : ℕ) (notes : List Note) (old now : Rows) → AreAfter base notes → AreTold notes old now → (q : RowKey)
    → as_begun (first_change base notes q) (now q) ≡ old q
stood_first base [] old now late told q = told q
stood_first base (note ∷ notes) old now late told q =
    let between = told.0 in
    ap (λ b. as_begun (image_or (change_in b note.commit note.befores q) (first_change base notes q)) (now q)) (lt-leb note.commit base late.0)
    ∙ stood note.commit (before_at note.befores q) (first_change base notes q) (old q) (between q) (now q) (told.1.0 q) (stood_first base notes between now late.1 told.1.1 q)

pub rows_stand : (session : List ℕ) (base : ℕ) (notes : List Note) (old now : Rows) → AreAfter base notes → AreTold notes old now → (q : RowKey)
    → as_begun (image_of (after_notes notes (begun_at session base)).images q) (now q) ≡ old q
rows_stand session base notes old now late told q =
    ap (λ o. as_begun o (now q)) (first_changes session base notes q) ∙ stood_first base notes old now late told q
