-- The records of tables are read both ways.
use Rattle.std.proofs.Common.{◌≡◌, refl, sym, ◌∙◌, ap, subst, ℕ, zero, suc, ◌^◌, ◌<◌, Bool, true, false, List, [], ◌∷◌, ◌++◌, Some, append_assoc}
use Rattle.std.specs.Int.{w32, w64, to_be_bytes}
use Rattle.std.proofs.lemmas.List.{append-nil}
use Rattle.std.proofs.lemmas.Option.{same_Some}
use Rattle.pk_values.specs.declared.key.KeyDecl.{KeyDecl}
use Rattle.pk_values.specs.declared.key.Sort.{Sort}
use Rattle.pk_values.specs.declared.key.Sort.TheVariants.{Certain, Possible}
use Rattle.pk_values.specs.declared.kind.Kind.{Kind}
use Rattle.pk_values.specs.declared.kind.Kind.TheVariants.{Integer, Text}
use Rattle.pk_values.specs.Name.{is_name}
use Rattle.pk_syntax.specs.declared.declaration.ColumnDecl.{ColumnDecl}
use Rattle.pk_catalog.specs.declared.table_parts.TableParts.{TableParts}
use Rattle.pk_catalog.specs.Records.{name_record, kind_byte, sort_byte, flag_byte, column_record, key_record, list_record}
use Rattle.pk_catalog.specs.Reading.{◌>>=◌, byte_at, number_at, name_at, list_at, kind_of, sort_of, flag_of, kind_at, sort_at, flag_at, version_at, column_at, key_at, parts_at, table_at}
use Rattle.pk_catalog.proofs.PartReading.{IsBytes, step_found, Takes, Exact, joined, Marks, Any, mark_exact, byte_exact, wide_32, wide_64, number_exact, passing_exact, IsPassing, AreFew, list_exact, end_found}

-- ---- marks

kinds : Marks kind_of kind_byte
kinds = record { read = read; spelled = spelled }
  where
    read : (k : Kind) → kind_of (kind_byte k) ≡ Some k
    read Integer = refl
    read Text = refl

    spelled : (b : ℕ) (k : Kind) → kind_of b ≡ Some k → b ≡ kind_byte k
    spelled zero k found = absurd cc
    spelled (suc zero) k found = ap kind_byte (same_Some Integer k found)
    spelled (suc (suc zero)) k found = ap kind_byte (same_Some Text k found)
    spelled (suc (suc (suc b))) k found = absurd cc

sorts : Marks sort_of sort_byte
sorts = record { read = read; spelled = spelled }
  where
    read : (s : Sort) → sort_of (sort_byte s) ≡ Some s
    read Certain = refl
    read Possible = refl

    spelled : (b : ℕ) (s : Sort) → sort_of b ≡ Some s → b ≡ sort_byte s
    spelled zero s found = absurd cc
    spelled (suc zero) s found = ap sort_byte (same_Some Certain s found)
    spelled (suc (suc zero)) s found = ap sort_byte (same_Some Possible s found)
    spelled (suc (suc (suc b))) s found = absurd cc

flags : Marks flag_of flag_byte
flags = record { read = read; spelled = spelled }
  where
    read : (f : Bool) → flag_of (flag_byte f) ≡ Some f
    read false = refl
    read true = refl

    spelled : (b : ℕ) (f : Bool) → flag_of b ≡ Some f → b ≡ flag_byte f
    spelled zero f found = ap flag_byte (same_Some false f found)
    spelled (suc zero) f found = ap flag_byte (same_Some true f found)
    spelled (suc (suc b)) f found = absurd cc

kind_exact : Exact kind_at (λ k. kind_byte k ∷ []) Any
unfolding kind_at
kind_exact = mark_exact kind_of kind_byte kinds

sort_exact : Exact sort_at (λ s. sort_byte s ∷ []) Any
unfolding sort_at
sort_exact = mark_exact sort_of sort_byte sorts

flag_exact : Exact flag_at (λ f. flag_byte f ∷ []) Any
unfolding flag_at
flag_exact = mark_exact flag_of flag_byte flags

name_exact : Exact name_at name_record (IsPassing is_name)
unfolding name_at
name_exact = passing_exact is_name

-- ---- columns

pub record IsColumn (c : ColumnDecl) : Type 0 where
  pub name : IsPassing is_name c.name
  pub max : c.max < 256

column_exact : Exact column_at column_record IsColumn
unfolding column_at
column_exact = record { takes = takes; again = again }
  where
    takes : (bytes : List ℕ) (x : ColumnDecl × List ℕ) → IsBytes bytes → column_at bytes ≡ Some x → Takes column_record IsColumn bytes x
    takes bytes x fits found =
        let made : List ℕ → Kind → ℕ → Bool → ColumnDecl = λ name kind max flag. record { name = name; kind = kind; max = max; not_null = flag } in
        let n = step_found (name_at bytes) (λ name. kind_at name.1 >>= λ kind. byte_at kind.1 >>= λ max. flag_at max.1 >>= λ flag. Some (made name.0 kind.0 max.0 flag.0, flag.1)) x found in
        let k = step_found (kind_at n.0.1) (λ kind. byte_at kind.1 >>= λ max. flag_at max.1 >>= λ flag. Some (made n.0.0 kind.0 max.0 flag.0, flag.1)) x n.2 in
        let m = step_found (byte_at k.0.1) (λ max. flag_at max.1 >>= λ flag. Some (made n.0.0 k.0.0 max.0 flag.0, flag.1)) x k.2 in
        let f = step_found (flag_at m.0.1) (λ flag. Some (made n.0.0 k.0.0 m.0.0 flag.0, flag.1)) x m.2 in
        let name = name_exact.takes bytes n.0 fits n.1 in
        let kind = kind_exact.takes n.0.1 k.0 name.rest k.1 in
        let max = byte_exact.takes k.0.1 m.0 kind.rest m.1 in
        let flag = flag_exact.takes m.0.1 f.0 max.rest f.1 in
        let behind : n.0.1 ≡ kind_byte k.0.0 ∷ m.0.0 ∷ flag_byte f.0.0 ∷ f.0.1 = kind.parts ∙ ap (λ rest. kind_byte k.0.0 ∷ rest) (max.parts ∙ ap (λ rest. m.0.0 ∷ rest) flag.parts) in
        subst (λ y. Takes column_record IsColumn bytes y) (same_Some (made n.0.0 k.0.0 m.0.0 f.0.0, f.0.1) x f.2)
        (record {
          parts = joined bytes (name_record n.0.0) n.0.1 (kind_byte k.0.0 ∷ m.0.0 ∷ flag_byte f.0.0 ∷ []) f.0.1 name.parts behind;
          rest = flag.rest;
          it = record { name = name.it; max = max.it };
        })

    again : (c : ColumnDecl) (rest : List ℕ) → IsColumn c → column_at (column_record c ++ rest) ≡ Some (c, rest)
    again c rest is =
        let behind = kind_byte c.kind ∷ c.max ∷ flag_byte c.not_null ∷ rest in
        let regrouped : column_record c ++ rest ≡ name_record c.name ++ behind = append_assoc (name_record c.name) (kind_byte c.kind ∷ c.max ∷ flag_byte c.not_null ∷ []) rest in
        ap column_at regrouped
        ∙ rw (name_exact.again c.name behind is.name, kind_exact.again c.kind (c.max ∷ flag_byte c.not_null ∷ rest) tt, flag_exact.again c.not_null rest tt) refl

-- ---- keys

abbrev pub IsKey : KeyDecl → Type 0
IsKey k = k.columns < 2 ^ 32

key_exact : Exact key_at key_record IsKey
unfolding key_at
key_exact = record { takes = takes; again = again }
  where
    number : Exact (number_at w32) (to_be_bytes w32) (λ n. n < 2 ^ 32)
    number = number_exact w32 (2 ^ 32) wide_32

    takes : (bytes : List ℕ) (x : KeyDecl × List ℕ) → IsBytes bytes → key_at bytes ≡ Some x → Takes key_record IsKey bytes x
    takes bytes x fits found =
        let made : Sort → ℕ → KeyDecl = λ sort set. record { sort = sort; columns = set } in
        let s = step_found (sort_at bytes) (λ sort. number_at w32 sort.1 >>= λ set. Some (made sort.0 set.0, set.1)) x found in
        let n = step_found (number_at w32 s.0.1) (λ set. Some (made s.0.0 set.0, set.1)) x s.2 in
        let sort = sort_exact.takes bytes s.0 fits s.1 in
        let set = number.takes s.0.1 n.0 sort.rest n.1 in
        subst (λ y. Takes key_record IsKey bytes y) (same_Some (made s.0.0 n.0.0, n.0.1) x n.2)
        (record { parts = sort.parts ∙ ap (λ rest. sort_byte s.0.0 ∷ rest) set.parts; rest = set.rest; it = set.it })

    again : (k : KeyDecl) (rest : List ℕ) → IsKey k → key_at (key_record k ++ rest) ≡ Some (k, rest)
    again k rest is = rw (sort_exact.again k.sort (to_be_bytes w32 k.columns ++ rest) tt, number.again k.columns rest is) refl

-- ---- tables

-- the record of a table by its parts
abbrev pub parts_record : TableParts → List ℕ
parts_record p = 1 ∷ (to_be_bytes w64 p.next ++ (name_record p.name ++ (list_record column_record p.columns ++ list_record key_record p.keys)))

pub record AreParts (p : TableParts) : Type 0 where
  pub next : p.next < 2 ^ 64
  pub name : IsPassing is_name p.name
  pub columns : AreFew IsColumn p.columns
  pub keys : AreFew IsKey p.keys

next_exact : Exact (number_at w64) (to_be_bytes w64) (λ n. n < 2 ^ 64)
next_exact = number_exact w64 (2 ^ 64) wide_64

columns_exact : Exact (list_at column_at) (list_record column_record) (AreFew IsColumn)
columns_exact = list_exact column_at column_record IsColumn column_exact

keys_exact : Exact (list_at key_at) (list_record key_record) (AreFew IsKey)
keys_exact = list_exact key_at key_record IsKey key_exact

version_takes : (bytes : List ℕ) (x : ℕ × List ℕ) → version_at bytes ≡ Some x → bytes ≡ 1 ∷ x.1
unfolding version_at
version_takes [] x found = absurd cc
version_takes (zero ∷ bytes) x found = absurd cc
version_takes (suc zero ∷ bytes) x found = ap (λ y. 1 ∷ y.1) (same_Some (1, bytes) x found)
version_takes (suc (suc b) ∷ bytes) x found = absurd cc

bytes_after : (b : ℕ) (bytes rest : List ℕ) → bytes ≡ b ∷ rest → IsBytes bytes → IsBytes rest
bytes_after b bytes rest is fits i = subst IsBytes is fits (suc i)

pub parts_take : (bytes : List ℕ) (x : TableParts × List ℕ) → IsBytes bytes → parts_at bytes ≡ Some x → Takes parts_record AreParts bytes x
unfolding parts_at
parts_take bytes x fits found =
    let made : List ℕ → List ColumnDecl → List KeyDecl → ℕ → TableParts = λ name columns keys next. record { name = name; columns = columns; keys = keys; next = next } in
    let v = step_found (version_at bytes) (λ version. number_at w64 version.1 >>= λ next. name_at next.1 >>= λ name. list_at column_at name.1 >>= λ columns. list_at key_at columns.1 >>= λ keys. Some (made name.0 columns.0 keys.0 next.0, keys.1)) x found in
    let n = step_found (number_at w64 v.0.1) (λ next. name_at next.1 >>= λ name. list_at column_at name.1 >>= λ columns. list_at key_at columns.1 >>= λ keys. Some (made name.0 columns.0 keys.0 next.0, keys.1)) x v.2 in
    let t = step_found (name_at n.0.1) (λ name. list_at column_at name.1 >>= λ columns. list_at key_at columns.1 >>= λ keys. Some (made name.0 columns.0 keys.0 n.0.0, keys.1)) x n.2 in
    let c = step_found (list_at column_at t.0.1) (λ columns. list_at key_at columns.1 >>= λ keys. Some (made t.0.0 columns.0 keys.0 n.0.0, keys.1)) x t.2 in
    let k = step_found (list_at key_at c.0.1) (λ keys. Some (made t.0.0 c.0.0 keys.0 n.0.0, keys.1)) x c.2 in
    let version = version_takes bytes v.0 v.1 in
    let next = next_exact.takes v.0.1 n.0 (bytes_after 1 bytes v.0.1 version fits) n.1 in
    let name = name_exact.takes n.0.1 t.0 next.rest t.1 in
    let columns = columns_exact.takes t.0.1 c.0 name.rest c.1 in
    let keys = keys_exact.takes c.0.1 k.0 columns.rest k.1 in
    let lists = list_record column_record c.0.0 ++ list_record key_record k.0.0 in
    let behind_name : t.0.1 ≡ lists ++ k.0.1 = joined t.0.1 (list_record column_record c.0.0) c.0.1 (list_record key_record k.0.0) k.0.1 columns.parts keys.parts in
    let behind_next : n.0.1 ≡ (name_record t.0.0 ++ lists) ++ k.0.1 = joined n.0.1 (name_record t.0.0) t.0.1 lists k.0.1 name.parts behind_name in
    let behind : v.0.1 ≡ (to_be_bytes w64 n.0.0 ++ (name_record t.0.0 ++ lists)) ++ k.0.1 = joined v.0.1 (to_be_bytes w64 n.0.0) n.0.1 (name_record t.0.0 ++ lists) k.0.1 next.parts behind_next in
    subst (λ y. Takes parts_record AreParts bytes y) (same_Some (made t.0.0 c.0.0 k.0.0 n.0.0, k.0.1) x k.2)
    (record {
      parts = version ∙ ap (λ rest. 1 ∷ rest) behind;
      rest = keys.rest;
      it = record { next = next.it; name = name.it; columns = columns.it; keys = keys.it };
    })

parts_again : (p : TableParts) → AreParts p → parts_at (parts_record p) ≡ Some (p, [])
unfolding parts_at version_at
parts_again p are =
    let columns = list_record column_record p.columns in
    let keys = list_record key_record p.keys in
    let last : list_at key_at keys ≡ Some (p.keys, []) = ap (list_at key_at) (sym (append-nil keys)) ∙ keys_exact.again p.keys [] are.keys in
    rw (next_exact.again p.next (name_record p.name ++ (columns ++ keys)) are.next, name_exact.again p.name (columns ++ keys) are.name, columns_exact.again p.columns keys are.columns, last) refl

-- what is read is the record of these parts, and the record of parts is read
pub table_takes : (bytes : List ℕ) (p : TableParts) → IsBytes bytes → table_at bytes ≡ Some p → (bytes ≡ parts_record p) × AreParts p
unfolding table_at
table_takes bytes p fits found =
    let taken = parts_take bytes (p, []) fits (end_found (parts_at bytes) p found) in
    (taken.parts ∙ append-nil (parts_record p), taken.it)

pub table_again : (p : TableParts) → AreParts p → table_at (parts_record p) ≡ Some p
unfolding table_at
table_again p are = rw (parts_again p are) refl
