-- Which refusal of a declaration is told.
use Rattle.std.proofs.Common.{refl}
use Rattle.pk_syntax.specs.declared.declaration.TableDecl.{TableDecl}
use Rattle.pk_schema.specs.Making.{no_column, declared_twice}
use Rattle.pk_schema.specs.Laws.{FirstCause}

pub first_cause : (decl : TableDecl) → FirstCause decl
unfolding no_column declared_twice
first_cause decl = record {
  no_column = λ c a. rw a refl;
  twice = λ c a b. rw (a, b) refl;
  name = λ a b n. rw (a, b, n) refl;
  columns = λ a b n m. rw (a, b, n, m) refl;
  keys = λ a b n m k. rw (a, b, n, m, k) refl;
  nullable = λ a b n m k l. rw (a, b, n, m, k, l) refl;
  none = λ a b n m k l. rw (a, b, n, m, k, l) refl;
}
