use Rattle.std.proofs.Common.{◌≡◌, List, sym, subst, true}
use Rattle.std.specs.List.{list_all}
use Rattle.pk_syntax.specs.declared.declaration.ColumnDecl.{ColumnDecl}
use Rattle.pk_bind.specs.Literals.{keeps_words}
use Rattle.pk_bind.proofs.WordsLemmas.{shape_keeps}
use Rattle.pk_bind.proofs.insertion.from_targets.Goals as goal

pub from_tuples-requires-clause-short : goal.from_tuples-requires-clause-short
from_tuples-requires-clause-short c =
    subst (λ (cs : List ColumnDecl). list_all keeps_words cs ≡ true) (sym c.columns-columns.ensures.columns)
    (shape_keeps c.args.schema.now c.columns-columns.ensures.shape)

pub from_listed-requires-clause-short : goal.from_listed-requires-clause-short
from_listed-requires-clause-short c =
    subst (λ (cs : List ColumnDecl). list_all keeps_words cs ≡ true) (sym c.columns-columns.ensures.columns)
    (shape_keeps c.args.schema.now c.columns-columns.ensures.shape)

pub returns-in-Some : goal.returns-in-Some
returns-in-Some c = rw (c.in-Some.is, sym c.columns-columns.ensures.columns, sym c.as_slice.ensures, sym c.as_slice-rows.ensures) c.from_listed.ensures
