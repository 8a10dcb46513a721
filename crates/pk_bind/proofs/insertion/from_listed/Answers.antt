use Rattle.std.proofs.Common.{◌≡◌, List, sym, ◌∙◌, subst, true}
use Rattle.std.specs.List.{list_all}
use Rattle.pk_syntax.specs.declared.declaration.ColumnDecl.{ColumnDecl}
use Rattle.pk_bind.specs.Literals.{keeps_words}
use Rattle.pk_bind.proofs.WordsLemmas.{listed_keep}
use Rattle.pk_bind.proofs.insertion.from_listed.Goals as goal

pub from_tuples-requires-clause-short : goal.from_tuples-requires-clause-short
from_tuples-requires-clause-short c =
    subst (λ (cs : List ColumnDecl). list_all keeps_words cs ≡ true) (sym (c.as_slice.ensures.value ∙ c.in_ok-listed.ensures))
    (listed_keep c.args.columns.now c.args.names.now c.requires.short)

pub returns : goal.returns
returns c = rw (sym c.in_ok-listed.ensures, sym c.as_slice.ensures.value) c.from_tuples.ensures
