use Rattle.std.proofs.Common.{◌^◌, ◌<◌, length, sym, subst}
use Rattle.pk_syntax.specs.declared.declaration.ColumnDecl.{ColumnDecl}
use Rattle.pk_syntax.specs.Declarations.{has_name}
use Rattle.pk_schema.proofs.SetLemmas.{set_small}
use Rattle.pk_schema.proofs.sets.key_of.Goals as goal

pub returns-clause-within : goal.returns-clause-within
returns-clause-within c =
    subst (λ set. set < 2 ^ length c.args.columns.now) (sym c.named_of.ensures.columns)
    (set_small (λ (d : ColumnDecl). has_name c.as_slice.result.now d.name) c.args.columns.now)
