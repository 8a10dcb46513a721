use Rattle.std.proofs.Common.{◌≡◌, [], Some, None, Err, subst, sym, ap, ◌∙◌}
use Rattle.std.specs.List.Sorted.{IsStrictlySortedBy}
use Rattle.pk_values.specs.declared.broken.Break.{Break}
use Rattle.pk_guard.specs.Breaks.{first_break}
use Rattle.pk_guard.specs.Builds.{Builds}
use Rattle.pk_schema.specs.Shapes.{Shape}
use Rattle.pk_engine.proofs.KeyLemmas.{no_rows_break}
use Rattle.pk_engine.proofs.table.guard_of_none.Goals as goal

pub build-requires-clause-ascend : goal.build-requires-clause-ascend
unfolding IsStrictlySortedBy
build-requires-clause-ascend c = tt

none_told : (s : Shape) (b : Break) → first_break s [] ≡ Some b → ⊥
none_told s b told = never (sym (no_rows_break s) ∙ told)
  where
    never : None ≡ Some b → ⊥
    never e = cc

pub unreachable-requires : goal.unreachable-requires
unreachable-requires c =
    none_told c.args.schema.now c.in-Err-Broken.field-0-0
    (subst (Builds c.args.schema.now []) (c.in-Err-Broken.is ∙ ap (λ e. Err e) c.in-Err-Broken.field-0-is) c.build.ensures)
