use Rattle.std.proofs.Common.{◌∙◌, ap, map}
use Rattle.pk_schema.specs.Shapes.{key_of}
use Rattle.pk_schema.proofs.ShapeLemmas.{copied_shape}
use Rattle.pk_schema.proofs.schema.Schema.of.Goals as goal

pub invariant_of-result : goal.invariant_of-result
invariant_of-result c =
    copied_shape c.args.decl.now _ _ _ _ c.requires.plain c.requires.unrefused c.as_slice.ensures c.in_ok-columns.ensures.names c.in_ok-columns.ensures.copies
    c.as_slice-3.ensures (c.in_ok-keys.ensures ∙ ap (λ cs. map (key_of cs) c.as_slice-3.result.now) c.as_slice-2.ensures.value)
