use Rattle.pk_catalog.proofs.SchemaMaking.{schema_given, schema_error}
use Rattle.pk_catalog.proofs.making.schema_of.Goals as goal

pub returns-in-Ok : goal.returns-in-Ok
returns-in-Ok c = schema_given c.declarations_make_the_same.ensures _ _ c.in-Ok.decl c.declared.result c.in-Ok.ensures c.declared.ensures

pub returns-in-Err : goal.returns-in-Err
returns-in-Err c = schema_error _ _ _ c.in-Err.ensures
