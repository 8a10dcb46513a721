-- What a DELETE is refused for. What it says is its condition alone.
use Rattle.std.specs.Prelude.{List, Option}
use Rattle.pk_values.specs.declared.refusal.Refusal.{Refusal}
use Rattle.pk_syntax.specs.declared.edit.Delete.{Delete}
use Rattle.pk_schema.specs.Shapes.{Shape}
use Rattle.pk_bind.specs.Conditions.{cond_refusals}

-- what a DELETE is refused for, in this order
unfoldable pub delete_refusals : Shape → Delete → List (Option Refusal)
delete_refusals s d = cond_refusals s.columns d.table d.cond
