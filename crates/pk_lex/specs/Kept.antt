-- The bytes that stand behind the digits of a number.
use Rattle.std.specs.Prelude.{List, ℕ}
use Rattle.std.specs.Arc.{arc_slice_items}
use Rattle.pk_lex.specs.declared.digits.Kept.{Kept}
use Rattle.pk_lex.specs.declared.digits.Kept.TheVariants.{Short, Long}

unfoldable pub kept_bytes : Kept → List ℕ
kept_bytes (Short bytes) = bytes.items
kept_bytes (Long bytes) = arc_slice_items bytes
