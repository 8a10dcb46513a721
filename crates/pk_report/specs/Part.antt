use Rattle.std.specs.Prelude.{ℕ, List}
use Rattle.std.specs.Fmt.{decimal}
use Rattle.pk_report.specs.declared.part.Part.{Part}
use Rattle.pk_report.specs.declared.part.Part.TheVariants.{Words, Named, Number, Values, Columns}
use Rattle.pk_report.specs.Text.{values_text, set_text}

-- the bytes of a part of a line
abbrev pub part_text : Part → List ℕ
part_text (Words bytes) = bytes.now
part_text (Named name) = name.now
part_text (Number n) = decimal n
part_text (Values values) = values_text values.now
part_text (Columns names set) = set_text names.now set
