use Rattle.std.specs.Prelude.{◌≡◌, [], ◌∷◌, map, IsTrue, Ok}
use Rattle.std.specs.List.{list_all}
use Rattle.pk_values.specs.Name.{is_name}
use Rattle.pk_lex.specs.Pieces.{pieces}
use Rattle.pk_syntax.specs.declared.statement.Statement.TheVariants.{Create}
use Rattle.pk_syntax.specs.declared.declaration.TableDecl.{TableDecl}
use Rattle.pk_syntax.specs.Declarations.{names_in, is_plain, KeysInColumnOrder}
use Rattle.pk_syntax.specs.Printing.{table_text}
use Rattle.pk_parse.specs.Parsed.{parsed}

-- The canonical text of a plain declaration whose keys name their columns in column order is one piece, which says CREATE of the same declaration. Its names are names, as their type has it.
abbrev pub PrintedTablesReadBack : Type 0
PrintedTablesReadBack =
    (decl : TableDecl) → IsTrue (list_all is_name (names_in decl)) → IsTrue (is_plain decl) → KeysInColumnOrder decl →
    map parsed (pieces (table_text decl)) ≡ Ok (Create decl) ∷ []
