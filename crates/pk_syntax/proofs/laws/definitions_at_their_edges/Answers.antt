use Rattle.std.proofs.Common.{refl}
use Rattle.std.specs.Fmt.{digits}
use Rattle.pk_syntax.specs.Words.{is_reserved, reserved}
use Rattle.pk_syntax.specs.Printing.{table_text}
use Rattle.pk_syntax.proofs.laws.definitions_at_their_edges.Goals as goal

pub returns-clause-declarations : goal.returns-clause-declarations
unfolding is_reserved reserved table_text digits
returns-clause-declarations c = record {
  plain = record { without_column = refl; one_column = refl; reserved_column = refl; reserved_in_key = refl; text_of_no_byte = refl; shortest_text = refl; longest_text = refl; longer_text = refl };
  columns = record { all_there = refl; first_missing = refl; none_twice = refl; first_twice = refl; columns_first = refl; twice_in_key = refl; ordered = refl };
  limits = record { name_of_30 = refl; name_of_31 = refl; columns_32 = refl; columns_33 = refl; keys_32 = refl; keys_33 = refl; nullable_5 = refl; nullable_6 = refl; possible_6 = refl };
  texts = record { smallest = refl; lengths = refl; keys = refl };
}

pub returns-clause-words : goal.returns-clause-words
unfolding is_reserved reserved
returns-clause-words c = record { number = refl; shortest = refl; longest = refl; front = refl; longer = refl; capitals = refl; nothing = refl }
