use Rattle.std.proofs.Common.{refl}
use Rattle.pk_schema.specs.Shapes.{set_where}
use Rattle.pk_schema.specs.Making.{no_column, declared_twice}
use Rattle.pk_schema.specs.Admits.{first_wrong, width_fault, size_fault, row_fault}
use Rattle.pk_schema.proofs.laws.definitions_at_their_edges.Goals as goal

pub returns : goal.returns
unfolding set_where no_column declared_twice first_wrong width_fault size_fault row_fault
returns c = record {
  refusals = record {
    name_of_30 = refl;
    name_of_31 = refl;
    columns_32 = refl;
    columns_33 = refl;
    keys_32 = refl;
    keys_33 = refl;
    nullable_5 = refl;
    nullable_6 = refl;
    possible_6 = refl;
    missing = refl;
    twice = refl;
    twice_in_key = refl;
    names_first = refl;
    no_column_of_a_key = refl;
  };
  sets = record { none = refl; unordered = refl; not_null = refl; all = refl };
  rows = record {
    admitted = refl;
    with_null = refl;
    short = refl;
    wide = refl;
    leftmost = refl;
    kind_first = refl;
    long_first = refl;
    missing = refl;
    largest = refl;
    larger = refl;
    size_last = refl;
  };
}
