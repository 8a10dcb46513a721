use Rattle.pk_run.proofs.laws.printed_schemas_read_back.Goals as goal

pub returns : goal.returns
returns c = λ table s named shape.
    let made = c.declarations_make_the_same.ensures table s named shape in
    record {
      read = c.printed_tables_read_back.ensures _ made.names made.plain made.ordered;
      unrefused = made.unrefused;
      same = made.same;
    }
