-- Sheets at their edges, computed.
use Rattle.std.proofs.Common.{refl, [], ◌∷◌, arith}
use Rattle.std.specs.List.Sorted.{IsStrictlySortedBy}
use Rattle.std.proofs.lemmas.List.Elements.{All-from_recursion}
use Rattle.pk_rows.specs.declared.stored.Stored.{Stored}
use Rattle.pk_sheet.specs.Edges.{wide, three, SheetsAtTheirEdges}
use Rattle.pk_sheet.specs.Sheets.{IsPlace, IsSheet}

wide_is : IsSheet (wide ∷ [])
unfolding IsStrictlySortedBy
wide_is = record {
  ascend = (tt, tt);
  places = All-from_recursion (λ (s : Stored). IsPlace s.place) (wide ∷ []) (record { table = omega arith; id = omega arith }, tt);
  fits = omega arith;
}

three_is : IsSheet three
unfolding IsStrictlySortedBy
three_is = record {
  ascend = ((refl, (refl, tt)), ((refl, tt), (tt, tt)));
  places =
      All-from_recursion (λ (s : Stored). IsPlace s.place) three
      (record { table = omega arith; id = omega arith }, (record { table = omega arith; id = omega arith }, (record { table = omega arith; id = omega arith }, tt)));
  fits = omega arith;
}

pub at_their_edges : SheetsAtTheirEdges
at_their_edges = record {
  empty_page = refl;
  empty_room = refl;
  blank_page = refl;
  blank_room = refl;
  small_page = refl;
  small_room = refl;
  last_page = refl;
  wide_page = refl;
  wide_room = refl;
  wide_sheet = wide_is;
  three_sheet = three_is;
  in_front = refl;
  between = refl;
  at_the_end = refl;
  taken_out = refl;
  was_there = refl;
  never_there = refl;
}
