use Rattle.pk_discover.proofs.TransversalLemmas.{keys_are_transversals}
use Rattle.pk_discover.proofs.laws.minimal_keys_are_transversals.Goals as goal

pub returns : goal.returns
returns c = keys_are_transversals (record {
  weak = c.similar_rows_meet_no_difference.ensures.weak;
  strong = c.similar_rows_meet_no_difference.ensures.strong;
  stands = c.pairs_stand_at_places.ensures.stands;
  found = c.pairs_stand_at_places.ensures.found;
  places = c.pairs_are_of_places.ensures;
  columns = c.sets_have_their_columns.ensures;
  one = c.one_list_of_transversals.ensures;
  order = c.order_tells_nothing.ensures;
}) c.minimal_keys_are_listed.ensures
