use Rattle.std.proofs.Common.{refl, arith}
use Rattle.std.proofs.lemmas.Bool.{both_ways}
use Rattle.pk_values.specs.Values.{same_value}
use Rattle.pk_similar.specs.Similarity.{weak, strong, apart, not_same, no_pair}
use Rattle.pk_similar.specs.Filling.{fill_values}
use Rattle.pk_similar.specs.Examples.{contact_kinds, contacts, by_name, by_name_and_phone, by_all}
use Rattle.pk_similar.proofs.TableLemmas.{kept_apart, kept_apart_completes, no_strong_agree, apart_no_strong, certain_no_weak}
use Rattle.pk_similar.proofs.laws.examples_are_computed.Goals as goal

pub returns : goal.returns
unfolding same_value weak strong apart not_same fill_values
returns c = record {
  anns_are_known_to_share_the_name = refl;
  anns_may_share_the_phone = refl;
  anns_are_not_known_to_share_the_phone = refl;
  ann_is_not_bob = refl;
  two_bobs_are_not_known_to_be_one = refl;
  nulls_are_not_apart = refl;
  nulls_are_not_the_same = refl;
  anns_fill_each_other = refl;
  bobs_are_filled_with_blanks = refl;
  no_possible_key_by_name = λ possible.
      both_ways (no_pair (strong by_name) contacts) refl (apart_no_strong contact_kinds by_name contacts possible.0 possible.1 possible.2);
  possible_key_by_name_and_phone = (
    kept_apart contact_kinds 6000 contacts,
    kept_apart_completes contact_kinds 6000 contacts refl,
    no_strong_agree contact_kinds by_name_and_phone refl contacts 6000 refl (omega arith) refl,
  );
  no_certain_key_by_all = λ certain.
      both_ways (no_pair (weak by_all) contacts) refl (certain_no_weak contact_kinds by_all contacts refl certain);
}
