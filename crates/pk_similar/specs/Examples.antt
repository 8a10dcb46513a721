-- Contacts with missing parts: a name, a telephone number and an address for mail.
use Rattle.std.specs.Prelude.{◌≡◌, ℕ, true, false, List, [], ◌∷◌, codes, pos}
use Rattle.pk_values.specs.declared.kind.Kind.{Kind}
use Rattle.pk_values.specs.declared.kind.Kind.TheVariants as kinds
use Rattle.pk_values.specs.declared.value.Value.{Value}
use Rattle.pk_values.specs.declared.value.Value.TheVariants.{Null, Integer, Text}
use Rattle.pk_similar.specs.Completions.{Certain, Possible}
use Rattle.pk_similar.specs.Similarity.{weak, strong, apart, not_same}
use Rattle.pk_similar.specs.Filling.{fill_values}

abbrev pub contact_kinds : List Kind
contact_kinds = kinds.Text ∷ kinds.Integer ∷ kinds.Text ∷ []

abbrev pub ann_by_phone : List Value
ann_by_phone = Text (codes "Ann") ∷ Integer (pos 5501) ∷ Null ∷ []

abbrev pub ann_by_mail : List Value
ann_by_mail = Text (codes "Ann") ∷ Null ∷ Text (codes "ann@a.org") ∷ []

abbrev pub bob : List Value
bob = Text (codes "Bob") ∷ Null ∷ Null ∷ []

abbrev pub contacts : List (List Value)
contacts = ann_by_phone ∷ ann_by_mail ∷ bob ∷ []

abbrev pub by_name : List ℕ
by_name = 0 ∷ []

abbrev pub by_name_and_phone : List ℕ
by_name_and_phone = 0 ∷ 1 ∷ []

abbrev pub by_all : List ℕ
by_all = 0 ∷ 1 ∷ 2 ∷ []

-- what the contacts' rows and keys come to
pub record ExamplesAreComputed : Type 0 where
  pub anns_are_known_to_share_the_name : strong by_name ann_by_phone ann_by_mail ≡ true
  pub anns_may_share_the_phone : weak by_name_and_phone ann_by_phone ann_by_mail ≡ true
  pub anns_are_not_known_to_share_the_phone : strong by_name_and_phone ann_by_phone ann_by_mail ≡ false
  pub ann_is_not_bob : weak by_name ann_by_phone bob ≡ false
  pub two_bobs_are_not_known_to_be_one : strong by_all bob bob ≡ false
  pub nulls_are_not_apart : apart by_all ann_by_phone bob ≡ 0 ∷ []
  pub nulls_are_not_the_same : not_same by_all ann_by_phone ann_by_mail ≡ 1 ∷ 2 ∷ []
  pub anns_fill_each_other :
      fill_values contact_kinds by_all ann_by_phone ann_by_mail ≡ Text (codes "Ann") ∷ Integer (pos 5501) ∷ Text (codes "ann@a.org") ∷ []
  pub bobs_are_filled_with_blanks : fill_values contact_kinds by_all bob bob ≡ Text (codes "Bob") ∷ Integer (pos 0) ∷ Text [] ∷ []
  pub no_possible_key_by_name : ¬ Possible contact_kinds contacts by_name
  pub possible_key_by_name_and_phone : Possible contact_kinds contacts by_name_and_phone
  pub no_certain_key_by_all : ¬ Certain contact_kinds contacts by_all
