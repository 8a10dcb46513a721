use Rattle.std.proofs.Common.{sym, ap, ◌∙◌}
use Rattle.pk_index.specs.declared.family.Width.TheVariants.{Two, Three, Six, Long}
use Rattle.pk_index.specs.Shelves.{holds}
use Rattle.pk_index.specs.Packing.{two_cmp, three_cmp, six_cmp}
use Rattle.pk_index.proofs.FamilyLemmas.{has_here}
use Rattle.pk_index.proofs.family.Family.has.Goals as goal

pub returns-in-Two : goal.returns-in-Two
returns-in-Two c =
    c.has.ensures ∙ ap (λ key. holds two_cmp c.args.self.now.two key c.args.id) c.two_words.ensures
    ∙ has_here c.args.self.now c.args.bytes.now Two c.width_of.ensures.bytes (sym c.width_of.ensures.width ∙ c.in-Two.is) c.args.id

pub returns-in-Three : goal.returns-in-Three
returns-in-Three c =
    c.has-in-Three.ensures ∙ ap (λ key. holds three_cmp c.args.self.now.three key c.args.id) c.three_words.ensures
    ∙ has_here c.args.self.now c.args.bytes.now Three c.width_of.ensures.bytes (sym c.width_of.ensures.width ∙ c.in-Three.is) c.args.id

pub returns-in-Six : goal.returns-in-Six
returns-in-Six c =
    c.has-in-Six.ensures ∙ ap (λ key. holds six_cmp c.args.self.now.six key c.args.id) c.six_words.ensures
    ∙ has_here c.args.self.now c.args.bytes.now Six c.width_of.ensures.bytes (sym c.width_of.ensures.width ∙ c.in-Six.is) c.args.id

pub returns-in-Long : goal.returns-in-Long
returns-in-Long c =
    c.has-in-Long.ensures
    ∙ has_here c.args.self.now c.args.bytes.now Long c.width_of.ensures.bytes (sym c.width_of.ensures.width ∙ c.in-Long.is) c.args.id
