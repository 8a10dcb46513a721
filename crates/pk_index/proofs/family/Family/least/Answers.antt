use Rattle.std.proofs.Common.{sym, subst, ◌∙◌}
use Rattle.pk_index.specs.declared.family.Width.TheVariants.{Two, Three, Six, Long}
use Rattle.pk_index.specs.Rows.{IsLeast}
use Rattle.pk_index.specs.Shelves.{holds}
use Rattle.pk_index.specs.Packing.{two_cmp, three_cmp, six_cmp}
use Rattle.pk_index.proofs.FamilyLemmas.{least_here}
use Rattle.pk_index.proofs.family.Family.least.Goals as goal

pub returns-in-Two-clause-least : goal.returns-in-Two-clause-least
returns-in-Two-clause-least g c =
    least_here c.args.self.now c.args.bytes.now c.args.outside.now c.least.result Two c.width_of.ensures.bytes (sym c.width_of.ensures.width ∙ c.in-Two.is)
    (subst (λ key. IsLeast (holds two_cmp c.args.self.now.two key) c.args.outside.now c.least.result) c.two_words.ensures c.least.ensures.least)

pub returns-in-Three-clause-least : goal.returns-in-Three-clause-least
returns-in-Three-clause-least g c =
    least_here c.args.self.now c.args.bytes.now c.args.outside.now c.least-in-Three.result Three c.width_of.ensures.bytes (sym c.width_of.ensures.width ∙ c.in-Three.is)
    (subst (λ key. IsLeast (holds three_cmp c.args.self.now.three key) c.args.outside.now c.least-in-Three.result) c.three_words.ensures c.least-in-Three.ensures.least)

pub returns-in-Six-clause-least : goal.returns-in-Six-clause-least
returns-in-Six-clause-least g c =
    least_here c.args.self.now c.args.bytes.now c.args.outside.now c.least-in-Six.result Six c.width_of.ensures.bytes (sym c.width_of.ensures.width ∙ c.in-Six.is)
    (subst (λ key. IsLeast (holds six_cmp c.args.self.now.six key) c.args.outside.now c.least-in-Six.result) c.six_words.ensures c.least-in-Six.ensures.least)

pub returns-in-Long-clause-least : goal.returns-in-Long-clause-least
returns-in-Long-clause-least g c =
    least_here c.args.self.now c.args.bytes.now c.args.outside.now c.least-in-Long.result Long c.width_of.ensures.bytes (sym c.width_of.ensures.width ∙ c.in-Long.is)
    c.least-in-Long.ensures.least
