use Rattle.std.proofs.Common.{sym, subst, ◌∙◌}
use Rattle.pk_index.specs.Shelves.{TakesAt}
use Rattle.pk_index.specs.Packing.{two_cmp, three_cmp, six_cmp}
use Rattle.pk_index.proofs.FamilyLemmas.{takes_two, takes_three, takes_six, takes_long}
use Rattle.pk_index.proofs.family.Family.take.Goals as goal

pub returns-in-Two : goal.returns-in-Two
returns-in-Two c =
    let old = c.args.self.now in
    let here = sym c.width_of.ensures.width ∙ c.in-Two.is in
    takes_two c.args.bytes.now c.args.id c.width_of.ensures.bytes old here c.take.new.self
    (subst (λ key. TakesAt two_cmp old.two c.take.new.self key c.args.id) c.two_words.ensures c.take.ensures)

pub returns-in-Three : goal.returns-in-Three
returns-in-Three c =
    let old = c.args.self.now in
    let here = sym c.width_of.ensures.width ∙ c.in-Three.is in
    takes_three c.args.bytes.now c.args.id c.width_of.ensures.bytes old here c.take-in-Three.new.self
    (subst (λ key. TakesAt three_cmp old.three c.take-in-Three.new.self key c.args.id) c.three_words.ensures c.take-in-Three.ensures)

pub returns-in-Six : goal.returns-in-Six
returns-in-Six c =
    let old = c.args.self.now in
    let here = sym c.width_of.ensures.width ∙ c.in-Six.is in
    takes_six c.args.bytes.now c.args.id c.width_of.ensures.bytes old here c.take-in-Six.new.self
    (subst (λ key. TakesAt six_cmp old.six c.take-in-Six.new.self key c.args.id) c.six_words.ensures c.take-in-Six.ensures)

pub returns-in-Long : goal.returns-in-Long
returns-in-Long c =
    let old = c.args.self.now in
    let here = sym c.width_of.ensures.width ∙ c.in-Long.is in
    takes_long c.args.bytes.now c.args.id c.width_of.ensures.bytes old here c.take-in-Long.new.self c.take-in-Long.ensures
