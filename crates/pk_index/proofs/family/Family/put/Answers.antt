use Rattle.std.proofs.Common.{sym, subst, ◌∙◌}
use Rattle.pk_index.specs.Shelves.{PutsAt}
use Rattle.pk_index.specs.Packing.{two_cmp, three_cmp, six_cmp}
use Rattle.pk_index.proofs.EachLemmas.{at_ok}
use Rattle.pk_index.proofs.FamilyLemmas.{puts_two, puts_three, puts_six, puts_long}
use Rattle.pk_index.proofs.family.Family.put.Goals as goal

pub returns-in-Two : goal.returns-in-Two
returns-in-Two c =
    let old = c.args.self.now in
    let here = sym c.width_of.ensures.width ∙ c.in-Two.is in
    at_ok c.put.result _ _
    (λ puts. puts_two c.args.bytes.now c.args.id c.width_of.ensures.bytes old here c.put.new.self
    (subst (λ key. PutsAt two_cmp old.two c.put.new.self key c.args.id) c.two_words.ensures puts)) c.put.ensures

pub returns-in-Three : goal.returns-in-Three
returns-in-Three c =
    let old = c.args.self.now in
    let here = sym c.width_of.ensures.width ∙ c.in-Three.is in
    at_ok c.put-in-Three.result _ _
    (λ puts. puts_three c.args.bytes.now c.args.id c.width_of.ensures.bytes old here c.put-in-Three.new.self
    (subst (λ key. PutsAt three_cmp old.three c.put-in-Three.new.self key c.args.id) c.three_words.ensures puts)) c.put-in-Three.ensures

pub returns-in-Six : goal.returns-in-Six
returns-in-Six c =
    let old = c.args.self.now in
    let here = sym c.width_of.ensures.width ∙ c.in-Six.is in
    at_ok c.put-in-Six.result _ _
    (λ puts. puts_six c.args.bytes.now c.args.id c.width_of.ensures.bytes old here c.put-in-Six.new.self
    (subst (λ key. PutsAt six_cmp old.six c.put-in-Six.new.self key c.args.id) c.six_words.ensures puts)) c.put-in-Six.ensures

pub returns-in-Long : goal.returns-in-Long
returns-in-Long c =
    let old = c.args.self.now in
    let here = sym c.width_of.ensures.width ∙ c.in-Long.is in
    at_ok c.put-in-Long.result _ _ (λ puts. puts_long c.args.bytes.now c.args.id c.width_of.ensures.bytes old here c.put-in-Long.new.self puts) c.put-in-Long.ensures
