use Rattle.std.proofs.Common.{Some, is_some, ap, ◌∙◌}
use Rattle.pk_rows.proofs.MapLemmas.{found}
use Rattle.pk_rows.proofs.memory_rows.MemoryRowsRows.get.Goals as goal

pub returns-in-None-clause-found : goal.returns-in-None-clause-found
returns-in-None-clause-found g c = λ m is. ap is_some (found c.args.self.now.rows.entries c.args.place m _ is c.in-None.ensures.value)

pub returns-in-None-clause-bytes : goal.returns-in-None-clause-bytes
returns-in-None-clause-bytes g c = λ m is told. found c.args.self.now.rows.entries c.args.place m _ is c.in-None.ensures.value

pub returns-in_ok-copy-in-Some-clause-found : goal.returns-in_ok-copy-in-Some-clause-found
returns-in_ok-copy-in-Some-clause-found g c = λ m is. ap is_some (found c.args.self.now.rows.entries c.args.place m _ is c.in-Some.ensures.value)

pub returns-in_ok-copy-in-Some-clause-bytes : goal.returns-in_ok-copy-in-Some-clause-bytes
returns-in_ok-copy-in-Some-clause-bytes g c =
    λ m is told. ap Some (c.in_ok-copy-in-Some.ensures ∙ c.as_slice.ensures) ∙ found c.args.self.now.rows.entries c.args.place m _ is c.in-Some.ensures.value
