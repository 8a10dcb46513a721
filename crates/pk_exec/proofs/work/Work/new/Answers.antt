use Rattle.std.proofs.Common.{◌≡◌, sym, subst}
use Rattle.pk_exec.specs.Works.{IsWork, size_elsewhere}
use Rattle.pk_exec.specs.Entries.{kept_entries}
use Rattle.pk_exec.specs.Seen.{entries_of, Covers, Fits}
use Rattle.pk_exec.proofs.FreshLemmas.{fresh_by, fresh_entries, fresh_covers, fresh_fits, fresh_elsewhere}
use Rattle.pk_exec.proofs.WorkLemmas.{no_edits_is_work}
use Rattle.pk_exec.proofs.work.Work.new.Goals as goal

pub invariant_of-result : goal.invariant_of-result
invariant_of-result c = subst (λ items. IsWork (record { tables = items })) (sym c.new.ensures.items) no_edits_is_work

pub returns-clause-entries : goal.returns-clause-entries
returns-clause-entries c table rows =
    fresh_by (λ w. entries_of w table rows ≡ kept_entries rows) c.new.result.items c.new.ensures.items (fresh_entries table rows)

pub returns-clause-covers : goal.returns-clause-covers
returns-clause-covers c table rows = fresh_by (λ w. Covers w table rows) c.new.result.items c.new.ensures.items (fresh_covers table rows)

pub returns-clause-fits : goal.returns-clause-fits
returns-clause-fits c s table = fresh_by (λ w. Fits w s table) c.new.result.items c.new.ensures.items (fresh_fits s table)

pub returns-clause-elsewhere : goal.returns-clause-elsewhere
returns-clause-elsewhere c table = fresh_by (λ w. size_elsewhere w table ≡ 0) c.new.result.items c.new.ensures.items (fresh_elsewhere table)
