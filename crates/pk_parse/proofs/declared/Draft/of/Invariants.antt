use Rattle.std.proofs.Common.{◌≡◌}
use Rattle.pk_parse.specs.Create.{columns_of, keys_of}
use Rattle.pk_parse.proofs.declared.Draft.of.Given as goal

abbrev pub invariant-loop-part : goal.invariant-loop-part
invariant-loop-part l = record {
  columns : l.draft.columns.items ≡ columns_of l.yielded;
  keys : l.draft.keys.items ≡ keys_of l.yielded;
}
