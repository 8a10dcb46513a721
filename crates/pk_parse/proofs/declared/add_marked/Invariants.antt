use Rattle.std.proofs.Common.{◌≡◌, ◌++◌, take}
use Rattle.std.specs.List.{filter_map}
use Rattle.pk_parse.specs.Create.{key_of_mark}
use Rattle.pk_parse.proofs.declared.add_marked.Given as goal

-- the keys of the marks so far stand behind those that were there
abbrev pub invariant-loop-mark : goal.invariant-loop-mark
invariant-loop-mark l = l.keys.items ≡ l.initial.keys.items ++ filter_map (key_of_mark l.column) (take l.mark-index l.marks)
