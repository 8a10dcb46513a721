use Rattle.std.proofs.Common.{◌≡◌, ℕ, ◌+◌, true, List, ◌++◌, length}
use Rattle.std.specs.List.{list_all}
use Rattle.std.specs.List.Sorted.{IsStrictlySortedBy}
use Rattle.pk_index.specs.Rows.{is_listed}
use Rattle.pk_index.specs.Shelves.{pair_cmp}
use Rattle.pk_index.proofs.ShelfLemmas.{ids_of, is_from}
use Rattle.pk_index.proofs.shelf.Shelf.least.Given as goal

-- the ids in front are outside, and each was a step; the pairs that are left ascend from the key on
abbrev pub invariant-loop-pair : goal.invariant-loop-pair
invariant-loop-pair g l =
    (front : List ℕ)
    × (ids_of g.K.Ord.cmp l.self.pairs.keys l.key ≡ front ++ ids_of g.K.Ord.cmp l.pair-iterator l.key)
    × (list_all (is_listed l.outside) front ≡ true)
    × (l.steps ≡ l.fn.steps + length front)
    × IsStrictlySortedBy (pair_cmp g.K.Ord.cmp) l.pair-iterator
    × (list_all (is_from g.K.Ord.cmp l.key) l.pair-iterator ≡ true)
