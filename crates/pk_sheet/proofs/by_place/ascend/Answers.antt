use Rattle.std.proofs.Common.{rules}
use Rattle.std.specs.Ordering.{is_lt}
use Rattle.std.proofs.lemmas.Fn.{always_returns_same}
use Rattle.pk_rows.specs.declared.stored.Stored.{Stored}
use Rattle.pk_rows.specs.Maps.{place_cmp}
use Rattle.pk_sheet.proofs.Searching.{ascend_answer}
use Rattle.pk_sheet.proofs.by_place.ascend.Goals as goal

-- the closure compares two places
pub returns : goal.returns
returns c =
    ascend_answer c.args.stored.now c.is_sorted_by.result
    (c.is_sorted_by.ensures.cases (λ (x y : Stored). is_lt (place_cmp x.place y.place)) (always_returns_same _ _ _ (λ a r g called. search rules)))
