use Rattle.std.proofs.Common.{◌≡◌, ◌≤◌, ℕ, ◌+◌, ◌-◌, List, ◌++◌, length, take, drop, sym, ◌∙◌, ap, arith}
use Rattle.std.proofs.lemmas.List.{take_at, drop-drop, take-append-drop, length-take, length-drop}
use Rattle.pk_world.proofs.memory_source.MemorySourceSource.pull.Goals as goal

-- a part that was copied to the front of a room and the bytes behind it are the bytes
part_then_rest : (bytes part behind : List ℕ) (at n : ℕ) → at + n ≤ length bytes → part ≡ take ((at + n) - at) (drop at bytes) → drop at bytes ≡ take n (part ++ behind) ++ drop (at + n) bytes
part_then_rest bytes part behind at n fits is =
    let count : (at + n) - at ≡ n = omega arith in
    let front : part ≡ take n (drop at bytes) = is ∙ ap (λ (k : ℕ). take k (drop at bytes)) count in
    let long : length part ≡ n = ap length front ∙ simp (length-take, length-drop) (omega arith) in
    sym (ap (λ (x : List ℕ). x ++ drop (at + n) bytes) (take_at part behind n long ∙ front)
    ∙ ap (λ (x : List ℕ). take n (drop at bytes) ++ x) (sym (drop-drop n at bytes))
    ∙ take-append-drop n (drop at bytes))

pub returns-clause-next : goal.returns-clause-next
returns-clause-next c =
    let s = c.fails_now.new.self in
    sym c.fails_now.ensures.bytes
    ∙ part_then_rest s.bytes.items c.copy_from_slice.new.self _ s.at c.min-count.result (omega arith)
    (c.copy_from_slice.ensures.after ∙ ap (λ (x : List ℕ). take ((s.at + c.min-count.result) - s.at) (drop s.at x)) c.deref.ensures.value)
