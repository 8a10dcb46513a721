use Rattle.std.specs.Prelude.{ℕ, Bool, true, false}
use Rattle.pk_world.specs.declared.source.Pull.{Pull}
use Rattle.pk_world.specs.declared.source.Pull.TheVariants.{Got, End, Failed}

-- nothing could be said
abbrev pub has_failed : Pull → Bool
has_failed (Got n) = false
has_failed End = false
has_failed Failed = true

-- a fact of the number of bytes, where some came
abbrev pub IfGot : Pull → (ℕ → Type 0) → Type 0
IfGot (Got n) P = P n
IfGot End P = Unit {0}
IfGot Failed P = Unit {0}

-- a fact for the end
abbrev pub OnEnd : Pull → Type 0 → Type 0
OnEnd (Got n) P = Unit {0}
OnEnd End P = P
OnEnd Failed P = Unit {0}

-- a fact for a fault
abbrev pub OnFailed : Pull → Type 0 → Type 0
OnFailed (Got n) P = Unit {0}
OnFailed End P = Unit {0}
OnFailed Failed P = P

-- a fact for the end and for a fault
abbrev pub UnlessGot : Pull → Type 0 → Type 0
UnlessGot (Got n) P = Unit {0}
UnlessGot End P = P
UnlessGot Failed P = P

-- a fact for bytes and for the end
abbrev pub UnlessFailed : Pull → Type 0 → Type 0
UnlessFailed (Got n) P = P
UnlessFailed End P = P
UnlessFailed Failed P = Unit {0}
