-- How what is said of runs of station calls goes on from one run to the next.
use Rattle.std.proofs.Common.{◌≡◌, ℕ, ◌≤◌, List, inl, inr, ⊎_elim, sym, ◌∙◌, subst, arith, IsTrue}
use Rattle.pk_world.specs.Files.{Files}
use Rattle.pk_world.specs.Clock.{Passes}
use Rattle.pk_world.specs.declared.station.Station.{Ghosts}
use Rattle.pk_world.specs.Station.{Runs, Uses, Reads, EachMoment, LeavesOnly}

-- one station clock after another
passes_then : (a b c : ℕ) (at_a at_b at_c : ℕ → Files → List ℕ → Type 0) → ((t u : ℕ) (f : Files) (s : List ℕ) → t ≤ u → u ≤ c → at_c u f s → at_c t f s)
    → Passes a b at_a at_b → Passes b c at_b at_c → Passes a c at_a at_c
passes_then a b c at_a at_b at_c earlier first second = record {
  later = omega (arith, first.later, second.later);
  keeps = λ t f s le left. second.keeps t f s (omega (arith, le, first.later)) (first.keeps t f s le left);
  nothing_else = λ t f s le left.
      ⊎_elim
      (λ before. ⊎_elim (λ past. inl past) (λ since. inr (second.keeps a f s first.later since)) (first.nothing_else t f s le before))
      (λ since. inr (earlier a b f s first.later second.later since))
      (second.nothing_else t f s (omega (arith, le, first.later)) left);
}

module _ {W : Type 0} (g : Ghosts W) where
  -- what is left since a moment is left since any earlier one: the station's law, at x
  abbrev pub IsLeftEarlier : W → Type 0
  IsLeftEarlier x = (t u : ℕ) (f : Files) (s : List ℕ) → t ≤ u → u ≤ g.now x → g.left_since x u f s → g.left_since x t f s

  -- a crash now is one since any earlier moment: the station's law, at x
  abbrev pub IsLeftNow : W → Type 0
  IsLeftNow x = (t : ℕ) (f : Files) → t ≤ g.now x → g.may_leave x f → g.left_since x t f (g.told x)

  -- one run after another
  pub runs_then : (a b c : W) → IsLeftEarlier c → Runs g a b → Runs g b c → Runs g a c
  runs_then a b c earlier first second = record {
    tells = second.tells ∙ first.tells;
    honest = ((λ h. second.honest.0 (first.honest.0 h)), (λ h. first.honest.1 (second.honest.1 h)));
    time = passes_then (g.now a) (g.now b) (g.now c) (g.left_since a) (g.left_since b) (g.left_since c) earlier first.time second.time;
    disk = omega (arith, first.disk, second.disk);
    sink = omega (arith, first.sink, second.sink);
  }

  pub uses_then : (a b c : W) → IsLeftEarlier c → Uses g a b → Uses g b c → Uses g a c
  uses_then a b c earlier first second = record {
    tells = second.tells ∙ first.tells;
    honest = ((λ h. second.honest.0 (first.honest.0 h)), (λ h. first.honest.1 (second.honest.1 h)));
    time = passes_then (g.now a) (g.now b) (g.now c) (g.left_since a) (g.left_since b) (g.left_since c) earlier first.time second.time;
    told = second.told ∙ first.told;
    disk = omega (arith, first.disk, second.disk);
    sink = second.sink ∙ first.sink;
  }

  -- calls on the files alone are calls
  pub runs_from : (a b : W) → Uses g a b → Runs g a b
  runs_from a b uses = record { tells = uses.tells; honest = uses.honest; time = uses.time; disk = uses.disk; sink = omega (arith, uses.sink) }

  -- what holds at each moment of two runs holds at each of both together
  pub moments_then : (a b c : W) (P : Files → List ℕ → Type 0) → Runs g a b → Runs g b c → EachMoment g a b P → EachMoment g b c P → EachMoment g a c P
  moments_then a b c P first second early late = λ honest tells f s left.
      ⊎_elim (λ before. early honest tells f s before) (λ since. late (first.honest.0 honest) (subst IsTrue (sym first.tells) tells) f s since)
      (second.time.nothing_else (g.now a) f s first.time.later left)

  pub leaves_then : (a b c : W) (P : Files → Type 0) → Uses g a b → Uses g b c → LeavesOnly g a b P → LeavesOnly g b c P → LeavesOnly g a c P
  leaves_then a b c P first second early late = λ honest tells f s left.
      ⊎_elim (λ before. early honest tells f s before)
      (λ since. let now : P f × (s ≡ g.told b) = late (first.honest.0 honest) (subst IsTrue (sym first.tells) tells) f s since in (now.0, now.1 ∙ first.told))
      (second.time.nothing_else (g.now a) f s first.time.later left)

  -- what has P has Q
  pub leaves_as : (a b : W) (P Q : Files → Type 0) → ((f : Files) → g.honest a → IsTrue (g.tells a) → P f → Q f) → LeavesOnly g a b P → LeavesOnly g a b Q
  leaves_as a b P Q turn leaves = λ honest tells f s left.
      let now : P f × (s ≡ g.told a) = leaves honest tells f s left in (turn f honest tells now.0, now.1)

  -- what a crash may leave at the end of a run is among what it might have left during it
  pub leaves_now : (a b : W) (P : Files → Type 0) → IsLeftNow b → Uses g a b → LeavesOnly g a b P → g.honest a → IsTrue (g.tells a) → (f : Files) → g.may_leave b f → P f
  leaves_now a b P now uses leaves = λ honest tells f left. (leaves honest tells f (g.told b) (now (g.now a) f uses.time.later left)).0

  -- files that were looked at twice were looked at
  pub reads_then : (a b c : W) → IsLeftEarlier c → IsLeftNow b → Reads g a b → Reads g b c → Reads g a c
  reads_then a b c earlier now first second = record {
    uses = uses_then a b c earlier first.uses second.uses;
    content = second.content ∙ first.content;
    leaves = leaves_then a b c (g.may_leave a) first.uses second.uses first.leaves
        (λ honest tells f s left.
        let then : g.may_leave b f × (s ≡ g.told b) = second.leaves honest tells f s left in
        (leaves_now a b (g.may_leave a) now first.uses first.leaves (first.uses.honest.1 honest) (subst IsTrue first.uses.tells tells) f then.0, then.1));
  }
