use Rattle.std.specs.Prelude.{◌≡◌, ℕ, ◌+◌, ◌<◌, ◌≤◌, ◌↔◌, true, false, List, length}
use Rattle.pk_world.specs.Rose.{Rose}
use Rattle.pk_world.specs.declared.source.Source.{Ghosts as SourceGhosts}
use Rattle.pk_world.specs.declared.station.Station.{Ghosts as StationGhosts}
use Rattle.pk_engine.specs.Base.{empty_base}
use Rattle.pk_run.specs.Words.{is_plain_form}
use Rattle.pk_run.specs.Told.{told}
use Rattle.pk_run.specs.Run.{WhereTells, Takes, TakesFront, OnWholeRun, IsReadAs, IsLeftBy, AreCountedBy, IsUnstopped}
use Rattle.pk_run.specs.Status.{IsUnrun}
use Rattle.pk_run.specs.declared.scripts.TheConstants.{MOST_SCRIPT}
use Rattle.pk_run.specs.declared.status.Status.{Status}
use Rattle.pk_run.specs.declared.status.Status.TheVariants.{Usage}

-- what a run for these words did to source and station, and the status that tells it
pub record IsRun {S W : Type 0} (source : SourceGhosts S) (sink : StationGhosts W) (words : List (List ℕ)) (script script' : S) (station station' : W) (status : Status) : Type 0 where
  pub front : WhereTells source script (λ bytes. TakesFront sink station station' (told empty_base bytes))
  pub whole : OnWholeRun status (WhereTells source script (λ bytes. Takes sink station station' (told empty_base bytes)))
  pub read : WhereTells source script (λ bytes. IsReadAs status bytes (source.rest script'))
  pub leaves : IsLeftBy status script script' station station'
  pub faults : AreCountedBy status (source.faults script) (source.faults script') (sink.sink_faults station) (sink.sink_faults station')
  pub usage : (status ≡ Usage) ↔ (is_plain_form words ≡ false)
  pub complete : is_plain_form words ≡ true → ¬ Rose (source.faults script) (source.faults script') → ¬ Rose (sink.sink_faults station) (sink.sink_faults station')
      → IsUnstopped status (WhereTells source script (λ bytes. Takes sink station station' (told empty_base bytes))) (WhereTells source script (λ bytes. MOST_SCRIPT < length bytes))
  pub never_long : WhereTells source script (λ bytes. MOST_SCRIPT < length bytes → IsUnrun status × (station' ≡ station))
  pub taken : WhereTells source script (λ bytes. length bytes ≤ length (source.rest script') + (MOST_SCRIPT + 1))
