-- What the core in memory shows of a run.
use Rattle.std.proofs.Common.{◌≡◌, ◌<◌, ℕ, ◌+◌, List, [], length, get_or, Some, refl, sym, ◌∙◌, subst, arith}
use Rattle.std.specs.Prelude.{slice_get}
use Rattle.std.proofs.lemmas.Option.{slice_get-map, slice_get_read}
use Rattle.ar_limits.specs.Replay.{Replays}
use Rattle.ar_bundle.specs.Bundle.{events_of}
use Rattle.ar_board.specs.Core.{Core, IsStateOf}
use Rattle.ar_bundle.specs.Lawful.{numbers_of}
use Rattle.ar_board.specs.Private.Inside.{IsCore, IsKept, core_of, histories_of}
use Rattle.ar_board.specs.declared.core_state.CoreState.TheInside.{Inside}
use Rattle.ar_board.specs.declared.cell.run_history.RunHistory.{RunHistory}
use Rattle.ar_bundle.specs.declared.history.Entry.{Entry}
use Rattle.ar_bundle.proofs.Bundles.{entry_at}
use Rattle.ar_board.proofs.CoreOpening.{as_many_kept}
use Rattle.ar_board.proofs.CorePost.{KeptAt, history_is, kept_at}

-- a run of the bundle is there
pub run_inside : (core : Inside) (seen : Core) (run : ℕ) → IsCore core → core_of core ≡ seen → run < length seen.bundle.runs → run < length core.runs.items
run_inside core seen run is view below =
    let many = as_many_kept core.bundle.now 0 core.bundle.now.runs core.runs.items is.runs in
    let inside : run < length core.bundle.now.runs = subst (λ (seen : Core). run < length seen.bundle.runs) (sym view) below in
    omega arith

-- the run that was read
pub record Shows (seen : Core) (run : ℕ) (shown : RunHistory) : Type 0 where
  pub history : slice_get seen.state.histories run ≡ Some shown.entries.items
  pub standing : IsStateOf seen run shown.state

pub shows : (core : Inside) (seen : Core) (run : ℕ) (shown : RunHistory) → IsCore core → core_of core ≡ seen → run < length seen.bundle.runs → shown ≡ get_or core.runs.items run shown → Shows seen run shown
shows core seen run shown is view below read =
    let there : slice_get core.runs.items run ≡ Some shown = slice_get_read core.runs.items (length core.runs.items) run shown refl (run_inside core seen run is view below) read in
    let inside : run < length core.bundle.now.runs = subst (λ (seen : Core). run < length seen.bundle.runs) (sym view) below in
    let part = entry_at core.bundle.now.runs run inside in
    let here : 0 + run ≡ run = omega arith in
    let at = subst (λ (at : ℕ). KeptAt core.bundle.now at part.0 core.runs.items run) here (kept_at core.bundle.now 0 run core.bundle.now.runs core.runs.items part.0 is.runs part.1) in
    let some_same : Some at.core ≡ Some shown = sym at.there ∙ there in
    let same : at.core ≡ shown = cc in
    let kept : IsKept core.bundle.now run part.0 shown = subst (λ (shown : RunHistory). IsKept core.bundle.now run part.0 shown) same at.kept in
    let history = history_is core.runs.items run shown there in
    let replays : Replays part.0.limits (events_of core.bundle.now (numbers_of (get_or (histories_of core.runs.items) run []))) shown.state =
    subst (λ (history : List Entry). Replays part.0.limits (events_of core.bundle.now (numbers_of history)) shown.state) (sym history) kept.replays in
    subst (λ (seen : Core). Shows seen run shown) view (record {
      history = slice_get-map (λ (run : RunHistory). run.entries.items) core.runs.items run ∙ rw there refl;
      standing = rw part.1 replays;
    })
