-- Histories that have the numbers below one, in their order.
use Rattle.std.specs.Prelude.{◌≡◌, ◌==◌, ℕ, zero, suc, if◌then◌else◌, List, [], ◌∷◌, ◌++◌, Option, Some, None}
use Rattle.ar_limits.specs.Replay.{Replays, Standing}
use Rattle.ar_limits.specs.declared.limits.Limits.{Limits}
use Rattle.ar_bundle.specs.Bundle.{Bundle, events_of, run_at}
use Rattle.ar_bundle.specs.Lawful.{IsHistory, numbers_of}
use Rattle.ar_bundle.specs.declared.bundle.RunPart.{RunPart}
use Rattle.ar_bundle.specs.declared.history.Entry.{Entry}

-- the number, where it is one of the run
abbrev pub where_own : (run number : ℕ) → Option ℕ → List ℕ
where_own run number None = []
where_own run number (Some own) = if own == run then number ∷ [] else []

-- the numbers of a run below one, in their order
abbrev pub below : Bundle → (run upto : ℕ) → List ℕ
below bundle run zero = []
below bundle run (suc number) = below bundle run number ++ where_own run number (run_at bundle number)

-- a run's history has its numbers below one, and its state is what they lead to
pub record IsGrown (bundle : Bundle) (upto run : ℕ) (limits : List Limits) (state : Standing)
    (history : List Entry) : Type 0 where
  pub numbers : numbers_of history ≡ below bundle run upto
  pub lawful : IsHistory bundle run limits history
  pub replays : Replays limits (events_of bundle (below bundle run upto)) state

-- so have the histories of all runs, counting from a run
abbrev pub AreGrown : Bundle → (upto from : ℕ) → List RunPart → List Standing → List (List Entry) → Type 0
AreGrown bundle upto from [] [] [] = Unit {0}
AreGrown bundle upto from (run ∷ runs) (state ∷ states) (history ∷ histories) =
    IsGrown bundle upto from run.limits state history × AreGrown bundle upto (suc from) runs states histories
AreGrown bundle upto from runs states histories = ⊥
