-- Runs that have grown by all numbers of a bundle are finished.
use Rattle.std.proofs.Common.{◌≡◌, ℕ, suc, List, [], ◌∷◌, length, Some, refl, sym, ◌∙◌, ap, subst}
use Rattle.std.specs.Prelude.{slice_get}
use Rattle.ar_limits.specs.Replay.{Replays, Standing}
use Rattle.ar_bundle.specs.Bundle.{Bundle, events_of}
use Rattle.ar_bundle.specs.Finished.{AreFinished, AreStatesOf}
use Rattle.ar_bundle.specs.Growing.{AreGrown}
use Rattle.ar_bundle.specs.Lawful.{AreLawful, numbers_of}
use Rattle.ar_bundle.specs.Sound.{IsBundle}
use Rattle.ar_bundle.specs.declared.bundle.RunPart.{RunPart}
use Rattle.ar_bundle.specs.declared.finished.Finished.{Finished}
use Rattle.ar_bundle.specs.declared.history.Entry.{Entry}
use Rattle.ar_bundle.specs.declared.runs.Runs.{Runs}
use Rattle.ar_bundle.proofs.Grown.{kept}
use Rattle.ar_bundle.proofs.Lawful.{lawful_after}

-- each run has a state and a history
pub as_many : (bundle : Bundle) (upto from : ℕ) (runs : List RunPart) (states : List Standing) (histories : List (List Entry)) → AreGrown bundle upto from runs states histories → (length states ≡ length runs) × (length histories ≡ length runs)
as_many bundle upto from [] [] [] grown = (refl, refl)
as_many bundle upto from (run ∷ runs) (state ∷ states) (history ∷ histories) grown = let later = as_many bundle upto (suc from) runs states histories grown.1 in (ap suc later.0, ap suc later.1)
as_many bundle upto from [] [] (history ∷ histories) grown = absurd grown
as_many bundle upto from [] (state ∷ states) histories grown = absurd grown
as_many bundle upto from (run ∷ runs) [] histories grown = absurd grown
as_many bundle upto from (run ∷ runs) (state ∷ states) [] grown = absurd grown

-- each state is the one that its run's history leads to
leads_to : (bundle : Bundle) (upto : ℕ) (states : List Standing) (histories : List (List Entry)) (run : ℕ) (part : RunPart) (history : List Entry) (state : Standing) → AreGrown bundle upto 0 bundle.runs states histories → slice_get bundle.runs run ≡ Some part → slice_get histories run ≡ Some history → slice_get states run ≡ Some state
    → Replays part.limits (events_of bundle (numbers_of history)) state
leads_to bundle upto states histories run part history state grown part_there history_there state_there =
    let keeps = kept bundle upto 0 run part bundle.runs states histories grown part_there in
    let own : keeps.history ≡ history = some_is (sym keeps.history_there ∙ history_there) in
    let same : keeps.state ≡ state = some_is (sym keeps.state_there ∙ state_there) in
    let numbers = sym (ap (events_of bundle) keeps.grown.numbers) in
    subst (λ (history : List Entry). Replays part.limits (events_of bundle (numbers_of history)) state) own
    (subst (λ (state : Standing). Replays part.limits (events_of bundle (numbers_of keeps.history)) state) same
    (subst (λ events. Replays part.limits events keeps.state) numbers keeps.grown.replays))
  where
    some_is : {A : Type 0} {one other : A} → Some one ≡ Some other → one ≡ other
    some_is is = cc

pub states_are : (bundle : Bundle) (upto : ℕ) (states : List Standing) (histories : List (List Entry)) → AreGrown bundle upto 0 bundle.runs states histories → AreStatesOf bundle histories states
states_are bundle upto states histories grown =
    record {
      as_many = (as_many bundle upto 0 bundle.runs states histories grown).0;
      each = λ run part history state part_there history_there state_there. leads_to bundle upto states histories run part history state grown part_there history_there state_there;
    }

-- after the last number
pub finished_after : (bundle : Bundle) (number : ℕ) (runs : Runs) (finished : Finished) → IsBundle bundle → number ≡ length bundle.entries → AreGrown bundle number 0 bundle.runs runs.states.items runs.histories.items → finished.histories ≡ runs.histories.items → finished.states.items ≡ runs.states.items → AreFinished bundle finished
finished_after bundle number runs finished is all grown histories states =
    record {
      lawful = subst (AreLawful bundle) (sym histories) (lawful_after bundle number runs.states.items runs.histories.items is all grown);
      states = subst (λ (histories : List (List Entry)). AreStatesOf bundle histories finished.states.items) (sym histories)
          (subst (λ (states : List Standing). AreStatesOf bundle runs.histories.items states) (sym states) (states_are bundle number runs.states.items runs.histories.items grown));
    }
