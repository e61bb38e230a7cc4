-- One round of an ordered core: the least number that a run's history lacks moves, or nothing does.
use Rattle.std.proofs.Common.{◌≡◌, ◌<◌, ℕ, suc, true, false, List, [], ◌∷◌, ◌++◌, length, drop, get_or, Option, Some, None, refl, sym, ◌∙◌, ap, subst, arith}
use Rattle.std.specs.Prelude.{IfSome, slice_get}
use Rattle.std.proofs.lemmas.List.{get_or-set_same, length_push}
use Rattle.ar_bundle.specs.Sound.{IsBundle}
use Rattle.ar_bundle.specs.Bundle.{Bundle}
use Rattle.ar_board.specs.Posting.{added, posted}
use Rattle.ar_board.specs.Core.{StepState, is_parked, lacking, parked_moved, own_numbers, settled_numbers}
use Rattle.ar_board.specs.Private.Kept.{AreInOrder, IsSound}
use Rattle.ar_bundle.specs.declared.history.Entry.{Entry}
use Rattle.ar_bundle.proofs.HistoryLemmas.{as_many}
use Rattle.ar_board.proofs.OrderedSteps.{moved_sound}
use Rattle.ar_board.proofs.CoreSteps.{Adds, adds}
use Rattle.ar_board.proofs.Postable.{posted_some}
use Rattle.ar_board.proofs.OwnNumbers.{front_none, front_there, lacking_is, longer_in_order, own_is_of}

-- ---- nothing moves

-- no number of the run is lacking
pub none_lacks : (bundle : Bundle) (state : StepState) (run : ℕ) → AreInOrder bundle state.histories → slice_get (own_numbers bundle run) (length (get_or state.histories run [])) ≡ None → settled_numbers bundle state (lacking bundle state run) ≡ state
none_lacks bundle state run in_order none = ap (settled_numbers bundle state) (lacking_is bundle state run (in_order run) ∙ front_none (length (get_or state.histories run [])) (own_numbers bundle run) none)

-- the least one isn't parked
pub not_parked : (bundle : Bundle) (state : StepState) (run number : ℕ) → AreInOrder bundle state.histories → slice_get (own_numbers bundle run) (length (get_or state.histories run [])) ≡ Some number → is_parked state number ≡ false → settled_numbers bundle state (lacking bundle state run) ≡ state
not_parked bundle state run number in_order there free =
    ap (settled_numbers bundle state) (lacking_is bundle state run (in_order run) ∙ front_there (length (get_or state.histories run [])) number (own_numbers bundle run) there) ∙ rw free refl

-- ---- a number moves

pub record Turned (bundle : Bundle) (state : StepState) (run number : ℕ) (later : StepState) : Type 0 where
  pub sound : IsSound bundle later
  pub in_order : AreInOrder bundle later.histories
  pub same : settled_numbers bundle later (lacking bundle later run) ≡ settled_numbers bundle state (lacking bundle state run)
  pub fewer : suc (length (lacking bundle later run)) ≡ length (lacking bundle state run)

moves_first : (bundle : Bundle) (state : StepState) (number : ℕ) (others : List ℕ) (later : List (List Entry)) → is_parked state number ≡ true → posted bundle state.histories number ≡ Some later → settled_numbers bundle state (number ∷ others) ≡ settled_numbers bundle (parked_moved state number (Some later)) others
moves_first bundle state number others later there posts = rw (there, posts) refl

pub turned : (bundle : Bundle) (state : StepState) (run number : ℕ) → IsBundle bundle → IsSound bundle state → AreInOrder bundle state.histories → run < length bundle.runs → slice_get (own_numbers bundle run) (length (get_or state.histories run [])) ≡ Some number → is_parked state number ≡ true
    → (later : List (List Entry)) → posted bundle state.histories number ≡ Some later → Turned bundle state run number (parked_moved state number (Some later))
turned bundle state run number is sound in_order below there marked later posts =
    let history : List Entry = get_or state.histories run [] in
    let own : List ℕ = own_numbers bundle run in
    let some = posted_some bundle state.histories number run is (own_is_of bundle run number (length history) there) in
    let some_same : Some later ≡ Some (added state.histories run some.0) = sym posts ∙ some.1 in
    let same : later ≡ added state.histories run some.0 = cc in
    let many = as_many bundle 0 bundle.runs state.histories sound.histories in
    let inside : run < length state.histories = omega arith in
    let now : get_or later run [] ≡ history ++ some.0 ∷ [] = ap (λ (histories : List (List Entry)). get_or histories run []) same ∙ get_or-set_same state.histories run (history ++ some.0 ∷ []) [] inside in
    let longer : length (get_or later run []) ≡ suc (length history) = ap (λ (history : List Entry). length history) now ∙ (let pushed = length_push history some.0 in omega arith) in
    let next : AreInOrder bundle later = subst (AreInOrder bundle) (sym same) (longer_in_order bundle run state.histories some.0 inside in_order (there ∙ ap Some (sym some.2))) in
    let before : lacking bundle state run ≡ number ∷ drop (suc (length history)) own = lacking_is bundle state run (in_order run) ∙ front_there (length history) number own there in
    let after : lacking bundle (parked_moved state number (Some later)) run ≡ drop (suc (length history)) own = lacking_is bundle (parked_moved state number (Some later)) run (next run) ∙ ap (λ (k : ℕ). drop k own) longer in
    record {
      sound = moved_sound bundle state number (Some later) marked (subst (λ (posted : Option (List (List Entry))). IfSome posted (Adds bundle state.histories number)) posts (adds bundle state.histories number is sound.histories)) sound;
      in_order = next;
      same =
          ap (settled_numbers bundle (parked_moved state number (Some later))) after
          ∙ (sym (moves_first bundle state number (drop (suc (length history)) own) later marked posts)
          ∙ ap (settled_numbers bundle state) (sym before));
      fewer = ap (λ (numbers : List ℕ). suc (length numbers)) after ∙ ap (λ (numbers : List ℕ). length numbers) (sym before);
    }
