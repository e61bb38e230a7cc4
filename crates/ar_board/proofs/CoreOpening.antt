-- The core in memory, before its first step.
use Rattle.std.proofs.Common.{◌≡◌, ◌<◌, ◌≤◌, ℕ, zero, suc, ◌+◌, List, [], ◌∷◌, ◌++◌, length, map, take, get_or, Some, refl, sym, ◌∙◌, ap, subst, arith, length-append}
use Rattle.std.specs.Prelude.{slice_get, slice_index_or}
use Rattle.std.specs.Vec.{vec_capacity}
use Rattle.std.proofs.Math.Seq.{take-suc}
use Rattle.std.proofs.lemmas.List.{length-take-le, map_push, take_all}
use Rattle.std.proofs.lemmas.Option.{slice_get_read}
use Rattle.ar_limits.specs.Metric.{HasPositiveCounts}
use Rattle.ar_limits.specs.Replay.{Replays}
use Rattle.ar_bundle.specs.Sound.{IsBundle, IsRun, entries_of, sizes_of}
use Rattle.ar_bundle.specs.Bundle.{Bundle, events_of, finding_at}
use Rattle.ar_bundle.specs.Lawful.{numbers_of}
use Rattle.ar_board.specs.Private.Inside.{AreFound, AreKept, AreOpened, IsKept, histories_of}
use Rattle.ar_bundle.specs.declared.bundle.RunPart.{RunPart}
use Rattle.ar_board.specs.declared.cell.run_history.RunHistory.{RunHistory}
use Rattle.ar_bundle.specs.declared.finding.Finding.{Finding}
use Rattle.ar_bundle.specs.declared.history.Entry.{Entry}
use Rattle.ar_bundle.proofs.Bundles.{of_each}
use Rattle.ar_bundle.proofs.Sizes.{as_many_counts, count_at}

-- ---- findings

found_push : (bundle : Bundle) (from : ℕ) (findings : List Finding) (last : Finding) → ((place : ℕ) (finding : Finding) → slice_get findings place ≡ Some finding → finding_at bundle (from + place) ≡ Some finding) → finding_at bundle (from + length findings) ≡ Some last
    → (place : ℕ) (finding : Finding) → slice_get (findings ++ last ∷ []) place ≡ Some finding → finding_at bundle (from + place) ≡ Some finding
found_push bundle from [] last all is zero finding there =
    let same : last ≡ finding = cc in
    subst (λ (finding : Finding). finding_at bundle (from + zero) ≡ Some finding) same is
found_push bundle from [] last all is (suc place) finding there = absurd cc
found_push bundle from (first ∷ findings) last all is zero finding there = all zero finding there
found_push bundle from (first ∷ findings) last all is (suc place) finding there =
    let next : suc from + place ≡ from + suc place = omega arith in
    let at_end : from + suc (length findings) ≡ suc from + length findings = omega arith in
    let later = found_push bundle (suc from) findings last
    (λ place finding there. subst (λ (at : ℕ). finding_at bundle at ≡ Some finding) (let up : from + suc place ≡ suc from + place = omega arith in up) (all (suc place) finding there))
    (subst (λ (at : ℕ). finding_at bundle at ≡ Some last) at_end is) place finding there in
    subst (λ (at : ℕ). finding_at bundle at ≡ Some finding) next later

-- one number more is judged
pub found_next : (bundle : Bundle) (upto : ℕ) (findings : List Finding) (last : Finding) → AreFound bundle upto findings → finding_at bundle upto ≡ Some last → AreFound bundle (upto + 1) (findings ++ last ∷ [])
found_next bundle upto findings last are is =
    let long = length-append findings (last ∷ []) in
    let all = are.all in
    let here : upto ≡ 0 + length findings = omega arith in
    let zeros = λ (place : ℕ) (finding : Finding) (there : slice_get findings place ≡ Some finding). subst (λ (at : ℕ). finding_at bundle at ≡ Some finding) (let same : place ≡ 0 + place = omega arith in same) (are.found place finding there) in
    record {
      all = omega arith;
      found = λ number finding there. subst (λ (at : ℕ). finding_at bundle at ≡ Some finding) (let same : 0 + number ≡ number = omega arith in same)
          (found_push bundle 0 findings last zeros (subst (λ (at : ℕ). finding_at bundle at ≡ Some last) here is) number finding there);
    }

-- ---- runs

pub as_many_kept : (bundle : Bundle) (from : ℕ) (parts : List RunPart) (runs : List RunHistory) → AreKept bundle from parts runs → length runs ≡ length parts
as_many_kept bundle from [] [] kept = refl
as_many_kept bundle from [] (run ∷ runs) kept = absurd kept
as_many_kept bundle from (part ∷ parts) [] kept = absurd kept
as_many_kept bundle from (part ∷ parts) (run ∷ runs) kept = ap suc (as_many_kept bundle (suc from) parts runs kept.1)

kept_push : (bundle : Bundle) (from : ℕ) (parts : List RunPart) (runs : List RunHistory) (part : RunPart) (run : RunHistory) → AreKept bundle from parts runs → IsKept bundle (from + length parts) part run → AreKept bundle from (parts ++ part ∷ []) (runs ++ run ∷ [])
kept_push bundle from [] [] part run kept is = let here : from + 0 ≡ from = omega arith in (subst (λ (at : ℕ). IsKept bundle at part run) here is, tt)
kept_push bundle from [] (other ∷ runs) part run kept is = absurd kept
kept_push bundle from (first ∷ parts) [] part run kept is = absurd kept
kept_push bundle from (first ∷ parts) (other ∷ runs) part run kept is =
    let next : from + suc (length parts) ≡ suc from + length parts = omega arith in
    (kept.0, kept_push bundle (suc from) parts runs part run kept.1 (subst (λ (at : ℕ). IsKept bundle at part run) next is))

-- what is known of the next run
pub record NextRun (bundle : Bundle) (place : ℕ) (part : RunPart) (sizes : List ℕ) (runs : List RunHistory) : Type 0 where
  pub inside : length runs < length sizes
  pub positive : HasPositiveCounts part.limits
  pub more : (size : ℕ) (run : RunHistory) → size ≡ get_or sizes (length runs) size → run.entries.items ≡ [] → vec_capacity run.entries ≡ size → Replays part.limits [] run.state → AreOpened bundle (take (suc place) bundle.runs) (runs ++ run ∷ [])

next_of_bundle : (bundle : Bundle) (place : ℕ) (part : RunPart) (sizes : List ℕ) (runs : List RunHistory) → IsBundle bundle → place < length bundle.runs → part ≡ slice_index_or bundle.runs place part → sizes ≡ sizes_of bundle → AreOpened bundle (take place bundle.runs) runs → NextRun bundle place part sizes runs
next_of_bundle bundle place part sizes runs is inside read are opened =
    let before : List RunPart = take place bundle.runs in
    let short = length-take-le place bundle.runs (omega arith) in
    let many = as_many_kept bundle 0 before runs opened.kept in
    let as_many = as_many_counts bundle.entries 0 bundle.runs in
    let as_long = ap length are in
    let longer : take (suc place) bundle.runs ≡ before ++ part ∷ [] = take-suc bundle.runs place part inside ∙ ap (λ (part : RunPart). before ++ part ∷ []) (sym read) in
    record {
      inside = omega arith;
      positive = (of_each (IsRun bundle.metrics) bundle.runs place part is.runs (slice_get_read bundle.runs (length bundle.runs) place part refl inside read)).counts;
      more = λ size run size_read empty room replays.
          let size_is : size ≡ entries_of bundle (0 + length before) =
          size_read ∙ (ap (λ (sizes : List ℕ). get_or sizes (length runs) size) are ∙ (count_at bundle.entries 0 (length runs) size bundle.runs (omega arith) ∙ ap (λ (at : ℕ). entries_of bundle (0 + at)) many)) in
          let fits : entries_of bundle (0 + length before) ≤ vec_capacity run.entries = omega arith in
          let kept : IsKept bundle (0 + length before) part run = record { replays = subst (λ (history : List Entry). Replays part.limits (events_of bundle (numbers_of history)) run.state) (sym empty) replays; room = fits } in
          let histories : histories_of (runs ++ run ∷ []) ≡ map (λ run. []) (before ++ part ∷ []) =
          map_push (λ (run : RunHistory). run.entries.items) runs run
          ∙ (ap (λ (histories : List (List Entry)). histories ++ run.entries.items ∷ []) opened.empty
          ∙ (ap (λ (history : List Entry). map (λ run. []) before ++ history ∷ []) empty
          ∙ sym (map_push (λ (run : RunPart). []) before part))) in
          subst (λ (parts : List RunPart). AreOpened bundle parts (runs ++ run ∷ [])) (sym longer) (record { kept = kept_push bundle 0 before runs part run opened.kept kept; empty = histories });
    }

-- the same, of the runs as they are read
pub next_run : (bundle : Bundle) (parts : List RunPart) (place : ℕ) (part : RunPart) (sizes : List ℕ) (runs : List RunHistory) → IsBundle bundle → bundle.runs ≡ parts → place < length parts → part ≡ slice_index_or parts place part → sizes ≡ sizes_of bundle → AreOpened bundle (take place parts) runs → NextRun bundle place part sizes runs
next_run bundle parts place part sizes runs is same inside read are opened =
    next_of_bundle bundle place part sizes runs is
    (subst (λ (parts : List RunPart). place < length parts) (sym same) inside)
    (subst (λ (parts : List RunPart). part ≡ slice_index_or parts place part) (sym same) read)
    are
    (subst (λ (parts : List RunPart). AreOpened bundle (take place parts) runs) (sym same) opened)

pub all_opened : (bundle : Bundle) (parts : List RunPart) (place : ℕ) (runs : List RunHistory) → bundle.runs ≡ parts → length parts ≤ place → AreOpened bundle (take place parts) runs → AreOpened bundle bundle.runs runs
all_opened bundle parts place runs same past opened =
    subst (λ (parts : List RunPart). AreOpened bundle parts runs) (take_all place parts past ∙ sym same) opened
