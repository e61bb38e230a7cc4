-- A post of the core in memory.
use Rattle.std.proofs.Common.{◌≡◌, ◌<◌, ◌≤◌, ℕ, zero, suc, ◌+◌, Bool, false, List, [], ◌∷◌, ◌++◌, length, get_or, set, Option, Some, None, refl, sym, ◌∙◌, ap, subst, arith}
use Rattle.std.specs.Prelude.{slice_get}
use Rattle.std.specs.List.{cons_option}
use Rattle.std.proofs.lemmas.List.{get_or-map, length-map, map-set}
use Rattle.std.proofs.lemmas.Option.{get_or_from_slice_get, slice_get-get_or, slice_get_read, slice_get_within}
use Rattle.ar_limits.specs.Replay.{Replays}
use Rattle.ar_limits.specs.declared.event.Effect.{Effect}
use Rattle.ar_limits.specs.declared.event.Event.{Event}
use Rattle.ar_bundle.specs.Sound.{IsBundle, IsRun}
use Rattle.ar_bundle.specs.Bundle.{Bundle, events_of, finding_at, happened, run_at}
use Rattle.ar_board.specs.Posting.{HasOneMore, entry_with, posted}
use Rattle.ar_board.specs.Core.{Core, StepState, after_step, emptied, held, post_of, core_stepped}
use Rattle.ar_bundle.specs.Lawful.{IsHistory, numbers_of, times, times_in}
use Rattle.ar_board.specs.Private.Inside.{AreJudged, AreKept, IsCore, IsKept, core_of, histories_of, state_of}
use Rattle.ar_board.specs.Private.Kept.{IsSound}
use Rattle.ar_board.specs.Private.Posts.{HasRoom, IsAppended}
use Rattle.ar_bundle.specs.declared.bundle.RunPart.{RunPart}
use Rattle.ar_board.specs.declared.core_state.CoreState.TheInside.{Inside}
use Rattle.ar_board.specs.declared.cell.run_history.RunHistory.{RunHistory}
use Rattle.ar_board.specs.declared.core_steps.CoreStep.TheVariants.{Post}
use Rattle.ar_bundle.specs.declared.finding.Finding.{Finding}
use Rattle.ar_bundle.specs.declared.history.Entry.{Entry}
use Rattle.ar_bundle.proofs.Bundles.{entry_at, of_each}
use Rattle.ar_board.proofs.CoreSteps.{IsHeld, held_number}
use Rattle.ar_board.proofs.CoreLaws.{step_sound}
use Rattle.ar_bundle.proofs.HistoryLemmas.{events_push, history_at, numbers_push}
use Rattle.ar_bundle.proofs.Room.{has_room}
use Rattle.ar_bundle.proofs.Sizes.{few_counted}

-- ---- a number's entry

-- its finding, as it was judged
pub found_at : (bundle : Bundle) (findings : List Finding) (number : ℕ) (d : Finding) → AreJudged bundle findings → number < length bundle.entries → finding_at bundle number ≡ Some (get_or findings number d)
found_at bundle findings number d judged inside = judged.found number (get_or findings number d) (slice_get-get_or findings number d (let all = judged.all in omega arith))

-- the entry, as it was appended
pub is_appended : (bundle : Bundle) (findings : List Finding) (number : ℕ) (d : Finding) (event : Event) (effect : Effect) (old new : RunHistory) → AreJudged bundle findings → number < length bundle.entries → happened bundle number ≡ Some event
    → HasOneMore number (get_or findings number d) event old new effect → IsAppended bundle number old new
is_appended bundle findings number d event effect old new judged inside happens more =
    record {
      finding = get_or findings number d;
      event = event;
      finds = found_at bundle findings number d judged inside;
      happens = happens;
      entries = λ limits events is. more.entry ∙ ap (λ (effect : Effect). old.entries.items ++ record { number = number; finding = get_or findings number d; effect = effect } ∷ []) (more.has_effect limits events is);
      replays = more.replays;
      capacity = more.capacity;
    }

-- ---- runs

pub record KeptAt (bundle : Bundle) (run : ℕ) (part : RunPart) (runs : List RunHistory) (place : ℕ) : Type 0 where
  pub core : RunHistory
  pub there : slice_get runs place ≡ Some core
  pub kept : IsKept bundle run part core

module _ (bundle : Bundle) where
  pub kept_at : (from place : ℕ) (parts : List RunPart) (runs : List RunHistory) (part : RunPart) → AreKept bundle from parts runs → slice_get parts place ≡ Some part → KeptAt bundle (from + place) part runs place
  kept_at from place [] runs part kept there = absurd cc
  kept_at from place (first ∷ parts) [] part kept there = absurd kept
  kept_at from zero (first ∷ parts) (run ∷ runs) part kept there =
      let same : first ≡ part = cc in
      let here : from ≡ from + zero = omega arith in
      record { core = run; there = refl; kept = subst (λ (at : ℕ). IsKept bundle at part run) here (subst (λ (part : RunPart). IsKept bundle from part run) same kept.0) }
  kept_at from (suc place) (first ∷ parts) (run ∷ runs) part kept there =
      let next : suc from + place ≡ from + suc place = omega arith in
      let later = kept_at (suc from) place parts runs part kept.1 there in
      record { core = later.core; there = later.there; kept = subst (λ (at : ℕ). IsKept bundle at part later.core) next later.kept }

  pub kept_set : (from place : ℕ) (parts : List RunPart) (runs : List RunHistory) (part : RunPart) (later : RunHistory) → AreKept bundle from parts runs → slice_get parts place ≡ Some part → IsKept bundle (from + place) part later → AreKept bundle from parts (set runs place later)
  kept_set from place [] runs part later kept there is = absurd cc
  kept_set from place (first ∷ parts) [] part later kept there is = absurd kept
  kept_set from zero (first ∷ parts) (run ∷ runs) part later kept there is =
      let same : part ≡ first = cc in
      let here : from + zero ≡ from = omega arith in
      (subst (λ (part : RunPart). IsKept bundle from part later) same (subst (λ (at : ℕ). IsKept bundle at part later) here is), kept.1)
  kept_set from (suc place) (first ∷ parts) (run ∷ runs) part later kept there is =
      let next : from + suc place ≡ suc from + place = omega arith in
      (kept.0, kept_set (suc from) place parts runs part later kept.1 there (subst (λ (at : ℕ). IsKept bundle at part later) next is))

-- a history has a number no oftener than all of them
times_at : (number place : ℕ) (histories : List (List Entry)) → times_in number (numbers_of (get_or histories place [])) ≤ times number histories
times_at number place [] = omega arith
times_at number zero (history ∷ histories) = omega arith
times_at number (suc place) (history ∷ histories) = let rest = times_at number place histories in omega arith

one_happens : (event : Option Event) (events : List Event) (most : ℕ) → length events ≤ most → length (cons_option event events) ≤ suc most
one_happens None events most few = omega arith
one_happens (Some event) events most few = omega arith

few_happen : (bundle : Bundle) (numbers : List ℕ) → length (events_of bundle numbers) ≤ length numbers
few_happen bundle [] = omega arith
few_happen bundle (number ∷ numbers) = one_happens (happened bundle number) (events_of bundle numbers) (length numbers) (few_happen bundle numbers)

-- ---- the run of a number that isn't in a history

pub record IsNext (bundle : Bundle) (runs : List RunHistory) (run : ℕ) : Type 0 where
  pub part : RunPart
  pub part_there : slice_get bundle.runs run ≡ Some part
  pub core : RunHistory
  pub core_there : slice_get runs run ≡ Some core
  pub inside : run < length runs
  pub kept : IsKept bundle run part core
  pub room : HasRoom bundle core

pub history_is : (runs : List RunHistory) (run : ℕ) (core : RunHistory) → slice_get runs run ≡ Some core → get_or (histories_of runs) run [] ≡ core.entries.items
history_is runs run core there =
    get_or-map (λ (core : RunHistory). core.entries.items) runs run core [] (slice_get_within runs run core there) ∙ ap (λ (core : RunHistory). core.entries.items) (get_or_from_slice_get runs run core core there)

pub next_of : (bundle : Bundle) (state : StepState) (runs : List RunHistory) (run number : ℕ) → IsBundle bundle → IsSound bundle state → AreKept bundle 0 bundle.runs runs → state.histories ≡ histories_of runs → times number state.histories ≡ 0 → run_at bundle number ≡ Some run → run < length bundle.runs → IsNext bundle runs run
next_of bundle state runs run number is sound kept histories nowhere own below =
    let part = entry_at bundle.runs run below in
    let here : 0 + run ≡ run = omega arith in
    let at = subst (λ (at : ℕ). KeptAt bundle at part.0 runs run) here (kept_at bundle 0 run bundle.runs runs part.0 kept part.1) in
    let history : List Entry = get_or state.histories run [] in
    let same : history ≡ at.core.entries.items = ap (λ (histories : List (List Entry)). get_or histories run []) histories ∙ history_is runs run at.core at.there in
    let is_history = history_at bundle 0 run bundle.runs state.histories part.0 sound.histories part.1 in
    let found = subst (λ (at : ℕ). IsHistory bundle at part.0.limits history) here is_history in
    let lacks : times_in number (numbers_of history) ≡ 0 = (let most = times_at number run state.histories in omega arith) in
    let shorter = has_room bundle run number history found.found (λ other. let most = times_at other run state.histories in let once = sound.once other in omega arith) lacks own in
    let long : length history ≡ length at.core.entries.items = ap length same in
    let few = few_counted bundle.entries run in
    let events = is.few_events in
    let of_run = of_each (IsRun bundle.metrics) bundle.runs run part.0 is.runs part.1 in
    let room = at.kept.room in
    record {
      part = part.0;
      part_there = part.1;
      core = at.core;
      core_there = at.there;
      inside = slice_get_within runs run at.core at.there;
      kept = at.kept;
      room = record {
        room = omega arith;
        few =
            let handed = at.kept.replays.handed_is in
            let happen = few_happen bundle (numbers_of at.core.entries.items) in
            let numbers : length (numbers_of at.core.entries.items) ≡ length at.core.entries.items = length-map at.core.entries.items (λ (entry : Entry). entry.number) in
            omega arith;
        metrics = ap length at.kept.replays.limits_are ∙ of_run.limits;
      };
    }

-- the run that was read
pub read_next : (bundle : Bundle) (runs : List RunHistory) (run : ℕ) (core : RunHistory) (next : IsNext bundle runs run) → core ≡ get_or runs run core → next.core ≡ core
read_next bundle runs run core next read =
    let there : slice_get runs run ≡ Some core = slice_get_read runs (length runs) run core refl next.inside read in
    let same : Some next.core ≡ Some core = sym next.core_there ∙ there in
    cc

pub room_read : (bundle : Bundle) (runs : List RunHistory) (run : ℕ) (core : RunHistory) (next : IsNext bundle runs run) → core ≡ get_or runs run core → HasRoom bundle core
room_read bundle runs run core next read = subst (HasRoom bundle) (read_next bundle runs run core next read) next.room

-- ---- the number at the end of its run's history

-- the runs with the number there
pub record Appends (bundle : Bundle) (runs later : List RunHistory) (number : ℕ) : Type 0 where
  pub posts : posted bundle (histories_of runs) number ≡ Some (histories_of later)
  pub kept : AreKept bundle 0 bundle.runs later

later_kept : (bundle : Bundle) (run number : ℕ) (part : RunPart) (core later : RunHistory) (appended : IsAppended bundle number core later) → IsKept bundle run part core
    → later.entries.items ≡ core.entries.items ++ entry_with number appended.finding part.limits (events_of bundle (numbers_of core.entries.items)) appended.event ∷ [] → IsKept bundle run part later
later_kept bundle run number part core later appended kept longer =
    let before : List Event = events_of bundle (numbers_of core.entries.items) in
    let entry : Entry = entry_with number appended.finding part.limits before appended.event in
    let numbers : numbers_of later.entries.items ≡ numbers_of core.entries.items ++ number ∷ [] = ap numbers_of longer ∙ numbers_push core.entries.items entry in
    let events : events_of bundle (numbers_of later.entries.items) ≡ before ++ appended.event ∷ [] = ap (events_of bundle) numbers ∙ events_push bundle (numbers_of core.entries.items) number appended.event appended.happens in
    let room = kept.room in
    let capacity = appended.capacity in
    record { replays = subst (λ (events : List Event). Replays part.limits events later.state) (sym events) (appended.replays part.limits before kept.replays); room = omega arith }

posted_is : (bundle : Bundle) (histories : List (List Entry)) (run number : ℕ) (part : RunPart) (finding : Finding) (event : Event) → run_at bundle number ≡ Some run → finding_at bundle number ≡ Some finding → happened bundle number ≡ Some event → slice_get bundle.runs run ≡ Some part
    → posted bundle histories number ≡ Some (set histories run (get_or histories run [] ++ entry_with number finding part.limits (events_of bundle (numbers_of (get_or histories run []))) event ∷ []))
posted_is bundle histories run number part finding event own finds happens there = rw (own, finds, happens, there) refl

pub appends : (bundle : Bundle) (runs : List RunHistory) (run number : ℕ) (core later : RunHistory) → AreKept bundle 0 bundle.runs runs → IsNext bundle runs run → run_at bundle number ≡ Some run → core ≡ get_or runs run core → IsAppended bundle number core later → Appends bundle runs (set runs run later) number
appends bundle runs run number core later kept next own read appended =
    let part = next.part in
    let same = read_next bundle runs run core next read in
    let core_kept : IsKept bundle run part core = subst (λ (core : RunHistory). IsKept bundle run part core) same next.kept in
    let before : List Event = events_of bundle (numbers_of core.entries.items) in
    let longer : later.entries.items ≡ core.entries.items ++ entry_with number appended.finding part.limits before appended.event ∷ [] = appended.entries part.limits before core_kept.replays in
    let here : run ≡ 0 + run = omega arith in
    let there : slice_get runs run ≡ Some core = next.core_there ∙ ap Some same in
    let history : get_or (histories_of runs) run [] ≡ core.entries.items = history_is runs run core there in
    record {
      posts =
          posted_is bundle (histories_of runs) run number part appended.finding appended.event own appended.finds appended.happens next.part_there
          ∙ (ap (λ (history : List Entry). Some (set (histories_of runs) run (history ++ entry_with number appended.finding part.limits (events_of bundle (numbers_of history)) appended.event ∷ []))) history
          ∙ (ap (λ (history : List Entry). Some (set (histories_of runs) run history)) (sym longer)
          ∙ ap Some (sym (map-set (λ (core : RunHistory). core.entries.items) runs run later))));
      kept = kept_set bundle 0 run bundle.runs runs part later kept next.part_there (subst (λ (at : ℕ). IsKept bundle at part later) here (later_kept bundle run number part core later appended core_kept longer));
    }

-- ---- a post at once

abbrev pub emptied_with : StepState → (worker : ℕ) → List RunHistory → StepState
emptied_with state worker runs = record { next = state.next; queue = state.queue; hands = set state.hands worker None; parked = state.parked; histories = histories_of runs }

-- the state with the number in its run's history
pub record Posts (bundle : Bundle) (places : ℕ) (state : StepState) (worker : ℕ) (later : List RunHistory) : Type 0 where
  pub after : after_step bundle places false state (Post worker) ≡ emptied_with state worker later
  pub sound : IsSound bundle (emptied_with state worker later)

posted_after : (bundle : Bundle) (places : ℕ) (state : StepState) (worker number : ℕ) (later : List (List Entry)) → held state worker ≡ Some number → posted bundle state.histories number ≡ Some later
    → after_step bundle places false state (Post worker) ≡ record { next = state.next; queue = state.queue; hands = set state.hands worker None; parked = state.parked; histories = later }
posted_after bundle places state worker number later holds posts = ap (post_of bundle state worker) holds ∙ ap (emptied state worker) posts

pub posts : (bundle : Bundle) (places : ℕ) (state : StepState) (runs later : List RunHistory) (worker number : ℕ) → IsBundle bundle → IsSound bundle state → state.histories ≡ histories_of runs → held state worker ≡ Some number → Appends bundle runs later number → Posts bundle places state worker later
posts bundle places state runs later worker number is sound histories holds appended =
    let after = posted_after bundle places state worker number (histories_of later) holds (ap (λ (histories : List (List Entry)). posted bundle histories number) histories ∙ appended.posts) in
    record { after = after; sound = subst (IsSound bundle) after (step_sound bundle places false state (Post worker) is sound) }

-- the core after it
pub stepped_at_once : (core : Core) (worker : ℕ) (later : StepState) → core.ordered ≡ false → after_step core.bundle core.places false core.state (Post worker) ≡ later → record { bundle = core.bundle; places = core.places; ordered = core.ordered; state = later } ≡ core_stepped core (Post worker)
stepped_at_once core worker later off after =
    ap (λ (state : StepState). record { bundle = core.bundle; places = core.places; ordered = core.ordered; state = state }) (sym after)
    ∙ ap (λ (ordered : Bool). record { bundle = core.bundle; places = core.places; ordered = core.ordered; state = after_step core.bundle core.places ordered core.state (Post worker) }) (sym off)

-- ---- the same of the core as it is in memory

pub record Holding (core : Inside) (worker number : ℕ) : Type 0 where
  pub full : held (state_of core) worker ≡ Some number
  pub is : IsHeld core.bundle.now (state_of core) number

pub holding : (core : Inside) (seen : Core) (worker number : ℕ) (hand : Option ℕ) → IsCore core → core_of core ≡ seen → hand ≡ Some number → hand ≡ held seen.state worker → Holding core worker number
holding core seen worker number hand is view hand_is read =
    let full : held (state_of core) worker ≡ Some number = ap (λ (seen : Core). held seen.state worker) view ∙ (sym read ∙ hand_is) in
    record { full = full; is = held_number core.bundle.now (state_of core) worker number is.sound full }

pub next_in : (core : Inside) (run number : ℕ) → IsCore core → times number (histories_of core.runs.items) ≡ 0 → run_at core.bundle.now number ≡ Some run → run < length core.bundle.now.runs → IsNext core.bundle.now core.runs.items run
next_in core run number is nowhere own below = next_of core.bundle.now (state_of core) core.runs.items run number is.bundle is.sound is.runs refl nowhere own below
