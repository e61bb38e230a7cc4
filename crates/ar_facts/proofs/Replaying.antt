-- Entries of a run, handed to its state one by one.
use Rattle.std.proofs.Common.{◌≡◌, ◌<◌, ◌≤◌, ℕ, suc, ◌+◌, List, [], ◌∷◌, ◌++◌, length, take, Some, refl, sym, ◌∙◌, ap, subst, arith}
use Rattle.std.specs.Prelude.{slice_index_or}
use Rattle.std.proofs.Math.Seq.{take-suc}
use Rattle.std.proofs.lemmas.List.{map_push, take_all}
use Rattle.std.proofs.lemmas.Option.{get_or_from_slice_get, slice_get-get_or}
use Rattle.std.proofs.lemmas.List.Elements.{filter_map-append}
use Rattle.ar_limits.specs.Replay.{ForEachReplay, IsOfMetricBelow, Replays, Standing, most_events}
use Rattle.ar_limits.specs.declared.event.Event.{Event}
use Rattle.ar_limits.specs.declared.limits.Limits.{Limits}
use Rattle.ar_bundle.specs.Sound.{IsRun}
use Rattle.ar_bundle.specs.Bundle.{Bundle, events_of, happened}
use Rattle.ar_bundle.specs.Lawful.{numbers_of}
use Rattle.ar_bundle.specs.declared.bundle.RunPart.{RunPart}
use Rattle.ar_bundle.specs.declared.history.Entry.{Entry}

events_push : (bundle : Bundle) (entries : List Entry) (entry : Entry) (event : Event) → happened bundle entry.number ≡ Some event → events_of bundle (numbers_of (entries ++ entry ∷ [])) ≡ events_of bundle (numbers_of entries) ++ event ∷ []
events_push bundle entries entry event is =
    ap (events_of bundle) (map_push (λ (entry : Entry). entry.number) entries entry) ∙ (filter_map-append (happened bundle) (numbers_of entries) (entry.number ∷ []) ∙ rw is refl)

-- one entry more was handed
pub next_entry : (bundle : Bundle) (limits : List Limits) (entries : List Entry) (index : ℕ) (entry : Entry) (event : Event) (state after : Standing) → index < length entries → entry ≡ slice_index_or entries index entry → happened bundle entry.number ≡ Some event
    → Replays limits (events_of bundle (numbers_of (take index entries))) state → ForEachReplay state (λ limits events. Replays limits (events ++ event ∷ []) after) → Replays limits (events_of bundle (numbers_of (take (index + 1) entries))) after
next_entry bundle limits entries index entry event state after inside read is replays continues =
    let longer : take (suc index) entries ≡ take index entries ++ entry ∷ [] = take-suc entries index entry inside ∙ ap (λ entry. take index entries ++ entry ∷ []) (sym read) in
    let next : index + 1 ≡ suc index = omega arith in
    let events : events_of bundle (numbers_of (take (index + 1) entries)) ≡ events_of bundle (numbers_of (take index entries)) ++ event ∷ [] =
    ap (λ after. events_of bundle (numbers_of (take after entries))) next ∙ (ap (λ entries. events_of bundle (numbers_of entries)) longer ∙ events_push bundle (take index entries) entry event is) in
    subst (λ events. Replays limits events after) (sym events) (continues limits (events_of bundle (numbers_of (take index entries))) replays)

pub no_entry_left : (bundle : Bundle) (limits : List Limits) (entries : List Entry) (index : ℕ) (state : Standing) → length entries ≤ index → Replays limits (events_of bundle (numbers_of (take index entries))) state → Replays limits (events_of bundle (numbers_of entries)) state
no_entry_left bundle limits entries index state past replays = subst (λ entries. Replays limits (events_of bundle (numbers_of entries)) state) (take_all index entries past) replays

pub room_left : (entries : List Entry) (index handed : ℕ) → handed ≤ index → index < length entries → length entries ≤ most_events → handed < 100000
room_left entries index handed few inside most = omega arith

-- an event of a bundle is of a metric that the run has
pub of_metric : (bundle : Bundle) (run : RunPart) (events : List Event) (event : Event) (state : Standing) → IsRun bundle.metrics run → Replays run.limits events state → IsOfMetricBelow (length bundle.metrics) event → IsOfMetricBelow (length state.limits) event
of_metric bundle run events event state is replays below = subst (λ metrics. IsOfMetricBelow metrics event) (sym (ap length replays.limits_are ∙ is.limits)) below

-- the same of an entry that was read
pub next_read : (bundle : Bundle) (limits : List Limits) (entries : List Entry) (index : ℕ) (default : Entry) (event : Event) (state after : Standing) → index < length entries → happened bundle (slice_index_or entries index default).number ≡ Some event
    → Replays limits (events_of bundle (numbers_of (take index entries))) state → ForEachReplay state (λ limits events. Replays limits (events ++ event ∷ []) after) → Replays limits (events_of bundle (numbers_of (take (index + 1) entries))) after
next_read bundle limits entries index default event state after inside is replays continues =
    let entry = slice_index_or entries index default in
    let read : entry ≡ slice_index_or entries index entry = sym (get_or_from_slice_get entries index entry entry (slice_get-get_or entries index default inside)) in
    next_entry bundle limits entries index entry event state after inside read is replays continues
