-- The events of a history, one after another, and those of them that are chosen.
use Rattle.std.proofs.Common.{◌≡◌, ◌<◌, ◌≤◌, ℕ, suc, ◌+◌, Bool, true, false, List, [], ◌∷◌, ◌++◌, drop, flat_map, length, take, Option, Some, None, refl, sym, ◌∙◌, ap, append-nil, arith}
use Rattle.std.specs.Prelude.{if◌then◌else◌, slice_index_or}
use Rattle.std.proofs.Math.Seq.{take-suc}
use Rattle.std.specs.List.{list_any}
use Rattle.std.proofs.lemmas.List.{append_assoc, take_all}
use Rattle.std.proofs.lemmas.Option.{get_or_from_slice_get, slice_get-get_or}
use Rattle.ar_limits.specs.declared.event.Event.{Event}
use Rattle.ar_limits.specs.declared.limits.Limits.{Limits}
use Rattle.ar_bundle.specs.Bundle.{Bundle, events_of, happened}
use Rattle.ar_bundle.specs.Lawful.{numbers_of}
use Rattle.ar_bundle.specs.declared.history.Entry.{Entry}
use Rattle.ar_facts.proofs.Lines.{none_left, read_at}
use Rattle.ar_progress.specs.Private.Completers.{closer_or}
use Rattle.ar_progress.specs.Steps.{closer_of, closes, if_chosen, is_chosen, is_entry_of, own_change, own_completer, step_after, steps_after}
use Rattle.ar_progress.specs.declared.chosen.Chosen.{Chosen}
use Rattle.ar_progress.specs.declared.steps.Change.{Change}
use Rattle.ar_progress.specs.declared.steps.Step.{Step}

-- ---- an event that was read

pub longer : (entries : List Entry) (index : ℕ) (entry : Entry) → index < length entries → entry ≡ slice_index_or entries index entry → take (index + 1) entries ≡ take index entries ++ entry ∷ []
longer entries index entry inside read =
    let next : index + 1 ≡ suc index = omega arith in
    ap (λ index. take index entries) next ∙ (take-suc entries index entry inside ∙ ap (λ entry. take index entries ++ entry ∷ []) (sym read))

-- an entry that was read with a default
pub read_again : (entries : List Entry) (index : ℕ) (default : Entry) → index < length entries → slice_index_or entries index default ≡ slice_index_or entries index (slice_index_or entries index default)
read_again entries index default inside = sym (get_or_from_slice_get entries index (slice_index_or entries index default) (slice_index_or entries index default) (slice_get-get_or entries index default inside))

step_read : (bundle : Bundle) (limits : List Limits) (entries : List Entry) (index : ℕ) (entry : Entry) → index < length entries → entry ≡ slice_index_or entries index entry
    → steps_after bundle limits (take index entries) (drop index entries) ≡ step_after bundle limits (take index entries) entry ∷ steps_after bundle limits (take (index + 1) entries) (drop (index + 1) entries)
step_read bundle limits entries index entry inside read =
    rw (read_at entries index entry inside read, longer entries index entry inside read) refl

pub step_is : (bundle : Bundle) (limits : List Limits) (earlier : List Entry) (entry : Entry) (event : Event) (change : Option Change) (closer completer : Option ℕ) → happened bundle entry.number ≡ Some event → own_change limits (events_of bundle (numbers_of earlier)) event ≡ change → closer ≡ closer_of earlier → completer ≡ own_completer bundle limits earlier change
    → step_after bundle limits earlier entry ≡ record { entry = entry; change = change; closer = closer; completer = completer }
step_is bundle limits earlier entry event change closer completer is changes closed completed =
    rw (is, closed, completed) (ap (λ (change : Option Change). record { entry = entry; change = change; closer = closer_of earlier; completer = own_completer bundle limits earlier change }) changes)

-- ---- which are chosen

one_chosen : (chosen : Chosen) (step : Step) (later found total : List Step) → is_chosen chosen step ≡ true → found ++ flat_map (if_chosen chosen) (step ∷ later) ≡ total → (found ++ step ∷ []) ++ flat_map (if_chosen chosen) later ≡ total
one_chosen chosen step later found total is so_far =
    append_assoc found (step ∷ []) (flat_map (if_chosen chosen) later) ∙ (sym (ap (λ asked. found ++ ((if asked then step ∷ [] else []) ++ flat_map (if_chosen chosen) later)) is) ∙ so_far)

one_unchosen : (chosen : Chosen) (step : Step) (later found total : List Step) → is_chosen chosen step ≡ false → found ++ flat_map (if_chosen chosen) (step ∷ later) ≡ total → found ++ flat_map (if_chosen chosen) later ≡ total
one_unchosen chosen step later found total is so_far =
    sym (ap (λ asked. found ++ ((if asked then step ∷ [] else []) ++ flat_map (if_chosen chosen) later)) is) ∙ so_far

pub next_chosen : (bundle : Bundle) (limits : List Limits) (entries : List Entry) (index : ℕ) (entry : Entry) (step : Step) (chosen : Chosen) (found total : List Step) → index < length entries → entry ≡ slice_index_or entries index entry → step_after bundle limits (take index entries) entry ≡ step → is_chosen chosen step ≡ true
    → found ++ flat_map (if_chosen chosen) (steps_after bundle limits (take index entries) (drop index entries)) ≡ total → (found ++ step ∷ []) ++ flat_map (if_chosen chosen) (steps_after bundle limits (take (index + 1) entries) (drop (index + 1) entries)) ≡ total
next_chosen bundle limits entries index entry step chosen found total inside read is asked so_far =
    let left = step_read bundle limits entries index entry inside read ∙ ap (λ step. step ∷ steps_after bundle limits (take (index + 1) entries) (drop (index + 1) entries)) is in
    one_chosen chosen step (steps_after bundle limits (take (index + 1) entries) (drop (index + 1) entries)) found total asked (ap (λ left. found ++ flat_map (if_chosen chosen) left) (sym left) ∙ so_far)

pub next_unchosen : (bundle : Bundle) (limits : List Limits) (entries : List Entry) (index : ℕ) (entry : Entry) (step : Step) (chosen : Chosen) (found total : List Step) → index < length entries → entry ≡ slice_index_or entries index entry → step_after bundle limits (take index entries) entry ≡ step → is_chosen chosen step ≡ false
    → found ++ flat_map (if_chosen chosen) (steps_after bundle limits (take index entries) (drop index entries)) ≡ total → found ++ flat_map (if_chosen chosen) (steps_after bundle limits (take (index + 1) entries) (drop (index + 1) entries)) ≡ total
next_unchosen bundle limits entries index entry step chosen found total inside read is asked so_far =
    let left = step_read bundle limits entries index entry inside read ∙ ap (λ step. step ∷ steps_after bundle limits (take (index + 1) entries) (drop (index + 1) entries)) is in
    one_unchosen chosen step (steps_after bundle limits (take (index + 1) entries) (drop (index + 1) entries)) found total asked (ap (λ left. found ++ flat_map (if_chosen chosen) left) (sym left) ∙ so_far)

-- an event that was read is kept where it is chosen, and else passed
pub next_step : (bundle : Bundle) (limits : List Limits) (entries : List Entry) (index : ℕ) (default : Entry) (event : Event) (change : Option Change) (closer completer : Option ℕ) (chosen : Chosen) (found total : List Step) → index < length entries → happened bundle (slice_index_or entries index default).number ≡ Some event → own_change limits (events_of bundle (numbers_of (take index entries))) event ≡ change → closer ≡ closer_of (take index entries) → completer ≡ own_completer bundle limits (take index entries) change
    → found ++ flat_map (if_chosen chosen) (steps_after bundle limits (take index entries) (drop index entries)) ≡ total
    → (is_chosen chosen (record { entry = slice_index_or entries index default; change = change; closer = closer; completer = completer }) ≡ true → (found ++ record { entry = slice_index_or entries index default; change = change; closer = closer; completer = completer } ∷ []) ++ flat_map (if_chosen chosen) (steps_after bundle limits (take (index + 1) entries) (drop (index + 1) entries)) ≡ total)
    × (is_chosen chosen (record { entry = slice_index_or entries index default; change = change; closer = closer; completer = completer }) ≡ false → found ++ flat_map (if_chosen chosen) (steps_after bundle limits (take (index + 1) entries) (drop (index + 1) entries)) ≡ total)
next_step bundle limits entries index default event change closer completer chosen found total inside is changes closed completed so_far =
    let entry = slice_index_or entries index default in
    let read = read_again entries index default inside in
    let step = step_is bundle limits (take index entries) entry event change closer completer is changes closed completed in (
      λ asked. next_chosen bundle limits entries index entry (record { entry = entry; change = change; closer = closer; completer = completer }) chosen found total inside read step asked so_far,
      λ asked. next_unchosen bundle limits entries index entry (record { entry = entry; change = change; closer = closer; completer = completer }) chosen found total inside read step asked so_far,
    )

pub none_chosen_left : (bundle : Bundle) (limits : List Limits) (entries : List Entry) (index : ℕ) (chosen : Chosen) (found total : List Step) → length entries ≤ index
    → found ++ flat_map (if_chosen chosen) (steps_after bundle limits (take index entries) (drop index entries)) ≡ total → found ≡ total
none_chosen_left bundle limits entries index chosen found total past so_far =
    sym (append-nil found) ∙ (ap (λ left. found ++ flat_map (if_chosen chosen) (steps_after bundle limits (take index entries) left)) (sym (none_left entries index past)) ∙ so_far)

-- ---- what closed the run

push_closing : (first : Entry) (entries : List Entry) (entry : Entry) (does : Bool) → closes first.effect ≡ does → closer_of (entries ++ entry ∷ []) ≡ closer_or (closer_of entries) entry → closer_of (first ∷ (entries ++ entry ∷ [])) ≡ closer_or (closer_of (first ∷ entries)) entry
push_closing first entries entry true is rest = rw is refl
push_closing first entries entry false is rest = rw is rest

push_last : (entry : Entry) (does : Bool) → closes entry.effect ≡ does → closer_of (entry ∷ []) ≡ closer_or None entry
push_last entry true is = rw is refl
push_last entry false is = rw is refl

pub closer_push : (entries : List Entry) (entry : Entry) → closer_of (entries ++ entry ∷ []) ≡ closer_or (closer_of entries) entry
closer_push [] entry = push_last entry (closes entry.effect) refl
closer_push (first ∷ entries) entry = push_closing first entries entry (closes first.effect) refl (closer_push entries entry)

-- and after an event that was read
pub closer_read : (entries : List Entry) (index : ℕ) (default : Entry) (closer after : Option ℕ) → index < length entries → closer ≡ closer_of (take index entries) → after ≡ closer_or closer (slice_index_or entries index default) → after ≡ closer_of (take (index + 1) entries)
closer_read entries index default closer after inside is next =
    let entry = slice_index_or entries index default in
    let read = read_again entries index default inside in
    next ∙ (ap (λ closer. closer_or closer entry) is ∙ (sym (closer_push (take index entries) entry) ∙ ap closer_of (sym (longer entries index entry inside read))))

-- after all of them
pub closer_of_all : (entries : List Entry) (index : ℕ) (closer : Option ℕ) → length entries ≤ index → closer ≡ closer_of (take index entries) → closer ≡ closer_of entries
closer_of_all entries index closer past is = is ∙ ap closer_of (take_all index entries past)

-- ---- whether a history has events of a metric

pub none_of_metric : (bundle : Bundle) (metric : ℕ) (entries : List Entry) (index : ℕ) → length entries ≤ index → list_any (is_entry_of bundle metric) (drop index entries) ≡ list_any (is_entry_of bundle metric) entries → list_any (is_entry_of bundle metric) entries ≡ false
none_of_metric bundle metric entries index past so_far = sym so_far ∙ ap (list_any (is_entry_of bundle metric)) (none_left entries index past)

one_of_metric : (test : Entry → Bool) (entry : Entry) (later : List Entry) (does : Bool) → test entry ≡ does → list_any test (entry ∷ later) ≡ (if does then true else list_any test later)
one_of_metric test entry later true is = rw is refl
one_of_metric test entry later false is = rw is refl

pub found_of_metric : (bundle : Bundle) (metric : ℕ) (entries : List Entry) (index : ℕ) (default : Entry) → index < length entries → is_entry_of bundle metric (slice_index_or entries index default) ≡ true
    → list_any (is_entry_of bundle metric) (drop index entries) ≡ list_any (is_entry_of bundle metric) entries → list_any (is_entry_of bundle metric) entries ≡ true
found_of_metric bundle metric entries index default inside is so_far =
    sym so_far ∙ (ap (list_any (is_entry_of bundle metric)) (read_at entries index (slice_index_or entries index default) inside (read_again entries index default inside)) ∙ one_of_metric (is_entry_of bundle metric) (slice_index_or entries index default) _ true is)

pub other_metric : (bundle : Bundle) (metric : ℕ) (entries : List Entry) (index : ℕ) (default : Entry) → index < length entries → is_entry_of bundle metric (slice_index_or entries index default) ≡ false
    → list_any (is_entry_of bundle metric) (drop index entries) ≡ list_any (is_entry_of bundle metric) entries → list_any (is_entry_of bundle metric) (drop (index + 1) entries) ≡ list_any (is_entry_of bundle metric) entries
other_metric bundle metric entries index default inside is so_far =
    sym (ap (list_any (is_entry_of bundle metric)) (read_at entries index (slice_index_or entries index default) inside (read_again entries index default inside)) ∙ one_of_metric (is_entry_of bundle metric) (slice_index_or entries index default) _ false is) ∙ so_far
