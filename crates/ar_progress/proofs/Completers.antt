-- The event that completed each metric, one event after another.
use Rattle.std.proofs.Common.{◌≡◌, ◌≢◌, ◌<◌, ℕ, ◌+◌, ◌==◌, ◌&&◌, Bool, true, false, cond, List, [], ◌∷◌, ◌++◌, find, length, replicate, take, Option, Some, None, refl, sym, ◌∙◌, ap, arith, subst}
use Rattle.std.specs.Prelude.{if◌then◌else◌, option_map, slice_get, slice_index_or, slice_set}
use Rattle.std.specs.Option.{option_or}
use Rattle.std.proofs.lemmas.Bool.Decides.{nat_tests}
use Rattle.std.proofs.lemmas.List.{get_or-replicate, length-replicate}
use Rattle.std.proofs.lemmas.List.Folds.{find-append}
use Rattle.std.proofs.lemmas.Option.{get_or_from_slice_get, slice_get-get_or, slice_get_within}
use Rattle.ar_limits.proofs.PrefixLemmas.{with_earlier-push}
use Rattle.ar_limits.specs.Metric.{is_complete}
use Rattle.ar_limits.specs.Prefixes.{with_earlier}
use Rattle.ar_limits.specs.declared.event.Event.{Event}
use Rattle.ar_limits.specs.declared.limits.Limits.{Limits}
use Rattle.ar_bundle.proofs.HistoryLemmas.{at_set_other, at_set_same}
use Rattle.ar_bundle.specs.Bundle.{Bundle, events_of, happened}
use Rattle.ar_bundle.specs.Lawful.{numbers_of}
use Rattle.ar_bundle.specs.declared.history.Entry.{Entry}
use Rattle.ar_progress.proofs.Histories.{longer, read_again}
use Rattle.ar_progress.specs.Private.Completers.{AreCompleters, IsOfMetric, known_completer, with_completer}
use Rattle.ar_progress.specs.Steps.{change_after, completer_of, leaves_complete, own_change, own_completer}
use Rattle.ar_progress.specs.declared.steps.Change.{Change}

-- ---- options

or_nothing : {A : Type 0} (found : Option A) → option_or found None ≡ found
or_nothing (Some x) = refl
or_nothing None = refl

map_or : {A B : Type 0} (f : A → B) (found : Option A) (x : A) (does : Bool) → option_map f (option_or found (cond does (Some x) None)) ≡ option_or (option_map f found) (cond does (Some (f x)) None)
map_or f (Some y) x does = refl
map_or f None x true = refl
map_or f None x false = refl

-- ---- one event more

abbrev tested : Bundle → List Limits → (metric : ℕ) → List Entry × Entry → Bool
tested bundle limits metric found = leaves_complete metric (change_after bundle limits found.0 found.1)

abbrev number_of : List Entry × Entry → ℕ
number_of found = found.1.number

completer_push : (bundle : Bundle) (limits : List Limits) (entries : List Entry) (entry : Entry) (metric : ℕ)
    → completer_of bundle limits (entries ++ entry ∷ []) metric ≡ option_or (completer_of bundle limits entries metric) (cond (leaves_complete metric (change_after bundle limits entries entry)) (Some entry.number) None)
completer_push bundle limits entries entry metric =
    ap (λ all. option_map number_of (find (tested bundle limits metric) all)) (with_earlier-push entries entry)
    ∙ (ap (option_map number_of) (find-append (tested bundle limits metric) (with_earlier entries) ((entries, entry) ∷ []))
    ∙ map_or number_of (find (tested bundle limits metric) (with_earlier entries)) (entries, entry) (leaves_complete metric (change_after bundle limits entries entry)))

-- where the event doesn't leave this metric complete
pub unchanged : (bundle : Bundle) (limits : List Limits) (entries : List Entry) (entry : Entry) (metric : ℕ) (change : Option Change) → change_after bundle limits entries entry ≡ change → leaves_complete metric change ≡ false
    → completer_of bundle limits (entries ++ entry ∷ []) metric ≡ completer_of bundle limits entries metric
unchanged bundle limits entries entry metric change changes passes =
    completer_push bundle limits entries entry metric
    ∙ (ap (λ (does : Bool). option_or (completer_of bundle limits entries metric) (cond does (Some entry.number) None)) (ap (leaves_complete metric) changes ∙ passes)
    ∙ or_nothing (completer_of bundle limits entries metric))

pub completed : (bundle : Bundle) (limits : List Limits) (entries : List Entry) (entry : Entry) (metric : ℕ) (change : Option Change) → change_after bundle limits entries entry ≡ change → leaves_complete metric change ≡ true
    → completer_of bundle limits (entries ++ entry ∷ []) metric ≡ option_or (completer_of bundle limits entries metric) (Some entry.number)
completed bundle limits entries entry metric change changes does =
    completer_push bundle limits entries entry metric
    ∙ ap (λ (does : Bool). option_or (completer_of bundle limits entries metric) (cond does (Some entry.number) None)) (ap (leaves_complete metric) changes ∙ does)

-- ---- the table

known : (bundle : Bundle) (limits : List Limits) (entries : List Entry) (completers : List (Option ℕ)) (metric : ℕ) → AreCompleters bundle limits entries completers → metric < length limits → slice_index_or completers metric None ≡ completer_of bundle limits entries metric
known bundle limits entries completers metric are below = get_or_from_slice_get completers metric (completer_of bundle limits entries metric) None (are metric below)

of_other : (metric own : ℕ) (complete : Bool) → metric ≢ own → (own == metric && complete) ≡ false
of_other metric own complete apart = let unlike : (own == metric) ≡ false = grind (arith, nat_tests) in rw unlike refl

of_own : (metric own : ℕ) (complete : Bool) → own ≡ metric → complete ≡ true → (own == metric && complete) ≡ true
of_own metric own complete same is = let alike : (own == metric) ≡ true = grind (arith, nat_tests) in rw (alike, is) refl

never : (metric own : ℕ) (complete : Bool) → complete ≡ false → (own == metric && complete) ≡ false
never metric own complete is = rw is (both (own == metric)) where
  both : (alike : Bool) → (alike && false) ≡ false
  both true = refl
  both false = refl

next_changed : (bundle : Bundle) (limits : List Limits) (entries : List Entry) (entry : Entry) (completers : List (Option ℕ)) (change : Change) (complete alike : Bool) (metric : ℕ) → AreCompleters bundle limits entries completers → change_after bundle limits entries entry ≡ Some change → change.metric < length limits
    → is_complete change.after.phase ≡ complete → (change.metric == metric) ≡ alike → metric < length limits
    → slice_get (if complete then slice_set completers change.metric (option_or (slice_index_or completers change.metric None) (Some entry.number)) else completers) metric ≡ Some (completer_of bundle limits (entries ++ entry ∷ []) metric)
next_changed bundle limits entries entry completers change false alike metric are changes inside is same below =
    are metric below ∙ ap Some (sym (unchanged bundle limits entries entry metric (Some change) changes (never metric change.metric (is_complete change.after.phase) is)))
next_changed bundle limits entries entry completers change true false metric are changes inside is same below =
    let apart : metric ≢ change.metric = grind (arith, nat_tests) in
    at_set_other completers change.metric metric _ apart
    ∙ (are metric below ∙ ap Some (sym (unchanged bundle limits entries entry metric (Some change) changes (of_other metric change.metric (is_complete change.after.phase) apart))))
next_changed bundle limits entries entry completers change true true metric are changes inside is same below =
    let own : change.metric ≡ metric = grind (arith, nat_tests) in
    let room : change.metric < length completers = slice_get_within completers change.metric _ (are change.metric inside) in
    ap (slice_get (slice_set completers change.metric (option_or (slice_index_or completers change.metric None) (Some entry.number)))) (sym own)
    ∙ (at_set_same completers change.metric _ room
    ∙ (ap (λ (found : Option ℕ). Some (option_or found (Some entry.number))) (known bundle limits entries completers change.metric are inside)
    ∙ (ap (λ metric. Some (option_or (completer_of bundle limits entries metric) (Some entry.number))) own
    ∙ ap Some (sym (completed bundle limits entries entry metric (Some change) changes (of_own metric change.metric (is_complete change.after.phase) own is))))))

next_table : (bundle : Bundle) (limits : List Limits) (entries : List Entry) (entry : Entry) (completers : List (Option ℕ)) (change : Option Change) → AreCompleters bundle limits entries completers → change_after bundle limits entries entry ≡ change → IsOfMetric (length limits) change
    → AreCompleters bundle limits (entries ++ entry ∷ []) (with_completer completers change entry.number)
next_table bundle limits entries entry completers None are changes inside metric below =
    are metric below ∙ ap Some (sym (unchanged bundle limits entries entry metric None changes refl))
next_table bundle limits entries entry completers (Some change) are changes inside metric below =
    next_changed bundle limits entries entry completers change (is_complete change.after.phase) (change.metric == metric) metric are changes inside refl refl below

-- what an event that was read did
change_is : (bundle : Bundle) (limits : List Limits) (earlier : List Entry) (entry : Entry) (event : Event) (change : Option Change) → happened bundle entry.number ≡ Some event → own_change limits (events_of bundle (numbers_of earlier)) event ≡ change → change_after bundle limits earlier entry ≡ change
change_is bundle limits earlier entry event change is changes = rw is changes

-- and the table after it
pub completers_read : (bundle : Bundle) (limits : List Limits) (entries : List Entry) (index : ℕ) (default : Entry) (event : Event) (change : Option Change) (completers after : List (Option ℕ)) → index < length entries → happened bundle (slice_index_or entries index default).number ≡ Some event → own_change limits (events_of bundle (numbers_of (take index entries))) event ≡ change → IsOfMetric (length limits) change
    → AreCompleters bundle limits (take index entries) completers → after ≡ with_completer completers change (slice_index_or entries index default).number → AreCompleters bundle limits (take (index + 1) entries) after
completers_read bundle limits entries index default event change completers after inside is changes below are next =
    let entry = slice_index_or entries index default in
    let read = read_again entries index default inside in
    let table = next_table bundle limits (take index entries) entry completers change are (change_is bundle limits (take index entries) entry event change is changes) below in
    subst (λ entries. AreCompleters bundle limits entries after) (sym (longer entries index entry inside read)) (subst (AreCompleters bundle limits (take index entries ++ entry ∷ [])) (sym next) table)

-- before any event
pub no_completers : (bundle : Bundle) (limits : List Limits) → AreCompleters bundle limits [] (replicate (length limits) None)
unfolding with_earlier
no_completers bundle limits metric below =
    let room : metric < length (replicate (length limits) (let nothing : Option ℕ = None in nothing)) = rw (length-replicate (length limits) (let nothing : Option ℕ = None in nothing)) below in
    slice_get-get_or _ metric None room ∙ ap Some (get_or-replicate (length limits) metric None None below)

-- ---- the event that completed the metric of one event

pub room_of : (bundle : Bundle) (limits : List Limits) (entries : List Entry) (completers : List (Option ℕ)) (change : Option Change) → AreCompleters bundle limits entries completers → IsOfMetric (length limits) change → IsOfMetric (length completers) change
room_of bundle limits entries completers None are below = tt
room_of bundle limits entries completers (Some change) are below = slice_get_within completers change.metric _ (are change.metric below)

pub known_is : (bundle : Bundle) (limits : List Limits) (entries : List Entry) (completers : List (Option ℕ)) (change : Option Change) → AreCompleters bundle limits entries completers → IsOfMetric (length limits) change → known_completer completers change ≡ own_completer bundle limits entries change
known_is bundle limits entries completers None are below = refl
known_is bundle limits entries completers (Some change) are below = known bundle limits entries completers change.metric are below
