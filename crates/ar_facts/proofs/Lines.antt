-- Facts and their lines, one after another.
use Rattle.std.proofs.Common.{◌≡◌, ◌<◌, ◌≤◌, ℕ, zero, suc, ◌+◌, List, [], ◌∷◌, ◌++◌, length, map, drop, flat_map, Option, Some, None, refl, sym, ◌∙◌, ap, arith, append-nil}
use Rattle.std.specs.Prelude.{Err, Ok, OnOk, Result, option_and_then, option_map, slice_get, slice_index_or, unwrap_or}
use Rattle.std.proofs.Math.Seq.{drop-nil}
use Rattle.std.proofs.lemmas.List.{append_assoc}
use Rattle.std.proofs.lemmas.Option.{slice_get_read, slice_get_within}
use Rattle.ar_limits.specs.Replay.{Replays, Standing}
use Rattle.ar_limits.specs.Run.{effects}
use Rattle.ar_limits.specs.declared.counts.Counts.{Counts}
use Rattle.ar_limits.specs.declared.limits.Limits.{Limits}
use Rattle.ar_limits.specs.declared.phase.Phase.{Phase}
use Rattle.ar_bundle.proofs.Bundles.{of_each}
use Rattle.ar_bundle.specs.Bundle.{Bundle, events_of, finding_at, found_of}
use Rattle.ar_bundle.specs.declared.bundle.EventPart.{EventPart}
use Rattle.ar_bundle.specs.declared.finding.Finding.{Finding}
use Rattle.ar_bundle.specs.Lawful.{numbers_of}
use Rattle.ar_bundle.specs.declared.bundle.MetricPart.{MetricPart}
use Rattle.ar_bundle.specs.declared.bundle.RunPart.{RunPart}
use Rattle.ar_bundle.specs.declared.history.Entry.{Entry}
use Rattle.ar_facts.specs.Facts.{event_facts, facts_found, facts_of_events, facts_of_metrics, finding_facts, metric_facts, run_facts, stopped}
use Rattle.ar_facts.specs.Private.Entries.{AreFound, facts_of_entries}
use Rattle.ar_facts.specs.Report.{event_line, metric_line, run_line, run_text}

-- ---- lists, one element after another

-- what is left of a list that has an element at an index
pub rest_at : {A : Type 0} (xs : List A) (index : ℕ) (x : A) → slice_get xs index ≡ Some x → drop index xs ≡ x ∷ drop (suc index) xs
rest_at [] index x there = absurd cc
rest_at (first ∷ rest) zero x there = let same : first ≡ x = cc in ap (λ x. x ∷ rest) same
rest_at (first ∷ rest) (suc index) x there = rest_at rest index x there

pub none_left : {A : Type 0} (xs : List A) (index : ℕ) → length xs ≤ index → drop index xs ≡ []
none_left [] index past = drop-nil index
none_left (first ∷ rest) zero past = absurd (omega arith)
none_left (first ∷ rest) (suc index) past = none_left rest index (omega arith)

-- the same of an element that was read
pub read_at : {A : Type 0} (xs : List A) (index : ℕ) (x : A) → index < length xs → x ≡ slice_index_or xs index x → drop index xs ≡ x ∷ drop (index + 1) xs
read_at xs index x inside read =
    let next : index + 1 ≡ suc index = omega arith in
    rest_at xs index x (slice_get_read xs (length xs) index x refl inside read) ∙ ap (λ after. x ∷ drop after xs) (sym next)

-- texts: what was written comes before the texts of what is left
pub one_more : {A : Type 0} (text : A → List ℕ) (left later : List A) (x : A) (written total : List ℕ) → left ≡ x ∷ later → written ++ flat_map text left ≡ total → (written ++ text x) ++ flat_map text later ≡ total
one_more text left later x written total is so_far =
    append_assoc written (text x) (flat_map text later) ∙ (ap (λ left. written ++ flat_map text left) (sym is) ∙ so_far)

pub no_more : {A : Type 0} (text : A → List ℕ) (left : List A) (written total : List ℕ) → left ≡ [] → written ++ flat_map text left ≡ total → written ≡ total
no_more text left written total is so_far = sym (append-nil written) ∙ (ap (λ left. written ++ flat_map text left) (sym is) ∙ so_far)

-- lists: what was found comes before what is found of what is left
pub one_item : {A B : Type 0} (found_of : A → B) (left later : List A) (x : A) (found total : List B) (new : B) → left ≡ x ∷ later → new ≡ found_of x → found ++ map found_of left ≡ total → (found ++ new ∷ []) ++ map found_of later ≡ total
one_item found_of left later x found total new is same so_far =
    ap (λ last. (found ++ last ∷ []) ++ map found_of later) same
    ∙ (append_assoc found (found_of x ∷ []) (map found_of later) ∙ (ap (λ left. found ++ map found_of left) (sym is) ∙ so_far))

pub no_item : {A B : Type 0} (found_of : A → B) (left : List A) (found total : List B) → left ≡ [] → found ++ map found_of left ≡ total → found ≡ total
no_item found_of left found total is so_far = sym (append-nil found) ∙ (ap (λ left. found ++ map found_of left) (sym is) ∙ so_far)

-- ---- texts, one after another

pub on_ok : {A E P Q : Type 0} (result : Result A E) → (P → Q) → OnOk result P → OnOk result Q
on_ok (Ok x) f p = f p
on_ok (Err e) f p = tt

pub two : (before first after a b : List ℕ) → first ≡ before ++ a → after ≡ first ++ b → after ≡ before ++ (a ++ b)
two before first after a b one other = other ∙ (ap (λ text. text ++ b) one ∙ append_assoc before a b)

pub four : (before first second third after a b c d : List ℕ) → first ≡ before ++ a → second ≡ first ++ b → third ≡ second ++ c → after ≡ third ++ d → after ≡ before ++ (a ++ (b ++ (c ++ d)))
four before first second third after a b c d one other more last =
    two before first after a (b ++ (c ++ d)) one (two first second after b (c ++ d) other (two second third after c d more last))

pub three : (before first second after a b c : List ℕ) → first ≡ before ++ a → second ≡ first ++ b → after ≡ second ++ c → after ≡ before ++ (a ++ (b ++ c))
three before first second after a b c one other last = two before first after a (b ++ c) one (two first second after b c other last)

-- ---- findings

pub found_inside : (bundle : Bundle) (number : ℕ) (said : Finding) → finding_at bundle number ≡ Some said → number < length bundle.entries
found_inside bundle number said is = by_entry (slice_get bundle.entries number) refl is where
  by_entry : (entry : Option EventPart) → slice_get bundle.entries number ≡ entry → option_and_then (λ (entry : EventPart). found_of bundle entry.run entry.what) entry ≡ Some said → number < length bundle.entries
  by_entry None there none = absurd cc
  by_entry (Some entry) there none = slice_get_within bundle.entries number entry there

pub facts_found_are : (bundle : Bundle) (number : ℕ) (entry : EventPart) (said : Finding) → finding_at bundle number ≡ Some said → entry ≡ slice_index_or bundle.entries number entry → facts_found bundle number ≡ finding_facts bundle.metrics entry.what said
facts_found_are bundle number entry said is read =
    let there = slice_get_read bundle.entries (length bundle.entries) number entry refl (found_inside bundle number said is) read in
    let own : found_of bundle entry.run entry.what ≡ Some said = sym (ap (λ entry. option_and_then (λ (entry : EventPart). found_of bundle entry.run entry.what) entry) there) ∙ is in
    ap (λ entry. unwrap_or (option_and_then (λ (entry : EventPart). option_map (finding_facts bundle.metrics entry.what) (found_of bundle entry.run entry.what)) entry) stopped) there
    ∙ ap (λ said. unwrap_or (option_map (finding_facts bundle.metrics entry.what) said) stopped) own

-- ---- metrics

-- the facts of a metric that was read come before those of the metrics that are left
pub metric_read : (metrics : List MetricPart) (limits : List Limits) (phases : List Phase) (others : List Counts) (index : ℕ) (metric : MetricPart) (phase : Phase) (counts : Counts) (own : Limits) → index < length metrics → metric ≡ slice_index_or metrics index metric → index < length limits → own ≡ slice_index_or limits index own → slice_get phases index ≡ Some phase → slice_get others index ≡ Some counts
    → facts_of_metrics (drop index metrics) (drop index limits) (drop index phases) (drop index others) ≡ metric_facts metric own phase counts ∷ facts_of_metrics (drop (index + 1) metrics) (drop (index + 1) limits) (drop (index + 1) phases) (drop (index + 1) others)
metric_read metrics limits phases others index metric phase counts own inside read own_inside own_read phase_there counts_there =
    let next : index + 1 ≡ suc index = omega arith in
    rw next (rw (rest_at metrics index metric (slice_get_read metrics (length metrics) index metric refl inside read), rest_at limits index own (slice_get_read limits (length limits) index own refl own_inside own_read), rest_at phases index phase phase_there, rest_at others index counts counts_there) refl)

pub no_metric_left : (metrics : List MetricPart) (limits : List Limits) (phases : List Phase) (others : List Counts) (index : ℕ) → length metrics ≤ index → facts_of_metrics (drop index metrics) (drop index limits) (drop index phases) (drop index others) ≡ []
no_metric_left metrics limits phases others index past = rw (none_left metrics index past) refl

pub next_metric : (metrics : List MetricPart) (limits : List Limits) (phases : List Phase) (others : List Counts) (index : ℕ) (metric : MetricPart) (phase : Phase) (counts : Counts) (written : List ℕ) (own : Limits) (total : List ℕ) → index < length metrics → metric ≡ slice_index_or metrics index metric → index < length limits → own ≡ slice_index_or limits index own → slice_get phases index ≡ Some phase → slice_get others index ≡ Some counts
    → written ++ flat_map metric_line (facts_of_metrics (drop index metrics) (drop index limits) (drop index phases) (drop index others)) ≡ total → (written ++ metric_line (metric_facts metric own phase counts)) ++ flat_map metric_line (facts_of_metrics (drop (index + 1) metrics) (drop (index + 1) limits) (drop (index + 1) phases) (drop (index + 1) others)) ≡ total
next_metric metrics limits phases others index metric phase counts written own total inside read own_inside own_read phase_there counts_there so_far =
    one_more metric_line _ _ (metric_facts metric own phase counts) written total (metric_read metrics limits phases others index metric phase counts own inside read own_inside own_read phase_there counts_there) so_far

pub no_metric : (metrics : List MetricPart) (limits : List Limits) (phases : List Phase) (others : List Counts) (index : ℕ) (written total : List ℕ) → length metrics ≤ index → written ++ flat_map metric_line (facts_of_metrics (drop index metrics) (drop index limits) (drop index phases) (drop index others)) ≡ total → written ≡ total
no_metric metrics limits phases others index written total past so_far =
    no_more metric_line (facts_of_metrics (drop index metrics) (drop index limits) (drop index phases) (drop index others)) written total (no_metric_left metrics limits phases others index past) so_far

-- ---- events

-- the facts of an entry that was read come before those of the entries that are left
pub entry_read : (bundle : Bundle) (entries : List Entry) (index : ℕ) (entry : Entry) → index < length entries → entry ≡ slice_index_or entries index entry → facts_of_entries bundle (drop index entries) ≡ event_facts bundle entry.number entry.effect ∷ facts_of_entries bundle (drop (index + 1) entries)
entry_read bundle entries index entry inside read = ap (facts_of_entries bundle) (read_at entries index entry inside read)

pub no_entry : (bundle : Bundle) (entries : List Entry) (index : ℕ) → length entries ≤ index → facts_of_entries bundle (drop index entries) ≡ []
no_entry bundle entries index past = ap (facts_of_entries bundle) (none_left entries index past)

pub next_event : (bundle : Bundle) (entries : List Entry) (index : ℕ) (entry : Entry) (written total : List ℕ) → index < length entries → entry ≡ slice_index_or entries index entry → written ++ flat_map event_line (facts_of_entries bundle (drop index entries)) ≡ total
    → (written ++ event_line (event_facts bundle entry.number entry.effect)) ++ flat_map event_line (facts_of_entries bundle (drop (index + 1) entries)) ≡ total
next_event bundle entries index entry written total inside read so_far =
    one_more event_line _ _ (event_facts bundle entry.number entry.effect) written total (entry_read bundle entries index entry inside read) so_far

pub no_event : (bundle : Bundle) (entries : List Entry) (index : ℕ) (written total : List ℕ) → length entries ≤ index → written ++ flat_map event_line (facts_of_entries bundle (drop index entries)) ≡ total → written ≡ total
no_event bundle entries index written total past so_far =
    no_more event_line (facts_of_entries bundle (drop index entries)) written total (no_entry bundle entries index past) so_far

pub is_found : (bundle : Bundle) (entries : List Entry) (index : ℕ) (entry : Entry) → AreFound bundle entries → index < length entries → entry ≡ slice_index_or entries index entry → finding_at bundle entry.number ≡ Some entry.finding
is_found bundle entries index entry all inside read = of_each (λ (entry : Entry). finding_at bundle entry.number ≡ Some entry.finding) entries index entry all (slice_get_read entries (length entries) index entry refl inside read)

facts_are : (bundle : Bundle) (entries : List Entry) → facts_of_entries bundle entries ≡ facts_of_events bundle (numbers_of entries) (map (λ (entry : Entry). entry.effect) entries)
facts_are bundle [] = refl
facts_are bundle (entry ∷ entries) = ap (λ facts. event_facts bundle entry.number entry.effect ∷ facts) (facts_are bundle entries)

-- ---- a run

-- the facts of a run are those of its state and of its entries
pub run_facts_are : (bundle : Bundle) (run : RunPart) (entries : List Entry) (state : Standing) → Replays run.limits (events_of bundle (numbers_of entries)) state → map (λ (entry : Entry). entry.effect) entries ≡ effects run.limits (events_of bundle (numbers_of entries))
    → run_facts bundle run (numbers_of entries) ≡ record { name = run.name; phase = state.phase; metrics = facts_of_metrics bundle.metrics run.limits state.phases state.counts; events = facts_of_entries bundle entries }
run_facts_are bundle run entries state replays are =
    let phase = replays.phase_is in
    let phases = replays.phases_are in
    let counts = replays.counts_are in
    rw (phase, phases, counts, facts_are bundle entries, are) refl

-- and its lines those of these facts
pub run_is : (bundle : Bundle) (run : RunPart) (entries : List Entry) (state : Standing) (before lined counted all : List ℕ) → Replays run.limits (events_of bundle (numbers_of entries)) state → map (λ (entry : Entry). entry.effect) entries ≡ effects run.limits (events_of bundle (numbers_of entries))
    → lined ≡ before ++ run_line run.name state.phase → counted ≡ lined ++ flat_map metric_line (facts_of_metrics bundle.metrics run.limits state.phases state.counts) → all ≡ counted ++ flat_map event_line (facts_of_entries bundle entries) → all ≡ before ++ run_text (run_facts bundle run (numbers_of entries))
run_is bundle run entries state before lined counted all replays are line metrics events =
    three before lined counted all (run_line run.name state.phase) (flat_map metric_line (facts_of_metrics bundle.metrics run.limits state.phases state.counts)) (flat_map event_line (facts_of_entries bundle entries)) line metrics events
    ∙ ap (λ facts. before ++ run_text facts) (sym (run_facts_are bundle run entries state replays are))
