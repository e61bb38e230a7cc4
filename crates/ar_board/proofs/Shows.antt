-- What a look at a run shows, and when a worker's entries are those of its receipts.
use Rattle.std.proofs.Common.{◌≡◌, ◌≢◌, ◌<◌, ◌≤◌, ℕ, zero, suc, ◌+◌, ◌==◌, Bool, true, false, List, [], ◌∷◌, ◌++◌, length, drop, take, get_or, Some, None, refl, sym, ◌∙◌, ap, subst, arith}
use Rattle.std.specs.Prelude.{slice_get, slice_index_or}
use Rattle.std.proofs.lemmas.Bool.Decides.{nat_tests}
use Rattle.std.proofs.lemmas.List.{length-map, take_all}
use Rattle.std.proofs.lemmas.Option.{get_or_from_slice_get, slice_get_read}
use Rattle.ar_limits.proofs.LawLemmas.{one_for_each_metric}
use Rattle.ar_limits.specs.Run.{metric_phases, run_phase}
use Rattle.ar_limits.specs.declared.phase.Phase.{Phase}
use Rattle.ar_bundle.specs.Bundle.{Bundle, events_of}
use Rattle.ar_board.specs.Cell.{ArePosts, Cell, IsFresh, IsKept, IsSnapshot, authors_at, history_at, posts_of}
use Rattle.ar_bundle.specs.Lawful.{numbers_of}
use Rattle.ar_board.specs.Receipts.{posted_by, posted_from, posted_if, received, received_if}
use Rattle.ar_board.specs.Private.KeptRuns.{IsSoundCell, IsNextOwn, cell_of, kept_of, own_from}
use Rattle.ar_bundle.specs.declared.history.Entry.{Entry}
use Rattle.ar_bundle.specs.declared.bundle.RunPart.{RunPart}
use Rattle.ar_board.specs.declared.cell.kept_run.KeptRun.{KeptRun as Declared}
use Rattle.ar_board.specs.declared.cell.receipt.Receipt.{Receipt}
use Rattle.ar_board.specs.declared.cell.snapshot.Snapshot.{Snapshot}
use Rattle.ar_bundle.proofs.Bundles.{entry_at as entry_of}
use Rattle.ar_board.proofs.Cells.{authors_are, history_is, kept_at}

-- ---- phases

one_more : (phases : List Phase) (metric : ℕ) (phase : Phase) → slice_get phases metric ≡ Some phase → take metric phases ++ phase ∷ [] ≡ take (suc metric) phases
one_more [] metric phase there = absurd cc
one_more (first ∷ phases) zero phase there = let same : phase ≡ first = cc in ap (λ (phase : Phase). phase ∷ []) same
one_more (first ∷ phases) (suc metric) phase there = ap (λ (phases : List Phase). first ∷ phases) (one_more phases metric phase there)

pub phases_next : (phases so_far : List Phase) (metric : ℕ) (phase : Phase) → so_far ≡ take metric phases → slice_get phases metric ≡ Some phase → so_far ++ phase ∷ [] ≡ take (metric + 1) phases
phases_next phases so_far metric phase is there =
    let next : suc metric ≡ metric + 1 = omega arith in
    ap (λ (phases : List Phase). phases ++ phase ∷ []) is ∙ (one_more phases metric phase there ∙ ap (λ (metric : ℕ). take metric phases) next)

pub phases_all : (phases so_far : List Phase) (metric : ℕ) → so_far ≡ take metric phases → length phases ≤ metric → so_far ≡ phases
phases_all phases so_far metric is all = is ∙ take_all metric phases all

-- ---- a worker's entries

posted_by_test : (place worker author : ℕ) (entry : Entry) (others : List (ℕ × ℕ)) (test : Bool) → (author == worker) ≡ test → posted_if (author == worker) place entry others ≡ posted_if test place entry others
posted_by_test place worker author entry others test is = ap (λ (test : Bool). posted_if test place entry others) is

own_from_at : (worker base : ℕ) (entries : List Entry) (authors : List ℕ) (place : ℕ) (entry : Entry) (author : ℕ) → slice_get entries place ≡ Some entry → slice_get authors place ≡ Some author
    → posted_from base worker (drop place entries) (drop place authors) ≡ posted_if (author == worker) base entry (posted_from (suc base) worker (drop (suc place) entries) (drop (suc place) authors))
own_from_at worker base [] authors place entry author there own = absurd cc
own_from_at worker base (first ∷ entries) [] place entry author there own = absurd cc
own_from_at worker base (first ∷ entries) (other ∷ authors) zero entry author there own =
    let same : first ≡ entry = cc in
    let same_author : other ≡ author = cc in
    rw (same, same_author) refl
own_from_at worker base (first ∷ entries) (other ∷ authors) (suc place) entry author there own = own_from_at worker base entries authors place entry author there own

entry_at : (entries : List Entry) (place : ℕ) → place < length entries → (entry : Entry) × (slice_get entries place ≡ Some entry)
entry_at [] place inside = absurd (omega arith)
entry_at (first ∷ rest) zero inside = (first, refl)
entry_at (first ∷ rest) (suc place) inside = entry_at rest place (omega arith)

pub next_skip : (worker : ℕ) (entries : List Entry) (authors : List ℕ) (place author : ℕ) → length authors ≡ length entries → place < length authors → author ≡ slice_index_or authors place author → author ≢ worker → own_from worker entries authors place ≡ own_from worker entries authors (place + 1)
next_skip worker entries authors place author as_many inside read away =
    let there : slice_get authors place ≡ Some author = slice_get_read authors (length authors) place author refl inside read in
    let unlike : (author == worker) ≡ false = grind (arith, nat_tests) in
    with_entry (entry_at entries place (omega arith)) there unlike
  where
    with_entry : (entry : Entry) × (slice_get entries place ≡ Some entry) → slice_get authors place ≡ Some author → (author == worker) ≡ false → own_from worker entries authors place ≡ own_from worker entries authors (place + 1)
    with_entry entry there unlike =
        let next : suc place ≡ place + 1 = omega arith in
        own_from_at worker place entries authors place entry.0 author entry.1 there
        ∙ (posted_by_test place worker author entry.0 (own_from worker entries authors (suc place)) false unlike ∙ ap (own_from worker entries authors) next)

pub next_here : (worker : ℕ) (entries : List Entry) (authors : List ℕ) (from place author : ℕ) → length authors ≡ length entries → place < length authors → author ≡ slice_index_or authors place author → author ≡ worker
    → own_from worker entries authors from ≡ own_from worker entries authors place → IsNextOwn worker entries authors from (Some place)
next_here worker entries authors from place author as_many inside read same skipped =
    let there : slice_get authors place ≡ Some author = slice_get_read authors (length authors) place author refl inside read in
    let like : (author == worker) ≡ true = grind (arith, nat_tests) in
    let entry = entry_at entries place (omega arith) in
    (entry.0, entry.1, skipped ∙ (own_from_at worker place entries authors place entry.0 author entry.1 there ∙ posted_by_test place worker author entry.0 (own_from worker entries authors (suc place)) true like))

nothing_from : (worker base : ℕ) (entries : List Entry) (authors : List ℕ) (place : ℕ) → length authors ≤ place → posted_from base worker (drop place entries) (drop place authors) ≡ []
nothing_from worker base [] [] zero past = refl
nothing_from worker base [] [] (suc place) past = refl
nothing_from worker base [] (author ∷ authors) zero past = refl
nothing_from worker base [] (author ∷ authors) (suc place) past = refl
nothing_from worker base (entry ∷ entries) [] zero past = refl
nothing_from worker base (entry ∷ entries) [] (suc place) past = by_rest (drop place entries) where
  by_rest : (rest : List Entry) → posted_from base worker rest [] ≡ []
  by_rest [] = refl
  by_rest (entry ∷ rest) = refl
nothing_from worker base (entry ∷ entries) (author ∷ authors) zero past = absurd (omega arith)
nothing_from worker base (entry ∷ entries) (author ∷ authors) (suc place) past = nothing_from worker base entries authors place (omega arith)

pub next_end : (worker : ℕ) (entries : List Entry) (authors : List ℕ) (from place : ℕ) → length authors ≤ place → own_from worker entries authors from ≡ own_from worker entries authors place → IsNextOwn worker entries authors from None
next_end worker entries authors from place past skipped = skipped ∙ nothing_from worker place entries authors place past

-- ---- receipts

received_by_test : (run : ℕ) (receipt : Receipt) (others : List (ℕ × ℕ)) (test : Bool) → (receipt.run == run) ≡ test → received_if (receipt.run == run) receipt others ≡ received_if test receipt others
received_by_test run receipt others test is = ap (λ (test : Bool). received_if test receipt others) is

received_at : (run : ℕ) (receipts : List Receipt) (place : ℕ) (receipt : Receipt) → slice_get receipts place ≡ Some receipt → received run (drop place receipts) ≡ received_if (receipt.run == run) receipt (received run (drop (suc place) receipts))
received_at run [] place receipt there = absurd cc
received_at run (first ∷ receipts) zero receipt there = let same : first ≡ receipt = cc in rw same refl
received_at run (first ∷ receipts) (suc place) receipt there = received_at run receipts place receipt there

-- a worker's entries from a position on are its receipts from one on just where all are
pub record AgreeFrom (run worker : ℕ) (entries : List Entry) (authors : List ℕ) (receipts : List Receipt) (from place : ℕ) : Type 0 where
  pub all : own_from worker entries authors from ≡ received run (drop place receipts) → posted_from 0 worker entries authors ≡ received run receipts
  pub rest : posted_from 0 worker entries authors ≡ received run receipts → own_from worker entries authors from ≡ received run (drop place receipts)

pub agree_at_first : (run worker : ℕ) (entries : List Entry) (authors : List ℕ) (receipts : List Receipt) → AgreeFrom run worker entries authors receipts 0 0
agree_at_first run worker entries authors receipts = record { all = λ same. same; rest = λ same. same }

-- a receipt for another run is skipped
pub agree_skip : (run worker : ℕ) (entries : List Entry) (authors : List ℕ) (receipts : List Receipt) (from place : ℕ) (receipt : Receipt) → place < length receipts → receipt ≡ slice_index_or receipts place receipt → receipt.run ≢ run → AgreeFrom run worker entries authors receipts from place → AgreeFrom run worker entries authors receipts from (place + 1)
agree_skip run worker entries authors receipts from place receipt inside read away agree =
    let there : slice_get receipts place ≡ Some receipt = slice_get_read receipts (length receipts) place receipt refl inside read in
    let unlike : (receipt.run == run) ≡ false = grind (arith, nat_tests) in
    let next : suc place ≡ place + 1 = omega arith in
    let skipped : received run (drop place receipts) ≡ received run (drop (place + 1) receipts) = received_at run receipts place receipt there
    ∙ (received_by_test run receipt (received run (drop (suc place) receipts)) false unlike ∙ ap (λ (place : ℕ). received run (drop place receipts)) next) in
    record { all = λ same. agree.all (same ∙ sym skipped); rest = λ same. agree.rest same ∙ skipped }

-- the next receipt for the run, and the next entry
own_receipt : (run : ℕ) (receipts : List Receipt) (place : ℕ) (receipt : Receipt) → place < length receipts → receipt ≡ slice_index_or receipts place receipt → receipt.run ≡ run → received run (drop place receipts) ≡ (receipt.number, receipt.place) ∷ received run (drop (place + 1) receipts)
own_receipt run receipts place receipt inside read same =
    let there : slice_get receipts place ≡ Some receipt = slice_get_read receipts (length receipts) place receipt refl inside read in
    let like : (receipt.run == run) ≡ true = grind (arith, nat_tests) in
    let next : suc place ≡ place + 1 = omega arith in
    received_at run receipts place receipt there ∙ (received_by_test run receipt (received run (drop (suc place) receipts)) true like ∙ ap (λ (at : ℕ). (receipt.number, receipt.place) ∷ received run (drop at receipts)) next)

same_head : (a b : ℕ × ℕ) (xs ys : List (ℕ × ℕ)) → a ∷ xs ≡ b ∷ ys → a ≡ b
same_head a b xs ys same = cc

same_tail : (a b : ℕ × ℕ) (xs ys : List (ℕ × ℕ)) → a ∷ xs ≡ b ∷ ys → xs ≡ ys
same_tail a b xs ys same = cc

pub agree_next : (run worker : ℕ) (entries : List Entry) (authors : List ℕ) (receipts : List Receipt) (from place at : ℕ) (receipt : Receipt) (entry : Entry) → place < length receipts → receipt ≡ slice_index_or receipts place receipt → receipt.run ≡ run
    → own_from worker entries authors from ≡ (entry.number, at) ∷ own_from worker entries authors (suc at) → entry.number ≡ receipt.number → at ≡ receipt.place → AgreeFrom run worker entries authors receipts from place → AgreeFrom run worker entries authors receipts (at + 1) (place + 1)
agree_next run worker entries authors receipts from place at receipt entry inside read own next same_number same_place agree =
    let head : received run (drop place receipts) ≡ (receipt.number, receipt.place) ∷ received run (drop (place + 1) receipts) = own_receipt run receipts place receipt inside read own in
    let after : suc at ≡ at + 1 = omega arith in
    let first : own_from worker entries authors from ≡ (receipt.number, receipt.place) ∷ own_from worker entries authors (at + 1) = next
    ∙ (ap (λ (number : ℕ). (number, at) ∷ own_from worker entries authors (suc at)) same_number
    ∙ (ap (λ (place : ℕ). (receipt.number, place) ∷ own_from worker entries authors (suc at)) same_place ∙ ap (λ (from : ℕ). (receipt.number, receipt.place) ∷ own_from worker entries authors from) after)) in
    record {
      all = λ same. agree.all (first ∙ (ap (λ (others : List (ℕ × ℕ)). (receipt.number, receipt.place) ∷ others) same ∙ sym head));
      rest = λ same. same_tail (receipt.number, receipt.place) (receipt.number, receipt.place) (own_from worker entries authors (at + 1)) (received run (drop (place + 1) receipts)) (sym first ∙ (agree.rest same ∙ head));
    }

-- another entry, or none, shows that they aren't the same
pub differ_at : (run worker : ℕ) (entries : List Entry) (authors : List ℕ) (receipts : List Receipt) (from place at : ℕ) (receipt : Receipt) (entry : Entry) → place < length receipts → receipt ≡ slice_index_or receipts place receipt → receipt.run ≡ run
    → own_from worker entries authors from ≡ (entry.number, at) ∷ own_from worker entries authors (suc at) → ((entry.number ≡ receipt.number) × (at ≡ receipt.place) → ⊥) → AgreeFrom run worker entries authors receipts from place → posted_from 0 worker entries authors ≡ received run receipts → ⊥
differ_at run worker entries authors receipts from place at receipt entry inside read own next apart agree same =
    let head = own_receipt run receipts place receipt inside read own in
    let both : (entry.number, at) ≡ (receipt.number, receipt.place) = same_head (entry.number, at) (receipt.number, receipt.place) (own_from worker entries authors (suc at)) (received run (drop (place + 1) receipts)) (sym next ∙ (agree.rest same ∙ head)) in
    apart (ap (λ (pair : ℕ × ℕ). pair.0) both, ap (λ (pair : ℕ × ℕ). pair.1) both)

pub differ_none : (run worker : ℕ) (entries : List Entry) (authors : List ℕ) (receipts : List Receipt) (from place : ℕ) (receipt : Receipt) → place < length receipts → receipt ≡ slice_index_or receipts place receipt → receipt.run ≡ run
    → own_from worker entries authors from ≡ [] → AgreeFrom run worker entries authors receipts from place → posted_from 0 worker entries authors ≡ received run receipts → ⊥
differ_none run worker entries authors receipts from place receipt inside read own none agree same =
    let head = own_receipt run receipts place receipt inside read own in
    let empty : [] ≡ (receipt.number, receipt.place) ∷ received run (drop (place + 1) receipts) = sym none ∙ (agree.rest same ∙ head) in
    absurd cc

received_past : (run : ℕ) (receipts : List Receipt) (place : ℕ) → length receipts ≤ place → received run (drop place receipts) ≡ []
received_past run [] zero past = refl
received_past run [] (suc place) past = refl
received_past run (receipt ∷ receipts) zero past = absurd (omega arith)
received_past run (receipt ∷ receipts) (suc place) past = received_past run receipts place (omega arith)

pub agree_at_last : (run worker : ℕ) (entries : List Entry) (authors : List ℕ) (receipts : List Receipt) (from place : ℕ) → length receipts ≤ place → own_from worker entries authors from ≡ [] → AgreeFrom run worker entries authors receipts from place → posted_from 0 worker entries authors ≡ received run receipts
agree_at_last run worker entries authors receipts from place past none agree = agree.all (none ∙ sym (received_past run receipts place past))

pub differ_at_last : (run worker : ℕ) (entries : List Entry) (authors : List ℕ) (receipts : List Receipt) (from place at : ℕ) (entry : Entry) → length receipts ≤ place → own_from worker entries authors from ≡ (entry.number, at) ∷ own_from worker entries authors (suc at) → AgreeFrom run worker entries authors receipts from place → posted_from 0 worker entries authors ≡ received run receipts → ⊥
differ_at_last run worker entries authors receipts from place at entry past next agree same =
    let empty : (entry.number, at) ∷ own_from worker entries authors (suc at) ≡ [] = sym next ∙ (agree.rest same ∙ received_past run receipts place past) in
    absurd cc

-- ---- a run of a cell

-- what a cell keeps of a run that is there
pub record IsAt (named : Bundle) (workers lock : ℕ) (bundle : Bundle) (cell : Cell) (run : ℕ) (kept : Declared) : Type 0 where
  pub part : RunPart
  pub there : slice_get named.runs run ≡ Some part
  pub is : IsKept bundle workers lock run part.limits (kept_of kept)
  pub history : history_at cell run ≡ kept.run.entries.items
  pub authors : authors_at cell run ≡ kept.authors.items
  pub phases : length kept.run.state.phases ≡ length kept.run.state.limits

pub kept_run : (named : Bundle) (workers lock : ℕ) (bundle : Bundle) (runs : List Declared) (stored : List Bool) (total run : ℕ) (kept : Declared) (cell : Cell) → IsSoundCell named workers lock bundle runs stored total → cell_of runs total ≡ cell → run < length named.runs → kept ≡ get_or runs run kept → IsAt named workers lock bundle cell run kept
kept_run named workers lock bundle runs stored total run kept cell inside seen below read =
    let many : length runs ≡ length bundle.runs = sym (length-map runs kept_of) ∙ inside.cell.as_many in
    let same = ap (λ (bundle : Bundle). length bundle.runs) inside.is_named in
    let there : slice_get runs run ≡ Some kept = slice_get_read runs (length runs) run kept refl (omega arith) read in
    let part = entry_of bundle.runs run (omega arith) in
    let is : IsKept bundle workers lock run part.0.limits (kept_of kept) = inside.cell.each run part.0 (kept_of kept) part.1 (kept_at runs run kept there) in
    let phases = ap length is.state.phases_are in
    let limits = ap length is.state.limits_are in
    let one = one_for_each_metric part.0.limits (events_of bundle (numbers_of kept.run.entries.items)) in
    record {
      part = part.0;
      there = subst (λ (bundle : Bundle). slice_get bundle.runs run ≡ Some part.0) inside.is_named part.1;
      is = is;
      history = subst (λ (cell : Cell). history_at cell run ≡ kept.run.entries.items) seen (history_is runs total run kept there);
      authors = subst (λ (cell : Cell). authors_at cell run ≡ kept.authors.items) seen (authors_are runs total run kept there);
      phases = phases ∙ (one.0 ∙ sym limits);
    }

pub counted_by : (named : Bundle) (workers lock : ℕ) (bundle : Bundle) (cell : Cell) (run worker posts : ℕ) (kept : Declared) → IsAt named workers lock bundle cell run kept → worker < workers → posts ≡ get_or kept.posts.items worker posts → posts ≡ posts_of worker (authors_at cell run)
counted_by named workers lock bundle cell run worker posts kept at inside read =
    let counted = get_or_from_slice_get kept.posts.items worker (posts_of worker kept.authors.items) posts (at.is.posts.counted worker inside) in
    read ∙ (counted ∙ ap (posts_of worker) (sym at.authors))

pub fresh_of : (named : Bundle) (workers lock : ℕ) (bundle : Bundle) (cell : Cell) (run worker : ℕ) (kept : Declared) (receipts : List Receipt) → IsAt named workers lock bundle cell run kept → posted_by worker kept.run.entries.items kept.authors.items ≡ received run receipts → IsFresh cell run worker receipts
fresh_of named workers lock bundle cell run worker kept receipts at same = rw (at.history, at.authors) same

pub of_fresh : (named : Bundle) (workers lock : ℕ) (bundle : Bundle) (cell : Cell) (run worker : ℕ) (kept : Declared) (receipts : List Receipt) → IsAt named workers lock bundle cell run kept → IsFresh cell run worker receipts → posted_by worker kept.run.entries.items kept.authors.items ≡ received run receipts
of_fresh named workers lock bundle cell run worker kept receipts at fresh = ap (λ (authors : List ℕ). posted_by worker kept.run.entries.items authors) (sym at.authors) ∙ (ap (λ (history : List Entry). posted_by worker history (authors_at cell run)) (sym at.history) ∙ fresh)

pub shown_as : (named : Bundle) (workers lock : ℕ) (bundle : Bundle) (cell : Cell) (run : ℕ) (kept : Declared) (shown : Snapshot) → IsAt named workers lock bundle cell run kept → bundle ≡ named → shown.phase ≡ kept.run.state.phase → shown.metrics.items ≡ kept.run.state.phases → shown.posts.items ≡ kept.posts.items → IsSnapshot named workers run cell shown
shown_as named workers lock bundle cell run kept shown at is_named phase metrics posts =
    let events : events_of bundle (numbers_of kept.run.entries.items) ≡ events_of named (numbers_of (history_at cell run)) = ap (λ (bundle : Bundle). events_of bundle (numbers_of kept.run.entries.items)) is_named ∙ ap (λ (history : List Entry). events_of named (numbers_of history)) (sym at.history) in
    record {
      part = at.part;
      there = at.there;
      phase = phase ∙ (at.is.state.phase_is ∙ ap (run_phase at.part.limits) events);
      metrics = metrics ∙ (at.is.state.phases_are ∙ ap (metric_phases at.part.limits) events);
      posts = subst (λ (authors : List ℕ). ArePosts workers authors shown.posts.items) (sym at.authors) (subst (ArePosts workers kept.authors.items) (sym posts) at.is.posts);
    }
