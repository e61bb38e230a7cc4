-- A cell that gets one entry more.
use Rattle.std.proofs.Common.{◌≡◌, ◌≢◌, ◌<◌, ◌≤◌, ℕ, zero, suc, ◌+◌, ◌==◌, Bool, true, false, List, [], ◌∷◌, ◌++◌, length, map, set, get_or, Some, refl, sym, ◌∙◌, ap, subst, arith}
use Rattle.std.specs.Prelude.{cond, option_map, slice_get}
use Rattle.std.specs.List.{AllByRecursion, count_by, sum_by}
use Rattle.std.proofs.lemmas.Bool.Decides.{nat_tests}
use Rattle.std.proofs.lemmas.List.{get_or-set_other, length-map, length-set, length_push, map-set}
use Rattle.std.proofs.lemmas.List.Sums.{count_by-le-length, sum_by-set, sum_by_push}
use Rattle.std.proofs.lemmas.Option.{get_or_from_slice_get, slice_get-map, slice_get_read, slice_get_within}
use Rattle.ar_limits.specs.Replay.{IsOfMetricBelow, Replays, most_events}
use Rattle.ar_limits.specs.Run.{effect_of}
use Rattle.ar_limits.specs.declared.event.Effect.{Effect}
use Rattle.ar_limits.specs.declared.event.Event.{Event}
use Rattle.ar_limits.specs.declared.limits.Limits.{Limits}
use Rattle.ar_bundle.specs.Sound.{IsRun, count_of, sizes_from, entries_of, sizes_of}
use Rattle.ar_bundle.specs.Bundle.{Bundle, events_of, finding_at, happened, run_at}
use Rattle.ar_board.specs.Locks.{lock_of}
use Rattle.ar_board.specs.Cell.{ArePosts, Cell, IsCell, IsKept, IsPosted, IsUnder, KeptRun, IsInHistory, authors_at, authors_of, histories_of, history_at}
use Rattle.ar_board.specs.Posting.{added, posted}
use Rattle.ar_bundle.specs.Lawful.{AreHistories, AtMostOnce, IsHistory, numbers_of, times_in}
use Rattle.ar_board.specs.Private.KeptRuns.{CanTake, HasRoom, IsSoundCell, IsPushed, IsTable, cell_of, is_number_among, kept_of}
use Rattle.ar_bundle.specs.declared.bundle.EventPart.{EventPart}
use Rattle.ar_bundle.specs.declared.bundle.RunPart.{RunPart}
use Rattle.ar_bundle.specs.declared.finding.Finding.{Finding}
use Rattle.ar_bundle.specs.declared.history.Entry.{Entry}
use Rattle.ar_board.specs.declared.cell.kept_run.KeptRun.{KeptRun as Declared}
use Rattle.ar_board.specs.declared.cell.posted.Posted.{Posted}
use Rattle.ar_bundle.proofs.Bundles.{entry_at, of_each, run_of_number}
use Rattle.ar_bundle.proofs.HistoryLemmas.{at_set_other, at_set_same, few_happen, all_push, events_push, history_push, numbers_push, times_push}
use Rattle.ar_board.proofs.Places.{absent, among_last, among_other, present, times_own}
use Rattle.ar_bundle.proofs.Room.{has_room}

-- ---- lists

set_same : {A : Type 0} (xs : List A) (at : ℕ) (x y : A) → at < length xs → slice_get (set xs at x) at ≡ Some y → x ≡ y
set_same xs at x y inside there = let same = sym (at_set_same xs at x inside) ∙ there in cc

-- what is at an index of a changed list is the new one, or what was there
pub cases_at : {A : Type 0} (P : ℕ → A → Type 0) (xs : List A) (at other : ℕ) (x y : A) → at < length xs → P at x → ((z : A) → other ≢ at → slice_get xs other ≡ Some z → P other z) → slice_get (set xs at x) other ≡ Some y → P other y
cases_at P xs at other x y inside new old there = by_test (other == at) refl where
  by_test : (test : Bool) → (other == at) ≡ test → P other y
  by_test true is =
      let here : at ≡ other = grind (arith, nat_tests) in
      let same : x ≡ y = set_same xs at x y inside (subst (λ (place : ℕ). slice_get (set xs at x) place ≡ Some y) (sym here) there) in
      subst (λ (place : ℕ). P place y) here (subst (P at) same new)
  by_test false is = let away : other ≢ at = grind (arith, nat_tests) in old y away (sym (at_set_other xs at other x away) ∙ there)

-- ---- how many entries a run has

count_at : (entries : List EventPart) (from run : ℕ) (parts : List RunPart) (d : ℕ) → run < length parts → get_or (sizes_from entries from parts) run d ≡ count_of entries (from + run)
count_at entries from run [] d inside = absurd (omega arith)
count_at entries from zero (part ∷ parts) d inside = ap (count_of entries) (omega arith)
count_at entries from (suc run) (part ∷ parts) d inside = count_at entries (suc from) run parts d (omega arith) ∙ ap (count_of entries) (omega arith)

pub size_at : (bundle : Bundle) (run d : ℕ) → run < length bundle.runs → get_or (sizes_of bundle) run d ≡ entries_of bundle run
size_at bundle run d inside = count_at bundle.entries 0 run bundle.runs d inside ∙ ap (entries_of bundle) (omega arith)

-- ---- histories of a cell

pub histories_each : (bundle : Bundle) (from : ℕ) (parts : List RunPart) (histories : List (List Entry)) → length histories ≡ length parts
    → ((run : ℕ) (part : RunPart) (history : List Entry) → slice_get parts run ≡ Some part → slice_get histories run ≡ Some history → IsHistory bundle (from + run) part.limits history)
    → AreHistories bundle from parts histories
histories_each bundle from [] [] many each = tt
histories_each bundle from [] (history ∷ histories) many each = absurd (omega arith)
histories_each bundle from (part ∷ parts) [] many each = absurd (omega arith)
histories_each bundle from (part ∷ parts) (history ∷ histories) many each =
    let here : from + zero ≡ from = omega arith in (
      subst (λ (at : ℕ). IsHistory bundle at part.limits history) here (each zero part history refl refl),
      histories_each bundle (suc from) parts histories (omega arith) (λ run other history there history_there.
          let next : from + suc run ≡ suc from + run = omega arith in
          subst (λ (at : ℕ). IsHistory bundle at other.limits history) next (each (suc run) other history there history_there)),
    )

-- the run of a history in a cell
pub kept_with : (kept : List KeptRun) (run : ℕ) (history : List Entry) → slice_get (map (λ (kept : KeptRun). kept.history) kept) run ≡ Some history → (own : KeptRun) × ((slice_get kept run ≡ Some own) × (own.history ≡ history))
kept_with [] run history there = absurd cc
kept_with (own ∷ kept) zero history there = (own, (refl, cc))
kept_with (own ∷ kept) (suc run) history there = kept_with kept run history there

pub histories_are : (bundle : Bundle) (workers lock : ℕ) (cell : Cell) → IsCell bundle workers lock cell → AreHistories bundle 0 bundle.runs (histories_of cell)
histories_are bundle workers lock cell is =
    histories_each bundle 0 bundle.runs (histories_of cell) (length-map cell.runs (λ (kept : KeptRun). kept.history) ∙ is.as_many) (λ run part history there history_there.
    let kept = kept_with cell.runs run history history_there in
    let here : run ≡ 0 + run = omega arith in
    subst (λ (at : ℕ). IsHistory bundle at part.limits history) here (subst (IsHistory bundle run part.limits) kept.1.1 (is.each run part kept.0 there kept.1.0).history))

pub kept_at : (runs : List Declared) (run : ℕ) (kept : Declared) → slice_get runs run ≡ Some kept → slice_get (map kept_of runs) run ≡ Some (kept_of kept)
kept_at runs run kept there = slice_get-map kept_of runs run ∙ ap (option_map kept_of) there

pub history_is : (runs : List Declared) (total run : ℕ) (kept : Declared) → slice_get runs run ≡ Some kept → history_at (cell_of runs total) run ≡ kept.run.entries.items
history_is runs total run kept there =
    get_or_from_slice_get (histories_of (cell_of runs total)) run kept.run.entries.items []
    (slice_get-map (λ (kept : KeptRun). kept.history) (map kept_of runs) run ∙ ap (option_map (λ (kept : KeptRun). kept.history)) (kept_at runs run kept there))

pub authors_are : (runs : List Declared) (total run : ℕ) (kept : Declared) → slice_get runs run ≡ Some kept → authors_at (cell_of runs total) run ≡ kept.authors.items
authors_are runs total run kept there =
    get_or_from_slice_get (authors_of (cell_of runs total)) run kept.authors.items []
    (slice_get-map (λ (kept : KeptRun). kept.authors) (map kept_of runs) run ∙ ap (option_map (λ (kept : KeptRun). kept.authors)) (kept_at runs run kept there))

pub read_history : (named : Bundle) (workers lock : ℕ) (bundle : Bundle) (runs : List Declared) (stored : List Bool) (total run : ℕ) (kept : Declared) → IsSoundCell named workers lock bundle runs stored total → run < length named.runs → kept ≡ get_or runs run kept → history_at (cell_of runs total) run ≡ kept.run.entries.items
read_history named workers lock bundle runs stored total run kept inside below read =
    let many : length runs ≡ length bundle.runs = sym (length-map runs kept_of) ∙ inside.cell.as_many in
    let same = ap (λ (bundle : Bundle). length bundle.runs) inside.is_named in
    history_is runs total run kept (slice_get_read runs (length runs) run kept refl (omega arith) read)

-- ---- a number that isn't there yet

pub record IsReady (bundle : Bundle) (workers lock : ℕ) (runs : List Declared) (number run : ℕ) (kept : Declared) : Type 0 where
  pub part : RunPart
  pub there : slice_get bundle.runs run ≡ Some part
  pub kept_there : slice_get runs run ≡ Some kept
  pub inside : run < length runs
  pub is : IsKept bundle workers lock run part.limits (kept_of kept)
  pub absent : times_in number (numbers_of kept.run.entries.items) ≡ 0
  pub own : run_at bundle number ≡ Some run
  pub under : lock_of run ≡ lock
  pub limits : length kept.run.state.limits ≡ length bundle.metrics
  -- fewer entries than the run has
  pub few : length kept.run.entries.items < entries_of bundle run
  pub few_events : length kept.run.entries.items < most_events
  pub room : HasRoom bundle lock run kept

pub ready : (named : Bundle) (workers lock : ℕ) (bundle : Bundle) (runs : List Declared) (stored : List Bool) (total number run : ℕ) (kept : Declared) (was : Bool) → IsSoundCell named workers lock bundle runs stored total
    → IsUnder named lock number → number < length bundle.entries → run_at bundle number ≡ Some run → run < length bundle.runs → kept ≡ get_or runs run kept → was ≡ get_or stored number was → was ≡ false
    → IsReady bundle workers lock runs number run kept
ready named workers lock bundle runs stored total number run kept was inside under there own below read read_stored none =
    let many : length runs ≡ length bundle.runs = sym (length-map runs kept_of) ∙ inside.cell.as_many in
    let run_inside : run < length runs = omega arith in
    let part = entry_at bundle.runs run below in
    let kept_there : slice_get runs run ≡ Some kept = slice_get_read runs (length runs) run kept refl run_inside read in
    let is : IsKept bundle workers lock run part.0.limits (kept_of kept) = inside.cell.each run part.0 (kept_of kept) part.1 (kept_at runs run kept kept_there) in
    let table_there : number < length stored = (let many_stored = inside.table.as_many in omega arith) in
    let read_there : slice_get stored number ≡ Some was = slice_get_read stored (length stored) number was refl table_there read_stored in
    let by_table : Some was ≡ Some (is_number_among number (numbers_of (history_at (cell_of runs total) run))) = sym read_there ∙ inside.table.each number run own in
    let not_among : is_number_among number (numbers_of (history_at (cell_of runs total) run)) ≡ false = (let same : was ≡ is_number_among number (numbers_of (history_at (cell_of runs total) run)) = cc in sym same ∙ none) in
    let here : history_at (cell_of runs total) run ≡ kept.run.entries.items = history_is runs total run kept kept_there in
    let not_there : times_in number (numbers_of kept.run.entries.items) ≡ 0 = absent number (numbers_of kept.run.entries.items) (subst (λ (history : List Entry). is_number_among number (numbers_of history) ≡ false) here not_among) in
    let few : length kept.run.entries.items < entries_of bundle run = has_room bundle run number kept.run.entries.items is.history.found is.once not_there own in
    let of_all = count_by-le-length (λ (entry : EventPart). entry.run == run) bundle.entries in
    let most = inside.is_bundle.few_events in
    record {
      part = part.0;
      there = part.1;
      kept_there = kept_there;
      inside = run_inside;
      is = is;
      absent = not_there;
      own = own;
      under = under run (ap (λ (bundle : Bundle). run_at bundle number) (sym inside.is_named) ∙ own);
      limits = ap length is.state.limits_are ∙ (of_each (IsRun bundle.metrics) bundle.runs run part.0 inside.is_bundle.runs part.1).limits;
      few = few;
      few_events = omega arith;
      room = inside.room run kept kept_there;
    }

few_posts : (workers worker : ℕ) (authors posts : List ℕ) (most : ℕ) → ArePosts workers authors posts → worker < workers → length authors < most → get_or posts worker 0 < most
few_posts workers worker authors posts most are inside few =
    let counted = get_or_from_slice_get posts worker (count_by (λ (author : ℕ). author == worker) authors) 0 (are.counted worker inside) in
    let at_most = count_by-le-length (λ (author : ℕ). author == worker) authors in
    omega arith

pub can_take : (bundle : Bundle) (workers lock : ℕ) (runs : List Declared) (number run worker : ℕ) (kept : Declared) (event : Event) → IsReady bundle workers lock runs number run kept → worker < workers → IsOfMetricBelow (length bundle.metrics) event → CanTake kept worker event
can_take bundle workers lock runs number run worker kept event ready inside metric =
    let entries = ready.room.entries ready.under in
    let authors = ready.room.authors ready.under in
    let as_many = ready.is.authors in
    let few = ready.few in
    let few_events = ready.few_events in
    let each_worker = ready.is.posts.each_worker in
    let handed = ready.is.state.handed_is in
    let happen = few_happen bundle (numbers_of kept.run.entries.items) in
    let numbers = length-map kept.run.entries.items (λ (entry : Entry). entry.number) in
    record {
      entry = omega arith;
      author = omega arith;
      there = omega arith;
      few = few_posts workers worker kept.authors.items kept.posts.items most_events ready.is.posts inside (omega arith);
      room = omega arith;
      metric = subst (λ (metrics : ℕ). IsOfMetricBelow metrics event) (sym ready.limits) metric;
    }

-- ---- a run with one entry more

abbrev one_if : Bool → ℕ
one_if test = cond test 1 0

tested : (author worker : ℕ) (test : Bool) → (author == worker) ≡ test → one_if (author == worker) ≡ one_if test
tested author worker test is = ap one_if is

counted_push : (worker last : ℕ) (authors : List ℕ) → count_by (λ (author : ℕ). author == worker) (authors ++ last ∷ []) ≡ count_by (λ (author : ℕ). author == worker) authors + one_if (last == worker)
counted_push worker last authors = sum_by_push (λ (author : ℕ). one_if (author == worker)) authors last

posts_push : (workers worker : ℕ) (authors posts : List ℕ) → worker < workers → ArePosts workers authors posts → ArePosts workers (authors ++ worker ∷ []) (set posts worker (get_or posts worker 0 + 1))
posts_push workers worker authors posts inside are =
    record {
      each_worker = length-set posts worker (get_or posts worker 0 + 1) ∙ are.each_worker;
      counted = λ other other_inside. by_test other other_inside (other == worker) refl;
    }
  where
    by_test : (other : ℕ) → other < workers → (test : Bool) → (other == worker) ≡ test → slice_get (set posts worker (get_or posts worker 0 + 1)) other ≡ Some (count_by (λ (author : ℕ). author == other) (authors ++ worker ∷ []))
    by_test other other_inside true is =
        let same : worker ≡ other = grind (arith, nat_tests) in
        let own : (worker == other) ≡ true = grind (arith, nat_tests) in
        let many = are.each_worker in
        let there = at_set_same posts worker (get_or posts worker 0 + 1) (omega arith) in
        let before = get_or_from_slice_get posts worker (count_by (λ (author : ℕ). author == worker) authors) 0 (are.counted worker inside) in
        let one = tested worker other true own in
        let pushed = counted_push other worker authors in
        let before_other : get_or posts worker 0 ≡ count_by (λ (author : ℕ). author == other) authors = before ∙ ap (λ (worker : ℕ). count_by (λ (author : ℕ). author == worker) authors) same in
        let sum : get_or posts worker 0 + 1 ≡ count_by (λ (author : ℕ). author == other) (authors ++ worker ∷ []) = omega arith in
        subst (λ (at : ℕ). slice_get (set posts worker (get_or posts worker 0 + 1)) at ≡ Some (count_by (λ (author : ℕ). author == other) (authors ++ worker ∷ []))) same (there ∙ ap Some sum)
    by_test other other_inside false is =
        let away : other ≢ worker = grind (arith, nat_tests) in
        let unlike : (worker == other) ≡ false = grind (arith, nat_tests) in
        let none = tested worker other false unlike in
        let pushed = counted_push other worker authors in
        let sum : count_by (λ (author : ℕ). author == other) authors ≡ count_by (λ (author : ℕ). author == other) (authors ++ worker ∷ []) = omega arith in
        at_set_other posts worker other (get_or posts worker 0 + 1) away ∙ (are.counted other other_inside ∙ ap Some sum)

once_push : (number : ℕ) (numbers : List ℕ) → AtMostOnce numbers → times_in number numbers ≡ 0 → AtMostOnce (numbers ++ number ∷ [])
once_push number numbers once none other = by_test (number == other) refl where
  by_test : (test : Bool) → (number == other) ≡ test → times_in other (numbers ++ number ∷ []) ≤ 1
  by_test true is =
      let same : number ≡ other = grind (arith, nat_tests) in
      let absent : times_in other numbers ≡ 0 = subst (λ (number : ℕ). times_in number numbers ≡ 0) same none in
      let pushed = times_push other number numbers in
      let one : times_in other (number ∷ []) ≡ 1 = rw is refl in
      omega arith
  by_test false is =
      let most = once other in
      let pushed = times_push other number numbers in
      let nothing : times_in other (number ∷ []) ≡ 0 = rw is refl in
      omega arith

pub kept_push : (bundle : Bundle) (workers lock : ℕ) (runs : List Declared) (worker number run : ℕ) (old new : Declared) (finding : Finding) (event : Event) (answer : Posted) (ready : IsReady bundle workers lock runs number run old) → worker < workers → finding_at bundle number ≡ Some finding → happened bundle number ≡ Some event
    → IsPushed old new worker number finding event answer → IsKept bundle workers lock run ready.part.limits (kept_of new)
kept_push bundle workers lock runs worker number run old new finding event answer ready inside finds happens pushed =
    let limits : List Limits = ready.part.limits in
    let events : List Event = events_of bundle (numbers_of old.run.entries.items) in
    let last : Entry = record { number = number; finding = finding; effect = effect_of limits events event } in
    let entries : new.run.entries.items ≡ old.run.entries.items ++ last ∷ [] = pushed.run.entry ∙ ap (λ (effect : Effect). old.run.entries.items ++ record { number = number; finding = finding; effect = effect } ∷ []) (pushed.run.has_effect limits events ready.is.state) in
    let numbers : numbers_of new.run.entries.items ≡ numbers_of old.run.entries.items ++ number ∷ [] = ap numbers_of entries ∙ numbers_push old.run.entries.items last in
    let more_entries = ap length entries ∙ length_push old.run.entries.items last in
    let more_authors = ap length pushed.author ∙ length_push old.authors.items worker in
    let as_many = ready.is.authors in
    record {
      history = subst (IsHistory bundle run limits) (sym entries) (history_push bundle run limits old.run.entries.items number finding event ready.own finds happens ready.is.history);
      once = subst AtMostOnce (sym numbers) (once_push number (numbers_of old.run.entries.items) ready.is.once ready.absent);
      own = λ elsewhere. absurd (elsewhere ready.under);
      authors = omega arith;
      are_workers = subst (AllByRecursion (λ (author : ℕ). author < workers)) (sym pushed.author) (all_push (λ (author : ℕ). author < workers) old.authors.items worker ready.is.are_workers inside);
      posts = subst (ArePosts workers new.authors.items) (sym pushed.posts) (subst (λ (authors : List ℕ). ArePosts workers authors (set old.posts.items worker (get_or old.posts.items worker 0 + 1))) (sym pushed.author) (posts_push workers worker old.authors.items old.posts.items inside ready.is.posts));
      state = subst (λ (events : List Event). Replays limits events new.run.state) (sym (ap (events_of bundle) numbers ∙ events_push bundle (numbers_of old.run.entries.items) number event happens)) (pushed.run.replays limits events ready.is.state);
    }

-- ---- a cell with one entry more

histories_set : (runs : List Declared) (total run : ℕ) (new : Declared) → histories_of (cell_of (set runs run new) total) ≡ set (histories_of (cell_of runs total)) run new.run.entries.items
histories_set runs total run new =
    ap (λ (kept : List KeptRun). map (λ (kept : KeptRun). kept.history) kept) (map-set kept_of runs run new)
    ∙ map-set (λ (kept : KeptRun). kept.history) (map kept_of runs) run (kept_of new)

authors_set : (runs : List Declared) (total run : ℕ) (new : Declared) → authors_of (cell_of (set runs run new) total) ≡ set (authors_of (cell_of runs total)) run new.authors.items
authors_set runs total run new =
    ap (λ (kept : List KeptRun). map (λ (kept : KeptRun). kept.authors) kept) (map-set kept_of runs run new)
    ∙ map-set (λ (kept : KeptRun). kept.authors) (map kept_of runs) run (kept_of new)

cell_push : (bundle : Bundle) (workers lock : ℕ) (runs : List Declared) (total after worker number run : ℕ) (old new : Declared) (finding : Finding) (event : Event) (answer : Posted) → IsCell bundle workers lock (cell_of runs total) → (ready : IsReady bundle workers lock runs number run old) → IsPushed old new worker number finding event answer
    → IsKept bundle workers lock run ready.part.limits (kept_of new) → after ≡ total + 1 → IsCell bundle workers lock (cell_of (set runs run new) after)
cell_push bundle workers lock runs total after worker number run old new finding event answer is ready pushed kept more =
    let changed : map kept_of (set runs run new) ≡ set (map kept_of runs) run (kept_of new) = map-set kept_of runs run new in
    let long : length (map kept_of runs) ≡ length runs = length-map runs kept_of in
    let inside = ready.inside in
    let kept_inside : run < length (map kept_of runs) = omega arith in
    let sums = sum_by-set (λ (kept : KeptRun). length kept.history) (map kept_of runs) run (kept_of new) (kept_of old) kept_inside in
    let before : get_or (map kept_of runs) run (kept_of old) ≡ kept_of old = get_or_from_slice_get (map kept_of runs) run (kept_of old) (kept_of old) (kept_at runs run old ready.kept_there) in
    let before_length : length (get_or (map kept_of runs) run (kept_of old)).history ≡ length old.run.entries.items = ap (λ (kept : KeptRun). length kept.history) before in
    let longer : length new.run.entries.items ≡ length old.run.entries.items + 1 = ap length pushed.run.entry ∙ length_push old.run.entries.items (record { number = number; finding = finding; effect = answer.effect }) in
    let counted = is.counted in
    let summed : after ≡ sum_by (λ (kept : KeptRun). length kept.history) (set (map kept_of runs) run (kept_of new)) = omega arith in
    record {
      as_many = length-map (set runs run new) kept_of ∙ (length-set runs run new ∙ (sym long ∙ is.as_many));
      each = λ other part own there own_there.
          cases_at (λ at own. (part : RunPart) → slice_get bundle.runs at ≡ Some part → IsKept bundle workers lock at part.limits own) (map kept_of runs) run other (kept_of new) own kept_inside
          (λ part there. let same : ready.part ≡ part = (let both = sym ready.there ∙ there in cc) in subst (λ (part : RunPart). IsKept bundle workers lock run part.limits (kept_of new)) same kept)
          (λ own away was part there. is.each other part own there was)
          (subst (λ (kept : List KeptRun). slice_get kept other ≡ Some own) changed own_there) part there;
      counted = summed ∙ ap (λ (kept : List KeptRun). sum_by (λ (kept : KeptRun). length kept.history) kept) (sym changed);
    }

table_push : (bundle : Bundle) (workers lock : ℕ) (runs : List Declared) (stored : List Bool) (total after worker number run : ℕ) (old new : Declared) (finding : Finding) (event : Event) (answer : Posted) → IsTable bundle (cell_of runs total) stored → IsReady bundle workers lock runs number run old
    → IsPushed old new worker number finding event answer → number < length bundle.entries → IsTable bundle (cell_of (set runs run new) after) (set stored number true)
table_push bundle workers lock runs stored total after worker number run old new finding event answer is ready pushed inside =
    record {
      as_many = length-set stored number true ∙ is.as_many;
      each = λ other own own_is. by_test other own own_is (other == number) refl (own == run) refl;
    }
  where
    last : Entry
    last = record { number = number; finding = finding; effect = answer.effect }

    numbers : numbers_of new.run.entries.items ≡ numbers_of old.run.entries.items ++ number ∷ []
    numbers = ap numbers_of pushed.run.entry ∙ numbers_push old.run.entries.items last

    at_run : history_at (cell_of (set runs run new) after) run ≡ new.run.entries.items
    at_run = history_is (set runs run new) after run new (at_set_same runs run new ready.inside)

    before_run : history_at (cell_of runs total) run ≡ old.run.entries.items
    before_run = history_is runs total run old ready.kept_there

    elsewhere : (other : ℕ) → other ≢ run → history_at (cell_of (set runs run new) after) other ≡ history_at (cell_of runs total) other
    elsewhere other away = ap (λ (histories : List (List Entry)). get_or histories other []) (histories_set runs after run new) ∙ get_or-set_other (histories_of (cell_of runs after)) run other new.run.entries.items [] away

    own_number : (other own : ℕ) → run_at bundle other ≡ Some own → other ≡ number → slice_get (set stored number true) other ≡ Some (is_number_among other (numbers_of (history_at (cell_of (set runs run new) after) own)))
    own_number other own own_is same =
        let same_run : own ≡ run = (let both : Some own ≡ Some run = sym own_is ∙ (ap (run_at bundle) same ∙ ready.own) in cc) in
        let many = is.as_many in
        let put : slice_get (set stored number true) number ≡ Some true = at_set_same stored number true (omega arith) in
        let among : is_number_among number (numbers_of new.run.entries.items) ≡ true = ap (is_number_among number) numbers ∙ among_last number (numbers_of old.run.entries.items) in
        let here : is_number_among number (numbers_of (history_at (cell_of (set runs run new) after) run)) ≡ true = ap (λ (history : List Entry). is_number_among number (numbers_of history)) at_run ∙ among in
        let all : slice_get (set stored number true) number ≡ Some (is_number_among number (numbers_of (history_at (cell_of (set runs run new) after) run))) = put ∙ ap Some (sym here) in
        subst (λ (own : ℕ). slice_get (set stored number true) other ≡ Some (is_number_among other (numbers_of (history_at (cell_of (set runs run new) after) own)))) (sym same_run)
        (subst (λ (other : ℕ). slice_get (set stored number true) other ≡ Some (is_number_among other (numbers_of (history_at (cell_of (set runs run new) after) run)))) (sym same) all)

    other_number : (other own : ℕ) → run_at bundle other ≡ Some own → other ≢ number → is_number_among other (numbers_of (history_at (cell_of (set runs run new) after) own)) ≡ is_number_among other (numbers_of (history_at (cell_of runs total) own)) → slice_get (set stored number true) other ≡ Some (is_number_among other (numbers_of (history_at (cell_of (set runs run new) after) own)))
    other_number other own own_is away stays = at_set_other stored number other true away ∙ (is.each other own own_is ∙ ap Some (sym stays))

    by_test : (other own : ℕ) → run_at bundle other ≡ Some own → (test : Bool) → (other == number) ≡ test → (in_run : Bool) → (own == run) ≡ in_run → slice_get (set stored number true) other ≡ Some (is_number_among other (numbers_of (history_at (cell_of (set runs run new) after) own)))
    by_test other own own_is true is_same in_run in_run_is = own_number other own own_is (grind (arith, nat_tests))
    by_test other own own_is false is_other true in_run_is =
        let away : other ≢ number = grind (arith, nat_tests) in
        let same_run : run ≡ own = grind (arith, nat_tests) in
        let stays : is_number_among other (numbers_of (history_at (cell_of (set runs run new) after) run)) ≡ is_number_among other (numbers_of (history_at (cell_of runs total) run)) = ap (λ (history : List Entry). is_number_among other (numbers_of history)) at_run
        ∙ (ap (is_number_among other) numbers ∙ (among_other other number (numbers_of old.run.entries.items) (λ same. away (sym same)) ∙ ap (λ (history : List Entry). is_number_among other (numbers_of history)) (sym before_run))) in
        other_number other own own_is away (subst (λ (own : ℕ). is_number_among other (numbers_of (history_at (cell_of (set runs run new) after) own)) ≡ is_number_among other (numbers_of (history_at (cell_of runs total) own))) same_run stays)
    by_test other own own_is false is_other false in_run_is =
        let away : other ≢ number = grind (arith, nat_tests) in
        let other_run : own ≢ run = grind (arith, nat_tests) in
        other_number other own own_is away (ap (λ (history : List Entry). is_number_among other (numbers_of history)) (elsewhere own other_run))

room_push : (bundle : Bundle) (lock run : ℕ) (old new : Declared) (worker number : ℕ) (finding : Finding) (event : Event) (answer : Posted) → HasRoom bundle lock run old → IsPushed old new worker number finding event answer → HasRoom bundle lock run new
room_push bundle lock run old new worker number finding event answer room pushed =
    record {
      entries = λ under. subst (λ (capacity : ℕ). entries_of bundle run ≤ capacity) (sym pushed.run.capacity) (room.entries under);
      authors = λ under. subst (λ (capacity : ℕ). entries_of bundle run ≤ capacity) (sym pushed.author_capacity) (room.authors under);
    }

pub inside_push : (named : Bundle) (workers lock : ℕ) (bundle : Bundle) (runs : List Declared) (stored : List Bool) (total after worker number run : ℕ) (old new : Declared) (finding : Finding) (event : Event) (answer : Posted) → IsSoundCell named workers lock bundle runs stored total
    → IsReady bundle workers lock runs number run old → worker < workers → number < length bundle.entries → finding_at bundle number ≡ Some finding → happened bundle number ≡ Some event → IsPushed old new worker number finding event answer → after ≡ total + 1
    → IsSoundCell named workers lock bundle (set runs run new) (set stored number true) after
inside_push named workers lock bundle runs stored total after worker number run old new finding event answer inside ready there number_there finds happens pushed more =
    record {
      is_named = inside.is_named;
      is_bundle = inside.is_bundle;
      cell = cell_push bundle workers lock runs total after worker number run old new finding event answer inside.cell ready pushed (kept_push bundle workers lock runs worker number run old new finding event answer ready there finds happens pushed) more;
      table = table_push bundle workers lock runs stored total after worker number run old new finding event answer inside.table ready pushed number_there;
      room = λ other kept kept_there. cases_at (λ at kept. HasRoom bundle lock at kept) runs run other new kept ready.inside (room_push bundle lock run old new worker number finding event answer ready.room pushed) (λ kept away was. inside.room other kept was) kept_there;
    }

-- ---- what `RunCell::add` returns

core_push : (bundle : Bundle) (number run : ℕ) (histories : List (List Entry)) (part : RunPart) (finding : Finding) (event : Event) → run_at bundle number ≡ Some run → finding_at bundle number ≡ Some finding → happened bundle number ≡ Some event → slice_get bundle.runs run ≡ Some part
    → posted bundle histories number ≡ Some (added histories run (record { number = number; finding = finding; effect = effect_of part.limits (events_of bundle (numbers_of (get_or histories run []))) event }))
core_push bundle number run histories part finding event own finds happens there = rw (own, finds, happens, there) refl

pub is_posted : (named : Bundle) (workers lock : ℕ) (bundle : Bundle) (runs : List Declared) (total after worker number run : ℕ) (old new : Declared) (finding : Finding) (event : Event) (answer : Posted) → bundle ≡ named → IsReady bundle workers lock runs number run old
    → finding_at bundle number ≡ Some finding → happened bundle number ≡ Some event → IsPushed old new worker number finding event answer → after ≡ total + 1 → IsPosted named worker number finding (cell_of runs total) (cell_of (set runs run new) after) answer
is_posted named workers lock bundle runs total after worker number run old new finding event answer is_named ready finds happens pushed more =
    let before : List (List Entry) = histories_of (cell_of runs total) in
    let here : history_at (cell_of runs total) run ≡ old.run.entries.items = history_is runs total run old ready.kept_there in
    let now : history_at (cell_of (set runs run new) after) run ≡ new.run.entries.items = history_is (set runs run new) after run new (at_set_same runs run new ready.inside) in
    let last : Entry = record { number = number; finding = finding; effect = answer.effect } in
    let does : effect_of ready.part.limits (events_of bundle (numbers_of (history_at (cell_of runs total) run))) event ≡ answer.effect = ap (λ (history : List Entry). effect_of ready.part.limits (events_of bundle (numbers_of history)) event) here ∙ sym (pushed.run.has_effect ready.part.limits (events_of bundle (numbers_of old.run.entries.items)) ready.is.state) in
    let core = core_push bundle number run before ready.part finding event ready.own finds happens ready.there in
    let by_core : posted bundle before number ≡ Some (added before run last) = core ∙ ap (λ (effect : Effect). Some (added before run (record { number = number; finding = finding; effect = effect }))) does in
    let entries : history_at (cell_of runs total) run ++ last ∷ [] ≡ new.run.entries.items = ap (λ (history : List Entry). history ++ last ∷ []) here ∙ sym pushed.run.entry in
    let histories : added before run last ≡ histories_of (cell_of (set runs run new) after) = ap (set before run) entries ∙ sym (histories_set runs after run new) in
    let authors : old.authors.items ++ worker ∷ [] ≡ authors_at (cell_of runs total) run ++ worker ∷ [] = ap (λ (authors : List ℕ). authors ++ worker ∷ []) (sym (authors_are runs total run old ready.kept_there)) in
    subst (λ (bundle : Bundle). IsPosted bundle worker number finding (cell_of runs total) (cell_of (set runs run new) after) answer) is_named (record {
      core = by_core ∙ ap Some histories;
      run = run;
      own = ready.own;
      entry = now ∙ sym entries;
      place = pushed.place ∙ ap length (sym here);
      author = authors_set runs after run new ∙ ap (set (authors_of (cell_of runs total)) run) (pushed.author ∙ authors);
      total = omega arith;
    })

pub not_there : (bundle : Bundle) (workers lock : ℕ) (runs : List Declared) (total number run : ℕ) (kept : Declared) → IsCell bundle workers lock (cell_of runs total) → IsReady bundle workers lock runs number run kept → IsInHistory number (cell_of runs total) → ⊥
not_there bundle workers lock runs total number run kept is ready is_there =
    let below = slice_get_within bundle.runs run ready.part ready.there in
    let own = times_own bundle run number (histories_of (cell_of runs total)) (histories_are bundle workers lock (cell_of runs total) is) ready.own below in
    let here = history_is runs total run kept ready.kept_there in
    let none : times_in number (numbers_of (history_at (cell_of runs total) run)) ≡ 0 = ap (λ (history : List Entry). times_in number (numbers_of history)) here ∙ ready.absent in
    omega arith

pub is_there : (named : Bundle) (workers lock : ℕ) (bundle : Bundle) (runs : List Declared) (stored : List Bool) (total number : ℕ) (is : Bool) → IsSoundCell named workers lock bundle runs stored total → number < length bundle.entries → is ≡ get_or stored number is → is ≡ true → IsInHistory number (cell_of runs total)
is_there named workers lock bundle runs stored total number is inside there read true_there =
    let own = run_of_number bundle number inside.is_bundle there in
    let many = inside.table.as_many in
    let read_there : slice_get stored number ≡ Some is = slice_get_read stored (length stored) number is refl (omega arith) read in
    let among : is ≡ is_number_among number (numbers_of (history_at (cell_of runs total) own.0)) = (let both = sym read_there ∙ inside.table.each number own.0 own.1 in cc) in
    let positive = present number (numbers_of (history_at (cell_of runs total) own.0)) (sym among ∙ true_there) in
    let all = times_own bundle own.0 number (histories_of (cell_of runs total)) (histories_are bundle workers lock (cell_of runs total) inside.cell) own.1 own.2 in
    omega arith
