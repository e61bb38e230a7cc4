-- A cell to which nothing was posted.
use Rattle.std.proofs.Common.{◌≡◌, ◌<◌, ℕ, zero, suc, ◌≤◌, ◌+◌, ◌==◌, Bool, true, false, if◌then◌else◌, List, [], ◌∷◌, ◌++◌, length, map, get_or, replicate, Some, refl, sym, ◌∙◌, ap, subst, arith}
use Rattle.std.specs.Prelude.{slice_get, slice_index_or}
use Rattle.std.specs.List.{AllByRecursion, sum_by}
use Rattle.std.specs.Vec.{vec_capacity}
use Rattle.std.proofs.lemmas.Bool.Decides.{nat_tests}
use Rattle.std.proofs.lemmas.List.{length-map, length-replicate, length_push}
use Rattle.std.proofs.lemmas.List.Sums.{sum_by-cons}
use Rattle.std.proofs.lemmas.Option.{slice_get_read, slice_get_within}
use Rattle.ar_limits.specs.Prefixes.{with_earlier}
use Rattle.ar_limits.specs.Replay.{Replays}
use Rattle.ar_limits.specs.Run.{effects}
use Rattle.ar_bundle.specs.Sound.{IsBundle, entries_of, sizes_of}
use Rattle.ar_bundle.specs.Bundle.{Bundle, events_of}
use Rattle.ar_board.specs.Locks.{lock_of}
use Rattle.ar_board.specs.Cell.{ArePosts, IsCell, IsEmpty, IsKept, KeptRun, history_at}
use Rattle.ar_bundle.specs.Lawful.{AtMostOnce, IsHistory, numbers_of}
use Rattle.ar_board.specs.Private.KeptRuns.{AreOpened, IsSoundCell, IsOpened, IsTable, cell_of, is_number_among, kept_of, room_under}
use Rattle.ar_bundle.specs.declared.bundle.RunPart.{RunPart}
use Rattle.ar_board.specs.declared.cell.kept_run.KeptRun.{KeptRun as Declared}
use Rattle.ar_bundle.specs.declared.history.Entry.{Entry}
use Rattle.ar_bundle.proofs.Bundles.{entry_at, run_of_number}
use Rattle.ar_bundle.proofs.HistoryLemmas.{pushed_at}
use Rattle.ar_board.proofs.Cells.{history_is, kept_at, size_at}
use Rattle.ar_bundle.proofs.Room.{number_inside}
use Rattle.ar_bundle.proofs.Sizes.{as_many_counts}

-- ---- one run more

pub opened_next : (bundle : Bundle) (parts : List RunPart) (workers lock upto room : ℕ) (sizes : List ℕ) (runs : List Declared) (part : RunPart) (kept : Declared) → parts ≡ bundle.runs → upto < length parts → part ≡ slice_index_or parts upto part → sizes ≡ sizes_of bundle → length runs ≡ upto → room ≡ (if lock_of (length runs) == lock then get_or sizes (length runs) 0 else 0)
    → IsOpened part.limits room workers kept → AreOpened bundle workers lock upto runs → AreOpened bundle workers lock (upto + 1) (runs ++ kept ∷ [])
opened_next bundle parts workers lock upto room sizes runs part kept are inside read sizes_are as_many room_is opened before =
    record {
      as_many = (let longer = length_push runs kept in omega arith);
      each = λ run own kept' there kept_there. pushed_at (λ at kept. (part : RunPart) → slice_get bundle.runs at ≡ Some part → IsOpened part.limits (room_under bundle lock at) workers kept) runs kept run kept'
          (λ at kept there part part_there. before.each at part kept part_there there)
          (λ other other_there. last other other_there) kept_there own there;
    }
  where
    last : (other : RunPart) → slice_get bundle.runs (length runs) ≡ Some other → IsOpened other.limits (room_under bundle lock (length runs)) workers kept
    last other other_there =
        let there : slice_get parts upto ≡ Some part = slice_get_read parts (length parts) upto part refl inside read in
        let here : slice_get bundle.runs (length runs) ≡ Some part = ap (λ (parts : List RunPart). slice_get parts (length runs)) (sym are) ∙ (ap (slice_get parts) as_many ∙ there) in
        let same : part ≡ other = (let both = sym here ∙ other_there in cc) in
        let below : upto < length bundle.runs = subst (λ (parts : List RunPart). upto < length parts) are inside in
        let size : room ≡ room_under bundle lock (length runs) = room_is
        ∙ ap (λ (entries : ℕ). if lock_of (length runs) == lock then entries else 0) (ap (λ (sizes : List ℕ). get_or sizes (length runs) 0) sizes_are ∙ size_at bundle (length runs) 0 (subst (λ (run : ℕ). run < length bundle.runs) (sym as_many) below)) in
        subst (λ (part : RunPart). IsOpened part.limits (room_under bundle lock (length runs)) workers kept) same (subst (λ (room : ℕ). IsOpened part.limits room workers kept) size opened)

-- ---- what an empty cell has

replicated_at : {A : Type 0} (many at : ℕ) (x : A) → at < many → slice_get (replicate many x) at ≡ Some x
replicated_at zero at x inside = absurd (omega arith)
replicated_at (suc many) zero x inside = refl
replicated_at (suc many) (suc at) x inside = replicated_at many at x (omega arith)

no_posts : (workers : ℕ) → ArePosts workers [] (replicate workers 0)
no_posts workers = record { each_worker = length-replicate workers 0; counted = λ worker inside. replicated_at workers worker 0 inside }

empty_run : (bundle : Bundle) (workers lock run room : ℕ) (part : RunPart) (kept : Declared) → IsOpened part.limits room workers kept → IsKept bundle workers lock run part.limits (kept_of kept)
unfolding effects with_earlier
empty_run bundle workers lock run room part kept opened =
    record {
      history = subst (IsHistory bundle run part.limits) (sym opened.entries) (record { found = tt; effects = refl });
      once = subst (λ (history : List Entry). AtMostOnce (numbers_of history)) (sym opened.entries) (λ number. omega arith);
      own = λ elsewhere. opened.entries;
      authors = ap length opened.authors ∙ sym (ap length opened.entries);
      are_workers = subst (AllByRecursion (λ (author : ℕ). author < workers)) (sym opened.authors) tt;
      posts = subst (ArePosts workers kept.authors.items) (sym opened.posts) (subst (λ (authors : List ℕ). ArePosts workers authors (replicate workers 0)) (sym opened.authors) (no_posts workers));
      state = subst (λ (history : List Entry). Replays part.limits (events_of bundle (numbers_of history)) kept.run.state) (sym opened.entries) opened.state;
    }

none_counted : (kept : List KeptRun) → ((run : ℕ) (own : KeptRun) → slice_get kept run ≡ Some own → own.history ≡ []) → sum_by (λ (kept : KeptRun). length kept.history) kept ≡ 0
none_counted [] empty = refl
none_counted (own ∷ kept) empty =
    let first : length own.history ≡ 0 = ap length (empty 0 own refl) in
    let rest = none_counted kept (λ run other there. empty (suc run) other there) in
    let counted = sum_by-cons (λ (kept : KeptRun). length kept.history) own kept in
    omega arith

all_empty : (kept : List KeptRun) → ((run : ℕ) (own : KeptRun) → slice_get kept run ≡ Some own → own.history ≡ []) → AllByRecursion (λ (kept : KeptRun). kept.history ≡ []) kept
all_empty [] empty = tt
all_empty (own ∷ kept) empty = (empty 0 own refl, all_empty kept (λ run other there. empty (suc run) other there))

-- a run of a cell is one that was opened
record IsThere (bundle : Bundle) (workers lock run : ℕ) (runs : List Declared) (own : KeptRun) : Type 0 where
  kept : Declared
  there : slice_get runs run ≡ Some kept
  is : own ≡ kept_of kept
  part : RunPart
  part_there : slice_get bundle.runs run ≡ Some part
  opened : IsOpened part.limits (room_under bundle lock run) workers kept

standing : (bundle : Bundle) (workers lock run : ℕ) (runs : List Declared) (own : KeptRun) → AreOpened bundle workers lock (length bundle.runs) runs → slice_get (map kept_of runs) run ≡ Some own → IsThere bundle workers lock run runs own
standing bundle workers lock run runs own opened there =
    let inside = slice_get_within (map kept_of runs) run own there in
    let long = length-map runs kept_of in
    let many = opened.as_many in
    let kept = entry_at runs run (omega arith) in
    let part = entry_at bundle.runs run (omega arith) in
    record {
      kept = kept.0;
      there = kept.1;
      is = (let both = sym there ∙ kept_at runs run kept.0 kept.1 in cc);
      part = part.0;
      part_there = part.1;
      opened = opened.each run part.0 kept.0 part.1 kept.1;
    }

pub is_empty : (bundle : Bundle) (workers lock total : ℕ) (runs : List Declared) → AreOpened bundle workers lock (length bundle.runs) runs → total ≡ 0 → IsEmpty (cell_of runs total)
is_empty bundle workers lock total runs opened none =
    record {
      histories = all_empty (map kept_of runs) (λ run own there. let is_there = standing bundle workers lock run runs own opened there in ap (λ (kept : KeptRun). kept.history) is_there.is ∙ is_there.opened.entries);
      total = none;
    }

pub is_cell : (bundle : Bundle) (workers lock total : ℕ) (runs : List Declared) → AreOpened bundle workers lock (length bundle.runs) runs → total ≡ 0 → IsCell bundle workers lock (cell_of runs total)
is_cell bundle workers lock total runs opened none =
    record {
      as_many = length-map runs kept_of ∙ opened.as_many;
      each = λ run part own part_there there.
          let is_there = standing bundle workers lock run runs own opened there in
          let same : is_there.part ≡ part = (let both = sym is_there.part_there ∙ part_there in cc) in
          subst (IsKept bundle workers lock run part.limits) (sym is_there.is) (subst (λ (part : RunPart). IsKept bundle workers lock run part.limits (kept_of is_there.kept)) same (empty_run bundle workers lock run (room_under bundle lock run) is_there.part is_there.kept is_there.opened));
      counted = none ∙ sym (none_counted (map kept_of runs) (λ run own there. let is_there = standing bundle workers lock run runs own opened there in ap (λ (kept : KeptRun). kept.history) is_there.is ∙ is_there.opened.entries));
    }

no_table : (bundle : Bundle) (workers lock total : ℕ) (runs : List Declared) → IsBundle bundle → AreOpened bundle workers lock (length bundle.runs) runs → IsTable bundle (cell_of runs total) (replicate (length bundle.entries) false)
no_table bundle workers lock total runs is opened =
    record {
      as_many = length-replicate (length bundle.entries) false;
      each = λ number run own.
          let inside = number_inside bundle number run own in
          let own_run = run_of_number bundle number is inside in
          let same : own_run.0 ≡ run = (let both = sym own_run.1 ∙ own in cc) in
          let below : run < length bundle.runs = subst (λ (run : ℕ). run < length bundle.runs) same own_run.2 in
          let many = opened.as_many in
          let kept = entry_at runs run (omega arith) in
          let part = entry_at bundle.runs run below in
          let history : history_at (cell_of runs total) run ≡ [] = history_is runs total run kept.0 kept.1 ∙ (opened.each run part.0 kept.0 part.1 kept.1).entries in
          replicated_at (length bundle.entries) number false inside ∙ ap (λ (history : List Entry). Some (is_number_among number (numbers_of history))) (sym history);
    }

pub inside_opened : (named bundle : Bundle) (workers named_workers lock total events : ℕ) (runs : List Declared) (stored : List Bool) → bundle ≡ named → workers ≡ named_workers → IsBundle bundle → AreOpened bundle workers lock (length bundle.runs) runs → total ≡ 0 → events ≡ length bundle.entries → stored ≡ replicate events false
    → IsSoundCell named named_workers lock bundle runs stored total
inside_opened named bundle workers named_workers lock total events runs stored is_named same_workers is opened none many stored_are =
    record {
      is_named = is_named;
      is_bundle = is;
      cell = subst (λ (workers : ℕ). IsCell bundle workers lock (cell_of runs total)) same_workers (is_cell bundle workers lock total runs opened none);
      table = subst (IsTable bundle (cell_of runs total)) (sym (stored_are ∙ ap (λ (many : ℕ). replicate many false) many)) (no_table bundle workers lock total runs is opened);
      room = λ run kept there.
          let inside = slice_get_within runs run kept there in
          let many = opened.as_many in
          let part = entry_at bundle.runs run (omega arith) in
          let own = opened.each run part.0 kept part.1 there in
          record { entries = λ under. subst (λ (room : ℕ). room ≤ vec_capacity kept.run.entries) (whole run under) own.has_room; authors = λ under. subst (λ (room : ℕ). room ≤ vec_capacity kept.authors) (whole run under) own.has_room_for_authors };
    }
  where
    whole : (run : ℕ) → lock_of run ≡ lock → room_under bundle lock run ≡ entries_of bundle run
    whole run under = let same : (lock_of run == lock) ≡ true = grind (arith, nat_tests) in rw same refl

pub sizes_there : (bundle : Bundle) (parts : List RunPart) (upto : ℕ) (sizes : List ℕ) → parts ≡ bundle.runs → upto < length parts → sizes ≡ sizes_of bundle → upto < length sizes
sizes_there bundle parts upto sizes are inside sizes_are =
    let many : length (sizes_of bundle) ≡ length bundle.runs = as_many_counts bundle.entries 0 bundle.runs in
    let same = ap length sizes_are in
    let parts_many = ap length are in
    omega arith

pub named_cell : (named bundle : Bundle) (workers named_workers lock total : ℕ) (runs : List Declared) → bundle ≡ named → workers ≡ named_workers → AreOpened bundle workers lock (length bundle.runs) runs → total ≡ 0 → IsCell named named_workers lock (cell_of runs total)
named_cell named bundle workers named_workers lock total runs is_named same_workers opened none =
    subst (λ (bundle : Bundle). IsCell bundle named_workers lock (cell_of runs total)) is_named (subst (λ (workers : ℕ). IsCell bundle workers lock (cell_of runs total)) same_workers (is_cell bundle workers lock total runs opened none))
