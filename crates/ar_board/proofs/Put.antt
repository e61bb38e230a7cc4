-- What a cell has of its runs, which moves to its positions among others.
use Rattle.std.proofs.Common.{◌≡◌, ◌≢◌, ◌<◌, ℕ, ◌+◌, ◌==◌, Bool, true, false, List, [], ◌∷◌, ◌++◌, length, map, set, Some, refl, sym, ◌∙◌, ap, subst, arith}
use Rattle.std.specs.Prelude.{option_map, slice_get}
use Rattle.std.proofs.lemmas.Bool.Decides.{nat_tests}
use Rattle.std.proofs.lemmas.List.{length-map, length-set}
use Rattle.std.proofs.lemmas.Option.{slice_get-map}
use Rattle.ar_bundle.specs.Bundle.{Bundle}
use Rattle.ar_board.specs.Locks.{lock_of}
use Rattle.ar_board.specs.Cell.{ArePut, KeptRun}
use Rattle.ar_board.specs.Private.KeptRuns.{ArePutBelow, IsSoundCell, kept_of}
use Rattle.ar_board.specs.declared.cell.kept_run.KeptRun.{KeptRun as Declared}
use Rattle.ar_bundle.proofs.HistoryLemmas.{at_set_other, at_set_same}

pub put_first : {A : Type 0} (lock : ℕ) (own all : List A) → ArePutBelow lock 0 own all all
put_first lock own all = record { as_many = refl; put = λ run inside below under. absurd (omega arith); others = λ run away. refl }

-- the next run is under the lock
pub put_own : {A : Type 0} (lock upto : ℕ) (own before now : List A) (x : A) → lock_of upto ≡ lock → upto < length before → slice_get own upto ≡ Some x → ArePutBelow lock upto own before now → ArePutBelow lock (upto + 1) own before (set now upto x)
put_own {A} lock upto own before now x under inside is put =
    let many = put.as_many in
    let set_there : upto < length now = omega arith in
    record {
      as_many = length-set now upto x ∙ many;
      put = λ run run_inside below run_under. put_by run run_inside below run_under set_there (run == upto) refl;
      others = λ run away.
          let apart : run ≢ upto = (λ same. absurd (away (omega arith) (ap lock_of same ∙ under))) in
          at_set_other now upto run x apart ∙ put.others run (λ below. away (omega arith));
    }
  where
    put_by : (run : ℕ) → run < length before → run < upto + 1 → lock_of run ≡ lock → upto < length now → (test : Bool) → (run == upto) ≡ test → slice_get (set now upto x) run ≡ slice_get own run
    put_by run run_inside below run_under set_there true same =
        let equal : upto ≡ run = grind (arith, nat_tests) in
        subst (λ (at : ℕ). slice_get (set now upto x) at ≡ slice_get own at) equal (at_set_same now upto x set_there ∙ sym is)
    put_by run run_inside below run_under set_there false apart =
        let away : run ≢ upto = grind (arith, nat_tests) in
        let earlier : run < upto = omega (arith, away) in
        at_set_other now upto run x away ∙ put.put run run_inside earlier run_under

-- it isn't
pub put_other : {A : Type 0} (lock upto : ℕ) (own before now : List A) → lock_of upto ≢ lock → ArePutBelow lock upto own before now → ArePutBelow lock (upto + 1) own before now
put_other lock upto own before now away put =
    record {
      as_many = put.as_many;
      put = λ run inside below under. put_by run inside below under (run == upto) refl;
      others = λ run elsewhere. put.others run (λ below. elsewhere (omega arith));
    }
  where
    put_by : (run : ℕ) → run < length before → run < upto + 1 → lock_of run ≡ lock → (test : Bool) → (run == upto) ≡ test → slice_get now run ≡ slice_get own run
    put_by run inside below under true same = let equal : upto ≡ run = grind (arith, nat_tests) in absurd (away (ap lock_of equal ∙ under))
    put_by run inside below under false apart =
        let other : run ≢ upto = grind (arith, nat_tests) in
        let earlier : run < upto = omega (arith, other) in
        put.put run inside earlier under

-- by whether it is
pub put_next : {A : Type 0} (lock upto : ℕ) (own before now after : List A) (x : A) → upto < length before → slice_get own upto ≡ Some x → (lock_of upto ≡ lock → after ≡ set now upto x) → (lock_of upto ≢ lock → after ≡ now) → ArePutBelow lock upto own before now → ArePutBelow lock (upto + 1) own before after
put_next {A} lock upto own before now after x inside there here away put = by_test (lock_of upto == lock) refl where
  by_test : (test : Bool) → (lock_of upto == lock) ≡ test → ArePutBelow lock (upto + 1) own before after
  by_test true is =
      let under : lock_of upto ≡ lock = grind (arith, nat_tests) in
      subst (λ (after : List A). ArePutBelow lock (upto + 1) own before after) (sym (here under)) (put_own lock upto own before now x under inside there put)
  by_test false is =
      let apart : lock_of upto ≢ lock = grind (arith, nat_tests) in
      subst (λ (after : List A). ArePutBelow lock (upto + 1) own before after) (sym (away apart)) (put_other lock upto own before now apart put)

pub put_all : {A : Type 0} (lock upto : ℕ) (own before after : List A) → upto ≡ length before → ArePutBelow lock upto own before after → ArePut lock own before after
put_all lock upto own before after all put =
    record {
      as_many = put.as_many;
      put = λ run inside under. put.put run inside (omega arith) under;
      others = λ run away. put.others run (λ below. away);
    }

-- what the next run has
pub next_own : {A : Type 0} (of : KeptRun → A) (yielded rest all : List Declared) (kept : Declared) → yielded ++ kept ∷ rest ≡ all → slice_get (map of (map kept_of all)) (length yielded) ≡ Some (of (kept_of kept))
next_own of yielded rest all kept are =
    slice_get-map of (map kept_of all) (length yielded)
    ∙ ap (option_map of) (slice_get-map kept_of all (length yielded) ∙ ap (option_map kept_of) (subst (λ (all : List Declared). slice_get all (length yielded) ≡ Some kept) are (at_end yielded)))
  where
    at_end : (yielded : List Declared) → slice_get (yielded ++ kept ∷ rest) (length yielded) ≡ Some kept
    at_end [] = refl
    at_end (first ∷ yielded) = at_end yielded

-- a cell keeps each run of the bundle
pub all_runs : (named : Bundle) (workers lock : ℕ) (bundle : Bundle) (runs : List Declared) (stored : List Bool) (total : ℕ) → IsSoundCell named workers lock bundle runs stored total → length runs ≡ length named.runs
all_runs named workers lock bundle runs stored total inside = sym (length-map runs kept_of) ∙ (inside.cell.as_many ∙ ap (λ (bundle : Bundle). length bundle.runs) inside.is_named)
