-- The numbers of each run, one entry after another.
use Rattle.std.proofs.Common.{◌≡◌, ◌<◌, ◌≤◌, ◌≢◌, ℕ, zero, suc, ◌+◌, ◌==◌, Bool, true, false, if◌then◌else◌, List, [], ◌∷◌, ◌++◌, length, take, get_or, set, replicate, Some, refl, sym, ◌∙◌, ap, subst, arith, append-nil}
use Rattle.std.specs.Prelude.{Vec, slice_get}
use Rattle.std.specs.declared.alloc.Global.{Global}
use Rattle.std.proofs.lemmas.Bool.Decides.{nat_tests}
use Rattle.std.proofs.lemmas.List.{get_or-map, get_or-set_other, get_or-set_same, length-map, length-set, length-replicate, length-take-le, map-set, take_all, take_more}
use Rattle.std.proofs.lemmas.Option.{get_or_from_slice_get}
use Rattle.ar_bundle.specs.Bundle.{Bundle, run_at}
use Rattle.ar_board.specs.Core.{own_from}
use Rattle.ar_board.specs.Private.Own.{AreOwn, items_of_each}
use Rattle.ar_bundle.specs.declared.bundle.EventPart.{EventPart}
use Rattle.ar_bundle.proofs.Bundles.{entry_at}

-- ---- one entry more

push_by_test : (from : ℕ) (rest more longer : List ℕ) (test : Bool) → longer ≡ rest ++ more → (if test then from ∷ longer else longer) ≡ (if test then from ∷ rest else rest) ++ more
push_by_test from rest more longer true is = ap (λ (numbers : List ℕ). from ∷ numbers) is
push_by_test from rest more longer false is = is

own_push : (run from last : ℕ) (entries : List EventPart) (entry : EventPart) → last ≡ from + length entries → own_from run from (entries ++ entry ∷ []) ≡ own_from run from entries ++ (if entry.run == run then last ∷ [] else [])
own_push run from last [] entry at = let here : from ≡ last = omega arith in ap (λ (number : ℕ). if entry.run == run then number ∷ [] else []) here
own_push run from last (first ∷ entries) entry at =
    push_by_test from (own_from run (suc from) entries) (if entry.run == run then last ∷ [] else []) (own_from run (suc from) (entries ++ entry ∷ [])) (first.run == run) (own_push run (suc from) last entries entry (omega arith))

-- the run's own number is added to its list
to_own : (run last : ℕ) (entries : List EventPart) (entry : EventPart) → last ≡ length entries → entry.run ≡ run → own_from run 0 (entries ++ entry ∷ []) ≡ own_from run 0 entries ++ last ∷ []
to_own run last entries entry at same =
    let like : (entry.run == run) ≡ true = grind (arith, nat_tests) in
    own_push run 0 last entries entry (omega arith) ∙ ap (λ (test : Bool). own_from run 0 entries ++ (if test then last ∷ [] else [])) like

-- another's doesn't
to_another : (run last : ℕ) (entries : List EventPart) (entry : EventPart) → last ≡ length entries → entry.run ≢ run → own_from run 0 (entries ++ entry ∷ []) ≡ own_from run 0 entries
to_another run last entries entry at away =
    let unlike : (entry.run == run) ≡ false = grind (arith, nat_tests) in
    own_push run 0 last entries entry (omega arith) ∙ (ap (λ (test : Bool). own_from run 0 entries ++ (if test then last ∷ [] else [])) unlike ∙ append-nil (own_from run 0 entries))

lists_push : (bundle : Bundle) (entries : List EventPart) (entry : EventPart) (last : ℕ) (lists : List (List ℕ)) → last ≡ length entries → entry.run < length bundle.runs → AreOwn bundle entries lists → AreOwn bundle (entries ++ entry ∷ []) (set lists entry.run (get_or lists entry.run [] ++ last ∷ []))
lists_push bundle entries entry last lists at below are =
    let many = are.as_many in
    let inside : entry.run < length lists = omega arith in
    record {
      as_many = length-set lists entry.run (get_or lists entry.run [] ++ last ∷ []) ∙ are.as_many;
      own = λ run there. by_test run there (entry.run == run) refl inside;
    }
  where
    by_test : (run : ℕ) → run < length bundle.runs → (test : Bool) → (entry.run == run) ≡ test → entry.run < length lists → get_or (set lists entry.run (get_or lists entry.run [] ++ last ∷ [])) run [] ≡ own_from run 0 (entries ++ entry ∷ [])
    by_test run there true is inside =
        let same : entry.run ≡ run = grind (arith, nat_tests) in
        subst (λ (run : ℕ). get_or (set lists entry.run (get_or lists entry.run [] ++ last ∷ [])) run [] ≡ own_from run 0 (entries ++ entry ∷ [])) same
        (get_or-set_same lists entry.run (get_or lists entry.run [] ++ last ∷ []) [] inside
        ∙ (ap (λ (numbers : List ℕ). numbers ++ last ∷ []) (are.own entry.run below)
        ∙ sym (to_own entry.run last entries entry at refl)))
    by_test run there false is inside =
        let away : entry.run ≢ run = grind (arith, nat_tests) in
        let other : run ≢ entry.run = grind (arith, nat_tests) in
        get_or-set_other lists entry.run run (get_or lists entry.run [] ++ last ∷ []) [] other ∙ (are.own run there ∙ sym (to_another run last entries entry at away))

run_there : (bundle : Bundle) (number run : ℕ) (entry : EventPart) → slice_get bundle.entries number ≡ Some entry → run_at bundle number ≡ Some run → entry.run ≡ run
run_there bundle number run entry there own = let of_entry : run_at bundle number ≡ Some entry.run = rw there refl in cc

pub lists_next : (bundle : Bundle) (upto run : ℕ) (lists : List (List ℕ)) → upto < length bundle.entries → run_at bundle upto ≡ Some run → run < length bundle.runs → AreOwn bundle (take upto bundle.entries) lists → AreOwn bundle (take (upto + 1) bundle.entries) (set lists run (get_or lists run [] ++ upto ∷ []))
lists_next bundle upto run lists inside own below are =
    let entry = entry_at bundle.entries upto inside in
    let same = run_there bundle upto run entry.0 entry.1 own in
    let longer : take (upto + 1) bundle.entries ≡ take upto bundle.entries ++ entry.0 ∷ [] =
    take_more bundle.entries upto entry.0 inside ∙ ap (λ (entry : EventPart). take upto bundle.entries ++ entry ∷ []) (get_or_from_slice_get bundle.entries upto entry.0 entry.0 entry.1) in
    let at = length-take-le upto bundle.entries (omega arith) in
    subst (λ (entries : List EventPart). AreOwn bundle entries (set lists run (get_or lists run [] ++ upto ∷ []))) (sym longer)
    (subst (λ (run : ℕ). AreOwn bundle (take upto bundle.entries ++ entry.0 ∷ []) (set lists run (get_or lists run [] ++ upto ∷ []))) same
    (lists_push bundle (take upto bundle.entries) entry.0 upto lists (sym at) (subst (λ (run : ℕ). run < length bundle.runs) (sym same) below) are))

-- ---- of the lists in memory

-- before the first entry
none_has : (runs run : ℕ) → get_or {A = List ℕ} (replicate runs []) run [] ≡ []
none_has zero run = refl
none_has (suc runs) zero = refl
none_has (suc runs) (suc run) = none_has runs run

pub lists_none : (bundle : Bundle) (runs : ℕ) (lists : List (Vec ℕ Global)) → runs ≡ length bundle.runs → items_of_each lists ≡ replicate runs [] → AreOwn bundle (take 0 bundle.entries) (items_of_each lists)
lists_none bundle runs lists many empty =
    record {
      as_many = ap (λ (lists : List (List ℕ)). length lists) empty ∙ (length-replicate runs [] ∙ many);
      own = λ run there. ap (λ (lists : List (List ℕ)). get_or lists run []) empty ∙ none_has runs run;
    }

pub list_inside : (bundle : Bundle) (entries : List EventPart) (run : ℕ) (lists : List (Vec ℕ Global)) → run < length bundle.runs → AreOwn bundle entries (items_of_each lists) → run < length lists
list_inside bundle entries run lists below are =
    let many = are.as_many in
    let as_many : length (items_of_each lists) ≡ length lists = length-map lists (λ (list : Vec ℕ Global). list.items) in
    omega arith

-- a number is added to its run's list
pub lists_more : (bundle : Bundle) (upto run : ℕ) (lists : List (Vec ℕ Global)) (list later : Vec ℕ Global) → upto < length bundle.entries → run_at bundle upto ≡ Some run → run < length bundle.runs → list ≡ get_or lists run list → later.items ≡ list.items ++ upto ∷ []
    → AreOwn bundle (take upto bundle.entries) (items_of_each lists) → AreOwn bundle (take (upto + 1) bundle.entries) (items_of_each (set lists run later))
lists_more bundle upto run lists list later inside own below read pushed are =
    let there = list_inside bundle (take upto bundle.entries) run lists below are in
    let before : get_or (items_of_each lists) run [] ≡ list.items = get_or-map (λ (list : Vec ℕ Global). list.items) lists run list [] there ∙ ap (λ (list : Vec ℕ Global). list.items) (sym read) in
    let now : items_of_each (set lists run later) ≡ set (items_of_each lists) run (get_or (items_of_each lists) run [] ++ upto ∷ []) =
    map-set (λ (list : Vec ℕ Global). list.items) lists run later
    ∙ (ap (λ (numbers : List ℕ). set (items_of_each lists) run numbers) pushed
    ∙ ap (λ (numbers : List ℕ). set (items_of_each lists) run (numbers ++ upto ∷ [])) (sym before)) in
    subst (AreOwn bundle (take (upto + 1) bundle.entries)) (sym now) (lists_next bundle upto run (items_of_each lists) inside own below are)

pub lists_all : (bundle : Bundle) (upto : ℕ) (lists : List (List ℕ)) → length bundle.entries ≤ upto → AreOwn bundle (take upto bundle.entries) lists → AreOwn bundle bundle.entries lists
lists_all bundle upto lists past are = subst (λ (entries : List EventPart). AreOwn bundle entries lists) (take_all upto bundle.entries past) are
