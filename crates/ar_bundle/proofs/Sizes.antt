-- How many entries the runs have, one entry after another.
use Rattle.std.proofs.Common.{◌≡◌, ◌<◌, ◌≤◌, ℕ, zero, suc, ◌+◌, ◌==◌, Bool, true, false, if◌then◌else◌, List, [], ◌∷◌, ◌++◌, length, take, get_or, set, replicate, refl, sym, ◌∙◌, ap, subst, arith}
use Rattle.std.specs.Prelude.{slice_index_or}
use Rattle.std.proofs.Math.Seq.{take-suc}
use Rattle.std.proofs.lemmas.Bool.Decides.{nat_tests}
use Rattle.std.proofs.lemmas.List.{length-take-le, take_all}
use Rattle.std.proofs.lemmas.List.Sums.{count_by-le-length, sum_by_push}
use Rattle.ar_bundle.specs.Sound.{IsBundle, count_of, sizes_from, sizes_of}
use Rattle.ar_bundle.specs.Bundle.{Bundle}
use Rattle.ar_bundle.specs.declared.bundle.EventPart.{EventPart}
use Rattle.ar_bundle.specs.declared.bundle.RunPart.{RunPart}
use Rattle.ar_bundle.proofs.Bundles.{run_there}

pub none_counted : (from : ℕ) (runs : List RunPart) → sizes_from [] from runs ≡ replicate (length runs) 0
none_counted from [] = refl
none_counted from (run ∷ runs) = ap (λ (counts : List ℕ). 0 ∷ counts) (none_counted (suc from) runs)

abbrev tested : (run : ℕ) → EventPart → ℕ
tested run entry = if entry.run == run then 1 else 0

tested_is : (run : ℕ) (entry : EventPart) (test : Bool) → (entry.run == run) ≡ test → tested run entry ≡ (if test then 1 else 0)
tested_is run entry test is = rw is refl

count_push : (entries : List EventPart) (entry : EventPart) (run : ℕ) → count_of (entries ++ entry ∷ []) run ≡ count_of entries run + tested run entry
count_push entries entry run = sum_by_push (tested run) entries entry

-- an entry of another run isn't counted
of_another : (entries : List EventPart) (entry : EventPart) (run : ℕ) → entry.run < run → count_of (entries ++ entry ∷ []) run ≡ count_of entries run
of_another entries entry run below =
    let unlike : (entry.run == run) ≡ false = grind (arith, nat_tests) in
    let none = tested_is run entry false unlike in
    let pushed = count_push entries entry run in
    omega arith

of_others : (entries : List EventPart) (entry : EventPart) (run : ℕ) → run < entry.run → count_of (entries ++ entry ∷ []) run ≡ count_of entries run
of_others entries entry run above =
    let unlike : (entry.run == run) ≡ false = grind (arith, nat_tests) in
    let none = tested_is run entry false unlike in
    let pushed = count_push entries entry run in
    omega arith

of_own : (entries : List EventPart) (entry : EventPart) (run : ℕ) → entry.run ≡ run → count_of (entries ++ entry ∷ []) run ≡ count_of entries run + 1
of_own entries entry run same =
    let like : (entry.run == run) ≡ true = grind (arith, nat_tests) in
    let one = tested_is run entry true like in
    let pushed = count_push entries entry run in
    omega arith

all_of_another : (entries : List EventPart) (entry : EventPart) (from : ℕ) (runs : List RunPart) → entry.run < from → sizes_from (entries ++ entry ∷ []) from runs ≡ sizes_from entries from runs
all_of_another entries entry from [] below = refl
all_of_another entries entry from (run ∷ runs) below =
    let first = of_another entries entry from below in
    let rest = all_of_another entries entry (suc from) runs (omega arith) in
    cc

-- an entry is counted for its run alone
counts_push : (entries : List EventPart) (entry : EventPart) (from place : ℕ) (runs : List RunPart) (d : ℕ) → entry.run ≡ from + place → place < length runs → sizes_from (entries ++ entry ∷ []) from runs ≡ set (sizes_from entries from runs) place (get_or (sizes_from entries from runs) place d + 1)
counts_push entries entry from place [] d is inside = absurd (omega arith)
counts_push entries entry from zero (run ∷ runs) d is inside =
    let first = of_own entries entry from (omega arith) in
    let rest = all_of_another entries entry (suc from) runs (omega arith) in
    cc
counts_push entries entry from (suc place) (run ∷ runs) d is inside =
    let first = of_others entries entry from (omega arith) in
    let rest = counts_push entries entry (suc from) place runs d (omega arith) (omega arith) in
    cc

pub as_many_counts : (entries : List EventPart) (from : ℕ) (runs : List RunPart) → length (sizes_from entries from runs) ≡ length runs
as_many_counts entries from [] = refl
as_many_counts entries from (run ∷ runs) = ap suc (as_many_counts entries (suc from) runs)

pub count_at : (entries : List EventPart) (from place d : ℕ) (runs : List RunPart) → place < length runs → get_or (sizes_from entries from runs) place d ≡ count_of entries (from + place)
count_at entries from place d [] inside = absurd (omega arith)
count_at entries from zero d (run ∷ runs) inside = let here : from ≡ from + zero = omega arith in ap (count_of entries) here
count_at entries from (suc place) d (run ∷ runs) inside =
    let next : suc from + place ≡ from + suc place = omega arith in
    count_at entries (suc from) place d runs (omega arith) ∙ ap (count_of entries) next

pub few_counted : (entries : List EventPart) (run : ℕ) → count_of entries run ≤ length entries
few_counted entries run = count_by-le-length (λ (entry : EventPart). entry.run == run) entries

-- what is known of the next entry, and of the sizes so far
pub record NextSize (runs : List RunPart) (entries : List EventPart) (upto run : ℕ) (sizes : List ℕ) : Type 0 where
  pub inside : run < length sizes
  pub few : (d : ℕ) → get_or sizes run d ≤ upto
  pub more : (d : ℕ) → set sizes run (get_or sizes run d + 1) ≡ sizes_from (take (suc upto) entries) 0 runs

next_of_bundle : (bundle : Bundle) (upto : ℕ) (entry : EventPart) (sizes : List ℕ) → IsBundle bundle → upto < length bundle.entries → entry ≡ slice_index_or bundle.entries upto entry → sizes ≡ sizes_from (take upto bundle.entries) 0 bundle.runs → NextSize bundle.runs bundle.entries upto entry.run sizes
next_of_bundle bundle upto entry sizes is inside read are =
    let below = run_there bundle upto entry is inside read in
    let before : List EventPart = take upto bundle.entries in
    let many = as_many_counts before 0 bundle.runs in
    let as_many = ap length are in
    let short = length-take-le upto bundle.entries (omega arith) in
    let longer : take (suc upto) bundle.entries ≡ before ++ entry ∷ [] = take-suc bundle.entries upto entry inside ∙ ap (λ (entry : EventPart). before ++ entry ∷ []) (sym read) in
    record {
      inside = omega arith;
      few = λ d.
          let counted = count_at before 0 entry.run d bundle.runs below in
          let few = few_counted before (0 + entry.run) in
          let same = ap (λ (sizes : List ℕ). get_or sizes entry.run d) are in
          omega arith;
      more = λ d.
          ap (λ (sizes : List ℕ). set sizes entry.run (get_or sizes entry.run d + 1)) are
          ∙ (sym (counts_push before entry 0 entry.run bundle.runs d (omega arith) below)
          ∙ ap (λ (entries : List EventPart). sizes_from entries 0 bundle.runs) (sym longer));
    }

-- the same, of the entries as they are read
pub next_size : (bundle : Bundle) (entries : List EventPart) (upto : ℕ) (entry : EventPart) (sizes : List ℕ) → IsBundle bundle → bundle.entries ≡ entries → upto < length entries → entry ≡ slice_index_or entries upto entry → sizes ≡ sizes_from (take upto entries) 0 bundle.runs → NextSize bundle.runs entries upto entry.run sizes
next_size bundle entries upto entry sizes is same =
    subst (λ (entries : List EventPart). upto < length entries → entry ≡ slice_index_or entries upto entry → sizes ≡ sizes_from (take upto entries) 0 bundle.runs → NextSize bundle.runs entries upto entry.run sizes) same
    (next_of_bundle bundle upto entry sizes is)

-- the sizes, once all entries are counted
pub all_counted : (bundle : Bundle) (upto : ℕ) (sizes : List ℕ) → length bundle.entries ≤ upto → sizes ≡ sizes_from (take upto bundle.entries) 0 bundle.runs → sizes ≡ sizes_of bundle
all_counted bundle upto sizes past are = are ∙ ap (λ (entries : List EventPart). sizes_from entries 0 bundle.runs) (take_all upto bundle.entries past)
