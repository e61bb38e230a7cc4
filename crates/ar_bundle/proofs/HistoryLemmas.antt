-- Histories that grow by one entry, and how often a number is in them.
use Rattle.std.proofs.Common.{◌≡◌, ◌<◌, ◌≤◌, ◌≢◌, ℕ, zero, suc, ◌+◌, ◌==◌, Bool, true, false, if◌then◌else◌, List, [], ◌∷◌, ◌++◌, length, map, get_or, set, Option, Some, None, refl, sym, ◌∙◌, ap, subst, arith}
use Rattle.std.specs.Prelude.{slice_get}
use Rattle.std.specs.List.{AllByRecursion, cons_option}
use Rattle.std.proofs.lemmas.List.{map_push}
use Rattle.std.proofs.lemmas.List.Elements.{filter_map-append}
use Rattle.ar_limits.proofs.RunLemmas.{effects-push}
use Rattle.ar_limits.specs.Prefixes.{with_earlier}
use Rattle.ar_limits.specs.Run.{effect_of, effects}
use Rattle.ar_limits.specs.declared.event.Event.{Event}
use Rattle.ar_limits.specs.declared.limits.Limits.{Limits}
use Rattle.ar_bundle.specs.Bundle.{Bundle, events_of, finding_at, happened, run_at}
use Rattle.ar_bundle.specs.Lawful.{AreHistories, IsFound, IsHistory, numbers_of, times, times_in}
use Rattle.ar_bundle.specs.declared.bundle.RunPart.{RunPart}
use Rattle.ar_bundle.specs.declared.finding.Finding.{Finding}
use Rattle.ar_bundle.specs.declared.history.Entry.{Entry}

-- ---- what is at an index of a changed list

-- what holds of each, and of one more
pub pushed_at : {A : Type 0} (P : ℕ → A → Type 0) (xs : List A) (last : A) (at : ℕ) (x : A) → ((at : ℕ) (x : A) → slice_get xs at ≡ Some x → P at x) → P (length xs) last → slice_get (xs ++ last ∷ []) at ≡ Some x → P at x
pushed_at P [] last zero x each new there = let same : last ≡ x = cc in subst (P 0) same new
pushed_at P [] last (suc at) x each new there = absurd cc
pushed_at P (first ∷ xs) last zero x each new there = each zero x there
pushed_at P (first ∷ xs) last (suc at) x each new there = pushed_at (λ at x. P (suc at) x) xs last at x (λ at x there. each (suc at) x there) new there

pub at_set_same : {A : Type 0} (xs : List A) (at : ℕ) (x : A) → at < length xs → slice_get (set xs at x) at ≡ Some x
at_set_same [] at x inside = absurd (omega arith)
at_set_same (first ∷ xs) zero x inside = refl
at_set_same (first ∷ xs) (suc at) x inside = at_set_same xs at x (omega arith)

pub at_set_other : {A : Type 0} (xs : List A) (at other : ℕ) (x : A) → other ≢ at → slice_get (set xs at x) other ≡ slice_get xs other
at_set_other [] at other x away = refl
at_set_other (first ∷ xs) zero zero x away = absurd (away refl)
at_set_other (first ∷ xs) zero (suc other) x away = refl
at_set_other (first ∷ xs) (suc at) zero x away = refl
at_set_other (first ∷ xs) (suc at) (suc other) x away = at_set_other xs at other x (λ same. away (ap suc same))

-- what holds of all holds with one more that it holds of
pub all_push : {A : Type 0} (P : A → Type 0) (xs : List A) (x : A) → AllByRecursion P xs → P x → AllByRecursion P (xs ++ x ∷ [])
all_push P [] x all last = (last, tt)
all_push P (first ∷ rest) x all last = (all.0, all_push P rest x all.1 last)

pub events_push : (bundle : Bundle) (numbers : List ℕ) (number : ℕ) (event : Event) → happened bundle number ≡ Some event → events_of bundle (numbers ++ number ∷ []) ≡ events_of bundle numbers ++ event ∷ []
events_push bundle numbers number event is = filter_map-append (happened bundle) numbers (number ∷ []) ∙ rw is refl

-- no more happens than there are numbers
one_happens : (event : Option Event) (events : List Event) (most : ℕ) → length events ≤ most → length (cons_option event events) ≤ suc most
one_happens None events most few = omega arith
one_happens (Some event) events most few = omega arith

pub few_happen : (bundle : Bundle) (numbers : List ℕ) → length (events_of bundle numbers) ≤ length numbers
few_happen bundle [] = omega arith
few_happen bundle (number ∷ numbers) = one_happens (happened bundle number) (events_of bundle numbers) (length numbers) (few_happen bundle numbers)

pub numbers_push : (history : List Entry) (entry : Entry) → numbers_of (history ++ entry ∷ []) ≡ numbers_of history ++ entry.number ∷ []
numbers_push history entry = map_push (λ (entry : Entry). entry.number) history entry

-- a number's entry is added to its run's history
pub history_push : (bundle : Bundle) (run : ℕ) (limits : List Limits) (history : List Entry) (number : ℕ) (finding : Finding) (event : Event) → run_at bundle number ≡ Some run → finding_at bundle number ≡ Some finding → happened bundle number ≡ Some event
    → IsHistory bundle run limits history → IsHistory bundle run limits (history ++ record { number = number; finding = finding; effect = effect_of limits (events_of bundle (numbers_of history)) event } ∷ [])
history_push bundle run limits history number finding event own finds happens is =
    let before : List Event = events_of bundle (numbers_of history) in
    let entry : Entry = record { number = number; finding = finding; effect = effect_of limits before event } in
    let events : events_of bundle (numbers_of (history ++ entry ∷ [])) ≡ before ++ event ∷ [] = ap (events_of bundle) (numbers_push history entry) ∙ events_push bundle (numbers_of history) number event happens in
    record {
      found = all_push (IsFound bundle run) history entry is.found (record { own = own; finding = finds });
      effects = map_push (λ (entry : Entry). entry.effect) history entry
          ∙ ap (λ all. all ++ effect_of limits before event ∷ []) is.effects
          ∙ sym (effects-push limits before event)
          ∙ ap (effects limits) (sym events);
    }

-- ---- histories of all runs

module _ (bundle : Bundle) where
  pub history_at : (from place : ℕ) (runs : List RunPart) (histories : List (List Entry)) (part : RunPart) → AreHistories bundle from runs histories → slice_get runs place ≡ Some part → IsHistory bundle (from + place) part.limits (get_or histories place [])
  history_at from place [] histories part are there = absurd cc
  history_at from place (run ∷ runs) [] part are there = absurd are
  history_at from zero (run ∷ runs) (history ∷ histories) part are there =
      let same : run ≡ part = cc in
      let here : from + zero ≡ from = omega arith in
      subst (λ (part : RunPart). IsHistory bundle (from + zero) part.limits history) same (subst (λ (at : ℕ). IsHistory bundle at run.limits history) (sym here) are.0)
  history_at from (suc place) (run ∷ runs) (history ∷ histories) part are there =
      let here : suc from + place ≡ from + suc place = omega arith in
      subst (λ (at : ℕ). IsHistory bundle at part.limits (get_or histories place [])) here (history_at (suc from) place runs histories part are.1 there)

  pub history_set : (from place : ℕ) (runs : List RunPart) (histories : List (List Entry)) (part : RunPart) (later : List Entry) → AreHistories bundle from runs histories → slice_get runs place ≡ Some part → IsHistory bundle (from + place) part.limits later → AreHistories bundle from runs (set histories place later)
  history_set from place [] histories part later are there is = absurd cc
  history_set from place (run ∷ runs) [] part later are there is = absurd are
  history_set from zero (run ∷ runs) (history ∷ histories) part later are there is =
      let same : part ≡ run = cc in
      let here : from + zero ≡ from = omega arith in
      (subst (λ (part : RunPart). IsHistory bundle from part.limits later) same (subst (λ (at : ℕ). IsHistory bundle at part.limits later) here is), are.1)
  history_set from (suc place) (run ∷ runs) (history ∷ histories) part later are there is =
      let here : from + suc place ≡ suc from + place = omega arith in
      (are.0, history_set (suc from) place runs histories part later are.1 there (subst (λ (at : ℕ). IsHistory bundle at part.limits later) here is))

  pub as_many : (from : ℕ) (runs : List RunPart) (histories : List (List Entry)) → AreHistories bundle from runs histories → length histories ≡ length runs
  as_many from [] [] are = refl
  as_many from [] (history ∷ histories) are = absurd are
  as_many from (run ∷ runs) [] are = absurd are
  as_many from (run ∷ runs) (history ∷ histories) are = ap suc (as_many (suc from) runs histories are.1)

  -- of nothing
  pub none_yet : (from : ℕ) (runs : List RunPart) → AreHistories bundle from runs (map (λ run. []) runs)
  unfolding effects with_earlier
  none_yet from [] = tt
  none_yet from (run ∷ runs) = (record { found = tt; effects = refl }, none_yet (suc from) runs)

-- ---- how often a number is in them

pub times_by : (number first : ℕ) (numbers : List ℕ) (test : Bool) → (first == number) ≡ test → times_in number (first ∷ numbers) ≡ (if test then suc (times_in number numbers) else times_in number numbers)
times_by number first numbers test is = rw is refl

push_by_test : (number last first : ℕ) (numbers : List ℕ) (test : Bool) → (first == number) ≡ test → times_in number (numbers ++ last ∷ []) ≡ times_in number numbers + times_in number (last ∷ []) → times_in number (first ∷ (numbers ++ last ∷ [])) ≡ times_in number (first ∷ numbers) + times_in number (last ∷ [])
push_by_test number last first numbers true is more =
    let left = times_by number first (numbers ++ last ∷ []) true is in
    let right = times_by number first numbers true is in
    omega arith
push_by_test number last first numbers false is more =
    let left = times_by number first (numbers ++ last ∷ []) false is in
    let right = times_by number first numbers false is in
    omega arith

pub times_push : (number last : ℕ) (numbers : List ℕ) → times_in number (numbers ++ last ∷ []) ≡ times_in number numbers + times_in number (last ∷ [])
times_push number last [] = omega arith
times_push number last (first ∷ numbers) = push_by_test number last first numbers (first == number) refl (times_push number last numbers)

-- a number's entry at the end of one of them
pub times_added : (number place : ℕ) (histories : List (List Entry)) (entry : Entry) → place < length histories
    → times number (set histories place (get_or histories place [] ++ entry ∷ [])) ≡ times number histories + times_in number (entry.number ∷ [])
times_added number place [] entry inside = absurd (omega arith)
times_added number zero (history ∷ histories) entry inside =
    let pushed : times_in number (numbers_of (history ++ entry ∷ [])) ≡ times_in number (numbers_of history) + times_in number (entry.number ∷ []) = ap (times_in number) (numbers_push history entry) ∙ times_push number entry.number (numbers_of history) in
    ap (λ first. first + times number histories) pushed ∙ omega arith
times_added number (suc place) (history ∷ histories) entry inside =
    let more = times_added number place histories entry (omega arith) in
    ap (λ rest. times_in number (numbers_of history) + rest) more ∙ omega arith

pub times_none : (number : ℕ) (runs : List RunPart) → times number (map (λ run. []) runs) ≡ 0
times_none number [] = refl
times_none number (run ∷ runs) = let rest = times_none number runs in omega arith
