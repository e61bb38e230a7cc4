-- Which numbers histories hold, by marks.
use Rattle.std.proofs.Common.{◌≡◌, ◌≢◌, ◌<◌, ◌≤◌, ℕ, zero, suc, ◌+◌, ◌==◌, Bool, true, false, List, [], ◌∷◌, ◌++◌, length, set, take, get_or, Some, inl, inr, refl, sym, ◌∙◌, ap, subst, arith}
use Rattle.std.specs.Prelude.{slice_get, slice_index_or}
use Rattle.std.specs.List.{AllByRecursion}
use Rattle.std.proofs.lemmas.Bool.Decides.{nat_tests}
use Rattle.std.proofs.lemmas.List.{length-set, map_push}
use Rattle.std.proofs.lemmas.Option.{slice_get_read, slice_get_within}
use Rattle.ar_bundle.specs.Lawful.{numbers_of, times, times_in}
use Rattle.ar_bundle.specs.declared.history.Entry.{Entry}
use Rattle.ar_bundle.proofs.HistoryLemmas.{times_by, times_push}
use Rattle.ar_board.proofs.Cells.{cases_at}
use Rattle.ar_board.specs.Private.Closing.{AreInside, AreStored, IsFirstUnheld, IsThere, StoredAs}
use Rattle.ar_board.proofs.Marks.{of_all, same_read, take_next, take_whole}

-- ---- one history

pub stored_first : (history : List Entry) (marks : List Bool) → AreStored (λ number. times_in number (numbers_of (take 0 history))) marks marks
stored_first history marks = record { as_many = refl; each = λ number was is there there_too. by_mark was is (let both = sym there ∙ there_too in cc) } where
  by_mark : (was is : Bool) → was ≡ is → StoredAs 0 was is
  by_mark true is same = sym same
  by_mark false true same = absurd cc
  by_mark false false same = refl

more_stored : (times more : ℕ) (was is : Bool) → StoredAs times was is → more ≡ times → StoredAs more was is
more_stored times more true is stored same = stored
more_stored times more false true stored same = omega arith
more_stored times more false false stored same = same ∙ stored

now_stored : (times : ℕ) (was : Bool) → 0 < times → StoredAs times was true
now_stored times true some = refl
now_stored times false some = some

pub number_fits : (upto : ℕ) (history : List Entry) (at : ℕ) (entry : Entry) → AreInside upto history → at < length history → entry ≡ slice_index_or history at entry → entry.number < upto
number_fits upto history at entry inside below read = of_all (λ (entry : Entry). entry.number < upto) history at entry inside (slice_get_read history (length history) at entry refl below read)

pub stored_next : (history : List Entry) (at : ℕ) (d : Entry) (before marks : List Bool) → at < length history → AreInside (length before) history → AreStored (λ number. times_in number (numbers_of (take at history))) before marks
    → AreStored (λ number. times_in number (numbers_of (take (at + 1) history))) before (set marks (slice_index_or history at d).number true)
stored_next history at d before marks below all_inside stored = record { as_many = length-set marks entry.number true ∙ stored.as_many; each = each } where
  entry : Entry
  entry = slice_index_or history at d

  read : entry ≡ slice_index_or history at entry
  read = same_read history at d entry below

  inside : entry.number < length marks
  inside = let fits = number_fits (length before) history at entry all_inside below read in let many = stored.as_many in omega arith

  pushed : (number : ℕ) → times_in number (numbers_of (take (at + 1) history)) ≡ times_in number (numbers_of (take at history)) + times_in number (entry.number ∷ [])
  pushed number =
      ap (λ (history : List Entry). times_in number (numbers_of history)) (take_next history at entry below read)
      ∙ (ap (times_in number) (map_push (λ (entry : Entry). entry.number) (take at history) entry) ∙ times_push number entry.number (numbers_of (take at history)))

  here : 0 < times_in entry.number (numbers_of (take (at + 1) history))
  here =
      let all = pushed entry.number in
      let same : (entry.number == entry.number) ≡ true = grind (arith, nat_tests) in
      let one = times_by entry.number entry.number [] true same in
      omega arith

  elsewhere : (number : ℕ) → number ≢ entry.number → times_in number (numbers_of (take (at + 1) history)) ≡ times_in number (numbers_of (take at history))
  elsewhere number away =
      let all = pushed number in
      let apart : (entry.number == number) ≡ false = grind (arith, nat_tests) in
      let none = times_by number entry.number [] false apart in
      omega arith

  each : (number : ℕ) (was is : Bool) → slice_get before number ≡ Some was → slice_get (set marks entry.number true) number ≡ Some is → StoredAs (times_in number (numbers_of (take (at + 1) history))) was is
  each number was is there there_too =
      cases_at (λ number mark. (was : Bool) → slice_get before number ≡ Some was → StoredAs (times_in number (numbers_of (take (at + 1) history))) was mark) marks entry.number number true is inside
      (λ was there. now_stored (times_in entry.number (numbers_of (take (at + 1) history))) was here)
      (λ mark away was_there was there. more_stored (times_in number (numbers_of (take at history))) (times_in number (numbers_of (take (at + 1) history))) was mark (stored.each number was mark there was_there) (elsewhere number away)) there_too was there

pub stored_end : (history : List Entry) (at : ℕ) (before marks : List Bool) → length history ≤ at → at ≤ length history → AreStored (λ number. times_in number (numbers_of (take at history))) before marks → AreStored (λ number. times_in number (numbers_of history)) before marks
stored_end history at before marks done most stored =
    let all : at ≡ length history = omega arith in
    subst (λ (history' : List Entry). AreStored (λ number. times_in number (numbers_of history')) before marks) (ap (λ (at : ℕ). take at history) all ∙ take_whole history) stored

-- ---- all histories

pub all_stored_first : (histories : List (List Entry)) (marks : List Bool) → AreStored (λ number. times number (take 0 histories)) marks marks
all_stored_first histories marks = stored_first [] marks

pub inside_there : (upto : ℕ) (histories : List (List Entry)) (at : ℕ) (history : List Entry) → AllByRecursion (AreInside upto) histories → at < length histories → history ≡ slice_index_or histories at history → AreInside upto history
inside_there upto histories at history inside below read = of_all (AreInside upto) histories at history inside (slice_get_read histories (length histories) at history refl below read)

times_more : (number : ℕ) (histories : List (List Entry)) (history : List Entry) → times number (histories ++ history ∷ []) ≡ times number histories + times_in number (numbers_of history)
times_more number [] history = omega arith
times_more number (first ∷ histories) history = let rest = times_more number histories history in omega arith

both_stored : (times more : ℕ) (was between is : Bool) → StoredAs times was between → StoredAs more between is → StoredAs (times + more) was is
both_stored times more true true is first second = second
both_stored times more true false is first second = absurd cc
both_stored times more false true is first second = let now : is ≡ true = second in subst (StoredAs (times + more) false) (sym now) (let some : 0 < times = first in let all : 0 < times + more = omega arith in all)
both_stored times more false false true first second = let some : 0 < more = second in let all : 0 < times + more = omega arith in all
both_stored times more false false false first second = let none : times ≡ 0 = first in let no_more : more ≡ 0 = second in let all : times + more ≡ 0 = omega arith in all

mark_at : (marks : List Bool) (number : ℕ) → number < length marks → (mark : Bool) × (slice_get marks number ≡ Some mark)
mark_at [] number inside = absurd (omega arith)
mark_at (mark ∷ marks) zero inside = (mark, refl)
mark_at (mark ∷ marks) (suc number) inside = mark_at marks number (omega arith)

pub all_stored_next : (histories : List (List Entry)) (at : ℕ) (history : List Entry) (before marks after : List Bool) → at < length histories → history ≡ slice_index_or histories at history → AreStored (λ number. times number (take at histories)) before marks → AreStored (λ number. times_in number (numbers_of history)) marks after
    → AreStored (λ number. times number (take (at + 1) histories)) before after
all_stored_next histories at history before marks after below read first second =
    record {
      as_many = second.as_many ∙ first.as_many;
      each = λ number was is there there_too.
          let inside = slice_get_within before number was there in
          let many = first.as_many in
          let between = mark_at marks number (omega arith) in
          more_stored (times number (take at histories) + times_in number (numbers_of history)) (times number (take (at + 1) histories)) was is
          (both_stored (times number (take at histories)) (times_in number (numbers_of history)) was between.0 is (first.each number was between.0 there between.1) (second.each number between.0 is between.1 there_too))
          (ap (times number) (take_next histories at history below read) ∙ times_more number (take at histories) history);
    }

pub all_stored_end : (histories : List (List Entry)) (at : ℕ) (before marks : List Bool) → length histories ≤ at → at ≤ length histories → AreStored (λ number. times number (take at histories)) before marks → AreStored (λ number. times number histories) before marks
all_stored_end histories at before marks done most stored =
    let all : at ≡ length histories = omega arith in
    subst (λ (histories' : List (List Entry)). AreStored (λ number. times number histories') before marks) (ap (λ (at : ℕ). take at histories) all ∙ take_whole histories) stored

-- ---- the first number that isn't held

marked_at : (marks : List Bool) (number : ℕ) (mark : Bool) → number < length marks → get_or marks number false ≡ mark → slice_get marks number ≡ Some mark
marked_at [] number mark inside is = absurd (omega arith)
marked_at (first ∷ marks) zero mark inside is = ap Some is
marked_at (first ∷ marks) (suc number) mark inside is = marked_at marks number mark (omega arith) is

pub first_unmet : (unmet stored : List Bool) (number : ℕ) → number < length unmet → get_or unmet number false ≡ true → ((other : ℕ) → other < number → IsThere unmet stored other) → IsFirstUnheld unmet stored number
first_unmet unmet stored number inside is earlier = record { there = inside; unheld = inl (marked_at unmet number true inside is); earlier = earlier }

pub first_nowhere : (unmet stored : List Bool) (number : ℕ) → number < length unmet → number < length stored → get_or stored number false ≡ false → ((other : ℕ) → other < number → IsThere unmet stored other) → IsFirstUnheld unmet stored number
first_nowhere unmet stored number inside stored_inside is earlier = record { there = inside; unheld = inr (marked_at stored number false stored_inside is); earlier = earlier }

pub there_next : (unmet stored : List Bool) (number : ℕ) → number < length unmet → number < length stored → get_or unmet number false ≡ false → get_or stored number false ≡ true → ((other : ℕ) → other < number → IsThere unmet stored other) → (other : ℕ) → other < number + 1 → IsThere unmet stored other
there_next unmet stored number inside stored_inside met is_there earlier other below = by_test (number == other) refl where
  by_test : (test : Bool) → (number == other) ≡ test → IsThere unmet stored other
  by_test true same =
      let equal : number ≡ other = grind (arith, nat_tests) in
      subst (IsThere unmet stored) equal (record { is_met = marked_at unmet number false inside met; is_there = marked_at stored number true stored_inside is_there })
  by_test false apart = let less : other < number = grind (arith, nat_tests) in earlier other less
