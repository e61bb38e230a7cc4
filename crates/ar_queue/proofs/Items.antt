-- What the queue holds, with one item more or less.
use Rattle.std.proofs.Common.{◌≡◌, ◌≢◌, ◌<◌, ◌≤◌, ℕ, suc, ◌+◌, ◌==◌, Bool, true, false, if◌then◌else◌, List, [], ◌∷◌, ◌++◌, refl, ◌∙◌, ap, arith}
use Rattle.std.specs.Prelude.{nat_lt}
use Rattle.std.specs.List.{AllByRecursion}
use Rattle.std.proofs.lemmas.Bool.Decides.{nat_tests}
use Rattle.std.proofs.lemmas.List.Sums.{sum_by-cons, sum_by_push}
use Rattle.ar_bundle.specs.Lawful.{Rise}
use Rattle.ar_queue.specs.Numbers.{once_below}
use Rattle.ar_queue.specs.Rule.{MarksLast, marks_of_item, marks_queued, numbers_of_items, times_of, times_queued}
use Rattle.ar_queue.specs.declared.queue.Item.{Item}
use Rattle.ar_queue.specs.declared.queue.Item.TheVariants.{Number, End}
use Rattle.ar_bundle.proofs.HistoryLemmas.{all_push}

-- ---- tests as counts

pub times_by_test : (number own : ℕ) (test : Bool) → (own == number) ≡ test → times_of number (Number own) ≡ (if test then 1 else 0)
times_by_test number own test is = rw is refl

below_by_test : (number upto : ℕ) (test : Bool) → nat_lt number upto ≡ test → once_below number upto ≡ (if test then 1 else 0)
below_by_test number upto test is = rw is refl

pub is_below : (number upto : ℕ) → number < upto → once_below number upto ≡ 1
is_below number upto less = below_by_test number upto true (grind (arith, nat_tests))

pub not_below : (number upto : ℕ) → upto ≤ number → once_below number upto ≡ 0
not_below number upto most = below_by_test number upto false (grind (arith, nat_tests))

pub below_of : (number upto : ℕ) → 0 < once_below number upto → number < upto
below_of number upto some = by_test (nat_lt number upto) refl where
  by_test : (test : Bool) → nat_lt number upto ≡ test → number < upto
  by_test true is = grind (arith, nat_tests)
  by_test false is = absurd (let none = below_by_test number upto false is in omega arith)

-- one number more was put
pub below_next : (number upto : ℕ) → once_below number upto + times_of number (Number upto) ≡ once_below number (suc upto)
below_next number upto = by_test (nat_lt number upto) refl (upto == number) refl where
  by_test : (less : Bool) → nat_lt number upto ≡ less → (same : Bool) → (upto == number) ≡ same → once_below number upto + times_of number (Number upto) ≡ once_below number (suc upto)
  by_test true is_less true is_same = absurd (grind (arith, nat_tests))
  by_test true is_less false is_apart =
      let less : number < upto = grind (arith, nat_tests) in
      let now = is_below number upto less in
      let next = is_below number (suc upto) (omega arith) in
      let none = times_by_test number upto false is_apart in
      omega arith
  by_test false not_less true is_same =
      let same : upto ≡ number = grind (arith, nat_tests) in
      let now = not_below number upto (omega arith) in
      let next = is_below number (suc upto) (omega arith) in
      let one = times_by_test number upto true is_same in
      omega arith
  by_test false not_less false is_apart =
      let most : upto ≤ number = grind (arith, nat_tests) in
      let away : upto ≢ number = grind (arith, nat_tests) in
      let now = not_below number upto most in
      let next = not_below number (suc upto) (omega arith) in
      let none = times_by_test number upto false is_apart in
      omega arith

-- ---- numbers

own_time : (number : ℕ) → times_of number (Number number) ≡ 1
own_time number = times_by_test number number true (grind (arith, nat_tests))

pub first_number : (number own : ℕ) (items : List Item) → times_queued number (Number own ∷ items) ≡ times_of number (Number own) + times_queued number items
first_number number own items = sum_by-cons (times_of number) (Number own) items

pub first_there : (number : ℕ) (items : List Item) → 0 < times_queued number (Number number ∷ items)
first_there number items = let all = first_number number number items in let own = own_time number in omega arith

pub first_mark : (number : ℕ) (items : List Item) → times_queued number (End ∷ items) ≡ times_queued number items
first_mark number items = let all = sum_by-cons (times_of number) End items in omega arith

-- numbers that are there are below one, where all that are there are
pub all_below : (upto : ℕ) (items : List Item) → ((number : ℕ) → 0 < times_queued number items → number < upto) → AllByRecursion (λ number. number < upto) (numbers_of_items items)
all_below upto [] below = tt
all_below upto (Number number ∷ items) below = (below number (first_there number items), all_below upto items (λ other there. below other (let all = first_number other number items in omega arith)))
all_below upto (End ∷ items) below = all_below upto items (λ other there. below other (let all = first_mark other items in omega arith))

pub numbers_push : (items : List Item) (number : ℕ) → numbers_of_items (items ++ Number number ∷ []) ≡ numbers_of_items items ++ number ∷ []
numbers_push [] number = refl
numbers_push (Number own ∷ items) number = ap (λ (rest : List ℕ). own ∷ rest) (numbers_push items number)
numbers_push (End ∷ items) number = numbers_push items number

pub numbers_mark : (items : List Item) → numbers_of_items (items ++ End ∷ []) ≡ numbers_of_items items
numbers_mark [] = refl
numbers_mark (Number own ∷ items) = ap (λ (rest : List ℕ). own ∷ rest) (numbers_mark items)
numbers_mark (End ∷ items) = numbers_mark items

pub rise_push : (numbers : List ℕ) (last : ℕ) → Rise numbers → AllByRecursion (λ number. number < last) numbers → Rise (numbers ++ last ∷ [])
rise_push [] last rise below = (tt, tt)
rise_push (number ∷ numbers) last rise below = (all_push (λ later. number < later) numbers last rise.0 below.0, rise_push numbers last rise.1 below.1)

pub none_queued : (number : ℕ) (items : List Item) → numbers_of_items items ≡ [] → times_queued number items ≡ 0
none_queued number [] none = refl
none_queued number (Number own ∷ items) none = absurd cc
none_queued number (End ∷ items) none = first_mark number items ∙ none_queued number items none

-- ---- end marks

pub marks_push : (items : List Item) (item : Item) → marks_queued (items ++ item ∷ []) ≡ marks_queued items + marks_of_item item
marks_push items item = sum_by_push marks_of_item items item

pub marks_first : (item : Item) (items : List Item) → marks_queued (item ∷ items) ≡ marks_of_item item + marks_queued items
marks_first item items = sum_by-cons marks_of_item item items

-- a number after numbers alone, and an end mark after anything
pub last_number : (items : List Item) (number : ℕ) → marks_queued items ≡ 0 → MarksLast (items ++ Number number ∷ [])
last_number [] number none = tt
last_number (Number own ∷ items) number none = last_number items number (let first = marks_first (Number own) items in omega arith)
last_number (End ∷ items) number none = absurd (let first = marks_first End items in omega arith)

pub last_mark : (items : List Item) → MarksLast items → MarksLast (items ++ End ∷ [])
last_mark [] last = refl
last_mark (Number own ∷ items) last = last_mark items last
last_mark (End ∷ items) last = numbers_mark items ∙ last

-- after an end mark that is taken
pub after_mark : (items : List Item) → MarksLast (End ∷ items) → MarksLast items
after_mark items none = all_marks items none where
  all_marks : (items : List Item) → numbers_of_items items ≡ [] → MarksLast items
  all_marks [] none = tt
  all_marks (Number own ∷ items) none = absurd cc
  all_marks (End ∷ items) none = none
