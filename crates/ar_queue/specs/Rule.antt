-- The rule of the queue from which workers take the numbers of a bundle. One pass feeds it: it puts the numbers in
-- their order, then an end mark for each worker. It splits off a pass for each worker, and joins these again. What a
-- pass has done is its view.
use Rattle.std.specs.Prelude.{◌≡◌, ◌<◌, ◌≤◌, ◌+◌, ◌-◌, ◌==◌, ◌++◌, ℕ, suc, if◌then◌else◌, List, [], ◌∷◌}
use Rattle.std.specs.List.{sum_by}
use Rattle.ar_bundle.specs.Lawful.{Rise, times_in}
use Rattle.ar_queue.specs.declared.queue.Item.{Item}
use Rattle.ar_queue.specs.declared.queue.Item.TheVariants.{Number, End}
use Rattle.ar_queue.specs.declared.queue.View.{View}
use Rattle.ar_queue.specs.Numbers.{once_below}
use Rattle.ar_bundle.specs.Event.{EventNumber}

-- ---- what the queue holds

-- how often a number is in it
abbrev pub times_of : (number : EventNumber) → Item → ℕ
times_of number (Number own) = if own == number then 1 else 0
times_of number End = 0

abbrev pub times_queued : (number : EventNumber) → List Item → ℕ
times_queued number items = sum_by (times_of number) items

abbrev pub marks_of_item : Item → ℕ
marks_of_item (Number own) = 0
marks_of_item End = 1

abbrev pub marks_queued : List Item → ℕ
marks_queued items = sum_by marks_of_item items

abbrev pub numbers_of_items : List Item → List ℕ
numbers_of_items [] = []
numbers_of_items (Number number ∷ items) = number ∷ numbers_of_items items
numbers_of_items (End ∷ items) = numbers_of_items items

-- end marks come after all numbers
abbrev pub MarksLast : List Item → Type 0
MarksLast [] = Unit {0}
MarksLast (Number number ∷ items) = MarksLast items
MarksLast (End ∷ items) = numbers_of_items items ≡ []

-- ---- what the passes have done

abbrev pub total : (View → ℕ) → List View → ℕ
total f views = sum_by f views

abbrev pub fed_by_others : View → ℕ
fed_by_others view = if view.feeds == 0 then view.put + (view.marks + view.out) else 0

abbrev pub times_in_spent : (number : EventNumber) → View → ℕ
times_in_spent number view = if view.live == 0 then times_in number view.taken else 0

pub record IsQueue (events : ℕ) (items : List Item) (views : List View) : Type 0 where
  -- one pass feeds the queue, and no other has put or split anything
  pub feeder : total (λ view. view.feeds) views ≡ 1
  pub alone : total fed_by_others views ≡ 0
  -- as many passes aren't spent as were split off and not joined, and the feeder; one that is spent has no number
  pub live : total (λ view. view.live) views ≡ total (λ view. view.out) views + 1
  pub spent : (number : EventNumber) → total (times_in_spent number) views ≡ 0
  -- each number that was put is just once in the queue or with a pass
  pub once : (number : EventNumber)
      → total (λ view. times_in number view.taken) views + times_queued number items
      ≡ once_below number (total (λ view. view.put) views)
  pub put : total (λ view. view.put) views ≤ events
  pub rising : Rise (numbers_of_items items)
  -- end marks come after the last number
  pub marks_last : MarksLast items
  pub marks : marks_queued items ≤ total (λ view. view.marks) views
  pub all_put : 0 < total (λ view. view.marks) views → total (λ view. view.put) views ≡ events
  -- a pass has met an end mark only where all numbers were put, and none is left
  pub ended : 0 < total (λ view. view.ended) views
      → (total (λ view. view.put) views ≡ events) × (numbers_of_items items ≡ [])

-- ---- the kinds of step; one that finds the queue empty or full changes nothing

-- the feeder before it has done anything
abbrev pub feeder : View
feeder = record { feeds = 1; live = 1; put = 0; marks = 0; out = 0; ended = 0; taken = [] }

-- the next number is put, or an end mark after the last one
abbrev pub CanPut : (events : ℕ) → View → Item → Type 0
CanPut events view (Number number) = (view.feeds ≡ 1) × (view.marks ≡ 0) × (number ≡ view.put) × (view.put < events)
CanPut events view End = (view.feeds ≡ 1) × (view.put ≡ events)

abbrev pub after_put : View → Item → View
after_put view (Number number) = record view { put = suc view.put }
after_put view End = record view { marks = suc view.marks }

-- a worker's pass that has met no end mark takes a number, or meets one
pub record CanTake (view : View) : Type 0 where
  pub feeds : view.feeds ≡ 0
  pub live : view.live ≡ 1
  pub ended : view.ended ≡ 0

abbrev pub after_take : View → Item → View
after_take view (Number number) = record view { taken = view.taken ++ number ∷ [] }
after_take view End = record view { ended = 1 }

-- an end mark, or a number of the bundle
abbrev pub IsOfBundle : (events : ℕ) → Item → Type 0
IsOfBundle events (Number number) = number < events
IsOfBundle events End = Unit {0}

-- the feeder splits off a pass for a worker
abbrev pub split_off : View → View
split_off view = record view { out = suc view.out }

abbrev pub worker : View
worker = record { feeds = 0; live = 1; put = 0; marks = 0; out = 0; ended = 0; taken = [] }

-- the feeder joins a worker's pass, which is spent then
abbrev pub after_join : View → View → View
after_join view other =
    record view { out = view.out - 1; ended = view.ended + other.ended; taken = view.taken ++ other.taken }

abbrev pub spent : View
spent = record { feeds = 0; live = 0; put = 0; marks = 0; out = 0; ended = 0; taken = [] }

-- ---- what the feeder learns

-- all passes are joined, and one of them has met an end mark
pub record IsDone (view : View) : Type 0 where
  pub feeds : view.feeds ≡ 1
  pub live : view.live ≡ 1
  pub out : view.out ≡ 0
  pub ended : 0 < view.ended

-- then each number of the bundle was taken, just once
abbrev pub HasTakenAll : (events : ℕ) → View → Type 0
HasTakenAll events view = (number : ℕ) → times_in number view.taken ≡ once_below number events
