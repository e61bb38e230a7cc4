-- Each kind of step keeps the rule of the queue.
use Rattle.std.proofs.Common.{◌≡◌, ◌<◌, ℕ, zero, suc, ◌+◌, ◌==◌, Bool, true, false, List, [], ◌∷◌, ◌++◌, set, refl, sym, ◌∙◌, ap, subst, arith}
use Rattle.std.proofs.lemmas.List.Sums.{sum_by_push}
use mathlib.Core.Option.{some}
use lib.ListN.{get_elem?}
use Rattle.crossbeam_queue.specs.Fifo.{Forks, Learns, Merges, Pops, Pushes}
use Rattle.ar_bundle.specs.Lawful.{Rise, times_in}
use Rattle.ar_queue.specs.Numbers.{once_below}
use Rattle.ar_queue.specs.Rule.{CanPut, CanTake, HasTakenAll, IsDone, IsQueue, IsOfBundle, after_put, after_take, fed_by_others, feeder, after_join, numbers_of_items, spent, split_off, times_in_spent, times_of, times_queued, total, worker}
use Rattle.ar_queue.specs.declared.queue.Item.{Item}
use Rattle.ar_queue.specs.declared.queue.Item.TheVariants.{Number, End}
use Rattle.ar_queue.specs.declared.queue.View.{View}
use Rattle.ar_bundle.proofs.HistoryLemmas.{times_by}
use Rattle.ar_queue.proofs.Items.{all_below, after_mark, below_next, below_of, first_mark, first_number, first_there, last_mark, last_number, marks_first, marks_push, none_queued, not_below, numbers_mark, numbers_push, rise_push, times_by_test}
use Rattle.ar_queue.proofs.Sums.{all_marked_by, all_out_by, all_put_by, all_taken_by, feeds_none, feeds_one, is_live, is_spent, swap, within}

-- ---- how often a number is among those taken

pub times_both : (number : ℕ) (first second : List ℕ) → times_in number (first ++ second) ≡ times_in number first + times_in number second
times_both number [] second = omega arith
times_both number (own ∷ first) second = by_test (times_both number first second) (own == number) refl where
  by_test : times_in number (first ++ second) ≡ times_in number first + times_in number second → (test : Bool) → (own == number) ≡ test → times_in number (own ∷ (first ++ second)) ≡ times_in number (own ∷ first) + times_in number second
  by_test rest true is = let all = times_by number own (first ++ second) true is in let one = times_by number own first true is in omega arith
  by_test rest false is = let all = times_by number own (first ++ second) false is in let none = times_by number own first false is in omega arith

times_one : (number own : ℕ) → times_in number (own ∷ []) ≡ times_of number (Number own)
times_one number own = by_test (own == number) refl where
  by_test : (test : Bool) → (own == number) ≡ test → times_in number (own ∷ []) ≡ times_of number (Number own)
  by_test true is = times_by number own [] true is ∙ sym (times_by_test number own true is)
  by_test false is = times_by number own [] false is ∙ sym (times_by_test number own false is)

-- ---- opening

pub opened : (events : ℕ) → IsQueue events [] (feeder ∷ [])
opened events =
    record {
      feeder = refl;
      alone = refl;
      live = refl;
      spent = λ number. refl;
      once = λ number. sym (not_below number 0 (omega arith));
      put = omega arith;
      rising = tt;
      marks_last = tt;
      marks = omega arith;
      all_put = λ some. absurd (omega arith);
      ended = λ some. absurd (omega arith);
    }

-- ---- an item is put

put_number : (events n at number : ℕ) (v : View) → v.feeds ≡ 1 → v.marks ≡ 0 → number ≡ v.put → v.put < events → Pushes (IsQueue events) n at v (Number number) (λ w. w ≡ after_put v (Number number))
put_number events n at number v feeds no_marks next less items views room is there =
    let w : View = after_put v (Number number) in
    let feeders = swap (λ view. view.feeds) views at v w there in
    let others = swap fed_by_others views at v w there in
    let own_others = feeds_one v feeds in
    let new_others = feeds_one w feeds in
    let lives = swap (λ view. view.live) views at v w there in
    let outs = swap (λ view. view.out) views at v w there in
    let puts = swap (λ view. view.put) views at v w there in
    let marks = swap (λ view. view.marks) views at v w there in
    let ends = swap (λ view. view.ended) views at v w there in
    let put = all_put_by views at v there is.feeder feeds is.alone in
    let marked = all_marked_by views at v there is.feeder feeds is.alone in
    let feeder = is.feeder in
    let alone = is.alone in
    let live = is.live in
    let most = is.marks in
    let pushed = marks_push items (Number number) in
    let put_next : total (λ view. view.put) (set views at w) ≡ suc number = omega arith in (
      w,
      record {
        feeder = omega arith;
        alone = omega arith;
        live = omega arith;
        spent = λ other. let spent = is.spent other in let sum = swap (times_in_spent other) views at v w there in omega arith;
        once = λ other.
            let once : total (λ view. times_in other view.taken) views + times_queued other items ≡ once_below other number = is.once other ∙ ap (once_below other) (put ∙ sym next) in
            let taken = swap (λ view. times_in other view.taken) views at v w there in
            let queued : times_queued other (items ++ Number number ∷ []) ≡ times_queued other items + times_of other (Number number) = sum_by_push (times_of other) items (Number number) in
            let more = below_next other number in
            let sum : total (λ view. times_in other view.taken) (set views at w) + times_queued other (items ++ Number number ∷ []) ≡ once_below other (suc number) = omega arith in
            sum ∙ ap (once_below other) (sym put_next);
        put = omega arith;
        rising = subst Rise (sym (numbers_push items number)) (rise_push (numbers_of_items items) number is.rising (all_below number items (λ other is_there.
            below_of other number (let once : total (λ view. times_in other view.taken) views + times_queued other items ≡ once_below other number = is.once other ∙ ap (once_below other) (put ∙ sym next) in omega arith))));
        marks_last = last_number items number (omega arith);
        marks = omega arith;
        all_put = λ some. absurd (omega arith);
        ended = λ some. absurd (let all = (is.ended (omega arith)).0 in omega arith);
      },
      refl,
    )

put_mark : (events n at : ℕ) (v : View) → v.feeds ≡ 1 → v.put ≡ events → Pushes (IsQueue events) n at v End (λ w. w ≡ after_put v End)
put_mark events n at v feeds all items views room is there =
    let w : View = after_put v End in
    let feeders = swap (λ view. view.feeds) views at v w there in
    let others = swap fed_by_others views at v w there in
    let own_others = feeds_one v feeds in
    let new_others = feeds_one w feeds in
    let lives = swap (λ view. view.live) views at v w there in
    let outs = swap (λ view. view.out) views at v w there in
    let puts = swap (λ view. view.put) views at v w there in
    let marks = swap (λ view. view.marks) views at v w there in
    let ends = swap (λ view. view.ended) views at v w there in
    let put = all_put_by views at v there is.feeder feeds is.alone in
    let feeder = is.feeder in
    let alone = is.alone in
    let live = is.live in
    let most = is.marks in
    let few = is.put in
    let pushed = marks_push items End in
    let same_put : total (λ view. view.put) (set views at w) ≡ total (λ view. view.put) views = omega arith in (
      w,
      record {
        feeder = omega arith;
        alone = omega arith;
        live = omega arith;
        spent = λ other. let spent = is.spent other in let sum = swap (times_in_spent other) views at v w there in omega arith;
        once = λ other.
            let once = is.once other in
            let taken = swap (λ view. times_in other view.taken) views at v w there in
            let queued : times_queued other (items ++ End ∷ []) ≡ times_queued other items + 0 = sum_by_push (times_of other) items End in
            let sum : total (λ view. times_in other view.taken) (set views at w) + times_queued other (items ++ End ∷ []) ≡ once_below other (total (λ view. view.put) views) = omega arith in
            sum ∙ ap (once_below other) (sym same_put);
        put = omega arith;
        rising = subst Rise (sym (numbers_mark items)) is.rising;
        marks_last = last_mark items is.marks_last;
        marks = omega arith;
        all_put = λ some. omega arith;
        ended = λ some. let was = is.ended (omega arith) in (same_put ∙ was.0, numbers_mark items ∙ was.1);
      },
      refl,
    )

pub puts : (events n at : ℕ) (v : View) (item : Item) → CanPut events v item → Pushes (IsQueue events) n at v item (λ w. w ≡ after_put v item)
puts events n at v (Number number) can = put_number events n at number v can.0 can.1 can.2 can.3
puts events n at v End can = put_mark events n at v can.0 can.1

-- ---- an item is taken

take_number : (events at number : ℕ) (v : View) → CanTake v → (items : List Item) (views : List View) → IsQueue events (Number number ∷ items) views → get_elem? views at ≡ some v
    → (w : View) × IsQueue events items (set views at w) × ((w ≡ after_take v (Number number)) × IsOfBundle events (Number number))
take_number events at number v can items views is there =
    let w : View = after_take v (Number number) in
    let feeds = can.feeds in
    let is_on = can.live in
    let feeders = swap (λ view. view.feeds) views at v w there in
    let others = swap fed_by_others views at v w there in
    let own_others = feeds_none v feeds in
    let new_others = feeds_none w feeds in
    let lives = swap (λ view. view.live) views at v w there in
    let outs = swap (λ view. view.out) views at v w there in
    let puts = swap (λ view. view.put) views at v w there in
    let marks = swap (λ view. view.marks) views at v w there in
    let ends = swap (λ view. view.ended) views at v w there in
    let feeder = is.feeder in
    let alone = is.alone in
    let live = is.live in
    let most = is.marks in
    let few = is.put in
    let first = marks_first (Number number) items in
    let same_put : total (λ view. view.put) (set views at w) ≡ total (λ view. view.put) views = omega arith in
    let below : number < total (λ view. view.put) views = below_of number (total (λ view. view.put) views) (let once = is.once number in let is_there = first_there number items in omega arith) in (
      w,
      record {
        feeder = omega arith;
        alone = omega arith;
        live = omega arith;
        spent = λ other. let spent = is.spent other in let sum = swap (times_in_spent other) views at v w there in let own = is_live other v is_on in let new = is_live other w is_on in omega arith;
        once = λ other.
            let once = is.once other in
            let taken = swap (λ view. times_in other view.taken) views at v w there in
            let more : times_in other (v.taken ++ number ∷ []) ≡ times_in other v.taken + times_in other (number ∷ []) = times_both other v.taken (number ∷ []) in
            let one = times_one other number in
            let queued = first_number other number items in
            let sum : total (λ view. times_in other view.taken) (set views at w) + times_queued other items ≡ once_below other (total (λ view. view.put) views) = omega arith in
            sum ∙ ap (once_below other) (sym same_put);
        put = omega arith;
        rising = is.rising.1;
        marks_last = is.marks_last;
        marks = omega arith;
        all_put = λ some. same_put ∙ is.all_put (omega arith);
        ended = λ some. absurd (let none = (is.ended (omega arith)).1 in cc);
      },
      (refl, omega arith),
    )

take_mark : (events at : ℕ) (v : View) → CanTake v → (items : List Item) (views : List View) → IsQueue events (End ∷ items) views → get_elem? views at ≡ some v
    → (w : View) × IsQueue events items (set views at w) × ((w ≡ after_take v End) × IsOfBundle events End)
take_mark events at v can items views is there =
    let w : View = after_take v End in
    let feeds = can.feeds in
    let is_on = can.live in
    let feeders = swap (λ view. view.feeds) views at v w there in
    let others = swap fed_by_others views at v w there in
    let own_others = feeds_none v feeds in
    let new_others = feeds_none w feeds in
    let lives = swap (λ view. view.live) views at v w there in
    let outs = swap (λ view. view.out) views at v w there in
    let puts = swap (λ view. view.put) views at v w there in
    let marks = swap (λ view. view.marks) views at v w there in
    let feeder = is.feeder in
    let alone = is.alone in
    let live = is.live in
    let most = is.marks in
    let few = is.put in
    let first = marks_first End items in
    let same_put : total (λ view. view.put) (set views at w) ≡ total (λ view. view.put) views = omega arith in
    let all : total (λ view. view.put) views ≡ events = is.all_put (omega arith) in (
      w,
      record {
        feeder = omega arith;
        alone = omega arith;
        live = omega arith;
        spent = λ other. let spent = is.spent other in let sum = swap (times_in_spent other) views at v w there in let own = is_live other v is_on in let new = is_live other w is_on in omega arith;
        once = λ other.
            let once = is.once other in
            let taken = swap (λ view. times_in other view.taken) views at v w there in
            let queued = first_mark other items in
            let sum : total (λ view. times_in other view.taken) (set views at w) + times_queued other items ≡ once_below other (total (λ view. view.put) views) = omega arith in
            sum ∙ ap (once_below other) (sym same_put);
        put = omega arith;
        rising = is.rising;
        marks_last = after_mark items is.marks_last;
        marks = omega arith;
        all_put = λ some. same_put ∙ all;
        ended = λ some. (same_put ∙ all, is.marks_last);
      },
      (refl, tt),
    )

pub takes : (events at : ℕ) (v : View) → CanTake v → Pops (IsQueue events) at v (λ item w. (w ≡ after_take v item) × IsOfBundle events item)
takes events at v can (Number number) items views is there = take_number events at number v can items views is there
takes events at v can End items views is there = take_mark events at v can items views is there

-- ---- passes are split off and joined

pub splits : (events at : ℕ) (v : View) → v.feeds ≡ 1 → Forks (IsQueue events) at v (split_off v) worker
splits events at v feeds items views is there =
    let w : View = split_off v in
    let all : (f : View → ℕ) → total f (set views at w ++ worker ∷ []) ≡ total f (set views at w) + f worker = λ f. sum_by_push f (set views at w) worker in
    let feeders = swap (λ view. view.feeds) views at v w there in
    let all_feeders = all (λ view. view.feeds) in
    let others = swap fed_by_others views at v w there in
    let all_others = all fed_by_others in
    let own_others = feeds_one v feeds in
    let new_others = feeds_one w feeds in
    let lives = swap (λ view. view.live) views at v w there in
    let all_lives = all (λ view. view.live) in
    let outs = swap (λ view. view.out) views at v w there in
    let all_outs = all (λ view. view.out) in
    let puts = swap (λ view. view.put) views at v w there in
    let all_puts = all (λ view. view.put) in
    let marks = swap (λ view. view.marks) views at v w there in
    let all_marks = all (λ view. view.marks) in
    let ends = swap (λ view. view.ended) views at v w there in
    let all_ends = all (λ view. view.ended) in
    let feeder = is.feeder in
    let alone = is.alone in
    let live = is.live in
    let most = is.marks in
    let few = is.put in
    let same_put : total (λ view. view.put) (set views at w ++ worker ∷ []) ≡ total (λ view. view.put) views = omega arith in
    record {
      feeder = omega arith;
      alone = omega arith;
      live = omega arith;
      spent = λ other. let spent = is.spent other in let sum = swap (times_in_spent other) views at v w there in let whole = all (times_in_spent other) in omega arith;
      once = λ other.
          let once = is.once other in
          let taken = swap (λ view. times_in other view.taken) views at v w there in
          let whole = all (λ view. times_in other view.taken) in
          let sum : total (λ view. times_in other view.taken) (set views at w ++ worker ∷ []) + times_queued other items ≡ once_below other (total (λ view. view.put) views) = omega arith in
          sum ∙ ap (once_below other) (sym same_put);
      put = omega arith;
      rising = is.rising;
      marks_last = is.marks_last;
      marks = omega arith;
      all_put = λ some. same_put ∙ is.all_put (omega arith);
      ended = λ some. let was = is.ended (omega arith) in (same_put ∙ was.0, was.1);
    }

still_there : (views : List View) (at other : ℕ) (v : View) → (other ≡ at → ⊥) → (w : View) → get_elem? views at ≡ some v → get_elem? (set views other w) at ≡ some v
still_there [] at other v away w there = absurd cc
still_there (u ∷ views) zero zero v away w there = absurd (away refl)
still_there (u ∷ views) zero (suc other) v away w there = there
still_there (u ∷ views) (suc at) zero v away w there = there
still_there (u ∷ views) (suc at) (suc other) v away w there = still_there views at other v (λ same. away (ap suc same)) w there

put_there : (views : List View) (at : ℕ) (v w : View) → get_elem? views at ≡ some v → get_elem? (set views at w) at ≡ some w
put_there [] at v w there = absurd cc
put_there (u ∷ views) zero v w there = refl
put_there (u ∷ views) (suc at) v w there = put_there views at v w there

pub joins : (events at : ℕ) (v : View) (other : ℕ) (u : View) → v.feeds ≡ 1 → v.live ≡ 1 → u.feeds ≡ 0 → u.live ≡ 1 → Merges (IsQueue events) at v other u (after_join v u) spent
joins events at v other u feeds is_on no_feeder is_live_too items views is there away other_there =
    let w : View = after_join v u in
    let changed : List View = set views at w in
    let last : List View = set changed other spent in
    let first_sum : (f : View → ℕ) → total f changed + f v ≡ total f views + f w = λ f. swap f views at v w there in
    let second_sum : (f : View → ℕ) → total f last + f u ≡ total f changed + f spent = λ f. swap f changed other u spent other_there in
    let feeders = first_sum (λ view. view.feeds) in
    let feeders_too = second_sum (λ view. view.feeds) in
    let others = first_sum fed_by_others in
    let others_too = second_sum fed_by_others in
    let own_others = feeds_one v feeds in
    let new_others = feeds_one w feeds in
    let its_others = feeds_none u no_feeder in
    let lives = first_sum (λ view. view.live) in
    let lives_too = second_sum (λ view. view.live) in
    let outs = first_sum (λ view. view.out) in
    let outs_too = second_sum (λ view. view.out) in
    let puts = first_sum (λ view. view.put) in
    let puts_too = second_sum (λ view. view.put) in
    let marks = first_sum (λ view. view.marks) in
    let marks_too = second_sum (λ view. view.marks) in
    let ends = first_sum (λ view. view.ended) in
    let ends_too = second_sum (λ view. view.ended) in
    let feeder = is.feeder in
    let alone = is.alone in
    let live = is.live in
    let most = is.marks in
    let few = is.put in
    -- the feeder's pass is next to the one that is joined, so one is out
    let kept = still_there changed at other w away spent (put_there views at v w there) in
    let own_live = within (λ view. view.live) last at w kept in
    let all_out = all_out_by views at v there is.feeder feeds is.alone in
    -- what a pass that doesn't feed has put and split is nothing
    let its = within fed_by_others changed other u other_there in
    let same_put : total (λ view. view.put) last ≡ total (λ view. view.put) views = omega arith in
    record {
      feeder = omega arith;
      alone = omega arith;
      live = omega arith;
      spent = λ number.
          let spent_before = is.spent number in
          let sum = first_sum (times_in_spent number) in
          let sum_too = second_sum (times_in_spent number) in
          let own = is_live number v is_on in
          let new = is_live number w is_on in
          let its_own = is_live number u is_live_too in
          let gone : times_in_spent number spent ≡ 0 = is_spent number spent refl in
          omega arith;
      once = λ number.
          let once = is.once number in
          let taken = first_sum (λ view. times_in number view.taken) in
          let taken_too = second_sum (λ view. times_in number view.taken) in
          let both = times_both number v.taken u.taken in
          let sum : total (λ view. times_in number view.taken) last + times_queued number items ≡ once_below number (total (λ view. view.put) views) = omega arith in
          sum ∙ ap (once_below number) (sym same_put);
      put = omega arith;
      rising = is.rising;
      marks_last = is.marks_last;
      marks = omega arith;
      all_put = λ some. same_put ∙ is.all_put (omega arith);
      ended = λ some. let was = is.ended (omega arith) in (same_put ∙ was.0, was.1);
    }

-- ---- the feeder learns

pub learns : (events at : ℕ) (v : View) → IsDone v → Learns (IsQueue events) at v (λ items. HasTakenAll events v)
learns events at v done items views is there number =
    let outs = all_out_by views at v there is.feeder done.feeds is.alone in
    let out = done.out in
    let live = is.live in
    let taken = all_taken_by number views at v there (omega arith) done.live (is.spent number) in
    let met = within (λ view. view.ended) views at v there in
    let some = done.ended in
    let all = is.ended (omega arith) in
    let none = none_queued number items all.1 in
    let once : total (λ view. times_in number view.taken) views + times_queued number items ≡ once_below number events = is.once number ∙ ap (once_below number) all.0 in
    omega arith
