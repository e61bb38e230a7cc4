-- The feeder's pass, while items are put, passes split off and joined, and what is named at all desks.
use Rattle.std.proofs.Common.{◌≡◌, ◌<◌, ◌≤◌, ℕ, suc, ◌+◌, List, [], ◌∷◌, ◌++◌, refl, sym, ◌∙◌, ap, subst, arith}
use Rattle.ar_bundle.specs.Lawful.{times_in}
use Rattle.ar_queue.specs.Rule.{CanPut, IsDone, after_put, after_join, split_off}
use Rattle.ar_queue.specs.Workers.{AreNamed, IsFeeder, all_named, at_end, feeding}
use Rattle.ar_queue.specs.declared.queue.Item.TheVariants.{Number, End}
use Rattle.ar_queue.specs.declared.queue.View.{View}
use Rattle.ar_queue.proofs.Steps.{times_both}

-- ---- all passes are joined

pub is_done : (view : View) (workers : ℕ) → 1 ≤ workers → IsFeeder view workers 0 workers → IsDone view
is_done view workers some is =
    let joined = is.has_joined in
    record { feeds = is.feeds; live = is.live; out = is.has_out; ended = omega arith }

-- ---- items are put

pub can_number : (events number out : ℕ) (view : View) → view ≡ feeding number 0 out → number < events → CanPut events view (Number number)
can_number events number out view is less = subst (λ (view : View). CanPut events view (Number number)) (sym is) (refl, refl, refl, less)

pub next_number : (number out : ℕ) (before after : View) → before ≡ feeding number 0 out → after ≡ after_put before (Number number) → after ≡ feeding (number + 1) 0 out
next_number number out before after is put =
    let next : suc number ≡ number + 1 = omega arith in
    put ∙ (ap (λ (view : View). after_put view (Number number)) is ∙ ap (λ (put : ℕ). feeding put 0 out) next)

pub can_mark : (events marks out : ℕ) (view : View) → view ≡ feeding events marks out → CanPut events view End
can_mark events marks out view is = subst (λ (view : View). CanPut events view End) (sym is) (refl, refl)

pub next_mark : (events marks out : ℕ) (before after : View) → before ≡ feeding events marks out → after ≡ after_put before End → after ≡ feeding events (marks + 1) out
next_mark events marks out before after is put =
    let next : suc marks ≡ marks + 1 = omega arith in
    put ∙ (ap (λ (view : View). after_put view End) is ∙ ap (λ (marks : ℕ). feeding events marks out) next)

-- ---- passes are split off and joined

pub next_split : (before after : View) (out : ℕ) → before ≡ feeding 0 0 out → after ≡ split_off before → after ≡ feeding 0 0 (suc out)
next_split before after out is split = split ∙ ap split_off is

-- where nothing was put the feeder still has what it split off
pub still_feeding : (view : View) (put marks out : ℕ) → view ≡ feeding put marks out → view ≡ feeding put marks view.out
still_feeding view put marks out is = is ∙ ap (feeding put marks) (sym (ap (λ (view : View). view.out) is))

pub is_feeder : (view : View) (put marks out : ℕ) → view ≡ feeding put marks out → IsFeeder view marks out 0 × (view.taken ≡ [])
is_feeder view put marks out is = subst (λ (view : View). IsFeeder view marks out 0 × (view.taken ≡ [])) (sym is) (record { feeds = refl; live = refl; has_marks = refl; has_out = refl; has_joined = refl }, refl)

pub feeder_join : (before other after : View) (marks out joined_before : ℕ) → IsFeeder before marks (suc out) joined_before → other ≡ at_end other.taken → after ≡ after_join before other → IsFeeder after marks out (suc joined_before)
feeder_join before other after marks out joined_before is ended join =
    let out_now = ap (λ (view : View). view.out) join in
    let out_was = is.has_out in
    let ended_now = ap (λ (view : View). view.ended) join in
    let ended_was = is.has_joined in
    let own = ap (λ (view : View). view.ended) ended in
    record {
      feeds = ap (λ (view : View). view.feeds) join ∙ is.feeds;
      live = ap (λ (view : View). view.live) join ∙ is.live;
      has_marks = ap (λ (view : View). view.marks) join ∙ is.has_marks;
      has_out = omega arith;
      has_joined = omega arith;
    }

-- the same by numbers of passes
pub joined_one : {marks : ℕ} (before other after : View) (outs out was now : ℕ) → outs ≡ suc out → suc was ≡ now → IsFeeder before marks outs was → other ≡ at_end other.taken → after ≡ after_join before other → IsFeeder after marks out now
joined_one {marks} before other after outs out was now short count is ended join =
    subst (λ (joined : ℕ). IsFeeder after marks out joined) count
    (feeder_join before other after marks out was (subst (λ (outs : ℕ). IsFeeder before marks outs was) short is) ended join)

-- ---- what is named at all desks

pub all_named_push : {Desk : Type 0} (numbers : Desk → List ℕ) (number : ℕ) (desks : List Desk) (desk : Desk) → times_in number (all_named numbers (desks ++ desk ∷ [])) ≡ times_in number (all_named numbers desks) + times_in number (numbers desk)
all_named_push numbers number [] desk = let all = times_both number (numbers desk) [] in omega arith
all_named_push numbers number (first ∷ desks) desk =
    let rest = all_named_push numbers number desks desk in
    let all = times_both number (numbers first) (all_named numbers (desks ++ desk ∷ [])) in
    let before = times_both number (numbers first) (all_named numbers desks) in
    omega arith

pub named_join : {Desk : Type 0} (numbers : Desk → List ℕ) (before other after : View) (desks : List Desk) (desk : Desk) → AreNamed before.taken (all_named numbers desks) → AreNamed other.taken (numbers desk) → after ≡ after_join before other
    → AreNamed after.taken (all_named numbers (desks ++ desk ∷ []))
named_join numbers before other after desks desk all own join number =
    let taken = ap (λ (view : View). times_in number view.taken) join in
    let both = times_both number before.taken other.taken in
    let was = all number in
    let its = own number in
    let pushed = all_named_push numbers number desks desk in
    omega arith
