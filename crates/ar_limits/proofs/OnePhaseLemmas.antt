-- A run has at most one phase, whichever reason to close is checked first.
use Rattle.std.proofs.Common.{◌≡◌, ◌≢◌, ℕ, ◌+◌, ◌<◌, ◌≤◌, zero, suc, Bool, true, false, cond, ◌&&◌, ◌||◌, Option, Some, None, is_some, List, [], ◌∷◌, ◌++◌, map, find, length, take, refl, ap, ◌∙◌, sym, arith, inl, inr, IfSome, get_or, add-one, subst}
use Rattle.std.specs.Prelude.{slice_get}
use Rattle.std.specs.List.{list_any, list_all, enumerate_from}
use Rattle.std.proofs.lemmas.List.{take_more}
use Rattle.std.proofs.lemmas.Bool.{cases_eq, false≢true, and_parts, and_from}
use Rattle.std.proofs.lemmas.Option.{get_or_from_slice_get, slice_get_within}
use Rattle.ar_limits.specs.declared.event.Event.{Event}
use Rattle.ar_limits.specs.declared.event.Event.TheVariants as event
use Rattle.ar_limits.specs.declared.event.Mark.{Mark}
use Rattle.ar_limits.specs.declared.limits.Limits.{Limits}
use Rattle.ar_limits.specs.declared.phase.Phase.{Phase}
use Rattle.ar_limits.specs.declared.phase.Phase.TheVariants as phase
use Rattle.ar_limits.specs.Prefixes.{prefixes, deciding_prefix}
use Rattle.ar_limits.specs.Metric.{phase_of_marks, is_complete, is_unsuccessful, succeeded, HasPositiveCounts}
use Rattle.ar_limits.specs.Run.{mark_of, marks_of, phases_by_marks, is_stop, ends_with_stop, phase_for_run, phases_for_run, closing, run_phase}
use Rattle.ar_limits.specs.Laws.{HasUnsuccessful, LeavesToSucceed, AllLeaveToSucceed, ClosesAs, ClosesWith, OneRunPhase, ClosedForAReason}
use Rattle.ar_limits.proofs.PrefixLemmas.{value_of_some, find-passes, phase_by-decided, option_cases, is_complete-phase_by, deciding_prefix-decides}
use Rattle.ar_limits.proofs.LawLemmas.{shortest_is}
use Rattle.ar_limits.proofs.NumberedLemmas.{numbered_get}
use Rattle.ar_limits.proofs.RunLemmas.{unsuccessful_is_complete, closing-complete, marks_of-push_other, mark_of-other, ends_with_stop-push, phases_by_marks-get}
use Rattle.ar_limits.proofs.StepLemmas.{is_complete-phase_of_marks-nil, no_marks}

-- ---- Lists

list_any_get : {A : Type 0} (test : A → Bool) (xs : List A) (i : ℕ) (x : A) → slice_get xs i ≡ Some x
    → test x ≡ true → list_any test xs ≡ true
list_any_get test [] i x at passes = cc
list_any_get test (y ∷ ys) zero x at passes = let same : y ≡ x = cc in rw (same, passes) refl
list_any_get test (y ∷ ys) (suc i) x at passes = rw (list_any_get test ys i x at passes) (or_true (test y)) where
  or_true : (b : Bool) → (b || true) ≡ true
  or_true true = refl
  or_true false = refl

list_any_found : {A : Type 0} (test : A → Bool) (xs : List A) → list_any test xs ≡ true
    → is_some (find test xs) ≡ true
list_any_found test [] any = cc
list_any_found {A} test (y ∷ ys) any = at (test y) any (list_any_found test ys) where
  at : (b : Bool) → (b || list_any test ys) ≡ true → (list_any test ys ≡ true → is_some (find test ys) ≡ true)
      → is_some (cond b (Some y) (find test ys)) ≡ true
  at true h rest = refl
  at false h rest = rest h

list_all_get : {A : Type 0} (test : A → Bool) (xs : List A) (i : ℕ) (x : A) → list_all test xs ≡ true
    → slice_get xs i ≡ Some x → test x ≡ true
list_all_get test [] i x all at = cc
list_all_get test (y ∷ ys) zero x all at = let same : y ≡ x = cc in rw (← same) ((and_parts (test y) (list_all test ys) all).0)
list_all_get test (y ∷ ys) (suc i) x all at = list_all_get test ys i x ((and_parts (test y) (list_all test ys) all).1) at

all_numbered : {A B : Type 0} (test : B → Bool) (f : ℕ × A → B) (n : ℕ) (xs : List A)
    → ((i : ℕ) (x : A) → slice_get xs i ≡ Some x → test (f (n + i, x)) ≡ true)
    → list_all test (map f (enumerate_from n xs)) ≡ true
all_numbered test f n [] h = refl
all_numbered test f n (x ∷ xs) h =
    let same : n + 0 ≡ n = omega arith in
    and_from (test (f (n, x))) _ (rw same at (h 0 x refl)) (all_numbered test f (n + 1) xs (λ i y e. let moved : n + 1 + i ≡ n + suc i = omega arith in rw moved (h (suc i) y e)))

-- a value in a list of numbered items comes from one of them
pub record ComesFrom {A B : Type 0} (f : ℕ × A → B) (n : ℕ) (xs : List A) (y : B) : Type 0 where
  pub index : ℕ
  pub item : A
  pub there : slice_get xs index ≡ Some item
  pub value : f (n + index, item) ≡ y

find_numbered : {A B : Type 0} (test : B → Bool) (f : ℕ × A → B) (n : ℕ) (xs : List A) (y : B)
    → find test (map f (enumerate_from n xs)) ≡ Some y → ComesFrom f n xs y
find_numbered test f n [] y h = cc
find_numbered {A} {B} test f n (x ∷ xs) y h = at (test (f (n, x))) h (find_numbered test f (n + 1) xs y) where
  here : n + 0 ≡ n
  here = omega arith

  at : (b : Bool) → cond b (Some (f (n, x))) (find test (map f (enumerate_from (n + 1) xs))) ≡ Some y
      → (find test (map f (enumerate_from (n + 1) xs)) ≡ Some y → ComesFrom f (n + 1) xs y)
      → ComesFrom f n (x ∷ xs) y
  at true e rest = let same : f (n, x) ≡ y = cc in record { index = 0; item = x; there = refl; value = rw here same }
  at false e rest =
      let later = rest e in
      let moved : n + suc later.index ≡ n + 1 + later.index = omega arith in
      record { index = suc later.index; item = later.item; there = later.there; value = rw moved later.value }

-- ---- Reasons and the definition

is_successful_phase : (q : Phase) → succeeded q ≡ true → q ≡ phase.Successful
is_successful_phase phase.Pending h = cc
is_successful_phase phase.Running h = cc
is_successful_phase phase.Successful h = refl
is_successful_phase phase.Failed h = cc
is_successful_phase phase.Error h = cc
is_successful_phase phase.Inconclusive h = cc

-- a metric that counts as unsuccessful isn't dry
unsuccessful_for_run : (own : Limits) (p q : Phase) → phase_for_run own p ≡ q → is_unsuccessful q ≡ true → (p ≡ q) × (own.dry ≡ false)
unsuccessful_for_run own p q is unsuccessful = at own.dry p is where
  at : (dry : Bool) (p : Phase) → cond (is_complete p && dry) phase.Successful p ≡ q → (p ≡ q) × (dry ≡ false)
  at true phase.Pending h = absurd (false≢true (ap is_unsuccessful h ∙ unsuccessful))
  at true phase.Running h = absurd (false≢true (ap is_unsuccessful h ∙ unsuccessful))
  at true phase.Successful h = absurd (false≢true (ap is_unsuccessful h ∙ unsuccessful))
  at true phase.Failed h = absurd (false≢true (ap is_unsuccessful h ∙ unsuccessful))
  at true phase.Error h = absurd (false≢true (ap is_unsuccessful h ∙ unsuccessful))
  at true phase.Inconclusive h = absurd (false≢true (ap is_unsuccessful h ∙ unsuccessful))
  at false phase.Pending h = (h, refl)
  at false phase.Running h = (h, refl)
  at false phase.Successful h = (h, refl)
  at false phase.Failed h = (h, refl)
  at false phase.Error h = (h, refl)
  at false phase.Inconclusive h = (h, refl)

-- and one that isn't dry counts as what it is
pub for_run_decides : (own : Limits) (p : Phase) → own.dry ≡ false → phase_for_run own p ≡ p
for_run_decides own p decides = rw decides (at (is_complete p)) where
  at : (b : Bool) → cond (b && false) phase.Successful p ≡ p
  at true = refl
  at false = refl

success_left : (own : Limits) (p : Phase) → succeeded (phase_for_run own p) ≡ true → LeavesToSucceed own p
success_left own p = at own.dry p where
  at : (dry : Bool) (p : Phase) → succeeded (cond (is_complete p && dry) phase.Successful p) ≡ true → (is_complete p ≡ true) × (dry ≡ false → p ≡ phase.Successful)
  at true phase.Pending h = cc
  at true phase.Running h = cc
  at true phase.Successful h = (refl, λ decides. refl)
  at true phase.Failed h = (refl, λ decides. cc)
  at true phase.Error h = (refl, λ decides. cc)
  at true phase.Inconclusive h = (refl, λ decides. cc)
  at false phase.Pending h = cc
  at false phase.Running h = cc
  at false phase.Successful h = (refl, λ decides. refl)
  at false phase.Failed h = cc
  at false phase.Error h = cc
  at false phase.Inconclusive h = cc

leaves_success : (own : Limits) (p : Phase) → LeavesToSucceed own p → succeeded (phase_for_run own p) ≡ true
leaves_success own p leaves = rw leaves.0 (at own.dry leaves.1) where
  at : (dry : Bool) → (dry ≡ false → p ≡ phase.Successful) → succeeded (cond dry phase.Successful p) ≡ true
  at true h = refl
  at false h = ap succeeded (h refl)

-- ---- What the metrics count as

abbrev pub numbered_for_run : List Event → ℕ × Limits → Phase
numbered_for_run prefix x = phase_for_run x.1 (phase_of_marks x.1 (marks_of x.0 prefix))

for_run_numbered : (f : ℕ × Limits → Phase) (n : ℕ) (limits : List Limits)
    → phases_for_run limits (map f (enumerate_from n limits)) ≡ map (λ x. phase_for_run x.1 (f x)) (enumerate_from n limits)
for_run_numbered f n [] = refl
for_run_numbered f n (own ∷ limits) = rw (for_run_numbered f (n + 1) limits) refl

pub for_run_is : (limits : List Limits) (prefix : List Event)
    → phases_for_run limits (phases_by_marks limits prefix) ≡ map (numbered_for_run prefix) (enumerate_from 0 limits)
unfolding phases_by_marks
for_run_is limits prefix = for_run_numbered (λ x. phase_of_marks x.1 (marks_of x.0 prefix)) 0 limits

pub for_run-get : (limits : List Limits) (prefix : List Event) (i : ℕ) (own : Limits) → slice_get limits i ≡ Some own
    → slice_get (phases_for_run limits (phases_by_marks limits prefix)) i ≡ Some (phase_for_run own (phase_of_marks own (marks_of i prefix)))
for_run-get limits prefix i own at = ap (λ phases. slice_get phases i) (for_run_is limits prefix) ∙ numbered_get (numbered_for_run prefix) limits i own at

metric_found : (limits : List Limits) (prefix : List Event) (q : Phase)
    → find is_unsuccessful (phases_for_run limits (phases_by_marks limits prefix)) ≡ Some q → HasUnsuccessful limits prefix q
metric_found limits prefix q found =
    let from = find_numbered is_unsuccessful (numbered_for_run prefix) 0 limits q (ap (find is_unsuccessful) (sym (for_run_is limits prefix)) ∙ found) in
    let here : 0 + from.index ≡ from.index = omega arith in
    let unsuccessful = find-passes is_unsuccessful (phases_for_run limits (phases_by_marks limits prefix)) q found in
    let counts = unsuccessful_for_run from.item _ q (rw here at from.value) unsuccessful in
    record { number = from.index; own = from.item; there = from.there; phase_is = counts.0; unsuccessful = unsuccessful; decides = counts.1 }

all_found : (limits : List Limits) (prefix : List Event)
    → list_all succeeded (phases_for_run limits (phases_by_marks limits prefix)) ≡ true → AllLeaveToSucceed limits prefix
all_found limits prefix all number own there =
    success_left own _ (list_all_get succeeded (phases_for_run limits (phases_by_marks limits prefix)) number _ all (for_run-get limits prefix number own there))

all_given : (limits : List Limits) (prefix : List Event) → AllLeaveToSucceed limits prefix
    → list_all succeeded (phases_for_run limits (phases_by_marks limits prefix)) ≡ true
all_given limits prefix all =
    rw (for_run_is limits prefix)
    (all_numbered succeeded (numbered_for_run prefix) 0 limits (λ i l at. let here : 0 + i ≡ i = omega arith in rw here (leaves_success l _ (all i l at))))

-- the definition's phase has a reason
pub reason_of_closing : (limits : List Limits) (prefix : List Event) (q : Phase) → closing limits prefix ≡ Some q
    → ClosesAs limits prefix q
unfolding closing
reason_of_closing limits [] q h = cc
reason_of_closing limits (x ∷ rest) q h =
    by_parts (ends_with_stop (x ∷ rest)) (list_any is_unsuccessful phases) (list_all succeeded phases) refl refl refl h
  where
    phases : List Phase
    phases = phases_for_run limits (phases_by_marks limits (x ∷ rest))

    filled : (let es : List Event = x ∷ rest in es) ≢ []
    filled e = cc

    by_parts : (stop any all : Bool) → ends_with_stop (x ∷ rest) ≡ stop
        → list_any is_unsuccessful phases ≡ any → list_all succeeded phases ≡ all
        → cond stop (Some phase.Successful) (cond any (find is_unsuccessful phases) (cond all (Some phase.Successful) None)) ≡ Some q
        → ClosesAs limits (x ∷ rest) q
    by_parts true any all stops anys alls e = let same : q ≡ phase.Successful = cc in inl (stops, same)
    by_parts false true all stops anys alls e = inr (inl (metric_found limits (x ∷ rest) q e))
    by_parts false false true stops anys alls e = let same : q ≡ phase.Successful = cc in inr (inr (filled, all_found limits (x ∷ rest) alls, same))
    by_parts false false false stops anys alls e = cc

no_marks_no_phase : (limits : List Limits) (q : Phase) → HasPositiveCounts limits
    → HasUnsuccessful limits [] q → ⊥
no_marks_no_phase limits q positive metric =
    let own : IfSome metric.own.count (λ count. 1 ≤ count) = rw (get_or_from_slice_get limits metric.number metric.own metric.own metric.there) at (positive metric.number metric.own (slice_get_within limits metric.number metric.own metric.there)) in
    let incomplete : is_complete q ≡ false = rw (← metric.phase_is, no_marks metric.number) (is_complete-phase_of_marks-nil metric.own own) in
    false≢true (sym incomplete ∙ unsuccessful_is_complete q metric.unsuccessful)

-- where there is a reason, the definition closes
pub closing_of_reason : (limits : List Limits) (prefix : List Event) (q : Phase) → HasPositiveCounts limits
    → ClosesAs limits prefix q → is_some (closing limits prefix) ≡ true
unfolding closing
closing_of_reason limits [] q positive (inl stop) = cc
closing_of_reason limits [] q positive (inr (inl metric)) = absurd (no_marks_no_phase limits q positive metric)
closing_of_reason limits [] q positive (inr (inr all)) = absurd (all.0 refl)
closing_of_reason limits (x ∷ rest) q positive why =
    by_parts (ends_with_stop (x ∷ rest)) (list_any is_unsuccessful phases) (list_all succeeded phases) refl refl refl why
  where
    phases : List Phase
    phases = phases_for_run limits (phases_by_marks limits (x ∷ rest))

    by_parts : (stop any all : Bool) → ends_with_stop (x ∷ rest) ≡ stop
        → list_any is_unsuccessful phases ≡ any → list_all succeeded phases ≡ all
        → ClosesAs limits (x ∷ rest) q
        → is_some (cond stop (Some phase.Successful) (cond any (find is_unsuccessful phases) (cond all (Some phase.Successful) None))) ≡ true
    by_parts true any all stops anys alls reason = refl
    by_parts false true all stops anys alls reason = list_any_found is_unsuccessful phases anys
    by_parts false false true stops anys alls reason = refl
    by_parts false false false stops anys alls (inl stop) = absurd (false≢true (sym stops ∙ stop.0))
    by_parts false false false stops anys alls (inr (inl metric)) =
        let there = for_run-get limits (x ∷ rest) metric.number metric.own metric.there in
        let counts = for_run_decides metric.own (phase_of_marks metric.own (marks_of metric.number (x ∷ rest))) metric.decides in
        absurd (false≢true (sym anys ∙ list_any_get is_unsuccessful phases metric.number _ there (ap is_unsuccessful (counts ∙ metric.phase_is) ∙ metric.unsuccessful)))
    by_parts false false false stops anys alls (inr (inr all)) = absurd (false≢true (sym alls ∙ all_given limits (x ∷ rest) all.1))

-- ---- One reason more

-- a metric that the last event is no mark of was in this phase before
pub metric_before : (limits : List Limits) (events : List Event) (e : Event) (q : Phase) (metric : HasUnsuccessful limits (events ++ e ∷ []) q)
    → mark_of metric.number e ≡ None → HasUnsuccessful limits events q
metric_before limits events e q metric other =
    record { number = metric.number; own = metric.own; there = metric.there; phase_is = rw (marks_of-push_other metric.number events e other) at metric.phase_is; unsuccessful = metric.unsuccessful; decides = metric.decides }

-- after events that have no reason, an unsuccessful metric is the one that the last event marks
last_metric : (limits : List Limits) (events : List Event) (e : Event) (q : Phase)
    → ((p : Phase) → ClosesAs limits events p → ⊥) → (metric : HasUnsuccessful limits (events ++ e ∷ []) q)
    → (m : Mark) × (e ≡ event.Mark metric.number m)
last_metric limits events event.Stop q none metric = absurd (none q (inr (inl (metric_before limits events event.Stop q metric refl))))
last_metric limits events (event.Mark j m) q none metric =
    elim (cases_eq j metric.number) [
      | inl same ↦ (m, ap (λ (k : ℕ). event.Mark k m) same)
      | inr apart ↦ absurd (none q (inr (inl (metric_before limits events (event.Mark j m) q metric (mark_of-other j metric.number m (λ e. apart (sym e)))))))
    ]

same_metric : (limits : List Limits) (events : List Event) (e : Event) (p q : Phase)
    → ((r : Phase) → ClosesAs limits events r → ⊥) → HasUnsuccessful limits (events ++ e ∷ []) p
    → HasUnsuccessful limits (events ++ e ∷ []) q → p ≡ q
same_metric limits events e p q none first second =
    let a = last_metric limits events e p none first in
    let b = last_metric limits events e q none second in
    let number : first.number ≡ second.number = cc (a.1, b.1) in
    let own : first.own ≡ second.own = cc (first.there, second.there, number) in
    cc (first.phase_is, second.phase_is, number, own)

not_all : (limits : List Limits) (prefix : List Event) (q : Phase) → HasUnsuccessful limits prefix q
    → AllLeaveToSucceed limits prefix → ⊥
not_all limits prefix q metric all =
    let same : q ≡ phase.Successful = sym metric.phase_is ∙ (all metric.number metric.own metric.there).1 metric.decides in
    false≢true (sym (ap is_unsuccessful same) ∙ metric.unsuccessful)

not_stop : (limits : List Limits) (events : List Event) (e : Event) (q : Phase)
    → ((r : Phase) → ClosesAs limits events r → ⊥) → HasUnsuccessful limits (events ++ e ∷ []) q
    → ends_with_stop (events ++ e ∷ []) ≡ true → ⊥
not_stop limits events e q none metric stop =
    let own = last_metric limits events e q none metric in
    false≢true (sym (ends_with_stop-push events e ∙ ap is_stop own.1) ∙ stop)

-- two reasons of the same prefix, after events without any, close with one phase
one_reason : (limits : List Limits) (events : List Event) (e : Event) (p q : Phase)
    → ((r : Phase) → ClosesAs limits events r → ⊥) → ClosesAs limits (events ++ e ∷ []) p
    → ClosesAs limits (events ++ e ∷ []) q → p ≡ q
one_reason limits events e p q none (inl a) (inl b) = a.1 ∙ sym b.1
one_reason limits events e p q none (inl a) (inr (inl b)) = absurd (not_stop limits events e q none b a.0)
one_reason limits events e p q none (inl a) (inr (inr b)) = a.1 ∙ sym b.2
one_reason limits events e p q none (inr (inl a)) (inl b) = absurd (not_stop limits events e p none a b.0)
one_reason limits events e p q none (inr (inl a)) (inr (inl b)) = same_metric limits events e p q none a b
one_reason limits events e p q none (inr (inl a)) (inr (inr b)) = absurd (not_all limits (events ++ e ∷ []) p a b.1)
one_reason limits events e p q none (inr (inr a)) (inl b) = a.2 ∙ sym b.1
one_reason limits events e p q none (inr (inr a)) (inr (inl b)) = absurd (not_all limits (events ++ e ∷ []) q b a.1)
one_reason limits events e p q none (inr (inr a)) (inr (inr b)) = a.2 ∙ sym b.2

-- ---- The law

undecided : (limits : List Limits) (prefix : List Event) → ((r : Phase) → ClosesAs limits prefix r → ⊥)
    → is_some (closing limits prefix) ≡ false
undecided limits prefix none =
    elim (option_cases (closing limits prefix)) [
      | inl open_yet ↦ ap is_some open_yet
      | inr found ↦ absurd (none found.0 (reason_of_closing limits prefix found.0 found.1))
    ]

one_phase_at : (limits : List Limits) (events : List Event) (n : ℕ) (p q : Phase) → HasPositiveCounts limits
    → n ≤ length events → ((k : ℕ) (r : Phase) → k < n → ClosesAs limits (take k events) r → ⊥)
    → ClosesAs limits (take n events) p → ClosesAs limits (take n events) q → p ≡ q
unfolding closing
one_phase_at limits events zero p q positive within none a b = let never : is_some (closing limits []) ≡ true = closing_of_reason limits [] p positive a in absurd (false≢true never)
one_phase_at limits events (suc k) p q positive within none a b =
    let more : take (suc k) events ≡ take k events ++ get_or events k event.Stop ∷ [] = rw (add-one k) at (take_more events k event.Stop (omega arith)) in
    one_reason limits (take k events) (get_or events k event.Stop) p q (λ r. none k r (omega arith)) (rw more at a) (rw more at b)

pub one_run_phase : OneRunPhase
unfolding run_phase deciding_prefix
one_run_phase limits events q positive h =
    let closes = closing_of_reason limits (take h.shortest events) q positive h.closes in
    let found = value_of_some (closing limits (take h.shortest events)) closes in
    phase_by-decided (closing limits) events (take h.shortest events) found.0
    (shortest_is (λ p. is_some (closing limits p)) events h.shortest h.within closes (λ k below. undecided limits (take k events) (λ r. h.none_before k r below)))
    found.1
    ∙ one_phase_at limits events h.shortest found.0 q positive h.within h.none_before (reason_of_closing limits (take h.shortest events) found.0 found.1) h.closes

-- a shortest prefix that is found
record Found {A : Type 0} (test : List A → Bool) (xs p : List A) : Type 0 where
  n : ℕ
  within : n ≤ length xs
  taken : take n xs ≡ p
  before : (k : ℕ) → k < n → test (take k xs) ≡ false

longer : {A : Type 0} (test : List A → Bool) (x : A) (xs p : List A) → test [] ≡ false
    → Found (λ q. test (x ∷ q)) xs p → Found test (x ∷ xs) (x ∷ p)
longer {A} test x xs p none h = record { n = suc h.n; within = omega arith; taken = ap (λ q. x ∷ q) h.taken; before = before } where
  before : (k : ℕ) → k < suc h.n → test (take k (x ∷ xs)) ≡ false
  before zero below = none
  before (suc k) below = h.before k (omega arith)

map_found : {A B : Type 0} (test : B → Bool) (g : A → B) (xs : List A) (y : B) → find test (map g xs) ≡ Some y
    → (x : A) × (find (λ z. test (g z)) xs ≡ Some x) × (g x ≡ y)
map_found test g [] y h = cc
map_found {A} {B} test g (x ∷ xs) y h = at (test (g x)) h (map_found test g xs y) where
  at : (b : Bool) → cond b (Some (g x)) (find test (map g xs)) ≡ Some y
      → (find test (map g xs) ≡ Some y → (z : A) × (find (λ w. test (g w)) xs ≡ Some z) × (g z ≡ y))
      → (z : A) × (cond b (Some x) (find (λ w. test (g w)) xs) ≡ Some z) × (g z ≡ y)
  at true e rest = (x, refl, (cc))
  at false e rest = rest e

prefix_found : {A : Type 0} (test : List A → Bool) (xs p : List A) → find test (prefixes xs) ≡ Some p
    → Found test xs p
unfolding prefixes
prefix_found {A} test [] p h = at (test []) h where
  at : (b : Bool) → cond b (let q : Option (List A) = Some [] in q) None ≡ Some p → Found test [] p
  at true e = record { n = 0; within = omega arith; taken = (cc); before = λ k below. absurd (omega arith) }
  at false e = cc
prefix_found {A} test (x ∷ xs) p h = at (test []) refl h (prefix_found (λ w. test (x ∷ w)) xs) where
  at : (b : Bool) → test [] ≡ b → cond b (let q : Option (List A) = Some [] in q) (find test (map (λ q. x ∷ q) (prefixes xs))) ≡ Some p
      → ((q : List A) → find (λ w. test (x ∷ w)) (prefixes xs) ≡ Some q → Found (λ w. test (x ∷ w)) xs q)
      → Found test (x ∷ xs) p
  at true is e rest = record { n = 0; within = omega arith; taken = (cc); before = λ k below. absurd (omega arith) }
  at false is e rest =
      let found = map_found test (λ q. x ∷ q) (prefixes xs) p e in
      subst (λ (r : List A). Found test (x ∷ xs) r) found.2 (longer test x xs found.0 is (rest found.0 found.1))

closed_with : (limits : List Limits) (events p : List Event) (q : Phase) → HasPositiveCounts limits
    → deciding_prefix (closing limits) events ≡ Some p → closing limits p ≡ Some q
    → ClosesWith limits events q
unfolding deciding_prefix
closed_with limits events p q positive found decided =
    let shortest = prefix_found (λ w. is_some (closing limits w)) events p found in
    record {
      shortest = shortest.n;
      within = shortest.within;
      closes = rw shortest.taken (reason_of_closing limits p q decided);
      none_before = λ k r below why. false≢true (sym (shortest.before k below) ∙ closing_of_reason limits (take k events) r positive why);
    }

pub closed_for_a_reason : ClosedForAReason
unfolding run_phase
closed_for_a_reason limits events positive complete =
    let found = value_of_some (deciding_prefix (closing limits) events) (sym (is_complete-phase_by (closing limits) events (closing-complete limits)) ∙ complete) in
    let decided = value_of_some (closing limits found.0) (deciding_prefix-decides (closing limits) events found.0 found.1) in
    rw (phase_by-decided (closing limits) events found.0 decided.0 found.1 decided.1) (closed_with limits events found.0 decided.0 positive found.1 decided.1)
