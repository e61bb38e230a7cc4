-- Once an entry has closed a run, no later one does.
use Rattle.std.proofs.Common.{◌≡◌, ℕ, Bool, true, false, cond, ◌||◌, Option, Some, None, List, [], ◌∷◌, ◌++◌, find, refl, ap, ◌∙◌, sym, append_assoc, subst}
use Rattle.std.specs.Prelude.{option_map}
use Rattle.std.specs.List.{list_any}
use Rattle.std.specs.Option.{option_map_or}
use Rattle.std.proofs.lemmas.List.Folds.{list_any-append}
use Rattle.ar_limits.proofs.RunLemmas.{closing_prefix-push}
use Rattle.ar_limits.proofs.StepLemmas.{is_late-closed}
use Rattle.ar_limits.specs.Run.{closing, closing_prefix, effect_of, is_late}
use Rattle.ar_limits.specs.declared.event.Effect.{Effect}
use Rattle.ar_limits.specs.declared.event.Effect.TheVariants as effect
use Rattle.ar_limits.specs.declared.event.Event.{Event}
use Rattle.ar_limits.specs.declared.limits.Limits.{Limits}
use Rattle.ar_limits.specs.declared.phase.Phase.{Phase}
use Rattle.ar_bundle.specs.Bundle.{Bundle}
use Rattle.ar_bundle.specs.Lawful.{IsHistory}
use Rattle.ar_bundle.specs.declared.history.Entry.{Entry}
use Rattle.ar_progress.proofs.Entries.{entry_is}
use Rattle.ar_progress.proofs.Exceeding.{closing_is, open_where_applied}
use Rattle.ar_progress.proofs.Reasons.{after_close}
use Rattle.ar_progress.specs.Laws.{IsOnlyCloser, LateAfterTheCloser, events_in}
use Rattle.ar_progress.specs.Steps.{closes, step_after}

-- ---- effects

pub late_effect : (limits : List Limits) (events : List Event) (e : Event) → is_late limits events e ≡ true → effect_of limits events e ≡ effect.Late
unfolding effect_of
late_effect limits events e late = rw late refl

pub late_where : (limits : List Limits) (events : List Event) (e : Event) → effect_of limits events e ≡ effect.Late → is_late limits events e ≡ true
unfolding effect_of
late_where limits events e is = by_parts (is_late limits events e) (closing limits (events ++ e ∷ [])) is where
  by_parts : (late : Bool) (found : Option Phase) → cond late effect.Late (option_map_or effect.Closed found effect.Applied) ≡ effect.Late → late ≡ true
  by_parts true found is = refl
  by_parts false None is = absurd cc
  by_parts false (Some q) is = absurd cc

closes_with : (own : Effect) → closes own ≡ true → (q : Phase) × (own ≡ effect.Closed q)
closes_with effect.Applied does = absurd cc
closes_with (effect.Closed q) does = (q, refl)
closes_with effect.Late does = absurd cc

-- ---- a closed run

closed_by : (limits : List Limits) (events : List Event) (e : Event) (q : Phase) → effect_of limits events e ≡ effect.Closed q → closing_prefix limits (events ++ e ∷ []) ≡ Some (events ++ e ∷ [])
closed_by limits events e q does =
    let closing = closing_is limits events e q does in
    let none = open_where_applied limits events e closing.applied in
    rw (closing_prefix-push limits events e, none, closing.closed) refl

still_closed : (limits : List Limits) (events prefix : List Event) (e : Event) → closing_prefix limits events ≡ Some prefix → closing_prefix limits (events ++ e ∷ []) ≡ Some prefix
still_closed limits events prefix e closed = rw (closing_prefix-push limits events e, closed) refl

abbrev pub does_close : Entry → Bool
does_close entry = closes entry.effect

none_closes : (bundle : Bundle) (run : ℕ) (limits : List Limits) (front back : List Entry) (prefix : List Event) → IsHistory bundle run limits (front ++ back) → closing_prefix limits (events_in bundle front) ≡ Some prefix → list_any does_close back ≡ false
none_closes bundle run limits front [] prefix is closed = refl
none_closes bundle run limits front (entry ∷ back) prefix is closed =
    let last = entry_is bundle run limits front entry back is in
    let late : entry.effect ≡ effect.Late = last.effect ∙ late_effect limits (events_in bundle front) last.e (is_late-closed limits (events_in bundle front) prefix last.e closed) in
    let still : closing_prefix limits (events_in bundle (front ++ entry ∷ [])) ≡ Some prefix = ap (closing_prefix limits) last.events ∙ still_closed limits (events_in bundle front) prefix last.e closed in
    let rest = none_closes bundle run limits (front ++ entry ∷ []) back prefix (subst (IsHistory bundle run limits) (sym (append_assoc front (entry ∷ []) back)) is) still in
    ap (λ (own : Effect). closes own || list_any does_close back) late ∙ rest

-- ---- the first entry that passes a test

record IsFoundAt {A : Type 0} (test : A → Bool) (xs : List A) (x : A) : Type 0 where
  before : List A
  after : List A
  split : xs ≡ before ++ x ∷ after
  passes : test x ≡ true
  none_before : list_any test before ≡ false

found_at : {A : Type 0} (test : A → Bool) (xs : List A) (x : A) → find test xs ≡ Some x → IsFoundAt test xs x
found_at test [] x is = absurd cc
found_at {A} test (y ∷ ys) x is = at (test y) refl is (found_at test ys x) where
  at : (b : Bool) → test y ≡ b → cond b (Some y) (find test ys) ≡ Some x → (find test ys ≡ Some x → IsFoundAt test ys x) → IsFoundAt test (y ∷ ys) x
  at true passes is rest =
      let same : y ≡ x = cc in
      record { before = []; after = ys; split = ap (λ y. y ∷ ys) same; passes = subst (λ y. test y ≡ true) same passes; none_before = refl }
  at false fails is rest =
      let later = rest is in
      record { before = y ∷ later.before; after = later.after; split = ap (λ ys. y ∷ ys) later.split; passes = later.passes; none_before = ap (λ first. first || list_any test later.before) fails ∙ later.none_before }

-- ---- the law

pub late_after_the_closer : LateAfterTheCloser
late_after_the_closer bundle run limits earlier entry later number is why =
    by_found (find does_close earlier) refl (after_close (step_after bundle limits earlier entry) number why).closer
  where
    by_found : (found : Option Entry) → find does_close earlier ≡ found → option_map (λ (entry : Entry). entry.number) found ≡ Some number → IsOnlyCloser earlier (entry ∷ later) number
    by_found None there number_is = absurd cc
    by_found (Some closer) there number_is =
        let same : closer.number ≡ number = cc in
        let at = found_at does_close earlier closer there in
        let closing = closes_with closer.effect at.passes in
        let rest = at.after ++ entry ∷ later in
        let history : IsHistory bundle run limits (at.before ++ closer ∷ rest) =
        subst (IsHistory bundle run limits) (ap (λ earlier. earlier ++ entry ∷ later) at.split ∙ append_assoc at.before (closer ∷ at.after) (entry ∷ later)) is in
        let last = entry_is bundle run limits at.before closer rest history in
        let closed = ap (closing_prefix limits) last.events ∙ closed_by limits (events_in bundle at.before) last.e closing.0 (sym last.effect ∙ closing.1) in
        let none = none_closes bundle run limits (at.before ++ closer ∷ []) rest _ (subst (IsHistory bundle run limits) (sym (append_assoc at.before (closer ∷ []) rest)) history) closed in
        record {
          before = at.before;
          closer = closer;
          between = at.after;
          earlier_are = at.split;
          number_is = same;
          does = at.passes;
          no_other = list_any-append does_close at.before rest ∙ (ap (λ first. first || list_any does_close rest) at.none_before ∙ none);
        }
