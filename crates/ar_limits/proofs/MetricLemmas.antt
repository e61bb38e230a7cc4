-- What one mark more does to a metric's counts and phase.
use Rattle.std.proofs.Common.{◌≡◌, ℕ, ◌+◌, ◌≤◌, nat_lt, Bool, true, false, cond, Option, Some, None, List, [], ◌∷◌, ◌++◌, reverse, count_by, refl, ◌∙◌, arith, IfSome}
use Rattle.std.proofs.lemmas.List.{reverse-append}
use Rattle.std.proofs.lemmas.List.Folds.{length-prefix_len}
use Rattle.std.proofs.lemmas.List.Sums.{sum_by-append}
use Rattle.std.proofs.lemmas.Bool.Decides.{nat_tests}
use Rattle.ar_limits.specs.declared.counts.Counts.{Counts}
use Rattle.ar_limits.specs.declared.event.Mark.{Mark}
use Rattle.ar_limits.specs.declared.event.Mark.TheVariants as mark
use Rattle.ar_limits.specs.declared.limits.Limits.{Limits}
use Rattle.ar_limits.specs.declared.phase.Phase.{Phase}
use Rattle.ar_limits.specs.declared.phase.Phase.TheVariants as phase
use Rattle.ar_limits.specs.Metric.{is_successful, is_failed, is_inconclusive, is_error, errors_at_end, counts_of, counted, reaches, decided_by, decision, is_complete}
use Rattle.ar_limits.specs.Private.Step.{with_mark}
use Rattle.ar_limits.proofs.PrefixLemmas.{DecidesComplete}

-- ---- Counts

errors_at_end-push : (marks : List Mark) (m : Mark)
    → errors_at_end (marks ++ m ∷ []) ≡ cond (is_error m) (1 + errors_at_end marks) 0
errors_at_end-push marks m = length-prefix_len is_error (reverse (marks ++ m ∷ [])) ∙ rw (reverse-append marks (m ∷ []), length-prefix_len is_error (reverse marks)) refl

count_by-push : (test : Mark → Bool) (marks : List Mark) (m : Mark)
    → count_by test (marks ++ m ∷ []) ≡ count_by test marks + cond (test m) 1 0
count_by-push test marks m = omega (arith, sum_by-append (λ x. cond (test x) 1 0) marks (m ∷ []))

same_counts : {s f i e n s' f' i' e' n' : ℕ} → s ≡ s' → f ≡ f' → i ≡ i' → e ≡ e' → n ≡ n' →
    (let c : Counts = record { successful = s; failed = f; inconclusive = i; error = e; succession = n } in c) ≡ record { successful = s'; failed = f'; inconclusive = i'; error = e'; succession = n' }
same_counts s f i e n = rw (s, f, i, e, n) refl

pub counts_of-push : (marks : List Mark) (m : Mark)
    → counts_of (marks ++ m ∷ []) ≡ with_mark (counts_of marks) m
unfolding counts_of
counts_of-push marks mark.Successful = same_counts (count_by-push is_successful marks mark.Successful) (omega (arith, count_by-push is_failed marks mark.Successful)) (omega (arith, count_by-push is_inconclusive marks mark.Successful)) (omega (arith, count_by-push is_error marks mark.Successful)) (errors_at_end-push marks mark.Successful)
counts_of-push marks mark.Failed = same_counts (omega (arith, count_by-push is_successful marks mark.Failed)) (count_by-push is_failed marks mark.Failed) (omega (arith, count_by-push is_inconclusive marks mark.Failed)) (omega (arith, count_by-push is_error marks mark.Failed)) (errors_at_end-push marks mark.Failed)
counts_of-push marks mark.Inconclusive = same_counts (omega (arith, count_by-push is_successful marks mark.Inconclusive)) (omega (arith, count_by-push is_failed marks mark.Inconclusive)) (count_by-push is_inconclusive marks mark.Inconclusive) (omega (arith, count_by-push is_error marks mark.Inconclusive)) (errors_at_end-push marks mark.Inconclusive)
counts_of-push marks mark.Error = same_counts (omega (arith, count_by-push is_successful marks mark.Error)) (omega (arith, count_by-push is_failed marks mark.Error)) (omega (arith, count_by-push is_inconclusive marks mark.Error)) (count_by-push is_error marks mark.Error) (omega (arith, errors_at_end-push marks mark.Error))

-- ---- The decision

pub decided_by-complete : (limits : Limits) (counts : Counts) (q : Phase) → decided_by limits counts ≡ Some q
    → is_complete q ≡ true
decided_by-complete limits counts q h =
    at (nat_lt limits.failure counts.failed) (nat_lt limits.inconclusive counts.inconclusive) (nat_lt limits.consecutive_error counts.succession) (reaches limits.count (counted counts)) h
  where
    at : (f i e c : Bool)
        → cond f (Some phase.Failed) (cond i (Some phase.Inconclusive) (cond e (Some phase.Error) (cond c (Some phase.Successful) None))) ≡ Some q
        → is_complete q ≡ true
    at true i e c h = let same : phase.Failed ≡ q = cc in rw (← same) refl
    at false true e c h = let same : phase.Inconclusive ≡ q = cc in rw (← same) refl
    at false false true c h = let same : phase.Error ≡ q = cc in rw (← same) refl
    at false false false true h = let same : phase.Successful ≡ q = cc in rw (← same) refl
    at false false false false h = cc

pub decision-complete : (limits : Limits) → DecidesComplete (decision limits)
unfolding decision
decision-complete limits = record { complete = λ marks q h. decided_by-complete limits (counts_of marks) q h }

not_below_zero : (n : ℕ) → nat_lt n 0 ≡ false
not_below_zero n = grind (arith, nat_tests)

-- no marks decide nothing, where the count is 1 or more
pub decision-nil : (limits : Limits) → IfSome limits.count (λ count. 1 ≤ count) → decision limits [] ≡ None
unfolding decision counts_of
decision-nil limits positive =
    rw (not_below_zero limits.failure, not_below_zero limits.inconclusive, not_below_zero limits.consecutive_error)
    (rw (unreached limits.count positive) refl)
  where
    unreached : (count : Option ℕ) → IfSome count (λ n. 1 ≤ n) → reaches count 0 ≡ false
    unreached None h = refl
    unreached (Some n) h = grind (arith, nat_tests)
