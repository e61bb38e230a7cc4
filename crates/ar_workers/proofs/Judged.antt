-- What workers of an ordered run judged, and the table of it.
use Rattle.std.proofs.Common.{◌≡◌, ◌<◌, ℕ, zero, suc, Bool, true, false, List, [], ◌∷◌, ◌++◌, length, map, set, Option, Some, None, refl, sym, ◌∙◌, ap, subst, arith, append_assoc, append-nil}
use Rattle.std.specs.Prelude.{slice_get, slice_index_or, ◌==◌, nat_lt, option_and_then}
use Rattle.std.proofs.lemmas.List.{map_push}
use Rattle.std.proofs.lemmas.Option.{get_or_from_slice_get, slice_get_within}
use Rattle.std.proofs.lemmas.Bool.Decides.{nat_tests}
use Rattle.ar_bundle.specs.Bundle.{Bundle, finding_at, found_of}
use Rattle.ar_bundle.specs.declared.bundle.EventPart.{EventPart}
use Rattle.ar_bundle.specs.Lawful.{times_in}
use Rattle.ar_bundle.specs.declared.finding.Finding.{Finding}
use Rattle.ar_bundle.proofs.HistoryLemmas.{at_set_other, at_set_same, times_push}
use Rattle.ar_queue.specs.Numbers.{once_below}
use Rattle.ar_queue.proofs.Steps.{times_both}
use Rattle.ar_queue.specs.Workers.{IsNamed, all_named}
use Rattle.ar_workers.specs.Private.Judging.{AreJudged, AreKnown, IsKnown, numbers_judged}
use Rattle.ar_workers.specs.Private.Settling.{AreEachOnce}
use Rattle.ar_workers.specs.declared.judging.Judged.{Judged}

-- ---- one number more is judged

pub judged_next : (number : ℕ) (finding : Finding) (before after : List Judged) → after ≡ before ++ (record { number = number; finding = finding }) ∷ [] → IsNamed number (numbers_judged before) (numbers_judged after)
judged_next number finding before after is other =
    let all = ap (λ judged. times_in other (numbers_judged judged)) is in
    let mapped = ap (times_in other) (map_push (λ (one : Judged). one.number) before (record { number = number; finding = finding })) in
    let pushed = times_push other number (numbers_judged before) in
    omega arith

pub exact_next : (bundle : Bundle) (number : ℕ) (finding : Finding) (before after : List Judged) → AreJudged bundle before → finding_at bundle number ≡ Some finding → after ≡ before ++ (record { number = number; finding = finding }) ∷ [] → AreJudged bundle after
exact_next bundle number finding before after are is more =
    let one : Judged = record { number = number; finding = finding } in
    subst (AreJudged bundle) (sym more)
    (map_push (λ (one : Judged). finding_at bundle one.number) before one ∙ (ap (λ (last : List (Option Finding)). last ++ finding_at bundle number ∷ []) are ∙ (ap (λ (last : Option Finding). map (λ (one : Judged). Some one.finding) before ++ last ∷ []) is ∙ sym (map_push (λ (one : Judged). Some one.finding) before one))))

-- the first of them is its number's finding, and so are the others
pub first_judged : (bundle : Bundle) (one : Judged) (judged : List Judged) → AreJudged bundle (one ∷ judged) → (finding_at bundle one.number ≡ Some one.finding) × AreJudged bundle judged
first_judged bundle one judged are = (cc, cc)

-- ---- the table

inside_by_entry : (bundle : Bundle) (number : ℕ) (finding : Finding) (entry : Option EventPart) → slice_get bundle.entries number ≡ entry → option_and_then (λ (entry : EventPart). found_of bundle entry.run entry.what) entry ≡ Some finding → number < length bundle.entries
inside_by_entry bundle number finding (Some entry) there is = slice_get_within bundle.entries number entry there
inside_by_entry bundle number finding None there is = absurd cc

found_inside : (bundle : Bundle) (number : ℕ) (finding : Finding) → finding_at bundle number ≡ Some finding → number < length bundle.entries
found_inside bundle number finding is = inside_by_entry bundle number finding (slice_get bundle.entries number) refl is

pub judged_inside : (bundle : Bundle) (one : Judged) (judged : List Judged) → AreJudged bundle (one ∷ judged) → one.number < length bundle.entries
judged_inside bundle one judged are = found_inside bundle one.number one.finding (first_judged bundle one judged are).0

known_by_test : (bundle : Bundle) (number : ℕ) (one : Judged) (table : List (Option Finding)) (test : Bool) → (number == one.number) ≡ test → one.number < length table → finding_at bundle one.number ≡ Some one.finding → IsKnown bundle table number → IsKnown bundle (set table one.number (Some one.finding)) number
known_by_test bundle number one table true is less judged known =
    let same : one.number ≡ number = grind (arith, nat_tests) in
    subst (IsKnown bundle (set table one.number (Some one.finding))) same (one.finding, at_set_same table one.number (Some one.finding) less, judged)
known_by_test bundle number one table false is less judged known =
    (known.0, at_set_other table one.number number (Some one.finding) (λ same. absurd (grind (arith, nat_tests))) ∙ known.1, known.2)

-- a number stays known where another's finding is put into the table, or its own again
pub still_known : (bundle : Bundle) (one : Judged) (before after : List (Option Finding)) → one.number < length before → finding_at bundle one.number ≡ Some one.finding → after ≡ set before one.number (Some one.finding) → (number : ℕ) → IsKnown bundle before number → IsKnown bundle after number
still_known bundle one before after less judged is number known = subst (λ table. IsKnown bundle table number) (sym is) (known_by_test bundle number one before (number == one.number) refl less judged known)

-- ---- one finding more is in the table

pub known_first : (bundle : Bundle) (table : List (Option Finding)) → AreKnown bundle [] table
known_first bundle table number is_there = absurd (omega arith)

one_known : (bundle : Bundle) (one : Judged) (table : List (Option Finding)) (number : ℕ) (test : Bool) → (one.number == number) ≡ test → IsKnown bundle table one.number → 0 < times_in number (one.number ∷ []) → IsKnown bundle table number
one_known bundle one table number true is known is_there = (let same : one.number ≡ number = grind (arith, nat_tests) in subst (IsKnown bundle table) same known)
one_known bundle one table number false is known is_there = absurd (let none : times_in number (one.number ∷ []) ≡ 0 = rw is refl in omega arith)

both_known : (bundle : Bundle) (first second : List ℕ) (table : List (Option Finding)) → AreKnown bundle first table → AreKnown bundle second table → AreKnown bundle (first ++ second) table
both_known bundle first second table one other number is_there =
    let both = times_both number first second in
    by_times (times_in number first) refl
  where
    by_times : (times : ℕ) → times_in number first ≡ times → IsKnown bundle table number
    by_times zero is = (let both = times_both number first second in other number (omega arith))
    by_times (suc times) is = one number (omega arith)

pub known_next : (bundle : Bundle) (judged : List Judged) (one : Judged) (before after : List (Option Finding)) → finding_at bundle one.number ≡ Some one.finding → one.number < length before → after ≡ set before one.number (Some one.finding)
    → AreKnown bundle (numbers_judged judged) before → AreKnown bundle (numbers_judged (judged ++ one ∷ [])) after
known_next bundle judged one before after here less is known =
    let more = map_push (λ (one : Judged). one.number) judged one in
    let its : IsKnown bundle after one.number = subst (λ table. IsKnown bundle table one.number) (sym is) (one.finding, at_set_same before one.number (Some one.finding) less, here) in
    subst (λ numbers. AreKnown bundle numbers after) (sym more)
    (both_known bundle (numbers_judged judged) (one.number ∷ []) after
    (λ number is_there. still_known bundle one before after less here is number (known number is_there))
    (λ number is_there. one_known bundle one after number (one.number == number) refl its is_there))

-- ---- one desk more is in the table

all_named_append : {Desk : Type 0} (numbers : Desk → List ℕ) (desks : List Desk) (desk : Desk) → all_named numbers (desks ++ desk ∷ []) ≡ all_named numbers desks ++ numbers desk
all_named_append numbers [] desk = append-nil (numbers desk)
all_named_append numbers (first ∷ desks) desk = ap (λ (rest : List ℕ). numbers first ++ rest) (all_named_append numbers desks desk) ∙ sym (append_assoc (numbers first) (all_named numbers desks) (numbers desk))

pub desk_known : {Desk : Type 0} (numbers : Desk → List ℕ) (bundle : Bundle) (desks : List Desk) (desk : Desk) (before after : List (Option Finding)) → AreKnown bundle (all_named numbers desks) before → ((number : ℕ) → IsKnown bundle before number → IsKnown bundle after number) → AreKnown bundle (numbers desk) after
    → AreKnown bundle (all_named numbers (desks ++ desk ∷ [])) after
desk_known numbers bundle desks desk before after known kept own =
    subst (λ all. AreKnown bundle all after) (sym (all_named_append numbers desks desk))
    (both_known bundle (all_named numbers desks) (numbers desk) after (λ number is_there. kept number (known number is_there)) own)

-- ---- each number is in the table

by_test : (number events : ℕ) (test : Bool) → nat_lt number events ≡ test → number < events → once_below number events ≡ 1
by_test number events true is less = rw is refl
by_test number events false is less = absurd (grind (arith, nat_tests))

pub all_known : (bundle : Bundle) (numbers : List ℕ) (table : List (Option Finding)) → AreEachOnce (length bundle.entries) numbers → AreKnown bundle numbers table → (number : ℕ) → number < length bundle.entries → IsKnown bundle table number
all_known bundle numbers table each known number less =
    let once = by_test number (length bundle.entries) (nat_lt number (length bundle.entries)) refl less in
    let is = each number in
    known number (omega arith)

pub known_inside : (bundle : Bundle) (number : ℕ) (table : List (Option Finding)) → IsKnown bundle table number → number < length table
known_inside bundle number table known = slice_get_within table number (Some known.0) known.1

-- what is read of the table is its number's finding
pub known_read : (bundle : Bundle) (number : ℕ) (table : List (Option Finding)) (d : Option Finding) → IsKnown bundle table number → slice_index_or table number d ≡ finding_at bundle number
known_read bundle number table d known = get_or_from_slice_get table number (Some known.0) d known.1 ∙ sym known.2
