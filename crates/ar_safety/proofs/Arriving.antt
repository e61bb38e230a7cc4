-- What arrives at an index has room for each of the operands that were sent there.
use Rattle.std.proofs.Common.{◌≡◌, ℕ, suc, Bool, true, false, List, [], ◌∷◌, ◌++◌, length, Option, Some, None, option_map, IfSome, Result, Ok, Err, refl, ap, ◌∙◌, arith}
use Rattle.std.specs.Prelude.{◌||◌, ◌==◌, if◌then◌else◌, option_and_then}
use Rattle.std.specs.List.{AllByRecursion}
use Rattle.std.proofs.lemmas.Bool.Decides.{nat_tests}
use Rattle.ar_value.specs.Kind.{Kind, fits_kind, merge}
use Rattle.ar_value.specs.Value.{Value}
use Rattle.ar_value.proofs.Merges.{merge_has_both}
use Rattle.ar_safety.specs.Arrivals.{Operands, Sent, arrived, merged_all, merged, of_loops, sent_to}
use Rattle.ar_safety.specs.declared.error.Reason.{Reason}
use Rattle.ar_safety.proofs.Effects.{Fit}

-- ---- lists

pub all_split : {A : Type 0} (P : A → Type 0) (xs ys : List A) → AllByRecursion P (xs ++ ys) → AllByRecursion P xs × AllByRecursion P ys
all_split P [] ys all = (tt, all)
all_split P (x ∷ xs) ys all = let rest = all_split P xs ys all.1 in ((all.0, rest.0), rest.1)

pub all_append : {A : Type 0} (P : A → Type 0) (xs ys : List A) → AllByRecursion P xs → AllByRecursion P ys → AllByRecursion P (xs ++ ys)
all_append P [] ys all also = also
all_append P (x ∷ xs) ys all also = (all.0, all_append P xs ys all.1 also)

pub all_more : {A : Type 0} (P Q : A → Type 0) (xs : List A) → ((x : A) → P x → Q x) → AllByRecursion P xs → AllByRecursion Q xs
all_more P Q [] more all = tt
all_more P Q (x ∷ xs) more all = (more x all.0, all_more P Q xs more all.1)

pub all_both : {A : Type 0} (P Q : A → Type 0) (xs : List A) → AllByRecursion P xs → AllByRecursion Q xs → AllByRecursion (λ x. P x × Q x) xs
all_both P Q [] all also = tt
all_both P Q (x ∷ xs) all also = ((all.0, also.0), all_both P Q xs all.1 also.1)

-- ---- kinds that have room for others

-- what fits the ones fits the others
abbrev pub Widens : List Kind → List Kind → Type 0
Widens kinds wider = (vs : List Value) → Fit vs kinds → Fit vs wider

or_first : (a b : Bool) → a ≡ true → (a || b) ≡ true
or_first true b h = refl
or_first false b h = absurd cc

or_second : (a b : Bool) → b ≡ true → (a || b) ≡ true
or_second true b h = refl
or_second false b h = h

-- both lists that were merged
abbrev Both : (left right wider : List Kind) → Type 0
Both left right wider = Widens left wider × Widens right wider × (length left ≡ length wider)

first_widens : (left right kind : Kind) (lefts kinds : List Kind) → merge left right ≡ Some kind → Widens lefts kinds → Widens (left ∷ lefts) (kind ∷ kinds)
first_widens left right kind lefts kinds is rest (v ∷ vs) fit = (merge_has_both left right kind v is (or_first (fits_kind v left) (fits_kind v right) fit.0), rest vs fit.1)
first_widens left right kind lefts kinds is rest [] fit = absurd fit

second_widens : (left right kind : Kind) (rights kinds : List Kind) → merge left right ≡ Some kind → Widens rights kinds → Widens (right ∷ rights) (kind ∷ kinds)
second_widens left right kind rights kinds is rest (v ∷ vs) fit = (merge_has_both left right kind v is (or_second (fits_kind v left) (fits_kind v right) fit.0), rest vs fit.1)
second_widens left right kind rights kinds is rest [] fit = absurd fit

one_merged : (left right : Kind) (lefts rights : List Kind) (kind : Option Kind) (kinds : Option (List Kind)) → merge left right ≡ kind → IfSome kinds (Both lefts rights)
    → IfSome (option_and_then (λ kind. option_map (λ kinds. kind ∷ kinds) kinds) kind) (Both (left ∷ lefts) (right ∷ rights))
one_merged left right lefts rights (Some kind) (Some kinds) is each =
    (first_widens left right kind lefts kinds is each.0, second_widens left right kind rights kinds is each.1, ap suc each.2)
one_merged left right lefts rights (Some kind) None is each = tt
one_merged left right lefts rights None kinds is each = tt

merged_both : (left right : List Kind) → IfSome (merged left right) (Both left right)
merged_both [] [] = (λ vs fit. fit, λ vs fit. fit, refl)
merged_both (left ∷ lefts) (right ∷ rights) = one_merged left right lefts rights (merge left right) (merged lefts rights) refl (merged_both lefts rights)
merged_both [] (right ∷ rights) = tt
merged_both (left ∷ lefts) [] = tt

-- ---- what arrives

-- of operands that arrived
abbrev pub Room : Operands → Operands → Type 0
Room had one = Widens one.kinds had.kinds

abbrev Kept : Operands → Operands → Type 0
Kept before had = Room had before × (length before.kinds ≡ length had.kinds) × (before.loops ≡ had.loops)

-- what was joined so far, and what comes after it
abbrev Joins : Result Operands Reason → List Operands → Operands → Type 0
Joins (Ok before) others had = Kept before had × AllByRecursion (Room had) others
Joins (Err reason) others had = ⊥

joined_next : (before next : Operands) (others : List Operands) (had : Operands) (kinds : Option (List Kind)) → merged before.kinds next.kinds ≡ kinds → Joins (of_loops before.loops kinds) others had
    → Kept before had × AllByRecursion (Room had) (next ∷ others)
joined_next before next others had (Some kinds) is joins =
    let each : IfSome (Some kinds) (Both before.kinds next.kinds) = rw is at (merged_both before.kinds next.kinds) in
    ((λ vs fit. joins.0.0 vs (each.0 vs fit), each.2 ∙ joins.0.1, joins.0.2), (λ vs fit. joins.0.0 vs (each.1 vs fit), joins.1))
joined_next before next others had None is joins = absurd joins

joined_room : (so_far : Result Operands Reason) (others : List Operands) (had : Operands) → merged_all so_far others ≡ Ok had → Joins so_far others had
joined_room (Ok before) [] had is = let same : before ≡ had = cc in rw same ((λ vs fit. fit, refl, refl), tt)
joined_room (Err reason) [] had is = absurd cc
joined_room (Ok before) (next ∷ others) had is =
    joined_next before next others had (merged before.kinds next.kinds) refl (joined_room (of_loops before.loops (merged before.kinds next.kinds)) others had is)
joined_room (Err reason) (next ∷ others) had is = joined_room (Err reason) others had is

-- what arrives has room for all that was sent, and is as many operands, in the same loops, as what was sent first
pub record Arrives (sents : List Operands) (had : Operands) : Type 0 where
  pub first : Operands
  pub others : List Operands
  pub are : sents ≡ first ∷ others
  pub room : AllByRecursion (Room had) sents
  pub many : length first.kinds ≡ length had.kinds
  pub loops : first.loops ≡ had.loops

pub arrives : (sents : List Operands) (had : Operands) → arrived sents ≡ Ok had → Arrives sents had
arrives [] had is = absurd cc
arrives (first ∷ others) had is =
    let joins = joined_room (Ok first) others had is in
    record { first = first; others = others; are = refl; room = (joins.0.0, joins.1); many = joins.0.1; loops = joins.0.2 }

-- ---- what is sent to an index

-- of all that is sent, what is sent to `index`
one_to : (P : Operands → Type 0) (index : ℕ) (one : Sent) (others : List Sent) (is_there : Bool) → (one.target == index) ≡ is_there
    → AllByRecursion P (if is_there then one.operands ∷ sent_to index others else sent_to index others)
    → (AllByRecursion P (sent_to index others) → AllByRecursion (λ one. one.target ≡ index → P one.operands) others)
    → AllByRecursion (λ one. one.target ≡ index → P one.operands) (one ∷ others)
one_to P index one others true is all rest = (λ there. all.0, rest all.1)
one_to P index one others false is all rest = (λ there. absurd (grind (arith, nat_tests)), rest all)

of_one_sent : (P : Operands → Type 0) (index : ℕ) (one : Sent) (others : List Sent) (is_there : Bool) → (one.target == index) ≡ is_there
    → (one.target ≡ index → P one.operands) → AllByRecursion P (sent_to index others) → AllByRecursion P (if is_there then one.operands ∷ sent_to index others else sent_to index others)
of_one_sent P index one others true is each rest = (each (grind (arith, nat_tests)), rest)
of_one_sent P index one others false is each rest = rest

pub to_index : (P : Operands → Type 0) (index : ℕ) (sents : List Sent) → AllByRecursion P (sent_to index sents) → AllByRecursion (λ one. one.target ≡ index → P one.operands) sents
to_index P index [] all = tt
to_index P index (one ∷ others) all = one_to P index one others (one.target == index) refl all (λ rest. to_index P index others rest)

pub of_index : (P : Operands → Type 0) (index : ℕ) (sents : List Sent) → AllByRecursion (λ one. one.target ≡ index → P one.operands) sents → AllByRecursion P (sent_to index sents)
of_index P index [] all = tt
of_index P index (one ∷ others) all = of_one_sent P index one others (one.target == index) refl all.0 (of_index P index others all.1)

none_to : (index : ℕ) (one : Sent) (others : List Sent) (is_there : Bool) → (one.target == index) ≡ is_there → (one.target ≡ index → ⊥) → sent_to index others ≡ [] → (if is_there then one.operands ∷ sent_to index others else sent_to index others) ≡ []
none_to index one others true is away rest = absurd (away (grind (arith, nat_tests)))
none_to index one others false is away rest = rest

-- nothing is sent to `index`, where all is sent elsewhere
pub elsewhere : (index : ℕ) (sents : List Sent) → AllByRecursion (λ one. one.target ≡ index → ⊥) sents → sent_to index sents ≡ []
elsewhere index [] all = refl
elsewhere index (one ∷ others) all = none_to index one others (one.target == index) refl all.0 (elsewhere index others all.1)

both_sent : (is_there : Bool) (one : Operands) (before later all : List Operands) → all ≡ before ++ later → (if is_there then one ∷ all else all) ≡ (if is_there then one ∷ before else before) ++ later
both_sent true one before later all h = ap (λ all. one ∷ all) h
both_sent false one before later all h = h

pub sent_to_both : (index : ℕ) (before later : List Sent) → sent_to index (before ++ later) ≡ sent_to index before ++ sent_to index later
sent_to_both index [] later = refl
sent_to_both index (one ∷ before) later = both_sent (one.target == index) one.operands (sent_to index before) (sent_to index later) (sent_to index (before ++ later)) (sent_to_both index before later)
