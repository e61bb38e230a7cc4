-- Sums over views, and what becomes of them where one view changes.
use Rattle.std.proofs.Common.{◌≡◌, ◌≤◌, ℕ, zero, suc, ◌+◌, ◌==◌, Bool, true, false, if◌then◌else◌, List, [], ◌∷◌, set, refl, ap, arith}
use Rattle.std.proofs.lemmas.Bool.Decides.{nat_tests}
use Rattle.std.proofs.lemmas.List.Sums.{sum_by-cons}
use mathlib.Core.Option.{some}
use lib.ListN.{get_elem?}
use Rattle.ar_bundle.specs.Lawful.{times_in}
use Rattle.ar_queue.specs.Rule.{fed_by_others, times_in_spent, total}
use Rattle.ar_queue.specs.declared.queue.View.{View}

-- one view changes
pub swap : (f : View → ℕ) (views : List View) (at : ℕ) (v w : View) → get_elem? views at ≡ some v → total f (set views at w) + f v ≡ total f views + f w
swap f [] at v w there = absurd cc
swap f (u ∷ views) zero v w there =
    let same : u ≡ v = cc in
    let own : f u ≡ f v = ap f same in
    let old = sum_by-cons f u views in
    let new = sum_by-cons f w views in
    omega arith
swap f (u ∷ views) (suc at) v w there =
    let rest = swap f views at v w there in
    let old = sum_by-cons f u views in
    let new = sum_by-cons f u (set views at w) in
    omega arith

-- a view is no more than all of them
pub within : (f : View → ℕ) (views : List View) (at : ℕ) (v : View) → get_elem? views at ≡ some v → f v ≤ total f views
within f [] at v there = absurd cc
within f (u ∷ views) zero v there =
    let same : u ≡ v = cc in
    let own : f u ≡ f v = ap f same in
    let all = sum_by-cons f u views in
    omega arith
within f (u ∷ views) (suc at) v there =
    let rest = within f views at v there in
    let all = sum_by-cons f u views in
    omega arith

-- where no view has a key, and those without it have nothing
no_key : (key left f : View → ℕ) → ((u : View) → key u ≡ 0 → f u ≤ left u) → (views : List View) → total key views ≡ 0 → total left views ≡ 0 → total f views ≡ 0
no_key key left f few [] none nothing = refl
no_key key left f few (u ∷ views) none nothing =
    let keys = sum_by-cons key u views in
    let lefts = sum_by-cons left u views in
    let all = sum_by-cons f u views in
    let own = few u (omega arith) in
    let rest = no_key key left f few views (omega arith) (omega arith) in
    omega arith

-- where one view alone has it, a sum is its own
pub alone : (key left f : View → ℕ) → ((u : View) → key u ≡ 0 → f u ≤ left u) → (views : List View) (at : ℕ) (v : View) → get_elem? views at ≡ some v → total key views ≡ 1 → key v ≡ 1 → total left views ≡ 0 → total f views ≡ f v
alone key left f few [] at v there one own nothing = absurd cc
alone key left f few (u ∷ views) zero v there one own nothing =
    let same : u ≡ v = cc in
    let key_of : key u ≡ key v = ap key same in
    let f_of : f u ≡ f v = ap f same in
    let keys = sum_by-cons key u views in
    let lefts = sum_by-cons left u views in
    let all = sum_by-cons f u views in
    let rest = no_key key left f few views (omega arith) (omega arith) in
    omega arith
alone key left f few (u ∷ views) (suc at) v there one own nothing =
    let keys = sum_by-cons key u views in
    let lefts = sum_by-cons left u views in
    let all = sum_by-cons f u views in
    let most = within key views at v there in
    let none = few u (omega arith) in
    let rest = alone key left f few views at v there (omega arith) own (omega arith) in
    omega arith

-- ---- those that don't feed, and those that are spent

fed_by_test : (view : View) (test : Bool) → (view.feeds == 0) ≡ test → fed_by_others view ≡ (if test then view.put + (view.marks + view.out) else 0)
fed_by_test view test is = rw is refl

pub feeds_none : (view : View) → view.feeds ≡ 0 → fed_by_others view ≡ view.put + (view.marks + view.out)
feeds_none view none = fed_by_test view true (grind (arith, nat_tests))

pub feeds_one : (view : View) → view.feeds ≡ 1 → fed_by_others view ≡ 0
feeds_one view one = fed_by_test view false (grind (arith, nat_tests))

spent_by_test : (number : ℕ) (view : View) (test : Bool) → (view.live == 0) ≡ test → times_in_spent number view ≡ (if test then times_in number view.taken else 0)
spent_by_test number view test is = rw is refl

pub is_spent : (number : ℕ) (view : View) → view.live ≡ 0 → times_in_spent number view ≡ times_in number view.taken
is_spent number view none = spent_by_test number view true (grind (arith, nat_tests))

pub is_live : (number : ℕ) (view : View) → view.live ≡ 1 → times_in_spent number view ≡ 0
is_live number view one = spent_by_test number view false (grind (arith, nat_tests))

few_put : (view : View) → view.feeds ≡ 0 → view.put ≤ fed_by_others view
few_put view none = let all = feeds_none view none in omega arith

few_marks : (view : View) → view.feeds ≡ 0 → view.marks ≤ fed_by_others view
few_marks view none = let all = feeds_none view none in omega arith

few_out : (view : View) → view.feeds ≡ 0 → view.out ≤ fed_by_others view
few_out view none = let all = feeds_none view none in omega arith

few_taken : (number : ℕ) (view : View) → view.live ≡ 0 → times_in number view.taken ≤ times_in_spent number view
few_taken number view none = let all = is_spent number view none in omega arith

-- all that was put, marked and split off is the feeder's
pub all_put_by : (views : List View) (at : ℕ) (v : View) → get_elem? views at ≡ some v → total (λ view. view.feeds) views ≡ 1 → v.feeds ≡ 1 → total fed_by_others views ≡ 0 → total (λ view. view.put) views ≡ v.put
all_put_by views at v there one own nothing = alone (λ view. view.feeds) fed_by_others (λ view. view.put) few_put views at v there one own nothing

pub all_marked_by : (views : List View) (at : ℕ) (v : View) → get_elem? views at ≡ some v → total (λ view. view.feeds) views ≡ 1 → v.feeds ≡ 1 → total fed_by_others views ≡ 0 → total (λ view. view.marks) views ≡ v.marks
all_marked_by views at v there one own nothing = alone (λ view. view.feeds) fed_by_others (λ view. view.marks) few_marks views at v there one own nothing

pub all_out_by : (views : List View) (at : ℕ) (v : View) → get_elem? views at ≡ some v → total (λ view. view.feeds) views ≡ 1 → v.feeds ≡ 1 → total fed_by_others views ≡ 0 → total (λ view. view.out) views ≡ v.out
all_out_by views at v there one own nothing = alone (λ view. view.feeds) fed_by_others (λ view. view.out) few_out views at v there one own nothing

-- where one pass alone isn't spent, all that was taken is with it
pub all_taken_by : (number : ℕ) (views : List View) (at : ℕ) (v : View) → get_elem? views at ≡ some v → total (λ view. view.live) views ≡ 1 → v.live ≡ 1 → total (times_in_spent number) views ≡ 0 → total (λ view. times_in number view.taken) views ≡ times_in number v.taken
all_taken_by number views at v there one own nothing = alone (λ view. view.live) (times_in_spent number) (λ view. times_in number view.taken) (few_taken number) views at v there one own nothing
