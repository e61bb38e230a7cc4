-- Items of list literals, one after the other.
use Rattle.std.proofs.Common.{◌≡◌, ℕ, suc, true, false, ◌+◌, ◌<◌, ◌≤◌, List, [], ◌∷◌, length, map, drop, refl, sym, ap, subst, ◌∙◌, add-one, drop-cons}
use Rattle.std.specs.Prelude.{slice_index_or}
use Rattle.std.specs.Bool.{Decides}
use Rattle.std.proofs.Math.ListN.{drop_of_length-le}
use Rattle.ar_tree.specs.Typed.{Typed, Typeds, typeds, how_many}
use Rattle.ar_op.specs.Code.{Code}
use Rattle.ar_compile.specs.Length.{operations, operations_of_items}
use Rattle.ar_tree.specs.Limits.{AllInLimits, InLimits}
use Rattle.ar_compile.specs.Private.Drafts.{drafted, drafted_items}
use Rattle.ar_compile.specs.Private.Trees.{Agree}
use Rattle.ar_compile.proofs.Drafts.{drafted_length, one_index_more, same_place}

-- the first of those that are left
pub first_left : {A : Type 0} (xs : List A) (i : ℕ) (x : A) → i < length xs → x ≡ slice_index_or xs i x → drop i xs ≡ x ∷ drop (i + 1) xs
first_left xs i x within is = rw (add-one i) (drop-cons xs i x within ∙ ap (λ y. y ∷ drop (suc i) xs) (sym is))

-- the operations of the items that are left
pub next_operations : {A : Type 0} (f : A → Typed) (xs : List A) (i : ℕ) (x : A) → i < length xs → x ≡ slice_index_or xs i x
    → operations_of_items (typeds (map f (drop i xs))) ≡ operations (f x) + operations_of_items (typeds (map f (drop (i + 1) xs)))
next_operations f xs i x within is = ap (λ ys. operations_of_items (typeds (map f ys))) (first_left xs i x within is)

pub no_operations : {A : Type 0} (f : A → Typed) (xs : List A) (i : ℕ) → length xs ≤ i → operations_of_items (typeds (map f (drop i xs))) ≡ 0
no_operations f xs i past = ap (λ ys. operations_of_items (typeds (map f ys))) (drop_of_length-le xs past)

pub as_many : {A : Type 0} (f : A → Typed) (xs : List A) → length xs ≡ how_many (typeds (map f xs))
as_many f [] = refl
as_many f (x ∷ xs) = ap suc (as_many f xs)

-- the first of those that are left is within limits, and so are the others
pub next_limits : {A : Type 0} (f : A → Typed) (xs : List A) (i : ℕ) (x : A) → i < length xs → x ≡ slice_index_or xs i x → AllInLimits (typeds (map f (drop i xs))) → InLimits (f x) × AllInLimits (typeds (map f (drop (i + 1) xs)))
next_limits f xs i x within is h = subst (λ ys. AllInLimits (typeds (map f ys))) (first_left xs i x within is) h

pub next_drafted : {A : Type 0} (f : A → Typed) (xs : List A) (i : ℕ) (x : A) (draft : Code) → i < length xs → x ≡ slice_index_or xs i x
    → drafted_items (typeds (map f (drop i xs))) draft ≡ drafted_items (typeds (map f (drop (i + 1) xs))) (drafted (f x) draft)
next_drafted f xs i x draft within is = ap (λ ys. drafted_items (typeds (map f ys)) draft) (first_left xs i x within is)

pub none_drafted : {A : Type 0} (f : A → Typed) (xs : List A) (i : ℕ) (draft : Code) → length xs ≤ i → drafted_items (typeds (map f (drop i xs))) draft ≡ draft
none_drafted f xs i draft past = ap (λ ys. drafted_items (typeds (map f ys)) draft) (drop_of_length-le xs past)

-- ---- whether items are within limits

pub all_agree : {A : Type 0} (f : A → Typed) (xs : List A) → Agree (typeds (map f xs)) (typeds (map f (drop 0 xs)))
unfolding Agree
all_agree f xs = (λ h. h, λ h. h)

pub others_agree : {A : Type 0} (f : A → Typed) (xs : List A) (i : ℕ) (x : A) (whole : Typeds) → i < length xs → x ≡ slice_index_or xs i x → InLimits (f x) → Agree whole (typeds (map f (drop i xs))) → Agree whole (typeds (map f (drop (i + 1) xs)))
unfolding Agree
others_agree f xs i x whole within is first agree =
    (λ h. (next_limits f xs i x within is (agree.0 h)).1, λ h. agree.1 (subst (λ ys. AllInLimits (typeds (map f ys))) (sym (first_left xs i x within is)) (first, h)))

pub one_is_outside : {A : Type 0} (f : A → Typed) (xs : List A) (i : ℕ) (x : A) (whole : Typeds) → i < length xs → x ≡ slice_index_or xs i x → (InLimits (f x) → ⊥) → Agree whole (typeds (map f (drop i xs))) → Decides false (AllInLimits whole)
unfolding Agree
one_is_outside f xs i x whole within is outside agree = (λ e. absurd cc, λ h. absurd (outside (next_limits f xs i x within is (agree.0 h)).0))

pub all_are_inside : {A : Type 0} (f : A → Typed) (xs : List A) (i : ℕ) (whole : Typeds) → length xs ≤ i → Agree whole (typeds (map f (drop i xs))) → Decides true (AllInLimits whole)
unfolding Agree
all_are_inside f xs i whole past agree = (λ e. agree.1 (subst (λ ys. AllInLimits (typeds (map f ys))) (sym (drop_of_length-le xs past)) tt), λ h. refl)

-- what is said of a draft by what it was before, and of the parts of a tree one by one
pub ruleset drafts = (drafted_length, one_index_more, same_place, next_operations, no_operations, next_limits, next_drafted, none_drafted, as_many)
