-- Stacks of which the last item is on top, from the top.
use Rattle.std.proofs.Common.{◌≡◌, ℕ, suc, ◌+◌, ◌-◌, ◌<◌, ◌≤◌, Bool, true, false, List, [], ◌∷◌, ◌++◌, length, map, reverse, option_map, Some, None, refl, ◌∙◌, arith, ap, sym}
use Rattle.std.specs.List.{slice_get}
use mathlib.Core.List.{reverse_aux}
use Rattle.std.proofs.lemmas.Option.{slice_get-map}
use Rattle.std.proofs.lemmas.List.{length-map, length-reverse, map-append, reverse-append}
use Rattle.ar_value.specs.Kind.{Kind, nil, shaped, scalar_shape}
use Rattle.ar_value.specs.Shape.{bool, whole, decimal, text, list, object, optional}
use Rattle.ar_value.specs.declared.operator.Scalar.{Scalar}
use Rattle.ar_safety.specs.Arrivals.{Around, innermost_shape}
use Rattle.ar_safety.specs.Budget.{most_on_top}
use Rattle.ar_safety.specs.Effects.{list_kind_left}
use Rattle.ar_verify.specs.Private.Stacks.{TakesScalar, first, most_in}

-- one more on top
pub on_top : {A B : Type 0} (f : A → B) (xs : List A) (x : A) → reverse (map f (xs ++ x ∷ [])) ≡ f x ∷ reverse (map f xs)
on_top f xs x = rw (map-append, reverse-append) refl

pub so_many : {A B : Type 0} (f : A → B) (xs : List A) → length (reverse (map f xs)) ≡ length xs
so_many f xs = length-reverse (map f xs) ∙ length-map xs f

-- ---- lists that are made of the scalars on top

one_taken : (scalar : Scalar) (max m : ℕ) (before after : List Kind) → TakesScalar scalar before after true → list_kind_left scalar max (suc m) before ≡ list_kind_left scalar max m after
one_taken scalar max m [] after is = absurd cc
one_taken scalar max m (kind ∷ before) after is = rw (← is.0, is.1) refl

one_refused : (scalar : Scalar) (max m : ℕ) (before after : List Kind) → TakesScalar scalar before after false → list_kind_left scalar max (suc m) before ≡ None
one_refused scalar max m [] after is = refl
one_refused scalar max m (kind ∷ before) after is = rw (← is.0) refl

-- one scalar more
pub scalar_taken : (scalar : Scalar) (n k : ℕ) (before after : List Kind) (is_taken : Bool) → k < n → TakesScalar scalar before after is_taken → is_taken ≡ true
    → list_kind_left scalar n (n - k) before ≡ list_kind_left scalar n (n - (k + 1)) after
scalar_taken scalar n k before after is_taken within takes is =
    let so_many : n - k ≡ suc (n - (k + 1)) = omega arith in rw so_many (one_taken scalar n (n - (k + 1)) before after (rw is at takes))

pub scalar_refused : (scalar : Scalar) (n k : ℕ) (before after : List Kind) (is_taken : Bool) → k < n → TakesScalar scalar before after is_taken → is_taken ≡ false → list_kind_left scalar n (n - k) before ≡ None
scalar_refused scalar n k before after is_taken within takes is =
    let so_many : n - k ≡ suc (n - (k + 1)) = omega arith in rw so_many (one_refused scalar n (n - (k + 1)) before after (rw is at takes))

pub all_taken : (scalar : Scalar) (n k : ℕ) (kinds : List Kind) → n ≤ k → list_kind_left scalar n (n - k) kinds ≡ Some (shaped (list (scalar_shape scalar) n) ∷ kinds)
all_taken scalar n k kinds past = let none_left : n - k ≡ 0 = omega arith in rw none_left refl

-- ---- the last item

last_first : {A : Type 0} (x : A) (xs onto : List A) → first (reverse_aux (x ∷ xs) onto) ≡ slice_get (x ∷ xs) (length xs)
last_first x [] onto = refl
last_first x (y ∷ ys) onto = last_first y ys (x ∷ onto)

less_one : (n : ℕ) → suc n - 1 ≡ n
less_one n = omega arith

first_reverse : {A : Type 0} (xs : List A) → first (reverse xs) ≡ slice_get xs (length xs - 1)
first_reverse [] = refl
first_reverse (x ∷ xs) = last_first x xs [] ∙ ap (slice_get (x ∷ xs)) (sym (less_one (length xs)))

-- what is on top is the last
first_is_last : {A B : Type 0} (f : A → B) (xs : List A) → first (reverse (map f xs)) ≡ option_map f (slice_get xs (length xs - 1))
first_is_last f xs = first_reverse (map f xs) ∙ slice_get-map f xs (length (map f xs) - 1) ∙ ap (λ n. option_map f (slice_get xs (n - 1))) (length-map xs f)

item_is_first : (loops : List Around) → innermost_shape loops ≡ option_map (λ loop. loop.item) (first loops)
item_is_first [] = refl
item_is_first (loop ∷ outer) = refl

-- the item of the innermost loop is that of the last
pub last_item : {A : Type 0} (f : A → Around) (xs : List A) → innermost_shape (reverse (map f xs)) ≡ option_map (λ loop. loop.item) (option_map f (slice_get xs (length xs - 1)))
last_item f xs = item_is_first (reverse (map f xs)) ∙ ap (option_map (λ loop. loop.item)) (first_is_last f xs)

-- ---- a list on top

most_is : (kinds : List Kind) → most_on_top kinds ≡ most_in (first kinds)
most_is [] = refl
most_is (nil ∷ kinds) = refl
most_is (shaped bool ∷ kinds) = refl
most_is (shaped whole ∷ kinds) = refl
most_is (shaped decimal ∷ kinds) = refl
most_is (shaped text ∷ kinds) = refl
most_is (shaped (list shape most) ∷ kinds) = refl
most_is (shaped (object inside) ∷ kinds) = refl
most_is (shaped (optional shape) ∷ kinds) = refl

pub most_in_list : {A : Type 0} (f : A → Kind) (xs : List A) → most_on_top (reverse (map f xs)) ≡ most_in (option_map f (slice_get xs (length xs - 1)))
most_in_list f xs = most_is (reverse (map f xs)) ∙ ap most_in (first_is_last f xs)
