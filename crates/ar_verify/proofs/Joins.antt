-- What lists of kinds have in common, kind by kind, from the top or from below.
use Rattle.std.proofs.Common.{◌≡◌, ◌≢◌, ℕ, suc, ◌+◌, ◌<◌, ◌≤◌, List, [], ◌∷◌, ◌++◌, length, map, drop, reverse, Option, Some, None, option_map, refl, sym, ap, ◌∙◌, add-one, append_assoc, drop-cons}
use Rattle.std.specs.Prelude.{option_and_then, slice_index_or}
use Rattle.std.proofs.Math.ListN.{drop_of_length-le}
use Rattle.std.proofs.lemmas.List.{append-nil, drop-map, length-map, map-append, reverse-append}
use Rattle.ar_value.specs.Kind.{Kind, merge}
use Rattle.ar_value.proofs.Merges.{merge_with_itself}
use Rattle.ar_safety.specs.Arrivals.{merged}

-- a kind with itself
pub merged_with_itself : (left right : Kind) → left ≡ right → Some left ≡ merge left right
merged_with_itself left right same = rw same (sym (merge_with_itself right))

-- what is left to merge, after what was merged, is all
abbrev pub After : List Kind → (lefts rights : List Kind) → Option (List Kind) → Type 0
After done lefts rights all = all ≡ option_map (λ rest. done ++ rest) (merged lefts rights)

-- ---- from below, one after the other

none_after : (kind : Option Kind) → option_and_then (λ kind. option_map (λ kinds. kind ∷ kinds) None) kind ≡ None
none_after (Some kind) = refl
none_after None = refl

unlike : (lefts rights : List Kind) → length lefts ≢ length rights → merged lefts rights ≡ None
unlike [] [] differ = absurd (differ refl)
unlike (left ∷ lefts) [] differ = refl
unlike [] (right ∷ rights) differ = refl
unlike (left ∷ lefts) (right ∷ rights) differ =
    ap (λ rest. option_and_then (λ kind. option_map (λ kinds. kind ∷ kinds) rest) (merge left right)) (unlike lefts rights (λ like. differ (ap suc like))) ∙ none_after (merge left right)

pub unlike_heights : {A B : Type 0} (f : A → Kind) (g : B → Kind) (xs : List A) (ys : List B) → length xs ≢ length ys → merged (map f xs) (map g ys) ≡ None
unlike_heights f g xs ys differ = unlike (map f xs) (map g ys) (λ like. differ (sym (length-map xs f) ∙ like ∙ length-map ys g))

-- the item at an index comes before those after it
first_left : {A : Type 0} (f : A → Kind) (xs : List A) (i : ℕ) (x : A) → i < length xs → x ≡ slice_index_or xs i x → drop i (map f xs) ≡ f x ∷ drop (i + 1) (map f xs)
first_left f xs i x within is =
    rw (add-one i) (drop-map f i xs ∙ ap (map f) (drop-cons xs i x within ∙ ap (λ y. y ∷ drop (suc i) xs) (sym is)) ∙ ap (λ rest. f x ∷ rest) (sym (drop-map f (suc i) xs)))

put_after : (done : List Kind) (kind : Kind) (rest : Option (List Kind)) → option_map (λ rest. done ++ rest) (option_map (λ kinds. kind ∷ kinds) rest) ≡ option_map (λ rest. (done ++ kind ∷ []) ++ rest) rest
put_after done kind (Some rest) = ap Some (sym (append_assoc done (kind ∷ []) rest))
put_after done kind None = refl

next_merged : (done lefts rights : List Kind) (left right kind : Kind) (all : Option (List Kind)) → Some kind ≡ merge left right → After done (left ∷ lefts) (right ∷ rights) all → After (done ++ kind ∷ []) lefts rights all
next_merged done lefts rights left right kind all is before =
    before ∙ ap (λ kind. option_map (λ rest. done ++ rest) (option_and_then (λ kind. option_map (λ kinds. kind ∷ kinds) (merged lefts rights)) kind)) (sym is) ∙ put_after done kind (merged lefts rights)

next_clashes : (done lefts rights : List Kind) (left right : Kind) (all : Option (List Kind)) → None ≡ merge left right → After done (left ∷ lefts) (right ∷ rights) all → all ≡ None
next_clashes done lefts rights left right all is before =
    before ∙ ap (λ kind. option_map (λ rest. done ++ rest) (option_and_then (λ kind. option_map (λ kinds. kind ∷ kinds) (merged lefts rights)) kind)) (sym is)

module _ {A B C : Type 0} (f : A → Kind) (g : B → Kind) (h : C → Kind) (xs : List A) (ys : List B) (all : Option (List Kind)) (i : ℕ) where
  pub one_merged : (done after : List C) (x : A) (y : B) (z : C) → i < length xs → i < length ys → x ≡ slice_index_or xs i x → y ≡ slice_index_or ys i y → Some (h z) ≡ merge (f x) (g y) → after ≡ done ++ z ∷ []
      → After (map h done) (drop i (map f xs)) (drop i (map g ys)) all → After (map h after) (drop (i + 1) (map f xs)) (drop (i + 1) (map g ys)) all
  one_merged done after x y z within also x_is y_is is are before =
      rw (are, map-append h done (z ∷ [])) (next_merged (map h done) (drop (i + 1) (map f xs)) (drop (i + 1) (map g ys)) (f x) (g y) (h z) all is
      (rw (first_left f xs i x within x_is, first_left g ys i y also y_is) at before))

  pub one_clashes : (done : List C) (x : A) (y : B) → i < length xs → i < length ys → x ≡ slice_index_or xs i x → y ≡ slice_index_or ys i y → None ≡ merge (f x) (g y)
      → After (map h done) (drop i (map f xs)) (drop i (map g ys)) all → all ≡ None
  one_clashes done x y within also x_is y_is is before =
      next_clashes (map h done) (drop (i + 1) (map f xs)) (drop (i + 1) (map g ys)) (f x) (g y) all is
      (rw (first_left f xs i x within x_is, first_left g ys i y also y_is) at before)

  none_left : {D : Type 0} (k : D → Kind) (zs : List D) → length zs ≤ i → drop i (map k zs) ≡ []
  none_left k zs past = drop_of_length-le (map k zs) (rw (length-map zs k) past)

  pub all_merged : (done : List C) → length xs ≤ i → length ys ≤ i → After (map h done) (drop i (map f xs)) (drop i (map g ys)) all → all ≡ Some (map h done)
  all_merged done past also before = (rw (none_left f xs past, none_left g ys also) at before) ∙ ap Some (append-nil (map h done))

-- ---- from the top

no_kinds_left : (xs : List Kind) (x : Kind) → merged (xs ++ x ∷ []) [] ≡ None
no_kinds_left [] x = refl
no_kinds_left (y ∷ xs) x = refl

no_kinds_right : (xs : List Kind) (x : Kind) → merged [] (xs ++ x ∷ []) ≡ None
no_kinds_right [] x = refl
no_kinds_right (y ∷ xs) x = refl

-- both lists, and a kind of each below them
abbrev With : Option Kind → Option (List Kind) → Option (List Kind)
With kind kinds = option_and_then (λ kinds. option_map (λ kind. kinds ++ kind ∷ []) kind) kinds

one_below : (kind : Option Kind) → option_and_then (λ kind. option_map (λ kinds. kind ∷ kinds) (Some [])) kind ≡ With kind (Some [])
one_below (Some kind) = refl
one_below None = refl

none_below : (kind : Option Kind) → With kind None ≡ None
none_below kind = refl

first_and_below : (first below : Option Kind) (kinds : Option (List Kind)) → option_and_then (λ first. option_map (λ kinds. first ∷ kinds) (With below kinds)) first ≡ With below (option_and_then (λ first. option_map (λ kinds. first ∷ kinds) kinds) first)
first_and_below (Some first) (Some below) (Some kinds) = refl
first_and_below (Some first) None (Some kinds) = refl
first_and_below (Some first) below None = refl
first_and_below None below kinds = refl

below_both : (xs ys : List Kind) (x y : Kind) → merged (xs ++ x ∷ []) (ys ++ y ∷ []) ≡ With (merge x y) (merged xs ys)
below_both [] [] x y = one_below (merge x y)
below_both (a ∷ xs) [] x y = ap (λ rest. option_and_then (λ kind. option_map (λ kinds. kind ∷ kinds) rest) (merge a y)) (no_kinds_left xs x) ∙ none_after (merge a y)
below_both [] (b ∷ ys) x y = ap (λ rest. option_and_then (λ kind. option_map (λ kinds. kind ∷ kinds) rest) (merge x b)) (no_kinds_right ys y) ∙ none_after (merge x b)
below_both (a ∷ xs) (b ∷ ys) x y =
    ap (λ rest. option_and_then (λ kind. option_map (λ kinds. kind ∷ kinds) rest) (merge a b)) (below_both xs ys x y) ∙ first_and_below (merge a b) (merge x y) (merged xs ys)

turned : (x : Kind) (xs : List Kind) → reverse (x ∷ xs) ≡ reverse xs ++ x ∷ []
turned x xs = reverse-append (x ∷ []) xs

turn_both : (first : Option Kind) (kinds : Option (List Kind)) → With first (option_map reverse kinds) ≡ option_map reverse (option_and_then (λ first. option_map (λ kinds. first ∷ kinds) kinds) first)
turn_both (Some first) (Some kinds) = ap Some (sym (turned first kinds))
turn_both (Some first) None = refl
turn_both None (Some kinds) = refl
turn_both None None = refl

reversed : (xs ys : List Kind) → merged (reverse xs) (reverse ys) ≡ option_map reverse (merged xs ys)
reversed [] [] = refl
reversed (x ∷ xs) [] = rw (turned x xs) (no_kinds_left (reverse xs) x)
reversed [] (y ∷ ys) = rw (turned y ys) (no_kinds_right (reverse ys) y)
reversed (x ∷ xs) (y ∷ ys) =
    rw (turned x xs, turned y ys) (below_both (reverse xs) (reverse ys) x y ∙ ap (With (merge x y)) (reversed xs ys) ∙ turn_both (merge x y) (merged xs ys))

pub merged_from_top : (xs ys : List Kind) (kinds : Option (List Kind)) → kinds ≡ merged xs ys → merged (reverse xs) (reverse ys) ≡ option_map reverse kinds
merged_from_top xs ys kinds is = reversed xs ys ∙ ap (option_map reverse) (sym is)
