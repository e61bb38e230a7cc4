-- What holds of each thing that a loop went over, and what it wrote of each.
use Rattle.std.proofs.Common.{◌≡◌, ℕ, ◌+◌, ◌<◌, ◌≤◌, List, [], ◌∷◌, ◌++◌, length, map, take, get_or, sym, subst, ap, ◌∙◌, add-one, append_assoc}
use Rattle.std.specs.List.{AllByRecursion, flat_map}
use Rattle.std.proofs.Math.Seq.{take-suc}
use Rattle.std.proofs.lemmas.List.{flat_map_more, map_more, take_all}

after_all : {A : Type 0} (P : A → Type 0) (before : List A) (x : A) → AllByRecursion P before → P x → AllByRecursion P (before ++ x ∷ [])
after_all P [] x all holds = (holds, tt)
after_all P (first ∷ before) x all holds = (all.0, after_all P before x all.1 holds)

-- ---- of the things themselves

pub of_none : {A : Type 0} (P : A → Type 0) (xs : List A) → AllByRecursion P (take 0 xs)
of_none P xs = tt

take_more : {A : Type 0} (xs : List A) (i : ℕ) (d : A) → i < length xs → take (i + 1) xs ≡ take i xs ++ get_or xs i d ∷ []
take_more xs i d within = rw (add-one i) (take-suc xs i d within)

pub of_one_more : {A : Type 0} (P : A → Type 0) (xs : List A) (i : ℕ) (d : A) → i < length xs → AllByRecursion P (take i xs) → P (get_or xs i d) → AllByRecursion P (take (i + 1) xs)
of_one_more P xs i d within before holds = subst (λ ys. AllByRecursion P ys) (sym (take_more xs i d within)) (after_all P (take i xs) (get_or xs i d) before holds)

pub of_all : {A : Type 0} (P : A → Type 0) (xs : List A) (i : ℕ) → length xs ≤ i → AllByRecursion P (take i xs) → AllByRecursion P xs
of_all P xs i past before = subst (λ ys. AllByRecursion P ys) (take_all i xs past) before

pub written_more : {A : Type 0} (f : A → List ℕ) (xs : List A) (i : ℕ) (d : A) (front out more : List ℕ) → i < length xs → out ≡ front ++ flat_map f (take i xs) → more ≡ out ++ f (get_or xs i d)
    → more ≡ front ++ flat_map f (take (i + 1) xs)
written_more f xs i d front out more within so_far one = rw (take_more xs i d within, one, so_far) (flat_map_more f front (take i xs) (get_or xs i d))

pub written_all : {A : Type 0} (f : A → List ℕ) (xs : List A) (i : ℕ) (front out : List ℕ) → length xs ≤ i → out ≡ front ++ flat_map f (take i xs) → out ≡ front ++ flat_map f xs
written_all f xs i front out past so_far = so_far ∙ ap (λ ys. front ++ flat_map f ys) (take_all i xs past)

-- ---- of what they are seen as

pub seen_none : {A B : Type 0} (P : B → Type 0) (f : A → B) (xs : List A) → AllByRecursion P (map f (take 0 xs))
seen_none P f xs = tt

pub seen_more : {A B : Type 0} (P : B → Type 0) (f : A → B) (xs : List A) (i : ℕ) (d : A) → i < length xs → AllByRecursion P (map f (take i xs)) → P (f (get_or xs i d))
    → AllByRecursion P (map f (take (i + 1) xs))
seen_more P f xs i d within before holds = subst (λ ys. AllByRecursion P ys) (sym (map_more f xs i d within)) (after_all P (map f (take i xs)) (f (get_or xs i d)) before holds)

pub seen_all : {A B : Type 0} (P : B → Type 0) (f : A → B) (xs : List A) (i : ℕ) → length xs ≤ i → AllByRecursion P (map f (take i xs)) → AllByRecursion P (map f xs)
seen_all P f xs i past before = subst (λ ys. AllByRecursion P (map f ys)) (take_all i xs past) before

-- after a head
pub seen_written_more : {A B : Type 0} (f : B → List ℕ) (g : A → B) (xs : List A) (i : ℕ) (d : A) (front head out more : List ℕ) → i < length xs
    → out ≡ front ++ (head ++ flat_map f (map g (take i xs))) → more ≡ out ++ f (g (get_or xs i d)) → more ≡ front ++ (head ++ flat_map f (map g (take (i + 1) xs)))
seen_written_more f g xs i d front head out more within so_far one =
    let before = map g (take i xs) in
    let x = g (get_or xs i d) in
    rw (map_more g xs i d within, one, so_far)
    (ap (λ l. l ++ f x) (sym (append_assoc front head (flat_map f before))) ∙ flat_map_more f (front ++ head) before x ∙ append_assoc front head (flat_map f (before ++ x ∷ [])))

pub seen_written_all : {A B : Type 0} (f : B → List ℕ) (g : A → B) (xs : List A) (i : ℕ) (front head out : List ℕ) → length xs ≤ i
    → out ≡ front ++ (head ++ flat_map f (map g (take i xs))) → out ≡ front ++ (head ++ flat_map f (map g xs))
seen_written_all f g xs i front head out past so_far = so_far ∙ ap (λ ys. front ++ (head ++ flat_map f (map g ys))) (take_all i xs past)
