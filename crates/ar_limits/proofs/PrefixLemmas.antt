-- What one item more does to the prefixes of a list, and to the phase that they decide.
use Rattle.std.proofs.Common.{◌≡◌, Bool, true, false, cond, Option, Some, None, ◌⊎◌, inl, inr, List, [], ◌∷◌, ◌++◌, map, find, is_some, unwrap_or, refl, ap, ◌∙◌, sym, append-nil, append_assoc}
use Rattle.std.specs.Option.{option_or}
use Rattle.std.proofs.lemmas.List.{map_push}
use Rattle.std.proofs.lemmas.List.Folds.{find-append}
use Rattle.ar_limits.specs.declared.phase.Phase.{Phase}
use Rattle.ar_limits.specs.declared.phase.Phase.TheVariants as phase
use Rattle.ar_limits.specs.Prefixes.{prefixes, deciding_prefix, phase_by, open_phase, with_earlier}
use Rattle.ar_limits.specs.Metric.{is_complete}

-- ---- Options

pub option_cases : {A : Type 0} (o : Option A) → (o ≡ None) ⊎ ((x : A) × (o ≡ Some x))
option_cases None = inl refl
option_cases (Some x) = inr (x, refl)

pub value_of_some : {A : Type 0} (o : Option A) → is_some o ≡ true → (x : A) × (o ≡ Some x)
value_of_some None h = cc
value_of_some (Some x) h = (x, refl)

pub none_of : {A : Type 0} (o : Option A) → is_some o ≡ false → o ≡ None
none_of None h = refl
none_of (Some x) h = cc

pub option_or-none : {A : Type 0} (o r : Option A) → option_or o r ≡ None → o ≡ None
option_or-none None r h = refl
option_or-none (Some x) r h = cc

-- ---- Lists

-- what holds of the empty list, and of one item more, holds of every list
pub push_induction : {A : Type 0} (P : List A → Type 0) → P []
    → ((xs : List A) (x : A) → P xs → P (xs ++ x ∷ [])) → (xs : List A) → P xs
push_induction {A} P empty more xs = onwards [] empty xs where
  onwards : (front : List A) → P front → (back : List A) → P (front ++ back)
  onwards front h [] = rw append-nil h
  onwards front h (x ∷ back) = rw (← append_assoc front (x ∷ []) back) (onwards (front ++ x ∷ []) (more front x h) back)

pub prefixes-push : {A : Type 0} (xs : List A) (x : A)
    → prefixes (xs ++ x ∷ []) ≡ prefixes xs ++ (xs ++ x ∷ []) ∷ []
unfolding prefixes
prefixes-push [] x = refl
prefixes-push (y ∷ ys) x = ap (λ ps. [] ∷ map (λ p. y ∷ p) ps) (prefixes-push ys x) ∙ ap (λ ps. [] ∷ ps) (map_push (λ p. y ∷ p) (prefixes ys) (ys ++ x ∷ []))

pub with_earlier-push : {A : Type 0} (xs : List A) (x : A)
    → with_earlier (xs ++ x ∷ []) ≡ with_earlier xs ++ (xs, x) ∷ []
unfolding with_earlier
with_earlier-push [] x = refl
with_earlier-push (y ∷ ys) x = ap (λ ps. ([], y) ∷ map (λ p. (y ∷ p.0, p.1)) ps) (with_earlier-push ys x) ∙ ap (λ ps. ([], y) ∷ ps) (map_push (λ p. (y ∷ p.0, p.1)) (with_earlier ys) (ys, x))

pub find-passes : {A : Type 0} (test : A → Bool) (xs : List A) (x : A) → find test xs ≡ Some x → test x ≡ true
find-passes test [] x h = cc
find-passes {A} test (y ∷ ys) x h = at (test y) refl h (find-passes test ys x) where
  at : (b : Bool) → test y ≡ b → cond b (Some y) (find test ys) ≡ Some x
      → (find test ys ≡ Some x → test x ≡ true) → test x ≡ true
  at true e found rest = let same : y ≡ x = cc in rw (← same) e
  at false e found rest = rest found

find-map : {A B : Type 0} (test : B → Bool) (g : A → B) (xs : List A) → find test (map g xs) ≡ None
    → find (λ x. test (g x)) xs ≡ None
find-map test g [] h = refl
find-map test g (x ∷ xs) h = at (test (g x)) h (find-map test g xs) where
  at : (b : Bool) → cond b (Some (g x)) (find test (map g xs)) ≡ None
      → (find test (map g xs) ≡ None → find (λ y. test (g y)) xs ≡ None)
      → cond b (Some x) (find (λ y. test (g y)) xs) ≡ None
  at true e rest = cc
  at false e rest = rest e

-- where no prefix passes, the whole list does not
whole_fails : {A : Type 0} (test : List A → Bool) (xs : List A) → find test (prefixes xs) ≡ None
    → test xs ≡ false
unfolding prefixes
whole_fails {A} test [] h = at (test []) h where
  at : (b : Bool) → cond b (let p : Option (List A) = Some [] in p) None ≡ None → b ≡ false
  at true e = cc
  at false e = refl
whole_fails {A} test (x ∷ xs) h = whole_fails (λ p. test (x ∷ p)) xs (find-map test (λ p. x ∷ p) (prefixes xs) (at (test []) h)) where
  at : (b : Bool) → cond b (let p : Option (List A) = Some [] in p) (find test (map (λ p. x ∷ p) (prefixes xs))) ≡ None → find test (map (λ p. x ∷ p) (prefixes xs)) ≡ None
  at true e = cc
  at false e = e

-- ---- The shortest deciding prefix

pub deciding_prefix-push : {A : Type 0} (f : List A → Option Phase) (xs : List A) (x : A)
    → deciding_prefix f (xs ++ x ∷ []) ≡ option_or (deciding_prefix f xs) (cond (is_some (f (xs ++ x ∷ []))) (Some (xs ++ x ∷ [])) None)
unfolding deciding_prefix
deciding_prefix-push f xs x = ap (find (λ p. is_some (f p))) (prefixes-push xs x) ∙ find-append (λ p. is_some (f p)) (prefixes xs) ((xs ++ x ∷ []) ∷ [])

pub deciding_prefix-decides : {A : Type 0} (f : List A → Option Phase) (xs p : List A)
    → deciding_prefix f xs ≡ Some p → is_some (f p) ≡ true
unfolding deciding_prefix
deciding_prefix-decides f xs p h = find-passes (λ q. is_some (f q)) (prefixes xs) p h

pub deciding_prefix-nil : {A : Type 0} (f : List A → Option Phase) → f [] ≡ None → deciding_prefix f [] ≡ None
unfolding deciding_prefix prefixes
deciding_prefix-nil f h = rw h refl

pub deciding_prefix-whole : {A : Type 0} (f : List A → Option Phase) (xs : List A)
    → deciding_prefix f xs ≡ None → f xs ≡ None
unfolding deciding_prefix
deciding_prefix-whole f xs h = none_of (f xs) (whole_fails (λ p. is_some (f p)) xs h)

-- ---- The phase

-- every phase that is decided is complete
pub record DecidesComplete {A : Type 0} (f : List A → Option Phase) : Type 0 where
  pub complete : (xs : List A) (q : Phase) → f xs ≡ Some q → is_complete q ≡ true

pub open_phase-push : {A : Type 0} (xs : List A) (x : A) → open_phase (xs ++ x ∷ []) ≡ phase.Running
open_phase-push [] x = refl
open_phase-push (y ∷ ys) x = refl

pub is_complete-open_phase : {A : Type 0} (xs : List A) → is_complete (open_phase xs) ≡ false
is_complete-open_phase [] = refl
is_complete-open_phase (y ∷ ys) = refl

pub phase_by-open : {A : Type 0} (f : List A → Option Phase) (xs : List A) → deciding_prefix f xs ≡ None
    → phase_by f xs ≡ open_phase xs
unfolding phase_by
phase_by-open f xs h = rw h refl

pub phase_by-decided : {A : Type 0} (f : List A → Option Phase) (xs p : List A) (q : Phase)
    → deciding_prefix f xs ≡ Some p → f p ≡ Some q → phase_by f xs ≡ q
unfolding phase_by
phase_by-decided f xs p q h e = rw (h, e) refl

pub is_complete-phase_by : {A : Type 0} (f : List A → Option Phase) (xs : List A) → DecidesComplete f
    → is_complete (phase_by f xs) ≡ is_some (deciding_prefix f xs)
is_complete-phase_by f xs h =
    elim (option_cases (deciding_prefix f xs)) [
      | inl none ↦ rw (phase_by-open f xs none, none) (is_complete-open_phase xs)
      | inr found ↦
          let decided = value_of_some (f found.0) (deciding_prefix-decides f xs found.0 found.1) in
          rw (phase_by-decided f xs found.0 decided.0 found.1 decided.1, found.1) (h.complete found.0 decided.0 decided.1)
    ]

kept_phase : {A : Type 0} (f : List A → Option Phase) (xs : List A) (x : A) (p : List A) (q : Phase)
    → deciding_prefix f xs ≡ Some p → f p ≡ Some q → phase_by f (xs ++ x ∷ []) ≡ phase_by f xs
kept_phase f xs x p q found decided =
    let kept : deciding_prefix f (xs ++ x ∷ []) ≡ Some p = rw (deciding_prefix-push f xs x, found) refl in
    phase_by-decided f (xs ++ x ∷ []) p q kept decided ∙ sym (phase_by-decided f xs p q found decided)

-- a phase that is decided stays
pub phase_by-push_complete : {A : Type 0} (f : List A → Option Phase) (xs : List A) (x : A)
    → DecidesComplete f → is_complete (phase_by f xs) ≡ true → phase_by f (xs ++ x ∷ []) ≡ phase_by f xs
phase_by-push_complete f xs x h complete =
    let found = value_of_some (deciding_prefix f xs) (sym (is_complete-phase_by f xs h) ∙ complete) in
    let decided = value_of_some (f found.0) (deciding_prefix-decides f xs found.0 found.1) in
    kept_phase f xs x found.0 decided.0 found.1 decided.1

-- where nothing was decided, the whole list decides, or nothing does
pub phase_by-push_open : {A : Type 0} (f : List A → Option Phase) (xs : List A) (x : A)
    → deciding_prefix f xs ≡ None → phase_by f (xs ++ x ∷ []) ≡ unwrap_or (f (xs ++ x ∷ [])) phase.Running
phase_by-push_open f xs x none =
    let whole = deciding_prefix-push f xs x in
    elim (option_cases (f (xs ++ x ∷ []))) [
      | inl undecided ↦
          let still : deciding_prefix f (xs ++ x ∷ []) ≡ None = rw (whole, none, undecided) refl in
          rw (phase_by-open f (xs ++ x ∷ []) still, undecided) (open_phase-push xs x)
      | inr decided ↦
          let now : deciding_prefix f (xs ++ x ∷ []) ≡ Some (xs ++ x ∷ []) = rw (whole, none, decided.1) refl in
          rw (phase_by-decided f (xs ++ x ∷ []) (xs ++ x ∷ []) decided.0 now decided.1, decided.1) refl
    ]
