-- The entries of a history: what each is to its run, and the effect that it has.
use Rattle.std.proofs.Common.{◌≡◌, ℕ, Option, Some, None, List, [], ◌∷◌, ◌++◌, map, refl, ap, ◌∙◌, sym, append-nil, append_assoc, subst}
use Rattle.std.specs.Prelude.{option_and_then, option_map, slice_get}
use Rattle.std.specs.List.{AllByRecursion}
use Rattle.std.proofs.lemmas.List.{map_push}
use Rattle.ar_limits.proofs.PrefixLemmas.{push_induction}
use Rattle.ar_limits.proofs.RunLemmas.{effects-push}
use Rattle.ar_limits.specs.Run.{effect_of, effects}
use Rattle.ar_limits.specs.declared.event.Event.{Event}
use Rattle.ar_limits.specs.declared.limits.Limits.{Limits}
use Rattle.ar_bundle.specs.Bundle.{Bundle, event_of, finding_at, found_of, happened, happened_as}
use Rattle.ar_bundle.specs.Lawful.{IsFound, IsHistory}
use Rattle.ar_bundle.specs.declared.bundle.EventPart.{EventPart}
use Rattle.ar_bundle.specs.declared.finding.Finding.{Finding}
use Rattle.ar_bundle.specs.declared.history.Entry.{Entry}
use Rattle.ar_progress.proofs.Fronts.{events_in-push}
use Rattle.ar_progress.specs.Laws.{events_in}

-- ---- lists

same_front : {A : Type 0} (xs ys : List A) (x y : A) → xs ++ x ∷ [] ≡ ys ++ y ∷ [] → (xs ≡ ys) × (x ≡ y)
same_front [] [] x y is = let same : x ≡ y = cc in (refl, same)
same_front [] (b ∷ []) x y is = absurd cc
same_front [] (b ∷ c ∷ ys) x y is = absurd cc
same_front (a ∷ []) [] x y is = absurd cc
same_front (a ∷ c ∷ xs) [] x y is = absurd cc
same_front (a ∷ xs) (b ∷ ys) x y is =
    let heads : a ≡ b = cc in
    let tails : xs ++ x ∷ [] ≡ ys ++ y ∷ [] = cc in
    let rest = same_front xs ys x y tails in
    let fronts : (let list : List _ = a ∷ xs in list) ≡ b ∷ ys = ap (λ first. first ∷ xs) heads ∙ ap (λ rest. b ∷ rest) rest.0 in
    (fronts, rest.1)

all_front : {A : Type 0} (P : A → Type 0) (xs : List A) (x : A) → AllByRecursion P (xs ++ x ∷ []) → AllByRecursion P xs × P x
all_front P [] x all = (tt, all.0)
all_front P (first ∷ xs) x all = let rest = all_front P xs x all.1 in ((all.0, rest.0), rest.1)

-- ---- what an entry is

part_happens : (bundle : Bundle) (part : EventPart) (finding : Option Finding) (found : Finding) → finding ≡ Some found → (e : Event) × (option_map (event_of part.what) finding ≡ Some e)
part_happens bundle part None found is = absurd cc
part_happens bundle part (Some other) found is = (event_of part.what other, refl)

pub happens : (bundle : Bundle) (number : ℕ) (found : Finding) → finding_at bundle number ≡ Some found → (e : Event) × (happened bundle number ≡ Some e)
happens bundle number found is = by_part (slice_get bundle.entries number) is where
  by_part : (part : Option EventPart) → option_and_then (λ (part : EventPart). found_of bundle part.run part.what) part ≡ Some found → (e : Event) × (option_and_then (happened_as bundle) part ≡ Some e)
  by_part None is = absurd cc
  by_part (Some part) is = part_happens bundle part (found_of bundle part.run part.what) found is

-- the last entry of a history, after the entries before
pub record IsLast (bundle : Bundle) (run : ℕ) (limits : List Limits) (earlier : List Entry) (entry : Entry) : Type 0 where
  pub before : IsHistory bundle run limits earlier
  pub e : Event
  pub happens : happened bundle entry.number ≡ Some e
  pub events : events_in bundle (earlier ++ entry ∷ []) ≡ events_in bundle earlier ++ e ∷ []
  pub effect : entry.effect ≡ effect_of limits (events_in bundle earlier) e

pub last_is : (bundle : Bundle) (run : ℕ) (limits : List Limits) (earlier : List Entry) (entry : Entry) → IsHistory bundle run limits (earlier ++ entry ∷ []) → IsLast bundle run limits earlier entry
last_is bundle run limits earlier entry is =
    let found = all_front (IsFound bundle run) earlier entry is.found in
    let happening = happens bundle entry.number entry.finding found.1.finding in
    let events = events_in-push bundle earlier entry happening.0 happening.1 in
    let all : map (λ (entry : Entry). entry.effect) earlier ++ entry.effect ∷ [] ≡ effects limits (events_in bundle earlier) ++ effect_of limits (events_in bundle earlier) happening.0 ∷ [] =
    sym (map_push (λ (entry : Entry). entry.effect) earlier entry) ∙ (is.effects ∙ (ap (effects limits) events ∙ effects-push limits (events_in bundle earlier) happening.0)) in
    let parts = same_front _ _ _ _ all in
    record {
      before = record { found = found.0; effects = parts.0 };
      e = happening.0;
      happens = happening.1;
      events = events;
      effect = parts.1;
    }

-- a front of a history is one
pub history_front : (bundle : Bundle) (run : ℕ) (limits : List Limits) (front : List Entry) → (back : List Entry) → IsHistory bundle run limits (front ++ back) → IsHistory bundle run limits front
history_front bundle run limits front = push_induction Claim empty more where
  Claim : List Entry → Type 0
  Claim back = IsHistory bundle run limits (front ++ back) → IsHistory bundle run limits front

  empty : Claim []
  empty is = subst (IsHistory bundle run limits) (append-nil front) is

  more : (back : List Entry) (entry : Entry) → Claim back → Claim (back ++ entry ∷ [])
  more back entry so_far is = so_far (last_is bundle run limits (front ++ back) entry (subst (IsHistory bundle run limits) (sym (append_assoc front back (entry ∷ []))) is)).before

-- an entry inside a history
pub entry_is : (bundle : Bundle) (run : ℕ) (limits : List Limits) (earlier : List Entry) (entry : Entry) (later : List Entry) → IsHistory bundle run limits (earlier ++ entry ∷ later) → IsLast bundle run limits earlier entry
entry_is bundle run limits earlier entry later is =
    last_is bundle run limits earlier entry (history_front bundle run limits (earlier ++ entry ∷ []) later (subst (IsHistory bundle run limits) (sym (append_assoc earlier (entry ∷ []) later)) is))
