-- A worker's pass, and what is named at its desk.
use Rattle.std.proofs.Common.{◌≡◌, ℕ, List, [], ◌∷◌, ◌++◌, sym, ◌∙◌, ap, arith}
use Rattle.ar_queue.specs.Rule.{after_take}
use Rattle.ar_queue.specs.Workers.{AreNamed, IsNamed, working}
use Rattle.ar_queue.specs.declared.queue.Item.TheVariants.{Number}
use Rattle.ar_queue.specs.declared.queue.View.{View}
use Rattle.ar_bundle.proofs.HistoryLemmas.{times_push}

pub taken_next : (number : ℕ) (taken before after : List ℕ) → AreNamed taken before → IsNamed number before after → AreNamed (taken ++ number ∷ []) after
taken_next number taken before after are more other =
    let was = are other in
    let one = more other in
    let pushed = times_push other number taken in
    omega arith

pub view_next : (before after : View) (number : ℕ) → before ≡ working before.taken → after ≡ after_take before (Number number) → (after ≡ working after.taken) × (after.taken ≡ before.taken ++ number ∷ [])
view_next before after number is taken =
    let more : after.taken ≡ before.taken ++ number ∷ [] = ap (λ (view : View). view.taken) taken in
    let all : after ≡ working (before.taken ++ number ∷ []) = taken ∙ ap (λ (view : View). after_take view (Number number)) is in
    (all ∙ ap working (sym more), more)
