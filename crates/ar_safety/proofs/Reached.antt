-- Code in which the passes 1 to 5 found nothing, index by index: what arrives there, and that what is sent on arrives.
use Rattle.std.proofs.Common.{◌≡◌, ◌<◌, ◌≤◌, ℕ, zero, suc, ◌+◌, ◌-◌, Bool, true, false, List, [], ◌∷◌, ◌++◌, length, map, Option, Some, None, Result, Ok, Err, refl, sym, ap, subst, inl, inr, ◌∙◌, arith}
use Rattle.std.specs.Prelude.{if◌then◌else◌, slice_get}
use Rattle.std.specs.List.{AllByRecursion}
use Rattle.std.proofs.lemmas.Bool.Decides.{leb_tells}
use Rattle.ar_value.specs.Kind.{Kind, shaped}
use Rattle.ar_value.specs.Shape.{Shape, list}
use Rattle.ar_value.specs.Shape as shapes
use Rattle.ar_value.specs.declared.operator.Predicate.{Predicate}
use Rattle.ar_op.specs.Code.{Code}
use Rattle.ar_op.specs.declared.op.Op.{Op}
use Rattle.ar_op.specs.declared.op.Jump.TheVariants.{And, Or, Branch, Always}
use Rattle.ar_op.specs.declared.op.Op.TheVariants.{Jump, Enter, Step, Return}
use Rattle.ar_safety.specs.Arrivals.{Around, Operands, Sent, all_sent, answer_kind, arrival, arrived, loop_ended, innermost_shape, operands, passed_on, sent, sent_to, to_next}
use Rattle.ar_safety.specs.Budget.{JumpsTo}
use Rattle.ar_safety.specs.Effects.{kinds_left}
use Rattle.ar_safety.specs.Indices.{all_pass, has_ops, loops_around, is_return, names_well, nests_well, indices_pass}
use Rattle.ar_safety.specs.Verdict.{passed}
use Rattle.ar_safety.specs.declared.error.Cause.{Cause}
use Rattle.ar_safety.specs.declared.error.Reason.{Reason}
use Rattle.ar_safety.proofs.Arriving.{Room, all_both, all_more, all_split, arrives, of_index, to_index}
use Rattle.ar_safety.proofs.Entries.{nth_past}
use Rattle.ar_safety.proofs.Nesting.{step_pairs, IsNoLoop, begins, after_step, innermost_at_step, enter_pairs, passes_each, same_target, is_below, stays_around}
use Rattle.ar_safety.proofs.Passing.{Answers, Passed, all_hold, Sends, bound, ends, enters, proceeds_next, on_top, passed_at, same_sent}

-- ---- what the passes found nothing in

pub record Clean (code : Code) (shape : Shape) (sents : List Sent) : Type 0 where
  pub paired : all_pass (names_well code.ops) 0 code.ops ≡ Ok tt
  pub nested : all_pass (nests_well code.ops) 0 code.ops ≡ Ok tt
  pub returns : is_return (slice_get code.ops (length code.ops - 1)) ≡ true
  pub all : all_sent code shape ≡ Ok sents

abbrev found_or : Bool → Cause → Result (Unit {0}) Cause
found_or test cause = if test then Ok tt else Err cause

ends_well : (test : Bool) (cause : Cause) → found_or test cause ≡ Ok tt → test ≡ true
ends_well true cause h = refl
ends_well false cause h = absurd cc

pub clean : (code : Code) (shape : Shape) (sents : List Sent) → passed code shape ≡ Ok sents → Clean code shape sents
clean code shape sents h =
    let all = bound (indices_pass code.ops) _ sents h in
    let first = bound (has_ops code.ops) _ all.0 all.1 in
    let second = bound (all_pass (names_well code.ops) 0 code.ops) _ all.0 first.2 in
    let third = bound (all_pass (nests_well code.ops) 0 code.ops) _ all.0 second.2 in
    record { paired = second.1; nested = third.1; returns = ends_well (is_return (slice_get code.ops (length code.ops - 1))) _ third.2; all = all.2 }

-- ---- loops around an index

-- the loop over the list on top
abbrev pub over_list : List Kind → Around
over_list (shaped (list item most) ∷ below) = record { item = item; most = most; below = below }
over_list kinds = record { item = shapes.bool; most = 0; below = [] }

abbrev pub loop_over : Result Operands Reason → Around
loop_over (Ok had) = over_list had.kinds
loop_over (Err reason) = record { item = shapes.bool; most = 0; below = [] }

same_tail : {A : Type 0} (x y : A) (xs ys : List A) → (x ∷ xs) ≡ (y ∷ ys) → xs ≡ ys
same_tail x y xs ys h = cc

-- no Return
abbrev pub ProceedsFurther : Op → Type 0
ProceedsFurther Return = ⊥
ProceedsFurther op = Unit {0}

no_return : (op : Op) → is_return (Some op) ≡ true → ProceedsFurther op → ⊥
no_return Return h further = further
no_return op h further = absurd cc

pub nth_there : {A : Type 0} (xs : List A) (n : ℕ) → n < length xs → (x : A) × (slice_get xs n ≡ Some x)
nth_there [] n below = absurd (omega arith)
nth_there (x ∷ xs) zero below = (x, refl)
nth_there (x ∷ xs) (suc n) below = nth_there xs n (omega arith)

all_of : {A : Type 0} (P : A → Type 0) (xs : List A) → ((x : A) → P x) → AllByRecursion P xs
all_of P [] each = tt
all_of P (x ∷ xs) each = (each x, all_of P xs each)

all_each : {A B : Type 0} (P : A → B → Type 0) (xs : List B) → ((a : A) → AllByRecursion (P a) xs) → AllByRecursion (λ x. (a : A) → P a x) xs
all_each P [] each = tt
all_each P (x ∷ xs) each = (λ a. (each a).0, all_each P xs (λ a. (each a).1))

module _ (code : Code) (shape : Shape) (sents : List Sent) (is : Clean code shape sents) where
  abbrev pub At : (index : ℕ) → Op → Type 0
  At index op = slice_get code.ops index ≡ Some op

  pub pairs : (index : ℕ) (op : Op) → At index op → names_well code.ops index op ≡ None
  pairs index op there = passes_each (names_well code.ops) code.ops is.paired index op there

  pub nests : (index : ℕ) (op : Op) → At index op → nests_well code.ops index op ≡ None
  nests index op there = passes_each (nests_well code.ops) code.ops is.nested index op there

  pub each_passed : (index : ℕ) (op : Op) → At index op → Passed code shape code.ops sents index op
  each_passed index op there =
      let here : Passed code shape code.ops sents (index + 0) op = passed_at code shape code.ops 0 code.ops (sent 0 [] [] ∷ []) sents is.paired is.all index op there in
      let start : index + 0 ≡ index = omega arith in rw start at here

  -- the loops around an index, by what arrives at their Enters
  abbrev pub around : (enter : ℕ) → Around
  around enter = loop_over (arrival enter sents)

  abbrev pub loops_at : (index : ℕ) → List Around
  loops_at index = map around (loops_around code.ops index)

  no_end : (index : ℕ) (op : Op) → At index op → ProceedsFurther op → length code.ops ≤ suc index → ⊥
  no_end index op there further past =
      let below = is_below code.ops index op there in
      let same : length code.ops - 1 ≡ index = omega arith in
      let returns : is_return (slice_get code.ops index) ≡ true = rw same at is.returns in
      let return_there : is_return (Some op) ≡ true = rw there at returns in
      no_return op return_there further

  -- after an operation that is no Return comes another one
  pub not_last : (index : ℕ) (op : Op) → At index op → ProceedsFurther op → suc index < length code.ops
  not_last index op there further = elim (leb_tells (length code.ops) (suc index)) [
    | inl w ↦ absurd (no_end index op there further w.1)
    | inr w ↦ w.1
  ]

  -- ---- what is sent reaches indexes inside, in the loops that are around them

  -- inside the code, and in the loops around the index
  abbrev pub WellSent : Sent → Type 0
  WellSent one = (one.target < length code.ops) × (one.operands.loops ≡ loops_at one.target)

  -- of all that arrives from inside the same loops
  arrives_in : (index : ℕ) (had : Operands) (before : List Sent) → arrived (sent_to index before) ≡ Ok had → AllByRecursion WellSent before → had.loops ≡ loops_at index
  arrives_in index had before h all =
      let came = arrives (sent_to index before) had h in
      let well = of_index (λ one. one.loops ≡ loops_at index) index before (all_more WellSent (λ one. one.target ≡ index → one.operands.loops ≡ loops_at index) before (λ one well there. well.1 ∙ ap loops_at there) all) in
      sym came.loops ∙ (rw came.are at well).0

  no_first : length code.ops ≤ 0 → ⊥
  no_first past =
      let none : slice_get code.ops (length code.ops - 1) ≡ None = nth_past code.ops (length code.ops - 1) (omega arith) in
      let nothing : is_return None ≡ true = rw none at is.returns in
      absurd cc

  pub first_inside : 0 < length code.ops
  first_inside = elim (leb_tells (length code.ops) 0) [
    | inl w ↦ absurd (no_first w.1)
    | inr w ↦ w.1
  ]

  nested_below : (n enter step : ℕ) (predicate : Predicate) → enter < n → At enter (Enter predicate step) → nests_well code.ops enter (Enter predicate step) ≡ None
  nested_below n enter step predicate below there = nests enter (Enter predicate step) there

  pub jumps_well : (index target : ℕ) (op : Op) → JumpsTo op target → At index op → (index < target) × (target < length code.ops) × (loops_around code.ops index ≡ loops_around code.ops target)
  jumps_well index target op jumps there = same_target code.ops pairs index target op jumps there (nests index op there)

  pub around_next : (index : ℕ) (op : Op) → At index op → IsNoLoop op → loops_around code.ops (suc index) ≡ loops_around code.ops index
  around_next index op there plain = stays_around code.ops pairs index op there plain

  pub around_body : (index step : ℕ) (predicate : Predicate) → At index (Enter predicate step) → loops_around code.ops (suc index) ≡ index ∷ loops_around code.ops index
  around_body index step predicate there = begins code.ops pairs predicate index step there

  pub the_step : (index step : ℕ) (predicate : Predicate) → At index (Enter predicate step) → (index < step) × At step (Step predicate index)
  the_step index step predicate there = enter_pairs code.ops pairs predicate index step there

  pub the_enter : (index enter : ℕ) (predicate : Predicate) → At index (Step predicate enter) → (enter < index) × At enter (Enter predicate index)
  the_enter index enter predicate there = step_pairs code.ops pairs predicate index enter there

  pub around_step : (index enter : ℕ) (predicate : Predicate) → At index (Step predicate enter) → (loops_around code.ops index ≡ enter ∷ loops_around code.ops enter) × (loops_around code.ops (suc index) ≡ loops_around code.ops enter)
  around_step index enter predicate there =
      (innermost_at_step code.ops pairs index (nested_below index) predicate index enter there (omega arith), after_step code.ops pairs index (nested_below index) predicate index enter there (omega arith))

  pub around_after : (index step : ℕ) (predicate : Predicate) → At index (Enter predicate step) → loops_around code.ops (suc step) ≡ loops_around code.ops index
  around_after index step predicate there = (around_step step index predicate (the_step index step predicate there).1).1

  well_sent : (target : ℕ) (kinds : List Kind) (loops : List Around) (index : ℕ) → target < length code.ops → loops ≡ loops_at index → loops_around code.ops index ≡ loops_around code.ops target → WellSent (sent target kinds loops)
  well_sent target kinds loops index inside here same = (inside, here ∙ ap (map around) same)

  -- to the next index
  next_well : (index : ℕ) (op : Op) (kinds : List Kind) (loops : List Around) → At index op → IsNoLoop op → ProceedsFurther op → loops ≡ loops_at index → WellSent (sent (suc index) kinds loops)
  next_well index op kinds loops there plain further here = well_sent (suc index) kinds loops index (not_last index op there further) here (sym (around_next index op there plain))

  -- by a jump
  jump_well : (index target : ℕ) (op : Op) (kinds : List Kind) (loops : List Around) → At index op → JumpsTo op target → loops ≡ loops_at index → WellSent (sent target kinds loops)
  jump_well index target op kinds loops there jumps here = let jump = jumps_well index target op jumps there in well_sent target kinds loops index jump.1 here jump.2

  two_well : (first second : Sent) (more : List Sent) → Answers code shape (Ok (first ∷ second ∷ [])) more → WellSent first → WellSent second → AllByRecursion WellSent more
  two_well first second more h one other = rw (sym (same_sent code shape (first ∷ second ∷ []) more h)) (one, (other, tt))

  falls_well : (index : ℕ) (op : Op) (kinds : Option (List Kind)) (loops : List Around) (more : List Sent) → At index op → IsNoLoop op → ProceedsFurther op → loops ≡ loops_at index → to_next index loops kinds ≡ Ok more → AllByRecursion WellSent more
  falls_well index op given loops more there plain further here h = let next = proceeds_next index loops given more h in rw next.sent (next_well index op next.kinds loops there plain further here, tt)

  passed_well : (index : ℕ) (op : Op) (kinds : List Kind) (loops : List Around) (more : List Sent) → At index op → arrival index sents ≡ Ok (operands kinds loops) → loops ≡ loops_at index → passed_on code shape index op kinds loops ≡ Ok more → AllByRecursion WellSent more
  passed_well index (Jump And target) kinds loops more there came here h =
      let top = on_top kinds (λ taken. Ok (sent target kinds loops ∷ sent (suc index) taken loops ∷ [])) more h in
      two_well (sent target kinds loops) (sent (suc index) top.taken loops) more top.sent (jump_well index target (Jump And target) kinds loops there refl here) (next_well index (Jump And target) top.taken loops there tt tt here)
  passed_well index (Jump Or target) kinds loops more there came here h =
      let top = on_top kinds (λ taken. Ok (sent target kinds loops ∷ sent (suc index) taken loops ∷ [])) more h in
      two_well (sent target kinds loops) (sent (suc index) top.taken loops) more top.sent (jump_well index target (Jump Or target) kinds loops there refl here) (next_well index (Jump Or target) top.taken loops there tt tt here)
  passed_well index (Jump Branch target) kinds loops more there came here h =
      let top = on_top kinds (λ taken. Ok (sent target taken loops ∷ sent (suc index) taken loops ∷ [])) more h in
      two_well (sent target top.taken loops) (sent (suc index) top.taken loops) more top.sent (jump_well index target (Jump Branch target) top.taken loops there refl here) (next_well index (Jump Branch target) top.taken loops there tt tt here)
  passed_well index (Jump Always target) kinds loops more there came here h =
      rw (sym (same_sent code shape (sent target kinds loops ∷ []) more h)) (jump_well index target (Jump Always target) kinds loops there refl here, tt)
  passed_well index (Enter predicate step) kinds loops more there came here h =
      let enter = enters predicate index step kinds loops more h in
      let pair = the_step index step predicate there in
      let after = not_last step (Step predicate index) pair.1 tt in
      let over : around index ≡ over_list kinds = ap loop_over came in
      let over_it : around index ≡ record { item = enter.item; most = enter.most; below = enter.below } = over ∙ ap over_list enter.are in
      let body : (record { item = enter.item; most = enter.most; below = enter.below } ∷ loops) ≡ loops_at (suc index) = rw (around_body index step predicate there) (rw over_it (ap (λ loops. record { item = enter.item; most = enter.most; below = enter.below } ∷ loops) here)) in
      rw enter.sent
      ((not_last index (Enter predicate step) there tt, body), (well_sent (suc step) (answer_kind predicate enter.item enter.most ∷ enter.below) loops index after here (sym (around_after index step predicate there)), tt))
  passed_well index (Step predicate enter) kinds loops more there came here h =
      let top = on_top kinds (λ taken. loop_ended predicate index taken loops) more h in
      let end = ends predicate index top.taken loops more top.sent in
      let own = around_step index enter predicate there in
      let both : (end.loop ∷ end.outer) ≡ map around (enter ∷ loops_around code.ops enter) = sym end.are ∙ here ∙ ap (map around) own.0 in
      let outer : end.outer ≡ loops_at enter = same_tail end.loop (around enter) end.outer (loops_at enter) both in
      rw end.sent (well_sent (suc index) (answer_kind predicate end.loop.item end.loop.most ∷ end.loop.below) end.outer enter (not_last index (Step predicate enter) there tt) outer (sym own.1), tt)
  passed_well index Return kinds loops more there came here h = let top = on_top kinds (λ taken. Ok []) more h in rw (sym (same_sent code shape [] more top.sent)) tt
  passed_well index op kinds loops more there came here h = falls_well index op (kinds_left code shape (innermost_shape loops) op kinds) loops more there tt tt here h

  first_well : AllByRecursion WellSent (sent 0 [] [] ∷ [])
  first_well = ((first_inside, refl), tt)

  pub all_well : AllByRecursion WellSent sents
  all_well =
      all_hold code shape code.ops WellSent sents
      (λ index op had more before there came arrive sends all. passed_well index op had.kinds had.loops more there came (arrives_in index had before arrive all) sends.passed) 0 code.ops (sent 0 [] [] ∷ [])
      (λ n op there. let start : n + 0 ≡ n = omega arith in rw start there) is.paired is.all first_well

  -- ---- what is sent arrives

  -- at an index inside the code, where something arrives that has room for it
  pub record Comes (one : Sent) : Type 0 where
    pub next : Op
    pub there : At one.target next
    pub had : Operands
    pub arrives : arrival one.target sents ≡ Ok had
    pub room : Room had one.operands

  abbrev RoomAt : ℕ → Sent → Type 0
  RoomAt index one = (had : Operands) → arrival index sents ≡ Ok had → one.target ≡ index → Room had one.operands

  room_at : (index : ℕ) (came : Result Operands Reason) → arrival index sents ≡ came → AllByRecursion (RoomAt index) sents
  room_at index (Ok had) came =
      all_more (λ one. one.target ≡ index → Room had one.operands) (RoomAt index) sents
      (λ one room other same there. let alike : had ≡ other = cc in rw alike at (room there)) (to_index (Room had) index sents (arrives (sent_to index sents) had came).room)
  room_at index (Err reason) came = all_of (RoomAt index) sents (λ one had same there. absurd cc)

  come : (one : Sent) → ((index : ℕ) → RoomAt index one) → WellSent one → Comes one
  come one room well =
      let next = nth_there code.ops one.target well.0 in
      let index = each_passed one.target next.0 next.1 in
      record { next = next.0; there = next.1; had = index.had; arrives = index.arrives; room = room one.target index.had index.arrives refl }

  pub all_come : AllByRecursion Comes sents
  all_come =
      all_more (λ one. ((index : ℕ) → RoomAt index one) × WellSent one) Comes sents (λ one each. come one each.0 each.1)
      (all_both (λ one. (index : ℕ) → RoomAt index one) WellSent sents (all_each RoomAt sents (λ index. room_at index (arrival index sents) refl)) all_well)

  -- an operation, what arrives there and what it sends on, which arrives too
  pub record Here (index : ℕ) (op : Op) : Type 0 where
    pub had : Operands
    pub more : List Sent
    pub arrives : arrival index sents ≡ Ok had
    pub loops : had.loops ≡ loops_at index
    pub sends : Sends code shape index op had more
    pub come : AllByRecursion Comes more

  pub here : (index : ℕ) (op : Op) → At index op → Here index op
  here index op there =
      let index_is = each_passed index op there in
      let after = all_split Comes index_is.front (index_is.more ++ index_is.later) (subst (AllByRecursion Comes) index_is.all all_come) in
      record {
        had = index_is.had;
        more = index_is.more;
        arrives = index_is.arrives;
        loops = arrives_in index index_is.had sents index_is.arrives all_well;
        sends = index_is.sends;
        come = (all_split Comes index_is.more index_is.later after.1).0;
      }
