-- Costs of the most expensive ways, index by index from the end; those above the greatest budget count as one more.
use Rattle.std.proofs.Common.{◌≡◌, ◌<◌, ℕ, zero, suc, ◌+◌, ◌-◌, ◌*◌, min, max, List, length, get_or, get_or-set_other, get_or-set_same, Some, refl, sym, ap, subst, inl, inr, ◌∙◌, arith}
use Rattle.std.specs.Prelude.{◌⊎◌, ◌≢◌, false, slice_set, slice_get}
use Rattle.std.proofs.lemmas.Bool.Decides.{leb_tells}
use Rattle.std.proofs.Math.Nat.{mul-le-mul_left}
use Rattle.ar_value.specs.Shape.{Shape}
use Rattle.ar_value.specs.declared.operator.Predicate.{Predicate}
use Rattle.ar_op.specs.Code.{Code}
use Rattle.ar_op.specs.declared.op.Op.{Op}
use Rattle.ar_op.specs.declared.op.Jump.TheVariants.{And, Or, Branch, Always}
use Rattle.ar_op.specs.declared.op.Op.TheVariants.{Push, Jump, Enter, Step, Return}
use Rattle.ar_op.specs.declared.op.Source.TheVariants as sources
use Rattle.ar_safety.specs.Arrivals.{Sent}
use Rattle.ar_safety.specs.Budget.{Continues, JumpsTo, Stops, most_at, price}
use Rattle.ar_verify.specs.Private.Costs.{AreCosts, HasPassed, IsCapped, IsCost, LeadsInside, cost_by, cost_by_either, cost_by_jump, cost_by_loop, cost_by_next, number_at, too_expensive}
use Rattle.ar_safety.proofs.Costliest.{JumpWay, LoopWay, NextWay, WayBy, due, due_is, prices, way_by}
use Rattle.ar_safety.proofs.Entries.{nth_at}
use Rattle.ar_safety.proofs.Nesting.{is_below}
use Rattle.ar_safety.proofs.Reached.{Clean, ProceedsFurther, clean, jumps_well, not_last, the_step}

-- ---- what is capped

next_capped : (price next number : ℕ) → number ≡ min too_expensive next → min too_expensive (price + number) ≡ min too_expensive (price + next)
next_capped price next number is = omega arith

jump_capped : (target number : ℕ) → number ≡ min too_expensive target → min too_expensive (suc number) ≡ min too_expensive (suc target)
jump_capped target number is = omega arith

either_capped : (next target : ℕ) → max (min too_expensive next) (min too_expensive target) ≡ min too_expensive (max next target)
either_capped next target = omega arith

-- a product with a capped factor is capped alike
product_capped : (most body inner : ℕ) → inner ≡ min too_expensive body → min too_expensive (most * inner) ≡ min too_expensive (most * body)
product_capped zero body inner is = omega arith
product_capped (suc most) body inner is = elim (leb_tells body too_expensive) [
  | inl w ↦ (let same : inner ≡ body = omega (arith, w.1) in rw same refl)
  | inr w ↦ omega (arith, w.1)
]

loop_capped : (most body inner later number : ℕ) → inner ≡ min too_expensive body → number ≡ min too_expensive later → min too_expensive (suc (most * inner + number)) ≡ min too_expensive (suc (most * body + later))
loop_capped most body inner later number is also = let product = product_capped most body inner is in omega arith

module _ (code : Code) (shape : Shape) (sents : List Sent) (is : Clean code shape sents) where
  abbrev At : (index : ℕ) → Op → Type 0
  At index op = slice_get code.ops index ≡ Some op

  abbrev due_from : ℕ → ℕ
  due_from index = due code shape sents is index

  abbrev most_here : ℕ → ℕ
  most_here index = most_at code.ops sents index

  -- ---- what is due at an index, by what is due after it

  -- one of the ways from `index` costs what is due there
  way_due : (index : ℕ) (op : Op) → At index op → WayBy code shape sents is index op (due_from index)
  way_due index op there = way_by code shape sents is index op (due_from index) there (due_is code shape sents is index (is_below code.ops index op there)).way

  next_due : (index : ℕ) (op : Op) → At index op → Continues op → suc index < length code.ops → NextWay code shape sents is index op (due_from index) → due_from index ≡ price op (most_here index) + due_from (suc index)
  next_due index op there on inside by =
      let most = (prices code shape sents is).next index op there on in
      let less = (due_is code shape sents is (suc index) inside).costliest by.0 by.1 in
      let same = by.2 in
      omega arith

  jump_due : (index target : ℕ) (op : Op) → At index op → JumpsTo op target → target < length code.ops → JumpWay code shape sents is target (due_from index) → due_from index ≡ suc (due_from target)
  jump_due index target op there jump inside by =
      let most = (prices code shape sents is).jump index target op there jump in
      let less = (due_is code shape sents is target inside).costliest by.0 by.1 in
      let same = by.2 in
      omega arith

  either_due : (index target : ℕ) (op : Op) → At index op → Continues op → JumpsTo op target → suc index < length code.ops → target < length code.ops
      → NextWay code shape sents is index op (due_from index) ⊎ JumpWay code shape sents is target (due_from index) → due_from index ≡ max (price op (most_here index) + due_from (suc index)) (suc (due_from target))
  either_due index target op there on jump inside within (inl by) =
      let same = next_due index op there on inside by in
      let most = (prices code shape sents is).jump index target op there jump in
      omega arith
  either_due index target op there on jump inside within (inr by) =
      let same = jump_due index target op there jump within by in
      let most = (prices code shape sents is).next index op there on in
      omega arith

  loop_due : (index step : ℕ) (predicate : Predicate) → At index (Enter predicate step) → suc index < length code.ops → suc step < length code.ops → due_from index ≡ suc (most_here index * due_from (suc index) + due_from (suc step))
  loop_due index step predicate there inside later =
      let by : LoopWay code shape sents is index step (due_from index) = way_due index (Enter predicate step) there in
      let most = (prices code shape sents is).loop index step predicate there in
      let inner = mul-le-mul_left (most_here index) ((due_is code shape sents is (suc index) inside).costliest by.0 by.2) in
      let less = (due_is code shape sents is (suc step) later).costliest by.1 by.3 in
      let same = by.4 in
      omega (arith, inner, most, less, same)

  -- ---- the numbers that represent it

  abbrev Capped : (index number : ℕ) → Type 0
  Capped index number = number ≡ min too_expensive (due_from index)

  -- no other number represents it
  pub one_number : (index number : ℕ) → index < length code.ops → IsCapped code sents index number → Capped index number
  one_number index number inside capped =
      let own = due_is code shape sents is index inside in
      let less = own.costliest capped.cost capped.costliest.way in
      let more = capped.costliest.costliest (due_from index) own.way in
      let number_is = capped.is in
      omega arith

  pub represents : (index number : ℕ) → index < length code.ops → Capped index number → IsCapped code sents index number
  represents index number inside capped = record { cost = due_from index; costliest = due_is code shape sents is index inside; is = capped }

  -- ---- from the numbers of the indexes after an index to its own

  module _ (index : ℕ) (costs : List ℕ) (later : (other : ℕ) → index < other → other < length code.ops → Capped other (number_at costs other)) where
    next_by : (op : Op) → At index op → Continues op → suc index < length code.ops → NextWay code shape sents is index op (due_from index) → Capped index (cost_by_next op (most_here index) (number_at costs (suc index)))
    next_by op there on inside by =
        let next = later (suc index) (omega arith) inside in
        next_capped (price op (most_here index)) (due_from (suc index)) (number_at costs (suc index)) next ∙ ap (min too_expensive) (sym (next_due index op there on inside by))

    jump_by : (target : ℕ) (op : Op) → At index op → JumpsTo op target → index < target → target < length code.ops → JumpWay code shape sents is target (due_from index) → Capped index (cost_by_jump (number_at costs target))
    jump_by target op there jump ahead inside by =
        jump_capped (due_from target) (number_at costs target) (later target ahead inside) ∙ ap (min too_expensive) (sym (jump_due index target op there jump inside by))

    either_by : (target : ℕ) (op : Op) → At index op → Continues op → JumpsTo op target → suc index < length code.ops → index < target → target < length code.ops
        → NextWay code shape sents is index op (due_from index) ⊎ JumpWay code shape sents is target (due_from index) → Capped index (cost_by_either op (most_here index) (number_at costs (suc index)) (number_at costs target))
    either_by target op there on jump inside ahead within by =
        let next = next_capped (price op (most_here index)) (due_from (suc index)) (number_at costs (suc index)) (later (suc index) (omega arith) inside) in
        let far = jump_capped (due_from target) (number_at costs target) (later target ahead within) in
        rw (next, far) (either_capped (price op (most_here index) + due_from (suc index)) (suc (due_from target)) ∙ ap (min too_expensive) (sym (either_due index target op there on jump inside within by)))

    loop_by : (step : ℕ) (predicate : Predicate) → At index (Enter predicate step) → suc index < length code.ops → index < step → suc step < length code.ops
        → Capped index (cost_by_loop (most_here index) (number_at costs (suc index)) (number_at costs (suc step)))
    loop_by step predicate there inside ahead within =
        loop_capped (most_here index) (due_from (suc index)) (number_at costs (suc index)) (due_from (suc step)) (number_at costs (suc step)) (later (suc index) (omega arith) inside) (later (suc step) (omega arith) within)
        ∙ ap (min too_expensive) (sym (loop_due index step predicate there inside within))

    step_by : (op : Op) → At index op → Stops op → due_from index ≡ 1 → Capped index 1
    step_by op there stop by = omega arith

    either_here : (target : ℕ) (op : Op) → At index op → Continues op → ProceedsFurther op → JumpsTo op target
        → NextWay code shape sents is index op (due_from index) ⊎ JumpWay code shape sents is target (due_from index) → Capped index (cost_by_either op (most_here index) (number_at costs (suc index)) (number_at costs target))
    either_here target op there on further jump by =
        let far = jumps_well code shape sents is index target op jump there in
        either_by target op there on jump (not_last code shape sents is index op there further) far.0 far.1 by

    capped_by : (op : Op) → At index op → Capped index (cost_by costs index (most_here index) op)
    capped_by (Jump And target) there = either_here target (Jump And target) there tt tt refl (way_due index (Jump And target) there)
    capped_by (Jump Or target) there = either_here target (Jump Or target) there tt tt refl (way_due index (Jump Or target) there)
    capped_by (Jump Branch target) there = either_here target (Jump Branch target) there tt tt refl (way_due index (Jump Branch target) there)
    capped_by (Jump Always target) there =
        let far = jumps_well code shape sents is index target (Jump Always target) refl there in
        jump_by target (Jump Always target) there refl far.0 far.1 (way_due index (Jump Always target) there)
    capped_by (Enter predicate step) there =
        let pair = the_step code shape sents is index step predicate there in
        loop_by step predicate there (not_last code shape sents is index (Enter predicate step) there tt) pair.0 (not_last code shape sents is step (Step predicate index) pair.1 tt)
    capped_by (Step predicate enter) there = step_by (Step predicate enter) there tt (way_due index (Step predicate enter) there)
    capped_by Return there = step_by Return there tt (way_due index Return there)
    capped_by op there = next_by op there tt (not_last code shape sents is index op there tt) (way_due index op there)

-- ---- the table of numbers, from the code's end

pub leads_inside : (code : Code) (index : ℕ) (op : Op) → HasPassed code → slice_get code.ops index ≡ Some op → LeadsInside (length code.ops) index op
leads_inside code index op has there = leads code has.0 has.1.0 (clean code has.0 has.1.0 has.1.1) index op there
  where
    leads : (code : Code) (shape : Shape) (sents : List Sent) (is : Clean code shape sents) (index : ℕ) (op : Op) → slice_get code.ops index ≡ Some op → LeadsInside (length code.ops) index op
    leads code shape sents is index (Jump And target) there = (not_last code shape sents is index (Jump And target) there tt, (jumps_well code shape sents is index target (Jump And target) refl there).1)
    leads code shape sents is index (Jump Or target) there = (not_last code shape sents is index (Jump Or target) there tt, (jumps_well code shape sents is index target (Jump Or target) refl there).1)
    leads code shape sents is index (Jump Branch target) there = (not_last code shape sents is index (Jump Branch target) there tt, (jumps_well code shape sents is index target (Jump Branch target) refl there).1)
    leads code shape sents is index (Jump Always target) there = (jumps_well code shape sents is index target (Jump Always target) refl there).1
    leads code shape sents is index (Enter predicate step) there =
        let pair = the_step code shape sents is index step predicate there in
        (not_last code shape sents is index (Enter predicate step) there tt, not_last code shape sents is step (Step predicate index) pair.1 tt)
    leads code shape sents is index (Step predicate enter) there = tt
    leads code shape sents is index Return there = tt
    leads code shape sents is index op there = not_last code shape sents is index op there tt

-- the number of the index before, once those after it are there
own_cost : (code : Code) (most costs : List ℕ) (index : ℕ) (op : Op) → slice_get code.ops index ≡ Some op → AreCosts code most (suc index) costs → IsCost code most index (cost_by costs index (number_at most index) op)
own_cost code most costs index op there later shape sents passes are =
    let is = clean code shape sents passes in
    let inside = is_below code.ops index op there in
    let capped = capped_by code shape sents is index costs (λ other ahead within. one_number code shape sents is other (number_at costs other) within (later other (omega arith) within shape sents passes are)) op there in
    represents code shape sents is index _ inside (rw (are index inside) capped)

one_more : (code : Code) (most costs : List ℕ) (index : ℕ) (op : Op) → length costs ≡ length code.ops → slice_get code.ops index ≡ Some op → AreCosts code most (suc index) costs
    → AreCosts code most index (slice_set costs index (cost_by costs index (number_at most index) op))
one_more code most costs index op same there later other le inside = elim (leb_tells other index) [
  | inl w ↦ (
      let here : index ≡ other = omega (arith, w.1) in
      let below : index < length costs = omega (arith, same) in
      subst (λ p. IsCost code most p (number_at (slice_set costs index (cost_by costs index (number_at most index) op)) p)) here (rw get_or-set_same (own_cost code most costs index op there later)))
  | inr w ↦ (let apart : other ≢ index = omega (arith, w.1) in rw get_or-set_other (later other (omega (arith, w.1)) inside))
]

-- ---- the same, for the values that the loop over indexes has

module _ (code : Code) (ops : List Op) (same_ops : ops ≡ code.ops) (from : ℕ) (some : 0 < from) (costs borrowed : List ℕ) (same : borrowed ≡ costs) (count : length costs ≡ length ops) where
  abbrev op_before : Op
  op_before = get_or ops (from - 1) (Push (sources.Bool false))

  op_there : from - 1 < length ops → slice_get code.ops (from - 1) ≡ Some op_before
  op_there inside = ap (λ ops. slice_get ops (from - 1)) (sym same_ops) ∙ nth_at ops (from - 1) (Push (sources.Bool false)) inside

  pub leads_before : HasPassed code → from - 1 < length ops → LeadsInside (length borrowed) (from - 1) op_before
  leads_before has inside =
      let counts : length code.ops ≡ length borrowed = sym (ap length same_ops) ∙ sym count ∙ sym (ap length same) in
      subst (λ n. LeadsInside n (from - 1) op_before) counts (leads_inside code (from - 1) op_before has (op_there inside))

  pub one_before : (most : List ℕ) (number : ℕ) → from - 1 < length ops → number ≡ cost_by borrowed (from - 1) (number_at most (from - 1)) op_before → AreCosts code most from costs → AreCosts code most (from - 1) (slice_set costs (from - 1) number)
  one_before most number inside is later =
      let before : from ≡ suc (from - 1) = omega arith in
      let cost : number ≡ cost_by costs (from - 1) (number_at most (from - 1)) op_before = is ∙ ap (λ costs. cost_by costs (from - 1) (number_at most (from - 1)) op_before) same in
      rw cost (one_more code most costs (from - 1) op_before (count ∙ ap length same_ops) (op_there inside) (subst (λ n. AreCosts code most n costs) before later))
