-- From each index of code in which the verifier found nothing there is a most expensive way forward.
use Rattle.std.proofs.Common.{◌≡◌, ◌<◌, ◌≤◌, ℕ, zero, suc, ◌+◌, ◌*◌, List, length, Some, refl, sym, subst, inl, inr, arith}
use Rattle.std.specs.Prelude.{◌⊎◌, slice_get}
use Rattle.std.proofs.lemmas.Bool.Decides.{leb_tells}
use Rattle.std.proofs.Math.Nat.{mul-le-mul_left}
use Rattle.ar_value.specs.Shape.{Shape}
use Rattle.ar_value.specs.declared.operator.Predicate.{Predicate}
use Rattle.ar_op.specs.Code.{Code}
use Rattle.ar_op.specs.declared.op.Op.{Op}
use Rattle.ar_op.specs.declared.op.Jump.TheVariants.{And, Or, Branch, Always}
use Rattle.ar_op.specs.declared.op.Op.TheVariants.{Binary, Jump, Enter, Step, Return}
use Rattle.ar_value.specs.declared.operator.BinaryOperator.TheVariants as binary
use Rattle.ar_safety.specs.Arrivals.{Sent}
use Rattle.ar_safety.specs.Budget.{Continues, IsBudget, IsCostliest, JumpsTo, Stops, Way, continues, jumps, loops, most_at, price, stops}
use Rattle.ar_safety.proofs.Nesting.{is_below}
use Rattle.ar_safety.proofs.Reached.{Clean, ProceedsFurther, jumps_well, not_last, nth_there, the_step}
use Rattle.ar_safety.proofs.Sound.{Prices}

module _ (code : Code) (shape : Shape) (sents : List Sent) (is : Clean code shape sents) where
  abbrev pub At : (index : ℕ) → Op → Type 0
  At index op = slice_get code.ops index ≡ Some op

  abbrev pub Forward : (index cost : ℕ) → Type 0
  Forward index cost = Way code.ops sents index cost

  abbrev pub most_here : ℕ → ℕ
  most_here index = most_at code.ops sents index

  -- ---- which ways there are from an operation

  abbrev pub NextWay : (index : ℕ) → Op → (cost : ℕ) → Type 0
  NextWay index op cost = (rest : ℕ) × Forward (suc index) rest × (cost ≡ price op (most_here index) + rest)

  abbrev pub JumpWay : (target cost : ℕ) → Type 0
  JumpWay target cost = (rest : ℕ) × Forward target rest × (cost ≡ suc rest)

  abbrev pub LoopWay : (index step cost : ℕ) → Type 0
  LoopWay index step cost = (body : ℕ) × (rest : ℕ) × Forward (suc index) body × Forward (suc step) rest × (cost ≡ suc (most_here index * body + rest))

  abbrev pub WayBy : (index : ℕ) → Op → (cost : ℕ) → Type 0
  WayBy index (Jump And target) cost = NextWay index (Jump And target) cost ⊎ JumpWay target cost
  WayBy index (Jump Or target) cost = NextWay index (Jump Or target) cost ⊎ JumpWay target cost
  WayBy index (Jump Branch target) cost = NextWay index (Jump Branch target) cost ⊎ JumpWay target cost
  WayBy index (Jump Always target) cost = JumpWay target cost
  WayBy index (Enter predicate step) cost = LoopWay index step cost
  WayBy index (Step predicate enter) cost = cost ≡ 1
  WayBy index Return cost = cost ≡ 1
  WayBy index op cost = NextWay index op cost

  by_stop : (index : ℕ) (op : Op) → Stops op → WayBy index op 1
  by_stop index (Step predicate enter) h = refl
  by_stop index Return h = refl
  by_stop index op h = absurd h

  by_next : (index : ℕ) (op : Op) (rest : ℕ) → Continues op → Forward (suc index) rest → WayBy index op (price op (most_here index) + rest)
  by_next index (Jump And target) rest h way = inl (rest, way, refl)
  by_next index (Jump Or target) rest h way = inl (rest, way, refl)
  by_next index (Jump Branch target) rest h way = inl (rest, way, refl)
  by_next index (Jump Always target) rest h way = absurd h
  by_next index (Enter predicate step) rest h way = absurd h
  by_next index (Step predicate enter) rest h way = absurd h
  by_next index Return rest h way = absurd h
  by_next index op rest h way = (rest, way, refl)

  jump_way : (target named rest : ℕ) → named ≡ target → Forward target rest → JumpWay named (suc rest)
  jump_way target named rest same way = (rest, subst (λ index. Forward index rest) (sym same) way, refl)

  by_jump : (index target : ℕ) (op : Op) (rest : ℕ) → JumpsTo op target → Forward target rest → WayBy index op (suc rest)
  by_jump index target (Jump And named) rest h way = inr (jump_way target named rest h way)
  by_jump index target (Jump Or named) rest h way = inr (jump_way target named rest h way)
  by_jump index target (Jump Branch named) rest h way = inr (jump_way target named rest h way)
  by_jump index target (Jump Always named) rest h way = jump_way target named rest h way
  by_jump index target op rest h way = absurd h

  same_op : (index : ℕ) (op other : Op) → At index op → At index other → op ≡ other
  same_op index op other h k = cc

  pub way_by : (index : ℕ) (op : Op) (cost : ℕ) → At index op → Forward index cost → WayBy index op cost
  way_by index op cost there (stops {op = other} at h) = subst (λ op. WayBy index op 1) (same_op index other op at there) (by_stop index other h)
  way_by index op cost there (continues {cost = rest} {op = other} at h way) = subst (λ op. WayBy index op (price other (most_here index) + rest)) (same_op index other op at there) (by_next index other rest h way)
  way_by index op cost there (jumps {target = target} {cost = rest} {op = other} at h way) = subst (λ op. WayBy index op (suc rest)) (same_op index other op at there) (by_jump index target other rest h way)
  way_by index op cost there (loops {step = step} {body = body} {cost = rest} {predicate = predicate} at inner way) =
      subst (λ op. WayBy index op (suc (most_here index * body + rest))) (same_op index (Enter predicate step) op at there) (body, rest, inner, way, refl)

  -- ---- the most expensive of them

  abbrev Expensive : ℕ → Type 0
  Expensive index = (cost : ℕ) × IsCostliest code.ops sents index cost

  stop_expensive : (index : ℕ) (op : Op) → At index op → Stops op → ((cost : ℕ) → WayBy index op cost → cost ≡ 1) → Expensive index
  stop_expensive index op there h only = (1, record { way = stops there h; costliest = λ other way. let one = only other (way_by index op other there way) in omega arith })

  next_expensive : (index : ℕ) (op : Op) → At index op → Continues op → ((cost : ℕ) → WayBy index op cost → NextWay index op cost) → Expensive (suc index) → Expensive index
  next_expensive index op there h only next = (
    price op (most_here index) + next.0,
    record {
      way = continues there h next.1.way;
      costliest = λ other way.
          let by = only other (way_by index op other there way) in
          let less = next.1.costliest by.0 by.1 in
          let is = by.2 in
          omega arith;
    },
  )

  jump_expensive : (index target : ℕ) (op : Op) → At index op → JumpsTo op target → ((cost : ℕ) → WayBy index op cost → JumpWay target cost) → Expensive target → Expensive index
  jump_expensive index target op there h only far = (
    suc far.0,
    record {
      way = jumps there h far.1.way;
      costliest = λ other way.
          let by = only other (way_by index op other there way) in
          let less = far.1.costliest by.0 by.1 in
          let is = by.2 in
          omega arith;
    },
  )

  -- of two ways on, the more expensive one
  either_expensive : (index target : ℕ) (op : Op) → At index op → Continues op → JumpsTo op target → ((cost : ℕ) → WayBy index op cost → NextWay index op cost ⊎ JumpWay target cost) → Expensive (suc index) → Expensive target → Expensive index
  either_expensive index target op there on jump only next far = elim (leb_tells (suc far.0) (price op (most_here index) + next.0)) [
    | inl w ↦ (price op (most_here index) + next.0, record { way = continues there on next.1.way; costliest = λ other way. below next far (price op (most_here index) + next.0) (omega arith) (omega (arith, w.1)) other (only other (way_by index op other there way)) })
    | inr w ↦ (suc far.0, record { way = jumps there jump far.1.way; costliest = λ other way. below next far (suc far.0) (omega (arith, w.1)) (omega arith) other (only other (way_by index op other there way)) })
  ]
    where
      below : (next : Expensive (suc index)) (far : Expensive target) (most : ℕ) → price op (most_here index) + next.0 ≤ most → suc far.0 ≤ most → (other : ℕ) → NextWay index op other ⊎ JumpWay target other → other ≤ most
      below next far most h k other (inl by) = let less = next.1.costliest by.0 by.1 in let is = by.2 in omega arith
      below next far most h k other (inr by) = let less = far.1.costliest by.0 by.1 in let is = by.2 in omega arith

  loop_expensive : (index step : ℕ) (predicate : Predicate) → At index (Enter predicate step) → Expensive (suc index) → Expensive (suc step) → Expensive index
  loop_expensive index step predicate there body rest = (
    suc (most_here index * body.0 + rest.0),
    record {
      way = loops there body.1.way rest.1.way;
      costliest = λ other way.
          let by : LoopWay index step other = way_by index (Enter predicate step) other there way in
          let inner = mul-le-mul_left (most_here index) (body.1.costliest by.0 by.2) in
          let less = rest.1.costliest by.1 by.3 in
          let same = by.4 in
          omega (arith, inner, less, same);
    },
  )

  expensive_by : (index : ℕ) (op : Op) → At index op → ((other : ℕ) → index < other → other < length code.ops → Expensive other) → Expensive index
  expensive_by index (Jump And target) there further =
      let far = jumps_well code shape sents is index target (Jump And target) refl there in
      either_expensive index target (Jump And target) there tt refl (λ cost by. by) (further (suc index) (omega arith) (not_last code shape sents is index (Jump And target) there tt)) (further target far.0 far.1)
  expensive_by index (Jump Or target) there further =
      let far = jumps_well code shape sents is index target (Jump Or target) refl there in
      either_expensive index target (Jump Or target) there tt refl (λ cost by. by) (further (suc index) (omega arith) (not_last code shape sents is index (Jump Or target) there tt)) (further target far.0 far.1)
  expensive_by index (Jump Branch target) there further =
      let far = jumps_well code shape sents is index target (Jump Branch target) refl there in
      either_expensive index target (Jump Branch target) there tt refl (λ cost by. by) (further (suc index) (omega arith) (not_last code shape sents is index (Jump Branch target) there tt)) (further target far.0 far.1)
  expensive_by index (Jump Always target) there further =
      let far = jumps_well code shape sents is index target (Jump Always target) refl there in
      jump_expensive index target (Jump Always target) there refl (λ cost by. by) (further target far.0 far.1)
  expensive_by index (Enter predicate step) there further =
      let pair = the_step code shape sents is index step predicate there in
      let ahead = pair.0 in
      loop_expensive index step predicate there (further (suc index) (omega arith) (not_last code shape sents is index (Enter predicate step) there tt)) (further (suc step) (omega arith) (not_last code shape sents is step (Step predicate index) pair.1 tt))
  expensive_by index (Step predicate enter) there further = stop_expensive index (Step predicate enter) there tt (λ cost by. by)
  expensive_by index Return there further = stop_expensive index Return there tt (λ cost by. by)
  expensive_by index op there further = next_expensive index op there tt (λ cost by. by) (further (suc index) (omega arith) (not_last code shape sents is index op there tt))

  expensive_from : (left index : ℕ) → length code.ops ≤ index + left → index < length code.ops → Expensive index
  expensive_from zero index past below = absurd (omega arith)
  expensive_from (suc left) index past below =
      let op = nth_there code.ops index below in
      expensive_by index op.0 op.1 (λ other ahead inside. expensive_from left other (omega arith) inside)

  -- what is due from `index`: what the most expensive way costs
  expensive_at : (index : ℕ) → (cost : ℕ) × (index < length code.ops → IsCostliest code.ops sents index cost)
  expensive_at index = elim (leb_tells (length code.ops) index) [
    | inl w ↦ (0, λ below. absurd (omega (arith, w.1, below)))
    | inr w ↦ let expensive = expensive_from (length code.ops) index (omega arith) w.1 in (expensive.0, λ below. expensive.1)
  ]

  pub due : ℕ → ℕ
  due index = (expensive_at index).0

  pub due_is : (index : ℕ) → index < length code.ops → IsCostliest code.ops sents index (due index)
  unfolding due
  due_is index below = (expensive_at index).1 below

  some_cost : (op : Op) (most : ℕ) → 1 ≤ price op most
  some_cost (Binary binary.IsIn) most = omega arith
  some_cost op most = omega arith

  way_costs : (index cost : ℕ) → Forward index cost → 1 ≤ cost
  way_costs index cost (stops there h) = omega arith
  way_costs index cost (continues {op = op} there h way) = let some = some_cost op (most_here index) in omega arith
  way_costs index cost (jumps there h way) = omega arith
  way_costs index cost (loops there body way) = omega arith

  further_on : (op : Op) → Continues op → ProceedsFurther op
  further_on Return on = on
  further_on op on = tt

  next_inside : (index : ℕ) (op : Op) → At index op → Continues op → suc index < length code.ops
  next_inside index op there on = not_last code shape sents is index op there (further_on op on)

  pub prices : Prices code.ops sents due
  prices = record {
    some = λ index op there. way_costs index (due index) (due_is index (is_below code.ops index op there)).way;
    next = λ index op there on. (due_is index (is_below code.ops index op there)).costliest _ (continues there on (due_is (suc index) (next_inside index op there on)).way);
    jump = λ index target op there jump. (due_is index (is_below code.ops index op there)).costliest _ (jumps there jump (due_is target (jumps_well code shape sents is index target op jump there).1).way);
    loop = λ index step predicate there.
        let pair = the_step code shape sents is index step predicate there in
        (due_is index (is_below code.ops index (Enter predicate step) there)).costliest _
        (loops there (due_is (suc index) (not_last code shape sents is index (Enter predicate step) there tt)).way (due_is (suc step) (not_last code shape sents is step (Step predicate index) pair.1 tt)).way);
  }

  -- the budget is what is due from the first index
  pub budget_is_due : (budget : ℕ) → 0 < length code.ops → IsBudget code.ops sents budget → due 0 ≡ budget
  budget_is_due budget some is_budget =
      let first = due_is 0 some in
      let less = first.costliest budget is_budget.way in
      let more = is_budget.costliest (due 0) first.way in
      omega arith
