-- Code in which the verifier found nothing runs safely: each step leads to operands of the kinds that arrive where it leads,
-- and what was paid, with the most that is still to pay, never grows.
use Rattle.std.proofs.Common.{◌≡◌, ◌≤◌, ℕ, suc, ◌+◌, ◌*◌, Bool, true, false, nat_le, List, [], ◌∷◌, ◌++◌, length, map, Option, Some, None, option_map, IfSome, Result, Ok, Err, refl, sym, ap, subst, ◌∙◌, arith}
use Rattle.std.specs.Prelude.{◌&&◌, ◌==◌, if◌then◌else◌, slice_get}
use Rattle.std.specs.List.{AllByRecursion}
use Rattle.std.proofs.lemmas.Bool.{leb-true}
use Rattle.std.proofs.lemmas.Bool.Decides.{nat_tests}
use Rattle.std.proofs.Math.Nat.{mul-le-mul_right, suc-mul}
use Rattle.ar_value.specs.Fits.{all_items, fits}
use Rattle.ar_value.specs.Kind.{Kind, shaped, fits_kind, boolean_kind}
use Rattle.ar_value.specs.Operators.{Failure, faulted, ill_kinded}
use Rattle.ar_value.specs.Predicates.{is_same}
use Rattle.ar_value.proofs.Predicates.{itself as same_as_itself}
use Rattle.ar_value.specs.Shape.{Shape}
use Rattle.ar_value.specs.Shape as shapes
use Rattle.ar_value.specs.Value.{Value, Items, count, item, items_of, no_items}
use Rattle.ar_value.specs.Value as values
use Rattle.ar_value.specs.declared.operator.Predicate.{Predicate}
use Rattle.ar_value.specs.declared.operator.Predicate.TheVariants as predicates
use Rattle.ar_op.specs.Code.{Code, Inside}
use Rattle.ar_op.specs.Machine.{Loop, Next, State, loop_answer, begins_loop, cost_of, decided, ends, entered, falls, found_by, proceeds, here, after_loop, looked_at, next_item, paid, performed, step, stepped, stuck, takes, to}
use Rattle.ar_op.specs.Machine as machine
use Rattle.ar_op.specs.declared.op.Op.{Op}
use Rattle.ar_op.specs.declared.op.Jump.TheVariants.{And, Or, Branch, Always}
use Rattle.ar_op.specs.declared.op.Op.TheVariants.{Push, Binary, Jump, Enter, Step, Return}
use Rattle.ar_op.specs.declared.op.Source.TheVariants as sources
use Rattle.ar_value.specs.declared.operator.BinaryOperator.TheVariants as binary
use Rattle.ar_safety.specs.Arrivals.{Around, Operands, Sent, answer_kind, arrival, loop_ended, innermost_shape, lacks, operands, passed_on, sent, to_next}
use Rattle.ar_safety.specs.Budget.{Continues, JumpsTo, most_at, most_items, most_on_top, price}
use Rattle.ar_safety.specs.Effects.{kinds_left, member_kind, on_two_kinds}
use Rattle.ar_safety.specs.Indices.{loops_around, same_loops}
use Rattle.ar_safety.specs.declared.error.Reason.TheVariants.{CrossesLoop}
use Rattle.ar_safety.proofs.Effects.{Fit, Leaves, effect_sound, fit_length}
use Rattle.ar_safety.proofs.Nesting.{IsNoLoop, no_reason}
use Rattle.ar_safety.proofs.Passing.{Answers, Sends, same_sent}
use Rattle.ar_safety.proofs.Passing as passing
use Rattle.ar_safety.proofs.Reached.{Clean, Comes, Here, around_after, around_body, around_next, around_step, jumps_well, loops_at, over_list, the_enter, the_step}
use Rattle.ar_safety.proofs.Reached as reached
use Rattle.ar_safety.proofs.Values.{IsThere, both, both_hold, on_bool, on_list}

abbrev pub at : (index : ℕ) → List Value → List Loop → (cost : ℕ) → State
at index operands loops cost = record { index = index; operands = operands; loops = loops; cost = cost }

-- ---- answers of loops

count_found : (found : List Value) → count (items_of found) ≡ length found
count_found [] = refl
count_found (v ∷ found) = ap suc (count_found found)

-- what a loop returns on the items that were found is of its kind
answer_fits : (predicate : Predicate) (shape : Shape) (most : ℕ) (found : List Value) → all_items (λ v. fits v shape) (items_of found) ≡ true → length found ≤ most → fits_kind (loop_answer predicate found) (answer_kind predicate shape most) ≡ true
answer_fits predicates.All shape most found all few = refl
answer_fits predicates.Any shape most found all few = refl
answer_fits predicates.None shape most found all few = refl
answer_fits predicates.One shape most found all few = refl
answer_fits predicates.Count shape most found all few = refl
answer_fits predicates.Filter shape most found all few =
    let short : nat_le (count (items_of found)) most ≡ true = rw (count_found found) (grind (arith, nat_tests)) in
    both (nat_le (count (items_of found)) most) (all_items (λ v. fits v shape) (items_of found)) short all

-- what an item decides is of the loop's kind
decided_fits : (predicate : Predicate) (shape : Shape) (most : ℕ) (holds : Bool) → IfSome (decided predicate holds) (λ answer. fits_kind answer (answer_kind predicate shape most) ≡ true)
decided_fits predicates.All shape most false = refl
decided_fits predicates.All shape most true = tt
decided_fits predicates.Any shape most true = refl
decided_fits predicates.Any shape most false = tt
decided_fits predicates.None shape most true = refl
decided_fits predicates.None shape most false = tt
decided_fits predicates.One shape most holds = tt
decided_fits predicates.Count shape most holds = tt
decided_fits predicates.Filter shape most holds = tt

all_found : (shape : Shape) (found : List Value) (v : Value) → all_items (λ v. fits v shape) (items_of found) ≡ true → fits v shape ≡ true → all_items (λ v. fits v shape) (items_of (found ++ v ∷ [])) ≡ true
all_found shape [] v all fit = both (fits v shape) true fit refl
all_found shape (first ∷ found) v all fit =
    let each = both_hold (fits first shape) (all_items (λ v. fits v shape) (items_of found)) all in
    both (fits first shape) (all_items (λ v. fits v shape) (items_of (found ++ v ∷ []))) each.0 (all_found shape found v each.1 fit)

one_more : (found : List Value) (v : Value) → length (found ++ v ∷ []) ≡ suc (length found)
one_more [] v = refl
one_more (first ∷ found) v = ap suc (one_more found v)

itself : (n : ℕ) → (n == n) ≡ true
itself n = grind (arith, nat_tests)

-- the items that were found once one more was examined
found_more : (holds : Bool) (loop : Loop) (shape : Shape) → all_items (λ v. fits v shape) (items_of loop.found) ≡ true → fits loop.here shape ≡ true
    → (all_items (λ v. fits v shape) (items_of (found_by holds loop)) ≡ true) × (length (found_by holds loop) ≤ suc (length loop.found))
found_more true loop shape all fit = (all_found shape loop.found loop.here all fit, rw (one_more loop.found loop.here) (omega arith))
found_more false loop shape all fit = (all, omega arith)

same_head : {A : Type 0} (x y : A) (xs ys : List A) → (x ∷ xs) ≡ (y ∷ ys) → x ≡ y
same_head x y xs ys h = cc

no_loops : (enters : List ℕ) → same_loops enters [] ≡ true → enters ≡ []
no_loops [] h = refl
no_loops (enter ∷ enters) h = absurd cc

-- ---- operands

nothing_else : (others : List Value) → Fit others [] → (P : List Value → Type 0) → P [] → P others
nothing_else [] fit P h = h
nothing_else (v ∷ others) fit P h = absurd fit

enough : (m n : ℕ) → m ≤ n → nat_le m n ≡ true
enough m n h = grind (arith, nat_tests)

pub length_both : {A : Type 0} (xs ys : List A) → length (xs ++ ys) ≡ length xs + length ys
length_both [] ys = omega arith
length_both (x ∷ xs) ys = let rest = length_both xs ys in omega arith

-- an operation that is let through has its operands
has_operands : (op : Op) (had : Operands) → lacks op had ≡ false → takes op ≤ length had.kinds
has_operands (Push sources.Item) had h = omega arith
has_operands op had h = grind (arith, nat_tests)

-- ---- what is still to pay

-- for each index what is to pay from there at most, by what is to pay from the indexes that a run may reach
pub record Prices (ops : List Op) (sents : List Sent) (due : ℕ → ℕ) : Type 0 where
  pub some : (index : ℕ) (op : Op) → slice_get ops index ≡ Some op → 1 ≤ due index
  pub next : (index : ℕ) (op : Op) → slice_get ops index ≡ Some op → Continues op → price op (most_at ops sents index) + due (suc index) ≤ due index
  pub jump : (index target : ℕ) (op : Op) → slice_get ops index ≡ Some op → JumpsTo op target → suc (due target) ≤ due index
  pub loop : (index step : ℕ) (predicate : Predicate) → slice_get ops index ≡ Some (Enter predicate step) → suc (most_at ops sents index * due (suc index) + due (suc step)) ≤ due index

-- where an Enter's Step is
abbrev pub step_of : Option Op → ℕ
step_of (Some (Enter predicate step)) = step
step_of op = 0

module _ (code : Code) (shape : Shape) (sents : List Sent) (is : Clean code shape sents) (tables : (index : ℕ) (op : Op) → slice_get code.ops index ≡ Some op → Inside (length code.texts) (length code.names) op)
    (value : Value) (fit_value : fits value shape ≡ true) (due : ℕ → ℕ) (prices : Prices code.ops sents due) where
  abbrev At : (index : ℕ) → Op → Type 0
  At index op = slice_get code.ops index ≡ Some op

  abbrev around : ℕ → Around
  around enter = reached.around code shape sents is enter

  -- the loops that have begun are to end with these
  abbrev pub waiting : List Loop → ℕ
  waiting [] = 0
  waiting (loop ∷ outer) = count loop.rest * due (suc loop.enter) + due (suc (step_of (slice_get code.ops loop.enter))) + waiting outer

  -- ---- states that a run reaches

  -- a loop that has begun, by its Enter: what is below its floor, and below that of the loop around it
  pub record InLoop (loop : Loop) (enter : ℕ) (base lower : List Value) : Type 0 where
    pub of : loop.enter ≡ enter
    pub here : fits loop.here (around enter).item ≡ true
    pub rest : all_items (λ v. fits v (around enter).item) loop.rest ≡ true
    pub found : all_items (λ v. fits v (around enter).item) (items_of loop.found) ≡ true
    pub few : length loop.found + suc (count loop.rest) ≤ (around enter).most
    pub floor : loop.floor ≡ length base
    pub below : List Value
    pub are : base ≡ below ++ lower
    pub fit : Fit below (around enter).below

  abbrev pub InLoops : List Loop → List ℕ → List Value → Type 0
  InLoops [] [] base = base ≡ []
  InLoops (loop ∷ outer) (enter ∷ enters) base = (lower : List Value) × InLoop loop enter base lower × InLoops outer enters lower
  InLoops [] (enter ∷ enters) base = ⊥
  InLoops (loop ∷ outer) [] base = ⊥

  -- operands of the kinds that arrive above the floor, and loops that have begun around the index
  pub record Good (s : State) : Type 0 where
    pub op : Op
    pub there : At s.index op
    pub top : List Value
    pub base : List Value
    pub are : s.operands ≡ top ++ base
    pub fit : Fit top (reached.here code shape sents is s.index op there).had.kinds
    pub loops : InLoops s.loops (loops_around code.ops s.index) base

  floor_is : (loops : List Loop) (enters : List ℕ) (base : List Value) → InLoops loops enters base → machine.floor loops ≡ length base
  floor_is [] [] base none = ap length (sym none)
  floor_is (loop ∷ outer) (enter ∷ enters) base h = h.1.floor
  floor_is [] (enter ∷ enters) base h = absurd h
  floor_is (loop ∷ outer) [] base h = absurd h

  -- the current item fits
  item_is : (loops : List Loop) (enters : List ℕ) (base : List Value) → InLoops loops enters base → IsThere (innermost_shape (map around enters)) (here loops)
  item_is [] [] base none = tt
  item_is (loop ∷ outer) (enter ∷ enters) base h = h.1.here
  item_is [] (enter ∷ enters) base h = absurd h
  item_is (loop ∷ outer) [] base h = absurd h

  -- ---- where a step leads

  -- on, at a cost, to where less is to pay; or to an end that was paid
  abbrev pub Leads : (index : ℕ) → List Loop → (cost : ℕ) → Next → Type 0
  Leads index loops cost (proceeds t) = Good t × (suc cost ≤ t.cost) × (t.cost + (due t.index + waiting t.loops) ≤ cost + (due index + waiting loops))
  Leads index loops cost (ends answer total) = total ≤ cost + (due index + waiting loops)
  Leads index loops cost (stuck nowhere) = ⊥

  one_arrival : (index : ℕ) (had other : Operands) → arrival index sents ≡ Ok had → arrival index sents ≡ Ok other → had ≡ other
  one_arrival index had other h k = cc

  -- what is sent is a state of a run, once it comes
  pub comes_good : (one : Sent) → Comes code shape sents is one → (top base : List Value) (loops : List Loop) (cost : ℕ) → Fit top one.operands.kinds → InLoops loops (loops_around code.ops one.target) base
      → Good (at one.target (top ++ base) loops cost)
  comes_good one come top base loops cost fit around_it =
      let index = reached.here code shape sents is one.target come.next come.there in
      let alike : come.had ≡ index.had = one_arrival one.target come.had index.had come.arrives index.arrives in
      record { op = come.next; there = come.there; top = top; base = base; are = refl; fit = subst (λ had. Fit top had.kinds) alike (come.room top fit); loops = around_it }

  leads_to : (one : Sent) → Comes code shape sents is one → (index : ℕ) (top base : List Value) (loops : List Loop) (cost total : ℕ) → Fit top one.operands.kinds → InLoops loops (loops_around code.ops one.target) base
      → suc cost ≤ total → total + due one.target ≤ cost + due index → Leads index loops cost (proceeds (at one.target (top ++ base) loops total))
  leads_to one come index top base loops cost total fit around_it more enough = (comes_good one come top base loops total fit around_it, more, omega arith)

  if_leads : (test : Bool) (one other : Next) (index : ℕ) (loops : List Loop) (cost : ℕ) → Leads index loops cost one → Leads index loops cost other → Leads index loops cost (if test then one else other)
  if_leads true one other index loops cost h k = h
  if_leads false one other index loops cost h k = k

  either_index : (test : Bool) (one other index : ℕ) (loops : List Loop) (cost : ℕ) (operands : List Value) → Leads index loops cost (proceeds (at one operands loops (cost + 1))) → Leads index loops cost (proceeds (at other operands loops (cost + 1)))
      → Leads index loops cost (proceeds (at (if test then one else other) operands loops (cost + 1)))
  either_index true one other index loops cost operands h k = h
  either_index false one other index loops cost operands h k = k

  -- a boolean on top leads on
  boolean_leads : (next : Bool → List Value → Next) (at_index index : ℕ) (loops : List Loop) (cost : ℕ) (top base : List Value) (taken : List Kind) → Fit top (boolean_kind ∷ taken)
      → ((holds : Bool) (others : List Value) → Fit others taken → Leads index loops cost (next holds (others ++ base))) → Leads index loops cost (machine.on_boolean at_index (top ++ base) next)
  boolean_leads next at_index index loops cost (v ∷ others) base taken fit each =
      on_bool (λ v. Leads index loops cost (machine.on_boolean at_index (v ∷ (others ++ base)) next)) (λ holds. each holds others fit.1) v fit.0
  boolean_leads next at_index index loops cost [] base taken fit each = absurd fit

  two_come : (first second : Sent) (more : List Sent) → Answers code shape (Ok (first ∷ second ∷ [])) more → AllByRecursion (Comes code shape sents is) more → Comes code shape sents is first × Comes code shape sents is second
  two_come first second more h all = let both = subst (AllByRecursion (Comes code shape sents is)) (sym (same_sent code shape (first ∷ second ∷ []) more h)) all in (both.0, both.1.0)

  one_comes : (first : Sent) (more : List Sent) → Answers code shape (Ok (first ∷ [])) more → AllByRecursion (Comes code shape sents is) more → Comes code shape sents is first
  one_comes first more h all = (subst (AllByRecursion (Comes code shape sents is)) (sym (same_sent code shape (first ∷ []) more h)) all).0

  -- what holds of the loops around `index` holds where the same are around
  same_around : (index target : ℕ) (loops : List Loop) (base : List Value) → loops_around code.ops index ≡ loops_around code.ops target → InLoops loops (loops_around code.ops index) base → InLoops loops (loops_around code.ops target) base
  same_around index target loops base same h = subst (λ enters. InLoops loops enters base) same h

  abbrev Here_at : (index : ℕ) (op : Op) → At index op → Here code shape sents is index op
  Here_at index op there = reached.here code shape sents is index op there

  -- ---- jumps

  abbrev Steps : (index : ℕ) (op : Op) → At index op → Type 0
  Steps index op there = (top base : List Value) (loops : List Loop) (cost : ℕ) → Fit top (Here_at index op there).had.kinds → InLoops loops (loops_around code.ops index) base
      → Leads index loops cost (performed code value op (at index (top ++ base) loops (cost + 1)))

  and_leads : (index target : ℕ) (there : At index (Jump And target)) → Steps index (Jump And target) there
  and_leads index target there top base loops cost fit around_it =
      let h = Here_at index (Jump And target) there in
      let on = passing.on_top h.had.kinds (λ taken. Ok (sent target h.had.kinds h.had.loops ∷ sent (suc index) taken h.had.loops ∷ [])) h.more h.sends.passed in
      let come = two_come (sent target h.had.kinds h.had.loops) (sent (suc index) on.taken h.had.loops) h.more on.sent h.come in
      let jump = jumps_well code shape sents is index target (Jump And target) refl there in
      let next : 1 + due (suc index) ≤ due index = prices.next index (Jump And target) there tt in
      let far : suc (due target) ≤ due index = prices.jump index target (Jump And target) there refl in
      boolean_leads _ index index loops cost top base on.taken (subst (λ kinds. Fit top kinds) on.are fit)
      (λ holds others fits. if_leads holds _ _ index loops cost
      (leads_to (sent (suc index) on.taken h.had.loops) come.1 index others base loops cost (cost + 1) fits (same_around index (suc index) loops base (sym (around_next code shape sents is index (Jump And target) there tt)) around_it) (omega arith) (omega arith))
      (leads_to (sent target h.had.kinds h.had.loops) come.0 index top base loops cost (cost + 1) fit (same_around index target loops base jump.2 around_it) (omega arith) (omega arith)))

  or_leads : (index target : ℕ) (there : At index (Jump Or target)) → Steps index (Jump Or target) there
  or_leads index target there top base loops cost fit around_it =
      let h = Here_at index (Jump Or target) there in
      let on = passing.on_top h.had.kinds (λ taken. Ok (sent target h.had.kinds h.had.loops ∷ sent (suc index) taken h.had.loops ∷ [])) h.more h.sends.passed in
      let come = two_come (sent target h.had.kinds h.had.loops) (sent (suc index) on.taken h.had.loops) h.more on.sent h.come in
      let jump = jumps_well code shape sents is index target (Jump Or target) refl there in
      let next : 1 + due (suc index) ≤ due index = prices.next index (Jump Or target) there tt in
      let far : suc (due target) ≤ due index = prices.jump index target (Jump Or target) there refl in
      boolean_leads _ index index loops cost top base on.taken (subst (λ kinds. Fit top kinds) on.are fit)
      (λ holds others fits. if_leads holds _ _ index loops cost
      (leads_to (sent target h.had.kinds h.had.loops) come.0 index top base loops cost (cost + 1) fit (same_around index target loops base jump.2 around_it) (omega arith) (omega arith))
      (leads_to (sent (suc index) on.taken h.had.loops) come.1 index others base loops cost (cost + 1) fits (same_around index (suc index) loops base (sym (around_next code shape sents is index (Jump Or target) there tt)) around_it) (omega arith) (omega arith)))

  -- to one of two indexes, with the same operands
  branch_leads : (index target : ℕ) (there : At index (Jump Branch target)) → Steps index (Jump Branch target) there
  branch_leads index target there top base loops cost fit around_it =
      let h = Here_at index (Jump Branch target) there in
      let on = passing.on_top h.had.kinds (λ taken. Ok (sent target taken h.had.loops ∷ sent (suc index) taken h.had.loops ∷ [])) h.more h.sends.passed in
      let come = two_come (sent target on.taken h.had.loops) (sent (suc index) on.taken h.had.loops) h.more on.sent h.come in
      let jump = jumps_well code shape sents is index target (Jump Branch target) refl there in
      let next : 1 + due (suc index) ≤ due index = prices.next index (Jump Branch target) there tt in
      let far : suc (due target) ≤ due index = prices.jump index target (Jump Branch target) there refl in
      boolean_leads _ index index loops cost top base on.taken (subst (λ kinds. Fit top kinds) on.are fit)
      (λ holds others fits. either_index holds (suc index) target index loops cost (others ++ base)
      (leads_to (sent (suc index) on.taken h.had.loops) come.1 index others base loops cost (cost + 1) fits (same_around index (suc index) loops base (sym (around_next code shape sents is index (Jump Branch target) there tt)) around_it) (omega arith) (omega arith))
      (leads_to (sent target on.taken h.had.loops) come.0 index others base loops cost (cost + 1) fits (same_around index target loops base jump.2 around_it) (omega arith) (omega arith)))

  jump_leads : (index target : ℕ) (there : At index (Jump Always target)) → Steps index (Jump Always target) there
  jump_leads index target there top base loops cost fit around_it =
      let h = Here_at index (Jump Always target) there in
      let come = one_comes (sent target h.had.kinds h.had.loops) h.more h.sends.passed h.come in
      let jump = jumps_well code shape sents is index target (Jump Always target) refl there in
      let far : suc (due target) ≤ due index = prices.jump index target (Jump Always target) there refl in
      leads_to (sent target h.had.kinds h.had.loops) come index top base loops cost (cost + 1) fit (same_around index target loops base jump.2 around_it) (omega arith) (omega arith)

  -- ---- operations that continue at the next index

  where_some : {A : Type 0} (o : Option A) (P : Type 0) → P → IfSome o (λ x. P)
  where_some (Some x) P p = p
  where_some None P p = tt

  cost_of_member : (top base : List Value) (kinds : List Kind) → Fit top kinds → IfSome (on_two_kinds member_kind kinds) (λ given. cost_of (Binary binary.IsIn) (top ++ base) ≤ price (Binary binary.IsIn) (most_on_top kinds))
  cost_of_member (v ∷ top) base (shaped (shapes.list shape most) ∷ left ∷ kinds) fit =
      where_some (option_map (λ given. given ∷ kinds) (member_kind left (shaped (shapes.list shape most)))) (cost_of (Binary binary.IsIn) (v ∷ (top ++ base)) ≤ suc most)
      (on_list (λ v. cost_of (Binary binary.IsIn) (v ∷ (top ++ base)) ≤ suc most) shape most (λ items short all. grind (arith, nat_tests)) v fit.0)
  cost_of_member [] base (shaped (shapes.list shape most) ∷ left ∷ kinds) fit = absurd fit
  cost_of_member top base (kind ∷ left ∷ kinds) fit = tt
  cost_of_member top base (kind ∷ []) fit = tt
  cost_of_member top base [] fit = tt

  -- an operation that continues costs at most what is said of it
  cost_is_paid : (of : Option Shape) (op : Op) (top base : List Value) (kinds : List Kind) → Fit top kinds → IfSome (kinds_left code shape of op kinds) (λ given. cost_of op (top ++ base) ≤ price op (most_on_top kinds))
  cost_is_paid of (Binary binary.IsIn) top base kinds fit = cost_of_member top base kinds fit
  cost_is_paid of op top base kinds fit = where_some (kinds_left code shape of op kinds) (1 ≤ 1) (omega arith)

  -- where an operation gives operands, or meets a fault
  falls_on : (index : ℕ) (op : Op) → At index op → Continues op → IsNoLoop op → (kinds : List Kind) (loops_before : List Around) → Comes code shape sents is (sent (suc index) kinds loops_before)
      → (base operands : List Value) (loops : List Loop) (cost more : ℕ) (m : Result (List Value) Failure) → Leaves base kinds m → InLoops loops (loops_around code.ops index) base
      → 1 ≤ more → more + due (suc index) ≤ due index → Leads index loops cost (falls (at index operands loops (cost + more)) m)
  falls_on index op there on plain kinds loops_before come base operands loops cost more (Ok given) leaves around_it some enough =
      subst (λ given. Leads index loops cost (proceeds (at (suc index) given loops (cost + more)))) (sym leaves.1)
      (leads_to (sent (suc index) kinds loops_before) come index leaves.0 base loops cost (cost + more) leaves.2 (same_around index (suc index) loops base (sym (around_next code shape sents is index op there plain)) around_it) (omega arith) (omega arith))
  falls_on index op there on plain kinds loops_before come base operands loops cost more (Err (faulted fault)) leaves around_it some enough = omega arith
  falls_on index op there on plain kinds loops_before come base operands loops cost more (Err ill_kinded) leaves around_it some enough = absurd leaves

  some_cost : (op : Op) (operands : List Value) → 1 ≤ cost_of op operands
  some_cost (Binary binary.IsIn) (values.list items ∷ operands) = omega arith
  some_cost (Binary binary.IsIn) operands = omega arith
  some_cost op operands = omega arith

  -- what is due at `index`, by what arrives there
  due_here : (index : ℕ) (op : Op) (there : At index op) → Continues op → price op (most_on_top (Here_at index op there).had.kinds) + due (suc index) ≤ due index
  due_here index op there on =
      let h = Here_at index op there in
      let next = prices.next index op there on in
      let most : most_at code.ops sents index ≡ most_on_top h.had.kinds = ap most_items h.arrives in
      rw most at next

  given_leads : (index : ℕ) (op : Op) (there : At index op) → Continues op → IsNoLoop op → (top base : List Value) (loops : List Loop) (cost : ℕ) → Fit top (Here_at index op there).had.kinds → InLoops loops (loops_around code.ops index) base
      → passed_on code shape index op (Here_at index op there).had.kinds (Here_at index op there).had.loops ≡ to_next index (Here_at index op there).had.loops (kinds_left code shape (innermost_shape (Here_at index op there).had.loops) op (Here_at index op there).had.kinds)
      → Leads index loops cost (falls (at index (top ++ base) loops (cost + cost_of op (top ++ base))) (machine.effect code value (here loops) op (top ++ base)))
  given_leads index op there on plain top base loops cost fit around_it is_next =
      let h = Here_at index op there in
      let next = passing.proceeds_next index h.had.loops (kinds_left code shape (innermost_shape h.had.loops) op h.had.kinds) h.more (sym is_next ∙ h.sends.passed) in
      let come = one_comes (sent (suc index) next.kinds h.had.loops) h.more (ap Ok (sym next.sent)) h.come in
      let item_there : IsThere (innermost_shape h.had.loops) (here loops) = subst (λ arounds. IsThere (innermost_shape arounds) (here loops)) (sym h.loops) (item_is loops (loops_around code.ops index) base around_it) in
      let sound = effect_sound base code value shape fit_value (here loops) (innermost_shape h.had.loops) item_there op (tables index op there) top h.had.kinds fit in
      let leaves : Leaves base next.kinds (machine.effect code value (here loops) op (top ++ base)) = subst (λ given. IfSome given (λ kinds. Leaves base kinds (machine.effect code value (here loops) op (top ++ base)))) next.are sound in
      let cheap : cost_of op (top ++ base) ≤ price op (most_on_top h.had.kinds) = subst (λ given. IfSome given (λ kinds. cost_of op (top ++ base) ≤ price op (most_on_top h.had.kinds))) next.are (cost_is_paid (innermost_shape h.had.loops) op top base h.had.kinds fit) in
      let some = some_cost op (top ++ base) in
      let enough = due_here index op there on in
      falls_on index op there on plain next.kinds h.had.loops come base (top ++ base) loops cost (cost_of op (top ++ base)) (machine.effect code value (here loops) op (top ++ base)) leaves around_it some (omega arith)

  -- ---- loops

  around_is : (index step : ℕ) (predicate : Predicate) (there : At index (Enter predicate step)) (kinds : List Kind) → (Here_at index (Enter predicate step) there).had.kinds ≡ kinds → around index ≡ over_list kinds
  around_is index step predicate there kinds are = ap reached.loop_over (Here_at index (Enter predicate step) there).arrives ∙ ap over_list are

  most_is : (index : ℕ) (op : Op) (there : At index op) (kinds : List Kind) → (Here_at index op there).had.kinds ≡ kinds → most_at code.ops sents index ≡ most_on_top kinds
  most_is index op there kinds are = ap most_items (Here_at index op there).arrives ∙ ap most_on_top are

  all_paid : (items most each : ℕ) → suc items ≤ most → items * each + each ≤ most * each
  all_paid items most each few = let times = mul-le-mul_right each few in let split = suc-mul items each in omega (arith, times, split)

  -- an Enter on a list of values that fit
  list_entered : (index step : ℕ) (predicate : Predicate) → At index (Enter predicate step) → (shape_of : Shape) (most : ℕ) (below : List Kind) → around index ≡ record { item = shape_of; most = most; below = below }
      → most_at code.ops sents index ≡ most → (loops_before : List Around) → Comes code shape sents is (sent (suc index) [] (record { item = shape_of; most = most; below = below } ∷ loops_before))
      → Comes code shape sents is (sent (suc step) (answer_kind predicate shape_of most ∷ below) loops_before) → (items : Items) → nat_le (count items) most ≡ true → all_items (λ v. fits v shape_of) items ≡ true
      → (operands others base : List Value) (loops : List Loop) (cost : ℕ) → Fit others below → InLoops loops (loops_around code.ops index) base
      → Leads index loops cost (entered predicate step (values.list items ∷ (others ++ base)) (at index operands loops (cost + 1)))
  list_entered index step predicate there shape_of most below over most_there loops_before body later no_items short all operands others base loops cost fit around_it =
      let price_of = prices.loop index step predicate there in
      leads_to (sent (suc step) (answer_kind predicate shape_of most ∷ below) loops_before) later index (loop_answer predicate [] ∷ others) base loops cost (cost + 1) (answer_fits predicate shape_of most [] refl (omega arith), fit)
      (same_around index (suc step) loops base (sym (around_after code shape sents is index step predicate there)) around_it) (omega arith) (omega arith)
  list_entered index step predicate there shape_of most below over most_there loops_before body later (item first rest) short all operands others base loops cost fit around_it =
      let price_of : suc (most * due (suc index) + due (suc step)) ≤ due index = rw most_there at (prices.loop index step predicate there) in
      let each = both_hold (fits first shape_of) (all_items (λ v. fits v shape_of) rest) all in
      let few : suc (count rest) ≤ most = leb-true (suc (count rest)) most short in
      let paid_for = all_paid (count rest) most (due (suc index)) few in
      let step_there : step_of (slice_get code.ops index) ≡ step = ap step_of there in
      let loop : Loop = record { enter = index; here = first; rest = rest; floor = length (others ++ base); found = [] } in
      let in_loop : InLoop loop index (others ++ base) base = record {
        of = refl;
        here = subst (λ a. fits first a.item ≡ true) (sym over) each.0;
        rest = subst (λ a. all_items (λ v. fits v a.item) rest ≡ true) (sym over) each.1;
        found = refl;
        few = subst (λ a. 0 + suc (count rest) ≤ a.most) (sym over) (omega arith);
        floor = refl;
        below = others;
        are = refl;
        fit = subst (λ a. Fit others a.below) (sym over) fit;
      } in
      let begun = subst (λ enters. InLoops (loop ∷ loops) enters (others ++ base)) (sym (around_body code shape sents is index step predicate there)) (base, in_loop, around_it) in (
        comes_good (sent (suc index) [] (record { item = shape_of; most = most; below = below } ∷ loops_before)) body [] (others ++ base) (loop ∷ loops) (cost + 1) tt begun,
        omega arith,
        subst (λ step. cost + 1 + (due (suc index) + (count rest * due (suc index) + due (suc step) + waiting loops)) ≤ cost + (due index + waiting loops)) (sym step_there) (omega arith),
      )

  enter_leads : (index step : ℕ) (predicate : Predicate) (there : At index (Enter predicate step)) → Steps index (Enter predicate step) there
  enter_leads index step predicate there (v ∷ others) base loops cost fit around_it =
      let h = Here_at index (Enter predicate step) there in
      let enter = passing.enters predicate index step h.had.kinds h.had.loops h.more h.sends.passed in
      let come = two_come _ _ h.more (ap Ok (sym enter.sent)) h.come in
      let fits_top : Fit (v ∷ others) (shaped (shapes.list enter.item enter.most) ∷ enter.below) = subst (λ kinds. Fit (v ∷ others) kinds) enter.are fit in
      on_list (λ w. Leads index loops cost (entered predicate step (w ∷ (others ++ base)) (at index (v ∷ (others ++ base)) loops (cost + 1)))) enter.item enter.most
      (λ items short all. list_entered index step predicate there enter.item enter.most enter.below (around_is index step predicate there _ enter.are) (most_is index (Enter predicate step) there _ enter.are) h.had.loops come.0 come.1 items short all (v ∷ (others ++ base)) others base loops cost fits_top.1 around_it) v fits_top.0
  enter_leads index step predicate there [] base loops cost fit around_it =
      let h = Here_at index (Enter predicate step) there in
      let enter = passing.enters predicate index step h.had.kinds h.had.loops h.more h.sends.passed in
      absurd (subst (λ kinds. Fit [] kinds) enter.are fit)

  -- at a Step, on with the next item, or after the loop: both indexes come, with the loops around them
  record AtStep (index enter : ℕ) (predicate : Predicate) (loop : Loop) (outer : List Loop) (base lower : List Value) : Type 0 where
    the_enter : At enter (Enter predicate index)
    in_loop : InLoop loop enter base lower
    around_it : InLoops outer (loops_around code.ops enter) lower
    some : 1 ≤ due index
    after_loops : List Around
    later : Comes code shape sents is (sent (suc index) (answer_kind predicate (around enter).item (around enter).most ∷ (around enter).below) after_loops)
    held_after : loops_around code.ops (suc index) ≡ loops_around code.ops enter
    body_loops : List Around
    body : Comes code shape sents is (sent (suc enter) [] body_loops)
    held_body : loops_around code.ops (suc enter) ≡ enter ∷ loops_around code.ops enter

  module _ (index enter : ℕ) (predicate : Predicate) (loop : Loop) (outer : List Loop) (base lower : List Value) (s : AtStep index enter predicate loop outer base lower) where
    due_loop : ℕ
    due_loop = count loop.rest * due (suc enter) + due (suc index) + waiting outer

    -- what is due once the loop is to continue
    waiting_is : (items : ℕ) → items * due (suc loop.enter) + due (suc (step_of (slice_get code.ops loop.enter))) + waiting outer ≡ items * due (suc enter) + due (suc index) + waiting outer
    waiting_is items = rw (s.in_loop.of, s.the_enter) refl

    left_leads : (answer : Value) (operands : List Value) (loops : List Loop) (cost : ℕ) → fits_kind answer (answer_kind predicate (around enter).item (around enter).most) ≡ true
        → Leads index (loop ∷ outer) cost (after_loop answer outer base (at index operands loops (cost + 1)))
    left_leads answer operands loops cost fit =
        let some = s.some in
        let wait = waiting_is (count loop.rest) in
        let good : Good (at (suc index) (answer ∷ (s.in_loop.below ++ lower)) outer (cost + 1)) =
        comes_good _ s.later (answer ∷ s.in_loop.below) lower outer (cost + 1) (fit, s.in_loop.fit) (subst (λ enters. InLoops outer enters lower) (sym s.held_after) s.around_it) in
        (subst (λ base. Good (at (suc index) (answer ∷ base) outer (cost + 1))) (sym s.in_loop.are) good, omega arith, rw wait (omega arith))

    next_leads : (found : List Value) → all_items (λ v. fits v (around enter).item) (items_of found) ≡ true → length found ≤ suc (length loop.found) → (rest : Items) → loop.rest ≡ rest → (operands : List Value) (loops : List Loop) (cost : ℕ)
        → Leads index (loop ∷ outer) cost (next_item predicate loop found rest outer base (at index operands loops (cost + 1)))
    next_leads found all_fit grown no_items is_rest operands loops cost =
        let few : length loop.found + suc (count loop.rest) ≤ (around enter).most = s.in_loop.few in
        left_leads (loop_answer predicate found) operands loops cost (answer_fits predicate (around enter).item (around enter).most found all_fit (omega arith))
    next_leads found all_fit grown (item next others) is_rest operands loops cost =
        let some = s.some in
        let few : length loop.found + suc (suc (count others)) ≤ (around enter).most = subst (λ rest. length loop.found + suc (count rest) ≤ (around enter).most) is_rest s.in_loop.few in
        let each = both_hold (fits next (around enter).item) (all_items (λ v. fits v (around enter).item) others) (subst (λ rest. all_items (λ v. fits v (around enter).item) rest ≡ true) is_rest s.in_loop.rest) in
        let again : Loop = record { enter = loop.enter; here = next; rest = others; floor = loop.floor; found = found } in
        let in_again : InLoop again enter base lower = record {
          of = s.in_loop.of;
          here = each.0;
          rest = each.1;
          found = all_fit;
          few = omega arith;
          floor = s.in_loop.floor;
          below = s.in_loop.below;
          are = s.in_loop.are;
          fit = s.in_loop.fit;
        } in
        let good : Good (at (suc enter) base (again ∷ outer) (cost + 1)) = comes_good _ s.body [] base (again ∷ outer) (cost + 1) tt (subst (λ enters. InLoops (again ∷ outer) enters base) (sym s.held_body) (lower, in_again, s.around_it)) in
        let before : waiting (loop ∷ outer) ≡ suc (count others) * due (suc enter) + due (suc index) + waiting outer = waiting_is (count loop.rest) ∙ ap (λ rest. count rest * due (suc enter) + due (suc index) + waiting outer) is_rest in
        let split = suc-mul (count others) (due (suc enter)) in (
          subst (λ begin. Good (at (suc begin) base (again ∷ outer) (cost + 1))) (sym s.in_loop.of) good,
          omega arith,
          rw (before, waiting_is (count others), s.in_loop.of) (omega (arith, split, some)),
        )

    looks : (holds : Bool) (decides : Option Value) → decided predicate holds ≡ decides → (operands : List Value) (loops : List Loop) (cost : ℕ)
        → Leads index (loop ∷ outer) cost (looked_at predicate holds loop outer base (at index operands loops (cost + 1)) decides)
    looks holds (Some answer) decides operands loops cost =
        left_leads answer operands loops cost (subst (λ decided. IfSome decided (λ answer. fits_kind answer (answer_kind predicate (around enter).item (around enter).most) ≡ true)) decides (decided_fits predicate (around enter).item (around enter).most holds))
    looks holds None decides operands loops cost =
        let more = found_more holds loop (around enter).item s.in_loop.found s.in_loop.here in
        next_leads (found_by holds loop) more.0 more.1 loop.rest refl operands loops cost

    begins_it : (loop.enter == enter && begins_loop predicate index (slice_get code.ops enter)) ≡ true
    begins_it = both (loop.enter == enter) (begins_loop predicate index (slice_get code.ops enter)) (rw s.in_loop.of (itself enter)) (rw s.the_enter (both (is_same predicate predicate) (index == index) (same_as_itself predicate) (itself index)))

  -- what comes after a Step, and at the begin of its loop's body
  at_step : (index enter : ℕ) (predicate : Predicate) (there : At index (Step predicate enter)) (loop : Loop) (outer : List Loop) (base lower : List Value) → InLoop loop enter base lower → InLoops outer (loops_around code.ops enter) lower
      → (taken : List Kind) → loop_ended predicate index taken (Here_at index (Step predicate enter) there).had.loops ≡ Ok (Here_at index (Step predicate enter) there).more → AtStep index enter predicate loop outer base lower
  at_step index enter predicate there loop outer base lower in_loop around_it taken h_ended =
      let h = Here_at index (Step predicate enter) there in
      let own = around_step code shape sents is index enter predicate there in
      let pair = the_enter code shape sents is index enter predicate there in
      let end = passing.ends predicate index taken h.had.loops h.more h_ended in
      let loops_are : (end.loop ∷ end.outer) ≡ map around (enter ∷ loops_around code.ops enter) = sym end.are ∙ h.loops ∙ ap (map around) own.0 in
      let loop_is : end.loop ≡ around enter = same_head end.loop (around enter) end.outer (map around (loops_around code.ops enter)) loops_are in
      let begun = Here_at enter (Enter predicate index) pair.1 in
      let entered_is = passing.enters predicate enter index begun.had.kinds begun.had.loops begun.more begun.sends.passed in
      let body = two_come _ _ begun.more (ap Ok (sym entered_is.sent)) begun.come in
      let later = one_comes _ h.more (ap Ok (sym end.sent)) h.come in
      record {
        the_enter = pair.1;
        in_loop = in_loop;
        around_it = around_it;
        some = prices.some index (Step predicate enter) there;
        after_loops = end.outer;
        later = subst (λ a. Comes code shape sents is (sent (suc index) (answer_kind predicate a.item a.most ∷ a.below) end.outer)) loop_is later;
        held_after = own.1;
        body_loops = _;
        body = body.0;
        held_body = around_body code shape sents is enter index predicate pair.1;
      }

  step_on : (index enter : ℕ) (predicate : Predicate) (there : At index (Step predicate enter)) (top base : List Value) (loops : List Loop) (cost : ℕ) → Fit top (Here_at index (Step predicate enter) there).had.kinds
      → InLoops loops (enter ∷ loops_around code.ops enter) base → Leads index loops cost (stepped code predicate enter loops (at index (top ++ base) loops (cost + 1)))
  step_on index enter predicate there top base [] cost fit around_it = absurd around_it
  step_on index enter predicate there top base (loop ∷ outer) cost fit around_it =
      let h = Here_at index (Step predicate enter) there in
      let on = passing.on_top h.had.kinds (λ taken. loop_ended predicate index taken h.had.loops) h.more h.sends.passed in
      let s = at_step index enter predicate there loop outer base around_it.0 around_it.1 around_it.2 on.taken on.sent in
      let end = passing.ends predicate index on.taken h.had.loops h.more on.sent in
      rw (begins_it index enter predicate loop outer base around_it.0 s)
      (boolean_leads (λ holds operands. looked_at predicate holds loop outer operands (at index (top ++ base) (loop ∷ outer) (cost + 1)) (decided predicate holds)) index index (loop ∷ outer) cost top base on.taken (subst (λ kinds. Fit top kinds) on.are fit)
      (λ holds others fits. nothing_else others (subst (λ kinds. Fit others kinds) end.none fits) (λ others. Leads index (loop ∷ outer) cost (looked_at predicate holds loop outer (others ++ base) (at index (top ++ base) (loop ∷ outer) (cost + 1)) (decided predicate holds)))
      (looks index enter predicate loop outer base around_it.0 s holds (decided predicate holds) refl (top ++ base) (loop ∷ outer) cost)))

  step_leads : (index enter : ℕ) (predicate : Predicate) (there : At index (Step predicate enter)) → Steps index (Step predicate enter) there
  step_leads index enter predicate there top base loops cost fit around_it =
      step_on index enter predicate there top base loops cost fit (subst (λ enters. InLoops loops enters base) (around_step code shape sents is index enter predicate there).0 around_it)

  return_on : (index : ℕ) (there : At index Return) (top base : List Value) (loops : List Loop) (cost : ℕ) → Fit top (Here_at index Return there).had.kinds → InLoops loops [] base
      → Leads index loops cost (machine.returned loops (at index (top ++ base) loops (cost + 1)))
  return_on index there top base [] cost fit around_it =
      let h = Here_at index Return there in
      let on = passing.on_top h.had.kinds (λ taken. Ok []) h.more h.sends.passed in
      let some = prices.some index Return there in
      boolean_leads _ index index [] cost top base on.taken (subst (λ kinds. Fit top kinds) on.are fit) (λ holds others fits. omega arith)
  return_on index there top base (loop ∷ outer) cost fit around_it = absurd around_it

  return_leads : (index : ℕ) (there : At index Return) → Steps index Return there
  return_leads index there top base loops cost fit around_it =
      let none : loops_around code.ops index ≡ [] = no_loops (loops_around code.ops index) (no_reason (same_loops (loops_around code.ops index) []) CrossesLoop (reached.nests code shape sents is index Return there)) in
      return_on index there top base loops cost fit (subst (λ enters. InLoops loops enters base) none around_it)

  -- ---- each operation

  abbrev StepsBy : (index : ℕ) (op : Op) → At index op → Type 0
  StepsBy index op there = (top base : List Value) (loops : List Loop) (cost : ℕ) → Fit top (Here_at index op there).had.kinds → InLoops loops (loops_around code.ops index) base
      → Leads index loops cost (performed code value op (paid op (at index (top ++ base) loops cost)))

  performs : (index : ℕ) (op : Op) (there : At index op) → StepsBy index op there
  performs index (Jump And target) there = and_leads index target there
  performs index (Jump Or target) there = or_leads index target there
  performs index (Jump Branch target) there = branch_leads index target there
  performs index (Jump Always target) there = jump_leads index target there
  performs index (Enter predicate step) there = enter_leads index step predicate there
  performs index (Step predicate enter) there = step_leads index enter predicate there
  performs index Return there = return_leads index there
  performs index op there = λ top base loops cost fit around_it. given_leads index op there tt tt top base loops cost fit around_it refl

  has_room : (index : ℕ) (op : Op) (there : At index op) (top base : List Value) (loops : List Loop) → Fit top (Here_at index op there).had.kinds → InLoops loops (loops_around code.ops index) base
      → nat_le (machine.floor loops + takes op) (length (top ++ base)) ≡ true
  has_room index op there top base loops fit around_it =
      let h = Here_at index op there in
      let takes_few = has_operands op h.had h.sends.enough in
      let tops = fit_length top h.had.kinds fit in
      let floors = floor_is loops (loops_around code.ops index) base around_it in
      let all = length_both top base in
      enough (machine.floor loops + takes op) (length (top ++ base)) (omega arith)

  step_from : (index : ℕ) (op : Op) (there : At index op) (top base : List Value) (loops : List Loop) (cost : ℕ) → Fit top (Here_at index op there).had.kinds → InLoops loops (loops_around code.ops index) base
      → Leads index loops cost (step code value (at index (top ++ base) loops cost))
  unfolding step
  step_from index op there top base loops cost fit around_it = rw (there, has_room index op there top base loops fit around_it) (performs index op there top base loops cost fit around_it)

  -- a step from a state that a run reaches
  pub steps : (s : State) → Good s → Leads s.index s.loops s.cost (step code value s)
  steps s good = subst (λ operands. Leads s.index s.loops s.cost (step code value (at s.index operands s.loops s.cost))) (sym good.are) (step_from s.index good.op good.there good.top good.base s.loops s.cost good.fit good.loops)
