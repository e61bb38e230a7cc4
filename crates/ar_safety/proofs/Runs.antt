-- Runs of code in which the verifier found nothing: they end within what is due at their begin, and never have more operands
-- than arrive anywhere.
use Rattle.std.specs.Prelude.{slice_get}
use Rattle.std.proofs.Common.{◌≡◌, ◌≤◌, ℕ, zero, suc, ◌+◌, max, Bool, true, List, [], ◌∷◌, length, map, Some, Result, refl, ap, subst, arith}
use Rattle.std.specs.List.{AllByRecursion}
use Rattle.ar_value.specs.Fits.{fits}
use Rattle.ar_value.specs.Shape.{Shape}
use Rattle.ar_value.specs.Value.{Value}
use Rattle.ar_value.specs.declared.fault.Fault.{Fault}
use Rattle.ar_value.specs.Limits.{most_loops}
use Rattle.ar_op.specs.Code.{Code, Inside}
use Rattle.ar_op.specs.Machine.{Loop, Next, State, after, begin, ends, follow, proceeds, step, stuck}
use Rattle.ar_op.specs.declared.op.Op.{Op}
use Rattle.ar_safety.specs.Arrivals.{Around, Operands, Sent, deepest, height, sent, sent_to}
use Rattle.ar_safety.specs.Arrivals as arrivals
use Rattle.ar_safety.specs.Indices.{loops_around}
use Rattle.ar_safety.specs.Safety.{IsSafe}
use Rattle.ar_safety.proofs.Arriving.{all_more, arrives, of_index}
use Rattle.ar_safety.proofs.Effects.{fit_length}
use Rattle.ar_safety.proofs.Nested.{few_held}
use Rattle.ar_safety.proofs.Passing.{later_is}
use Rattle.ar_safety.proofs.Reached.{Clean, Comes, all_come}
use Rattle.ar_safety.proofs.Reached as reached
use Rattle.ar_safety.proofs.Sound.{Prices, length_both}
use Rattle.ar_safety.proofs.Sound as sound

-- ---- heights

pub all_below : (sents : List Sent) → AllByRecursion (λ one. height one.operands ≤ deepest sents) sents
all_below [] = tt
all_below (one ∷ others) = (omega arith, all_more (λ other. height other.operands ≤ deepest others) (λ other. height other.operands ≤ max (height one.operands) (deepest others)) others (λ other h. omega arith) (all_below others))

module _ (code : Code) (shape : Shape) (sents : List Sent) (is : Clean code shape sents) (tables : (index : ℕ) (op : Op) → slice_get code.ops index ≡ Some op → Inside (length code.texts) (length code.names) op)
    (value : Value) (fit_value : fits value shape ≡ true) (due : ℕ → ℕ) (prices : Prices code.ops sents due) where
  abbrev Good : State → Type 0
  Good s = sound.Good code shape sents is tables value fit_value due prices s

  abbrev potential : State → ℕ
  potential s = due s.index + sound.waiting code shape sents is tables value fit_value due prices s.loops

  some_due : (s : State) → Good s → 1 ≤ potential s
  some_due s good = let some = prices.some s.index good.op good.there in omega arith

  -- ---- a run ends

  abbrev EndsWithin : ℕ → State → Next → Type 0
  EndsWithin most s next = (answer : Result Bool Fault) × (total : ℕ) × (next ≡ ends answer total) × (total ≤ s.cost + potential s)

  ends_by : (k : ℕ) (s : State) → potential s ≤ suc k → ((t : State) → Good t → potential t ≤ k → EndsWithin k t (after code value k t)) → (next : Next)
      → sound.Leads code shape sents is tables value fit_value due prices s.index s.loops s.cost next → EndsWithin (suc k) s (follow (after code value k) next)
  ends_by k s few further (proceeds t) leads = let rest = further t leads.0 (omega arith) in (rest.0, rest.1, rest.2, omega arith)
  ends_by k s few further (ends answer total) leads = (answer, total, refl, leads)
  ends_by k s few further (stuck index) leads = absurd leads

  ends_from : (k : ℕ) (s : State) → Good s → potential s ≤ k → EndsWithin k s (after code value k s)
  ends_from zero s good few = let some = some_due s good in absurd (omega arith)
  ends_from (suc k) s good few = ends_by k s few (ends_from k) (step code value s) (sound.steps code shape sents is tables value fit_value due prices s good)

  -- ---- what comes after n steps

  abbrev Safe : Next → Type 0
  Safe (proceeds t) = Good t
  Safe (ends answer total) = Unit {0}
  Safe (stuck index) = ⊥

  safe_by : (n : ℕ) (s : State) → ((t : State) → Good t → Safe (after code value n t)) → (next : Next) → sound.Leads code shape sents is tables value fit_value due prices s.index s.loops s.cost next → Safe (follow (after code value n) next)
  safe_by n s further (proceeds t) leads = further t leads.0
  safe_by n s further (ends answer total) leads = tt
  safe_by n s further (stuck index) leads = absurd leads

  safe_after : (n : ℕ) (s : State) → Good s → Safe (after code value n s)
  safe_after zero s good = good
  safe_after (suc n) s good = safe_by n s (safe_after n) (step code value s) (sound.steps code shape sents is tables value fit_value due prices s good)

  -- ---- how many operands there are

  base_length : (loops : List Loop) (enters : List ℕ) (base : List Value) → sound.InLoops code shape sents is tables value fit_value due prices loops enters base → length base ≡ arrivals.floor_height (map (reached.around code shape sents is) enters)
  base_length [] [] base none = ap length none
  base_length (loop ∷ outer) (enter ∷ enters) base h =
      let lower = base_length outer enters h.0 h.2 in
      let below = fit_length h.1.below (reached.around code shape sents is enter).below h.1.fit in
      let both = length_both h.1.below h.0 in
      let all = ap length h.1.are in
      omega arith
  base_length [] (enter ∷ enters) base h = absurd h
  base_length (loop ∷ outer) [] base h = absurd h

  -- what arrives at `index` is no more than what is sent
  arrival_below : (index : ℕ) (op : Op) (there : slice_get code.ops index ≡ Some op) → height (reached.here code shape sents is index op there).had ≤ deepest sents
  arrival_below index op there =
      let h = reached.here code shape sents is index op there in
      let came = arrives (sent_to index sents) h.had h.arrives in
      let below = of_index (λ one. height one ≤ deepest sents) index sents (all_more (λ one. height one.operands ≤ deepest sents) (λ one. one.target ≡ index → height one.operands ≤ deepest sents) sents (λ one low there. low) (all_below sents)) in
      let first : height came.first ≤ deepest sents = (subst (AllByRecursion (λ one. height one ≤ deepest sents)) came.are below).0 in
      let floors : arrivals.floor_height came.first.loops ≡ arrivals.floor_height h.had.loops = ap arrivals.floor_height came.loops in
      let many = came.many in
      omega arith

  operands_below : (s : State) → Good s → length s.operands ≤ deepest sents
  operands_below s good =
      let h = reached.here code shape sents is s.index good.op good.there in
      let tops = fit_length good.top h.had.kinds good.fit in
      let bases = base_length s.loops (loops_around code.ops s.index) good.base good.loops in
      let floors : arrivals.floor_height h.had.loops ≡ arrivals.floor_height (map (reached.around code shape sents is) (loops_around code.ops s.index)) = ap arrivals.floor_height h.loops in
      let both = length_both good.top good.base in
      let all = ap length good.are in
      let below = arrival_below s.index good.op good.there in
      omega arith

  as_many_loops : (loops : List Loop) (enters : List ℕ) (base : List Value) → sound.InLoops code shape sents is tables value fit_value due prices loops enters base → length loops ≡ length enters
  as_many_loops [] [] base none = refl
  as_many_loops (loop ∷ outer) (enter ∷ enters) base h = ap suc (as_many_loops outer enters h.0 h.2)
  as_many_loops [] (enter ∷ enters) base h = absurd h
  as_many_loops (loop ∷ outer) [] base h = absurd h

  loops_below : (s : State) → Good s → length s.loops ≤ most_loops
  loops_below s good =
      let many = as_many_loops s.loops (loops_around code.ops s.index) good.base good.loops in
      let few = few_held code.ops (reached.pairs code shape sents is) (reached.nests code shape sents is) s.index in
      omega arith

  begins : Good begin
  begins =
      let sent_is = later_is code shape code.ops 0 code.ops (sent 0 [] [] ∷ []) sents is.paired is.all in
      let first : Comes code shape sents is (sent 0 [] []) = (subst (AllByRecursion (Comes code shape sents is)) sent_is.are (all_come code shape sents is)).0 in
      sound.comes_good code shape sents is tables value fit_value due prices (sent 0 [] []) first [] [] [] 0 tt refl

  few_after : (n : ℕ) (s : State) (next : Next) → after code value n begin ≡ next → Safe next → next ≡ proceeds s → length s.operands ≤ deepest sents
  few_after n s (proceeds t) come good same = let alike : t ≡ s = cc in subst (λ s. length s.operands ≤ deepest sents) alike (operands_below t good)
  few_after n s (ends answer total) come good same = absurd cc
  few_after n s (stuck index) come good same = absurd cc

  nested_after : (n : ℕ) (s : State) (next : Next) → after code value n begin ≡ next → Safe next → next ≡ proceeds s → length s.loops ≤ most_loops
  nested_after n s (proceeds t) come good same = let alike : t ≡ s = cc in subst (λ s. length s.loops ≤ most_loops) alike (loops_below t good)
  nested_after n s (ends answer total) come good same = absurd cc
  nested_after n s (stuck index) come good same = absurd cc

  never_stuck : (next : Next) (index : ℕ) → Safe next → next ≡ stuck index → ⊥
  never_stuck (proceeds t) index good same = cc
  never_stuck (ends answer total) index good same = cc
  never_stuck (stuck at) index good same = good

  -- a run is safe
  pub runs_safely : IsSafe code value (due 0) (deepest sents)
  runs_safely =
      let end = ends_from (due 0) begin begins (omega arith) in
      record {
        answer = end.0;
        cost = end.1;
        ends = end.2;
        paid = omega (arith, end.3);
        unstuck = λ n index same. never_stuck (after code value n begin) index (safe_after n begin begins) same;
        nested = λ n s same. nested_after n s (after code value n begin) refl (safe_after n begin begins) same;
        few = λ n s same. few_after n s (after code value n begin) refl (safe_after n begin begins) same;
      }
