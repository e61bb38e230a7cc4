-- Loops over the items of a list: an induction on the items to come.
use Rattle.std.proofs.Common.{◌≡◌, ℕ, suc, ◌≤◌, pos, Bool, true, false, List, [], ◌∷◌, ◌++◌, length, Option, Some, None, Result, Ok, Err, refl, sym, ap, subst, ◌∙◌, arith}
use Rattle.std.specs.Prelude.{◌==◌, if◌then◌else◌, slice_get}
use Rattle.std.proofs.lemmas.Bool.{eq-eqb}
use Rattle.ar_value.proofs.Predicates.{itself}
use Rattle.ar_value.specs.Answer.{◌>>=◌}
use Rattle.ar_value.specs.Fits.{all_items, fits}
use Rattle.ar_value.specs.Operators.{Failure, Meaning, faulted, ill_kinded, boolean}
use Rattle.ar_value.specs.Shape.{Shape}
use Rattle.ar_value.specs.Value.{Value, Items, count, item, items_of, no_items}
use Rattle.ar_value.specs.Value as values
use Rattle.ar_value.specs.declared.fault.Fault.{Fault}
use Rattle.ar_value.specs.declared.operator.Predicate.{Predicate}
use Rattle.ar_value.specs.declared.operator.Predicate.TheVariants as predicates
use Rattle.ar_tree.specs.Meaning.{all_hold, any_holds, mean, none_holds, over, those}
use Rattle.ar_tree.specs.Typed.{Typed}
use Rattle.ar_value.specs.Kind.{boolean_kind}
use Rattle.ar_check.proofs.Means.{MeansKind, both_hold}
use Rattle.ar_check.proofs.Operands.{on_bool}
use Rattle.ar_op.specs.Code.{Code}
use Rattle.ar_op.specs.Machine.{Loop, loop_answer, begins_loop, decided, entered, floor, found_by, looked_at, next_item, performed}
use Rattle.ar_op.specs.declared.op.Op.TheVariants.{Enter, Step}
use Rattle.ar_compile.specs.Private.Standing.{At}
use Rattle.ar_compile.proofs.Nodes.{LeadsTo, Reached, leads_fit, room_for_one}
use Rattle.ar_compile.proofs.Steps.{EndsNext, Leads, at, by_op, leads_bind, leads_more}

-- values, and items after them
abbrev before : List Value → Items → Items
before [] items = items
before (value ∷ found) items = item value (before found items)

before_more : (found : List Value) (value : Value) (items : Items) → before (found ++ value ∷ []) items ≡ before found (item value items)
before_more [] value items = refl
before_more (first ∷ found) value items = ap (item first) (before_more found value items)

before_none : (found : List Value) → before found no_items ≡ items_of found
before_none [] = refl
before_none (first ∷ found) = ap (item first) (before_none found)

counted : (found : List Value) → count (items_of found) ≡ length found
counted [] = refl
counted (first ∷ found) = ap suc (counted found)

none_above : (n : ℕ) → n ≤ n
none_above n = omega arith

same_place : (n : ℕ) → (n == n) ≡ true
same_place n = eq-eqb n n refl

-- what is given of all items of which a predicate holds
abbrev whether_one : Items → Value
whether_one all = values.bool (count all == 1)

abbrev how_many : Items → Value
how_many all = values.whole (pos (count all))

module _ (code : Code) (result : Value) (answer : Result Bool Fault) (body : Typed) (enter step : ℕ) (operands : List Value) (loops : List Loop) where
  abbrev LeadsBy : {A : Type 0} → Result A Failure → (A → Type 0) → Type 0
  LeadsBy m P = Leads code result answer m P

  -- leading on, the other way round
  leads_unbind : {A B : Type 0} (m : Result A Failure) (f : A → Result B Failure) (P : B → Type 0) → LeadsBy m (λ x. LeadsBy (f x) P) → LeadsBy (m >>= f) P
  leads_unbind (Ok x) f P h = h
  leads_unbind (Err (faulted fault)) f P h = h
  leads_unbind (Err ill_kinded) f P h = h

  -- whether the predicate holds of an item
  abbrev holds : Value → Result Bool Failure
  holds value = mean result (Some value) body >>= boolean

  -- what is given of the items found before, and of those that are left
  abbrev gathered : (Items → Value) → (found : List Value) → Items → Meaning
  gathered give found items = those holds items >>= λ others. Ok (give (before found others))

  -- what a loop evaluates to over the items that are left, where some were found before
  abbrev left_over : Predicate → (found : List Value) → Items → Meaning
  left_over predicates.All found items = all_hold holds items
  left_over predicates.Any found items = any_holds holds items
  left_over predicates.None found items = none_holds holds items
  left_over predicates.One found items = gathered whether_one found items
  left_over predicates.Count found items = gathered how_many found items
  left_over predicates.Filter found items = gathered values.list found items

  -- nothing was found before the first
  from_start : (predicate : Predicate) (items : Items) (P : Value → Type 0) → LeadsBy (over predicate holds items) P → LeadsBy (left_over predicate [] items) P
  from_start predicates.All items P h = h
  from_start predicates.Any items P h = h
  from_start predicates.None items P h = h
  from_start predicates.One items P h = h
  from_start predicates.Count items P h = h
  from_start predicates.Filter items P h = h

  -- a loop at an item
  abbrev loop_at : Value → Items → List Value → Loop
  loop_at first rest found = record { enter = enter; here = first; rest = rest; floor = length operands; found = found }

  -- after the loop
  abbrev Left : Value → Type 0
  Left v = Reached code result answer (suc step) (v ∷ operands) loops

  -- what is left once the current item was examined: an answer, or the other items
  abbrev Then : Predicate → List Value → Items → Option Value → Type 0
  Then predicate found rest (Some value) = Left value
  Then predicate found rest None = LeadsBy (left_over predicate found rest) Left

  -- what an item leads to, where both booleans lead on
  by_each : (predicate : Predicate) (found : List Value) (first : Value) (rest : Items) (next : Bool → Meaning)
      → ((b : Bool) → LeadsBy (next b) Left → Then predicate (found_by b (loop_at first rest found)) rest (decided predicate b))
      → LeadsBy (holds first >>= next) Left → LeadsBy (holds first) (λ b. Then predicate (found_by b (loop_at first rest found)) rest (decided predicate b))
  by_each predicate found first rest next each h =
      leads_more code result answer (holds first) (λ b. LeadsBy (next b) Left) (λ b. Then predicate (found_by b (loop_at first rest found)) rest (decided predicate b)) (λ b is k. each b k)
      (leads_bind code result answer (holds first) next Left h)

  by_all : (found : List Value) (rest : Items) (b : Bool) → LeadsBy (if b then all_hold holds rest else Ok (values.bool false)) Left → Then predicates.All found rest (decided predicates.All b)
  by_all found rest true h = h
  by_all found rest false h = h

  by_any : (found : List Value) (rest : Items) (b : Bool) → LeadsBy (if b then Ok (values.bool true) else any_holds holds rest) Left → Then predicates.Any found rest (decided predicates.Any b)
  by_any found rest true h = h
  by_any found rest false h = h

  by_none : (found : List Value) (rest : Items) (b : Bool) → LeadsBy (if b then Ok (values.bool false) else none_holds holds rest) Left → Then predicates.None found rest (decided predicates.None b)
  by_none found rest true h = h
  by_none found rest false h = h

  -- an item that was examined is among those found, or left out
  with_item : (give : Items → Value) (found : List Value) (first : Value) (rest : Items) (b : Bool) (others : Items)
      → give (before found (if b then item first others else others)) ≡ give (before (found_by b (loop_at first rest found)) others)
  with_item give found first rest true others = ap give (sym (before_more found first others))
  with_item give found first rest false others = refl

  more_gathered : (give : Items → Value) (found : List Value) (first : Value) (rest : Items) (b : Bool)
      → LeadsBy (those holds rest >>= λ others. Ok (if b then item first others else others)) (λ all. Left (give (before found all)))
      → LeadsBy (gathered give (found_by b (loop_at first rest found)) rest) Left
  more_gathered give found first rest b h =
      leads_unbind (those holds rest) (λ others. Ok (give (before (found_by b (loop_at first rest found)) others))) Left
      (leads_more code result answer (those holds rest) (λ others. Left (give (before found (if b then item first others else others)))) (λ others. Left (give (before (found_by b (loop_at first rest found)) others)))
      (λ others is k. subst Left (with_item give found first rest b others) k)
      (leads_bind code result answer (those holds rest) (λ others. Ok (if b then item first others else others)) (λ all. Left (give (before found all))) h))

  by_gathered : (give : Items → Value) (found : List Value) (first : Value) (rest : Items) → LeadsBy (gathered give found (item first rest)) Left
      → LeadsBy (holds first) (λ b. LeadsBy (gathered give (found_by b (loop_at first rest found)) rest) Left)
  by_gathered give found first rest h =
      leads_more code result answer (holds first) (λ b. LeadsBy (those holds rest >>= λ others. Ok (if b then item first others else others)) (λ all. Left (give (before found all))))
      (λ b. LeadsBy (gathered give (found_by b (loop_at first rest found)) rest) Left) (λ b is k. more_gathered give found first rest b k)
      (leads_bind code result answer (holds first) (λ b. those holds rest >>= λ others. Ok (if b then item first others else others)) (λ all. Left (give (before found all)))
      (leads_bind code result answer (those holds (item first rest)) (λ all. Ok (give (before found all))) Left h))

  -- what an item leads to, by whether the predicate holds of it
  by_item : (predicate : Predicate) (found : List Value) (first : Value) (rest : Items) → LeadsBy (left_over predicate found (item first rest)) Left
      → LeadsBy (holds first) (λ b. Then predicate (found_by b (loop_at first rest found)) rest (decided predicate b))
  by_item predicates.All found first rest h =
      by_each predicates.All found first rest (λ b. if b then all_hold holds rest else Ok (values.bool false)) (λ b k. by_all (found_by b (loop_at first rest found)) rest b k) h
  by_item predicates.Any found first rest h =
      by_each predicates.Any found first rest (λ b. if b then Ok (values.bool true) else any_holds holds rest) (λ b k. by_any (found_by b (loop_at first rest found)) rest b k) h
  by_item predicates.None found first rest h =
      by_each predicates.None found first rest (λ b. if b then Ok (values.bool false) else none_holds holds rest) (λ b k. by_none (found_by b (loop_at first rest found)) rest b k) h
  by_item predicates.One found first rest h = by_gathered whether_one found first rest h
  by_item predicates.Count found first rest h = by_gathered how_many found first rest h
  by_item predicates.Filter found first rest h = by_gathered values.list found first rest h

  -- nothing is left
  all_gathered : (give : Items → Value) (found : List Value) (v : Value) → give (items_of found) ≡ v → LeadsBy (gathered give found no_items) Left → Left v
  all_gathered give found v same h = subst Left (ap give (before_none found) ∙ same) h

  at_end : (predicate : Predicate) (found : List Value) → LeadsBy (left_over predicate found no_items) Left → Left (loop_answer predicate found)
  at_end predicates.All found h = h
  at_end predicates.Any found h = h
  at_end predicates.None found h = h
  at_end predicates.One found h = all_gathered whether_one found (values.bool (length found == 1)) (ap (λ n. values.bool (n == 1)) (counted found)) h
  at_end predicates.Count found h = all_gathered how_many found (values.whole (pos (length found))) (ap (λ n. values.whole (pos n)) (counted found)) h
  at_end predicates.Filter found h = all_gathered values.list found (values.list (items_of found)) refl h

  module _ (predicate : Predicate) (shape : Shape) (begins : At code enter (Enter predicate step)) (steps : At code step (Step predicate enter))
      (runs : (loop : Loop) → loop.floor ≡ length operands → fits loop.here shape ≡ true → LeadsTo code result answer (mean result (Some loop.here) body) step operands (loop ∷ loops) → Reached code result answer (suc enter) operands (loop ∷ loops))
      (says : (v : Value) → fits v shape ≡ true → MeansKind boolean_kind (mean result (Some v) body)) where
    -- what the next item leads to, or the end
    abbrev After : Items → Type 0
    After rest = (loop : Loop) (found held : List Value) (around : List Loop) (cost : ℕ) → loop.enter ≡ enter → loop.floor ≡ length operands → LeadsBy (left_over predicate found rest) Left
        → EndsNext code result answer (next_item predicate loop found rest loops operands (at step held around cost))

    looked : (first : Value) (rest : Items) (found : List Value) (b : Bool) (d : Option Value) (held : List Value) (around : List Loop) (cost : ℕ) → After rest
        → Then predicate (found_by b (loop_at first rest found)) rest d → EndsNext code result answer (looked_at predicate b (loop_at first rest found) loops operands (at step held around cost) d)
    looked first rest found b (Some value) held around cost after h = h cost
    looked first rest found b None held around cost after h = after (loop_at first rest found) (found_by b (loop_at first rest found)) held around cost refl refl h

    -- the Step is that of the loop
    is_step : begins_loop predicate step (slice_get code.ops enter) ≡ true
    is_step = rw (begins, itself predicate) (same_place step)

    at_step : (first : Value) (rest : Items) (found : List Value) (b : Bool) (cost : ℕ) → After rest → Then predicate (found_by b (loop_at first rest found)) rest (decided predicate b)
        → EndsNext code result answer (performed code result (Step predicate enter) (at step (values.bool b ∷ operands) (loop_at first rest found ∷ loops) cost))
    at_step first rest found b cost after h = rw (same_place enter, is_step) (looked first rest found b (decided predicate b) (values.bool b ∷ operands) (loop_at first rest found ∷ loops) cost after h)

    -- an item, and what comes after it
    run_item : (first : Value) (rest : Items) (found : List Value) → fits first shape ≡ true → After rest → LeadsBy (left_over predicate found (item first rest)) Left
        → Reached code result answer (suc enter) operands (loop_at first rest found ∷ loops)
    run_item first rest found fit after h =
        let loop = loop_at first rest found in
        runs loop refl fit
        (leads_fit code result answer boolean_kind (mean result (Some first) body) (λ v. LeadsBy (boolean v) (λ b. Then predicate (found_by b loop) rest (decided predicate b)))
        (λ v. Reached code result answer step (v ∷ operands) (loop ∷ loops)) (says first fit)
        (λ v fits k. on_bool (λ v. LeadsBy (boolean v) (λ b. Then predicate (found_by b loop) rest (decided predicate b)) → Reached code result answer step (v ∷ operands) (loop ∷ loops))
        (λ b k. by_op code result answer (Step predicate enter) step (values.bool b ∷ operands) (loop ∷ loops) steps (room_for_one 1 (length operands) (length operands) refl (none_above (length operands)))
        (λ cost. at_step first rest found b cost after k)) v fits k)
        (leads_bind code result answer (mean result (Some first) body) boolean (λ b. Then predicate (found_by b loop) rest (decided predicate b)) (by_item predicate found first rest h)))

    after_all : (rest : Items) → all_items (λ v. fits v shape) rest ≡ true → After rest
    after_all values.no_items fit loop found held around cost is floor h = at_end predicate found h cost
    after_all (values.item first rest) fit loop found held around cost is floor h =
        let parts = both_hold (fits first shape) (all_items (λ v. fits v shape) rest) fit in
        rw (is, floor) (run_item first rest found parts.0 (after_all rest parts.1) h cost)

    -- a loop over a list
    pub runs_over : (items : Items) (cost : ℕ) → all_items (λ v. fits v shape) items ≡ true → LeadsBy (over predicate holds items) Left
        → EndsNext code result answer (entered predicate step (values.list items ∷ operands) (at enter (values.list items ∷ operands) loops cost))
    runs_over values.no_items cost fit h = at_end predicate [] (from_start predicate no_items Left h) cost
    runs_over (values.item first rest) cost fit h =
        let parts = both_hold (fits first shape) (all_items (λ v. fits v shape) rest) fit in
        run_item first rest [] parts.0 (after_all rest parts.1) (from_start predicate (item first rest) Left h) cost
