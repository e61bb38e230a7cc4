-- What the machine evaluates to from a state, by where its next step leads.
use Rattle.std.specs.Prelude.{slice_get}
use Rattle.std.proofs.Common.{◌≡◌, ℕ, suc, ◌+◌, ◌≤◌, Bool, true, nat_le, List, ◌∷◌, length, Some, Result, Ok, Err, refl, sym, ap, ◌∙◌, arith}
use Rattle.std.proofs.lemmas.Bool.Decides.{nat_tests}
use Rattle.ar_value.specs.Answer.{◌>>=◌}
use Rattle.ar_value.specs.Operators.{Failure, Meaning, faulted, ill_kinded}
use Rattle.ar_value.specs.Value.{Value}
use Rattle.ar_value.specs.declared.fault.Fault.{Fault}
use Rattle.ar_op.specs.Code.{Code}
use Rattle.ar_op.specs.Machine.{Loop, Next, State, after, cost_of, effect, ends, falls, floor, follow, proceeds, here, paid, performed, step, stuck, takes}
use Rattle.ar_op.specs.declared.op.Op.{Op}

abbrev pub at : (index : ℕ) → List Value → List Loop → (cost : ℕ) → State
at index operands loops cost = record { index = index; operands = operands; loops = loops; cost = cost }

-- operands enough above the floor
pub enough : (m n : ℕ) → m ≤ n → nat_le m n ≡ true
enough m n h = grind (arith, nat_tests)

module _ (code : Code) (result : Value) (answer : Result Bool Fault) where
  -- the machine ends with the answer
  abbrev pub Ends : State → Type 0
  Ends s = (n : ℕ) × (total : ℕ) × (after code result n s ≡ ends answer total)

  -- from an index with these operands and loops, whatever was paid
  abbrev pub Good : (index : ℕ) → List Value → List Loop → Type 0
  Good index operands loops = (cost : ℕ) → Ends (at index operands loops cost)

  -- a meaning leads to what holds of its value; a fault is the answer
  abbrev pub Leads : {A : Type 0} → Result A Failure → (A → Type 0) → Type 0
  Leads (Ok x) then_it = then_it x
  Leads (Err (faulted fault)) then_it = answer ≡ Err fault
  Leads (Err ill_kinded) then_it = ⊥

  pub leads_bind : {A B : Type 0} (m : Result A Failure) (f : A → Result B Failure) (P : B → Type 0) → Leads (m >>= f) P → Leads m (λ x. Leads (f x) P)
  leads_bind (Ok x) f P h = h
  leads_bind (Err (faulted fault)) f P h = h
  leads_bind (Err ill_kinded) f P h = h

  pub leads_more : {A : Type 0} (m : Result A Failure) (P Q : A → Type 0) → ((x : A) → m ≡ Ok x → P x → Q x) → Leads m P → Leads m Q
  leads_more (Ok x) P Q more h = more x refl h
  leads_more (Err (faulted fault)) P Q more h = h
  leads_more (Err ill_kinded) P Q more h = h

  -- ---- steps

  abbrev pub EndsNext : Next → Type 0
  EndsNext (proceeds s) = Ends s
  EndsNext (ends found total) = found ≡ answer
  EndsNext (stuck index) = ⊥

  by_next : (s : State) (next : Next) → step code result s ≡ next → EndsNext next → Ends s
  by_next s (proceeds t) is e = (suc e.0, e.1, ap (follow (after code result e.0)) is ∙ e.2)
  by_next s (ends found total) is e = (1, total, ap (follow (after code result 0)) is ∙ ap (λ a. ends a total) e)
  by_next s (stuck index) is e = absurd e

  pub step_is : (op : Op) (s : State) → slice_get code.ops s.index ≡ Some op → nat_le (floor s.loops + takes op) (length s.operands) ≡ true → step code result s ≡ performed code result op (paid op s)
  unfolding step
  step_is op s there room = rw (there, room) refl

  -- what an operation leads to
  pub by_op : (op : Op) (index : ℕ) (operands : List Value) (loops : List Loop) → slice_get code.ops index ≡ Some op → floor loops + takes op ≤ length operands
      → ((cost : ℕ) → EndsNext (performed code result op (at index operands loops cost))) → Good index operands loops
  by_op op index operands loops there room each cost =
      by_next (at index operands loops cost) (performed code result op (paid op (at index operands loops cost)))
      (step_is op (at index operands loops cost) there (enough (floor loops + takes op) (length operands) room)) (each (cost + cost_of op operands))

  -- an operation that gives a value or meets a fault, and continues at the next index
  by_effect : (m : Meaning) (index : ℕ) (operands others : List Value) (loops : List Loop) (cost : ℕ) → Leads m (λ v. Good (suc index) (v ∷ others) loops)
      → EndsNext (falls (at index operands loops cost) (m >>= λ v. Ok (v ∷ others)))
  by_effect (Ok v) index operands others loops cost good = good cost
  by_effect (Err (faulted fault)) index operands others loops cost is = sym is
  by_effect (Err ill_kinded) index operands others loops cost none = none

  pub by_value : (op : Op) (index : ℕ) (operands others : List Value) (loops : List Loop) (m : Meaning) → slice_get code.ops index ≡ Some op → floor loops + takes op ≤ length operands
      → ((s : State) → performed code result op s ≡ falls s (effect code result (here s.loops) op s.operands)) → effect code result (here loops) op operands ≡ (m >>= λ v. Ok (v ∷ others))
      → Leads m (λ v. Good (suc index) (v ∷ others) loops) → Good index operands loops
  by_value op index operands others loops m there room falling is leads =
      by_op op index operands loops there room
      (λ cost. rw (falling (at index operands loops cost), is) (by_effect m index operands others loops cost leads))
