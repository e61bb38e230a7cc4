-- Trees of one operand, of two, and with jumps: the code evaluates as the tree means, if that of its parts does.
use Rattle.std.proofs.Common.{◌≡◌, ℕ, suc, ◌+◌, ◌≤◌, Bool, true, false, List, ◌∷◌, length, Result, Ok, Err, refl, sym, subst, arith}
use Rattle.std.specs.Prelude.{if◌then◌else◌}
use Rattle.ar_value.specs.Answer.{◌>>=◌}
use Rattle.ar_value.specs.Kind.{Kind, fits_kind, boolean_kind}
use Rattle.ar_value.specs.Operators.{Meaning, faulted, ill_kinded, boolean, binary_meaning}
use Rattle.ar_value.specs.Value.{Value}
use Rattle.ar_value.specs.Value as values
use Rattle.ar_value.specs.declared.fault.Fault.{Fault}
use Rattle.ar_value.specs.declared.operator.BinaryOperator.{BinaryOperator}
use Rattle.ar_tree.specs.Meaning.{mean}
use Rattle.ar_tree.specs.Typed.{Typed}
use Rattle.ar_tree.specs.Typed as typed
use Rattle.ar_check.proofs.Means.{MeansKind}
use Rattle.ar_check.proofs.Operands.{on_bool}
use Rattle.ar_op.specs.Code.{Code}
use Rattle.ar_op.specs.Machine.{Loop, State, effect, falls, floor, here, performed, takes}
use Rattle.ar_op.specs.declared.op.Op.{Op}
use Rattle.ar_op.specs.declared.op.Jump.TheVariants as jumps
use Rattle.ar_op.specs.declared.op.Op.TheVariants.{Binary, Jump}
use Rattle.ar_compile.specs.Length.{operations}
use Rattle.ar_compile.specs.Private.Standing.{At}
use Rattle.ar_compile.proofs.Steps.{Good, Leads, by_op, by_value, leads_bind, leads_more}

pub one_after : (index m : ℕ) → index + (m + 1) ≡ suc (index + m)
one_after index m = omega arith

two_after : (index m n : ℕ) → index + (m + n + 1) ≡ suc (index + m + n)
two_after index m n = omega arith

after_jump : (index m n : ℕ) → index + (m + 1 + n) ≡ index + m + 1 + n
after_jump index m n = omega arith

pub add_one : (n : ℕ) → n + 1 ≡ suc n
add_one n = omega arith

room_for_none : (taken floor held : ℕ) → taken ≡ 0 → floor ≤ held → floor + taken ≤ held
room_for_none taken floor held is room = omega (arith, is, room)

pub room_for_one : (taken floor held : ℕ) → taken ≡ 1 → floor ≤ held → floor + taken ≤ suc held
room_for_one taken floor held is room = omega (arith, is, room)

pub room_for_two : (taken floor held : ℕ) → taken ≡ 2 → floor ≤ held → floor + taken ≤ suc (suc held)
room_for_two taken floor held is room = omega (arith, is, room)

pub no_room : (floor held : ℕ) → floor ≤ held → floor + 0 ≤ held
no_room floor held room = omega (arith, room)

pub room_more : (floor held : ℕ) → floor ≤ held → floor ≤ suc held
room_more floor held room = omega (arith, room)

module _ (code : Code) (result : Value) (answer : Result Bool Fault) where
  abbrev pub Reached : ℕ → List Value → List Loop → Type 0
  Reached index operands loops = Good code result answer index operands loops

  -- an index by another name
  pub reached_at : (p q : ℕ) (operands : List Value) (loops : List Loop) → p ≡ q → Reached p operands loops → Reached q operands loops
  reached_at p q operands loops is h = subst (λ index. Reached index operands loops) is h

  -- what a meaning leads to, at `index`
  abbrev pub LeadsTo : Meaning → (index : ℕ) → List Value → List Loop → Type 0
  LeadsTo m index operands loops = Leads code result answer m (λ v. Reached index (v ∷ operands) loops)

  pub moved : (m : Meaning) (p q : ℕ) (operands : List Value) (loops : List Loop) → p ≡ q → LeadsTo m p operands loops → LeadsTo m q operands loops
  moved m p q operands loops is h = subst (λ index. LeadsTo m index operands loops) is h

  -- what a meaning of a kind leads to
  pub leads_fit : (kind : Kind) (m : Meaning) (P Q : Value → Type 0) → MeansKind kind m → ((v : Value) → fits_kind v kind ≡ true → P v → Q v) → Leads code result answer m P → Leads code result answer m Q
  leads_fit kind (Ok v) P Q fit each h = each v fit h
  leads_fit kind (Err (faulted fault)) P Q fit each h = h
  leads_fit kind (Err ill_kinded) P Q fit each h = h

  -- the machine on the code of a tree at `index` evaluates to what the tree means
  abbrev pub Runs : (index : ℕ) → Typed → List Loop → Type 0
  Runs index tree loops = (operands : List Value) → floor loops ≤ length operands → LeadsTo (mean result (here loops) tree) (index + operations tree) operands loops → Reached index operands loops

  -- an operation that continues at the next index
  abbrev pub Falls : Op → Type 0
  Falls op = (s : State) → performed code result op s ≡ falls s (effect code result (here s.loops) op s.operands)

  abbrev pub Meant : List Loop → Kind → Typed → Type 0
  Meant loops kind tree = MeansKind kind (mean result (here loops) tree)

  -- ---- no operands

  pub of_none : (index : ℕ) (loops : List Loop) (op : Op) (m : Meaning) → At code index op → takes op ≡ 0 → Falls op
      → ((operands : List Value) → effect code result (here loops) op operands ≡ (m >>= λ v. Ok (v ∷ operands)))
      → (operands : List Value) → floor loops ≤ length operands → LeadsTo m (index + 1) operands loops → Reached index operands loops
  of_none index loops op m there taken falling gives operands room leads =
      by_value code result answer op index operands operands loops m there (room_for_none (takes op) (floor loops) (length operands) taken room) falling (gives operands)
      (moved m (index + 1) (suc index) operands loops (add_one index) leads)

  -- ---- one operand

  pub of_one : (index : ℕ) (loops : List Loop) (operand : Typed) (op : Op) (f : Value → Meaning) → Runs index operand loops → At code (index + operations operand) op → takes op ≡ 1 → Falls op
      → ((v : Value) (operands : List Value) → effect code result (here loops) op (v ∷ operands) ≡ (f v >>= λ w. Ok (w ∷ operands)))
      → (operands : List Value) → floor loops ≤ length operands → LeadsTo (mean result (here loops) operand >>= f) (index + (operations operand + 1)) operands loops → Reached index operands loops
  of_one index loops operand op f runs there taken falling gives operands room leads =
      let m = mean result (here loops) operand in
      let end = index + (operations operand + 1) in
      runs operands room
      (leads_more code result answer m (λ v. LeadsTo (f v) end operands loops) (λ v. Reached (index + operations operand) (v ∷ operands) loops)
      (λ v is h. by_value code result answer op (index + operations operand) (v ∷ operands) operands loops (f v) there (room_for_one (takes op) (floor loops) (length operands) taken room) falling
      (gives v operands) (moved (f v) end (suc (index + operations operand)) operands loops (one_after index (operations operand)) h))
      (leads_bind code result answer m f (λ v. Reached end (v ∷ operands) loops) leads))

  -- ---- two operands

  pub of_two : (index : ℕ) (loops : List Loop) (left right : Typed) (operator : BinaryOperator) → Runs index left loops → Runs (index + operations left) right loops
      → At code (index + operations left + operations right) (Binary operator) → Runs index (typed.binary operator left right) loops
  of_two index loops left right operator runs_left runs_right there operands room leads =
      let mean_left = mean result (here loops) left in
      let mean_right = mean result (here loops) right in
      let f = λ (v w : Value). binary_meaning operator v w in
      let end = index + (operations left + operations right + 1) in
      runs_left operands room
      (leads_more code result answer mean_left (λ v. LeadsTo (mean_right >>= λ w. f v w) end operands loops) (λ v. Reached (index + operations left) (v ∷ operands) loops)
      (λ v is h. runs_right (v ∷ operands) (room_more (floor loops) (length operands) room)
      (leads_more code result answer mean_right (λ w. LeadsTo (f v w) end operands loops) (λ w. Reached (index + operations left + operations right) (w ∷ v ∷ operands) loops)
      (λ w also k. by_value code result answer (Binary operator) (index + operations left + operations right) (w ∷ v ∷ operands) operands loops (f v w) there
      (room_for_two 2 (floor loops) (length operands) refl room) (λ s. refl) refl
      (moved (f v w) end (suc (index + operations left + operations right)) operands loops (two_after index (operations left) (operations right)) k))
      (leads_bind code result answer mean_right (λ w. f v w) (λ x. Reached end (x ∷ operands) loops) h)))
      (leads_bind code result answer mean_left (λ v. mean_right >>= λ w. f v w) (λ x. Reached end (x ∷ operands) loops) leads))

  -- ---- jumps

  -- a boolean on top, and what is done with it
  by_boolean : (m : Meaning) (next : Bool → Meaning) (index end : ℕ) (operands : List Value) (loops : List Loop) → MeansKind boolean_kind m
      → ((b : Bool) → LeadsTo (next b) end operands loops → Reached index (values.bool b ∷ operands) loops)
      → LeadsTo (m >>= λ v. boolean v >>= next) end operands loops → LeadsTo m index operands loops
  by_boolean m next index end operands loops fit each leads =
      leads_fit boolean_kind m (λ v. LeadsTo (boolean v >>= next) end operands loops) (λ v. Reached index (v ∷ operands) loops) fit
      (λ v fits h. on_bool (λ v. LeadsTo (boolean v >>= next) end operands loops → Reached index (v ∷ operands) loops) each v fits h)
      (leads_bind code result answer m (λ v. boolean v >>= next) (λ v. Reached end (v ∷ operands) loops) leads)

  and_jump : (index target end : ℕ) (right : Typed) (b : Bool) (operands : List Value) (loops : List Loop) → At code index (Jump jumps.And target) → Runs (index + 1) right loops
      → index + 1 + operations right ≡ end → target ≡ end → floor loops ≤ length operands
      → LeadsTo (if b then mean result (here loops) right else Ok (values.bool false)) end operands loops → Reached index (values.bool b ∷ operands) loops
  and_jump index target end right true operands loops there runs is to room leads =
      by_op code result answer (Jump jumps.And target) index (values.bool true ∷ operands) loops there (room_for_one 1 (floor loops) (length operands) refl room)
      (reached_at (index + 1) (suc index) operands loops (add_one index)
      (runs operands room (moved (mean result (here loops) right) end (index + 1 + operations right) operands loops (sym is) leads)))
  and_jump index target end right false operands loops there runs is to room leads =
      by_op code result answer (Jump jumps.And target) index (values.bool false ∷ operands) loops there (room_for_one 1 (floor loops) (length operands) refl room)
      (reached_at end target (values.bool false ∷ operands) loops (sym to) leads)

  or_jump : (index target end : ℕ) (right : Typed) (b : Bool) (operands : List Value) (loops : List Loop) → At code index (Jump jumps.Or target) → Runs (index + 1) right loops
      → index + 1 + operations right ≡ end → target ≡ end → floor loops ≤ length operands
      → LeadsTo (if b then Ok (values.bool true) else mean result (here loops) right) end operands loops → Reached index (values.bool b ∷ operands) loops
  or_jump index target end right false operands loops there runs is to room leads =
      by_op code result answer (Jump jumps.Or target) index (values.bool false ∷ operands) loops there (room_for_one 1 (floor loops) (length operands) refl room)
      (reached_at (index + 1) (suc index) operands loops (add_one index)
      (runs operands room (moved (mean result (here loops) right) end (index + 1 + operations right) operands loops (sym is) leads)))
  or_jump index target end right true operands loops there runs is to room leads =
      by_op code result answer (Jump jumps.Or target) index (values.bool true ∷ operands) loops there (room_for_one 1 (floor loops) (length operands) refl room)
      (reached_at end target (values.bool true ∷ operands) loops (sym to) leads)

  pub of_both : (index : ℕ) (loops : List Loop) (left right : Typed) → Runs index left loops → At code (index + operations left) (Jump jumps.And (index + operations left + 1 + operations right))
      → Runs (index + operations left + 1) right loops → Meant loops boolean_kind left → Runs index (typed.both left right) loops
  of_both index loops left right runs_left there runs_right fit operands room leads =
      let end = index + (operations left + 1 + operations right) in
      let is = after_jump index (operations left) (operations right) in
      runs_left operands room
      (by_boolean (mean result (here loops) left) (λ b. if b then mean result (here loops) right else Ok (values.bool false)) (index + operations left) end operands loops fit
      (λ b h. and_jump (index + operations left) (index + operations left + 1 + operations right) end right b operands loops there runs_right (sym is) (sym is) room h) leads)

  pub of_either : (index : ℕ) (loops : List Loop) (left right : Typed) → Runs index left loops → At code (index + operations left) (Jump jumps.Or (index + operations left + 1 + operations right))
      → Runs (index + operations left + 1) right loops → Meant loops boolean_kind left → Runs index (typed.either left right) loops
  of_either index loops left right runs_left there runs_right fit operands room leads =
      let end = index + (operations left + 1 + operations right) in
      let is = after_jump index (operations left) (operations right) in
      runs_left operands room
      (by_boolean (mean result (here loops) left) (λ b. if b then Ok (values.bool true) else mean result (here loops) right) (index + operations left) end operands loops fit
      (λ b h. or_jump (index + operations left) (index + operations left + 1 + operations right) end right b operands loops there runs_right (sym is) (sym is) room h) leads)

  -- ---- choices

  -- after the then branch, on to the end
  then_jumps : (index target end : ℕ) (v : Value) (operands : List Value) (loops : List Loop) → At code index (Jump jumps.Always target) → target ≡ end → floor loops ≤ length operands
      → Reached end (v ∷ operands) loops → Reached index (v ∷ operands) loops
  then_jumps index target end v operands loops there to room h =
      by_op code result answer (Jump jumps.Always target) index (v ∷ operands) loops there (no_room (floor loops) (suc (length operands)) (room_more (floor loops) (length operands) room))
      (reached_at end target (v ∷ operands) loops (sym to) h)

  branch : (index else_index then_end end : ℕ) (then_branch else_branch : Typed) (b : Bool) (operands : List Value) (loops : List Loop) → At code index (Jump jumps.Branch else_index)
      → Runs (index + 1) then_branch loops → index + 1 + operations then_branch ≡ then_end → At code then_end (Jump jumps.Always end) → Runs else_index else_branch loops → else_index + operations else_branch ≡ end → floor loops ≤ length operands
      → LeadsTo (if b then mean result (here loops) then_branch else mean result (here loops) else_branch) end operands loops → Reached index (values.bool b ∷ operands) loops
  branch index else_index then_end end then_branch else_branch true operands loops there runs_then is jump runs_else to room leads =
      by_op code result answer (Jump jumps.Branch else_index) index (values.bool true ∷ operands) loops there (room_for_one 1 (floor loops) (length operands) refl room)
      (reached_at (index + 1) (suc index) operands loops (add_one index)
      (runs_then operands room
      (leads_more code result answer (mean result (here loops) then_branch) (λ v. Reached end (v ∷ operands) loops) (λ v. Reached (index + 1 + operations then_branch) (v ∷ operands) loops)
      (λ v found h. reached_at then_end (index + 1 + operations then_branch) (v ∷ operands) loops (sym is) (then_jumps then_end end end v operands loops jump refl room h)) leads)))
  branch index else_index then_end end then_branch else_branch false operands loops there runs_then is jump runs_else to room leads =
      by_op code result answer (Jump jumps.Branch else_index) index (values.bool false ∷ operands) loops there (room_for_one 1 (floor loops) (length operands) refl room)
      (runs_else operands room (moved (mean result (here loops) else_branch) end (else_index + operations else_branch) operands loops (sym to) leads))

  after_both : (index l m n : ℕ) → index + (l + 1 + m + 1 + n) ≡ index + l + 1 + m + 1 + n
  after_both index l m n = omega arith

  pub of_choice : (index : ℕ) (loops : List Loop) (condition then_branch else_branch : Typed) → Runs index condition loops
      → At code (index + operations condition) (Jump jumps.Branch (index + operations condition + 1 + operations then_branch + 1)) → Runs (index + operations condition + 1) then_branch loops
      → At code (index + operations condition + 1 + operations then_branch) (Jump jumps.Always (index + operations condition + 1 + operations then_branch + 1 + operations else_branch))
      → Runs (index + operations condition + 1 + operations then_branch + 1) else_branch loops → Meant loops boolean_kind condition → Runs index (typed.choice condition then_branch else_branch) loops
  of_choice index loops condition then_branch else_branch runs branches runs_then jump runs_else fit operands room leads =
      let p = index + operations condition in
      let end = p + 1 + operations then_branch + 1 + operations else_branch in
      let tree = typed.choice condition then_branch else_branch in
      runs operands room
      (by_boolean (mean result (here loops) condition) (λ b. if b then mean result (here loops) then_branch else mean result (here loops) else_branch) p end operands loops fit
      (λ b h. branch p (p + 1 + operations then_branch + 1) (p + 1 + operations then_branch) end then_branch else_branch b operands loops branches runs_then refl jump runs_else refl room h)
      (moved (mean result (here loops) tree) (index + operations tree) end operands loops (after_both index (operations condition) (operations then_branch) (operations else_branch)) leads))
