-- What the verifier's passes say of each operation, by the index where it is.
use Rattle.std.proofs.Common.{◌≡◌, ◌<◌, ◌≤◌, ℕ, zero, suc, ◌+◌, Bool, true, false, nat_le, List, [], ◌∷◌, ◌++◌, Option, Some, None, Result, Ok, Err, refl, sym, ap, ◌∙◌, arith}
use Rattle.std.specs.Prelude.{if◌then◌else◌, slice_get}
use Rattle.std.specs.List.{AllByRecursion}
use Rattle.std.proofs.lemmas.Bool.Decides.{nat_tests}
use Rattle.std.proofs.lemmas.List.{append_assoc, append-nil}
use Rattle.ar_value.specs.Answer.{◌>>=◌}
use Rattle.ar_value.specs.Kind.{Kind, shaped, boolean_kind}
use Rattle.ar_value.specs.Shape.{Shape, list}
use Rattle.ar_value.specs.Shape as shapes
use Rattle.ar_value.specs.declared.operator.Predicate.{Predicate}
use Rattle.ar_value.specs.Limits.{most_operands}
use Rattle.ar_op.specs.Code.{Code}
use Rattle.ar_op.specs.declared.op.Op.{Op}
use Rattle.ar_op.specs.declared.op.Jump.TheVariants as jumps
use Rattle.ar_op.specs.declared.op.Op.TheVariants.{Jump, Enter, Step, Return}
use Rattle.ar_safety.specs.Arrivals.{Around, Operands, Sent, answer_kind, arrival, arrived, at_index, deepest, loop_ended, loop_entered, innermost_shape, lacks, on_boolean_kind, passed_on, sends, sent, sent_on, sent_to, to_next, where_shallow}
use Rattle.ar_safety.specs.Effects.{kinds_left}
use Rattle.ar_safety.specs.Indices.{all_pass, ends_loop, forward, names_well, unless}
use Rattle.ar_safety.specs.declared.error.Reason.{Reason}
use Rattle.ar_safety.specs.declared.error.Reason.TheVariants.{MissingOperand, UnpairedLoop}
use Rattle.ar_safety.proofs.Arriving.{all_append, all_more, elsewhere, sent_to_both}
use Rattle.ar_safety.proofs.Nesting.{found_nothing, is_ahead, none_of_both}

-- ---- answers

pub bound : {A B E : Type 0} (m : Result A E) (f : A → Result B E) (y : B) → (m >>= f) ≡ Ok y → (x : A) × (m ≡ Ok x) × (f x ≡ Ok y)
bound (Ok x) f y h = (x, refl, h)
bound (Err e) f y h = absurd cc

pub placed : {A : Type 0} (index : ℕ) (m : Result A Reason) (x : A) → at_index index m ≡ Ok x → m ≡ Ok x
placed index (Ok x) y h = cc
placed index (Err e) y h = absurd cc

pub unlike : {A E : Type 0} (test : Bool) (e : E) (m : Result A E) (x : A) → (if test then Err e else m) ≡ Ok x → (test ≡ false) × (m ≡ Ok x)
unlike true e m x h = absurd cc
unlike false e m x h = (refl, h)

shallow : (test : Bool) (sents more : List Sent) (e : Reason) → (if test then Ok sents else Err e) ≡ Ok more → (test ≡ true) × (sents ≡ more)
shallow true sents more e h = (refl, cc)
shallow false sents more e h = absurd cc

-- ---- what an operation that is let through has on top, and sends on

-- a boolean on top
pub record OnBoolean (kinds : List Kind) (next : List Kind → Result (List Sent) Reason) (more : List Sent) : Type 0 where
  pub taken : List Kind
  pub are : kinds ≡ boolean_kind ∷ taken
  pub sent : next taken ≡ Ok more

pub on_top : (kinds : List Kind) (next : List Kind → Result (List Sent) Reason) (more : List Sent) → on_boolean_kind kinds next ≡ Ok more → OnBoolean kinds next more
on_top (shaped shapes.bool ∷ kinds) next more h = record { taken = kinds; are = refl; sent = h }
on_top kinds next more h = absurd cc

pub record ToNext (index : ℕ) (loops : List Around) (given : Option (List Kind)) (more : List Sent) : Type 0 where
  pub kinds : List Kind
  pub are : given ≡ Some kinds
  pub sent : more ≡ sent (suc index) kinds loops ∷ []

pub proceeds_next : (index : ℕ) (loops : List Around) (given : Option (List Kind)) (more : List Sent) → to_next index loops given ≡ Ok more → ToNext index loops given more
proceeds_next index loops (Some kinds) more h = record { kinds = kinds; are = refl; sent = cc }
proceeds_next index loops None more h = absurd cc

-- a list on top of which a loop is begun
pub record Entered (predicate : Predicate) (index step : ℕ) (kinds : List Kind) (loops : List Around) (more : List Sent) : Type 0 where
  pub item : Shape
  pub most : ℕ
  pub below : List Kind
  pub are : kinds ≡ shaped (list item most) ∷ below
  pub sent : more ≡ sent (suc index) [] (record { item = item; most = most; below = below } ∷ loops) ∷ sent (suc step) (answer_kind predicate item most ∷ below) loops ∷ []

pub enters : (predicate : Predicate) (index step : ℕ) (kinds : List Kind) (loops : List Around) (more : List Sent) → loop_entered predicate index step kinds loops ≡ Ok more → Entered predicate index step kinds loops more
enters predicate index step (shaped (shapes.list item most) ∷ below) loops more h = record { item = item; most = most; below = below; are = refl; sent = cc }
enters predicate index step kinds loops more h = absurd cc

-- a loop of which nothing but the boolean is above the floor
pub record Ended (predicate : Predicate) (index : ℕ) (kinds : List Kind) (loops : List Around) (more : List Sent) : Type 0 where
  pub loop : Around
  pub outer : List Around
  pub none : kinds ≡ []
  pub are : loops ≡ loop ∷ outer
  pub sent : more ≡ sent (suc index) (answer_kind predicate loop.item loop.most ∷ loop.below) outer ∷ []

pub ends : (predicate : Predicate) (index : ℕ) (kinds : List Kind) (loops : List Around) (more : List Sent) → loop_ended predicate index kinds loops ≡ Ok more → Ended predicate index kinds loops more
ends predicate index [] (loop ∷ outer) more h = record { loop = loop; outer = outer; none = refl; are = refl; sent = cc }
ends predicate index [] [] more h = absurd cc
ends predicate index (kind ∷ kinds) loops more h = absurd cc

-- ---- operations send on only to indexes further on

abbrev pub Ahead : ℕ → Sent → Type 0
Ahead index one = index < one.target

module _ (code : Code) (shape : Shape) where
  pub record Sends (index : ℕ) (op : Op) (had : Operands) (more : List Sent) : Type 0 where
    pub enough : lacks op had ≡ false
    pub passed : passed_on code shape index op had.kinds had.loops ≡ Ok more
    pub shallow : deepest more ≤ most_operands

  few : (sents more : List Sent) → nat_le (deepest sents) most_operands ≡ true → sents ≡ more → deepest more ≤ most_operands
  few sents more h is = rw (sym is) (grind (arith, nat_tests))

  pub sends_on : (index : ℕ) (op : Op) (had : Operands) (more : List Sent) → sends code shape index op had ≡ Ok more → Sends index op had more
  sends_on index op had more h =
      let enough = unlike (lacks op had) MissingOperand (passed_on code shape index op had.kinds had.loops >>= where_shallow) more h in
      let passed = bound (passed_on code shape index op had.kinds had.loops) where_shallow more enough.1 in
      let low = shallow (nat_le (deepest passed.0) most_operands) passed.0 more _ passed.2 in
      record { enough = enough.0; passed = rw (sym low.1) passed.1; shallow = few passed.0 more low.0 low.1 }

  next_ahead : (index : ℕ) (loops : List Around) (given : Option (List Kind)) (more : List Sent) → to_next index loops given ≡ Ok more → AllByRecursion (Ahead index) more
  next_ahead index loops given more h = let next = proceeds_next index loops given more h in rw next.sent (omega arith, tt)

  abbrev pub Answers : Result (List Sent) Reason → List Sent → Type 0
  Answers answer more = answer ≡ Ok more

  pub same_sent : (sents more : List Sent) → Answers (Ok sents) more → sents ≡ more
  same_sent sents more h = cc

  both_ahead : (index first second : ℕ) (kinds others : List Kind) (loops around : List Around) (more : List Sent) → index < first → index < second → Answers (Ok (sent first kinds loops ∷ sent second others around ∷ [])) more → AllByRecursion (Ahead index) more
  both_ahead index first second kinds others loops around more h k is =
      rw (sym (same_sent (sent first kinds loops ∷ sent second others around ∷ []) more is)) (h, (k, tt))

  module _ (ops : List Op) where
    pub passed_ahead : (index : ℕ) (op : Op) (kinds : List Kind) (loops : List Around) (more : List Sent) → names_well ops index op ≡ None → passed_on code shape index op kinds loops ≡ Ok more → AllByRecursion (Ahead index) more
    passed_ahead index (Jump jumps.And target) kinds loops more well h =
        let top = on_top kinds (λ taken. Ok (sent target kinds loops ∷ sent (suc index) taken loops ∷ [])) more h in
        both_ahead index target (suc index) kinds top.taken loops loops more (is_ahead ops index target well).0 (omega arith) top.sent
    passed_ahead index (Jump jumps.Or target) kinds loops more well h =
        let top = on_top kinds (λ taken. Ok (sent target kinds loops ∷ sent (suc index) taken loops ∷ [])) more h in
        both_ahead index target (suc index) kinds top.taken loops loops more (is_ahead ops index target well).0 (omega arith) top.sent
    passed_ahead index (Jump jumps.Branch target) kinds loops more well h =
        let top = on_top kinds (λ taken. Ok (sent target taken loops ∷ sent (suc index) taken loops ∷ [])) more h in
        both_ahead index target (suc index) top.taken top.taken loops loops more (is_ahead ops index target well).0 (omega arith) top.sent
    passed_ahead index (Jump jumps.Always target) kinds loops more well h =
        let same : (sent target kinds loops ∷ []) ≡ more = cc in rw (sym same) ((is_ahead ops index target well).0, tt)
    passed_ahead index (Enter predicate step) kinds loops more well h =
        let each = none_of_both (forward ops index step) (unless (ends_loop predicate index (slice_get ops step)) UnpairedLoop) well in
        let ahead = (is_ahead ops index step each.0).0 in
        let enter = enters predicate index step kinds loops more h in
        rw enter.sent (omega arith, (omega arith, tt))
    passed_ahead index (Step predicate enter) kinds loops more well h =
        let top = on_top kinds (λ taken. loop_ended predicate index taken loops) more h in
        let end = ends predicate index top.taken loops more top.sent in
        rw end.sent (omega arith, tt)
    passed_ahead index Return kinds loops more well h =
        let top = on_top kinds (λ taken. Ok []) more h in
        rw (sym (same_sent [] more top.sent)) tt
    passed_ahead index op kinds loops more well h = next_ahead index loops (kinds_left code shape (innermost_shape loops) op kinds) more h

    -- ---- all operations, one after the other

    -- all that is sent from an index on is after what was sent before, and is sent further on
    pub record Later (index : ℕ) (before final : List Sent) : Type 0 where
      pub later : List Sent
      pub are : final ≡ before ++ later
      pub ahead : AllByRecursion (Ahead index) later

    -- what arrives at `index`, what is sent on from there, and all that is sent
    pub record Passed (final : List Sent) (index : ℕ) (op : Op) : Type 0 where
      pub had : Operands
      pub more : List Sent
      pub front : List Sent
      pub later : List Sent
      pub arrives : arrival index final ≡ Ok had
      pub sends : Sends index op had more
      pub all : final ≡ front ++ (more ++ later)

    record Once (index : ℕ) (op : Op) (later : List Op) (before final : List Sent) : Type 0 where
      pub had : Operands
      pub more : List Sent
      pub arrives : arrived (sent_to index before) ≡ Ok had
      pub sends : Sends index op had more
      pub others : sent_on code shape (suc index) later (before ++ more) ≡ Ok final

    once : (index : ℕ) (op : Op) (later : List Op) (before final : List Sent) → sent_on code shape index (op ∷ later) before ≡ Ok final → Once index op later before final
    once index op later before final h =
        let one = bound (at_index index (arrived (sent_to index before) >>= sends code shape index op)) (λ more. sent_on code shape (suc index) later (before ++ more)) final h in
        let here = placed index (arrived (sent_to index before) >>= sends code shape index op) one.0 one.1 in
        let arrive = bound (arrived (sent_to index before)) (sends code shape index op) one.0 here in
        record { had = arrive.0; more = one.0; arrives = arrive.1; sends = sends_on index op arrive.0 one.0 arrive.2; others = one.2 }

    pub later_is : (index : ℕ) (rest : List Op) (before final : List Sent) → all_pass (names_well ops) index rest ≡ Ok tt → sent_on code shape index rest before ≡ Ok final → Later index before final
    later_is index [] before final well h = let same : before ≡ final = cc in record { later = []; are = rw (append-nil before) (sym same); ahead = tt }
    later_is index (op ∷ rest) before final well h =
        let step = once index op rest before final h in
        let names = found_nothing index (names_well ops index op) (all_pass (names_well ops) (suc index) rest) well in
        let others = later_is (suc index) rest (before ++ step.more) final names.1 step.others in
        record {
          later = step.more ++ others.later;
          are = others.are ∙ append_assoc before step.more others.later;
          ahead = all_append (Ahead index) step.more others.later (passed_ahead index op step.had.kinds step.had.loops step.more names.0 step.sends.passed)
              (all_more (Ahead (suc index)) (Ahead index) others.later (λ one h. omega arith) others.ahead);
        }

    arrives_still : (index : ℕ) (before later final : List Sent) (had : Operands) → arrived (sent_to index before) ≡ Ok had → AllByRecursion (Ahead index) later → final ≡ before ++ later → arrival index final ≡ Ok had
    arrives_still index before later final had h ahead are =
        ap (λ final. arrival index final) are ∙ ap arrived (sent_to_both index before later ∙ ap (λ later. sent_to index before ++ later) (elsewhere index later (all_more (Ahead index) (λ one. one.target ≡ index → ⊥) later (λ one h same. omega arith) ahead)) ∙ append-nil (sent_to index before)) ∙ h

    -- each operation, by how many are between
    pub passed_at : (index : ℕ) (rest : List Op) (before final : List Sent) → all_pass (names_well ops) index rest ≡ Ok tt → sent_on code shape index rest before ≡ Ok final
        → (n : ℕ) (op : Op) → slice_get rest n ≡ Some op → Passed final (n + index) op
    passed_at index [] before final well h n op there = absurd cc
    passed_at index (first ∷ rest) before final well h zero op there =
        let step = once index first rest before final h in
        let names = found_nothing index (names_well ops index first) (all_pass (names_well ops) (suc index) rest) well in
        let others = later_is (suc index) rest (before ++ step.more) final names.1 step.others in
        let all : final ≡ before ++ (step.more ++ others.later) = others.are ∙ append_assoc before step.more others.later in
        let ahead = all_append (Ahead index) step.more others.later (passed_ahead index first step.had.kinds step.had.loops step.more names.0 step.sends.passed)
        (all_more (Ahead (suc index)) (Ahead index) others.later (λ one h. omega arith) others.ahead) in
        let same : first ≡ op = cc in
        let start : 0 + index ≡ index = omega arith in
        rw (start, ← same) (record {
          had = step.had;
          more = step.more;
          front = before;
          later = others.later;
          arrives = arrives_still index before (step.more ++ others.later) final step.had step.arrives ahead all;
          sends = step.sends;
          all = all;
        })
    passed_at index (first ∷ rest) before final well h (suc n) op there =
        let step = once index first rest before final h in
        let names = found_nothing index (names_well ops index first) (all_pass (names_well ops) (suc index) rest) well in
        let later : Passed final (n + suc index) op = passed_at (suc index) rest (before ++ step.more) final names.1 step.others n op there in
        let indices : n + suc index ≡ suc n + index = omega arith in
        rw indices at later

    -- what holds of all that is sent, where each operation sends on what it holds of, if it holds of what was sent before
    pub all_hold : (P : Sent → Type 0) (final : List Sent)
        → ((index : ℕ) (op : Op) (had : Operands) (more before : List Sent) → slice_get ops index ≡ Some op → arrival index final ≡ Ok had → arrived (sent_to index before) ≡ Ok had → Sends index op had more
        → AllByRecursion P before → AllByRecursion P more)
        → (index : ℕ) (rest : List Op) (before : List Sent) → ((n : ℕ) (op : Op) → slice_get rest n ≡ Some op → slice_get ops (n + index) ≡ Some op) → all_pass (names_well ops) index rest ≡ Ok tt
        → sent_on code shape index rest before ≡ Ok final → AllByRecursion P before → AllByRecursion P final
    all_hold P final each index [] before aligned well h all = let same : before ≡ final = cc in rw (sym same) all
    all_hold P final each index (op ∷ rest) before aligned well h all =
        let step = once index op rest before final h in
        let names = found_nothing index (names_well ops index op) (all_pass (names_well ops) (suc index) rest) well in
        let others = later_is (suc index) rest (before ++ step.more) final names.1 step.others in
        let ahead = all_append (Ahead index) step.more others.later (passed_ahead index op step.had.kinds step.had.loops step.more names.0 step.sends.passed)
        (all_more (Ahead (suc index)) (Ahead index) others.later (λ one h. omega arith) others.ahead) in
        let here : slice_get ops (0 + index) ≡ Some op = aligned 0 op refl in
        let start : 0 + index ≡ index = omega arith in
        let arrives = arrives_still index before (step.more ++ others.later) final step.had step.arrives ahead (others.are ∙ append_assoc before step.more others.later) in
        let more : AllByRecursion P step.more = each index op step.had step.more before (rw start at here) arrives step.arrives step.sends all in
        all_hold P final each (suc index) rest (before ++ step.more) (λ n op there. let further : n + suc index ≡ suc n + index = omega arith in rw further (aligned (suc n) op there)) names.1 step.others
        (all_append P before step.more all more)
