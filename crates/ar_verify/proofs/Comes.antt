-- Pass 5 moves from one index to the next, and what its table shows is what arrives.
use Rattle.std.proofs.Common.{◌≡◌, ◌≢◌, ◌<◌, ◌≤◌, ℕ, zero, suc, ◌+◌, max, Bool, true, false, List, [], ◌∷◌, ◌++◌, drop, length, replicate, Option, Some, None, Result, Ok, Err, refl, sym, ap, subst, ◌∙◌, arith, add-one, append_assoc, drop-cons}
use Rattle.std.specs.Prelude.{◌==◌, if◌then◌else◌, slice_index_or, slice_get}
use Rattle.std.specs.List.{AllByRecursion}
use Rattle.std.proofs.lemmas.Bool.Decides.{nat_tests}
use Rattle.std.proofs.Math.ListN.{drop_of_length-le}
use Rattle.std.proofs.lemmas.List.{append-nil, get_or-replicate, get_or-set_other, get_or-set_same, length-map, length-replicate, length-set}
use Rattle.ar_value.specs.Answer.{◌>>=◌, Unless}
use Rattle.ar_value.specs.Kind.{Kind}
use Rattle.ar_value.specs.Shape.{Shape}
use Rattle.ar_op.specs.Code.{Code}
use Rattle.ar_op.specs.declared.op.Op.{Op}
use Rattle.ar_safety.specs.Arrivals.{Around, Operands, Sent, all_sent, arrival, arrived, at_index, deepest, merged_all, merged, of_loops, operands, sends, sent, sent_on, sent_to}
use Rattle.ar_safety.specs.Budget.{most_items, most_on_top}
use Rattle.ar_safety.specs.Memory.{is_memory}
use Rattle.ar_safety.specs.Indices.{all_pass, names_well}
use Rattle.ar_verify.specs.Private.Failures.{Meets, cause_at}
use Rattle.ar_verify.specs.Private.Held.{arrival_view}
use Rattle.ar_verify.specs.Private.Sending.{sends_by}
use Rattle.ar_verify.specs.Private.Table.{ComesTo, Shows, Sweep, StaysWithin, Table, entry, index_added, most_each, one_more, summary, summed_up, table_view, visited, with_all, with_one, without}
use Rattle.ar_safety.specs.declared.error.Cause.{Cause}
use Rattle.ar_safety.specs.declared.error.Cause.TheVariants.{Fault}
use Rattle.ar_safety.specs.declared.error.Reason.{Reason}
use Rattle.ar_safety.specs.declared.error.Reason.TheVariants.{Unreachable}
use Rattle.ar_verify.specs.declared.failure.Failure.{Failure}
use Rattle.ar_verify.specs.declared.failure.Failure.TheVariants as failures
use Rattle.ar_verify.specs.declared.operands.Operands as held
use Rattle.ar_safety.proofs.Arriving.{all_more, elsewhere, sent_to_both}
use Rattle.ar_safety.proofs.Entries.{nth_at}
use Rattle.ar_safety.proofs.Nesting.{passes_each}
use Rattle.ar_verify.proofs.Passed.{sends_as}
use Rattle.ar_safety.proofs.Passing.{Ahead, passed_ahead, sends_on}
use Rattle.ar_verify.proofs.Targets.{sends_within, stays_within}
use Rattle.ar_verify.specs.declared.whole.ShapeName as ShapeName

-- ---- one more arrives

-- something arrived
abbrev Reached : Result Operands Reason → Type 0
Reached (Err Unreachable) = ⊥
Reached so_far = Unit {0}

abbrev joined_with : Result Operands Reason → Operands → Result Operands Reason
joined_with so_far next = so_far >>= λ so_far. of_loops so_far.loops (merged so_far.kinds next.kinds)

joins_one : (so_far : Result Operands Reason) (next : Operands) → Reached so_far → joined_with so_far next ≡ one_more so_far next
joins_one (Ok so_far) next reached = refl
joins_one (Err Unreachable) next reached = absurd reached
joins_one (Err reason) next reached = refl

still_reached : (loops : List Around) (kinds : Option (List Kind)) → Reached (of_loops loops kinds)
still_reached loops (Some kinds) = tt
still_reached loops None = tt

reached_on : (so_far : Result Operands Reason) (next : Operands) → Reached so_far → Reached (joined_with so_far next)
reached_on (Ok so_far) next reached = still_reached so_far.loops (merged so_far.kinds next.kinds)
reached_on (Err Unreachable) next reached = absurd reached
reached_on (Err reason) next reached = reached

joined_one : (so_far : Result Operands Reason) (others : List Operands) (next : Operands) → Reached so_far → merged_all so_far (others ++ next ∷ []) ≡ one_more (merged_all so_far others) next
joined_one so_far [] next reached = joins_one so_far next reached
joined_one so_far (other ∷ others) next reached = joined_one (joined_with so_far other) others next (reached_on so_far other reached)

arrived_one : (before : List Operands) (next : Operands) → arrived (before ++ next ∷ []) ≡ one_more (arrived before) next
arrived_one [] next = refl
arrived_one (first ∷ others) next = joined_one (Ok first) others next tt

-- ---- the table

module _ (index : ℕ) where
  sent_one : (table : Table) (sents : List Sent) (one : Sent) (further : ℕ) (is_there : Bool) → (one.target == further) ≡ is_there → one.target < length table → index ≤ further → further < length table
      → Shows index table sents → entry (with_one table one) further ≡ arrived (sent_to further sents ++ (if is_there then one.operands ∷ [] else []))
  sent_one table sents one further true is within from inside shows =
      let there : one.target ≡ further = grind (arith, nat_tests) in
      let here : entry table one.target ≡ arrived (sent_to further sents) = rw there (shows further from inside) in
      rw (here, there) (get_or-set_same table further (one_more (arrived (sent_to further sents)) one.operands) (Err Unreachable) inside ∙ sym (arrived_one (sent_to further sents) one.operands))
  sent_one table sents one further false is within from inside shows =
      let away : further ≢ one.target = grind (arith, nat_tests) in
      get_or-set_other table one.target further (one_more (entry table one.target) one.operands) (Err Unreachable) away ∙ shows further from inside ∙ ap arrived (sym (append-nil (sent_to further sents)))

  pub shows_one : (table : Table) (sents : List Sent) (one : Sent) → one.target < length table → Shows index table sents → Shows index (with_one table one) (sents ++ one ∷ [])
  shows_one table sents one within shows further from inside =
      sent_one table sents one further (one.target == further) refl within from (rw length-set at inside) shows ∙ ap arrived (sym (sent_to_both further sents (one ∷ [])))

  all_within : (table : Table) (sents : List Sent) (one : Sent) → AllByRecursion (λ one. one.target < length table) sents → AllByRecursion (λ other. other.target < length (with_one table one)) sents
  all_within table sents one all = all_more (λ one. one.target < length table) (λ other. other.target < length (with_one table one)) sents (λ other h. rw length-set h) all

  pub shows_all : (table : Table) (sents more : List Sent) → AllByRecursion (λ one. one.target < length table) more → Shows index table sents → Shows index (with_all table more) (sents ++ more)
  shows_all table sents [] within shows = rw (append-nil sents) shows
  shows_all table sents (one ∷ more) within shows =
      rw (← append_assoc sents (one ∷ []) more) (shows_all (with_one table one) (sents ++ one ∷ []) more (all_within table more one within.1) (shows_one table sents one within.0 shows))

  shows_without : (table : Table) (sents : List Sent) → Shows index table sents → Shows (suc index) (without table index) sents
  shows_without table sents shows further from inside =
      let away : further ≢ index = omega arith in
      get_or-set_other table index further (Err Unreachable) (Err Unreachable) away ∙ shows further (omega arith) (rw length-set at inside)

long_with : (table : Table) (more : List Sent) → length (with_all table more) ≡ length table
long_with table [] = refl
long_with table (one ∷ more) = long_with (with_one table one) more ∙ length-set table one.target (one_more (entry table one.target) one.operands)

-- ---- depths, and lists on top

deepest_both : (before more : List Sent) → deepest (before ++ more) ≡ max (deepest before) (deepest more)
deepest_both [] more = omega arith
deepest_both (one ∷ before) more = let rest = deepest_both before more in rw rest (omega arith)

-- what is sent further on leaves what arrives at indexes before
arrives_alike : (index before : ℕ) (sents more : List Sent) → before ≤ index → AllByRecursion (Ahead index) more → arrival before (sents ++ more) ≡ arrival before sents
arrives_alike index before sents more further ahead =
    ap arrived (sent_to_both before sents more ∙ ap (λ later. sent_to before sents ++ later) (elsewhere before more (all_more (Ahead index) (λ one. one.target ≡ before → ⊥) more (λ one h same. omega arith) ahead))
    ∙ append-nil (sent_to before sents))

most_alike : (index indices : ℕ) (sents more : List Sent) → indices ≤ suc index → AllByRecursion (Ahead index) more → most_each indices (sents ++ more) ≡ most_each indices sents
most_alike index zero sents more few ahead = refl
most_alike index (suc indices) sents more few ahead =
    rw (most_alike index indices sents more (omega arith) ahead, arrives_alike index indices sents more (omega arith) ahead) refl

-- ---- from one index to the next

-- what is made of what two steps found
record Both {A B C E : Type 0} (m : Result A E) (f : A → Result B E) (g : A → B → C) (z : C) : Type 0 where
  x : A
  y : B
  first : m ≡ Ok x
  second : f x ≡ Ok y
  made : g x y ≡ z

abbrev IsOk : {C E : Type 0} → Result C E → C → Type 0
IsOk answer z = answer ≡ Ok z

abbrev IsErr : {C E : Type 0} → Result C E → E → Type 0
IsErr answer e = answer ≡ Err e

made_of : {C E : Type 0} (x z : C) → IsOk {E = E} (Ok x) z → x ≡ z
made_of x z is = cc

found_then : {A B C E : Type 0} (x : A) (n : Result B E) (g : A → B → C) (z : C) → IsOk (n >>= λ y. Ok (g x y)) z → (y : B) × (n ≡ Ok y) × (g x y ≡ z)
found_then x (Ok y) g z is = (y, refl, cc)
found_then x (Err e) g z is = absurd cc

found_both : {A B C E : Type 0} (m : Result A E) (f : A → Result B E) (g : A → B → C) (z : C) → IsOk (m >>= λ x. f x >>= λ y. Ok (g x y)) z → Both m f g z
found_both (Ok x) f g z is = let found = found_then x (f x) g z is in record { x = x; y = found.0; first = refl; second = found.1; made = found.2 }
found_both (Err e) f g z is = absurd cc

refused_then : {B C E : Type 0} (n : Result B E) (g : B → C) (e : E) → IsErr (n >>= λ y. Ok (g y)) e → n ≡ Err e
refused_then (Ok y) g e is = absurd cc
refused_then (Err reason) g e is = cc

refused : {A B C E : Type 0} (m : Result A E) (f : A → Result B E) (g : A → B → C) (e : E) → IsErr (m >>= λ x. f x >>= λ y. Ok (g x y)) e → (m >>= f) ≡ Err e
refused (Ok x) f g e is = refused_then (f x) (g x) e is
refused (Err reason) f g e is = cc

module _ (code : Code) (shape : Shape) (named : all_pass (names_well code.ops) 0 code.ops ≡ Ok tt) (index : ℕ) (s : Sweep) (comes : ComesTo code shape index s) where
  -- the operation at `index`
  module _ (op default : Op) (within : index < length code.ops) (is : op ≡ slice_index_or code.ops index default) where
    abbrev rest : List Op
    rest = drop (suc index) code.ops

    there : slice_get code.ops index ≡ Some op
    there = nth_at code.ops index default within ∙ ap Some (sym is)

    first_left : drop index code.ops ≡ op ∷ rest
    first_left = drop-cons code.ops index default within ∙ ap (λ first. first ∷ rest) (sym is)

    here : entry s.table index ≡ arrived (sent_to index comes.sents)
    here = comes.shows index (omega arith) (rw comes.long (omega arith))

    -- what the operation sends on
    abbrev now : Result (List Sent) Reason
    now = arrived (sent_to index comes.sents) >>= sends code shape index op

    left_now : all_sent code shape ≡ (at_index index now >>= λ more. sent_on code shape (suc index) rest (comes.sents ++ more))
    left_now = comes.left ∙ ap (λ left. sent_on code shape index left comes.sents) first_left

    same_sends : (m : Result Operands Reason) → (m >>= sends_by code shape (index + 1) op) ≡ (m >>= sends code shape index op)
    same_sends (Ok had) = sym (sends_as code shape index op had)
    same_sends (Err reason) = refl

    pub stops : (reason : Reason) → index_added code shape index op s ≡ Err reason → all_sent code shape ≡ Err (Fault index reason)
    stops reason refuses =
        let none = refused (entry s.table index) (sends_by code shape (index + 1) op) (visited index s) reason refuses in
        let same : now ≡ Err reason = ap (λ m. m >>= sends code shape index op) (sym here) ∙ sym (same_sends (entry s.table index)) ∙ none in
        left_now ∙ ap (λ now. at_index index now >>= λ more. sent_on code shape (suc index) rest (comes.sents ++ more)) same

    module _ (had : Operands) (more : List Sent) (arrives : entry s.table index ≡ Ok had) (sent : sends_by code shape (index + 1) op had ≡ Ok more) where
      arrives_here : arrived (sent_to index comes.sents) ≡ Ok had
      arrives_here = sym here ∙ arrives

      sends_here : sends code shape index op had ≡ Ok more
      sends_here = sends_as code shape index op had ∙ sent

      ahead : AllByRecursion (Ahead index) more
      ahead = passed_ahead code shape code.ops index op had.kinds had.loops more (passes_each (names_well code.ops) code.ops named index op there) (sends_on code shape index op had more sends_here).passed

      within_table : AllByRecursion (λ one. one.target < length (without s.table index)) more
      within_table =
          rw length-set (rw comes.long (sends_within (suc (length code.ops)) code shape (index + 1) (omega arith) op had more
          (stays_within code.ops index op (passes_each (names_well code.ops) code.ops named index op there)) sent))

      comes_next : ComesTo code shape (index + 1) (visited index s had more)
      comes_next = rw (add-one index) (record {
        sents = comes.sents ++ more;
        left = left_now ∙ ap (λ m. at_index index (m >>= sends code shape index op) >>= λ more. sent_on code shape (suc index) rest (comes.sents ++ more)) arrives_here
            ∙ ap (λ m. at_index index m >>= λ more. sent_on code shape (suc index) rest (comes.sents ++ more)) sends_here;
        inside = omega arith;
        long = long_with (without s.table index) more ∙ length-set s.table index (Err Unreachable) ∙ comes.long;
        shows = shows_all (suc index) (without s.table index) comes.sents more within_table (shows_without index s.table comes.sents comes.shows);
        depth = ap (λ depth. max depth (deepest more)) comes.depth ∙ sym (deepest_both comes.sents more);
        most_items = ap (λ before. before ++ most_on_top had.kinds ∷ []) (comes.most_items ∙ sym (most_alike index index comes.sents more (omega arith) ahead))
            ∙ ap (λ last. most_each index (comes.sents ++ more) ++ most_items last ∷ []) (sym (arrives_alike index index comes.sents more (omega arith) ahead ∙ arrives_here));
      })

    pub continues : (next : Sweep) → index_added code shape index op s ≡ Ok next → ComesTo code shape (index + 1) next
    continues next finds =
        let both = found_both (entry s.table index) (sends_by code shape (index + 1) op) (visited index s) next finds in
        subst (ComesTo code shape (index + 1)) both.made (comes_next both.x both.y both.first both.second)

    -- likewise by why the code stops
    pub stopped : (failure : Failure) (cause : Cause) (next : Sweep) → cause ≡ cause_at index failure → Meets {X = Unit {0}} (λ _. next) (Err failure) (index_added code shape index op s)
        → Unless (is_memory cause) (summed_up code shape ≡ Err cause)
    stopped (failures.Fault reason) cause next is refuses = rw is (ap (λ all. all >>= λ sents. Ok (summary (length code.ops) sents)) (stops reason refuses))
    stopped failures.OutOfMemory cause next is refuses = rw is tt

  pub inside_table : {M : Type 0} {name : ShapeName.Ghosts M} (op default : Op) (arrived : List (Result (held.Operands M name) Reason)) → table_view arrived ≡ s.table → index < length code.ops → op ≡ slice_index_or code.ops index default
      → StaysWithin (length arrived) op
  inside_table op default arrived is within at =
      let long : length arrived ≡ suc (length code.ops) = sym (length-map arrived arrival_view) ∙ ap length is ∙ comes.long in
      rw long (stays_within code.ops index op (passes_each (names_well code.ops) code.ops named index op (there op default within at)))

-- ---- where the pass begins

sent_elsewhere : (is_there : Bool) (had : Operands) → is_there ≡ false → Err Unreachable ≡ arrived (if is_there then had ∷ [] else [])
sent_elsewhere true had is = absurd cc
sent_elsewhere false had is = refl

shows_begin : (count further : ℕ) → further < suc count → entry (Ok (operands [] []) ∷ replicate count (Err Unreachable)) further ≡ arrived (sent_to further (sent 0 [] [] ∷ []))
shows_begin count zero inside = refl
shows_begin count (suc further) inside =
    get_or-replicate count further (Err Unreachable) (Err Unreachable) (omega arith) ∙ sent_elsewhere (0 == suc further) (operands [] []) (grind (arith, nat_tests))

pub begins : (code : Code) (shape : Shape) (s : Sweep) → s.table ≡ Ok (operands [] []) ∷ replicate (length code.ops) (Err Unreachable) → s.found.depth ≡ 0 → s.found.most_items ≡ []
    → ComesTo code shape 0 s
begins code shape s table depth most = record {
  sents = sent 0 [] [] ∷ [];
  left = refl;
  inside = omega arith;
  long = ap length table ∙ ap suc (length-replicate (length code.ops) (Err Unreachable));
  shows = λ further from inside. rw table (shows_begin (length code.ops) further (rw (table, length-replicate) at inside));
  depth = depth;
  most_items = most;
}

-- ---- where no operation is left

pub all_seen : (code : Code) (shape : Shape) (index : ℕ) (s : Sweep) → ComesTo code shape index s → length code.ops ≤ index → summed_up code shape ≡ Ok s.found
all_seen code shape index s comes past =
    let inside = comes.inside in
    let all : length code.ops ≡ index = omega (arith, inside, past) in
    ap (λ all. all >>= λ sents. Ok (summary (length code.ops) sents)) (comes.left ∙ ap (λ rest. sent_on code shape index rest comes.sents) (drop_of_length-le code.ops past))
    ∙ ap (λ depth. Ok (record { depth = depth; most_items = most_each (length code.ops) comes.sents })) (sym comes.depth)
    ∙ ap (λ items. Ok (record { depth = s.found.depth; most_items = items })) (ap (λ n. most_each n comes.sents) all ∙ sym comes.most_items)
