-- Blocks of code that give operands of one kind more or other kinds: what the verifier's pass 5 sends through them arrives after
-- them, unless the operands are too many.
use Rattle.std.proofs.Common.{◌≡◌, ◌<◌, ◌≤◌, ℕ, zero, suc, Bool, true, false, nat_le, List, [], ◌∷◌, ◌++◌, length, drop, Some, Result, Ok, Err, refl, sym, ap, subst, inl, inr, ◌∙◌, arith}
use Rattle.std.specs.Prelude.{◌⊎◌, ◌==◌, if◌then◌else◌, nat_lt, slice_get}
use Rattle.std.specs.List.{AllByRecursion}
use Rattle.std.proofs.lemmas.Bool.Decides.{nat_tests}
use Rattle.std.proofs.lemmas.List.{append-nil, append_assoc}
use Rattle.ar_value.specs.Answer.{◌>>=◌}
use Rattle.ar_value.specs.Kind.{Kind, merge, shaped, boolean_kind}
use Rattle.ar_value.specs.Shape.{Shape, list}
use Rattle.ar_value.specs.declared.operator.Predicate.{Predicate}
use Rattle.ar_value.proofs.Merges.{merge_with_itself}
use Rattle.ar_value.specs.Limits.{most_loops, most_operands}
use Rattle.ar_op.specs.Code.{Code}
use Rattle.ar_op.specs.declared.op.Op.{Op}
use Rattle.ar_op.specs.declared.op.Jump.TheVariants as jumps
use Rattle.ar_op.specs.declared.op.Op.TheVariants.{Jump, Enter, Step, Return}
use Rattle.ar_safety.specs.Arrivals.{Around, Operands, Sent, all_sent, answer_kind, arrived, at_index, deepest, innermost_shape, merged_all, lacks, merged, operands, passed_on, sent, sent_on, sent_to, to_next}
use Rattle.ar_safety.specs.Effects.{kinds_left}
use Rattle.ar_safety.specs.declared.error.Cause.{Cause}
use Rattle.ar_safety.specs.declared.error.Cause.TheVariants.{Fault}
use Rattle.ar_safety.specs.declared.error.Reason.TheVariants.{StackTooDeep}
use Rattle.ar_safety.proofs.Arriving.{all_append, all_more, arrives, elsewhere, sent_to_both}
use Rattle.ar_compile.proofs.Blocks.{Block, IsPlain, SkipsTo, both, branches, loops, one, skips}
use Rattle.ar_compile.proofs.Merging.{joined_front}

first_of : {A : Type 0} (x y : A) (xs ys : List A) → (x ∷ xs) ≡ (y ∷ ys) → x ≡ y
first_of x y xs ys h = cc

itself : (n : ℕ) → (n == n) ≡ true
itself n = grind (arith, nat_tests)

none_lacks : (n : ℕ) → nat_lt (suc n) 1 ≡ false
none_lacks n = grind (arith, nat_tests)

nothing_lacks : (n : ℕ) → nat_lt n 0 ≡ false
nothing_lacks n = grind (arith, nat_tests)

some_op : (x y : Op) → Some x ≡ Some y → x ≡ y
some_op x y h = cc

module _ (code : Code) (shape : Shape) where
  abbrev pub At : (index : ℕ) → Op → Type 0
  At index op = slice_get code.ops index ≡ Some op

  -- in these loops, from an index with operands of these kinds above the floor to one with operands of those kinds
  pub data Flows : List Around → (begin : ℕ) → List Kind → (end : ℕ) → List Kind → Type 0 where
    one_op : {around : List Around} {begin : ℕ} {kinds given : List Kind} {op : Op} → At begin op → IsPlain op → lacks op (operands kinds around) ≡ false → kinds_left code shape (innermost_shape around) op kinds ≡ Some given
        → Flows around begin kinds (suc begin) given
    in_turn : {around : List Around} {begin middle end : ℕ} {kinds given last : List Kind} → Flows around begin kinds middle given → Flows around middle given end last → Flows around begin kinds end last
    skipped : {around : List Around} {begin end : ℕ} {kinds : List Kind} {op : Op} → At begin op → SkipsTo end op → Flows around (suc begin) kinds end (boolean_kind ∷ kinds) → Flows around begin (boolean_kind ∷ kinds) end (boolean_kind ∷ kinds)
    one_of_two : {around : List Around} {begin middle end : ℕ} {kinds : List Kind} {left right kind : Kind} → At begin (Jump jumps.Branch (suc middle)) → Flows around (suc begin) kinds middle (left ∷ kinds) → At middle (Jump jumps.Always end)
        → Flows around (suc middle) kinds end (right ∷ kinds) → merge left right ≡ Some kind → Flows around begin (boolean_kind ∷ kinds) end (kind ∷ kinds)
    over_list : {around : List Around} {begin step most : ℕ} {kinds : List Kind} {item : Shape} {predicate : Predicate} → length around < most_loops → At begin (Enter predicate step)
        → Flows (record { item = item; most = most; below = kinds } ∷ around) (suc begin) [] step (boolean_kind ∷ []) → At step (Step predicate begin)
        → Flows around begin (shaped (list item most) ∷ kinds) (suc step) (answer_kind predicate item most ∷ kinds)

  pub block : {around : List Around} {begin end : ℕ} {kinds given : List Kind} → Flows around begin kinds end given → Block code.ops (length around) begin end
  block (one_op there plain enough gives) = one there plain
  block (in_turn first second) = both (block first) (block second)
  block (skipped there to rest) = skips there to (block rest)
  block (one_of_two branch then_branch jump else_branch common) = branches branch (block then_branch) jump (block else_branch)
  block (over_list few enter body step) = loops few enter (block body) step

  ahead : {around : List Around} {begin end : ℕ} {kinds given : List Kind} → Flows around begin kinds end given → begin < end
  ahead (one_op there plain enough gives) = omega arith
  ahead (in_turn first second) = let h = ahead first in let k = ahead second in omega arith
  ahead (skipped there to rest) = let h = ahead rest in omega arith
  ahead (one_of_two branch then_branch jump else_branch common) = let h = ahead then_branch in let k = ahead else_branch in omega arith
  ahead (over_list few enter body step) = let h = ahead body in omega arith

  -- ---- the verifier at an index

  abbrev flow : (index : ℕ) → List Sent → Result (List Sent) Cause
  flow index before = sent_on code shape index (drop index code.ops) before

  dropped : (ops : List Op) (index : ℕ) (op : Op) → slice_get ops index ≡ Some op → drop index ops ≡ op ∷ drop (suc index) ops
  dropped [] index op there = absurd cc
  dropped (first ∷ ops) zero op there = ap (λ op. op ∷ ops) (some_op first op there)
  dropped (first ∷ ops) (suc index) op there = dropped ops index op there

  -- what was sent is sent, unless it is too much
  by_height : (index : ℕ) (op : Op) (rest : List Op) (before more : List Sent) (test : Bool)
      → ((at_index index (if test then Ok more else Err StackTooDeep) >>= λ more. sent_on code shape (suc index) rest (before ++ more)) ≡ sent_on code shape (suc index) rest (before ++ more))
      ⊎ ((at_index index (if test then Ok more else Err StackTooDeep) >>= λ more. sent_on code shape (suc index) rest (before ++ more)) ≡ Err (Fault index StackTooDeep))
  by_height index op rest before more true = inl refl
  by_height index op rest before more false = inr refl

  steps : (index : ℕ) (op : Op) (had : Operands) (before more : List Sent) → At index op → arrived (sent_to index before) ≡ Ok had → lacks op had ≡ false → passed_on code shape index op had.kinds had.loops ≡ Ok more
      → (flow index before ≡ flow (suc index) (before ++ more)) ⊎ (flow index before ≡ Err (Fault index StackTooDeep))
  steps index op had before more there came enough passes =
      rw (dropped code.ops index op there, came, enough, passes) (by_height index op (drop (suc index) code.ops) before more (nat_le (deepest more) most_operands))

  -- ---- what is sent to an index

  sent_here : (index : ℕ) (kinds : List Kind) (around : List Around) (others : List Sent) → sent_to index (sent index kinds around ∷ others) ≡ operands kinds around ∷ sent_to index others
  sent_here index kinds around others = rw (itself index) refl

  sent_away : (index target : ℕ) (kinds : List Kind) (around : List Around) (others : List Sent) → (target ≡ index → ⊥) → sent_to index (sent target kinds around ∷ others) ≡ sent_to index others
  sent_away index target kinds around others away = let differs : (target == index) ≡ false = grind (arith, nat_tests) in rw differs refl

  none_more : (index : ℕ) (before more : List Sent) → sent_to index before ≡ [] → sent_to index more ≡ [] → sent_to index (before ++ more) ≡ []
  none_more index before more h k = sent_to_both index before more ∙ rw (h, k) refl

  only_more : (index : ℕ) (before more : List Sent) → sent_to index before ≡ [] → sent_to index (before ++ more) ≡ sent_to index more
  only_more index before more h = sent_to_both index before more ∙ rw h refl

  merged_self : (kinds : List Kind) → merged kinds kinds ≡ Some kinds
  merged_self [] = refl
  merged_self (kind ∷ kinds) = rw (merge_with_itself kind, merged_self kinds) refl

  merged_tops : (left right kind : Kind) (kinds : List Kind) → merge left right ≡ Some kind → merged (left ∷ kinds) (right ∷ kinds) ≡ Some (kind ∷ kinds)
  merged_tops left right kind kinds h = rw (h, merged_self kinds) refl

  first_loops : (first : Operands) (others : List Operands) (had : Operands) → arrived (first ∷ others) ≡ Ok had → first.loops ≡ had.loops
  first_loops first others had h =
      let came = arrives (first ∷ others) had h in
      let same : first ≡ came.first = first_of first came.first others came.others came.are in
      ap (λ (o : Operands). o.loops) same ∙ came.loops

  -- what comes first, and all that comes after it
  front_arrives : (around : List Around) (first given all : List Kind) (others : List Operands) → arrived others ≡ Ok (operands given around) → merged first given ≡ Some all → arrived (operands first around ∷ others) ≡ Ok (operands all around)
  front_arrives around first given all [] h k = absurd cc
  front_arrives around first given all (second ∷ others) h k =
      let same : second.loops ≡ around = first_loops second others (operands given around) h in
      joined_front around first second.kinds given all others (subst (λ around_it. merged_all (Ok (operands second.kinds around_it)) others ≡ Ok (operands given around)) same h) k

  -- ---- through a block

  record Through (around : List Around) (begin end : ℕ) (given : List Kind) (before : List Sent) : Type 0 where
    more : List Sent
    flows : flow begin before ≡ flow end (before ++ more)
    within : AllByRecursion (λ one. (begin < one.target) × (one.target ≤ end)) more
    came : arrived (sent_to end more) ≡ Ok (operands given around)

  abbrev TooDeep : (begin : ℕ) → List Sent → Type 0
  TooDeep begin before = (index : ℕ) × (flow begin before ≡ Err (Fault index StackTooDeep))

  abbrev Outcome : List Around → (begin end : ℕ) → List Kind → List Sent → Type 0
  Outcome around begin end given before = Through around begin end given before ⊎ TooDeep begin before

  -- to the indexes inside a block nothing is sent from before it
  abbrev Fresh : (begin end : ℕ) → List Sent → Type 0
  Fresh begin end before = (index : ℕ) → begin < index → index < end → sent_to index before ≡ []

  abbrev Passes : List Around → (begin : ℕ) → List Kind → (end : ℕ) → List Kind → Type 0
  Passes around begin kinds end given = (before : List Sent) → arrived (sent_to begin before) ≡ Ok (operands kinds around) → Fresh begin end before → Outcome around begin end given before

  plain_passes : (index : ℕ) (op : Op) (kinds : List Kind) (around : List Around) → IsPlain op → passed_on code shape index op kinds around ≡ to_next index around (kinds_left code shape (innermost_shape around) op kinds)
  plain_passes index (Jump jump target) kinds around plain = absurd plain
  plain_passes index (Enter predicate step) kinds around plain = absurd plain
  plain_passes index (Step predicate enter) kinds around plain = absurd plain
  plain_passes index Return kinds around plain = absurd plain
  plain_passes index op kinds around plain = refl

  one_op_passes : (around : List Around) (begin : ℕ) (kinds given : List Kind) (op : Op) → At begin op → IsPlain op → lacks op (operands kinds around) ≡ false → kinds_left code shape (innermost_shape around) op kinds ≡ Some given
      → Passes around begin kinds (suc begin) given
  one_op_passes around begin kinds given op there plain enough gives before came fresh =
      let sent_next = sent (suc begin) given around ∷ [] in
      let passes : passed_on code shape begin op kinds around ≡ Ok sent_next = plain_passes begin op kinds around plain ∙ rw gives refl in
      elim (steps begin op (operands kinds around) before sent_next there came enough passes) [
        | inl proceeds ↦ inl (record { more = sent_next; flows = proceeds; within = ((omega arith, omega arith), tt); came = rw (sent_here (suc begin) given around []) refl })
        | inr deep ↦ inr (begin, deep)
      ]

  in_turn_passes : (around : List Around) (begin middle end : ℕ) (kinds given last : List Kind) → begin < middle → middle < end → Passes around begin kinds middle given → Passes around middle given end last → Passes around begin kinds end last
  in_turn_passes around begin middle end kinds given last h k first second before came fresh =
      elim (first before came (λ index from below. fresh index from (omega arith))) [
        | inl front ↦
            let away : AllByRecursion (λ sent. sent.target ≤ middle) front.more = all_more (λ sent. (begin < sent.target) × (sent.target ≤ middle)) (λ sent. sent.target ≤ middle) front.more (λ sent w. w.1) front.within in
            let came_next = ap arrived (only_more middle before front.more (fresh middle h k)) ∙ front.came in
            let fresh_next : Fresh middle end (before ++ front.more) = λ index from below. none_more index before front.more (fresh index (omega arith) below) (elsewhere index front.more (all_more (λ sent. sent.target ≤ middle) (λ sent. sent.target ≡ index → ⊥) front.more (λ sent w same. omega arith) away)) in
            elim (second (before ++ front.more) came_next fresh_next) [
              | inl other ↦ inl (record {
                more = front.more ++ other.more;
                flows = front.flows ∙ other.flows ∙ ap (flow end) (append_assoc before front.more other.more);
                within = all_append (λ sent. (begin < sent.target) × (sent.target ≤ end)) front.more other.more
                    (all_more (λ sent. (begin < sent.target) × (sent.target ≤ middle)) (λ sent. (begin < sent.target) × (sent.target ≤ end)) front.more (λ sent w. (w.0, omega (arith, w.1))) front.within)
                    (all_more (λ sent. (middle < sent.target) × (sent.target ≤ end)) (λ sent. (begin < sent.target) × (sent.target ≤ end)) other.more (λ sent w. (omega (arith, w.0), w.1)) other.within);
                came = ap arrived (only_more end front.more other.more (elsewhere end front.more (all_more (λ sent. sent.target ≤ middle) (λ sent. sent.target ≡ end → ⊥) front.more (λ sent w same. omega arith) away))) ∙ other.came;
              })
              | inr deep ↦ inr (deep.0, front.flows ∙ deep.1)
            ]
        | inr deep ↦ inr deep
      ]

  -- the messages of a jump, and all that comes after it
  skip_passes : (index target : ℕ) (op : Op) (kinds : List Kind) (around : List Around) → SkipsTo target op
      → (lacks op (operands (boolean_kind ∷ kinds) around) ≡ false) × (passed_on code shape index op (boolean_kind ∷ kinds) around ≡ Ok (sent target (boolean_kind ∷ kinds) around ∷ sent (suc index) kinds around ∷ []))
  skip_passes index target (Jump jumps.And named) kinds around to = (none_lacks (length kinds), rw to refl)
  skip_passes index target (Jump jumps.Or named) kinds around to = (none_lacks (length kinds), rw to refl)
  skip_passes index target op kinds around to = absurd to

  -- from messages to the end of a block and to another index, through what is after that index
  two_ways : (around_it : List Around) (begin start end : ℕ) (first second given all : List Kind) (before : List Sent) → begin < start → start < end → flow begin before ≡ flow start (before ++ sent end first around_it ∷ sent start second around_it ∷ [])
      → Through around_it start end given (before ++ sent end first around_it ∷ sent start second around_it ∷ []) → merged first given ≡ Some all → Through around_it begin end all before
  two_ways around_it begin start end first second given all before h k proceeds rest merges =
      let two = sent end first around_it ∷ sent start second around_it ∷ [] in
      let to_end : sent_to end two ≡ operands first around_it ∷ [] = sent_here end first around_it (sent start second around_it ∷ []) ∙ ap (λ others. operands first around_it ∷ others) (sent_away end start second around_it [] (λ same. omega arith)) in
      let all_there : sent_to end (two ++ rest.more) ≡ operands first around_it ∷ sent_to end rest.more = sent_to_both end two rest.more ∙ ap (λ front. front ++ sent_to end rest.more) to_end in
      record {
        more = two ++ rest.more;
        flows = proceeds ∙ rest.flows ∙ ap (flow end) (append_assoc before two rest.more);
        within = (
          (omega arith, omega arith),
          (
            (h, omega arith),
            all_more (λ sent. (start < sent.target) × (sent.target ≤ end)) (λ sent. (begin < sent.target) × (sent.target ≤ end)) rest.more (λ sent w. (omega (arith, w.0), w.1)) rest.within,
          ),
        );
        came = ap arrived all_there ∙ front_arrives around_it first given all (sent_to end rest.more) rest.came merges;
      }

  skipped_passes : (around : List Around) (begin end : ℕ) (kinds : List Kind) (op : Op) → At begin op → SkipsTo end op → suc begin < end → Passes around (suc begin) kinds end (boolean_kind ∷ kinds) → Passes around begin (boolean_kind ∷ kinds) end (boolean_kind ∷ kinds)
  skipped_passes around begin end kinds op there to h rest before came fresh =
      let passes = skip_passes begin end op kinds around to in
      let two = sent end (boolean_kind ∷ kinds) around ∷ sent (suc begin) kinds around ∷ [] in
      let next : sent_to (suc begin) two ≡ operands kinds around ∷ [] = sent_away (suc begin) end (boolean_kind ∷ kinds) around (sent (suc begin) kinds around ∷ []) (λ same. omega arith) ∙ sent_here (suc begin) kinds around [] in
      let came_next = ap arrived (only_more (suc begin) before two (fresh (suc begin) (omega arith) h) ∙ next) in
      let fresh_next : Fresh (suc begin) end (before ++ two) = λ index from below. none_more index before two (fresh index (omega arith) below) (elsewhere index two ((λ same. omega arith), ((λ same. omega arith), tt))) in
      elim (steps begin op (operands (boolean_kind ∷ kinds) around) before two there came passes.0 passes.1) [
        | inl proceeds ↦ elim (rest (before ++ two) came_next fresh_next) [
          | inl other ↦ inl (two_ways around begin (suc begin) end (boolean_kind ∷ kinds) kinds (boolean_kind ∷ kinds) (boolean_kind ∷ kinds) before (omega arith) h proceeds other (merged_self (boolean_kind ∷ kinds)))
          | inr deep ↦ inr (deep.0, proceeds ∙ deep.1)
        ]
        | inr deep ↦ inr (begin, deep)
      ]

  four_lists : (before two front last : List Sent) (one_more : Sent) → ((((before ++ two) ++ front) ++ one_more ∷ []) ++ last) ≡ before ++ (two ++ (front ++ (one_more ∷ last)))
  four_lists before two front last one_more =
      append_assoc ((before ++ two) ++ front) (one_more ∷ []) last ∙ append_assoc (before ++ two) front (one_more ∷ last) ∙ append_assoc before two (front ++ (one_more ∷ last))

  branch_on : (around : List Around) (begin middle end : ℕ) (kinds : List Kind) (left right kind : Kind) → At middle (Jump jumps.Always end) → suc begin < middle → suc middle < end → merge left right ≡ Some kind
      → Passes around (suc middle) kinds end (right ∷ kinds) → (before : List Sent) → Fresh begin end before → flow begin before ≡ flow (suc begin) (before ++ sent (suc middle) kinds around ∷ sent (suc begin) kinds around ∷ [])
      → Through around (suc begin) middle (left ∷ kinds) (before ++ sent (suc middle) kinds around ∷ sent (suc begin) kinds around ∷ [])
      → ((index : ℕ) → suc begin < index → (index ≡ suc middle → ⊥) → sent_to index (sent (suc middle) kinds around ∷ sent (suc begin) kinds around ∷ []) ≡ []) → Outcome around begin end (kind ∷ kinds) before
  branch_on around begin middle end kinds left right kind jump h k common else_branch before fresh proceeds then_branch away_two =
      let two = sent (suc middle) kinds around ∷ sent (suc begin) kinds around ∷ [] in
      let one_more = sent end (left ∷ kinds) around in
      let three = (before ++ two) ++ then_branch.more in
      let low : (index : ℕ) → middle < index → sent_to index then_branch.more ≡ [] = λ index from. elsewhere index then_branch.more (all_more (λ sent. (suc begin < sent.target) × (sent.target ≤ middle)) (λ sent. sent.target ≡ index → ⊥) then_branch.more (λ sent w same. omega (arith, from, w.1)) then_branch.within) in
      let none_front : (index : ℕ) → suc begin < index → index < end → (index ≡ suc middle → ⊥) → sent_to index (before ++ two) ≡ [] = λ index from below differs. none_more index before two (fresh index (omega arith) below) (away_two index from differs) in
      let came_jump = ap arrived (only_more middle (before ++ two) then_branch.more (none_front middle h (omega arith) (λ same. omega arith))) ∙ then_branch.came in
      let at_else : sent_to (suc middle) (three ++ one_more ∷ []) ≡ operands kinds around ∷ [] =
      sent_to_both (suc middle) three (one_more ∷ []) ∙ ap (λ others. sent_to (suc middle) three ++ others) (sent_away (suc middle) end (left ∷ kinds) around [] (λ same. omega arith)) ∙ append-nil (sent_to (suc middle) three)
      ∙ sent_to_both (suc middle) (before ++ two) then_branch.more ∙ ap (λ others. sent_to (suc middle) (before ++ two) ++ others) (low (suc middle) (omega arith)) ∙ append-nil (sent_to (suc middle) (before ++ two))
      ∙ only_more (suc middle) before two (fresh (suc middle) (omega arith) k) ∙ sent_here (suc middle) kinds around (sent (suc begin) kinds around ∷ []) ∙ ap (λ others. operands kinds around ∷ others) (sent_away (suc middle) (suc begin) kinds around [] (λ same. omega arith)) in
      let fresh_else : Fresh (suc middle) end (three ++ one_more ∷ []) = λ index from below.
      none_more index three (one_more ∷ []) (none_more index (before ++ two) then_branch.more (none_front index (omega arith) below (λ same. omega arith)) (low index (omega arith))) (sent_away index end (left ∷ kinds) around [] (λ same. omega arith)) in
      elim (steps middle (Jump jumps.Always end) (operands (left ∷ kinds) around) three (one_more ∷ []) jump came_jump (nothing_lacks (suc (length kinds))) refl) [
        | inl jumped ↦ elim (else_branch (three ++ one_more ∷ []) (ap arrived at_else) fresh_else) [
          | inl last ↦
              let none_two : sent_to end two ≡ [] = away_two end (omega arith) (λ same. omega arith) in
              let all_there : sent_to end (two ++ (then_branch.more ++ (one_more ∷ last.more))) ≡ operands (left ∷ kinds) around ∷ sent_to end last.more =
              only_more end two (then_branch.more ++ (one_more ∷ last.more)) none_two ∙ only_more end then_branch.more (one_more ∷ last.more) (low end (omega arith)) ∙ sent_here end (left ∷ kinds) around last.more in
              inl (record {
                more = two ++ (then_branch.more ++ (one_more ∷ last.more));
                flows = proceeds ∙ then_branch.flows ∙ jumped ∙ last.flows ∙ ap (flow end) (four_lists before two then_branch.more last.more one_more);
                within = (
                  (omega arith, omega arith),
                  (
                    (omega arith, omega arith),
                    all_append (λ sent. (begin < sent.target) × (sent.target ≤ end)) then_branch.more (one_more ∷ last.more)
                        (all_more (λ sent. (suc begin < sent.target) × (sent.target ≤ middle)) (λ sent. (begin < sent.target) × (sent.target ≤ end)) then_branch.more (λ sent w. (omega (arith, w.0), omega (arith, w.1))) then_branch.within)
                        ((omega arith, omega arith), all_more (λ sent. (suc middle < sent.target) × (sent.target ≤ end)) (λ sent. (begin < sent.target) × (sent.target ≤ end)) last.more (λ sent w. (omega (arith, w.0), w.1)) last.within),
                  ),
                );
                came = ap arrived all_there ∙ front_arrives around (left ∷ kinds) (right ∷ kinds) (kind ∷ kinds) (sent_to end last.more) last.came (merged_tops left right kind kinds common);
              })
          | inr deep ↦ inr (deep.0, proceeds ∙ then_branch.flows ∙ jumped ∙ deep.1)
        ]
        | inr deep ↦ inr (middle, proceeds ∙ then_branch.flows ∙ deep)
      ]

  -- one of two blocks
  branch_passes : (around : List Around) (begin middle end : ℕ) (kinds : List Kind) (left right kind : Kind) → At begin (Jump jumps.Branch (suc middle)) → At middle (Jump jumps.Always end) → suc begin < middle → suc middle < end → merge left right ≡ Some kind
      → Passes around (suc begin) kinds middle (left ∷ kinds) → Passes around (suc middle) kinds end (right ∷ kinds) → Passes around begin (boolean_kind ∷ kinds) end (kind ∷ kinds)
  branch_passes around begin middle end kinds left right kind branch jump h k common then_branch else_branch before came fresh =
      let two = sent (suc middle) kinds around ∷ sent (suc begin) kinds around ∷ [] in
      let next : sent_to (suc begin) two ≡ operands kinds around ∷ [] = sent_away (suc begin) (suc middle) kinds around (sent (suc begin) kinds around ∷ []) (λ same. omega arith) ∙ sent_here (suc begin) kinds around [] in
      let came_next = ap arrived (only_more (suc begin) before two (fresh (suc begin) (omega arith) (omega arith)) ∙ next) in
      let away_two : (index : ℕ) → suc begin < index → (index ≡ suc middle → ⊥) → sent_to index two ≡ [] = λ index from differs. elsewhere index two ((λ same. differs (sym same)), ((λ same. omega arith), tt)) in
      let fresh_next : Fresh (suc begin) middle (before ++ two) = λ index from below. none_more index before two (fresh index (omega arith) (omega arith)) (away_two index from (λ same. omega arith)) in
      elim (steps begin (Jump jumps.Branch (suc middle)) (operands (boolean_kind ∷ kinds) around) before two branch came (none_lacks (length kinds)) refl) [
        | inl proceeds ↦ elim (then_branch (before ++ two) came_next fresh_next) [
          | inl through_then ↦ branch_on around begin middle end kinds left right kind jump h k common else_branch before fresh proceeds through_then away_two
          | inr deep ↦ inr (deep.0, proceeds ∙ deep.1)
        ]
        | inr deep ↦ inr (begin, deep)
      ]

  -- a loop
  loop_passes : (around : List Around) (begin step most : ℕ) (kinds : List Kind) (item : Shape) (predicate : Predicate) → At begin (Enter predicate step) → At step (Step predicate begin) → suc begin < step
      → Passes (record { item = item; most = most; below = kinds } ∷ around) (suc begin) [] step (boolean_kind ∷ []) → Passes around begin (shaped (list item most) ∷ kinds) (suc step) (answer_kind predicate item most ∷ kinds)
  loop_passes around begin step most kinds item predicate enter step_there h body before came fresh =
      let inner : Around = record { item = item; most = most; below = kinds } in
      let answer = answer_kind predicate item most ∷ kinds in
      let two = sent (suc begin) [] (inner ∷ around) ∷ sent (suc step) answer around ∷ [] in
      let next : sent_to (suc begin) two ≡ operands [] (inner ∷ around) ∷ [] = sent_here (suc begin) [] (inner ∷ around) (sent (suc step) answer around ∷ []) ∙ ap (λ others. operands [] (inner ∷ around) ∷ others) (sent_away (suc begin) (suc step) answer around [] (λ same. omega arith)) in
      let came_next = ap arrived (only_more (suc begin) before two (fresh (suc begin) (omega arith) (omega arith)) ∙ next) in
      let away_two : (index : ℕ) → suc begin < index → index < suc step → sent_to index two ≡ [] = λ index from below. elsewhere index two ((λ same. omega arith), ((λ same. omega arith), tt)) in
      let fresh_next : Fresh (suc begin) step (before ++ two) = λ index from below. none_more index before two (fresh index (omega arith) (omega arith)) (away_two index from (omega arith)) in
      elim (steps begin (Enter predicate step) (operands (shaped (list item most) ∷ kinds) around) before two enter came (none_lacks (length kinds)) refl) [
        | inl proceeds ↦ elim (body (before ++ two) came_next fresh_next) [
          | inl through ↦
              let one_more = sent (suc step) answer around in
              let three = (before ++ two) ++ through.more in
              let came_step = ap arrived (only_more step (before ++ two) through.more (none_more step before two (fresh step (omega arith) (omega arith)) (away_two step h (omega arith)))) ∙ through.came in
              let low : sent_to (suc step) through.more ≡ [] = elsewhere (suc step) through.more (all_more (λ sent. (suc begin < sent.target) × (sent.target ≤ step)) (λ sent. sent.target ≡ suc step → ⊥) through.more (λ sent w same. omega (arith, w.1)) through.within) in
              elim (steps step (Step predicate begin) (operands (boolean_kind ∷ []) (inner ∷ around)) three (one_more ∷ []) step_there came_step refl refl) [
                | inl ends ↦
                    let front : sent_to (suc step) two ≡ operands answer around ∷ [] = sent_away (suc step) (suc begin) [] (inner ∷ around) (sent (suc step) answer around ∷ []) (λ same. omega arith) ∙ sent_here (suc step) answer around [] in
                    let all_there : sent_to (suc step) (two ++ (through.more ++ one_more ∷ [])) ≡ operands answer around ∷ operands answer around ∷ [] =
                    sent_to_both (suc step) two (through.more ++ one_more ∷ []) ∙ ap (λ first. first ++ sent_to (suc step) (through.more ++ one_more ∷ [])) front
                    ∙ ap (λ others. operands answer around ∷ others) (only_more (suc step) through.more (one_more ∷ []) low ∙ sent_here (suc step) answer around []) in
                    inl (record {
                      more = two ++ (through.more ++ one_more ∷ []);
                      flows = proceeds ∙ through.flows ∙ ends ∙ ap (flow (suc step)) (append_assoc (before ++ two) through.more (one_more ∷ []) ∙ append_assoc before two (through.more ++ one_more ∷ []));
                      within = (
                        (omega arith, omega arith),
                        (
                          (omega arith, omega arith),
                          all_append (λ sent. (begin < sent.target) × (sent.target ≤ suc step)) through.more (one_more ∷ [])
                              (all_more (λ sent. (suc begin < sent.target) × (sent.target ≤ step)) (λ sent. (begin < sent.target) × (sent.target ≤ suc step)) through.more (λ sent w. (omega (arith, w.0), omega (arith, w.1))) through.within)
                              ((omega arith, omega arith), tt),
                        ),
                      );
                      came = ap arrived all_there ∙ front_arrives around answer answer answer (operands answer around ∷ []) refl (merged_self answer);
                    })
                | inr deep ↦ inr (step, proceeds ∙ through.flows ∙ deep)
              ]
          | inr deep ↦ inr (deep.0, proceeds ∙ deep.1)
        ]
        | inr deep ↦ inr (begin, deep)
      ]

  passes : {around : List Around} {begin end : ℕ} {kinds given : List Kind} → Flows around begin kinds end given → Passes around begin kinds end given
  passes (one_op {around = around} {begin = begin} {kinds = kinds} {given = given} {op = op} there plain enough gives) = one_op_passes around begin kinds given op there plain enough gives
  passes (in_turn {around = around} {begin = begin} {middle = middle} {end = end} {kinds = kinds} {given = given} {last = last} first second) =
      in_turn_passes around begin middle end kinds given last (ahead first) (ahead second) (passes first) (passes second)
  passes (skipped {around = around} {begin = begin} {end = end} {kinds = kinds} {op = op} there to rest) = skipped_passes around begin end kinds op there to (ahead rest) (passes rest)
  passes (one_of_two {around = around} {begin = begin} {middle = middle} {end = end} {kinds = kinds} {left = left} {right = right} {kind = kind} branch then_branch jump else_branch common) =
      branch_passes around begin middle end kinds left right kind branch jump (ahead then_branch) (ahead else_branch) common (passes then_branch) (passes else_branch)
  passes (over_list {around = around} {begin = begin} {step = step} {most = most} {kinds = kinds} {item = item} {predicate = predicate} few enter body step_there) =
      loop_passes around begin step most kinds item predicate enter step_there (ahead body) (passes body)

  -- ---- code that is a block and then Return

  abbrev pub Answers : Result (List Sent) Cause → Type 0
  Answers (Ok sents) = Unit {0}
  Answers (Err cause) = (index : ℕ) × (cause ≡ Fault index StackTooDeep)

  past_end : (ops : List Op) (n : ℕ) → length ops ≤ n → drop n ops ≡ []
  past_end [] zero past = refl
  past_end [] (suc n) past = refl
  past_end (op ∷ ops) zero past = absurd (omega arith)
  past_end (op ∷ ops) (suc n) past = past_end ops n (omega arith)

  -- nothing is wrong with what is sent through it, unless the operands are too many
  pub all_arrive : (end : ℕ) → Flows [] 0 [] end (boolean_kind ∷ []) → At end Return → length code.ops ≡ suc end → Answers (all_sent code shape)
  all_arrive end flows last long =
      elim (passes flows (sent 0 [] [] ∷ []) refl (λ index from below. elsewhere index (sent 0 [] [] ∷ []) ((λ same. omega arith), tt))) [
        | inl through ↦
            let before = (sent 0 [] [] ∷ []) ++ through.more in
            let came = ap arrived (only_more end (sent 0 [] [] ∷ []) through.more (elsewhere end (sent 0 [] [] ∷ []) ((λ same. let far = ahead flows in omega (arith, far, same)), tt))) ∙ through.came in
            let none : drop (suc end) code.ops ≡ [] = past_end code.ops (suc end) (omega (arith, long)) in
            elim (steps end Return (operands (boolean_kind ∷ []) []) before [] last came refl refl) [
              | inl proceeds ↦ subst Answers (sym (through.flows ∙ proceeds ∙ ap (λ rest. sent_on code shape (suc end) rest (before ++ [])) none)) tt
              | inr deep ↦ subst Answers (sym (through.flows ∙ deep)) (end, refl)
            ]
        | inr deep ↦ subst Answers (sym deep.1) (deep.0, refl)
      ]
