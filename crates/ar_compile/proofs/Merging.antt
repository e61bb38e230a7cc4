-- Kinds that arrive one after the other have the same kind in common in whatever way they are taken together.
use Rattle.std.proofs.Common.{◌≡◌, ℕ, max, Bool, true, false, List, [], ◌∷◌, Option, Some, None, option_map, Result, Ok, Err, refl, sym, ap, subst, ◌∙◌, arith}
use Rattle.std.specs.Prelude.{◌||◌, option_and_then}
use Rattle.std.specs.Str.{bytes_eq}
use Rattle.std.proofs.lemmas.Slice.Eq.{bytes_eq-Decides}
use Rattle.ar_value.specs.Kind.{Kind, is_optional, joined_field, merge, nil, or_nil, plain, shaped, widest, widest_fields}
use Rattle.ar_safety.specs.Arrivals.{Around, Operands, merged_all, merged, of_loops, operands}
use Rattle.ar_safety.specs.declared.error.Reason.{Reason}
use Rattle.ar_safety.specs.declared.error.Reason.TheVariants.{BadMerge}
use Rattle.ar_value.specs.Shape.{Shape, FieldShapes, bool, whole, decimal, text, list, object, optional, no_fields, field}

-- ---- shapes that differ in greatest lengths only

mutual
  data Widest : Shape → Shape → Shape → Type 0 where
    bools : Widest bool bool bool
    wholes : Widest whole whole whole
    decimals : Widest decimal decimal decimal
    texts : Widest text text text
    lists : {left right shape : Shape} {m n : ℕ} → Widest left right shape → Widest (list left m) (list right n) (list shape (max m n))
    objects : {left right fields : FieldShapes} → WidestFields left right fields → Widest (object left) (object right) (object fields)
    optionals : {left right shape : Shape} → Widest left right shape → Widest (optional left) (optional right) (optional shape)

  data WidestFields : FieldShapes → FieldShapes → FieldShapes → Type 0 where
    nothing : WidestFields no_fields no_fields no_fields
    fields : {name : List ℕ} {left right shape : Shape} {lefts rights others : FieldShapes} → Widest left right shape → WidestFields lefts rights others → WidestFields (field name left lefts) (field name right rights) (field name shape others)

one_shape : {A B : Type 0} (f : A → B) (o : Option A) (y : B) → option_map f o ≡ Some y → (x : A) × (o ≡ Some x) × (f x ≡ y)
one_shape f (Some x) y h = (x, refl, cc)
one_shape f None y h = absurd cc

joined_one : (is_same : Bool) (name : List ℕ) (shape : Option Shape) (others : Option FieldShapes) (all : FieldShapes) → joined_field is_same name shape others ≡ Some all
    → (is_same ≡ true) × (one : Shape) × (rest : FieldShapes) × (shape ≡ Some one) × (others ≡ Some rest) × (field name one rest ≡ all)
joined_one true name (Some shape) (Some others) all h = (refl, shape, others, refl, refl, cc)
joined_one true name (Some shape) None all h = absurd cc
joined_one true name None others all h = absurd cc
joined_one false name shape others all h = absurd cc

mutual
  is_widest : (left right shape : Shape) → widest left right ≡ Some shape → Widest left right shape
  is_widest bool bool shape h = let same : bool ≡ shape = cc in subst (Widest bool bool) same bools
  is_widest whole whole shape h = let same : whole ≡ shape = cc in subst (Widest whole whole) same wholes
  is_widest decimal decimal shape h = let same : decimal ≡ shape = cc in subst (Widest decimal decimal) same decimals
  is_widest text text shape h = let same : text ≡ shape = cc in subst (Widest text text) same texts
  is_widest (list left m) (list right n) shape h =
      let inner = one_shape (λ shape. list shape (max m n)) (widest left right) shape h in subst (Widest (list left m) (list right n)) inner.2 (lists (is_widest left right inner.0 inner.1))
  is_widest (object left) (object right) shape h = let inner = one_shape object (widest_fields left right) shape h in subst (Widest (object left) (object right)) inner.2 (objects (are_widest left right inner.0 inner.1))
  is_widest (optional left) (optional right) shape h = let inner = one_shape optional (widest left right) shape h in subst (Widest (optional left) (optional right)) inner.2 (optionals (is_widest left right inner.0 inner.1))
  is_widest left right shape h = absurd cc

  are_widest : (left right all : FieldShapes) → widest_fields left right ≡ Some all → WidestFields left right all
  are_widest no_fields no_fields all h = let same : no_fields ≡ all = cc in subst (WidestFields no_fields no_fields) same nothing
  are_widest (field name left lefts) (field of right rights) all h =
      let parts = joined_one (bytes_eq name of) name (widest left right) (widest_fields lefts rights) all h in
      let named : name ≡ of = (bytes_eq-Decides name of).0 parts.0 in
      subst (λ of. WidestFields (field name left lefts) (field of right rights) all) named (subst (WidestFields (field name left lefts) (field name right rights)) parts.5 (fields (is_widest left right parts.1 parts.3) (are_widest lefts rights parts.2 parts.4)))
  are_widest left right all h = absurd cc

same_name : (name : List ℕ) → bytes_eq name name ≡ true
same_name name = (bytes_eq-Decides name name).1 refl

mutual
  widest_is : {left right shape : Shape} → Widest left right shape → widest left right ≡ Some shape
  widest_is bools = refl
  widest_is wholes = refl
  widest_is decimals = refl
  widest_is texts = refl
  widest_is (lists inner) = rw (widest_is inner) refl
  widest_is (objects inner) = rw (widest_are inner) refl
  widest_is (optionals inner) = rw (widest_is inner) refl

  widest_are : {left right all : FieldShapes} → WidestFields left right all → widest_fields left right ≡ Some all
  widest_are nothing = refl
  widest_are (fields {name = name} inner others) = rw (same_name name, widest_is inner, widest_are others) refl

max_of_three : (l m n : ℕ) → max (max l m) n ≡ max l (max m n)
max_of_three l m n = omega arith

mutual
  -- three, the last two taken together first
  taken_first : {second third both : Shape} → Widest second third both → (first all : Shape) → Widest first both all → (front : Shape) × Widest first second front × Widest front third all
  taken_first bools first all bools = (bool, bools, bools)
  taken_first wholes first all wholes = (whole, wholes, wholes)
  taken_first decimals first all decimals = (decimal, decimals, decimals)
  taken_first texts first all texts = (text, texts, texts)
  taken_first (lists {right = third} {m = m} {n = n} inner) first all (lists {left = left} {shape = shape} {m = l} outer) =
      let front = taken_first inner left shape outer in
      (list front.0 (max l m), lists front.1, subst (λ most. Widest (list front.0 (max l m)) (list third n) (list shape most)) (max_of_three l m n) (lists front.2))
  taken_first (objects inner) first all (objects {left = left} {fields = fields_of} outer) = let front = fields_taken inner left fields_of outer in (object front.0, objects front.1, objects front.2)
  taken_first (optionals inner) first all (optionals {left = left} {shape = shape} outer) = let front = taken_first inner left shape outer in (optional front.0, optionals front.1, optionals front.2)

  fields_taken : {second third both : FieldShapes} → WidestFields second third both → (first all : FieldShapes) → WidestFields first both all → (front : FieldShapes) × WidestFields first second front × WidestFields front third all
  fields_taken nothing first all nothing = (no_fields, nothing, nothing)
  fields_taken (fields {name = name} inner others) first all (fields {left = left} {shape = shape} {lefts = lefts} {others = rest} outer further) =
      let front = taken_first inner left shape outer in
      let later = fields_taken others lefts rest further in
      (field name front.0 later.0, fields front.1 later.1, fields front.2 later.2)

-- three shapes, the last two of which are taken together first
shapes_taken : (first second third both all : Shape) → widest second third ≡ Some both → widest first both ≡ Some all → (front : Shape) × (widest first second ≡ Some front) × (widest front third ≡ Some all)
shapes_taken first second third both all h k =
    let front = taken_first (is_widest second third both h) first all (is_widest first both all k) in (front.0, widest_is front.1, widest_is front.2)

-- ---- kinds

-- a shape, or nil next to it
abbrev with_nil : Bool → Shape → Shape
with_nil true shape = optional shape
with_nil false shape = shape

twice : (o : Option Shape) → option_map shaped (option_map optional o) ≡ option_map (λ shape. shaped (optional shape)) o
twice (Some shape) = refl
twice None = refl

merge_plain : (left right : Shape) → merge (shaped left) (shaped right) ≡ option_map (λ shape. shaped (with_nil (is_optional left || is_optional right) shape)) (widest (plain left) (plain right))
merge_plain (optional left) right = twice (widest left (plain right))
merge_plain left (optional right) = twice (widest left right)
merge_plain left right = refl

of_both : (left right shape : Shape) → widest (plain left) (plain right) ≡ Some shape → merge (shaped left) (shaped right) ≡ Some (shaped (with_nil (is_optional left || is_optional right) shape))
of_both left right shape h = merge_plain left right ∙ ap (option_map (λ shape. shaped (with_nil (is_optional left || is_optional right) shape))) h

to_both : (left right : Shape) (kind : Kind) → merge (shaped left) (shaped right) ≡ Some kind → (shape : Shape) × (widest (plain left) (plain right) ≡ Some shape) × (shaped (with_nil (is_optional left || is_optional right) shape) ≡ kind)
to_both left right kind h = one_shape (λ shape. shaped (with_nil (is_optional left || is_optional right) shape)) (widest (plain left) (plain right)) kind (sym (merge_plain left right) ∙ h)

-- what is the widest of two that are both plain is plain
plain_widest : {left right shape : Shape} → Widest left right shape → is_optional left ≡ false → is_optional shape ≡ false
plain_widest bools h = refl
plain_widest wholes h = refl
plain_widest decimals h = refl
plain_widest texts h = refl
plain_widest (lists inner) h = refl
plain_widest (objects inner) h = refl
plain_widest (optionals inner) h = h

plain_once : (shape : Shape) → is_optional shape ≡ false → plain shape ≡ shape
plain_once (optional shape) h = absurd cc
plain_once shape h = refl

-- the parts of a shape that two have in common
parts_of : (test : Bool) (shape : Shape) → (test ≡ false → is_optional shape ≡ false) → (plain (with_nil test shape) ≡ shape) × (is_optional (with_nil test shape) ≡ test)
parts_of true shape h = (refl, refl)
parts_of false shape h = (plain_once shape (h refl), h refl)

no_nil : (left right shape : Shape) → widest (plain left) (plain right) ≡ Some shape → (is_optional left || is_optional right) ≡ false → is_optional shape ≡ false
no_nil (optional left) right shape h is = absurd cc
no_nil left (optional right) shape h is = absurd cc
no_nil left right shape h is = plain_widest (is_widest left right shape h) refl

common_parts : (left right shape : Shape) → widest (plain left) (plain right) ≡ Some shape
    → (plain (with_nil (is_optional left || is_optional right) shape) ≡ shape) × (is_optional (with_nil (is_optional left || is_optional right) shape) ≡ (is_optional left || is_optional right))
common_parts left right shape h = parts_of (is_optional left || is_optional right) shape (no_nil left right shape h)

either_of_three : (a b c : Bool) → ((a || b) || c) ≡ (a || (b || c))
either_of_three true b c = refl
either_of_three false b c = refl

-- three kinds, the last two taken together first
abbrev Front : (first second third all : Kind) → Type 0
Front first second third all = (front : Kind) × (merge first second ≡ Some front) × (merge front third ≡ Some all)

of_shapes : (first second third : Shape) (both all : Kind) → merge (shaped second) (shaped third) ≡ Some both → merge (shaped first) both ≡ Some all → Front (shaped first) (shaped second) (shaped third) all
of_shapes first second third both all h k =
    let later = to_both second third both h in
    let parts = common_parts second third later.0 later.1 in
    let with_after : merge (shaped first) (shaped (with_nil (is_optional second || is_optional third) later.0)) ≡ Some all = ap (merge (shaped first)) later.2 ∙ k in
    let whole_is = to_both first (with_nil (is_optional second || is_optional third) later.0) all with_after in
    let taken = shapes_taken (plain first) (plain second) (plain third) later.0 whole_is.0 later.1 (ap (widest (plain first)) (sym parts.0) ∙ whole_is.1) in
    let front_parts = common_parts first second taken.0 taken.1 in
    let front = with_nil (is_optional first || is_optional second) taken.0 in
    let nils : (is_optional front || is_optional third) ≡ (is_optional first || is_optional (with_nil (is_optional second || is_optional third) later.0)) =
    ap (λ b. b || is_optional third) front_parts.1 ∙ either_of_three (is_optional first) (is_optional second) (is_optional third) ∙ ap (λ b. is_optional first || b) (sym parts.1) in
    let last : merge (shaped front) (shaped third) ≡ Some (shaped (with_nil (is_optional front || is_optional third) whole_is.0)) = of_both front third whole_is.0 (ap (λ s. widest s (plain third)) front_parts.0 ∙ taken.2) in
    (shaped front, of_both first second taken.0 taken.1, last ∙ ap (λ b. Some (shaped (with_nil b whole_is.0))) nils ∙ ap Some whole_is.2)

one_kind : (x y : Kind) → Some x ≡ Some y → x ≡ y
one_kind x y h = cc

or_true : (b : Bool) → (b || true) ≡ true
or_true true = refl
or_true false = refl

-- a shape next to nil, which may be nil
next_to_nil : (first third : Shape) (all : Kind) → merge (shaped first) (shaped (or_nil third)) ≡ Some all → Front (shaped first) nil (shaped third) all
next_to_nil first third all h =
    let parts = to_both first (or_nil third) all h in
    (shaped (or_nil first), refl, of_both (or_nil first) third parts.0 parts.1 ∙ ap (λ b. Some (shaped (with_nil b parts.0))) (sym (or_true (is_optional first))) ∙ ap Some parts.2)

after_nil : (first second : Shape) (all : Kind) → merge (shaped first) (shaped (or_nil second)) ≡ Some all → Front (shaped first) (shaped second) nil all
after_nil first second all h =
    let parts = to_both first (or_nil second) all h in
    let front_parts = common_parts first second parts.0 parts.1 in (
      shaped (with_nil (is_optional first || is_optional second) parts.0),
      of_both first second parts.0 parts.1,
      ap (λ s. Some (shaped (optional s))) front_parts.0 ∙ ap (λ b. Some (shaped (with_nil b parts.0))) (sym (or_true (is_optional first))) ∙ ap Some parts.2,
    )

before_nil : (second third : Shape) (both all : Kind) → merge (shaped second) (shaped third) ≡ Some both → merge nil both ≡ Some all → Front nil (shaped second) (shaped third) all
before_nil second third both all h k =
    let later = to_both second third both h in
    let parts = common_parts second third later.0 later.1 in
    let all_is : Some (shaped (optional (plain (with_nil (is_optional second || is_optional third) later.0)))) ≡ Some all = ap (merge nil) later.2 ∙ k in
    (shaped (or_nil second), refl, of_both (or_nil second) third later.0 later.1 ∙ ap (λ s. Some (shaped (optional s))) (sym parts.0) ∙ all_is)

merged_front : (first second third both all : Kind) → merge second third ≡ Some both → merge first both ≡ Some all → Front first second third all
merged_front nil nil nil both all h k = let same : nil ≡ both = one_kind nil both h in (nil, refl, ap (merge nil) same ∙ k)
merged_front nil nil (shaped third) both all h k = let same : shaped (or_nil third) ≡ both = one_kind (shaped (or_nil third)) both h in (nil, refl, ap (merge nil) same ∙ k)
merged_front nil (shaped second) nil both all h k = let same : shaped (or_nil second) ≡ both = one_kind (shaped (or_nil second)) both h in (shaped (or_nil second), refl, ap (merge nil) same ∙ k)
merged_front (shaped first) nil nil both all h k = let same : nil ≡ both = one_kind nil both h in (shaped (or_nil first), refl, ap (merge (shaped first)) same ∙ k)
merged_front nil (shaped second) (shaped third) both all h k = before_nil second third both all h k
merged_front (shaped first) nil (shaped third) both all h k = next_to_nil first third all (ap (merge (shaped first)) (one_kind (shaped (or_nil third)) both h) ∙ k)
merged_front (shaped first) (shaped second) nil both all h k = after_nil first second all (ap (merge (shaped first)) (one_kind (shaped (or_nil second)) both h) ∙ k)
merged_front (shaped first) (shaped second) (shaped third) both all h k = of_shapes first second third both all h k

-- ---- operands

one_list : (x y : List Kind) → Some x ≡ Some y → x ≡ y
one_list x y h = cc

abbrev both_merged : Option Kind → Option (List Kind) → Option (List Kind)
both_merged kind kinds = option_and_then (λ kind. option_map (λ kinds. kind ∷ kinds) kinds) kind

both_parts : (kind : Option Kind) (kinds : Option (List Kind)) (all : List Kind) → both_merged kind kinds ≡ Some all → (first : Kind) × (rest : List Kind) × (kind ≡ Some first) × (kinds ≡ Some rest) × (first ∷ rest ≡ all)
both_parts (Some kind) (Some kinds) all h = (kind, kinds, refl, refl, one_list (kind ∷ kinds) all h)
both_parts (Some kind) None all h = absurd cc
both_parts None kinds all h = absurd cc

abbrev FrontOf : (first second third all : List Kind) → Type 0
FrontOf first second third all = (front : List Kind) × (merged first second ≡ Some front) × (merged front third ≡ Some all)

kinds_front : (first second third both all : List Kind) → merged second third ≡ Some both → merged first both ≡ Some all → FrontOf first second third all
kinds_front [] [] [] both all h k = let same : [] ≡ both = one_list [] both h in ([], refl, ap (merged []) same ∙ k)
kinds_front (x ∷ xs) (y ∷ ys) (z ∷ zs) both all h k =
    let later = both_parts (merge y z) (merged ys zs) both h in
    let whole_is = both_parts (merge x later.0) (merged xs later.1) all (ap (merged (x ∷ xs)) later.4 ∙ k) in
    let head = merged_front x y z later.0 whole_is.0 later.2 whole_is.2 in
    let tail = kinds_front xs ys zs later.1 whole_is.1 later.3 whole_is.3 in
    (head.0 ∷ tail.0, rw (head.1, tail.1) refl, rw (head.2, tail.2) (ap Some whole_is.4))
kinds_front [] [] (z ∷ zs) both all h k = absurd cc
kinds_front first [] (z ∷ zs) both all h k = absurd cc
kinds_front first (y ∷ ys) [] both all h k = absurd cc
kinds_front [] (y ∷ ys) (z ∷ zs) both all h k =
    let later = both_parts (merge y z) (merged ys zs) both h in
    let none : merged [] (later.0 ∷ later.1) ≡ Some all = ap (merged []) later.4 ∙ k in absurd cc
kinds_front (x ∷ xs) [] [] both all h k =
    let same : [] ≡ both = one_list [] both h in
    let none : merged (x ∷ xs) [] ≡ Some all = ap (merged (x ∷ xs)) same ∙ k in absurd cc

abbrev done : Operands → Result Operands Reason
done x = Ok x

one_joined : (x y : Operands) → done x ≡ done y → x ≡ y
one_joined x y h = cc

never_joined : (reason : Reason) (others : List Operands) (all : Operands) → merged_all (Err reason) others ≡ Ok all → ⊥
never_joined reason [] all h = cc
never_joined reason (next ∷ others) all h = never_joined reason others all h

abbrev JoinedFront : (around : List Around) (first second all : List Kind) → List Operands → Type 0
JoinedFront around first second all others = merged_all (of_loops around (merged first second)) others ≡ Ok (operands all around)

-- once more, where the second one and the next have something in common
joined_step : (around : List Around) (first second all : List Kind) (next : Operands) (others : List Operands) (middle : List Kind) → merged second next.kinds ≡ Some middle → (whole : Option (List Kind)) → merged first middle ≡ whole
    → merged_all (of_loops around whole) others ≡ Ok (operands all around) → JoinedFront around first second all (next ∷ others)
joined_step around first second all next others middle is (Some later) also h =
    let front = kinds_front first second next.kinds middle later is also in
    rw (front.1, front.2) h
joined_step around first second all next others middle is None also h = absurd (never_joined BadMerge others (operands all around) h)

joined_by : (around : List Around) (first second both all : List Kind) (next : Operands) (others : List Operands)
    → ((middle : List Kind) → merged_all (Ok (operands middle around)) others ≡ Ok (operands both around) → JoinedFront around first middle all others)
    → (middle : Option (List Kind)) → merged second next.kinds ≡ middle → merged_all (of_loops around middle) others ≡ Ok (operands both around) → JoinedFront around first second all (next ∷ others)
joined_by around first second both all next others further (Some middle) is h = joined_step around first second all next others middle is (merged first middle) refl (further middle h)
joined_by around first second both all next others further None is h = absurd (never_joined BadMerge others (operands both around) h)

-- what comes first, and what is joined of all that comes after it
pub joined_front : (around : List Around) (first second both all : List Kind) (others : List Operands) → merged_all (Ok (operands second around)) others ≡ Ok (operands both around) → merged first both ≡ Some all → JoinedFront around first second all others
joined_front around first second both all [] h k =
    let same : second ≡ both = ap (λ (o : Operands). o.kinds) (one_joined (operands second around) (operands both around) h) in
    ap (of_loops around) (ap (merged first) same ∙ k)
joined_front around first second both all (next ∷ others) h k = joined_by around first second both all next others (λ middle h. joined_front around first middle both all others h k) (merged second next.kinds) refl h
