-- Shapes of one form, and the widest of them.
use Rattle.std.proofs.Common.{◌≡◌, ℕ, List, max, Bool, true, Option, Some, None, option_map, refl, sym, ap, ◌∙◌, arith}
use Rattle.std.specs.Str.{bytes_eq}
use Rattle.std.proofs.lemmas.Slice.Eq.{bytes_eq-Decides}
use Rattle.ar_value.specs.Kind.{joined_field, widest, widest_fields}
use Rattle.ar_value.specs.Shape.{Shape, FieldShapes, bool, whole, decimal, text, list, object, optional, no_fields, field}
use Rattle.ar_verify.specs.Private.Forms.{field_forms, form, wider, wider_fields}

-- ---- the form stays

mutual
  pub form_wider : (left right : Shape) → form (wider left right) ≡ form left
  form_wider (list left m) (list right n) = ap (λ item. list item 0) (form_wider left right)
  form_wider (object left) (object right) = ap object (forms_wider left right)
  form_wider (optional left) (optional right) = ap optional (form_wider left right)
  form_wider left right = refl

  forms_wider : (left right : FieldShapes) → field_forms (wider_fields left right) ≡ field_forms left
  forms_wider (field name left lefts) (field of right rights) = rw (form_wider left right, forms_wider lefts rights) refl
  forms_wider left right = refl

-- ---- each shape counts once, in any order

mutual
  pub wider_itself : (shape : Shape) → wider shape shape ≡ shape
  wider_itself (list item most) = let same : max most most ≡ most = omega arith in rw (wider_itself item, same) refl
  wider_itself (object fields) = ap object (fields_itself fields)
  wider_itself (optional shape) = ap optional (wider_itself shape)
  wider_itself shape = refl

  fields_itself : (fields : FieldShapes) → wider_fields fields fields ≡ fields
  fields_itself no_fields = refl
  fields_itself (field name shape others) = rw (wider_itself shape, fields_itself others) refl

mutual
  pub wider_either_way : (shape left right : Shape) → wider (wider shape left) right ≡ wider (wider shape right) left
  wider_either_way (list item k) (list left m) (list right n) = let same : max (max k m) n ≡ max (max k n) m = omega arith in rw (wider_either_way item left right, same) refl
  wider_either_way (object fields) (object left) (object right) = ap object (fields_either_way fields left right)
  wider_either_way (optional shape) (optional left) (optional right) = ap optional (wider_either_way shape left right)
  wider_either_way (list item k) left (list right n) = refl
  wider_either_way (object fields) left (object right) = refl
  wider_either_way (optional shape) left (optional right) = refl
  wider_either_way shape left right = refl

  fields_either_way : (fields left right : FieldShapes) → wider_fields (wider_fields fields left) right ≡ wider_fields (wider_fields fields right) left
  fields_either_way (field name shape others) (field of left lefts) (field by right rights) = rw (wider_either_way shape left right, fields_either_way others lefts rights) refl
  fields_either_way (field name shape others) left (field by right rights) = refl
  fields_either_way fields left right = refl

-- ---- which shapes merge

same_name : (name : List ℕ) → bytes_eq name name ≡ true
same_name name = (bytes_eq-Decides name name).1 refl

mutual
  pub absorbed : (shape other : Shape) → wider (wider shape other) other ≡ wider shape other
  absorbed (list item m) (list other n) = let same : max (max m n) n ≡ max m n = omega arith in rw (absorbed item other, same) refl
  absorbed (object fields) (object others) = ap object (fields_absorbed fields others)
  absorbed (optional shape) (optional other) = ap optional (absorbed shape other)
  absorbed shape other = refl

  fields_absorbed : (fields others : FieldShapes) → wider_fields (wider_fields fields others) others ≡ wider_fields fields others
  fields_absorbed (field name shape others) (field of other more) = rw (absorbed shape other, fields_absorbed others more) refl
  fields_absorbed fields others = refl

mutual
  pub wider_of_wider : (shape left right : Shape) → form shape ≡ form left → wider shape (wider left right) ≡ wider (wider shape left) right
  wider_of_wider (list item k) (list left m) (list right n) same =
      let one : form item ≡ form left = cc in
      let most : max k (max m n) ≡ max (max k m) n = omega arith in
      rw (wider_of_wider item left right one, most) refl
  wider_of_wider (object fields) (object left) (object right) same = ap object (fields_of_wider fields left right cc)
  wider_of_wider (optional shape) (optional left) (optional right) same = ap optional (wider_of_wider shape left right cc)
  wider_of_wider (list item k) left (list right n) same = absurd cc
  wider_of_wider (object fields) left (object right) same = absurd cc
  wider_of_wider (optional shape) left (optional right) same = absurd cc
  wider_of_wider shape left right same = refl

  fields_of_wider : (fields left right : FieldShapes) → field_forms fields ≡ field_forms left → wider_fields fields (wider_fields left right) ≡ wider_fields (wider_fields fields left) right
  fields_of_wider (field name shape others) (field of left lefts) (field by right rights) same =
      let one : form shape ≡ form left = cc in
      let rest : field_forms others ≡ field_forms lefts = cc in
      rw (wider_of_wider shape left right one, fields_of_wider others lefts rights rest) refl
  fields_of_wider (field name shape others) left (field by right rights) same = absurd cc
  fields_of_wider fields left right same = refl

mapped : {A B : Type 0} (f : A → B) (found : Option A) (z : B) → option_map f found ≡ Some z → (y : A) × (found ≡ Some y) × (f y ≡ z)
mapped f (Some y) z is = (y, refl, cc)
mapped f None z is = absurd cc

joined : (same : Bool) (name : List ℕ) (shape : Option Shape) (others : Option FieldShapes) (all : FieldShapes) → joined_field same name shape others ≡ Some all
    → (one : Shape) × (rest : FieldShapes) × (same ≡ true) × (shape ≡ Some one) × (others ≡ Some rest) × (field name one rest ≡ all)
joined true name (Some one) (Some rest) all is = (one, rest, refl, refl, refl, cc)
joined same name shape others all is = absurd cc

mutual
  pub merged_is : (left right merged : Shape) → widest left right ≡ Some merged → (merged ≡ wider left right) × (form left ≡ form right)
  merged_is (list left m) (list right n) merged is =
      let found = mapped (λ item. list item (max m n)) (widest left right) merged is in
      let inside = merged_is left right found.0 found.1 in
      (sym found.2 ∙ ap (λ item. list item (max m n)) inside.0, ap (λ item. list item 0) inside.1)
  merged_is (object left) (object right) merged is =
      let found = mapped object (widest_fields left right) merged is in
      let inside = fields_are left right found.0 found.1 in
      (sym found.2 ∙ ap object inside.0, ap object inside.1)
  merged_is (optional left) (optional right) merged is =
      let found = mapped optional (widest left right) merged is in
      let inside = merged_is left right found.0 found.1 in
      (sym found.2 ∙ ap optional inside.0, ap optional inside.1)
  merged_is bool bool merged is = (cc, refl)
  merged_is whole whole merged is = (cc, refl)
  merged_is decimal decimal merged is = (cc, refl)
  merged_is text text merged is = (cc, refl)
  merged_is left right merged is = absurd cc

  fields_are : (left right merged : FieldShapes) → widest_fields left right ≡ Some merged → (merged ≡ wider_fields left right) × (field_forms left ≡ field_forms right)
  fields_are no_fields no_fields merged is = (cc, refl)
  fields_are (field name left lefts) (field of right rights) merged is =
      let found = joined (bytes_eq name of) name (widest left right) (widest_fields lefts rights) merged is in
      let one = merged_is left right found.0 found.3 in
      let rest = fields_are lefts rights found.1 found.4 in
      let named : name ≡ of = (bytes_eq-Decides name of).0 found.2 in
      (sym found.5 ∙ rw (one.0, rest.0) refl, rw (named, one.1, rest.1) refl)
  fields_are left right merged is = absurd cc

mutual
  pub merges : (left right : Shape) → form left ≡ form right → widest left right ≡ Some (wider left right)
  merges (list left m) (list right n) same = let inside : form left ≡ form right = cc in rw (merges left right inside) refl
  merges (object left) (object right) same = let inside : field_forms left ≡ field_forms right = cc in rw (fields_merge left right inside) refl
  merges (optional left) (optional right) same = let inside : form left ≡ form right = cc in rw (merges left right inside) refl
  merges bool bool same = refl
  merges whole whole same = refl
  merges decimal decimal same = refl
  merges text text same = refl
  merges left right same = absurd cc

  fields_merge : (left right : FieldShapes) → field_forms left ≡ field_forms right → widest_fields left right ≡ Some (wider_fields left right)
  fields_merge no_fields no_fields same = refl
  fields_merge (field name left lefts) (field of right rights) same =
      let named : name ≡ of = cc in
      let one : form left ≡ form right = cc in
      let rest : field_forms lefts ≡ field_forms rights = cc in
      rw (sym named, same_name name, merges left right one, fields_merge lefts rights rest) refl
  fields_merge left right same = absurd cc
