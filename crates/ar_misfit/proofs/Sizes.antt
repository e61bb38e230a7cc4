-- A call on a part of a shape has a smaller measure: eight times the depth that is left, and a rank.
use Rattle.std.proofs.Common.{◌≡◌, ℕ, ◌+◌, ◌*◌, ◌<◌, ◌≤◌, min, List, length, Box, Global, ap, rules, arith}
use Rattle.std.specs.Prelude.{slice_index_or}
use denote.Param.Weighed.{most, at_most}
use Rattle.ar_value.specs.declared.shape.FieldShapes.{FieldShapes, out-FieldShapes}
use Rattle.ar_value.specs.declared.shape.Shape.{Shape, List as ListShape, Object, Optional, size-Shape, the_lemmas}

pub list_deeper : (item : Box Shape Global) (max : ℕ) → size-Shape item.value < size-Shape (ListShape item max)
list_deeper item max = search (rules, the_lemmas)

pub optional_deeper : (plain : Box Shape Global) → size-Shape plain.value < size-Shape (Optional plain)
optional_deeper plain = search (rules, the_lemmas)

pub object_deeper : (fields : FieldShapes) (shapes : List Shape) → shapes ≡ (out-FieldShapes fields).shapes.items → most size-Shape shapes < size-Shape (Object fields)
object_deeper fields shapes are = rw are (search (rules, the_lemmas))

pub part_below : (rank : ℕ) (part held whole made : Shape) (t : ℕ) → rank < 8 → part ≡ held → whole ≡ made → size-Shape held < size-Shape made
    → 8 * size-Shape whole ≡ t → 8 * size-Shape part + rank < t
part_below rank part held whole made t small is_part is deeper before =
    let same : size-Shape whole ≡ size-Shape made = ap size-Shape is in
    let same_part : size-Shape part ≡ size-Shape held = ap size-Shape is_part in
    omega arith

pub lower : (low high size t : ℕ) → low < high → 8 * size + high ≡ t → 8 * size + low < t
lower low high size t below before = omega arith

pub itself : (rank size t : ℕ) → 0 < rank → 8 * size + rank ≡ t → 8 * size < t
itself rank size t some before = omega arith

-- on all shapes of a record, and on one of them
pub parts_below : (rank size : ℕ) (whole made : Shape) (t : ℕ) → rank < 8 → whole ≡ made → size < size-Shape made → 8 * size-Shape whole ≡ t → 8 * size + rank < t
parts_below rank size whole made t small is deeper before =
    let same : size-Shape whole ≡ size-Shape made = ap size-Shape is in
    omega arith

pub one_of_all : (shapes : List Shape) (index : ℕ) (shape : Shape) (t : ℕ) → index < length shapes → shape ≡ slice_index_or shapes index shape
    → 8 * most size-Shape shapes + 1 ≡ t → 8 * size-Shape shape < t
one_of_all shapes index shape t inside is before =
    let within : size-Shape (slice_index_or shapes index shape) ≤ most size-Shape shapes = at_most size-Shape shapes index shape inside in
    let same : size-Shape shape ≡ size-Shape (slice_index_or shapes index shape) = ap size-Shape is in
    omega arith

pub before_end : (index end first other : ℕ) → index < end → end ≡ min first other → index < other
before_end index end first other before is = omega arith
