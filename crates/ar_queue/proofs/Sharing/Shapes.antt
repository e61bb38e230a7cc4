-- Shapes can be sent to other threads and shared between them, also those with several owners.
use mathlib.Core.Path.{subst}
use Prim.Native.Nat.{ℕ}
use base.Shift.{Keyless}
use mir.Val.{Val}
use mathlib.Core.List.{List}
use denote.Exit.{Kept}
use denote.RattleType.{RattleType}
use denote.Hole.FixSend.{Sends, Syncs, fix_send, fix_sync}
use denote.Param.Send.{Common, IsSend, Quiet, IsSync, sendable}
use denote.Param.SendFields.{as_row_send, as_row_sync, declared_send, declared_sync, variants_send, variants_sync}
use Rattle.std.proofs.Crossing.{crosses, Arc-send, Arc-sync, Box-send, Box-sync, Vec-send, Vec-sync}
use Rattle.ar_value.specs.contracts.shape.Shape as Shape
use Rattle.ar_value.specs.contracts.shape.Shape.TheKnot as knot
use Rattle.ar_value.specs.contracts.shared_shape.SharedShape as SharedShape
use Rattle.ar_value.specs.contracts.shared_shape.SharedShape.TheInside as SharedInside
use Rattle.ar_value.specs.contracts.text.Text as Text
use Rattle.ar_value.specs.contracts.names.Names as Names
use Rattle.ar_value.specs.contracts.names.Names.TheInside as NamesInside
use Rattle.ar_value.specs.contracts.shape.FieldShapes as FieldShapes

pub text_send : IsSend Text.the_row
text_send = search (crosses, sendable) depth 20

pub text_sync : IsSync Text.the_row
text_sync = search (crosses, sendable) depth 20

shape_layer : (R S : RattleType) → IsSync R → IsSync S → IsSync (knot.layer-Shape R S R)
shape_layer R S own fields = let box = Box-sync R own in variants_sync (knot.type-Shape R S R) (search (crosses, sendable, as_row_sync) depth 20)

shape_layer_send : (R S : RattleType) → IsSend R → IsSend S → IsSend (knot.layer-Shape R S R)
shape_layer_send R S own fields = let box = Box-send R own in variants_send (knot.type-Shape R S R) (search (crosses, sendable, as_row_send) depth 20)

pub names_sync : IsSync Names.the_row
names_sync =
    let texts = Arc-sync _ (Vec-send Text.the_row text_send) (Vec-sync Text.the_row text_sync) in
    let inside : IsSync NamesInside.the_row = declared_sync NamesInside.the_type (texts, (search (crosses, sendable), tt)) in search sendable

pub names_send : IsSend Names.the_row
names_send =
    let texts = Arc-send _ (Vec-send Text.the_row text_send) (Vec-sync Text.the_row text_sync) in
    let inside : IsSend NamesInside.the_row = declared_send NamesInside.the_type (texts, (search (crosses, sendable), tt)) in search sendable

fields_layer : (R : RattleType) → IsSync R → IsSync (knot.layer-FieldShapes R)
fields_layer R own = let names = names_sync in declared_sync (knot.type-FieldShapes R) (search (crosses, sendable) depth 20)

fields_layer_send : (R : RattleType) → IsSend R → IsSend (knot.layer-FieldShapes R)
fields_layer_send R own = let names = names_send in declared_send (knot.type-FieldShapes R) (search (crosses, sendable) depth 20)

shape_layers : (i : knot.the_members) → Sends Shape.the_ring i
shape_layers = Shape.by_members (Sends Shape.the_ring)
    record { send = λ h all. shape_layer_send (h knot.member-Shape) (h knot.member-FieldShapes) (all knot.member-Shape) (all knot.member-FieldShapes) }
    record { send = λ h all. fields_layer_send (h knot.member-Shape) (all knot.member-Shape) }

shape_hole : IsSend knot.hole-Shape
shape_hole = fix_send Shape.the_ring shape_layers knot.member-Shape

fields_hole : IsSend knot.hole-FieldShapes
fields_hole = fix_send Shape.the_ring shape_layers knot.member-FieldShapes

fields_leaving : (k : Kept) → Quiet ((FieldShapes.the_row).exit k)
fields_leaving = let shape = shape_hole in let names = names_send in (declared_send FieldShapes.the_type (search (crosses, sendable) depth 20)).leaving

fields_send : IsSend FieldShapes.the_row
fields_send = record { owned = λ d vs. subst (λ own. (vs : List Val) → Keyless (own vs)) (FieldShapes.own_is d) (fields_hole.owned d) vs; leaving = fields_leaving }

shape_leaving : (k : Kept) → Quiet ((Shape.the_row).exit k)
shape_leaving = let shape = shape_hole in let box = Box-send knot.hole-Shape shape in let fields = fields_send in (variants_send Shape.enum (search (crosses, sendable, as_row_send) depth 20)).leaving

shape_send : IsSend Shape.the_row
shape_send = record { owned = λ d vs. subst (λ own. (vs : List Val) → Keyless (own vs)) (Shape.own_is d) (shape_hole.owned d) vs; leaving = shape_leaving }

shape_sync_layers : (i : knot.the_members) → Syncs Shape.the_ring i
shape_sync_layers = Shape.by_members (Syncs Shape.the_ring)
    record { sync = λ h all. record { shared = (shape_layer (h knot.member-Shape) (h knot.member-FieldShapes) (all knot.member-Shape) (all knot.member-FieldShapes)).shared } }
    record { sync = λ h all. record { shared = (fields_layer (h knot.member-Shape) (all knot.member-Shape)).shared } }

shape_sync_hole : IsSync knot.hole-Shape
shape_sync_hole = record { shared = (fix_sync Shape.the_ring shape_sync_layers knot.member-Shape).shared }

shape_sync : IsSync Shape.the_row
shape_sync = record { shared = λ d b o κ. subst (λ shr. (b o : ℕ) → Common (shr b o)) (Shape.shr_is d) (shape_sync_hole.shared d) b o κ }

pub shared_shape_sync : IsSync SharedShape.the_row
shared_shape_sync = let inside : IsSync SharedInside.the_row = declared_sync SharedInside.the_type (Arc-sync Shape.the_row shape_send shape_sync, tt) in search sendable

pub shared_shape_send : IsSend SharedShape.the_row
shared_shape_send = let inside : IsSend SharedInside.the_row = declared_send SharedInside.the_type (Arc-send Shape.the_row shape_send shape_sync, tt) in search sendable
