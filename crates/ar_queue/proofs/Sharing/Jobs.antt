-- A worker's job can be sent to a thread.
use mathlib.Core.List.{[], ◌∷◌}
use mir.Syntax.{Sym}
use denote.Builtin.{One}
use denote.RattleType.{RattleType}
use denote.Ref.{NamedLft}
use denote.Param.Send.{IsSend, IsSync, sendable}
use denote.Struct.Field.{shr_ref_field}
use denote.Struct.Tuple.{TupleAt}
use Rattle.std.proofs.Crossing.{crosses}
use Rattle.std.specs.contracts.alloc.Global as Global
use Rattle.std.below.core.specs.contracts.marker.ClosureMark as Mark

-- what a worker's job takes with it
module _ (name : Sym) (a b d e : NamedLft) (R B Q D P G X : RattleType) (ro : One R.mir) (bo : One B.mir) (qo : One Q.mir) (go : One G.mir) where
  pub job_send : IsSync R → IsSync B → IsSync Q → IsSend D → IsSend P → IsSync G
      → IsSend (TupleAt name ((shr_ref_field a R ro).row ∷ Global.the_row ∷ (shr_ref_field b B bo).row ∷ (shr_ref_field d Q qo).row ∷ D ∷ P ∷ (shr_ref_field e G go).row ∷ Mark.the_row X ∷ []))
  job_send r bu q desk p g = search (crosses, sendable) depth 40
