-- A stack in memory, and what ends on it.
use Rattle.std.proofs.Common.{◌≡◌, ℕ, zero, suc, ◌<◌, Some, true, false, List, [], ◌∷◌, ◌++◌, length, refl, ◌∙◌, ap, arith, length-append}
use Rattle.std.specs.Prelude.{slice_get}
use Rattle.ar_tree.specs.Expression.{Expression}
use Rattle.ar_syntax.specs.Machine.{Frame, RightOf, Prefixed, Else, Have, climbed, unwound}
use Rattle.ar_syntax.specs.Private.Frames.{closed_by, phrase_ended, ends, ends_below, frame_of, frames_of, top_ends, unwinds}
use Rattle.ar_syntax.specs.declared.climb.Reach.{Reach}
use Rattle.ar_syntax.specs.declared.climb.Reach.TheVariants.{Level, Ender}
use Rattle.ar_syntax.specs.declared.machine.Frame as rust

-- the newest frame is last in memory
pub frames_of-push : (stack : List rust.Frame) (frame : rust.Frame) → frames_of (stack ++ frame ∷ []) ≡ frame_of frame ∷ frames_of stack
frames_of-push [] frame = refl
frames_of-push (older ∷ stack) frame = ap (λ (frames : List Frame). frames ++ frame_of older ∷ []) (frames_of-push stack frame)

pub length-frames_of : (stack : List rust.Frame) → length (frames_of stack) ≡ length stack
length-frames_of [] = refl
length-frames_of (frame ∷ stack) = omega (arith, length-append (frames_of stack) (frame_of frame ∷ []), length-frames_of stack)

-- a frame that ends is replaced by what it expected
climbed-ended : (level : ℕ) (frame : Frame) (stack : List Frame) (tree : Expression) → ends_below level frame ≡ true → climbed level (frame ∷ stack) tree ≡ climbed level stack (closed_by frame tree)
climbed-ended level (RightOf at operator first) stack tree ends = rw ends refl
climbed-ended level (Prefixed at operator) stack tree ends = refl
climbed-ended level frame stack tree ends = absurd cc

-- where none ends, the operand stays
climbed-stays : (level : ℕ) (stack : List Frame) (tree : Expression) → top_ends (Level level) stack ≡ false → climbed level stack tree ≡ Have stack tree
climbed-stays level [] tree stays = refl
climbed-stays level (RightOf at operator first ∷ stack) tree stays = rw stays refl
climbed-stays level (Prefixed at operator ∷ stack) tree stays = absurd cc
climbed-stays level (frame ∷ stack) tree stays = refl

unwound-ended : (frame : Frame) (stack : List Frame) (tree : Expression) → unwinds frame ≡ true → unwound (frame ∷ stack) tree ≡ unwound stack (closed_by frame tree)
unwound-ended (RightOf at operator first) stack tree ends = refl
unwound-ended (Prefixed at operator) stack tree ends = refl
unwound-ended (Else at condition then_branch) stack tree ends = refl
unwound-ended frame stack tree ends = absurd cc

unwound-stays : (stack : List Frame) (tree : Expression) → top_ends Ender stack ≡ false → unwound stack tree ≡ Have stack tree
unwound-stays [] tree stays = refl
unwound-stays (RightOf at operator first ∷ stack) tree stays = absurd cc
unwound-stays (Prefixed at operator ∷ stack) tree stays = absurd cc
unwound-stays (Else at condition then_branch ∷ stack) tree stays = absurd cc
unwound-stays (frame ∷ stack) tree stays = refl

pub ended-ends : (reach : Reach) (frame : Frame) (stack : List Frame) (tree : Expression) → ends reach frame ≡ true → phrase_ended reach (frame ∷ stack) tree ≡ phrase_ended reach stack (closed_by frame tree)
ended-ends (Level level) frame stack tree is = climbed-ended level frame stack tree is
ended-ends Ender frame stack tree is = unwound-ended frame stack tree is

pub ended-stays : (reach : Reach) (stack : List Frame) (tree : Expression) → top_ends reach stack ≡ false → phrase_ended reach stack tree ≡ Have stack tree
ended-stays (Level level) stack tree stays = climbed-stays level stack tree stays
ended-stays Ender stack tree stays = unwound-stays stack tree stays

pub ruleset pops = (frames_of-push, length-frames_of)

top_ends-below : (reach : Reach) (stack : List Frame) (older : Frame) → 0 < length stack → top_ends reach (stack ++ older ∷ []) ≡ top_ends reach stack
top_ends-below reach [] older some = absurd (omega arith)
top_ends-below reach (frame ∷ stack) older some = refl

-- the last frame in memory is the newest
pub newest : (reach : Reach) (stack : List rust.Frame) (i : ℕ) (frame : rust.Frame) → suc i ≡ length stack → slice_get stack i ≡ Some frame → top_ends reach (frames_of stack) ≡ ends reach (frame_of frame)
newest reach [] i frame last e = absurd (omega (arith, last))
newest reach (first ∷ []) zero frame last e = let same : first ≡ frame = cc in ap (λ (f : rust.Frame). ends reach (frame_of f)) same
newest reach (first ∷ []) (suc i) frame last e = absurd (omega (arith, last))
newest reach (first ∷ second ∷ stack) zero frame last e = absurd (omega (arith, last))
newest reach (first ∷ second ∷ stack) (suc i) frame last e =
    top_ends-below reach (frames_of (second ∷ stack)) (frame_of first) (omega (arith, length-frames_of (second ∷ stack))) ∙ newest reach (second ∷ stack) i frame (omega (arith, last)) e
