-- What a stack in memory says, frame by frame from the oldest on.
use Rattle.std.proofs.Common.{◌≡◌, ℕ, zero, suc, ◌+◌, ◌-◌, ◌<◌, ◌≤◌, List, ◌∷◌, length, take, get_or, refl, sym, ◌∙◌, ap, arith}
use Rattle.std.specs.Prelude.{◌||◌, pred}
use Rattle.std.proofs.lemmas.List.{take_more, take_all}
use Rattle.std.proofs.Math.Bool.{or-true, or-false}
use Rattle.ar_syntax.specs.Machine.{Frame, RightOf, Body, Braced, in_predicate, openers_left}
use Rattle.ar_syntax.specs.Private.Frames.{frame_of, frames_of, is_predicate, openers}
use Rattle.ar_syntax.specs.declared.machine.Frame as rust
use Rattle.ar_syntax.proofs.Climbs.{frames_of-push}

inside-frame : (frame : Frame) (stack : List Frame) → in_predicate (frame ∷ stack) ≡ (in_predicate stack || is_predicate frame)
inside-frame (Body at function so_far) stack = sym (or-true (in_predicate stack))
inside-frame (Braced at function so_far) stack = sym (or-true (in_predicate stack))
inside-frame frame stack = sym (or-false (in_predicate stack))

minus_one : (n : ℕ) → pred n ≡ n - 1
minus_one zero = refl
minus_one (suc n) = omega arith

minus_two : (n : ℕ) → pred (pred n) ≡ n - 2
minus_two zero = refl
minus_two (suc zero) = refl
minus_two (suc (suc n)) = omega arith

left-frame : (frame : Frame) (stack : List Frame) → openers_left (frame ∷ stack) ≡ openers_left stack - openers frame
left-frame (RightOf at operator first) stack = omega arith
left-frame (Braced at function so_far) stack = minus_two (openers_left stack)
left-frame frame stack = minus_one (openers_left stack)

-- one frame more
pub inside-more : (stack : List rust.Frame) (i : ℕ) (d : rust.Frame) → i < length stack → in_predicate (frames_of (take (i + 1) stack)) ≡ (in_predicate (frames_of (take i stack)) || is_predicate (frame_of (get_or stack i d)))
inside-more stack i d below = ap (λ (frames : List rust.Frame). in_predicate (frames_of frames)) (take_more stack i d below) ∙ ap in_predicate (frames_of-push (take i stack) (get_or stack i d)) ∙ inside-frame (frame_of (get_or stack i d)) (frames_of (take i stack))

pub left-more : (stack : List rust.Frame) (i : ℕ) (d : rust.Frame) → i < length stack → openers_left (frames_of (take (i + 1) stack)) ≡ openers_left (frames_of (take i stack)) - openers (frame_of (get_or stack i d))
left-more stack i d below = ap (λ (frames : List rust.Frame). openers_left (frames_of frames)) (take_more stack i d below) ∙ ap openers_left (frames_of-push (take i stack) (get_or stack i d)) ∙ left-frame (frame_of (get_or stack i d)) (frames_of (take i stack))

-- all frames
pub inside-all : (stack : List rust.Frame) (i : ℕ) → length stack ≤ i → in_predicate (frames_of (take i stack)) ≡ in_predicate (frames_of stack)
inside-all stack i past = ap (λ (frames : List rust.Frame). in_predicate (frames_of frames)) (take_all i stack past)

pub left-all : (stack : List rust.Frame) (i : ℕ) → length stack ≤ i → openers_left (frames_of (take i stack)) ≡ openers_left (frames_of stack)
left-all stack i past = ap (λ (frames : List rust.Frame). openers_left (frames_of frames)) (take_all i stack past)

pub ruleset stacks = (inside-more, left-more, inside-all, left-all)
