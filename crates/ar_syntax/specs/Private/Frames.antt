-- What the stack in memory says of what is begun and not ended.
use Rattle.std.specs.Prelude.{ℕ, Bool, true, false, nat_le, map, List, [], ◌∷◌, ◌++◌}
use Rattle.ar_tree.specs.Expression.{Expression, UnaryAt, BinaryAt, ChoiceAt}
use Rattle.ar_syntax.specs.Machine.{Frame, ParserState, climbed, unwound, RightOf, Prefixed, Then, Else, Grouped, Listed, Indexed, Argued, Body, Braced}
use Rattle.ar_syntax.specs.Roles.{precedence}
use Rattle.ar_tree.specs.Views.{expression_of}
use Rattle.ar_syntax.specs.declared.climb.Reach.{Reach}
use Rattle.ar_syntax.specs.declared.climb.Reach.TheVariants.{Level, Ender}
use Rattle.ar_syntax.specs.declared.machine.Frame as rust
use Rattle.ar_syntax.specs.declared.machine.Frame.TheVariants as frames

-- what a frame in memory waits for
abbrev pub frame_of : rust.Frame → Frame
frame_of (frames.RightOf at operator first) = RightOf at operator (expression_of first.value)
frame_of (frames.Prefixed at operator) = Prefixed at operator
frame_of (frames.Then at condition) = Then at (expression_of condition.value)
frame_of (frames.Else at condition then_branch) =
    Else at (expression_of condition.value) (expression_of then_branch.value)
frame_of frames.Grouped = Grouped
frame_of (frames.Listed at so_far) = Listed at (map expression_of so_far.items)
frame_of (frames.Indexed at list) = Indexed at (expression_of list.value)
frame_of (frames.Argued at function so_far) = Argued at function (map expression_of so_far.items)
frame_of (frames.Body at function so_far) = Body at function (map expression_of so_far.items)
frame_of (frames.Braced at function so_far) = Braced at function (map expression_of so_far.items)

-- the stack with its newest frame first
abbrev pub frames_of : List rust.Frame → List Frame
frames_of [] = []
frames_of (frame ∷ newer) = frames_of newer ++ frame_of frame ∷ []

-- whether a frame ends with an operand, up to a level
abbrev pub ends_below : ℕ → Frame → Bool
ends_below level (RightOf at operator first) = nat_le (precedence operator) level
ends_below level (Prefixed at operator) = true
ends_below level frame = false

-- the tree of a phrase that ends with an operand
abbrev pub closed_by : Frame → Expression → Expression
closed_by (RightOf at operator first) tree = BinaryAt at operator first tree
closed_by (Prefixed at operator) tree = UnaryAt at operator tree
closed_by (Else at condition then_branch) tree = ChoiceAt at condition then_branch tree
closed_by frame tree = tree

-- whether a frame ends before a closing sign, a comma or a colon
abbrev pub unwinds : Frame → Bool
unwinds (RightOf at operator first) = true
unwinds (Prefixed at operator) = true
unwinds (Else at condition then_branch) = true
unwinds frame = false

-- whether a frame ends with an operand, that far
abbrev pub ends : Reach → Frame → Bool
ends (Level level) frame = ends_below level frame
ends Ender frame = unwinds frame

abbrev pub top_ends : Reach → List Frame → Bool
top_ends reach [] = false
top_ends reach (frame ∷ stack) = ends reach frame

-- the phrases end with an operand, that far
abbrev pub phrase_ended : Reach → List Frame → Expression → ParserState
phrase_ended (Level level) stack tree = climbed level stack tree
phrase_ended Ender stack tree = unwound stack tree

-- whether what a frame waits for is a predicate
abbrev pub is_predicate : Frame → Bool
is_predicate (Body at function so_far) = true
is_predicate (Braced at function so_far) = true
is_predicate frame = false

-- how many openers a frame keeps unfinished
abbrev pub openers : Frame → ℕ
openers (RightOf at operator first) = 0
openers (Braced at function so_far) = 2
openers frame = 1
