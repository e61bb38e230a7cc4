-- A step of the code, with that of the machine.
use Rattle.std.specs.Prelude.{◌≡◌, Bool, true, false, if◌then◌else◌, List, [], map, Option, Some, None, Result, Ok, Err, IfErr}
use Rattle.ar_tree.specs.Expression.{Expression}
use Rattle.ar_syntax.specs.Fault.{accepts, kind_fault}
use Rattle.ar_syntax.specs.Grammar.{Rules}
use Rattle.ar_syntax.specs.Machine.{Frame, ParserState, Want, Have, WantName, WantIndex, HaveText, WantIn, WantGroup, WantArgument, HaveArgument}
use Rattle.ar_syntax.specs.Condition.{at_any_depth, of_any_count, of_any_items, strict}
use Rattle.ar_syntax.specs.Roles.{EndGroup, Ends, Follow, Start, Leaf, Prefix, Group, Bracket, Calls, ItemPoint, NoStart}
use Rattle.ar_tree.specs.Views.{expression_of}
use Rattle.ar_syntax.specs.Private.Frames.{frames_of}
use Rattle.ar_syntax.specs.declared.machine.Frame as rust_frames
use Rattle.ar_syntax.specs.declared.error.SyntaxError.{SyntaxError}
use Rattle.ar_syntax.specs.declared.error.SyntaxError.TheVariants as errors
use Rattle.ar_syntax.specs.declared.error.SyntaxError.TheVariants.{TooDeep, TooManyItems, WrongCount}
use Rattle.ar_syntax.specs.declared.token.Token.{Token}
use Rattle.ar_syntax.specs.declared.start.Begin as begins
use Rattle.ar_syntax.specs.declared.start.Begin.TheVariants as begin
use Rattle.ar_syntax.specs.declared.state.State as rust
use Rattle.ar_syntax.specs.declared.state.State.TheVariants as states
use Rattle.ar_syntax.specs.declared.state.Refusal.{Refusal}
use Rattle.ar_syntax.specs.declared.state.Refusal.TheVariants.{Arguments, Items, Depth, Other, OutOfMemory}

-- what a state in memory says
abbrev pub state_of : List Frame → rust.State → ParserState
state_of stack states.Want = Want stack
state_of stack (states.Have tree) = Have stack (expression_of tree.value)
state_of stack (states.WantName at owner) = WantName stack at (expression_of owner.value)
state_of stack (states.WantIndex at owner) = WantIndex stack at (expression_of owner.value)
state_of stack (states.HaveText at owner text_at text) = HaveText stack at (expression_of owner.value) text_at text
state_of stack (states.WantIn at first) = WantIn stack at (expression_of first.value)
state_of stack (states.WantGroup at function) = WantGroup stack at function
state_of stack (states.WantArgument at function so_far) =
    WantArgument stack at function (map expression_of so_far.items)
state_of stack (states.HaveArgument at function arguments) =
    HaveArgument stack at function (map expression_of arguments.items)

-- the state that a stack and a state in memory say
abbrev pub at_state : List rust_frames.Frame → rust.State → ParserState
at_state frames state = state_of (frames_of frames) state

abbrev pub start_of : begins.Begin → Start
start_of (begin.Leaf tree) = Leaf (expression_of tree.value)
start_of (begin.Prefix operator) = Prefix operator
start_of begin.Group = Group
start_of begin.Bracket = Bracket
start_of (begin.Calls function) = Calls function
start_of begin.ItemPoint = ItemPoint
start_of begin.NoStart = NoStart

-- whether a token ends a call that has no argument
abbrev pub is_empty_call : List Expression → Follow → Bool
is_empty_call [] (Ends EndGroup) = true
is_empty_call so_far role = false

-- the limit that alone forbids a step, if one does
abbrev pub forbids : (Rules → Option ParserState) → Refusal
forbids steps =
    if accepts (steps of_any_count) then Arguments
    else (if accepts (steps of_any_items) then Items
    else (if accepts (steps at_any_depth) then Depth
    else Other))

-- a step leads to the machine's state, or is refused where the machine refuses it, by the same limit
abbrev pub Steps : (Rules → Option ParserState) → List Frame → Result rust.State Refusal → Type 0
Steps steps stack (Ok state) = steps strict ≡ Some (state_of stack state)
Steps steps stack (Err OutOfMemory) = Unit {0}
Steps steps stack (Err refusal) = (steps strict ≡ None) × (forbids steps ≡ refusal)

-- an operand is there, unless memory ran out
abbrev pub IsOperand : Expression → Result rust.State Refusal → Type 0
IsOperand tree result = (stack : List Frame) → Steps (λ rules. Some (Have stack tree)) stack result

abbrev pub is_want : Refusal → Bool
is_want OutOfMemory = true
is_want refusal = false

-- a step that takes no memory
abbrev pub StepsFreely : (Rules → Option ParserState) → List Frame → Result rust.State Refusal → Type 0
StepsFreely steps stack result = Steps steps stack result × IfErr result (λ refusal. is_want refusal ≡ false)

-- the refusal of a token, by the limit that alone forbids it or by its kind
abbrev pub fault_by : Refusal → Bool → Bool → Token → SyntaxError
fault_by Arguments wants inside token = WrongCount token.span.start
fault_by Items wants inside token = TooManyItems token.span.start
fault_by Depth wants inside token = TooDeep token.span.start
fault_by Other wants inside token = kind_fault wants inside token.kind token.span.start
fault_by OutOfMemory wants inside token = errors.OutOfMemory
