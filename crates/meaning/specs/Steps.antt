-- What each instruction does, and a step.
use Rattle.std.specs.List.{list_any}
use Rattle.std.specs.Prelude.{ℕ, ◌+◌, ◌%◌, Bool, true, false, not, ◌&&◌, List, [], ◌∷◌, ◌++◌, length, drop, ◌==◌, None, Option, Some, cond, slice_get, slice_set}
use Rattle.base.specs.Choices.{opt, on_some}
use Rattle.base.specs.Names.{Name}
use Rattle.library.specs.Library.{Symbol, Instruction, Set, Get, Sto, Own, Add, Sub, Mul, Less, Same, Move, Jump, If0, Call, Callr, Ret, Push, Pop, Out, In, Open, Find, Close, End, Library}
use Rattle.links.specs.Links.{Place, place_at, Links, Room}
use Rattle.links.specs.Scope.{resolve}
use Rattle.links.specs.Load.{load}
use Rattle.links.specs.Close.{leaving, close_group, fini_calls, is_open, found_in, slot_bound}
use Rattle.meaning.specs.State.{Value, num, place, Held, val, link, label, code, gives, drops, ends, stops, Frame, back, pending, State, Next, goes, ended, lost, wrong, all, with_core, with_links, moved, held_at, place_of, loaded}
use Rattle.meaning.specs.Calls.{at_pc, ending, returns, calls_all}
use Rattle.meaning.specs.Values.{on_num, on_val, reg, behind, next, sets, plus, minus, below, equal, times}

-- r gets what f makes of the registers a and b
abbrev pub two : State → ℕ → ℕ → ℕ → (Value → Value → Option Value) → Next
two s r a b f = on_val s (reg s a) (λ x. on_val s (reg s b) (λ y. on_val s (f x y) (sets s r)))

-- the value of a cell that holds one
abbrev pub is_val : Held → Option Value
is_val (val v) = Some v
is_val (link y o) = None
is_val (label x) = None
is_val (code o) = None

-- the value k cells behind a place
abbrev pub value_at : State → Value → ℕ → Option Value
value_at s (num n) k = None
value_at s (place i c) k = on_some (held_at s i (c + k)) is_val

-- h in the cell k of the module i
abbrev pub put_cell : List (List Held) → ℕ → ℕ → Held → List (List Held)
put_cell css i k h = opt (slice_get css i) css (λ hs. slice_set css i (slice_set hs k h))

-- v into the cell k behind a place, if that holds a value
abbrev pub write_at : State → Value → ℕ → Value → Option State
write_at s (num n) k v = None
write_at s (place i c) k v = on_some (value_at s (place i c) k) (λ old. Some (with_links s s.links (put_cell s.cells i (c + k) (val v))))

-- going on at an own cell
abbrev pub to_cell : State → ℕ → Next
to_cell s k = goes (at_pc s (place_at s.core.here.host k))

-- a call of p, to come back behind this instruction
abbrev pub pushes : State → Place → Next
pushes s p = goes (moved s s.core.regs p (back (behind s.core.here) ∷ s.core.frames))

-- a call of a value, which must be a place
abbrev pub calls_place : State → Value → Next
calls_place s (num n) = wrong s
calls_place s (place i k) = pushes s (place_at i k)

-- the slot k is settled to p, and p is called
abbrev pub binds_to : State → ℕ → Symbol → Place → Next
binds_to s k y p = pushes (with_links s (slot_bound s.links s.core.here.host k p) (put_cell s.cells s.core.here.host k (link y (Some (place p.host p.cell))))) p

-- a call through the slot k; one not settled yet is settled now, and where its symbol means nothing the program is lost
abbrev pub calls_through : State → ℕ → Option Held → Next
calls_through s k None = wrong s
calls_through s k (Some (val v)) = wrong s
calls_through s k (Some (link y (Some v))) = calls_place s v
calls_through s k (Some (link y None)) = opt (resolve s.links s.core.here.host y) (lost s) (binds_to s k y)
calls_through s k (Some (label x)) = wrong s
calls_through s k (Some (code o)) = wrong s

-- the name that a cell holds; what holds none has no meaning
abbrev pub on_label : State → Option Held → (Name → Next) → Next
on_label s None f = wrong s
on_label s (Some (val v)) f = wrong s
on_label s (Some (link y o)) f = wrong s
on_label s (Some (label x)) f = f x
on_label s (Some (code o)) f = wrong s

-- r gets the number of the new group, once its inits are through; 0 if it cannot be loaded, and then nothing is changed
abbrev pub opens : List Library → Room → State → ℕ → Bool → Name → Next
opens ls m s r global x = opt (load ls m x global s.links) (sets s r (num 0)) (λ l. calls_all (loaded s l) l.calls (gives r (num (length s.links.groups)) (behind s.core.here)))

-- r gets the place that the name has in the group h, or 0
abbrev pub finds : State → ℕ → ℕ → Name → Next
finds s r h x = sets s r (place_of (found_in s.links h x) 0)

-- finis of a close are pending here
abbrev pub is_drops : Frame → Bool
is_drops (back p) = false
is_drops (pending ps (gives r v p)) = false
is_drops (pending ps (drops js r p)) = true
is_drops (pending ps (ends r)) = false
is_drops (pending ps (stops n)) = false

-- finis of a close are being called
abbrev pub closing : List Frame → Bool
closing fs = list_any is_drops fs

-- a group that isn't closed, and not 0, while no finis of a close are called
abbrev pub may_close : State → ℕ → Bool
may_close s h = not (h == 0) && (is_open s.links h && not (closing s.core.frames))

-- finis of what leaves are pending; then what still leaves goes, and r is 1
abbrev pub closes_it : State → ℕ → Links → Next
closes_it s r k = calls_all (with_links s k s.cells) (fini_calls k (leaving k)) (drops (leaving k) r (behind s.core.here))

-- a close of the group h; 0 in r where it may not be closed
abbrev pub closes : State → ℕ → ℕ → Next
closes s r h = cond (may_close s h) (closes_it s r (close_group s.links h)) (sets s r (num 0))

-- what an own cell holds
abbrev pub own : State → ℕ → Option Held
own s k = held_at s s.core.here.host k

-- other values pushed
abbrev pub with_pushed : State → List Value → State
with_pushed s vs = with_core s (record { regs = s.core.regs; here = s.core.here; frames = s.core.frames; pushed = vs })

-- the value pushed last goes to r; with none there is no meaning
abbrev pub pops : State → ℕ → List Value → Next
pops s r [] = wrong s
pops s r (v ∷ vs) = sets (with_pushed s vs) r v

-- the next number there is to read, or 0
abbrev pub first_in : List ℕ → ℕ
first_in [] = 0
first_in (n ∷ ns) = n % all

-- o is shown, is are left to read
abbrev pub showing : State → List ℕ → ℕ → State
showing s is o = record { links = s.links; cells = s.cells; core = s.core; ins = is; outs = s.outs ++ (o ∷ []) }

-- whether it is 0; a place never is
abbrev pub zero_is : Value → Bool
zero_is (num n) = n == 0
zero_is (place i c) = false

-- what an instruction does
abbrev pub does : List Library → Room → State → Instruction → Next
does ls m s (Set r n) = sets s r (num n)
does ls m s (Get r a k) = on_val s (reg s a) (λ p. on_val s (value_at s p k) (sets s r))
does ls m s (Sto a k r) = on_val s (reg s a) (λ p. on_val s (reg s r) (λ v. opt (write_at s p k v) (wrong s) (λ t. goes (next t))))
does ls m s (Own r k) = sets s r (place s.core.here.host k)
does ls m s (Add r a b) = two s r a b (plus s)
does ls m s (Sub r a b) = two s r a b (minus s)
does ls m s (Mul r a b) = two s r a b times
does ls m s (Less r a b) = two s r a b below
does ls m s (Same r a b) = two s r a b equal
does ls m s (Move r a) = on_val s (reg s a) (sets s r)
does ls m s (Jump k) = to_cell s k
does ls m s (If0 r k) = on_val s (reg s r) (λ v. cond (zero_is v) (to_cell s k) (goes (next s)))
does ls m s (Call k) = calls_through s k (own s k)
does ls m s (Callr r) = on_val s (reg s r) (calls_place s)
does ls m s Ret = returns s s.core.frames
does ls m s (Push r) = on_val s (reg s r) (λ v. goes (next (with_pushed s (v ∷ s.core.pushed))))
does ls m s (Pop r) = pops s r s.core.pushed
does ls m s (Out r) = on_num s (reg s r) (λ n. goes (next (showing s s.ins n)))
does ls m s (In r) = sets (showing s (drop 1 s.ins) all) r (num (first_in s.ins))
does ls m s (Open r k global) = on_label s (own s k) (opens ls m s r global)
does ls m s (Find r a k) = on_num s (reg s a) (λ h. on_label s (own s k) (finds s r h))
does ls m s (Close r) = on_num s (reg s r) (closes s r)
does ls m s (End r) = on_num s (reg s r) (λ n. goes (ending s n))

-- the instruction that a cell holds; what holds none has no meaning
abbrev pub here_code : Option Held → (Instruction → Next) → Next → Next
here_code None f e = e
here_code (Some (val v)) f e = e
here_code (Some (link y o)) f e = e
here_code (Some (label x)) f e = e
here_code (Some (code o)) f e = f o

-- one step: between pending calls to the next of them, else the instruction here
abbrev pub step : List Library → Room → State → Next
step ls m s = cond (s.core.here.cell == 8589934592) (returns s s.core.frames) (here_code (own s s.core.here.cell) (does ls m s) (wrong s))

-- the next step, if the program goes on
abbrev pub then : Next → (State → Next) → Next
then (goes s) f = f s
then (ended n s) f = ended n s
then (lost s) f = lost s
then (wrong s) f = wrong s
