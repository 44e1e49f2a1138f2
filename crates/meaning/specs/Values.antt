-- Registers, and arithmetic on values.
use Rattle.std.specs.Prelude.{ℕ, suc, ◌+◌, ◌-◌, ◌*◌, ◌%◌, Bool, ◌&&◌, length, ◌==◌, nat_le, nat_lt, None, Option, Some, cond, slice_get}
use Rattle.base.specs.Choices.{on_some, guard}
use Rattle.links.specs.Links.{Place, place_at}
use Rattle.meaning.specs.State.{Value, num, place, State, Next, goes, wrong, all}
use Rattle.meaning.specs.Calls.{set_reg, at_pc}

-- with a number; none or a place has no meaning
abbrev pub on_num : State → Option Value → (ℕ → Next) → Next
on_num s None f = wrong s
on_num s (Some (num n)) f = f n
on_num s (Some (place i k)) f = wrong s

-- with a value; none has no meaning
abbrev pub on_val : State → Option Value → (Value → Next) → Next
on_val s None f = wrong s
on_val s (Some v) f = f v

-- what the register r holds
abbrev pub reg : State → ℕ → Option Value
reg s r = slice_get s.core.regs r

-- one cell on
abbrev pub behind : Place → Place
behind p = place_at p.host (suc p.cell)

-- going on behind this instruction
abbrev pub next : State → State
next s = at_pc s (behind s.core.here)

-- v goes to r, and on
abbrev pub sets : State → ℕ → Value → Next
sets s r v = goes (next (set_reg s r v))

-- from here on a number counts backward
abbrev pub half : ℕ
half = 9223372036854775808

-- how many cells the module i has, live or gone
abbrev pub size_of : State → ℕ → Option ℕ
size_of s i = on_some (slice_get s.links.modules i) (λ x. Some (length x.lib.cells))

-- n cells on from the cell k of the module i, n with a sign: from its first cell up to one behind its last
abbrev pub moves : State → ℕ → ℕ → ℕ → Option Value
moves s i k n = on_some (size_of s i) (λ z. cond (nat_lt n half) (guard (nat_le (k + n) z) (Some (place i (k + n)))) (guard (nat_le (all - n) k && nat_le (k - (all - n)) z) (Some (place i (k - (all - n))))))

-- numbers modulo 2^64; a place and a number make a place
abbrev pub plus : State → Value → Value → Option Value
plus s (num x) (num y) = Some (num ((x + y) % all))
plus s (num x) (place i k) = moves s i k x
plus s (place i k) (num y) = moves s i k y
plus s (place i k) (place j l) = None

-- numbers modulo 2^64; a place less a number is a place, and two places of one module make a number
abbrev pub minus : State → Value → Value → Option Value
minus s (num x) (num y) = Some (num (((x + all) - y) % all))
minus s (num x) (place i k) = None
minus s (place i k) (num y) = moves s i k ((all - y) % all)
minus s (place i k) (place j l) = guard (i == j) (Some (num (((k + all) - l) % all)))

-- 1 or 0
abbrev pub bit : Bool → Value
bit b = num (cond b 1 0)

-- numbers compare, and places of one module do
abbrev pub below : Value → Value → Option Value
below (num x) (num y) = Some (bit (nat_lt x y))
below (num x) (place i k) = None
below (place i k) (num y) = None
below (place i k) (place j l) = guard (i == j) (Some (bit (nat_lt k l)))

-- the same; a place and 0 differ
abbrev pub equal : Value → Value → Option Value
equal (num x) (num y) = Some (bit (x == y))
equal (num x) (place i k) = guard (x == 0) (Some (num 0))
equal (place i k) (num y) = guard (y == 0) (Some (num 0))
equal (place i k) (place j l) = guard (i == j) (Some (bit (k == l)))

-- numbers alone, modulo 2^64
abbrev pub times : Value → Value → Option Value
times (num x) (num y) = Some (num ((x * y) % all))
times (num x) (place i k) = None
times (place i k) v = None
