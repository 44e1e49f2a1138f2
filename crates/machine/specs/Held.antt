-- What the parts of a machine hold.
use Rattle.std.specs.Prelude.{ℕ, ◌-◌, List, map, length, take, drop}
use Rattle.processor.specs.Cpu.{all}
use Rattle.machine.specs.declared.stack.Stack.{Stack}
use Rattle.machine.specs.declared.log.Log.{Log}
use Rattle.machine.specs.declared.log.Shown.{Shown}
use Rattle.machine.specs.declared.log.Shown.TheVariants.{Number, Read}

-- a stack's words, newest first
abbrev pub held : Stack → List ℕ
held s = drop s.free s.items.now

-- how many more words a stack takes
abbrev pub free : Stack → ℕ
free s = s.free

-- what was shown, as the processor's definition has it: a word, or 2^64 where one was read
abbrev pub number : Shown → ℕ
number (Number x) = x
number Read = all

-- all that was shown, oldest first
abbrev pub logged : Log → List ℕ
logged l = map number (take l.len l.items.now)

-- how much more a log takes
abbrev pub unused : Log → ℕ
unused l = length l.items.now - l.len
