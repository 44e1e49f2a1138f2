-- The processor that a machine is.
use Rattle.std.specs.Prelude.{ℕ, min}
use Rattle.processor.specs.Cpu.{Processor}
use Rattle.machine.specs.declared.machine.Machine.{Machine}
use Rattle.machine.specs.Held.{held, free, logged, unused}

-- its state
abbrev pub state_of : Machine → Processor
state_of m = record { words = m.words.now; regs = m.regs.values; pc = m.pc; backs = held m.backs; pushed = held m.pushed; ins = m.ins.rest.now; outs = logged m.log }

-- how many steps and calls its rows have room for
abbrev pub room_of : Machine → ℕ
room_of m = min (free m.backs) (min (free m.pushed) (unused m.log))

-- how many steps it has made
abbrev pub made_of : Machine → ℕ
made_of m = m.made
