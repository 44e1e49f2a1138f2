-- One arm of a step.
use Rattle.std.specs.Prelude.{◌≡◌, ◌+◌, ◌<◌, ◌≤◌, length}
use Rattle.processor.specs.Cpu.{Processor, Did}
use Rattle.processor.specs.declared.Event.{Event}
use Rattle.machine.specs.declared.machine.Machine.{Machine}
use Rattle.machine.specs.Seen.{state_of, room_of, made_of}

-- a machine is at a word that is there, so that there is an address behind it
abbrev pub Here : Machine → Type 0
Here m = m.pc < length m.words.now

-- and has room for what an instruction keeps
abbrev pub Ready : Machine → Type 0
Ready m = Here m × (0 < room_of m)

-- machine m became n as f says: its state and the event told are f's, no step was counted, and at most one unit of room was used
pub record Took (m : Machine) (f : Processor → Did) (n : Machine) (e : Event) : Type 0 where
  pub cpu : state_of n ≡ (f (state_of m)).cpu
  pub tells : e ≡ (f (state_of m)).event
  pub made : made_of n ≡ made_of m
  pub room : room_of m ≤ room_of n + 1
