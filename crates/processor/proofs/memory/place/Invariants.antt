use Rattle.std.proofs.Common.{◌≡◌, ◌≤◌}
use Rattle.processor.proofs.Laying.{Laying}
use Rattle.processor.proofs.memory.place.Given as goal

abbrev pub invariant-loop-i : goal.invariant-loop-i
invariant-loop-i g l = (g.P.Cpu.made l.cpu ≡ g.P.Cpu.made l.initial.cpu) × (g.P.Cpu.room l.initial.cpu ≤ g.P.Cpu.room l.cpu) × Laying (g.P.Cpu.state l.initial.cpu) (g.P.Cpu.state l.cpu) l.base l.i l.image
