use Rattle.std.proofs.Common.{◌+◌, ◌≤◌}
use Rattle.processor_bench.proofs.batch.Given as goal

abbrev pub invariant-loop-made : goal.invariant-loop-made
invariant-loop-made g l = 1000 ≤ g.P.Cpu.room l.cpu + l.made
