-- Words laid down from an address on.
use Rattle.std.specs.Prelude.{ℕ, suc, List, [], ◌∷◌, slice_set}
use Rattle.processor.specs.Cpu.{Processor}

-- the words xs at address a and behind it
abbrev pub laid : List ℕ → ℕ → List ℕ → List ℕ
laid ws a [] = ws
laid ws a (x ∷ xs) = laid (slice_set ws a x) (suc a) xs

-- the processor with other words
abbrev pub with_words : Processor → List ℕ → Processor
with_words c ws = record { words = ws; regs = c.regs; pc = c.pc; backs = c.backs; pushed = c.pushed; ins = c.ins; outs = c.outs }
